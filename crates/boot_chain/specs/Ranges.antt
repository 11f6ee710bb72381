-- Ranges claimed out of a list of ranges.
use Rattle.std.specs.Prelude.{◌≡◌, ◌==◌, ◌&&◌, ⊤, ◌⊎◌, List, [], ◌∷◌, drop, Bool, false, if◌then◌else◌}
use Rattle.boot_chain.specs.declared.range.Range.{Range}

-- whether two ranges are one
abbrev pub range_eq : Range → Range → Bool
range_eq a b = (a.ns == b.ns && a.from == b.from) && a.to == b.to

-- whether a list of ranges begins with this one
abbrev pub is_first : List Range → Range → Bool
is_first [] r = false
is_first (x ∷ xs) r = range_eq x r

-- the first list has some elements of the second, each at most as often, in the order in which they stand there
abbrev pub IsSublist : List Range → List Range → Type 0
IsSublist [] ys = ⊤
IsSublist (x ∷ xs) [] = ⊥
IsSublist (x ∷ xs) (y ∷ ys) = ((x ≡ y) × IsSublist xs ys) ⊎ IsSublist (x ∷ xs) ys

-- what a claim leaves of the ranges asked for, in their order: each claimed range is taken at the first position where it can be
abbrev pub left_of : List Range → List Range → List Range
left_of [] claimed = []
left_of (r ∷ asked) claimed = if is_first claimed r then left_of asked (drop 1 claimed) else r ∷ left_of asked claimed
