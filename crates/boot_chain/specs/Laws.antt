-- What is so of claims.
use Rattle.std.specs.Prelude.{◌≡◌, List, [], ◌++◌, IsPermutation}
use Rattle.boot_chain.specs.Ranges.{IsSublist, left_of}
use Rattle.boot_chain.specs.declared.range.Range.{Range}

-- a claim and what it leaves are the ranges asked for, in another order
abbrev pub ClaimsApart : Type 0
ClaimsApart = (asked claimed : List Range) → IsSublist claimed asked → IsPermutation asked (claimed ++ left_of asked claimed)

-- what a claim leaves stands in its order
abbrev pub InOrder : Type 0
InOrder = (asked claimed : List Range) → IsSublist (left_of asked claimed) asked

-- a claim of everything leaves nothing, and one of nothing everything
abbrev pub KeepsRest : Type 0
KeepsRest = (asked : List Range) → (left_of asked asked ≡ []) × (left_of asked [] ≡ asked)
