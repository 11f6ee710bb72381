-- Rows in the order of their identifiers.
use Rattle.std.proofs.Common.{◌≡◌, ◌⊎◌, inl, inr, ℕ, ◌==◌, Bool, true, false, not, List, [], ◌∷◌, ◌++◌, refl, sym, ap, subst, ◌∙◌}
use Rattle.std.specs.Ordering.{nat_cmp, ordering_reverse, ordering_index}
use Rattle.std.specs.FinMap.{nat_cmp-IsAntisymmetric, slice_cmp-IsAntisymmetric}
use Rattle.std.specs.Cmp.Lexicographic.{slice_cmp, nat_list_cmp_total}
use Rattle.std.specs.declared.cmp.Ordering.{Ordering}
use Rattle.std.specs.declared.cmp.Ordering.TheVariants.{Less, Equal, Greater}
use Rattle.wire_bytes.specs.m3_model.Ascends.{Ascends}
use Rattle.wire_bytes.specs.m3_model.Members.{IsIn}
use Rattle.wire_bytes.specs.m3_model.Tags.{IsBelow}
use Rattle.wire_bytes.specs.m3_model.declared.point.Series.{Series}

pub same_text : (a b : List ℕ) → slice_cmp nat_cmp a b ≡ Equal → a ≡ b
same_text a b e = slice_cmp-IsAntisymmetric nat_cmp-IsAntisymmetric a b e

pub below_trans : (a b c : List ℕ) → IsBelow a b → IsBelow b c → IsBelow a c
below_trans a b c = nat_list_cmp_total.trans a b c

pub not_below_itself : (a b : List ℕ) → IsBelow a b → ¬ (b ≡ a)
not_below_itself a b h same =
    let itself : IsBelow a a = subst (λ (c : List ℕ). IsBelow a c) same h in
    let turned : slice_cmp nat_cmp a a ≡ Greater = nat_list_cmp_total.antisymm a a ∙ ap ordering_reverse itself in
    cc

pub not_above_itself : (a b : List ℕ) → slice_cmp nat_cmp a b ≡ Greater → ¬ (b ≡ a)
not_above_itself a b h same = not_below_itself b a (nat_list_cmp_total.antisymm b a ∙ ap ordering_reverse h) (sym same)

-- what isn't below is reached
pub reached : (a b : List ℕ) → ¬ IsBelow a b → (b ≡ a) ⊎ IsBelow b a
reached a b other = by (slice_cmp nat_cmp a b) refl
  where
    by : (o : Ordering) → slice_cmp nat_cmp a b ≡ o → (b ≡ a) ⊎ IsBelow b a
    by Less is = absurd (other is)
    by Equal is = inl (sym (same_text a b is))
    by Greater is = inr (nat_list_cmp_total.antisymm b a ∙ ap ordering_reverse is)

pub below_reached : (a b c : List ℕ) → IsBelow a b → ¬ IsBelow c b → IsBelow a c
below_reached a b c h other = by (reached c b other)
  where
    by : (b ≡ c) ⊎ IsBelow b c → IsBelow a c
    by (inl same) = subst (λ (d : List ℕ). IsBelow a d) same h
    by (inr more) = below_trans a b c h more

-- what `==` with `Less` tells
pub is_less : (o : Ordering) (b : Bool) → b ≡ (ordering_index o == 0) → b ≡ true → o ≡ Less
is_less Less b is one = refl
is_less Equal b is one = absurd (cc)
is_less Greater b is one = absurd (cc)

pub isnt_less : (o : Ordering) (b : Bool) → b ≡ (ordering_index o == 0) → b ≡ false → ¬ (o ≡ Less)
isnt_less o b is not less =
    let one : b ≡ true = is ∙ ap (λ (p : Ordering). ordering_index p == 0) less in
    cc

-- what `!=` with `Less` tells
pub isnt_below : (o : Ordering) (b : Bool) → b ≡ not (ordering_index o == 0) → b ≡ true → ¬ (o ≡ Less)
isnt_below o b is one less =
    let none : b ≡ false = is ∙ ap (λ (p : Ordering). not (ordering_index p == 0)) less in
    cc

pub stays_below : (o : Ordering) (b : Bool) → b ≡ not (ordering_index o == 0) → b ≡ false → o ≡ Less
stays_below Less b is none = refl
stays_below Equal b is none = absurd (cc)
stays_below Greater b is none = absurd (cc)

-- the order of rows
abbrev pub Before : Series → Series → Type 0
Before a b = IsBelow a.id b.id

pub ascends_later : (xs ys : List Series) → Ascends Before (xs ++ ys) → Ascends Before ys
ascends_later [] ys asc = asc
ascends_later (x ∷ xs) ys asc = ascends_later xs ys asc.1

pub ascends_before : (xs : List Series) (y : Series) (ys : List Series) → Ascends Before (xs ++ y ∷ ys) → (x : Series) → IsIn xs x → Before x y
ascends_before [] y ys asc x m = absurd m
ascends_before (z ∷ xs) y ys asc x (inl is) = subst (λ (w : Series). Before w y) is (asc.0 y (is_in xs))
  where
    is_in : (l : List Series) → IsIn (l ++ y ∷ ys) y
    is_in [] = inl refl
    is_in (w ∷ l) = inr (is_in l)
ascends_before (z ∷ xs) y ys asc x (inr m) = ascends_before xs y ys asc.1 x m

-- all rows from one on that is above an identifier are above it
pub above_from : (id : List ℕ) (xs : List Series) (y : Series) (ys : List Series) → Ascends Before (xs ++ y ∷ ys) → IsBelow id y.id → (s : Series) → IsIn (y ∷ ys) s → IsBelow id s.id
above_from id xs y ys asc h s (inl is) = subst (λ (w : Series). IsBelow id w.id) is h
above_from id xs y ys asc h s (inr m) = below_trans id y.id s.id h ((ascends_later xs (y ∷ ys) asc).0 s m)
