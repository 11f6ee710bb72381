-- Lists in strict order, by their neighbours.
use Rattle.std.proofs.Common.{◌≡◌, ◌⊎◌, inl, inr, ⊎_elim, ℕ, zero, suc, ◌+◌, ◌-◌, ◌<◌, ◌≤◌, List, [], ◌∷◌, ◌++◌, length, take, get_or, refl, sym, ap, subst, ◌∙◌, arith}
use Rattle.std.proofs.lemmas.List.{take_more, get_or_default}
use Rattle.fileset_check.specs.m3_model.Ascends.{Ascends}
use Rattle.fileset_check.specs.m3_model.Contents.{key_of}
use Rattle.fileset_check.specs.m3_model.Keys.{key_cmp_total}
use Rattle.fileset_check.specs.m3_model.Members.{IsIn}
use Rattle.fileset_check.specs.m3_model.declared.point.Point.{Point}
use Rattle.fileset_check.proofs.m3_model_proofs.MemberLemmas.{IsIn-append_cases}
use Rattle.fileset_check.proofs.m3_model_proofs.Lists.{IsIn-get_or}
use Rattle.snapshot_files.specs.Snaps.{IsBefore}

module _ {X : Type 0} (R : X → X → Type 0) where
  -- one more, above all
  push : (xs : List X) (y : X) → Ascends R xs → ((x : X) → IsIn xs x → R x y) → Ascends R (xs ++ y ∷ [])
  push [] y up below = ((λ z none. absurd none), tt)
  push (x ∷ xs) y up below = (
    (λ z m. ⊎_elim (λ (old : IsIn xs z). up.0 z old) (λ (new : (y ≡ z) ⊎ ⊥). ⊎_elim (λ (e : y ≡ z). subst (R x) e (below x (inl refl))) (λ (none : ⊥). absurd none) new) (IsIn-append_cases xs (y ∷ []) z m)),
    push xs y up.1 (λ z m. below z (inr m)),
  )

  -- all before the last are below it
  below_last : (xs : List X) (y : X) → Ascends R (xs ++ y ∷ []) → (x : X) → IsIn xs x → R x y
  below_last [] y up x m = absurd m
  below_last (z ∷ xs) y up x (inl e) = subst (λ w. R w y) e (up.0 y (last xs))
    where
      last : (l : List X) → IsIn (l ++ y ∷ []) y
      last [] = inl refl
      last (w ∷ l) = inr (last l)
  below_last (z ∷ xs) y up x (inr m) = below_last xs y up.1 x m

  -- the first i ascend, and the next one is above the last of these
  ascends_more : ((x y z : X) → R x y → R y z → R x z) → (xs : List X) (i : ℕ) (d : X) → i < length xs → 1 ≤ i → Ascends R (take i xs) → R (get_or xs (i - 1) d) (get_or xs i d) → Ascends R (take (i + 1) xs)
  ascends_more through xs i d lt some up next =
      let back : i - 1 + 1 ≡ i = omega (arith, some) in
      let front : take i xs ≡ take (i - 1) xs ++ get_or xs (i - 1) d ∷ [] = ap (λ (n : ℕ). take n xs) (sym back) ∙ take_more xs (i - 1) d (omega (arith, lt, some)) in
      let up2 : Ascends R (take (i - 1) xs ++ get_or xs (i - 1) d ∷ []) = subst (Ascends R) front up in
      subst (Ascends R) (sym (take_more xs i d lt))
      (push (take i xs) (get_or xs i d) up
      (λ x m.
      ⊎_elim (λ (old : IsIn (take (i - 1) xs) x). through x (get_or xs (i - 1) d) (get_or xs i d) (below_last (take (i - 1) xs) (get_or xs (i - 1) d) up2 x old) next)
      (λ (new : (get_or xs (i - 1) d ≡ x) ⊎ ⊥). ⊎_elim (λ (e : get_or xs (i - 1) d ≡ x). subst (λ w. R w (get_or xs i d)) e next) (λ (none : ⊥). absurd none) new)
      (IsIn-append_cases (take (i - 1) xs) (get_or xs (i - 1) d ∷ []) x (subst (λ l. IsIn l x) front m))))

  -- of neighbours the first is below the second
  neighbours : (xs : List X) (i : ℕ) (d : X) → Ascends R xs → i + 1 < length xs → R (get_or xs i d) (get_or xs (i + 1) d)
  neighbours [] i d up lt = absurd (omega (arith, lt))
  neighbours (x ∷ xs) zero d up lt = up.0 (get_or xs 0 d) (IsIn-get_or xs 0 d (omega (arith, lt)))
  neighbours (x ∷ xs) (suc i) d up lt = let e : suc (i + 1) ≡ suc i + 1 = omega arith in subst (λ n. R (get_or xs i d) (get_or (x ∷ xs) n d)) e (neighbours xs i d up.1 (omega (arith, lt)))

  -- the same of two neighbours that were looked at
  module _ (xs : List X) (i : ℕ) (x y : X) (some : 1 ≤ i) (lt : i < length xs) (x_is : x ≡ get_or xs (i - 1) x) (y_is : y ≡ get_or xs i y) where
    y_at : y ≡ get_or xs i x
    y_at = y_is ∙ get_or_default xs i y x lt

    pub next_ascends : ((a b c : X) → R a b → R b c → R a c) → Ascends R (take i xs) → R x y → Ascends R (take (i + 1) xs)
    next_ascends through up below = ascends_more through xs i x lt some up (subst (λ z. R z (get_or xs i x)) x_is (subst (R x) y_at below))

    pub next_above : Ascends R xs → R x y
    next_above up =
        let back : i - 1 + 1 ≡ i = omega (arith, some) in
        let both : R (get_or xs (i - 1) x) (get_or xs i x) = subst (λ n. R (get_or xs (i - 1) x) (get_or xs n x)) back (neighbours xs (i - 1) x up (omega (arith, some, lt))) in
        subst (R x) (sym y_at) (subst (λ z. R z (get_or xs i x)) (sym x_is) both)

  -- the first of a list is in order alone
  pub one_ascends : (xs : List X) → Ascends R (take 1 xs)
  one_ascends [] = tt
  one_ascends (x ∷ xs) = ((λ y none. absurd none), tt)

pub before_through : (x y z : Point) → IsBefore x y → IsBefore y z → IsBefore x z
before_through x y z p q = key_cmp_total.trans (key_of x) (key_of y) (key_of z) p q
