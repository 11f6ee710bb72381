-- What has a code can be told apart.
use Rattle.std.proofs.Common.{◌≡◌, refl, ap, inl, inr}
use Rattle.std.specs.Prelude.{◌⊎◌}
use Rattle.std.proofs.lemmas.Bool.{cases_eq}
use base.Stored.{Gv, gnil, gnum, gcons, Coded}

gv_told : (x y : Gv) → (x ≡ y) ⊎ (x ≡ y → ⊥)
gv_told gnil gnil = inl refl
gv_told gnil (gnum n) = inr (λ e. cc)
gv_told gnil (gcons a b) = inr (λ e. cc)
gv_told (gnum n) gnil = inr (λ e. cc)
gv_told (gnum n) (gnum m) = elim (cases_eq n m) as (λ _. (gnum n ≡ gnum m) ⊎ (gnum n ≡ gnum m → ⊥)) [ inl e ↦ inl (ap gnum e) | inr other ↦ inr (λ e. other (cc)) ]
gv_told (gnum n) (gcons a b) = inr (λ e. cc)
gv_told (gcons a b) gnil = inr (λ e. cc)
gv_told (gcons a b) (gnum m) = inr (λ e. cc)
gv_told (gcons a b) (gcons c d) =
    elim (gv_told a c) as (λ _. (gcons a b ≡ gcons c d) ⊎ (gcons a b ≡ gcons c d → ⊥)) [
      | inr other ↦ inr (λ e. other (cc))
      | inl first ↦ elim (gv_told b d) as (λ _. (gcons a b ≡ gcons c d) ⊎ (gcons a b ≡ gcons c d → ⊥)) [
        | inr other ↦ inr (λ e. other (cc))
        | inl second ↦ inl (λ i. gcons (first i) (second i))
      ]
    ]

pub told_by_code : {X : Type 0} → Coded X → (x y : X) → (x ≡ y) ⊎ (x ≡ y → ⊥)
told_by_code c x y = elim (gv_told (c.code x) (c.code y)) as (λ _. (x ≡ y) ⊎ (x ≡ y → ⊥)) [ inl e ↦ inl (c.inj x y e) | inr other ↦ inr (λ e. other (ap c.code e)) ]
