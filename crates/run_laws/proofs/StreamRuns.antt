-- What passed between a run and its streams.
use Rattle.std.proofs.Common.{◌≡◌, ℕ, List, [], ◌∷◌, ◌++◌, refl, ◌∙◌, append-nil, arith, Some, None}
use Rattle.std.specs.Prelude.{Option, codes}
use Rattle.m3_program.specs.Passing.{Gives, Takes, outflow}
use Rattle.run_laws.proofs.ClashLemmas.{longer, longer_behind}

-- ---- the source

module _ (left left2 : Option (List ℕ)) (gave : List ℕ) where
  pub nothing_given-refused : ¬ Gives left gave (codes "x") left2 gave
  nothing_given-refused h = longer_behind gave [] (codes "x") 0 1 refl refl (λ e. omega (arith, e)) (append-nil gave ∙ h.1)

  pub skipped-refused : ¬ Gives left gave (codes "y") left2 (gave ++ codes "xy")
  skipped-refused h = longer_behind gave (codes "xy") (codes "y") 2 1 refl refl (λ e. omega (arith, e)) h.1

module _ (gave : List ℕ) where
  pub behind-refused : ¬ Gives (Some (codes "xy")) gave (codes "y") (Some (codes "x")) (gave ++ codes "y")
  behind-refused h =
      let is : 120 ∷ 121 ∷ [] ≡ 121 ∷ 120 ∷ [] = h.0 in
      let clash : ◌≡◌ {A = ℕ} 120 121 = cc in
      omega (arith, clash)

  pub lost-refused : ¬ Gives (Some (codes "xy")) gave (codes "x") (Some []) (gave ++ codes "x")
  lost-refused h = longer (codes "xy") (codes "x") 2 1 refl refl (λ e. omega (arith, e)) h.0

  pub silent-refused : ¬ Gives (Some (codes "x")) gave (codes "x") None (gave ++ codes "x")
  silent-refused h = h.0

-- ---- the sink

module _ (told told2 : Option (List ℕ)) where
  pub nothing_taken-refused : (took : List ℕ) → ¬ Takes (outflow told took) (outflow told2 took) (codes "r")
  nothing_taken-refused took h = longer_behind took [] (codes "r") 0 1 refl refl (λ e. omega (arith, e)) (append-nil took ∙ h.took)

  pub twice-refused : (took : List ℕ) → ¬ Takes (outflow told took) (outflow told2 (took ++ codes "rr")) (codes "r")
  twice-refused took h = longer_behind took (codes "rr") (codes "r") 2 1 refl refl (λ e. omega (arith, e)) h.took

  pub order-refused : ¬ Takes (outflow told (codes "r")) (outflow told2 (codes "sr")) (codes "s")
  order-refused h =
      let is : 115 ∷ 114 ∷ [] ≡ 114 ∷ 115 ∷ [] = h.took in
      let clash : ◌≡◌ {A = ℕ} 115 114 = cc in
      omega (arith, clash)

module _ (took : List ℕ) where
  pub nothing_told-refused : ¬ Takes (outflow (Some []) took) (outflow (Some []) (took ++ codes "r")) (codes "r")
  nothing_told-refused h = longer [] (codes "r") 0 1 refl refl (λ e. omega (arith, e)) h.written

  pub lost_told-refused : ¬ Takes (outflow (Some (codes "r")) took) (outflow (Some (codes "s")) (took ++ codes "s")) (codes "s")
  lost_told-refused h = longer (codes "s") (codes "rs") 1 2 refl refl (λ e. omega (arith, e)) h.written

  pub silent_sink-refused : ¬ Takes (outflow (Some []) took) (outflow None (took ++ codes "r")) (codes "r")
  silent_sink-refused h = h.written
