-- How far a run of a script got.
use Rattle.std.proofs.Common.{◌≡◌, ℕ, List, [], ◌∷◌, refl, arith, Some, None}
use Rattle.std.specs.Prelude.{Option, codes}
use Rattle.m3_model.specs.declared.act.Act.TheVariants as act
use Rattle.m3_model.specs.declared.turn.Request.{Request}
use Rattle.m3_program.specs.Scripts.{Deferred, IsPart, IsTaken, ScriptPart, PlayedTo, Served}
use Rattle.m3_program.specs.declared.status.Status.TheVariants as status
use Rattle.run_laws.specs.Samples.{ask, misanswered}
use Rattle.run_laws.specs.States.{go_to}
use Rattle.run_laws.proofs.ClashLemmas.{false_not, longer}

module _ (parts : List ScriptPart) (later : List Request) (asked : Option Request) (written : List ℕ) where
  pub done-refused : ¬ PlayedTo status.Done parts (ask ∷ []) asked written
  done-refused h = longer (ask ∷ []) [] 1 0 refl refl (λ e. omega (arith, e)) h.0

  pub sink-refused : ¬ PlayedTo status.WriteFault parts (ask ∷ []) asked written
  sink-refused h = longer (ask ∷ []) [] 1 0 refl refl (λ e. omega (arith, e)) h.0

  pub disk-refused : ¬ PlayedTo status.DiskFault parts later asked (codes "r")
  disk-refused h = longer (codes "r") [] 1 0 refl refl (λ e. omega (arith, e)) h.0

  pub untaken-refused : ¬ PlayedTo status.DiskFault parts later None written
  untaken-refused h = false_not h.1

  pub memory-refused : ¬ PlayedTo status.Memory parts later asked (codes "r")
  memory-refused h = longer (codes "r") [] 1 0 refl refl (λ e. omega (arith, e)) h

pub put_off-refused : ¬ IsPart (Deferred ask)
put_off-refused h = h tt

pub shape-refused : ¬ IsPart (Served (misanswered (act.Now 5)))
shape-refused h = h

pub behind-refused : ¬ IsTaken (Some ask) []
behind-refused h = h

pub another-refused : ¬ IsTaken (Some ask) (go_to 7 ∷ [])
another-refused h = let clash : ◌≡◌ {A = ℕ} 7 5 = cc in omega (arith, clash)
