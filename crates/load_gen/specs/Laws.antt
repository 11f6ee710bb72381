-- What is so of each script.
use Rattle.std.specs.Prelude.{◌≡◌, ℕ, length}
use Rattle.m3_model.specs.Limits.{KeepsLimits}
use Rattle.m3_model.specs.Members.{IsIn}
use Rattle.m3_model.specs.declared.turn.Request.{Request}
use Rattle.load_gen.specs.Script.{script}

-- it has so many requests
abbrev pub HasAllLines : Type 0
HasAllLines = (n : ℕ) → length (script n) ≡ 5515

-- each of them is one that a line may ask for
abbrev pub KeepsItsLimits : Type 0
KeepsItsLimits = (n : ℕ) (r : Request) → IsIn (script n) r → KeepsLimits r
