-- What is written of the replies that were made, and what is held of them.
use Rattle.std.specs.Prelude.{◌≡◌, ℕ, List, ◌++◌}
use Rattle.m3_program.specs.Passing.{Outflow, Takes}
use Rattle.m3_program.specs.declared.status.Status.{Status}
use Rattle.m3_program.specs.declared.status.Status.TheVariants as status

-- a front of what was held and of this text was written, and the rest is held
abbrev pub Gathers : Outflow → List ℕ → List ℕ → Outflow → List ℕ → Type 0
Gathers sink held text sink2 held2 = (front : List ℕ) × Takes sink sink2 front × (held ++ text ≡ front ++ held2)

-- all of this text was written, or a front where it ended with a sink that failed
abbrev pub WritesUntil : Status → Outflow → List ℕ → Outflow → Type 0
WritesUntil status.WriteFault sink text sink2 = (front lost : List ℕ) × Takes sink sink2 front × (text ≡ front ++ lost)
WritesUntil _ sink text sink2 = Takes sink sink2 text
