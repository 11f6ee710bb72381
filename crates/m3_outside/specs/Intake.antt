-- A sink in memory, as contracts see it.
use Rattle.std.specs.Prelude.{ℕ, List, ◌++◌}
use Rattle.m3_outside.specs.Causes.{count_after}

-- the bytes that were written, the numbers of the calls that fail, and how many calls came, failed and stalled so far
pub record Intake : Type 0 where
  pub written : List ℕ
  pub fail : List ℕ
  pub calls : ℕ
  pub faults : ℕ
  pub stalls : ℕ

-- the intake after a write that took this whole piece
abbrev pub intake_after_write : Intake → List ℕ → Intake
intake_after_write i piece = record i { written = i.written ++ piece; calls = count_after i.calls }

-- the intake after a write that took nothing of a piece that isn't empty
abbrev pub intake_after_stall : Intake → Intake
intake_after_stall i = record i { calls = count_after i.calls; stalls = count_after i.stalls }

-- the intake after a write that failed
abbrev pub intake_after_fault : Intake → Intake
intake_after_fault i = record i { calls = count_after i.calls; faults = count_after i.faults }
