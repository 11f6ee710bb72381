-- Ticks of the three nodes, and how they stand.
use Rattle.std.specs.Prelude.{ℕ, List, [], ◌∷◌, codes}
use Rattle.m3_model.specs.declared.act.Act.TheVariants as act
use Rattle.m3_model.specs.declared.answer.Answer.{Answer}
use Rattle.m3_model.specs.declared.answer.Answer.TheVariants as answer
use Rattle.m3_model.specs.declared.answer.StatusLine.{StatusLine}
use Rattle.m3_model.specs.declared.placement.ShardState.TheVariants.{Available, Leaving}
use Rattle.m3_model.specs.declared.reason.Reason.{Reason}
use Rattle.m3_model.specs.declared.replica.Standing.TheVariants.{Open}
use Rattle.m3_model.specs.declared.turn.Turn.{Turn}
use Rattle.model_laws.specs.Building.{at_moment, begun, line}
use Rattle.model_laws.specs.Messages.{stopped}
use Rattle.fault_laws.specs.Faulty.{c_restarted}

-- a tick at moment 100, answered so
abbrev pub ticked : List (ℕ × ℕ × ℕ) → List (ℕ × ℕ × Reason) → List Turn
ticked done failed = at_moment 100 act.Tick (answer.Swept done failed)

-- the same where c is stopped
abbrev pub stopped_ticked : List (ℕ × ℕ × ℕ) → List (ℕ × ℕ × Reason) → List Turn
stopped_ticked done failed = begun 100 (stopped (codes "c") ∷ line act.Tick (answer.Swept done failed) ∷ [])

-- the same where c was restarted, and no bootstrap was asked since
abbrev pub idle_ticked : List (ℕ × ℕ × ℕ) → List (ℕ × ℕ × Reason) → List Turn
idle_ticked done failed = begun 100 (stopped (codes "c") ∷ c_restarted ∷ line act.Tick (answer.Swept done failed) ∷ [])

-- the line of a node that is open, of the only shard
abbrev pub open_line : ℕ → StatusLine
open_line node = record { buffered = 0; fence = 1; node = node; segments = 0; shard = 0; snapshot = 0; standing = Open; state = Available; volumes = 0 }

-- all three are open, at this moment and this version
abbrev pub status_at : ℕ → ℕ → List Turn
status_at now version = at_moment 100 act.Status (answer.Status now (open_line 0 ∷ open_line 1 ∷ open_line 2 ∷ []) version)

-- a is said to give the shard away
abbrev pub a_leaving : StatusLine
a_leaving = record (open_line 0) { state = Leaving }

-- all three are open, and a is said to give the shard away
abbrev pub status_leaving : List Turn
status_leaving = at_moment 100 act.Status (answer.Status 100 (a_leaving ∷ open_line 1 ∷ open_line 2 ∷ []) 1)
