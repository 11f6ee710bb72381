-- What replicas say of themselves, and the lines of it.
use Rattle.std.specs.Prelude.{◌≡◌, ℕ, List, [], ◌∷◌, map}
use Rattle.std.specs.List.{flat_map}
use Rattle.m3_model.specs.declared.answer.StatusLine.{StatusLine}
use Rattle.m3_model.specs.declared.placement.ShardState.{ShardState}
use Rattle.m3_model.specs.declared.replica.Report.{Report}
use Rattle.m3_outside.specs.DiskState.{DiskState}
use Rattle.cluster_core.specs.declared.event.Event.{Event}
use Rattle.cluster_core.specs.declared.event.Event.TheVariants as event
use Rattle.cluster_core.specs.declared.event.StepCall.TheVariants as call
use Rattle.cluster_core.specs.declared.event.StepReply.TheVariants as reply
use Rattle.node_calls.specs.replica_exchange.declared.slot.Slot.{Slot}
use Rattle.node_calls.specs.replica_calls.Calls.{Tracked}
use Rattle.node_calls.specs.session_net.Runs.{Ran, slot_at}
use Rattle.cluster_upkeep.specs.declared.rows.Row.{Row}

-- the replica reports, which nobody asks for
abbrev pub reported : Slot → Report → List Event
reported slot report = event.Step slot.node slot.shard call.Report (reply.Told report) ∷ []

-- the line of a replica that reported so
abbrev pub line_of : Row → Report → StatusLine
line_of row report =
    record { buffered = report.buffered; fence = report.fence; node = row.slot.node; segments = report.segments; shard = row.slot.shard; snapshot = report.snapshot; standing = report.standing; state = row.state; volumes = report.volumes }

-- the report of a line, and its event
abbrev pub report_of : StatusLine → Report
report_of line = record { standing = line.standing; fence = line.fence; buffered = line.buffered; segments = line.segments; snapshot = line.snapshot; volumes = line.volumes }

abbrev pub told_at : StatusLine → List Event
told_at line = reported (slot_at line.node line.shard) (report_of line)

-- the row of a line
abbrev pub row_of : StatusLine → Row
row_of line = record { slot = slot_at line.node line.shard; state = line.state }

-- the replicas of these rows reported, one after the other
pub record EndsReport {D : Type 0} (state : D → DiskState) (rows : List Row) (lines : List StatusLine) (old new : Tracked D) : Type 0 where
  pub of_rows : map row_of lines ≡ rows
  pub ran : Ran state old (flat_map told_at lines) new
