-- Why a replica refuses a call.
use Rattle.std.specs.Prelude.{ℕ, ◌+◌, Option, Some, None, Bool, true, false, if◌then◌else◌, nat_le, slice_get}
use Rattle.std.specs.Option.{option_or}
use Rattle.m3_model.specs.declared.point.Point.{Point}
use Rattle.m3_model.specs.declared.reason.Reason.{Reason}
use Rattle.m3_model.specs.declared.reason.Reason.TheVariants as reason
use Rattle.m3_model.specs.declared.replica.Standing.{Standing}
use Rattle.m3_model.specs.declared.replica.Standing.TheVariants as standing
use Rattle.m3_model.specs.declared.rules.Rules.{Rules}
use Rattle.m3_model.specs.declared.rules.Space.{Space}
use Rattle.cluster_core.specs.declared.event.StepCall.{StepCall}
use Rattle.cluster_core.specs.declared.event.StepCall.TheVariants as call
use Rattle.cluster_core.specs.declared.replica_state.ReplicaState.{ReplicaState}

-- the reason, where the test holds
abbrev pub reason_if : Bool → Reason → Option Reason
reason_if test why = if test then Some why else None

-- closed, or not begun
abbrev pub shut : Standing → Option Reason
shut standing.Down = Some reason.Down
shut standing.Boot = Some reason.Boot
shut standing.Open = None

-- closed
abbrev pub closed : Standing → Option Reason
closed standing.Down = Some reason.Down
closed standing.Boot = None
closed standing.Open = None

-- without a tenure, or with one above the version
abbrev pub unowned : Option ℕ → ℕ → Option Reason
unowned None version = Some reason.NotOwned
unowned (Some tenure) version = if nat_le tenure version then None else Some reason.NotOwned

-- without a tenure
abbrev pub untenured : Option ℕ → Option Reason
untenured None = Some reason.NotOwned
untenured (Some tenure) = None

-- fenced above the version
abbrev pub outdated : ℕ → ℕ → Option Reason
outdated fence version = if nat_le fence version then None else Some (reason.Stale fence)

-- too far below the moment, or too far above it
abbrev pub outside_of : Rules → Point → Option Space → Option Reason
outside_of rules p None = None
outside_of rules p (Some space) = option_or (reason_if (nat_le (p.t + space.past) rules.now) reason.Past) (reason_if (nat_le (rules.now + space.future) p.t) reason.Future)

abbrev pub outside : Rules → Point → Option Reason
outside rules p = outside_of rules p (slice_get rules.spaces p.ns)

-- the first of Down, Boot, NotOwned, Stale, Past and Future that holds, of those that the call is refused for; that a Begin
-- is NotOwned depends on the tenures before it and on the files, and is left to it
abbrev pub first_refusal : ReplicaState → StepCall → Option Reason
first_refusal r (call.Begin tenure) = closed r.standing
first_refusal r (call.Put client number rules version point) = option_or (shut r.standing) (option_or (unowned r.tenure version) (option_or (outdated r.fence version) (outside rules point)))
first_refusal r (call.Read client number rules version pick from to) = option_or (shut r.standing) (option_or (unowned r.tenure version) (outdated r.fence version))
first_refusal r (call.Fence version) = option_or (shut r.standing) (unowned r.tenure version)
first_refusal r (call.Page after) = option_or (shut r.standing) (untenured r.tenure)
first_refusal r (call.Block ns start size after) = option_or (shut r.standing) (untenured r.tenure)
first_refusal r (call.Digests rules) = option_or (shut r.standing) (untenured r.tenure)
first_refusal r (call.Merge page) = option_or (shut r.standing) (untenured r.tenure)
first_refusal r (call.Tick rules) = shut r.standing
first_refusal r (call.Flush rules) = shut r.standing
first_refusal r call.Snapshot = shut r.standing
first_refusal r call.Report = None
first_refusal r call.End = None
first_refusal r call.Stop = None
first_refusal r call.Restart = None

-- the call uses the disk, which may fail
abbrev pub uses_disk : StepCall → Bool
uses_disk call.Report = false
uses_disk call.End = false
uses_disk call.Stop = false
uses_disk _ = true

-- the call reads files, which may be damaged
abbrev pub reads_files : StepCall → Bool
reads_files (call.Put client number rules version point) = false
reads_files (call.Fence version) = false
reads_files call.Report = false
reads_files call.End = false
reads_files call.Stop = false
reads_files call.Restart = false
reads_files _ = true
