-- Broken lives: what files don't have that stand for some runs.
use Rattle.std.specs.Prelude.{◌≡◌, ◌≤◌, ℕ, List, [], ◌∷◌, ◌++◌, length, Option, Some, None}
use Rattle.m3_model.specs.Hash.{shard_of}
use Rattle.m3_model.specs.Levels.{majority}
use Rattle.m3_model.specs.Members.{IsIn}
use Rattle.m3_model.specs.Rules.{HasExpired}
use Rattle.m3_model.specs.declared.answer.Answer.TheVariants as answer
use Rattle.m3_model.specs.declared.point.Point.{Point}
use Rattle.m3_model.specs.declared.rules.MetaState.{MetaState}
use Rattle.m3_outside.specs.DiskState.{DiskState}
use Rattle.m3_outside.specs.Files.{Files}
use Rattle.m3_outside.specs.Slots.{Held}
use Rattle.m3_outside.specs.declared.slot.DiskSlot.{DiskSlot}
use Rattle.shard_files.specs.FilesHold.{FilesHold}
use Rattle.placement_log.specs.MetaHolds.{MetaHolds}
use Rattle.transcripts.specs.Left.{IsLeft, earlier_turns, sent_earlier}
use Rattle.transcripts.specs.Points.{point_of}
use Rattle.transcripts.specs.Record.{InnerTurn, Record, inner_turns}
use Rattle.transcripts.specs.Rules.{rules_after, start_rules}
use Rattle.life_ends.specs.Lies.{MayLie}
use Rattle.saved_cluster.specs.first_cluster.Depots.{IsForReplicas, meta_slot}
use Rattle.m3_program.specs.Exchanges.{known_place}
use Rattle.m3_program.specs.Lives.{FilesStandFor, FollowsFrom, IsLowFor, StandFor, replica_slot}
use Rattle.m3_program.specs.Saved.{MayBeLast}

-- Of disks that stand some files stand, which a stop may leave.
abbrev pub SomeFilesStand : {D : Type 0} → (D → DiskState) → Type 0
SomeFilesStand {D} state = (past : List Record) (held : DiskSlot → Held D) → StandFor state past held → (files : DiskSlot → Files) × ((slot : DiskSlot) → MayLie state (held slot) (files slot)) × FilesStandFor past files

-- The meta disk's state is one that the last run may have left, and that run began with what those before it left.
abbrev pub StateIsLeft : Type 0
StateIsLeft = (past : List Record) (run : Record) (state : Option MetaState) (files : DiskSlot → Files) → FilesStandFor (past ++ run ∷ []) files → MetaHolds state (files meta_slot) → FollowsFrom None past run.start × MayBeLast run.start run.turns run.unanswered state

-- Where each request got its reply it isn't the state of another moment than the last run left, nor that of another placement.
abbrev pub OtherStatesAreRefused : Type 0
OtherStatesAreRefused =
    (past : List Record) (run : Record) (state : MetaState) (files : DiskSlot → Files) → FilesStandFor (past ++ run ∷ []) files → MetaHolds (Some state) (files meta_slot) → run.unanswered ≡ None
    → (rules_after (start_rules run.start) (inner_turns run.turns) ≡ state.rules) × (known_place run.start run.turns ≡ Some state.place)

-- A run that did nothing left what it found.
abbrev pub IdleRunsLeaveAll : Type 0
IdleRunsLeaveAll =
    (past : List Record) (found state : MetaState) (files : DiskSlot → Files) → FilesStandFor (past ++ record { start = Some found; turns = []; unanswered = None } ∷ []) files → MetaHolds (Some state) (files meta_slot) → state ≡ found

-- Of a point that a run acknowledged, also one before others, each majority has one that holds it, or a higher value; where it hasn't expired.
abbrev pub AckedPointsAreHeld : Type 0
AckedPointsAreHeld =
    (past : List Record) (state : MetaState) (files : DiskSlot → Files) → (stands : FilesStandFor past files) → MetaHolds (Some state) (files meta_slot) → (turn : InnerTurn) → IsIn (earlier_turns past) turn → (nodes : List ℕ) → turn.answer ≡ answer.Acks nodes
    → majority state.place.rf ≤ length nodes → (point : Point) → point_of state.rules.spaces turn.act ≡ Some point → ¬ HasExpired state.rules point → IsLeft stands.held state.place (shard_of point.id state.seed (length state.place.shards)) point

-- No files have a point that no run sent.
abbrev pub StrangePointsAreRefused : Type 0
StrangePointsAreRefused =
    (past : List Record) (state : MetaState) (files : DiskSlot → Files) → FilesStandFor past files → MetaHolds (Some state) (files meta_slot) → (n s tenure fence : ℕ) (points : List Point) → IsForReplicas (replica_slot n s) → FilesHold points tenure fence (files (replica_slot n s))
    → (point : Point) → IsIn points point → IsIn (sent_earlier past state.rules.spaces) point

-- No tenure is above the version, or above that with which the placement gives the node the shard. No fence is above the version.
abbrev pub HighNumbersAreRefused : Type 0
HighNumbersAreRefused =
    (past : List Record) (state : MetaState) (files : DiskSlot → Files) → FilesStandFor past files → MetaHolds (Some state) (files meta_slot) → (n s tenure fence : ℕ) (points : List Point) → IsForReplicas (replica_slot n s) → FilesHold points tenure fence (files (replica_slot n s))
    → IsLowFor state.place n s tenure × (fence ≤ state.place.version)
