-- What a run that is tracked promises at its end: its reads kept what they had to, its answers have their causes, whoever turned available was joined, and the counts of the disks show all faults.
use Rattle.std.specs.Prelude.{◌≡◌, ◌≤◌, ◌<◌, ℕ, ◌+◌, List, ◌++◌, length, Option, Some, None, Bool, true, ◌&&◌, ◌||◌, nat_eq, count_by}
use Rattle.std.specs.FinMap as finite
use Rattle.m3_model.specs.Members.{IsIn}
use Rattle.m3_model.specs.declared.turn.Request.{Request}
use Rattle.m3_model.specs.declared.turn.Turn.{Turn}
use Rattle.m3_model.specs.declared.rules.MetaState.{MetaState}
use Rattle.m3_outside.specs.Causes.{RoseBy, last_count}
use Rattle.m3_outside.specs.Depots.{Depot}
use Rattle.m3_outside.specs.DiskState.{DiskState}
use Rattle.m3_outside.specs.declared.disk.Disk.{Ghosts}
use Rattle.m3_outside.specs.declared.slot.DiskSlot.{DiskSlot}
use Rattle.told_runs.specs.Lines.{life_of}
use Rattle.transcripts.specs.Caused.{Caused}
use Rattle.transcripts.specs.Faults.{Fault, Damaged, is_failing, is_taking}
use Rattle.transcripts.specs.Joined.{Joined}
use Rattle.transcripts.specs.Kept.{Kept}
use Rattle.transcripts.specs.Record.{Record}
use Rattle.node_calls.specs.replica_exchange.declared.member.Member.{Member}
use Rattle.node_calls.specs.replica_exchange.declared.slot.Slot.{Slot}
use Rattle.node_calls.specs.cluster_members.declared.members.Members.{Members}
use Rattle.first_cluster.specs.Depots.{RisesBy, count_at, disk_slot_of}
use Rattle.line_tracks.specs.tracks.Tracks.{Tracks, faults_of}

-- the replica at a slot, before `init` none
abbrev pub replica_at : {D : Type 0} {G : Ghosts D} → Option (Members D G) → Slot → Option (Member D)
replica_at None s = None
replica_at (Some m) s = finite.get m.net.replicas.members s

-- The disks are given back: each slot counts what its disk did, and the count of all rose by as much as theirs did since they were taken.
pub record AreGivenBack {D : Type 0} {G : Ghosts D} (state : D → DiskState) (mid : Depot D) (members : Option (Members D G)) (all : ℕ) (of_disk : DiskSlot → ℕ) : Type 0 where
  pub later : mid.faults ≤ all
  pub counted : (s : Slot) → of_disk (disk_slot_of s) ≡ count_at state mid (replica_at members s) s
  pub rose : RisesBy state mid members all

-- the kind of a fault of taking a disk or of a disk itself, and no damage
abbrev pub is_fault : Fault → Bool
is_fault f = is_taking f.kind || is_failing f.kind

-- the disk of this slot failed
abbrev pub is_failed_at : DiskSlot → Fault → Bool
is_failed_at disk_slot f = is_failing f.kind && (nat_eq f.node disk_slot.node && nat_eq f.shard disk_slot.shard)

-- Counts of disks show these faults, each of one of so many lines: those of taking by the count of all faults, those of a slot by its disk's; where no count
-- stands at its last value, all of them by the count of all. None is a damage where the disks tell what they hold.
pub record AreShown {D : Type 0} (tells : Bool) (lines : ℕ) (first : Depot D) (all : ℕ) (of_disk : DiskSlot → ℕ) (faults : List Fault) : Type 0 where
  pub of_lines : (f : Fault) → IsIn faults f → f.line < lines
  pub undamaged : tells ≡ true → (f : Fault) → IsIn faults f → ¬ (f.kind ≡ Damaged)
  pub of_taking : RoseBy (count_by (λ f. is_taking f.kind) faults) first.faults all
  pub of_disks : (disk_slot : DiskSlot) → RoseBy (count_by (is_failed_at disk_slot) faults) (first.counted disk_slot) (of_disk disk_slot)
  pub of_all : all < last_count → ((disk_slot : DiskSlot) → of_disk disk_slot < last_count) → first.faults + count_by is_fault faults ≤ all

-- ---- laws

-- Over disks that tell and stood for the life, the run's reads kept what they had to, also where some last turns got no reply.
abbrev pub KeptWhereTracked : {D : Type 0} {G : Ghosts D} → (D → DiskState) → Option (Members D G) → Type 0
KeptWhereTracked {D} {G} state members =
    (past : List Record) (start : Option MetaState) (first now : Depot D) (turns more : List Turn) (calls : List ℕ) (unanswered : Option Request) → Tracks state true past start first now (turns ++ more) members calls → Kept (life_of past start turns unanswered)

-- Its answers have their causes.
abbrev pub CausedWhereTracked : {D : Type 0} {G : Ghosts D} → (D → DiskState) → Option (Members D G) → Type 0
CausedWhereTracked {D} {G} state members =
    (tells : Bool) (past : List Record) (start : Option MetaState) (first now : Depot D) (turns more : List Turn) (calls : List ℕ) (unanswered : Option Request) → (t : Tracks state tells past start first now (turns ++ more) members calls)
    → Caused tells (life_of past start turns unanswered) (faults_of t)

-- Each node that turned available was joined by a bootstrap that prints a majority of the former replicas, whatever the disks tell.
abbrev pub JoinedWhereTracked : {D : Type 0} {G : Ghosts D} → (D → DiskState) → Option (Members D G) → Type 0
JoinedWhereTracked {D} {G} state members =
    (tells : Bool) (past : List Record) (start : Option MetaState) (first now : Depot D) (turns : List Turn) (calls : List ℕ) (unanswered : Option Request) → Tracks state tells past start first now turns members calls → Joined (life_of past start turns unanswered)

-- And the faults are shown by the counts, once the disks are given back.
abbrev pub ShownWhereTracked : {D : Type 0} {G : Ghosts D} → (D → DiskState) → Option (Members D G) → Type 0
ShownWhereTracked {D} {G} state members =
    (tells : Bool) (past : List Record) (start : Option MetaState) (first now : Depot D) (turns : List Turn) (calls : List ℕ) (all : ℕ) (of_disk : DiskSlot → ℕ) → (t : Tracks state tells past start first now turns members calls)
    → AreGivenBack state now members all of_disk → AreShown tells (length turns) first all of_disk (faults_of t)
