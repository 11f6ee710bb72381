-- The faults that are causes in a run, and the counts of the disks that show them.
use Rattle.std.specs.Prelude.{◌≡◌, ℕ, ◌+◌, ◌<◌, ◌≤◌, ⊤, List, length, Option, Some, None, Bool, true, ◌&&◌, ◌||◌, nat_eq, count_by}
use Rattle.std.specs.List.{All}
use Rattle.transcripts.specs.Faults.{Fault, Damaged, is_taking, is_failing}
use Rattle.transcripts.specs.Record.{Record}
use Rattle.m3_model.specs.declared.turn.Request.{Request}
use Rattle.m3_outside.specs.Causes.{RoseBy, last_count}
use Rattle.m3_outside.specs.DiskState.{DiskState, IsEmpty}
use Rattle.m3_outside.specs.Slots.{Held, Unused, Here, Out}
use Rattle.m3_outside.specs.declared.slot.DiskSlot.{DiskSlot}
use Rattle.m3_outside.specs.Depots.{Depot, TellAll}

-- the slot was never used, or the disk that lies there is empty
abbrev pub IsUnwritten : {D : Type 0} → (D → DiskState) → Held D → Type 0
IsUnwritten state Unused = ⊤
IsUnwritten state (Here disk) = IsEmpty (state disk)
IsUnwritten state Out = ⊥

-- each disk of this kind tells what it holds, and those of the slots are empty
pub record AreEmpty {D : Type 0} (state : D → DiskState) (held : DiskSlot → Held D) : Type 0 where
  pub tell : TellAll state
  pub unwritten : (slot : DiskSlot) → IsUnwritten state (held slot)

-- How many faults are counted in all, and how many of each slot's disk.
pub record Counts : Type 0 where
  pub all : ℕ
  pub of_disk : DiskSlot → ℕ

-- those that the disks of a run show
abbrev pub counts_of : {D : Type 0} → Depot D → Counts
counts_of depot = record { all = depot.faults; of_disk = depot.counted }

-- how often a disk couldn't be taken, of these faults
abbrev pub times_untaken : List Fault → ℕ
times_untaken faults = count_by (λ f. is_taking f.kind) faults

-- how often the disk of this slot failed, of these faults
abbrev pub times_failed : DiskSlot → List Fault → ℕ
times_failed slot faults = count_by (λ f. is_failing f.kind && (nat_eq f.node slot.node && nat_eq f.shard slot.shard)) faults

-- how many of these are faults of disks, and no damages
abbrev pub times_faulted : List Fault → ℕ
times_faulted faults = count_by (λ f. is_taking f.kind || is_failing f.kind) faults

-- one where there is a request, else none
abbrev pub one_for : Option Request → ℕ
one_for None = 0
one_for (Some request) = 1

-- how many requests the run took: those with a turn, and the one that got no reply
abbrev pub requests_taken : Record → ℕ
requests_taken run = length run.turns + one_for run.unanswered

-- the fault came with one of the requests that the run took, and is no damage where the disks tell what they hold
pub record IsOfRun (tells : Bool) (run : Record) (fault : Fault) : Type 0 where
  pub in_run : fault.line < requests_taken run
  pub undamaged : tells ≡ true → ¬ (fault.kind ≡ Damaged)

-- The faults that may be causes in a run: each is of the run. Those of taking disks are at most as many as the count of all faults rose, those of a slot's disk
-- at most as many as its count rose; and where no count ends at its last value, all of them are at most as many as the count of all rose.
pub record AreCauses (tells : Bool) (run : Record) (before now : Counts) (faults : List Fault) : Type 0 where
  pub of_run : All (IsOfRun tells run) faults
  pub of_taking : RoseBy (times_untaken faults) before.all now.all
  pub of_disks : (slot : DiskSlot) → RoseBy (times_failed slot faults) (before.of_disk slot) (now.of_disk slot)
  pub of_all : now.all < last_count → ((slot : DiskSlot) → now.of_disk slot < last_count) → before.all + times_faulted faults ≤ now.all
