-- What a flush, a tick and a snapshot leave of a machine.
use Rattle.std.specs.Prelude.{◌≡◌, ℕ, true, List, length}
use Rattle.m3_model.specs.Answers.{HasPoint}
use Rattle.m3_model.specs.declared.point.Point.{Point}
use Rattle.m3_model.specs.declared.rules.Rules.{Rules}
use Rattle.m3_outside.specs.DiskState.{DiskState, EachImage}
use Rattle.shard_store.specs.block_buffer.Held.{without, has_expired}
use Rattle.shard_store.specs.commit_log.Contents.{numbers, next_after}
use Rattle.shard_store.specs.shard_files.Parts.{KnownVolume, VolumesAre}
use Rattle.shard_store.specs.shard_files.Steps.{next_snapshot}
use Rattle.shard_store.specs.Flushes.{AreFlushed, AreFlushedTo, is_in_one}
use Rattle.shard_store.specs.OneSnapshot.{HasOneSnapshot}
use Rattle.shard_store.specs.Stores.{joined_with}
use Rattle.shard_store.specs.Ticks.{live_volumes}
use Rattle.replica_machine.specs.Machines.{MachineState}
use Rattle.replica_machine.specs.Works.{with_flush, with_snapshot, with_tick}

-- So many volumes were written: one for each block that may be flushed and had points in memory, of which none are there any more. The work has one flush
-- more, and nothing else of the machine has changed. Where the disk tells what it holds, its content is the same, and the volumes that count are those that a flush of the blocks leaves.
pub record IsFlushed {D : Type 0} (state : D → DiskState) (rules : Rules) (old new : MachineState D) (n : ℕ) : Type 0 where
  pub blocks : List (ℕ × ℕ)
  pub are : AreFlushed rules old.buffered blocks
  pub count : n ≡ length blocks
  pub same : new ≡ record old { disk = new.disk; buffered = without old.buffered (is_in_one rules blocks); content = new.content; work = with_flush n old.work }
  pub content : (state old.disk).tells ≡ true → new.content ≡ old.content
  pub volumes : (state old.disk).tells ≡ true → (known : List KnownVolume) → VolumesAre known (state old.disk).files
      → (now : List KnownVolume) × VolumesAre now (state new.disk).files × AreFlushedTo rules old.buffered blocks known (state old.disk).files now

-- Some points may have left memory, and nothing else of the machine has changed; nor has its content where the disk tells what it holds.
pub record IsPartFlushed {D : Type 0} (state : D → DiskState) (old new : MachineState D) : Type 0 where
  pub same : new ≡ record old { disk = new.disk; buffered = new.buffered; content = new.content }
  pub content : (state old.disk).tells ≡ true → new.content ≡ old.content
  pub fewer : (p : Point) → HasPoint new.buffered p → HasPoint old.buffered p

-- The expired points aren't in memory any more, and the work has one tick more, which answered this number. Where the disk tells what it holds, the volumes whose blocks have expired as a whole don't count any more, all
-- others do, and the content is what is in memory joined with their points.
pub record IsTicked {D : Type 0} (state : D → DiskState) (rules : Rules) (old new : MachineState D) (n : ℕ) : Type 0 where
  pub same : new ≡ record old { disk = new.disk; buffered = without old.buffered (has_expired rules); content = new.content; work = with_tick n old.work }
  pub volumes : (state old.disk).tells ≡ true → (known : List KnownVolume) → VolumesAre known (state old.disk).files
      → VolumesAre (live_volumes rules known) (state new.disk).files × (new.content ≡ joined_with new.buffered (live_volumes rules known))

-- In the files that a stop leaves one snapshot counts: it has this number, just the points in memory, the fence, and the tenure of the files. Their log is one
-- segment without chunks, above all that there were. The work has one snapshot more, and nothing
-- else of the machine has changed but its disk.
pub record IsSaved {D : Type 0} (state : D → DiskState) (old new : MachineState D) (n : ℕ) : Type 0 where
  pub same : new ≡ record old { disk = new.disk; work = with_snapshot n old.work }
  pub number : (state old.disk).tells ≡ true → n ≡ next_snapshot (state old.disk).files
  pub tenure : ℕ
  pub saved : EachImage (state new.disk) (HasOneSnapshot n (next_after (numbers (state old.disk).files)) old.buffered tenure old.fence)
