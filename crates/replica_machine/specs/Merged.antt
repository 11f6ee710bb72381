-- What a merge of a page leaves of a machine.
use Rattle.std.specs.Prelude.{◌≡◌, ℕ, true, List, length}
use Rattle.m3_model.specs.declared.point.Point.{Point}
use Rattle.m3_outside.specs.DiskState.{DiskState}
use Rattle.shard_store.specs.block_buffer.Joins.{joined}
use Rattle.shard_store.specs.Beside.{risen_in}
use Rattle.replica_machine.specs.Machines.{MachineState}
use Rattle.replica_machine.specs.Works.{with_merge}

-- Nothing but points has come, and the work has the number beside those of before. Where the disk tells what it holds, those that are new to the content or raise it came to memory, so many, and the content
-- is joined with all.
pub record IsMerged {D : Type 0} (state : D → DiskState) (points : List Point) (old new : MachineState D) (n : ℕ) : Type 0 where
  pub same : new ≡ record old { disk = new.disk; buffered = new.buffered; content = new.content; work = with_merge n old.work }
  pub buffered : (state old.disk).tells ≡ true → new.buffered ≡ joined old.buffered (risen_in old.content points)
  pub content : (state old.disk).tells ≡ true → new.content ≡ joined old.content points
  pub count : (state old.disk).tells ≡ true → n ≡ length (risen_in old.content points)
