-- What a merge of points takes in and leaves.
use Rattle.std.specs.Prelude.{◌≡◌, ℕ, true, List, length}
use Rattle.m3_model.specs.declared.point.Point.{Point}
use Rattle.m3_outside.specs.DiskState.{DiskState}
use Rattle.store_log.specs.listed_volumes.block_buffer.Joins.{joined}
use Rattle.store_log.specs.joined_reads.Beside.{risen_in}
use Rattle.shard_store.specs.Stores.{StoreState}

-- Nothing but points has come. Where the disk tells what it holds, those that are new to the content or raise it came to memory, so many, and the content
-- is joined with all.
pub record HasMerged {D : Type 0} (state : D → DiskState) (points : List Point) (old new : StoreState D) (n : ℕ) : Type 0 where
  pub same : new ≡ record old { disk = new.disk; buffered = new.buffered; content = new.content }
  pub buffered : (state old.disk).tells ≡ true → new.buffered ≡ joined old.buffered (risen_in old.content points)
  pub content : (state old.disk).tells ≡ true → new.content ≡ joined old.content points
  pub count : (state old.disk).tells ≡ true → n ≡ length (risen_in old.content points)
