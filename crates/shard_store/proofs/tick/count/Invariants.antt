use Rattle.std.proofs.Common.{◌≡◌, take}
use Rattle.store_log.specs.listed_volumes.wire_bytes.Volumes.{count_of}
use Rattle.shard_store.proofs.tick.count.Given as goal

abbrev pub invariant-loop-one : goal.invariant-loop-one
invariant-loop-one l = l.count ≡ count_of (take l.one-index l.series)
