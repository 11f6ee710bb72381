use Rattle.std.proofs.Common.{◌≡◌, map, take}
use Rattle.shard_open.specs.Loads.{known_of}
use Rattle.store_log.specs.listed_volumes.Listed.{known_in}
use Rattle.shard_store.proofs.volumes.listed.Given as goal

abbrev pub invariant-loop-volume : goal.invariant-loop-volume
invariant-loop-volume l = known_in l.listed.items ≡ map known_of (take l.volume-index l.opened)
