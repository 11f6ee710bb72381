use Rattle.std.proofs.Common.{◌≡◌, map, take}
use Rattle.shard_store.proofs.volumes.heads.Given as goal

abbrev pub invariant-loop-volume : goal.invariant-loop-volume
invariant-loop-volume l = l.heads.items ≡ map (λ v. v.head) (take l.volume-index l.listed)
