use Rattle.std.proofs.Common.{◌≡◌, ◌++◌, drop}
use Rattle.shard_open.specs.Claims.{blocks_from, ranges_from}
use Rattle.shard_open.proofs.claims.push_namespace.Given as goal

-- what was appended so far, and then what the other volumes give
abbrev pub invariant-loop-volume : goal.invariant-loop-volume
invariant-loop-volume l = record {
  asked : l.asked.items ++ ranges_from l.ns l.from (drop l.volume-index l.volumes) ≡ l.fn.asked.items ++ ranges_from l.ns 0 l.volumes;
  blocks : l.blocks.items ++ blocks_from l.ns l.from (drop l.volume-index l.volumes) ≡ l.fn.blocks.items ++ blocks_from l.ns 0 l.volumes;
}
