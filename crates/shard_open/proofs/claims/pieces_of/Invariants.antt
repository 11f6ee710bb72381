use Rattle.std.proofs.Common.{◌≡◌}
use Rattle.shard_open.specs.Claims.{blocks_below, ranges_below}
use Rattle.shard_open.proofs.claims.pieces_of.Given as goal

abbrev pub invariant-loop-ns : goal.invariant-loop-ns
invariant-loop-ns l = record {
  asked : l.asked.items ≡ ranges_below l.ns l.volumes;
  blocks : l.blocks.items ≡ blocks_below l.ns l.volumes;
}
