use Rattle.std.proofs.Common.{◌≡◌, ◌++◌, flat_map, drop}
use Rattle.wire_bytes.specs.Volumes.{pair_bytes}
use Rattle.volume_bytes.proofs.rows.push_pairs.Given as goal

abbrev pub invariant-loop-pair : goal.invariant-loop-pair
invariant-loop-pair l = l.out.items ++ flat_map pair_bytes (drop l.pair-index l.pairs) ≡ l.initial.out.items ++ flat_map pair_bytes l.pairs
