use Rattle.std.proofs.Common.{◌≡◌, ℕ, ℤ, ◌+◌, ◌*◌, List, ◌++◌, length, drop, flat_map}
use Rattle.shard_files.specs.wire_bytes.Volumes.{pair_bytes}
use Rattle.fileset_read.specs.Rows.{ArePairs}
use Rattle.fileset_read.proofs.LeftLemmas.{PairsLeft}
use Rattle.fileset_read.proofs.series.read_pairs.Given as goal

abbrev pub invariant-loop-i : goal.invariant-loop-i
invariant-loop-i l = record {
  offset : l.at ≡ l.from + 16 * l._i;
  counted : length l.pairs.items ≡ l._i;
  left : (xs : List (ℕ × ℤ)) (rest : List ℕ) → ArePairs xs → length xs ≡ l.count → drop l.from l.bytes ≡ flat_map pair_bytes xs ++ rest → PairsLeft xs l.pairs.items rest l.bytes l.at;
}
