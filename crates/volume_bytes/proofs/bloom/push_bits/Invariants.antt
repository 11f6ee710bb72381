use Rattle.std.proofs.Common.{◌≡◌, ◌*◌, ◌++◌, length}
use Rattle.wire_bytes.specs.Volumes.{bits_from}
use Rattle.volume_bytes.proofs.bloom.push_bits.Given as goal

abbrev pub invariant-loop-i : goal.invariant-loop-i
invariant-loop-i l = l.out.items ≡ l.initial.out.items ++ bits_from (16 * length l.rows) l.rows 0 l.i
