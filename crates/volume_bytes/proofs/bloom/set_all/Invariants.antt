use Rattle.std.proofs.Common.{◌≡◌, ℕ, ◌*◌, ◌<◌, length, take, get_or, false}
use Rattle.wire_bytes.specs.Volumes.{is_set}
use Rattle.volume_bytes.proofs.bloom.set_all.Given as goal

-- the bits of the first rows are set
abbrev pub invariant-loop-row : goal.invariant-loop-row
invariant-loop-row l = record {
  long : length l.bits ≡ 16 * length l.rows;
  set : (k : ℕ) → k < 16 * length l.rows → get_or l.bits k false ≡ is_set (16 * length l.rows) (take l.row-index l.rows) k;
}
