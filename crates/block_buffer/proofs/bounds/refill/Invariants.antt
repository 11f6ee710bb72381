use Rattle.std.proofs.Common.{◌≡◌, ℕ, ◌<◌, ◌≤◌, length}
use Rattle.block_buffer.specs.Bounds.{bound_in}
use Rattle.block_buffer.proofs.bounds.refill.Given as goal

abbrev pub invariant-loop-position : goal.invariant-loop-position
invariant-loop-position l = record {
  len : length l.wider ≡ length l.initial.wider;
  kept : (q : ℕ) → q < l.position → bound_in l.wider q ≡ bound_in l.from q;
  others : (q : ℕ) → l.position ≤ q → bound_in l.wider q ≡ bound_in l.initial.wider q;
}
