use Rattle.std.proofs.Common.{◌≡◌, ℕ, ◌+◌, ◌-◌}
use Rattle.block_buffer.specs.Bounds.{bound_at}
use Rattle.block_buffer.proofs.first_times.FirstTimes.room.Given as goal

abbrev pub invariant-loop-self : goal.invariant-loop-self
invariant-loop-self l = (n g : ℕ) → bound_at l.self.spaces.items n g ≡ bound_at l.initial.self.spaces.items n g

abbrev pub decreases-loop-self : goal.decreases-loop-self
decreases-loop-self l = l.space + 1 - l.self.spaces.len
