use Rattle.std.proofs.Common.{◌≡◌, ◌↔◌, drop}
use Rattle.placement_steps.proofs.shard_step.are_same.Given as goal

-- the whole lists are the same exactly where what is left of them is
abbrev pub invariant-loop-was : goal.invariant-loop-was
invariant-loop-was l = (l.next ≡ l.old) ↔ (l.rest ≡ drop l.was-index l.old)
