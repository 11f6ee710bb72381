use Rattle.std.proofs.Common.{◌≡◌, ◌↔◌, drop, map}
use Rattle.placement_core.specs.Steps.{turned}
use Rattle.placement_steps.proofs.shard_step.are_turned.Given as goal

-- the whole next list is as expected exactly where what is left of it is
abbrev pub invariant-loop-was : goal.invariant-loop-was
invariant-loop-was l = (l.next ≡ map (turned l.node l.state) l.old) ↔ (l.rest ≡ map (turned l.node l.state) (drop l.was-index l.old))
