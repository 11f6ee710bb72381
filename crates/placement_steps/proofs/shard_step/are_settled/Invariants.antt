use Rattle.std.proofs.Common.{◌≡◌, ◌↔◌, drop}
use Rattle.placement_core.specs.Steps.{settled}
use Rattle.placement_steps.proofs.shard_step.are_settled.Given as goal

-- the whole next list is as expected exactly where what is left of it is
abbrev pub invariant-loop-was : goal.invariant-loop-was
invariant-loop-was l = (l.next ≡ settled l.gone l.stays l.old) ↔ (l.rest ≡ settled l.gone l.stays (drop l.was-index l.old))
