use Rattle.std.proofs.Common.{◌≡◌, drop}
use Rattle.placement_core.specs.Steps.{done_at}
use Rattle.placement_plan.proofs.completion.named_in.Given as goal

-- the answer is that of the rest
abbrev pub invariant-loop-shard : goal.invariant-loop-shard
invariant-loop-shard l = done_at l.number l.done ≡ done_at l.number (drop l.shard-index l.done)
