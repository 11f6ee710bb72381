use Rattle.std.proofs.Common.{◌↔◌, drop}
use Rattle.placement_core.specs.Steps.{IsDoneList}
use Rattle.placement_core.proofs.DoneLemmas.{IsDoneFrom}
use Rattle.placement_steps.proofs.step.is_done_list.Given as goal

-- the whole list is one exactly where what is left of it is one from the least shard on
abbrev pub invariant-loop-shard : goal.invariant-loop-shard
invariant-loop-shard l = IsDoneList l.shards l.done ↔ IsDoneFrom l.least l.shards (drop l.shard-index l.done)
