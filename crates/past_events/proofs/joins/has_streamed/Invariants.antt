use Rattle.std.proofs.Common.{◌↔◌, drop}
use Rattle.cluster_core.specs.Joins.{BeganWith, HasFenced}
use Rattle.cluster_core.specs.Lists.{AfterSome}
use Rattle.past_events.proofs.joins.has_streamed.Given as goal

-- the whole list has what is looked for exactly where what is left of it has
abbrev pub invariant-loop-position : goal.invariant-loop-position
invariant-loop-position l = AfterSome (BeganWith l.node l.shard l.tenure) (HasFenced l.shard l.peer l.node l.tenure) l.past ↔ AfterSome (BeganWith l.node l.shard l.tenure) (HasFenced l.shard l.peer l.node l.tenure) (drop l.position l.past)
