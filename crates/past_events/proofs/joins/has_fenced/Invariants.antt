use Rattle.std.proofs.Common.{◌↔◌, drop}
use Rattle.cluster_core.specs.Joins.{FencedAt, HasCover}
use Rattle.cluster_core.specs.Lists.{AfterSome}
use Rattle.past_events.proofs.joins.has_fenced.Given as goal

-- the whole list has what is looked for exactly where what is left of it has
abbrev pub invariant-loop-position : goal.invariant-loop-position
invariant-loop-position l = AfterSome (FencedAt l.peer l.shard l.tenure) (HasCover l.shard l.peer l.node l.since) l.since ↔ AfterSome (FencedAt l.peer l.shard l.tenure) (HasCover l.shard l.peer l.node l.since) (drop l.position l.since)
