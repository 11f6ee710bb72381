use Rattle.std.proofs.Common.{◌↔◌, drop}
use Rattle.cluster_core.specs.Joins.{HasCover}
use Rattle.past_events.proofs.CoverLemmas.{FromSome}
use Rattle.past_events.proofs.joins.has_cover.Given as goal

-- there is a cover exactly where what is left has one from one of the keys on
abbrev pub invariant-loop-event : goal.invariant-loop-event
invariant-loop-event l = HasCover l.shard l.peer l.node l.since l.later ↔ FromSome l.shard l.peer l.node l.since l.keys.items (drop l.event-index l.later)
