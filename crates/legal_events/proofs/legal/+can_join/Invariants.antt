use Rattle.std.proofs.Common.{ℕ, ◌<◌, ◌++◌, List, length}
use Rattle.m3_model.specs.Reads.{points_in}
use Rattle.m3_model.specs.declared.point.Series.{Series}
use Rattle.cluster_core.specs.Earlier.{GaveAnswer}
use Rattle.legal_events.specs.Fetches.{CanJoin}
use Rattle.cluster_core.specs.Lists.{At}
use Rattle.cluster_core.specs.declared.event.Event.{Event}
use Rattle.legal_events.proofs.legal.+can_join.Given as goal

-- no event so far has an answer with which the others can join
abbrev pub invariant-loop-event : goal.invariant-loop-event
invariant-loop-event l =
    (j : ℕ) (e : Event) (answer : List Series) → j < l.event-index → At l.since j e → GaveAnswer l.node l.fetch answer e → ¬ CanJoin l.since l.fetch l.ns l.rest (l.so_far ++ points_in l.ns answer) l.joined

abbrev pub decreases-can_join : goal.decreases-can_join
decreases-can_join l = length l.nodes.now
