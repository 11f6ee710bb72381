use Rattle.std.proofs.Common.{◌≡◌, take, None, Some}
use Rattle.std.specs.Prelude.{MatchOption}
use Rattle.cluster_core.specs.Earlier.{last_place}
use Rattle.past_events.proofs.earlier.last_place.Given as goal

abbrev pub invariant-loop-event : goal.invariant-loop-event
invariant-loop-event l = MatchOption l.last (last_place (take l.event-index l.past) ≡ None) (λ place. last_place (take l.event-index l.past) ≡ Some place.now)
