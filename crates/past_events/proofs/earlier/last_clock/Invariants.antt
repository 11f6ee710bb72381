use Rattle.std.proofs.Common.{◌≡◌, take, None, Some}
use Rattle.std.specs.Prelude.{MatchOption}
use Rattle.cluster_core.specs.Earlier.{last_clock}
use Rattle.past_events.proofs.earlier.last_clock.Given as goal

abbrev pub invariant-loop-event : goal.invariant-loop-event
invariant-loop-event l = MatchOption l.last (last_clock (take l.event-index l.past) ≡ None) (λ ruled. last_clock (take l.event-index l.past) ≡ Some ruled.now)
