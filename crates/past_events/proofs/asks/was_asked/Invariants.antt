use Rattle.std.proofs.Common.{◌≤◌, take}
use Rattle.past_events.proofs.CountLemmas.{Counted, Asking, Answering}
use Rattle.past_events.proofs.asks.was_asked.Given as goal

abbrev pub invariant-loop-position : goal.invariant-loop-position
invariant-loop-position l = Counted (Asking l.event) (take l.position l.past) l.asks × Counted (Answering l.event) (take l.position l.past) l.answered × (l.asks ≤ l.position) × (l.answered ≤ l.position)
