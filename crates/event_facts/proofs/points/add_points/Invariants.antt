use Rattle.std.proofs.Common.{◌≡◌, ◌++◌, take, map}
use Rattle.event_facts.proofs.points.add_points.Given as goal

abbrev pub invariant-loop-t : goal.invariant-loop-t
invariant-loop-t l = l.points.items ≡ l.fn.points.items ++ map (λ x. record { ns = l.ns; id = l.series.id; t = x.0; v = x.1 }) (take l.t-index l.series.points)
