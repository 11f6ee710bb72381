use Rattle.std.proofs.Common.{◌≡◌, take}
use Rattle.m3_model.specs.Reads.{points_in}
use Rattle.event_facts.proofs.points.points_in.Given as goal

abbrev pub invariant-loop-one : goal.invariant-loop-one
invariant-loop-one l = l.points.items ≡ points_in l.ns (take l.one-index l.series)
