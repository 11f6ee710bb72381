use Rattle.std.proofs.Common.{◌≡◌, None, take}
use Rattle.m3_model.specs.Contents.{content_of}
use Rattle.held_points.proofs.held.hold.Given as goal

abbrev pub invariant-loop-point : goal.invariant-loop-point
invariant-loop-point l = l.held ≡ record { points = content_of (take l.point-index l.points); room = None }
