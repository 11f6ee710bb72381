use Rattle.std.proofs.Common.{◌≡◌, None, take, ℕ, ℤ, map}
use Rattle.block_buffer.specs.Taken.{settled_with}
use Rattle.held_points.proofs.held.HeldPoints.settle.Given as goal

abbrev pub invariant-loop-t : goal.invariant-loop-t
invariant-loop-t l = l.self ≡ record { points = settled_with l.fn.self.points (map (λ (x : ℕ × ℤ). record { ns = l.fn.ns; id = l.fn.series.id; t = x.0; v = x.1 }) (take l.t-index l.fn.series.points)); room = None }
