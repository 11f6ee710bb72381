use Rattle.std.proofs.Common.{◌≡◌, map, take}
use Rattle.joined_reads.specs.held_pages.Rises.{points_of}
use Rattle.store_log.proofs.taking.lent.Given as goal

abbrev pub invariant-loop-rise : goal.invariant-loop-rise
invariant-loop-rise l = map (λ p. p.now) l.points.items ≡ points_of (take l.rise-index l.rises)
