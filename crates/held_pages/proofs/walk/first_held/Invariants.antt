use Rattle.std.proofs.Common.{◌-◌, length}
use Rattle.std.specs.Option.{option_copied}
use Rattle.held_pages.specs.Walks.{EndsInTime, IsPartWalked}
use Rattle.held_pages.proofs.walk.first_held.Given as goal

abbrev pub invariant-steps : goal.invariant-steps
invariant-steps l = EndsInTime l.held.points → IsPartWalked l.held.points (option_copied l.fn.last) l.limit l.walk.first.items l.walk.series l.walk.low

abbrev pub decreases-steps : goal.decreases-steps
decreases-steps l = l.limit - length l.walk.first.items
