use Rattle.std.proofs.Common.{◌≡◌, length}
use Rattle.page_cut.specs.Pages.{in_order}
use Rattle.page_cut.proofs.pages.in_order.Given as goal

abbrev pub invariant-loop-rest : goal.invariant-loop-rest
invariant-loop-rest l = in_order l.rest ≡ in_order l.points

abbrev pub decreases-loop-rest : goal.decreases-loop-rest
decreases-loop-rest l = length l.rest
