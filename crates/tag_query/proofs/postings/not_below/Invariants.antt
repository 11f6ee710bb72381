use Rattle.std.proofs.Common.{◌≡◌, length}
use Rattle.tag_query.specs.Lists.{not_below}
use Rattle.tag_query.proofs.postings.not_below.Given as goal

abbrev pub invariant-loop-rest : goal.invariant-loop-rest
invariant-loop-rest l = not_below l.low l.rest ≡ not_below l.low l.list

abbrev pub decreases-loop-rest : goal.decreases-loop-rest
decreases-loop-rest l = length l.rest
