use Rattle.std.proofs.Common.{drop}
use Rattle.held_points.proofs.CandidateLemmas.{AreFoundBefore}
use Rattle.held_points.proofs.candidates.candidates.Given as goal

abbrev pub invariant-loop-matcher : goal.invariant-loop-matcher
invariant-loop-matcher l = AreFoundBefore l.index l.wanted (drop l.matcher-index l.wanted) l.found
