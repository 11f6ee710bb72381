use Rattle.std.proofs.Common.{drop, ◌⊎◌}
use Rattle.m3_model.specs.Members.{IsIn}
use Rattle.m3_model.specs.Tags.{MatcherHolds}
use Rattle.m3_model.specs.declared.point.Matcher.{Matcher}
use Rattle.tag_query.proofs.matchers.holds.Given as goal

abbrev pub invariant-loop-matcher : goal.invariant-loop-matcher
invariant-loop-matcher l = (m : Matcher) → IsIn l.wanted m → IsIn (drop l.matcher-index l.wanted) m ⊎ MatcherHolds l.tags m
