use Rattle.std.proofs.Common.{ℕ, List, drop}
use Rattle.std.specs.Prelude.{◌⊎◌}
use Rattle.m3_model.specs.Members.{IsIn}
use Rattle.m3_model.specs.Tags.{HasTags, MatcherHolds}
use Rattle.m3_model.specs.declared.point.Matcher.{Matcher}
use Rattle.volume_points.proofs.matching.is_matched.Given as goal

-- the matchers so far hold
abbrev pub invariant-loop-matcher : goal.invariant-loop-matcher
invariant-loop-matcher l = (tags : List (List ℕ × List ℕ)) → HasTags l.id tags → (m : Matcher) → IsIn l.wanted m → IsIn (drop l.matcher-index l.wanted) m ⊎ MatcherHolds tags m
