use Rattle.std.proofs.Common.{◌≡◌, ℕ, List, drop, false}
use Rattle.std.specs.Prelude.{◌⊎◌}
use Rattle.m3_model.specs.Members.{IsIn}
use Rattle.m3_model.specs.Tags.{HasTags, MatcherHolds}
use Rattle.m3_model.specs.declared.point.Matcher.{Matcher}
use Rattle.held_points.proofs.matching.meets_unequal.Given as goal

abbrev pub invariant-loop-matcher : goal.invariant-loop-matcher
invariant-loop-matcher l = (tags : List (List ℕ × List ℕ)) → HasTags l.id tags → (m : Matcher) → IsIn l.wanted m → IsIn (drop l.matcher-index l.wanted) m ⊎ (m.equal ≡ false → MatcherHolds tags m)
