-- What matchers ask of a series.
use Rattle.std.specs.Prelude.{◌≡◌, ℕ, ◌<◌, List, false, IsTrue, ◌↔◌}
use Rattle.m3_model.specs.Ascends.{Ascends}
use Rattle.m3_model.specs.Members.{IsIn}
use Rattle.m3_model.specs.Tags.{HasTags, MatcherHolds}
use Rattle.m3_model.specs.declared.point.Matcher.{Matcher}
use Rattle.tag_index.specs.Listed.{Listed, IsAt, HasTagAt}

-- every matcher holds for the tags of the identifier
abbrev pub IsMatched : List Matcher → List ℕ → Type 0
IsMatched wanted id = (tags : List (List ℕ × List ℕ)) → HasTags id tags → (m : Matcher) → IsIn wanted m → MatcherHolds tags m

-- every matcher of inequality holds for the tags of the identifier
abbrev pub MeetsUnequal : List Matcher → List ℕ → Type 0
MeetsUnequal wanted id = (tags : List (List ℕ × List ℕ)) → HasTags id tags → (m : Matcher) → IsIn wanted m → m.equal ≡ false → MatcherHolds tags m

-- every matcher of equality holds for the listed series of the ordinal
abbrev pub MeetsEqual : Listed → List Matcher → ℕ → Type 0
MeetsEqual index wanted o = (m : Matcher) → IsIn wanted m → IsTrue m.equal → HasTagAt index m.name m.value o

-- no matcher is one of equality
abbrev pub HasNoEqual : List Matcher → Type 0
HasNoEqual wanted = (m : Matcher) → IsIn wanted m → m.equal ≡ false

-- the ordinals, ascending, of the listed series for which every matcher of equality holds
pub record AreCandidates (index : Listed) (wanted : List Matcher) (ordinals : List ℕ) : Type 0 where
  pub ascend : Ascends ◌<◌ ordinals
  pub exact : (o : ℕ) → IsIn ordinals o ↔ MeetsEqual index wanted o

-- it is the identifier of one of the ordinals, and every matcher of inequality holds for it
abbrev pub IsMatchedBy : Listed → List Matcher → List ℕ → List ℕ → Type 0
IsMatchedBy index wanted ordinals id = (o : ℕ) × IsIn ordinals o × IsAt index o id × MeetsUnequal wanted id
