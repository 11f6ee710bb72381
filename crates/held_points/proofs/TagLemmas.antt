-- Tags of identifiers, and what matchers ask of them.
use Rattle.std.proofs.Common.{◌≡◌, ℕ, List, [], refl, sym, subst, inl, inr, Bool, true, false, IsTrue, ◌↔◌}
use Rattle.std.specs.Prelude.{MatchBool}
use Rattle.m3_model.specs.Members.{IsIn}
use Rattle.m3_model.specs.Identifiers.{IsIdentifier}
use Rattle.m3_model.specs.Tags.{HasTags, MatcherHolds}
use Rattle.m3_model.specs.declared.point.Matcher.{Matcher}

-- a text can't be without a list of tags
pub has_tags : (id : List ℕ) → ((tags : List (List ℕ × List ℕ)) → HasTags id tags → ⊥) → ⊥
has_tags id none = none [] (inr (refl, λ others spelled. none others (inl spelled)))

-- what is no identifier has no tags
pub no_identifier : (id : List ℕ) → (IsIdentifier id → ⊥) → HasTags id []
no_identifier id h = inr (refl, λ others spelled. h (inr (others, spelled)))

abbrev tag_of : Matcher → List ℕ × List ℕ
tag_of m = (m.name, m.value)

-- a matcher of inequality holds where the tag isn't there
pub unequal_holds : (tags : List (List ℕ × List ℕ)) (m : Matcher) → m.equal ≡ false → (IsIn tags (tag_of m) → ⊥) → MatcherHolds tags m
unequal_holds tags m e none = subst (λ b. MatchBool b (IsIn tags (tag_of m)) (IsIn tags (tag_of m) → ⊥)) (sym e) none

pub holds_unequal : (tags : List (List ℕ × List ℕ)) (m : Matcher) → m.equal ≡ false → MatcherHolds tags m → IsIn tags (tag_of m) → ⊥
holds_unequal tags m e h = subst (λ b. MatchBool b (IsIn tags (tag_of m)) (IsIn tags (tag_of m) → ⊥)) e h

-- one of equality where it is there
pub equal_holds : (tags : List (List ℕ × List ℕ)) (m : Matcher) → m.equal ≡ true → IsIn tags (tag_of m) → MatcherHolds tags m
equal_holds tags m e there = subst (λ b. MatchBool b (IsIn tags (tag_of m)) (IsIn tags (tag_of m) → ⊥)) (sym e) there

pub holds_equal : (tags : List (List ℕ × List ℕ)) (m : Matcher) → m.equal ≡ true → MatcherHolds tags m → IsIn tags (tag_of m)
holds_equal tags m e h = subst (λ b. MatchBool b (IsIn tags (tag_of m)) (IsIn tags (tag_of m) → ⊥)) e h

-- a matcher that isn't ruled out holds, if it is one of inequality
pub not_ruled_out : (tags : List (List ℕ × List ℕ)) (m : Matcher) (b : Bool) → b ≡ false → (IsTrue b ↔ ((m.equal ≡ false) × IsIn tags (tag_of m))) → m.equal ≡ false → MatcherHolds tags m
not_ruled_out tags m b off h e = unequal_holds tags m e (λ there. let on : b ≡ true = h.1 (e, there) in cc)
