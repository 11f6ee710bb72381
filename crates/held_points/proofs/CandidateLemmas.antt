-- The ordinals that are left, matcher after matcher.
use Rattle.std.proofs.Common.{◌≡◌, ℕ, ◌<◌, List, [], ◌∷◌, refl, sym, ap, ◌∙◌, subst, inl, inr, Bool, true, false, ◌↔◌}
use Rattle.std.specs.Prelude.{◌⊎◌, Option, Some, None, IfSome, MatchOption}
use Rattle.m3_model.specs.Ascends.{Ascends}
use Rattle.m3_model.specs.Members.{IsIn}
use Rattle.m3_model.specs.declared.point.Matcher.{Matcher}
use Rattle.tag_index.specs.Listed.{Listed, HasTagAt}
use Rattle.held_points.specs.Matched.{HasNoEqual, MeetsEqual, AreCandidates}

-- the ordinals for which the matchers of equality hold, but for those among the rest
pub record AreLeft (index : Listed) (wanted rest : List Matcher) (ordinals : List ℕ) : Type 0 where
  pub ascend : Ascends ◌<◌ ordinals
  pub sound : (o : ℕ) → IsIn ordinals o → (m : Matcher) → IsIn wanted m → m.equal ≡ true → IsIn rest m ⊎ HasTagAt index m.name m.value o
  pub whole : (o : ℕ) → MeetsEqual index wanted o → IsIn ordinals o

-- the same where a matcher of equality came before the rest; otherwise all of these are among the rest
abbrev pub AreFoundBefore : Listed → List Matcher → List Matcher → Option (List ℕ) → Type 0
AreFoundBefore index wanted rest found = MatchOption found ((m : Matcher) → IsIn wanted m → m.equal ≡ true → IsIn rest m) (AreLeft index wanted rest)

-- at first none was found
pub none_found : (index : Listed) (wanted : List Matcher) → AreFoundBefore index wanted wanted None
none_found index wanted = λ m there e. there

pub ascends_found : (index : Listed) (wanted rest : List Matcher) (found : Option (List ℕ)) → AreFoundBefore index wanted rest found → IfSome found (Ascends ◌<◌)
ascends_found index wanted rest None h = tt
ascends_found index wanted rest (Some os) h = h.ascend

not_equal : (b : Bool) → (b ≡ true → ⊥) → b ≡ false
not_equal true h = absurd (h refl)
not_equal false h = refl

-- at last none is left
pub all_found : (index : Listed) (wanted : List Matcher) (found : Option (List ℕ)) → AreFoundBefore index wanted [] found → MatchOption found (HasNoEqual wanted) (AreCandidates index wanted)
all_found index wanted None h = λ m there. not_equal m.equal (λ e. h m there e)
all_found index wanted (Some os) h = record {
  ascend = h.ascend;
  exact = λ o. ((λ m x there e. elim (h.sound o m x there e) as (λ _. HasTagAt index x.name x.value o) [ inl none ↦ absurd none | inr tag ↦ tag ]), h.whole o);
}

-- a matcher that isn't of equality leaves what was found
pub unequal_next : (index : Listed) (wanted rest : List Matcher) (m : Matcher) (found : Option (List ℕ)) → m.equal ≡ false → AreFoundBefore index wanted (m ∷ rest) found → AreFoundBefore index wanted rest found
unequal_next index wanted rest m None off h = λ x there e. later (h x there e) e
  where
    later : {x : Matcher} → (m ≡ x) ⊎ IsIn rest x → x.equal ≡ true → IsIn rest x
    later {x} s e = elim s as (λ _. IsIn rest x) [ inl same ↦ let wrong : false ≡ true = sym off ∙ ap (λ (y : Matcher). y.equal) same ∙ e in absurd (cc) | inr r ↦ r ]
unequal_next index wanted rest m (Some os) off h = record {
  ascend = h.ascend;
  sound = λ o i x there e. elim (h.sound o i x there e) as (λ _. IsIn rest x ⊎ HasTagAt index x.name x.value o) [
    | inl s ↦ elim s as (λ _. IsIn rest x ⊎ HasTagAt index x.name x.value o) [ inl same ↦ let wrong : false ≡ true = sym off ∙ ap (λ (y : Matcher). y.equal) same ∙ e in absurd (cc) | inr r ↦ inl r ]
    | inr tag ↦ inr tag
  ];
  whole = h.whole;
}

-- one of equality narrows it
pub equal_next : (index : Listed) (wanted rest : List Matcher) (m : Matcher) (found : Option (List ℕ)) (os : List ℕ) → IsIn wanted m → m.equal ≡ true → AreFoundBefore index wanted (m ∷ rest) found
    → Ascends ◌<◌ os → ((o : ℕ) → IsIn os o ↔ (IfSome found (λ before. IsIn before o) × HasTagAt index m.name m.value o)) → AreLeft index wanted rest os
equal_next index wanted rest m None os in_wanted on h ascend exact = record {
  ascend = ascend;
  sound = λ o i x there e. elim (h x there e) as (λ _. IsIn rest x ⊎ HasTagAt index x.name x.value o) [
    | inl same ↦ inr (subst (λ (y : Matcher). HasTagAt index y.name y.value o) same ((exact o).0 i).1)
    | inr r ↦ inl r
  ];
  whole = λ o met. (exact o).1 (tt, met m in_wanted on);
}
equal_next index wanted rest m (Some before) os in_wanted on h ascend exact = record {
  ascend = ascend;
  sound = λ o i x there e. elim (h.sound o ((exact o).0 i).0 x there e) as (λ _. IsIn rest x ⊎ HasTagAt index x.name x.value o) [
    | inl s ↦ elim s as (λ _. IsIn rest x ⊎ HasTagAt index x.name x.value o) [
      | inl same ↦ inr (subst (λ (y : Matcher). HasTagAt index y.name y.value o) same ((exact o).0 i).1)
      | inr r ↦ inl r
    ]
    | inr tag ↦ inr tag
  ];
  whole = λ o met. (exact o).1 (h.whole o met, met m in_wanted on);
}
