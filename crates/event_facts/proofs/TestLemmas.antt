-- What the tests of a row tell.
use Rattle.std.proofs.Common.{◌≡◌, ◌↔◌, ℕ, zero, suc, ◌+◌, List, [], ◌∷◌, ◌++◌, map, take, refl, sym, ap, ◌∙◌, subst, inl, inr, All, Any, Bool, true, false, IsTrue, length, ◌<◌, add-one, append-nil, append_assoc}
use Rattle.std.specs.Prelude.{MatchBool}
use Rattle.std.proofs.lemmas.Option.{same_Some}
use Rattle.m3_model.specs.Ascends.{Ascends}
use Rattle.m3_model.specs.Members.{IsIn}
use mathlib.Core.Bool.{beq}
use Rattle.m3_model.specs.Reads.{Covers, points_in, IsOrdered}
use Rattle.m3_model.specs.Tags.{IsBelow, HasTags, MatcherHolds}
use Rattle.m3_model.specs.declared.point.Matcher.{Matcher}
use Rattle.m3_model.specs.declared.point.Point.{Point}
use Rattle.m3_model.specs.declared.point.Series.{Series}
use Rattle.m3_model.proofs.Lists.{All-from_each}
use Rattle.placement_core.proofs.ListLemmas.{IsIn-from_Any, Any-from_IsIn, each-from_All}
use Rattle.cluster_core.specs.Answers.{HoldsOf}
use Rattle.cluster_core.specs.Lists.{At}

pub any_in : {X : Type 0} (xs : List X) (x : X) → Any (λ y. y ≡ x) xs ↔ IsIn xs x
any_in xs x = (λ h. let a = IsIn-from_Any (λ y. y ≡ x) xs h in subst (IsIn xs) a.2 a.1, λ m. Any-from_IsIn (λ y. y ≡ x) xs x m refl)

-- one of the points covers it
pub covers_any : (points : List Point) (p : Point) → Any (λ q. Covers (q ∷ []) p) points ↔ Covers points p
covers_any points p = (
  λ h.
      let a = IsIn-from_Any (λ q. Covers (q ∷ []) p) points h in
      let c = a.2 in
      record { value = c.value; at_least = c.at_least; stands = elim c.stands as (λ _. IsIn points (record p { v = c.value })) [ inl same ↦ subst (IsIn points) same a.1 | inr none ↦ absurd none ] },
  λ c. Any-from_IsIn (λ q. Covers (q ∷ []) p) points (record p { v = c.value }) c.stands (record { value = c.value; at_least = c.at_least; stands = inl refl }),
)

-- it can't be that an identifier has no list of tags at all
pub some_tags : (id : List ℕ) → ¬ ¬ ((tags : List (List ℕ × List ℕ)) × HasTags id tags)
some_tags id none = none ([], inr (refl, λ others s. none (others, inl s)))

holds_by : (equal : Bool) (is : Bool) (P : Type 0) → (IsTrue is ↔ P) → (is ≡ equal → MatchBool equal P (¬ P)) × (MatchBool equal P (¬ P) → is ≡ equal)
holds_by true true P t = (λ e. t.0 refl, λ h. refl)
holds_by true false P t = (λ e. cc, λ h. let clash : false ≡ true = t.1 h in clash)
holds_by false true P t = (λ e. cc, λ h. absurd (h (t.0 refl)))
holds_by false false P t = (λ e p. let clash : false ≡ true = t.1 p in cc, λ h. refl)

-- a matcher holds of all lists of tags that the identifier has, where the look-up of its tag says so
pub matcher_decided : (id : List ℕ) (m : Matcher) (found : Bool) → ((tags : List (List ℕ × List ℕ)) → HasTags id tags → (IsTrue found ↔ IsIn tags (m.name, m.value)))
    → (found ≡ m.equal → (tags : List (List ℕ × List ℕ)) → HasTags id tags → MatcherHolds tags m) × (((tags : List (List ℕ × List ℕ)) → HasTags id tags → MatcherHolds tags m) → found ≡ m.equal)
matcher_decided id m found told = (
  λ e tags has. (holds_by m.equal found (IsIn tags (m.name, m.value)) (told tags has)).0 e,
  λ all. by_not_not found m.equal (λ ne. some_tags id (λ t. ne ((holds_by m.equal found (IsIn t.0 (m.name, m.value)) (told t.0 t.1)).1 (all t.0 t.1)))),
)
  where
    by_not_not : (a b : Bool) → ¬ ¬ (a ≡ b) → a ≡ b
    by_not_not true true h = refl
    by_not_not false false h = refl
    by_not_not true false h = absurd (h (λ e. cc))
    by_not_not false true h = absurd (h (λ e. cc))

-- matchers hold one by one, of each list of tags
pub matchers_decided : (id : List ℕ) (wanted : List Matcher) → All (HoldsOf id) wanted ↔ ((tags : List (List ℕ × List ℕ)) → HasTags id tags → (m : Matcher) → IsIn wanted m → MatcherHolds tags m)
unfolding HoldsOf
matchers_decided id wanted = (
  λ h tags has m there. each-from_All (HoldsOf id) wanted h m there tags has,
  λ h. All-from_each (HoldsOf id) wanted (λ m there tags has. h tags has m there),
)

-- identifiers ascend, and so do the times of each series, none of which is empty
pub ordered_decided : (series : List Series) → Ascends (λ a b. IsBelow a.id b.id) series → All (λ s. Ascends (λ a b. a.0 < b.0) s.points × (0 < length s.points)) series ↔ IsOrdered series
ordered_decided series ids = (
  λ h.
      let each = each-from_All (λ (s : Series). Ascends (λ a b. a.0 < b.0) s.points × (0 < length s.points)) series h in
      record { ids = ids; times = λ s m. (each s m).0; none_empty = λ s m. (each s m).1 },
  λ o. All-from_each (λ (s : Series). Ascends (λ a b. a.0 < b.0) s.points × (0 < length s.points)) series (λ s m. (o.times s m, o.none_empty s m)),
)

-- ---- the points of an answer

points_suc : (ns : ℕ) (series : List Series) (i : ℕ) (x : Series) → At series i x → points_in ns (take (suc i) series) ≡ points_in ns (take i series) ++ map (λ y. record { ns = ns; id = x.id; t = y.0; v = y.1 }) x.points
points_suc ns [] i x e = cc
points_suc ns (y ∷ ys) zero x e =
    append-nil (map (λ z. record { ns = ns; id = y.id; t = z.0; v = z.1 }) y.points) ∙ ap (λ (w : Series). map (λ z. record { ns = ns; id = w.id; t = z.0; v = z.1 }) w.points) (same_Some y x e)
points_suc ns (y ∷ ys) (suc i) x e =
    ap (λ zs. map (λ z. record { ns = ns; id = y.id; t = z.0; v = z.1 }) y.points ++ zs) (points_suc ns ys i x e)
    ∙ sym (append_assoc (map (λ z. record { ns = ns; id = y.id; t = z.0; v = z.1 }) y.points) (points_in ns (take i ys)) (map (λ z. record { ns = ns; id = x.id; t = z.0; v = z.1 }) x.points))

pub points_more : (ns : ℕ) (series : List Series) (i : ℕ) (x : Series) → At series i x → points_in ns (take (i + 1) series) ≡ points_in ns (take i series) ++ map (λ y. record { ns = ns; id = x.id; t = y.0; v = y.1 }) x.points
points_more ns series i x at = ap (λ n. points_in ns (take n series)) (add-one i) ∙ points_suc ns series i x at

pub beq_same : (a b : Bool) → IsTrue (beq a b) ↔ (a ≡ b)
beq_same true true = (λ e. refl, λ e. refl)
beq_same false false = (λ e. refl, λ e. refl)
beq_same true false = (λ e. cc, λ e. cc)
beq_same false true = (λ e. cc, λ e. cc)
