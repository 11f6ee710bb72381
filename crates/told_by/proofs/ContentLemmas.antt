-- Contents made of lists of points, and lists parted by a test.
use Rattle.std.proofs.Common.{◌≡◌, ℤ, ◌+◌, List, [], ◌∷◌, map, refl, sym, ap, ◌∙◌, subst, inl, inr, arith}
use Rattle.std.specs.Prelude.{◌⊎◌, Option, Some, None, slice_get}
use Rattle.std.specs.FinMap as finite
use Rattle.std.specs.Cmp.{tied_itself}
use Rattle.std.specs.declared.cmp.Ordering.{Ordering}
use Rattle.std.specs.declared.cmp.Ordering.TheVariants.{Less, Equal, Greater}
use Rattle.std.proofs.lemmas.Bool.{cases_lt}
use Rattle.std.proofs.lemmas.Option.{none-some}
use Rattle.m3_model.specs.Ascends.{Ascends}
use Rattle.m3_model.specs.Contents.{Contents, Holds, joined_pairs, key_of, point_at}
use Rattle.m3_model.specs.Keys.{key_cmp, key_cmp_total}
use Rattle.m3_model.specs.Members.{IsIn}
use Rattle.m3_model.specs.Rules.{HasExpired}
use Rattle.m3_model.specs.declared.point.Key.{Key}
use Rattle.m3_model.specs.declared.point.Point.{Point}
use Rattle.m3_model.specs.declared.rules.Rules.{Rules}
use Rattle.m3_model.specs.declared.rules.Space.{Space}
use Rattle.m3_model.proofs.JoinLemmas.{joined_holds, joined_source}
use Rattle.m3_model.proofs.Keyed.{key_cmp-IsAntisymmetric}
use Rattle.m3_model.proofs.MemberLemmas.{IsIn-map, map-IsIn}
use Rattle.placement_core.proofs.ListLemmas.{Any-from_IsIn, IsIn-from_Any}
use Rattle.cluster_core.specs.Answers.{IsKeyBelow}
use Rattle.cluster_core.specs.Replicas.{IsGone}
use Rattle.cluster_core.specs.declared.replica_state.ReplicaState.{ReplicaState}

-- ---- contents

abbrev pair_of : Point → Key × ℤ
pair_of p = (key_of p, p.v)

-- the content for which the points stand
abbrev pub content_by : List Point → Contents
content_by ps = joined_pairs finite.empty (map pair_of ps)

pub holds_by : (ps : List Point) (p : Point) → IsIn ps p → Holds (content_by ps) p
holds_by ps p m = joined_holds key_cmp_total key_cmp-IsAntisymmetric (map pair_of ps) finite.empty (pair_of p) (map-IsIn pair_of ps p m)

pub source_by : (ps : List Point) (k : Key) (v : ℤ) → finite.get (content_by ps) k ≡ Some v → IsIn ps (point_at k v)
source_by ps k v e =
    elim (joined_source key_cmp_total key_cmp-IsAntisymmetric (map pair_of ps) finite.empty k v e) as (λ _. IsIn ps (point_at k v)) [
      | inl m ↦ let o = IsIn-map pair_of ps (k, v) m in subst (IsIn ps) (ap (λ (x : Key × ℤ). point_at x.0 x.1) o.2) o.1
      | inr none ↦ absurd (none-some v (sym (finite.get-empty key_cmp k) ∙ none))
    ]

-- a point stands there with its very value where no other point of its key is among them
pub exact_by : (ps : List Point) (p : Point) → IsIn ps p → ((q : Point) → IsIn ps q → key_of q ≡ key_of p → q.v ≡ p.v) → finite.get (content_by ps) (key_of p) ≡ Some p.v
exact_by ps p m one = let h = holds_by ps p m in h.stands ∙ ap Some (one (point_at (key_of p) h.value) (source_by ps (key_of p) h.value h.stands) refl)

-- ---- tests

-- the elements of a list for which one fact was found, in their order, where each has it or another one
pub record Parted {X : Type 0} (P Q : X → Type 0) (Before : X → X → Type 0) (xs : List X) : Type 0 where
  pub kept : List X
  pub sound : (x : X) → IsIn kept x → IsIn xs x × P x
  pub all : (x : X) → IsIn xs x → IsIn kept x ⊎ Q x
  pub order : Ascends Before xs → Ascends Before kept

pub part : {X : Type 0} (P Q : X → Type 0) (Before : X → X → Type 0) → ((x : X) → P x ⊎ Q x) → (xs : List X) → Parted P Q Before xs
part P Q Before test [] = record { kept = []; sound = λ x none. absurd none; all = λ x none. absurd none; order = λ a. tt }
part P Q Before test (y ∷ ys) = by (test y) (part P Q Before test ys)
  where
    by : P y ⊎ Q y → Parted P Q Before ys → Parted P Q Before (y ∷ ys)
    by (inl p) r = record {
      kept = y ∷ r.kept;
      sound = λ x m. elim m as (λ _. ((y ≡ x) ⊎ IsIn ys x) × P x) [ inl e ↦ (inl e, subst P e p) | inr k ↦ (inr (r.sound x k).0, (r.sound x k).1) ];
      all = λ x m. elim m as (λ _. ((y ≡ x) ⊎ IsIn r.kept x) ⊎ Q x) [ inl e ↦ inl (inl e) | inr k ↦ elim (r.all x k) as (λ _. ((y ≡ x) ⊎ IsIn r.kept x) ⊎ Q x) [ inl h ↦ inl (inr h) | inr q ↦ inr q ] ];
      order = λ a. ((λ z m. a.0 z (r.sound z m).0), r.order a.1);
    }
    by (inr q) r = record {
      kept = r.kept;
      sound = λ x m. (inr (r.sound x m).0, (r.sound x m).1);
      all = λ x m. elim m as (λ _. IsIn r.kept x ⊎ Q x) [ inl e ↦ inr (subst Q e q) | inr k ↦ r.all x k ];
      order = λ a. r.order a.1;
    }

-- some element has the fact, or none has
pub find : {X : Type 0} (P : X → Type 0) → ((x : X) → P x ⊎ (P x → ⊥)) → (xs : List X) → ((x : X) × IsIn xs x × P x) ⊎ ((x : X) → IsIn xs x → P x → ⊥)
find P test [] = inr (λ x none. absurd none)
find P test (y ∷ ys) =
    elim (test y) as (λ _. ((x : _) × IsIn (y ∷ ys) x × P x) ⊎ ((x : _) → IsIn (y ∷ ys) x → P x → ⊥)) [
      | inl p ↦ inl (y, inl refl, p)
      | inr np ↦ elim (find P test ys) as (λ _. ((x : _) × IsIn (y ∷ ys) x × P x) ⊎ ((x : _) → IsIn (y ∷ ys) x → P x → ⊥)) [
        | inl h ↦ inl (h.0, inr h.1, h.2)
        | inr none ↦ inr (λ x m p. elim m as (λ _. ⊥) [ inl e ↦ np (subst P (sym e) p) | inr k ↦ none x k p ])
      ]
    ]

pub below_not_same : (a b : Key) → IsKeyBelow a b → a ≡ b → ⊥
below_not_same a b below same = let tied : key_cmp a a ≡ Equal = tied_itself key_cmp_total a in let bad : Less ≡ Equal = sym below ∙ ap (key_cmp a) (sym same) ∙ tied in cc

same_key : (a b : Key) → (a ≡ b) ⊎ (a ≡ b → ⊥)
same_key a b = by (key_cmp a b) refl
  where
    by : (o : Ordering) → key_cmp a b ≡ o → (a ≡ b) ⊎ (a ≡ b → ⊥)
    by Less e = inr (below_not_same a b e)
    by Equal e = inl (key_cmp-IsAntisymmetric a b e)
    by Greater e = inr (λ same. let tied : key_cmp a a ≡ Equal = tied_itself key_cmp_total a in let bad : Greater ≡ Equal = sym e ∙ ap (key_cmp a) (sym same) ∙ tied in cc)

-- the list has a point of the key, or none
pub has_key : (ps : List Point) (k : Key) → ((p : Point) × IsIn ps p × (key_of p ≡ k)) ⊎ ((p : Point) → IsIn ps p → key_of p ≡ k → ⊥)
has_key ps k = find (λ p. key_of p ≡ k) (λ p. same_key (key_of p) k) ps

expired : (rules : Rules) (p : Point) → HasExpired rules p ⊎ (HasExpired rules p → ⊥)
expired rules p = by (slice_get rules.spaces p.ns) refl
  where
    by : (o : Option Space) → slice_get rules.spaces p.ns ≡ o → HasExpired rules p ⊎ (HasExpired rules p → ⊥)
    by None e = inr (λ h. let bad : None ≡ Some h.space = sym e ∙ h.stands in cc)
    by (Some space) e =
        elim (cases_lt rules.now (p.t + space.retention)) as (λ _. HasExpired rules p ⊎ (HasExpired rules p → ⊥)) [
          | inl lt ↦ inr (λ h. let both : Some space ≡ Some h.space = sym e ∙ h.stands in let same : space ≡ h.space = cc in omega (arith, lt, h.ended, ap (λ (x : Space). x.retention) same))
          | inr ge ↦ inl (record { space = space; stands = e; ended = omega (arith, ge) })
        ]

-- a tick dropped the point's key, or none did
pub gone : (r : ReplicaState) (p : Point) → IsGone r p ⊎ (¬ IsGone r p)
gone r p =
    elim (find (λ rules. HasExpired rules p) (λ rules. expired rules p) r.ticks) as (λ _. IsGone r p ⊎ (¬ IsGone r p)) [
      | inl h ↦ inl (Any-from_IsIn (λ rules. HasExpired rules p) r.ticks h.0 h.1 h.2)
      | inr none ↦ inr (λ g. let h = IsIn-from_Any (λ rules. HasExpired rules p) r.ticks g in none h.0 h.1 h.2)
    ]

pub below_or_not : (a b : Key) → IsKeyBelow a b ⊎ (IsKeyBelow a b → ⊥)
below_or_not a b = by (key_cmp a b)
  where
    by : (o : Ordering) → (o ≡ Less) ⊎ (o ≡ Less → ⊥)
    by Less = inl refl
    by Equal = inr (λ e. cc)
    by Greater = inr (λ e. cc)

-- ---- what an answer leaves of a replica's points

abbrev pub by_key : Point → Point → Type 0
by_key a b = IsKeyBelow (key_of a) (key_of b)

module _ (r : ReplicaState) (answered : List Point) where
  -- a point that isn't gone, and whose key the answer hasn't
  abbrev pub Stays : Point → Type 0
  Stays p = (¬ IsGone r p) × ((q : Point) → IsIn answered q → key_of q ≡ key_of p → ⊥)

  abbrev pub Goes : Point → Type 0
  Goes p = IsGone r p ⊎ ((q : Point) × IsIn answered q × (key_of q ≡ key_of p))

  stays_or_goes : (p : Point) → Stays p ⊎ Goes p
  stays_or_goes p =
      elim (gone r p) as (λ _. Stays p ⊎ Goes p) [
        | inl g ↦ inr (inl g)
        | inr ng ↦ elim (has_key answered (key_of p)) as (λ _. Stays p ⊎ Goes p) [ inl k ↦ inr (inr k) | inr nk ↦ inl (ng, nk) ]
      ]

  pub left : Parted Stays Goes by_key r.sure
  left = part Stays Goes by_key stays_or_goes r.sure
