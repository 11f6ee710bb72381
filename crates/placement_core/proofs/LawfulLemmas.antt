-- What the tests of a placement's rules tell.
use Rattle.std.proofs.Common.{◌≡◌, ◌≢◌, ◌⊎◌, ◌↔◌, ℕ, suc, ◌≤◌, List, [], ◌∷◌, filter, length, Bool, true, false, cond, refl, sym, ap, ◌∙◌, inl, inr, All, Any}
use Rattle.m3_model.specs.Ascends.{Ascends}
use Rattle.m3_model.specs.Members.{IsIn}
use Rattle.placement_core.specs.Lawful.{IsApart, IsServing, IsMoving, IsShard, IsSpread, IsWithinLimits, IsLawful}
use Rattle.m3_model.specs.declared.placement.Assignment.{Assignment}
use Rattle.m3_model.specs.declared.placement.Instance.{Instance}
use Rattle.m3_model.specs.declared.placement.Placement.{Placement}
use Rattle.m3_model.specs.declared.placement.ShardState.{ShardState}
use Rattle.m3_model.specs.declared.placement.ShardState.TheVariants.{Initializing, Available, Leaving}
use Rattle.m3_model.proofs.Lists.{All-from_each, IsIn-filter, IsIn-filter_passes, filter-IsIn}
use Rattle.m3_model.proofs.Ascending.{Ascends-weaken}
use Rattle.placement_core.specs.Shards.{Shard, stays, is_holder, is_staying}
use Rattle.placement_core.proofs.HolderLemmas.{holds_of, not_joining}
use Rattle.placement_core.proofs.ListLemmas.{IsIn-from_Any, Any-from_IsIn, each-from_All}
use Rattle.placement_core.specs.LawfulParts.{HasBothNames, IsSmall, AreNamed, IsListed, MovesTo, Moves, ApartBefore, ApartAfter, HasReplicas, HasNodes, IsGood}

-- ---- lists in order

-- the chosen elements are in order where any two elements are that are chosen
ascends_chosen : {X : Type 0} (R : X → X → Type 0) (p : X → Bool) (xs : List X) → Ascends R (filter p xs) ↔ Ascends (λ a b. p a ≡ true → p b ≡ true → R a b) xs
ascends_chosen R p [] = (λ h. tt, λ h. tt)
ascends_chosen R p (x ∷ xs) = by (p x) refl (ascends_chosen R p xs)
  where
    by : (b : Bool) → p x ≡ b → (Ascends R (filter p xs) ↔ Ascends (λ a b. p a ≡ true → p b ≡ true → R a b) xs)
        → Ascends R (cond b (x ∷ filter p xs) (filter p xs)) ↔ (((y : _) → IsIn xs y → p x ≡ true → p y ≡ true → R x y) × Ascends (λ a b. p a ≡ true → p b ≡ true → R a b) xs)
    by true is rest = (λ h. ((λ y m px py. h.0 y (filter-IsIn p xs y m py)), rest.0 h.1), λ h. ((λ y m. h.0 y (IsIn-filter p xs y m) is (IsIn-filter_passes p xs y m)), rest.1 h.1))
    by false is rest = (λ h. ((λ y m px py. let clash : false ≡ true = sym is ∙ px in cc), rest.0 h), λ h. rest.1 h.1)

ascends_both : {X : Type 0} (R S : X → X → Type 0) (xs : List X) → Ascends R xs → Ascends S xs → Ascends (λ a b. R a b × S a b) xs
ascends_both R S [] g h = tt
ascends_both R S (x ∷ xs) g h = ((λ y m. (g.0 y m, h.0 y m)), ascends_both R S xs g.1 h.1)

-- ---- shards

staying_of : (st : ShardState) → st ≢ Leaving → stays st ≡ true
staying_of Initializing ne = refl
staying_of Available ne = refl
staying_of Leaving ne = absurd (ne refl)

not_leaving : (st : ShardState) → stays st ≡ true → st ≢ Leaving
not_leaving st h e = let clash : false ≡ true = ap stays (sym e) ∙ h in cc

-- the replicas are spread where their nodes are listed and any two of them are apart that have to be
pub spread_decided : (instances : List Instance) (shard : Shard) → (All (IsListed instances) shard × Ascends (λ a b. ApartBefore instances a b × ApartAfter instances a b) shard) ↔ IsSpread instances shard
unfolding ApartBefore ApartAfter IsListed
spread_decided instances shard =
    let R = IsApart instances in
    let before = ascends_chosen R is_holder shard in
    let after = ascends_chosen R is_staying shard in (
      λ t. record {
        listed = each-from_All (IsListed instances) shard t.0;
        before = before.1 (Ascends-weaken (λ a b. ApartBefore instances a b × ApartAfter instances a b) (λ a b. is_holder a ≡ true → is_holder b ≡ true → R a b) shard (λ a b h pa pb. h.0 (not_joining a.state pa) (not_joining b.state pb)) t.1);
        after = after.1 (Ascends-weaken (λ a b. ApartBefore instances a b × ApartAfter instances a b) (λ a b. is_staying a ≡ true → is_staying b ≡ true → R a b) shard (λ a b h pa pb. h.1 (not_leaving a.state pa) (not_leaving b.state pb)) t.1);
      },
      λ s. (
        All-from_each (IsListed instances) shard s.listed,
        ascends_both (ApartBefore instances) (ApartAfter instances) shard
            (Ascends-weaken (λ a b. is_holder a ≡ true → is_holder b ≡ true → R a b) (ApartBefore instances) shard (λ a b h na nb. h (holds_of a.state na) (holds_of b.state nb)) (before.0 s.before))
            (Ascends-weaken (λ a b. is_staying a ≡ true → is_staying b ≡ true → R a b) (ApartAfter instances) shard (λ a b h na nb. h (staying_of a.state na) (staying_of b.state nb)) (after.0 s.after)),
      ),
    )

pub moving_decided : (shard : Shard) → Any (Moves shard) shard ↔ IsMoving shard
moving_decided shard = (
  λ h.
      let l = IsIn-from_Any (Moves shard) shard h in
      let j = IsIn-from_Any (MovesTo shard l.0) shard (l.2).2 in
      record {
        leaving = l.0;
        stands = l.1;
        is_leaving = ((l.2).0, (l.2).1);
        joining = j.0;
        joins = j.1;
        is_joining = (j.2).0;
        others = λ a m nl nj. each-from_All (λ (b : Assignment). b.node ≢ (l.0).node → b.node ≢ (j.0).node → IsServing b) shard (j.2).1 a m nl nj;
      },
  λ m. Any-from_IsIn (Moves shard) shard m.leaving m.stands
      ((m.is_leaving).0, (m.is_leaving).1, Any-from_IsIn (MovesTo shard m.leaving) shard m.joining m.joins (m.is_joining, All-from_each (λ (b : Assignment). b.node ≢ (m.leaving).node → b.node ≢ (m.joining).node → IsServing b) shard m.others)),
)

pub shard_decided : (rf version : ℕ) (shard : Shard) → (HasReplicas rf shard × HasNodes version shard) ↔ IsShard rf version shard
shard_decided rf version shard = (
  λ t. record {
    distinct = (t.1).0;
    tenures = each-from_All (λ (a : Assignment). a.tenure ≤ version) shard (t.1).1;
    replicas = elim t.0 as (λ _. (((a : Assignment) → IsIn shard a → IsServing a) × (length shard ≡ rf)) ⊎ (IsMoving shard × (length shard ≡ suc rf))) [
      | inl s ↦ inl (each-from_All IsServing shard s.1, s.0)
      | inr m ↦ inr (m.1, m.0)
    ];
  },
  λ h. (
    elim h.replicas as (λ _. HasReplicas rf shard) [ inl s ↦ inl (s.1, All-from_each IsServing shard s.0) | inr m ↦ inr (m.1, m.0) ],
    (h.distinct, All-from_each (λ (a : Assignment). a.tenure ≤ version) shard h.tenures),
  ),
)

-- ---- the placement

pub limits_decided : (place : Placement) → (IsSmall place × AreNamed place.instances) ↔ IsWithinLimits place
limits_decided place = (
  λ t. record {
    some_replicas = (t.0).0;
    few_replicas = (t.0).1;
    some_shards = (t.0).2;
    few_shards = (t.0).3;
    few_nodes = (t.0).4;
    named = each-from_All HasBothNames place.instances (t.1).0;
    distinct = (t.1).1;
    version_fits = (t.0).5;
  },
  λ h. (
    (h.some_replicas, h.few_replicas, h.some_shards, h.few_shards, h.few_nodes, h.version_fits),
    (All-from_each HasBothNames place.instances h.named, h.distinct),
  ),
)

pub lawful_decided : (place : Placement) → (IsWithinLimits place × All (IsGood place) place.shards) ↔ IsLawful place
lawful_decided place = (
  λ t. record {
    limits = t.0;
    shards = λ shard m. (each-from_All (IsGood place) place.shards t.1 shard m).0;
    spread = λ shard m. (each-from_All (IsGood place) place.shards t.1 shard m).1;
  },
  λ h. (h.limits, All-from_each (IsGood place) place.shards (λ shard m. (h.shards shard m, h.spread shard m))),
)
