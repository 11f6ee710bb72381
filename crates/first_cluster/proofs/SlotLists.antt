-- The slots of a placement: each stands once, and its node is there.
use Rattle.std.proofs.Common.{◌≡◌, ◌≢◌, ◌≤◌, ◌+◌, ℕ, suc, List, [], ◌∷◌, map, refl, sym, ap, subst, ◌∙◌, ◌⊎◌, inl, inr, arith, Bool, true, false}
use Rattle.std.specs.Prelude.{Some, slice_get, slice_index_or}
use Rattle.std.specs.Cmp.{tied_itself}
use Rattle.std.specs.Ordering.{eq_by_cmp, is_eq}
use Rattle.m3_model.specs.Ascends.{Ascends}
use Rattle.m3_model.specs.Members.{IsIn}
use Rattle.m3_model.specs.declared.placement.Assignment.{Assignment}
use Rattle.m3_model.specs.declared.placement.Instance.{Instance}
use Rattle.m3_model.specs.declared.placement.Placement.{Placement}
use Rattle.m3_model.proofs.MemberLemmas.{IsIn-append_cases, IsIn-map}
use Rattle.placement_core.specs.Lawful.{IsLawful}
use Rattle.placement_core.specs.Shards.{Shard, nodes_of, shard_at}
use Rattle.transcripts.specs.Placements.{has_replica}
use Rattle.placement_core.proofs.OrderLemmas.{ascends-map}
use Rattle.cluster_members.specs.replica_calls.Slots.{slot_cmp}
use Rattle.cluster_members.specs.session_net.Runs.{slot_at}
use Rattle.cluster_members.specs.replica_exchange.declared.slot.Slot.{Slot}
use Rattle.cluster_members.proofs.replica_calls_proofs.SlotLemmas.{same_slot, slot_cmp_total}
use Rattle.first_cluster.specs.Slots.{AreApart, slots_from, slots_of}
use Rattle.first_cluster.proofs.ListLemmas.{ascends_append, any_of, ascends_on}

-- ---- one slot or another

pub own_slot : (s q : Slot) → s ≡ q → eq_by_cmp slot_cmp s q ≡ true
own_slot s q same = ap (λ x. eq_by_cmp slot_cmp x q) same ∙ ap is_eq (tied_itself slot_cmp_total q)

pub other_slot : (s q : Slot) → ¬ (s ≡ q) → (t : Bool) → eq_by_cmp slot_cmp s q ≡ t → t ≡ false
other_slot s q other true e = absurd (other (same_slot s q e))
other_slot s q other false e = refl

pub slot_or_other : (s q : Slot) → (s ≡ q) ⊎ ¬ (s ≡ q)
slot_or_other s q = by_test (eq_by_cmp slot_cmp s q) refl
  where
    by_test : (t : Bool) → eq_by_cmp slot_cmp s q ≡ t → (s ≡ q) ⊎ ¬ (s ≡ q)
    by_test true e = inl (same_slot s q e)
    by_test false e = inr (λ same. let clash : true ≡ false = sym (own_slot s q same) ∙ e in cc)

-- a slot is one of these or it isn't
pub in_or_out : (slots : List Slot) (s : Slot) → IsIn slots s ⊎ ¬ IsIn slots s
in_or_out [] s = inr (λ i. i)
in_or_out (x ∷ slots) s =
    elim (slot_or_other x s) as (λ _. ((x ≡ s) ⊎ IsIn slots s) ⊎ ¬ ((x ≡ s) ⊎ IsIn slots s)) [
      | inl same ↦ inl (inl same)
      | inr other ↦ elim (in_or_out slots s) as (λ _. ((x ≡ s) ⊎ IsIn slots s) ⊎ ¬ ((x ≡ s) ⊎ IsIn slots s)) [
        | inl later ↦ inl (inr later)
        | inr never ↦ inr (λ i. elim i as (λ _. ⊥) [ inl e ↦ other e | inr r ↦ never r ])
      ]
    ]

-- ---- the slots of shards

pub slot_from : (shards : List Shard) (k : ℕ) (s : Slot) → IsIn (slots_from k shards) s → (x : Shard) × IsIn shards x × IsIn (nodes_of x) s.node × (k ≤ s.shard)
slot_from [] k s i = absurd i
slot_from (x ∷ shards) k s i =
    elim (IsIn-append_cases (map (λ node. slot_at node k) (nodes_of x)) (slots_from (suc k) shards) s i) as (λ _. (y : Shard) × IsIn (x ∷ shards) y × IsIn (nodes_of y) s.node × (k ≤ s.shard)) [
      | inl here ↦
          let from = IsIn-map (λ node. slot_at node k) (nodes_of x) s here in
          let shard_is : k ≡ s.shard = ap (λ (q : Slot). q.shard) from.2 in
          (x, inl refl, subst (IsIn (nodes_of x)) (ap (λ (q : Slot). q.node) from.2) from.1, omega (arith, shard_is))
      | inr later ↦ let found = slot_from shards (suc k) s later in (found.0, inr found.1, found.2, (let high = found.3 in omega (arith, high)))
    ]

-- the node of a slot is there
pub slot_instance : (place : Placement) → IsLawful place → (s : Slot) → IsIn (slots_of place) s → (one : Instance) × (slice_get place.instances s.node ≡ Some one)
slot_instance place lawful s i =
    let found = slot_from place.shards 0 s i in
    let from = IsIn-map (λ (a : Assignment). a.node) found.0 s.node found.2 in
    let listed = (lawful.spread found.0 found.1).listed from.0 from.1 in
    (listed.0, subst (λ n. slice_get place.instances n ≡ Some listed.0) from.2 listed.1)

slots_apart_from : (shards : List Shard) (k : ℕ) → ((x : Shard) → IsIn shards x → Ascends (λ (a b : Assignment). a.node ≢ b.node) x) → AreApart (slots_from k shards)
slots_apart_from [] k each = tt
slots_apart_from (x ∷ shards) k each =
    ascends_append (λ (a b : Slot). a ≢ b) (map (λ node. slot_at node k) (nodes_of x)) (slots_from (suc k) shards)
    (ascends-map (λ (a b : Slot). a ≢ b) (λ node. slot_at node k) (nodes_of x)
    (ascends-map (λ (n m : ℕ). slot_at n k ≢ slot_at m k) (λ (a : Assignment). a.node) x
    (ascends_on (λ (a b : Assignment). a.node ≢ b.node) (λ (a b : Assignment). slot_at a.node k ≢ slot_at b.node k) x (λ a b other same. other (ap (λ (q : Slot). q.node) same)) (each x (inl refl)))))
    (slots_apart_from shards (suc k) (λ y i. each y (inr i)))
    (λ a b i j same.
    let from = IsIn-map (λ node. slot_at node k) (nodes_of x) a i in
    let here : k ≡ a.shard = ap (λ (q : Slot). q.shard) from.2 in
    let later = (slot_from shards (suc k) b j).3 in
    let equal : a.shard ≡ b.shard = ap (λ (q : Slot). q.shard) same in
    omega (arith, here, later, equal))

-- each slot of a placement stands once
pub slots_apart : (place : Placement) → IsLawful place → AreApart (slots_of place)
slots_apart place lawful = slots_apart_from place.shards 0 (λ x i. (lawful.shards x i).distinct)

-- it is in its own shard of these
slot_shard : (shards : List Shard) (k : ℕ) (s : Slot) → IsIn (slots_from k shards) s → (j : ℕ) × (s.shard ≡ k + j) × IsIn (nodes_of (slice_index_or shards j [])) s.node
slot_shard [] k s i = absurd i
slot_shard (x ∷ shards) k s i =
    elim (IsIn-append_cases (map (λ node. slot_at node k) (nodes_of x)) (slots_from (suc k) shards) s i) as (λ _. (j : ℕ) × (s.shard ≡ k + j) × IsIn (nodes_of (slice_index_or (x ∷ shards) j [])) s.node) [
      | inl here ↦
          let from = IsIn-map (λ node. slot_at node k) (nodes_of x) s here in
          let shard_is : k ≡ s.shard = ap (λ (q : Slot). q.shard) from.2 in
          (0, omega (arith, shard_is), subst (IsIn (nodes_of x)) (ap (λ (q : Slot). q.node) from.2) from.1)
      | inr later ↦ let found = slot_shard shards (suc k) s later in (suc found.0, (let is = found.1 in omega (arith, is)), found.2)
    ]

-- the node of a slot has a replica of its shard
pub slot_replica : (place : Placement) (s : Slot) → IsIn (slots_of place) s → has_replica (Some place) s.shard s.node ≡ true
slot_replica place s i =
    let found = slot_shard place.shards 0 s i in
    let is : found.0 ≡ s.shard = (let e = found.1 in omega (arith, e)) in
    any_of (nodes_of (shard_at place s.shard)) s.node (subst (λ k. IsIn (nodes_of (shard_at place k)) s.node) is found.2)
