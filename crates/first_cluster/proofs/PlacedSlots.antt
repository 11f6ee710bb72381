-- The slots of a placement's replicas with their tenures, as a loop lists them.
use Rattle.std.proofs.Common.{◌≡◌, ◌<◌, ◌≤◌, ◌+◌, ◌*◌, ℕ, zero, suc, List, [], ◌∷◌, ◌++◌, length, take, get_or, map, refl, sym, ap, ap₂, subst, ◌∙◌, inl, inr, arith, append_assoc, length-append}
use Rattle.std.proofs.lemmas.List.{length-map, map-append}
use Rattle.m3_model.specs.Members.{IsIn}
use Rattle.m3_model.specs.declared.limits.TheConstants.{MOST_NODES}
use Rattle.m3_model.specs.declared.placement.Assignment.{Assignment}
use Rattle.m3_model.specs.declared.placement.Placement.{Placement}
use Rattle.m3_model.proofs.MemberLemmas.{IsIn-append_cases, IsIn-append_left, IsIn-append_right, IsIn-map, map-IsIn}
use Rattle.placement_core.specs.Lawful.{IsLawful}
use Rattle.placement_core.specs.Shards.{Shard, nodes_of}
use Rattle.placement_plan.specs.First.{IsFirstPlacement}
use Rattle.cluster_members.specs.cluster_core.Earlier.{GivesTenure, HasTenure}
use Rattle.cluster_members.specs.cluster_core.Lists.{At}
use Rattle.cluster_members.specs.cluster_core.declared.event.Event.{Event}
use Rattle.cluster_members.specs.cluster_core.declared.event.Event.TheVariants as event
use Rattle.placement_core.proofs.ListLemmas.{Any-from_IsIn, at_within}
use Rattle.cluster_members.specs.replica_exchange.declared.slot.Slot.{Slot}
use Rattle.cluster_members.specs.session_net.Runs.{slot_at}
use Rattle.m3_outside.specs.declared.slot.DiskSlot.{DiskSlot}
use Rattle.first_cluster.specs.Depots.{IsForReplicas, disk_slot_of}
use Rattle.first_cluster.specs.Slots.{slots_from, slots_of, slots_in, start_at, starts_from, starts_of}
use Rattle.first_cluster.specs.declared.start.Start.{Start}
use Rattle.first_cluster.proofs.ListLemmas.{append_nil, take_at, take_whole}

-- the starts of one shard
abbrev pub starts_in : ℕ → Shard → List Start
starts_in k shard = map (start_at k) shard

-- ---- as a loop lists them

-- one more shard
starts_push : (k : ℕ) (shards : List Shard) (shard : Shard) → starts_from k (shards ++ shard ∷ []) ≡ starts_from k shards ++ starts_in (k + length shards) shard
starts_push k [] shard = append_nil (starts_in k shard) ∙ (let same : k ≡ k + 0 = omega arith in ap (λ n. starts_in n shard) same)
starts_push k (s ∷ shards) shard =
    let same : suc k + length shards ≡ k + suc (length shards) = omega arith in
    ap (λ starts. starts_in k s ++ starts) (starts_push (suc k) shards shard) ∙ sym (append_assoc (starts_in k s) (starts_from (suc k) shards) (starts_in (suc k + length shards) shard))
    ∙ ap (λ n. (starts_in k s ++ starts_from (suc k) shards) ++ starts_in n shard) same

take_length : {X : Type 0} (xs : List X) (i : ℕ) → i ≤ length xs → length (take i xs) ≡ i
take_length [] zero h = refl
take_length [] (suc i) h = absurd (omega (arith, h))
take_length (x ∷ xs) zero h = refl
take_length (x ∷ xs) (suc i) h = ap suc (take_length xs i (omega (arith, h)))

-- the starts of one more shard, as a loop reads it
starts_more : (shards : List Shard) (i : ℕ) (d : Shard) → i < length shards → starts_from 0 (take (i + 1) shards) ≡ starts_from 0 (take i shards) ++ starts_in i (get_or shards i d)
starts_more shards i d low =
    let at : 0 + length (take i shards) ≡ i = omega (arith, take_length shards i (omega (arith, low))) in
    ap (starts_from 0) (take_at shards i d low) ∙ starts_push 0 (take i shards) (get_or shards i d) ∙ ap (λ n. starts_from 0 (take i shards) ++ starts_in n (get_or shards i d)) at

-- the start of one more assignment
start_more : (k : ℕ) (shard : Shard) (i : ℕ) (d : Assignment) → i < length shard → starts_in k (take (i + 1) shard) ≡ starts_in k (take i shard) ++ start_at k (get_or shard i d) ∷ []
start_more k shard i d low = ap (starts_in k) (take_at shard i d low) ∙ map-append (start_at k) (take i shard) (get_or shard i d ∷ [])

-- one more assignment
pub start_pushed : (before : List Start) (k : ℕ) (shard : Shard) (i : ℕ) (d : Assignment) (starts new : List Start) → i < length shard → starts ≡ before ++ starts_in k (take i shard) → new ≡ starts ++ start_at k (get_or shard i d) ∷ []
    → new ≡ before ++ starts_in k (take (i + 1) shard)
start_pushed before k shard i d starts new low had push =
    push ∙ ap (λ xs. xs ++ start_at k (get_or shard i d) ∷ []) had ∙ append_assoc before (starts_in k (take i shard)) (start_at k (get_or shard i d) ∷ []) ∙ ap (λ ys. before ++ ys) (sym (start_more k shard i d low))

-- one more shard
pub shard_pushed : (shards all : List Shard) (k : ℕ) (d items : Shard) (n : ℕ) (starts : List Start) → all ≡ shards → k < length all → items ≡ get_or all k d → length items ≤ n → starts ≡ starts_from 0 (take k shards) ++ starts_in k (take n items)
    → starts ≡ starts_from 0 (take (k + 1) shards)
shard_pushed shards all k d items n starts same low item whole had =
    let low_too : k < length shards = subst (λ xs. k < length xs) same low in
    had ∙ ap (λ xs. starts_from 0 (take k shards) ++ starts_in k xs) (take_whole items n whole ∙ item ∙ ap (λ (xs : List Shard). get_or xs k d) same) ∙ sym (starts_more shards k d low_too)

-- all shards
pub shards_pushed : (shards all : List Shard) (k : ℕ) (starts : List Start) → all ≡ shards → length all ≤ k → starts ≡ starts_from 0 (take k shards) → starts ≡ starts_from 0 shards
shards_pushed shards all k starts same whole had = had ∙ ap (starts_from 0) (take_whole shards k (subst (λ (xs : List Shard). length xs ≤ k) same whole))

-- the slot of one more start
pub slot_pushed : (starts : List Start) (i : ℕ) (d : Start) (slots new : List Slot) → i < length starts → slots ≡ slots_in (take i starts) → new ≡ slots ++ (get_or starts i d).slot ∷ [] → new ≡ slots_in (take (i + 1) starts)
slot_pushed starts i d slots new low had push =
    push ∙ ap (λ xs. xs ++ (get_or starts i d).slot ∷ []) had ∙ sym (ap slots_in (take_at starts i d low) ∙ map-append (λ (start : Start). start.slot) (take i starts) (get_or starts i d ∷ []))

-- ---- the slots of starts are those of the placement

in_shard : (k : ℕ) (shard : Shard) → slots_in (starts_in k shard) ≡ map (λ node. slot_at node k) (nodes_of shard)
in_shard k [] = refl
in_shard k (a ∷ shard) = ap (λ slots. slot_at a.node k ∷ slots) (in_shard k shard)

slots_same_from : (k : ℕ) (shards : List Shard) → slots_in (starts_from k shards) ≡ slots_from k shards
slots_same_from k [] = refl
slots_same_from k (shard ∷ shards) = map-append (λ (start : Start). start.slot) (starts_in k shard) (starts_from (suc k) shards) ∙ ap₂ (λ (xs ys : List Slot). xs ++ ys) (in_shard k shard) (slots_same_from (suc k) shards)

pub slots_same : (place : Placement) → slots_in (starts_of place) ≡ slots_of place
slots_same place = slots_same_from 0 place.shards

-- ---- whose they are

-- the start of a replica of one of these shards
pub record IsStartFrom (k : ℕ) (shards : List Shard) (start : Start) : Type 0 where
  pub number : ℕ
  pub shard : Shard
  pub at : At shards number shard
  pub there : IsIn shards shard
  pub shard_is : start.slot.shard ≡ k + number
  pub assignment : Assignment
  pub assigned : IsIn shard assignment
  pub node_is : assignment.node ≡ start.slot.node
  pub tenure_is : assignment.tenure ≡ start.tenure

pub start_from : (k : ℕ) (shards : List Shard) (start : Start) → IsIn (starts_from k shards) start → IsStartFrom k shards start
start_from k [] start i = absurd i
start_from k (shard ∷ shards) start i =
    elim (IsIn-append_cases (starts_in k shard) (starts_from (suc k) shards) start i) as (λ _. IsStartFrom k (shard ∷ shards) start) [
      | inl here ↦
          let a = IsIn-map (start_at k) shard start here in
          let is : k ≡ start.slot.shard = ap (λ (s : Start). s.slot.shard) a.2 in
          record { number = 0; shard = shard; at = refl; there = inl refl; shard_is = omega (arith, is); assignment = a.0; assigned = a.1; node_is = ap (λ (s : Start). s.slot.node) a.2; tenure_is = ap (λ (s : Start). s.tenure) a.2 }
      | inr later ↦
          let of_it = start_from (suc k) shards start later in
          let is = of_it.shard_is in
          record { number = suc of_it.number; shard = of_it.shard; at = of_it.at; there = inr of_it.there; shard_is = omega (arith, is); assignment = of_it.assignment; assigned = of_it.assigned; node_is = of_it.node_is; tenure_is = of_it.tenure_is }
    ]

-- and each replica has a start
pub from_start : (k : ℕ) (shards : List Shard) (number : ℕ) (shard : Shard) (a : Assignment) → At shards number shard → IsIn shard a → IsIn (starts_from k shards) (start_at (k + number) a)
from_start k [] number shard a at i = cc
from_start k (x ∷ shards) zero shard a at i =
    let same : x ≡ shard = cc in
    let none : k + 0 ≡ k = omega arith in
    IsIn-append_left (starts_in k x) (starts_from (suc k) shards) (start_at (k + 0) a) (subst (λ n. IsIn (starts_in k x) (start_at n a)) (sym none) (map-IsIn (start_at k) x a (subst (λ (y : Shard). IsIn y a) (sym same) i)))
from_start k (x ∷ shards) (suc number) shard a at i =
    let next : suc k + number ≡ k + suc number = omega arith in
    IsIn-append_right (starts_in k x) (starts_from (suc k) shards) (start_at (k + suc number) a) (subst (λ n. IsIn (starts_from (suc k) shards) (start_at n a)) next (from_start (suc k) shards number shard a at i))

-- each slot has a start
pub slot_start : (place : Placement) (s : Slot) → IsIn (slots_of place) s → (start : Start) × IsIn (starts_of place) start × (start.slot ≡ s)
slot_start place s i = IsIn-map (λ (start : Start). start.slot) (starts_of place) s (subst (λ slots. IsIn slots s) (sym (slots_same place)) i)

pub start_slot : (place : Placement) (start : Start) → IsIn (starts_of place) start → IsIn (slots_of place) start.slot
start_slot place start i = subst (λ slots. IsIn slots start.slot) (slots_same place) (map-IsIn (λ (start : Start). start.slot) (starts_of place) start i)

-- the placement gives the slot its tenure
pub tenure_given : (place : Placement) (done : List (ℕ × ℕ)) (later : List Event) (start : Start) → IsIn (starts_of place) start → HasTenure (event.Place place done ∷ later) start.slot.node start.slot.shard start.tenure
tenure_given place done later start i =
    let of_it = start_from 0 place.shards start i in
    let number_is = of_it.shard_is in
    let same : of_it.number ≡ start.slot.shard = omega (arith, number_is) in
    Any-from_IsIn (GivesTenure start.slot.node start.slot.shard start.tenure) (event.Place place done ∷ later) (event.Place place done) (inl refl)
    (of_it.shard, subst (λ n. At place.shards n of_it.shard) same of_it.at, Any-from_IsIn (λ (a : Assignment). (a.node ≡ start.slot.node) × (a.tenure ≡ start.tenure)) of_it.shard of_it.assignment of_it.assigned (of_it.node_is, of_it.tenure_is))

-- it is the first one
pub tenure_first : (place : Placement) (rf shards : ℕ) (nodes : List (List ℕ × List ℕ)) → IsFirstPlacement rf shards nodes place → (start : Start) → IsIn (starts_of place) start → start.tenure ≡ 1
tenure_first place rf shards nodes first start i =
    let of_it = start_from 0 place.shards start i in
    sym of_it.tenure_is ∙ ((first.each_shard of_it.shard of_it.there).available of_it.assignment of_it.assigned).1

-- the node of a replica is one of the nodes
pub node_low : (place : Placement) (rf shards : ℕ) (nodes : List (List ℕ × List ℕ)) → IsFirstPlacement rf shards nodes place → (s : Slot) → IsIn (slots_of place) s → s.node < length place.instances
node_low place rf shards nodes first s i =
    let start = slot_start place s i in
    let of_it = start_from 0 place.shards start.0 start.1 in
    let low = (first.each_shard of_it.shard of_it.there).to_nodes of_it.assignment of_it.assigned in
    subst (λ n. n < length place.instances) (of_it.node_is ∙ ap (λ (x : Slot). x.node) start.2) low

-- so its disk isn't the meta disk
pub no_meta : (s : Slot) → s.node < MOST_NODES → IsForReplicas (disk_slot_of s)
no_meta s low same = let node : s.node ≡ 255 = ap (λ (d : DiskSlot). d.node) same in omega (arith, low, node)

-- and its shard is one of the shards
pub shard_low : (place : Placement) (s : Slot) → IsIn (slots_of place) s → s.shard < length place.shards
shard_low place s i =
    let start = slot_start place s i in
    let of_it = start_from 0 place.shards start.0 start.1 in
    let number_is = of_it.shard_is in
    let low = at_within place.shards of_it.number of_it.shard of_it.at in
    let same : start.0.slot.shard ≡ s.shard = ap (λ (x : Slot). x.shard) start.2 in
    omega (arith, low, number_is, same)

-- ---- how many they are

starts_few : (k : ℕ) (shards : List Shard) → ((shard : Shard) → IsIn shards shard → length shard ≤ 5) → length (starts_from k shards) ≤ 5 * length shards
starts_few k [] each = omega arith
starts_few k (shard ∷ shards) each =
    let both = length-append (starts_in k shard) (starts_from (suc k) shards) in
    let own = length-map shard (start_at k) in
    let few = each shard (inl refl) in
    let rest = starts_few (suc k) shards (λ x i. each x (inr i)) in
    omega (arith, both, own, few, rest)

pub few_starts : (place : Placement) (rf shards : ℕ) (nodes : List (List ℕ × List ℕ)) → IsLawful place → IsFirstPlacement rf shards nodes place → length (starts_of place) ≤ 320
few_starts place rf shards nodes lawful first =
    let some = starts_few 0 place.shards (λ shard i. (let all = (first.each_shard shard i).all in let own = first.rf_is in let few = (lawful.limits).few_replicas in omega (arith, all, own, few))) in
    let few = (lawful.limits).few_shards in
    omega (arith, some, few)

pub few_slots : (place : Placement) (rf shards : ℕ) (nodes : List (List ℕ × List ℕ)) → IsLawful place → IsFirstPlacement rf shards nodes place → length (slots_of place) ≤ 320
few_slots place rf shards nodes lawful first =
    let same : length (slots_of place) ≡ length (starts_of place) = ap length (sym (slots_same place)) ∙ length-map (starts_of place) (λ (start : Start). start.slot) in
    let few = few_starts place rf shards nodes lawful first in
    omega (arith, same, few)
