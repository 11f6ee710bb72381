-- A cluster at its start: no node is stopped, no fate is set, and all Places of the list are of one placement.
use Rattle.std.proofs.Common.{◌≡◌, ◌<◌, ◌+◌, ℕ, zero, suc, List, [], ◌∷◌, replicate, refl, sym, ap, subst, arith, false}
use Rattle.std.specs.Prelude.{Some, slice_get, unwrap_or}
use Rattle.std.specs.FinMap.{get-empty}
use Rattle.std.proofs.lemmas.Option.{same_Some}
use Rattle.m3_model.specs.Members.{IsIn}
use Rattle.m3_model.specs.declared.act.Fate.TheVariants as fate
use Rattle.m3_model.specs.declared.placement.Assignment.{Assignment}
use Rattle.m3_model.specs.declared.placement.Instance.{Instance}
use Rattle.m3_model.specs.declared.placement.Placement.{Placement}
use Rattle.m3_model.specs.declared.rules.Rules.{Rules}
use Rattle.net_plan.specs.FateKeys.{fate_key_cmp}
use Rattle.net_plan.specs.Fates.{fate_of, fates_of}
use Rattle.net_plan.specs.declared.fate_key.FateKey.{FateKey}
use Rattle.placement_core.proofs.ListLemmas.{IsIn-from_Any}
use Rattle.cluster_core.specs.Earlier.{GivesTenure, HasTenure}
use Rattle.cluster_core.specs.Lists.{At}
use Rattle.cluster_core.specs.declared.event.Event.{Event}
use Rattle.cluster_core.specs.declared.event.Event.TheVariants as event
use Rattle.cluster_core.proofs.ListLemmas.{any_at, at_same}
use Rattle.node_calls.specs.replica_exchange.declared.slot.Slot.{Slot}
use Rattle.node_calls.specs.session_net.Runs.{slot_at}
use Rattle.first_cluster.specs.Slots.{slots_of, start_at}
use Rattle.first_cluster.proofs.PlacedSlots.{from_start, slot_start, start_slot, tenure_given}
use Rattle.told_runs.specs.told_by.Hears.{IsNamedBy}

-- ---- what is set

-- where no node is stopped, each runs
pub runs_at : (n node : ℕ) → node < n → slice_get (replicate n false) node ≡ Some false
runs_at zero node low = absurd (omega (arith, low))
runs_at (suc n) zero low = refl
runs_at (suc n) (suc node) low = runs_at n node (omega (arith, low))

-- where no fates are set, all is delivered
pub delivers_all : (key : FateKey) → fate_of (fates_of []) key ≡ fate.Deliver
delivers_all key = ap (λ o. unwrap_or o fate.Deliver) (get-empty fate_key_cmp key)

-- ---- tenures

-- a tenure that a Place gives is that of a slot of its placement
pub given_slot : (place : Placement) (done : List (ℕ × ℕ)) (n s tenure : ℕ) → GivesTenure n s tenure (event.Place place done) → IsIn (slots_of place) (slot_at n s)
given_slot place done n s tenure gives =
    let a = IsIn-from_Any (λ (x : Assignment). (x.node ≡ n) × (x.tenure ≡ tenure)) gives.0 gives.2 in
    let start = from_start 0 place.shards s gives.0 a.0 gives.1 a.1 in
    let zero_s : 0 + s ≡ s = omega arith in
    subst (λ k. IsIn (slots_of place) (slot_at n k)) zero_s (subst (λ k. IsIn (slots_of place) (slot_at k (0 + s))) a.2.0 (start_slot place (start_at (0 + s) a.0) start))

module _ (place : Placement) (rules : Rules) (rest events : List Event) (are : events ≡ event.Place place [] ∷ event.Clock rules ∷ rest) (none : (i : ℕ) (p : Placement) (done : List (ℕ × ℕ)) → At rest i (event.Place p done) → ⊥) where
  abbrev list : List Event
  list = event.Place place [] ∷ event.Clock rules ∷ rest

  in_list : (i : ℕ) (p : Placement) (done : List (ℕ × ℕ)) → At list i (event.Place p done) → p ≡ place
  in_list zero p done at = (let same : event.Place place [] ≡ event.Place p done = same_Some (event.Place place []) (event.Place p done) at in let is : place ≡ p = cc in sym is)
  in_list (suc zero) p done at = (let clash : event.Clock rules ≡ event.Place p done = same_Some (event.Clock rules) (event.Place p done) at in cc)
  in_list (suc (suc i)) p done at = absurd (none i p done at)

  -- the only Place is the first event
  pub place_at : (i : ℕ) (p : Placement) (done : List (ℕ × ℕ)) → At events i (event.Place p done) → p ≡ place
  place_at i p done at = in_list i p done (subst (λ es. At es i (event.Place p done)) are at)

  -- so tenures are of slots of the placement
  pub tenure_slot : (n s tenure : ℕ) → HasTenure events n s tenure → IsIn (slots_of place) (slot_at n s)
  tenure_slot n s tenure has = (let e = any_at (GivesTenure n s tenure) events has in by e.0 e.1 e.2 e.3)
    where
      by : (i : ℕ) (e : Event) → At events i e → GivesTenure n s tenure e → IsIn (slots_of place) (slot_at n s)
      by i (event.Place p done) at gives = subst (λ (q : Placement). IsIn (slots_of q) (slot_at n s)) (place_at i p done at) (given_slot p done n s tenure gives)
      by i e at gives = absurd gives

  -- and each of these has one
  pub slot_tenure : (s : Slot) → IsIn (slots_of place) s → (tenure : ℕ) × HasTenure events s.node s.shard tenure
  slot_tenure s i =
      let start = slot_start place s i in
      let has = tenure_given place [] (event.Clock rules ∷ rest) start.0 start.1 in
      ((start.0).tenure, subst (λ es. HasTenure es s.node s.shard (start.0).tenure) (sym are) (subst (λ (q : Slot). HasTenure list q.node q.shard (start.0).tenure) start.2 has))

  -- nodes have the placement's names
  pub named_at : (n : ℕ) (own : Instance) → slice_get place.instances n ≡ Some own → IsNamedBy events n own.name
  named_at n own at i p done other there is = ap (λ (x : Instance). x.name) (at_same place.instances n other own (subst (λ (q : Placement). At q.instances n other) (place_at i p done there) is) at)
