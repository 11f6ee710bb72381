-- The placement that comes next, and what is so once it stands.
use Rattle.std.proofs.Common.{◌≡◌, ◌≢◌, ◌≤◌, ◌<◌, ◌+◌, ◌-◌, ℕ, zero, suc, List, [], ◌∷◌, ◌++◌, length, refl, sym, ap, subst, ◌∙◌, inl, inr, arith, Bool, true, false, cond, fold, IsPermutation}
use Rattle.std.specs.Prelude.{◌⊎◌, ⊤, Option, Some, None, Result, Ok, is_none, nat_eq, not, ◌&&◌, slice_get}
use Rattle.std.specs.FinMap.{get}
use Rattle.std.specs.List.{cons_option, flat_map}
use Rattle.std.proofs.lemmas.Grind.{fold-append}
use Rattle.m3_model.specs.Members.{IsIn}
use Rattle.m3_model.specs.declared.placement.Instance.{Instance}
use Rattle.m3_model.specs.declared.placement.Placement.{Placement}
use Rattle.m3_model.specs.declared.rules.MetaState.{MetaState}
use Rattle.m3_model.specs.declared.rules.Rules.{Rules}
use Rattle.m3_model.proofs.MemberLemmas.{IsIn-append_cases}
use Rattle.m3_outside.specs.DiskState.{DiskState}
use Rattle.net_plan.specs.declared.late_write.LateWrite.{LateWrite}
use Rattle.placement_core.specs.Lawful.{IsLawful}
use Rattle.placement_core.specs.Shards.{nodes_of, shard_at}
use Rattle.placement_core.specs.Steps.{IsStep, KeepsNames}
use Rattle.placement_core.proofs.ListLemmas.{IsIn-filter, at_within, chosen, filter-IsIn}
use Rattle.placement_core.proofs.OrderLemmas.{ascends-filter}
use Rattle.cluster_core.specs.Earlier.{IsSend, clock_after, last_clock, last_place, place_after}
use Rattle.cluster_core.specs.Legal.{IsNextPlace}
use Rattle.cluster_core.specs.Replicas.{after, fresh, replica, step_of}
use Rattle.cluster_core.specs.declared.event.Event.{Event}
use Rattle.cluster_core.specs.declared.event.Event.TheVariants as event
use Rattle.cluster_core.specs.declared.event.StepCall.TheVariants as call
use Rattle.cluster_core.specs.declared.event.StepReply.TheVariants as reply
use Rattle.cluster_core.specs.declared.replica_state.ReplicaState.{ReplicaState}
use Rattle.node_calls.specs.transcripts.Placements.{has_replica}
use Rattle.node_calls.specs.replica_exchange.MachineCalls.{HasRoom}
use Rattle.node_calls.specs.replica_exchange.Promises.{Ends}
use Rattle.node_calls.specs.replica_exchange.declared.call_err.CallErr.{CallErr}
use Rattle.node_calls.specs.replica_exchange.declared.slot.Slot.{Slot}
use Rattle.node_calls.specs.replica_calls.Calls.{MayCall, Tracked}
use Rattle.node_calls.specs.replica_calls.Slots.{MemberMap}
use Rattle.node_calls.specs.session_net.Ready.{IsCallable, IsReady, Places}
use Rattle.node_calls.specs.session_net.Runs.{Ran, Step, slot_at, step_in, steps_of}
use Rattle.node_calls.proofs.session_net_proofs.ReadyLemmas.{AreQuiet, any_after, may_call, ready_after, there_after}
use Rattle.node_calls.proofs.ListLemmas.{filter_few}
use Rattle.node_calls.proofs.RunLemmas.{quiet_exchange, quiet_flat, ran_ok}
use Rattle.first_cluster.specs.Slots.{AreApart, slots_of}
use Rattle.first_cluster.proofs.PlacedSlots.{shard_low}
use Rattle.first_cluster.proofs.SlotLists.{slot_instance, slots_apart}
use Rattle.cluster_placements.specs.Slots.{AreSlotsIn, left_slots, new_slots}
use Rattle.cluster_placements.specs.Steps.{end_at, place_ending}
use Rattle.cluster_placements.proofs.FewLemmas.{few_slots}
use Rattle.cluster_placements.proofs.OrderLemmas.{apart_again, in_before}

-- ---- events

pub next_place : {D : Type 0} (meta : MetaState) (replicas : Tracked D) (bag : List LateWrite) (next : Placement) → IsReady meta replicas bag → IsStep meta.place next [] → IsNextPlace replicas.events next []
next_place meta replicas bag next ready step = record { last = meta.place; last_is = ready.place; step = step; joined = λ k d low. absurd (omega (arith, low)) }

ends_quiet : (left : List Slot) → AreQuiet (flat_map end_at left)
ends_quiet left = quiet_flat end_at (λ s. quiet_exchange s.node s.shard call.End reply.Done) left

-- calls may be made by the placement that was made
pub ready_placed : {D : Type 0} (disk : D → DiskState) (meta later : MetaState) (old mid new : Tracked D) (bag : List LateWrite) (next : Placement) (done : List (ℕ × ℕ)) (left : List Slot) → IsReady meta old bag → IsLawful next
    → ((n s : ℕ) → IsIn (nodes_of (shard_at next s)) n → get old.members (slot_at n s) ≢ None) → Ran disk old (place_ending next done) mid → Ran disk mid (flat_map end_at left) new → later ≡ record meta { place = next } → IsReady later new bag
ready_placed {D} disk meta later old mid new bag next done left was lawful there placed ended is =
    subst (λ (m : MetaState). IsReady m new bag) (sym is) (ready_after disk (record meta { place = next }) mid new bag bag (flat_map end_at left) at_first ended (ends_quiet left) (λ one i. inl i))
  where
    at_first : IsReady (record meta { place = next }) mid bag
    at_first = record {
      clock = ap last_clock placed.grew ∙ fold-append clock_after None old.events (place_ending next done) ∙ was.clock;
      place = ap last_place placed.grew ∙ fold-append place_after None old.events (place_ending next done);
      lawful = lawful;
      there = λ n s m. there_after disk old mid (place_ending next done) (slot_at n s) placed (there n s m);
      late = λ one m. let sent = was.late one m in record { sent = any_after disk (IsSend one.version one.shard one.point) old mid (place_ending next done) placed sent.sent; there = there_after disk old mid (place_ending next done) (slot_at one.node one.shard) placed sent.there };
    }

-- and they still may by each that they could go by before
pub callable_placed : {D : Type 0} (disk : D → DiskState) (later was : MetaState) (old mid new : Tracked D) (bag : List LateWrite) (next : Placement) (done : List (ℕ × ℕ)) (left : List Slot) → IsCallable was old bag → Ran disk old (place_ending next done) mid → Ran disk mid (flat_map end_at left) new
    → IsReady later new bag → later.rules ≡ was.rules → IsCallable was new bag
callable_placed disk later was old mid new bag next done left before placed ended ready same = record {
  clock = ready.clock ∙ ap (λ (rules : Rules). Some rules) same;
  place = any_after disk (Places was.place) mid new (flat_map end_at left) ended (any_after disk (Places was.place) old mid (place_ending next done) placed before.place);
  lawful = before.lawful;
  there = λ n s m. there_after disk mid new (flat_map end_at left) (slot_at n s) ended (there_after disk old mid (place_ending next done) (slot_at n s) placed (before.there n s m));
  late = ready.late;
}

-- so does the one that stood
pub serves_placed : {D : Type 0} (disk : D → DiskState) (meta later : MetaState) (old mid new : Tracked D) (bag : List LateWrite) (past kept : List Placement) (next : Placement) (done : List (ℕ × ℕ)) (left : List Slot) → IsReady meta old bag → ((p : Placement) → IsIn past p → IsCallable (record meta { place = p }) old bag)
    → Ran disk old (place_ending next done) mid → Ran disk mid (flat_map end_at left) new → IsReady later new bag → later ≡ record meta { place = next } → kept ≡ past ++ meta.place ∷ [] → (p : Placement) → IsIn kept p → IsCallable (record later { place = p }) new bag
serves_placed disk meta later old mid new bag past kept next done left was serves placed ended ready is all p i =
    subst (λ (m : MetaState). IsCallable (record m { place = p }) new bag) (sym is) (callable_placed disk later (record meta { place = p }) old mid new bag next done left before placed ended ready (ap (λ (m : MetaState). m.rules) is))
  where
    before : IsCallable (record meta { place = p }) old bag
    before = elim (IsIn-append_cases past (meta.place ∷ []) p (subst (λ xs. IsIn xs p) all i)) as (λ _. IsCallable (record meta { place = p }) old bag) [
      | inl earlier ↦ serves p earlier
      | inr last ↦ elim last as (λ _. IsCallable (record meta { place = p }) old bag) [
        | inl same ↦ subst (λ (q : Placement). IsCallable (record meta { place = q }) old bag) same (may_call meta old bag was)
        | inr none ↦ absurd none
      ]
    ]

-- an end of a tenure is never refused, where the replica is there and there is room
pub end_done : {D : Type 0} (state : D → DiskState) (slot : Slot) (result : Result ⊤ CallErr) (old new : Tracked D) → get old.members slot ≢ None → HasRoom 2 old.events
    → MayCall state slot call.End (λ (u : ⊤). reply.Done) (Ends state) (λ u. u) result old new → (u : ⊤) → result ≡ Ok u → Ran state old (end_at slot) new
end_done state slot result old new there room h u is = (ran_ok state slot call.End (λ (u : ⊤). reply.Done) (Ends state) (λ u. u) result old new there room h u is).1

-- ---- slots

none_by : {X : Type 0} (o : Option X) → is_none o ≡ true → o ≡ None
none_by None e = refl
none_by (Some x) e = cc

by_none : {X : Type 0} (o : Option X) → o ≡ None → is_none o ≡ true
by_none None e = refl
by_none (Some x) e = cc

either : {X : Type 0} (o : Option X) → (o ≡ None) ⊎ (o ≢ None)
either None = inl refl
either (Some x) = inr (λ e. cc)

module _ {D : Type 0} (members : MemberMap D) (next : Placement) where
  pub new_free : (s : Slot) → IsIn (new_slots members next) s → get members s ≡ None
  new_free s i = none_by (get members s) (chosen (λ t. is_none (get members t)) (slots_of next) s i)

  pub new_placed : (s : Slot) → IsIn (new_slots members next) s → IsIn (slots_of next) s
  new_placed s i = IsIn-filter (λ t. is_none (get members t)) (slots_of next) s i

  pub is_new : (s : Slot) → IsIn (slots_of next) s → get members s ≡ None → IsIn (new_slots members next) s
  is_new s i none = filter-IsIn (λ t. is_none (get members t)) (slots_of next) s i (by_none (get members s) none)

  pub new_apart : IsLawful next → AreApart (new_slots members next)
  new_apart lawful = ascends-filter (λ a b. a ≢ b) (λ t. is_none (get members t)) (slots_of next) (slots_apart next lawful)

-- a placement has few slots, and so few that another takes away
pub few_left : (place next : Placement) → IsLawful place → length (left_slots place next) ≤ 1024
few_left place next lawful =
    let few = few_slots (slots_of place) (λ s i. let one = slot_instance place lawful s i in let low = at_within place.instances s.node one.0 one.1 in let most = lawful.limits.few_nodes in omega (arith, low, most))
    (λ s i. let low = shard_low place s i in let most = lawful.limits.few_shards in omega (arith, low, most)) (slots_apart place lawful) in
    let kept = filter_few (λ s. not (has_replica (Some next) s.shard s.node)) (slots_of place) in
    omega (arith, few, kept)

-- earlier nodes keep their positions, so there are no fewer
pub no_fewer : (old next : List Instance) → KeepsNames old next → length old ≤ length next
no_fewer old next keeps = by (length old) refl
  where
    by : (n : ℕ) → length old ≡ n → length old ≤ length next
    by zero e = omega (arith, e)
    by (suc n) e =
        let last = there old n (omega (arith, e)) in
        let kept = keeps n last.0 last.1 in
        let low = at_within next n kept.0 kept.1 in
        omega (arith, e, low)
      where
        there : (xs : List Instance) (i : ℕ) → i < length xs → (x : Instance) × (slice_get xs i ≡ Some x)
        there [] i low = absurd (omega (arith, low))
        there (x ∷ xs) zero low = (x, refl)
        there (x ∷ xs) (suc i) low = there xs i (omega (arith, low))

-- all slots that have a replica then
module _ {D : Type 0} (members : MemberMap D) (place next : Placement) (old slots : List Slot) (lawful : IsLawful next) (step : IsStep place next []) (were : AreSlotsIn place old) (free : (s : Slot) → IsIn old s → get members s ≢ None)
    (all : IsPermutation (old ++ new_slots members next) slots) where
  together_apart : (xs ys : List Slot) → AreApart xs → AreApart ys → ((s : Slot) → IsIn xs s → IsIn ys s → ⊥) → AreApart (xs ++ ys)
  together_apart [] ys ax ay across = ay
  together_apart (x ∷ xs) ys ax ay across = (
    λ y i. elim (IsIn-append_cases xs ys y i) as (λ _. x ≢ y) [ inl a ↦ ax.0 y a | inr b ↦ λ same. across x (inl refl) (subst (IsIn ys) (sym same) b) ],
    together_apart xs ys ax.1 ay (λ s i j. across s (inr i) j),
  )

  pub slots_then : AreSlotsIn next slots
  slots_then = record {
    apart = apart_again (old ++ new_slots members next) slots all (together_apart old (new_slots members next) were.apart (new_apart members next lawful) (λ s i j. free s i (new_free members next s j)));
    nodes = λ s i. elim (IsIn-append_cases old (new_slots members next) s (in_before (old ++ new_slots members next) slots all s i)) as (λ _. s.node < length next.instances) [
      | inl had ↦ let low = were.nodes s had in let more = no_fewer place.instances next.instances step.names in omega (arith, low, more)
      | inr is ↦ let one = slot_instance next lawful s (new_placed members next s is) in at_within next.instances s.node one.0 one.1
    ];
    shards = λ s i. elim (IsIn-append_cases old (new_slots members next) s (in_before (old ++ new_slots members next) slots all s i)) as (λ _. s.shard < length next.shards) [
      | inl had ↦ let low = were.shards s had in let same = step.count in omega (arith, low, same)
      | inr is ↦ shard_low next s (new_placed members next s is)
    ];
  }

  pub slots_few : length slots ≤ 1024
  slots_few =
      few_slots slots (λ s i. let low = slots_then.nodes s i in let most = lawful.limits.few_nodes in omega (arith, low, most)) (λ s i. let low = slots_then.shards s i in let most = lawful.limits.few_shards in omega (arith, low, most)) slots_then.apart

-- ---- a slot without a step in the list

module _ (s : Slot) where
  step_apart : (r : ReplicaState) (e : Event) → step_in s e ≡ None → step_of s.node s.shard r e ≡ r
  step_apart r (event.Step n k c a) none = by (nat_eq n s.node && nat_eq k s.shard) refl
    where
      by : (t : Bool) → (nat_eq n s.node && nat_eq k s.shard) ≡ t → step_of s.node s.shard r (event.Step n k c a) ≡ r
      by true is = let step : Step = record { call = c; reply = a } in let bad : Some step ≡ None = sym (ap (λ t. cond t (Some step) None) is) ∙ none in cc
      by false is = ap (λ t. cond t (after r c a) r) is
  step_apart r _ none = refl

  fold_apart : (r : ReplicaState) (events : List Event) → steps_of s events ≡ [] → fold (step_of s.node s.shard) r events ≡ r
  fold_apart r [] none = refl
  fold_apart r (e ∷ events) none = by (step_in s e) refl (λ q rest. fold_apart q events rest)
    where
      by : (o : Option Step) → step_in s e ≡ o → ((q : ReplicaState) → steps_of s events ≡ [] → fold (step_of s.node s.shard) q events ≡ q) → fold (step_of s.node s.shard) (step_of s.node s.shard r e) events ≡ r
      by None is rest = ap (λ q. fold (step_of s.node s.shard) q events) (step_apart r e is) ∙ rest r (sym (ap (λ o. cons_option o (steps_of s events)) is) ∙ none)
      by (Some step) is rest = let bad : step ∷ steps_of s events ≡ [] = sym (ap (λ o. cons_option o (steps_of s events)) is) ∙ none in cc

  pub fresh_by : (events : List Event) → steps_of s events ≡ [] → replica s.node s.shard events ≡ fresh
  fresh_by events none = fold_apart fresh events none
