-- A first cluster: its disks taken, and its replicas begun.
use Rattle.std.proofs.Common.{◌≡◌, ◌≢◌, ◌≤◌, ◌<◌, ◌+◌, ◌*◌, ℕ, zero, suc, List, [], ◌∷◌, length, take, refl, sym, ap, subst, ◌∙◌, inl, inr, arith}
use Rattle.std.specs.Prelude.{◌⊎◌, Option, Some, None, slice_get, slice_index_or}
use Rattle.std.specs.FinMap.{get}
use Rattle.std.specs.List.{All}
use Rattle.std.proofs.lemmas.List.Elements.{All-nil}
use Rattle.m3_model.specs.Ascends.{Ascends}
use Rattle.m3_model.specs.Members.{IsIn}
use Rattle.m3_model.proofs.MemberLemmas.{map-IsIn}
use Rattle.m3_model.specs.declared.answer.Answer.{Answer}
use Rattle.m3_model.specs.declared.answer.Answer.TheVariants as answer
use Rattle.m3_model.specs.declared.limits.TheConstants.{MOST_NAMESPACES, MOST_NODES, MOST_SHARDS, TIME_END}
use Rattle.m3_model.specs.declared.placement.Assignment.{Assignment}
use Rattle.m3_model.specs.declared.placement.Placement.{Placement}
use Rattle.m3_model.specs.declared.rules.MetaState.{MetaState}
use Rattle.m3_model.specs.declared.rules.Rules.{Rules}
use Rattle.m3_model.specs.declared.rules.Space.{Space}
use Rattle.placement_plan.specs.First.{IsFirstPlacement, IsInitial}
use Rattle.m3_outside.specs.Depots.{Depot}
use Rattle.m3_outside.specs.DiskState.{DiskState}
use Rattle.m3_outside.specs.Slots.{Out}
use Rattle.m3_outside.specs.declared.slot.DiskSlot.{DiskSlot}
use Rattle.cluster_members.specs.cluster_core.declared.event.Event.{Event}
use Rattle.cluster_members.specs.cluster_core.declared.event.StepReply.{StepReply}
use Rattle.net_plan.specs.declared.late_write.LateWrite.{LateWrite}
use Rattle.placement_core.specs.Lawful.{IsLawful}
use Rattle.placement_core.specs.Shards.{Shard, nodes_of, shard_at}
use Rattle.cluster_members.specs.replica_exchange.MachineCalls.{HasRoom}
use Rattle.cluster_members.specs.replica_exchange.declared.member.Member.{Member}
use Rattle.cluster_members.specs.replica_exchange.declared.slot.Slot.{Slot}
use Rattle.cluster_members.specs.replica_calls.Calls.{Tracked, first_member}
use Rattle.cluster_members.specs.replica_calls.Slots.{MemberMap}
use Rattle.cluster_members.specs.session_net.Ready.{IsReady}
use Rattle.cluster_members.specs.session_net.Runs.{IsStepped, Step, slot_at, steps_of}
use Rattle.cluster_members.proofs.session_net_proofs.ReadyLemmas.{AreQuiet, IsQuiet, ready_after, quiet_both, quiet_none, there_after}
use Rattle.first_cluster.specs.Begins.{Said, begin_of, begins_of, HaveBegun, HaveSomeBegun}
use Rattle.first_cluster.specs.Depots.{AreOut, IsForReplicas, disk_slot_of}
use Rattle.first_cluster.specs.First.{IsDiskAnswer, IsRefusedInit, IsSomePlan, opening_of}
use Rattle.first_cluster.specs.Lending.{AreOpened, HasTaken, IsGivenBack, IsLent, IsUnopened, IsUntouched, MayHaveTaken, first_begin, first_tenure}
use Rattle.first_cluster.specs.Slots.{AreApart, slots_in, slots_of, start_at, starts_of}
use Rattle.first_cluster.specs.declared.plan.Plan.{Plan}
use Rattle.first_cluster.specs.declared.start.Start.{Start}
use Rattle.first_cluster.specs.declared.unopened.Unopened.TheVariants as unopened
use Rattle.first_cluster.proofs.BeginLemmas.{same_member, steps_once}
use Rattle.first_cluster.proofs.PlacedSlots.{from_start, slots_same, start_slot}
use Rattle.first_cluster.proofs.SlotLists.{in_or_out}
use Rattle.first_cluster.proofs.TakeAll.{lent_new}

-- ---- all were taken, and some begun

take_in : {X : Type 0} (k : ℕ) (xs : List X) (x : X) → IsIn (take k xs) x → IsIn xs x
take_in zero xs x i = absurd i
take_in (suc k) [] x i = absurd i
take_in (suc k) (y ∷ xs) x (inl same) = inl same
take_in (suc k) (y ∷ xs) x (inr rest) = inr (take_in k xs x rest)

ascends_take : {X : Type 0} (R : X → X → Type 0) (k : ℕ) (xs : List X) → Ascends R xs → Ascends R (take k xs)
ascends_take R zero xs h = tt
ascends_take R (suc k) [] h = tt
ascends_take R (suc k) (x ∷ xs) h = (λ y i. h.0 y (take_in k xs y i), ascends_take R k xs h.1)

take_slots : (k : ℕ) (starts : List Start) → slots_in (take k starts) ≡ take k (slots_in starts)
take_slots zero starts = refl
take_slots (suc k) [] = refl
take_slots (suc k) (start ∷ starts) = ap (λ slots. start.slot ∷ slots) (take_slots k starts)

none_stays : {D : Type 0} (state : D → DiskState) (steps : List Step) (old new : Option (Member D)) → old ≡ None → IsStepped state steps old new → new ≡ None
none_stays state steps old new none h = subst (λ o. IsStepped state steps o new) none h

-- where these steps are none, or one begin with the first tenure
one_begin : {D : Type 0} (state : D → DiskState) (steps : List Step) (disk : D) (new : Option (Member D)) → (steps ≡ []) ⊎ ((answer : StepReply) × (steps ≡ first_begin answer ∷ [])) → IsStepped state steps (Some (first_member disk)) new
    → (m : Member D) × (new ≡ Some m) × ((m ≡ first_member disk) ⊎ ((answer : StepReply) × IsStepped state (first_begin answer ∷ []) (Some (first_member disk)) (Some m)))
one_begin state steps disk new (inl none) h =
    let same = same_member state (Some (first_member disk)) new (subst (λ xs. IsStepped state xs (Some (first_member disk)) new) none h) in
    (first_member disk, same, inl refl)
one_begin state steps disk new (inr one) h =
    let own = subst (λ xs. IsStepped state xs (Some (first_member disk)) new) one.1 h in
    (own.0, own.1, inr (one.0, (own.0, refl, own.2, own.3)))

-- all were taken, and some begun
pub taken_begun : {D : Type 0} (state : D → DiskState) (slots : List Slot) (starts : List Start) (old new : Depot D) (mid replicas : Tracked D) → AreApart slots → slots ≡ slots_in starts → ((s : Start) → IsIn starts s → s.tenure ≡ first_tenure)
    → HasTaken state slots old mid.members new → HaveSomeBegun state starts mid replicas → MayHaveTaken state slots old replicas.members new unopened.Memory
taken_begun {D = D} state slots starts old new mid replicas apart same first had some = record {
  each = λ s. by_list s (in_or_out slots s);
  later = had.later;
  cause = tt;
}
  where
    apart_some : AreApart (slots_in (take some.many starts))
    apart_some = subst AreApart (sym (take_slots some.many starts)) (ascends_take (λ (a b : Slot). a ≢ b) some.many (slots_in starts) (subst AreApart same apart))

    by_list : (s : Slot) → (IsIn slots s ⊎ ¬ IsIn slots s) → IsUntouched old replicas.members new s ⊎ ((IsIn slots s × IsLent state old replicas.members new s) ⊎ IsGivenBack state old replicas.members new s)
    by_list s (inl i) =
        let was = had.taken s i in
        let steps = steps_once some.said (take some.many starts) apart_some (λ x j. first x (take_in some.many starts x j)) s in
        let own = one_begin state (steps_of s (begins_of some.said (take some.many starts))) was.disk (get replicas.members s) steps
        (subst (λ o. IsStepped state (steps_of s (begins_of some.said (take some.many starts))) o (get replicas.members s)) was.stands ((some.ran).stepped s)) in
        inr (inl (i, record { member = own.0; stands = own.1; opened = record { disk = was.disk; given = was.given; counted = was.disk_faults; begun = own.2 }; held = was.held; counted = was.counted }))
    by_list s (inr out) =
        let was = had.others s out in
        inl (record { no_member = none_stays state (steps_of s (begins_of some.said (take some.many starts))) (get mid.members s) (get replicas.members s) was.no_member ((some.ran).stepped s); held = was.held; counted = was.counted })

-- and all
pub opened_by : {D : Type 0} (state : D → DiskState) (slots : List Slot) (starts : List Start) (events : List Event) (old new : Depot D) (mid replicas : Tracked D) → HasTaken state slots old mid.members new → mid.events ≡ events → HaveBegun state starts mid replicas
    → AreOpened state slots starts events old new replicas
opened_by {D} state slots starts events old new mid replicas had list begun = record {
  made = mid.members;
  taken = had;
  begun = subst (λ (t : Tracked D). HaveBegun state starts t replicas) (λ k. record { members = mid.members; events = list k }) begun;
}

-- each start's slot has a replica
pub taken_there : {D : Type 0} (state : D → DiskState) (slots : List Slot) (starts : List Start) (old new : Depot D) (members : MemberMap D) → slots ≡ slots_in starts → HasTaken state slots old members new → (s : Start) → IsIn starts s → get members s.slot ≢ None
taken_there {D} state slots starts old new members same had s i none =
    let was = had.taken s.slot (subst (λ xs. IsIn xs s.slot) (sym same) (map-IsIn (λ (x : Start). x.slot) starts s i)) in
    let bad : Some (first_member was.disk) ≡ None = sym was.stands ∙ none in
    cc

-- a list that was opened has room for all begins
pub opened_room : (events : List Event) (state : MetaState) (starts : List Start) → events ≡ opening_of state → length starts ≤ 1024 → HasRoom (2 * length starts) events
opened_room events state starts is few = let long : length events ≡ 2 = ap length is in omega (arith, long, few)

pub few_enough : {n : ℕ} → n ≤ 320 → n ≤ 1024
few_enough {n} few = omega (arith, few)

-- replicas that didn't begin may be given back, as some that did
pub lent_may : {D : Type 0} (state : D → DiskState) (slots : List Slot) (old new : Depot D) (members : MemberMap D) → HasTaken state slots old members new → MayHaveTaken state slots old members new unopened.Memory
lent_may state slots old new members had = record {
  each = λ s. elim (in_or_out slots s) as (λ _. IsUntouched old members new s ⊎ ((IsIn slots s × IsLent state old members new s) ⊎ IsGivenBack state old members new s)) [
    | inl i ↦ inr (inl (i, lent_new state s old new members (had.taken s i)))
    | inr out ↦ inl (had.others s out)
  ];
  later = had.later;
  cause = tt;
}

-- the plan's slots are those of its placement
pub planned_slots : (plan : Plan) → IsSomePlan plan → plan.slots.items ≡ slots_of plan.state.place
planned_slots plan of = of.is.slots ∙ ap slots_in of.is.starts ∙ slots_same plan.state.place

-- the replicas over the disks that were taken for a first cluster were begun
pub lent_opened : {D : Type 0} (state : D → DiskState) (slots : List Slot) (starts : List Start) (meta : MetaState) (old new : Depot D) (mid replicas : Tracked D) → HasTaken state slots old mid.members new → mid.events ≡ opening_of meta → starts ≡ starts_of meta.place → HaveBegun state starts mid replicas
    → AreOpened state slots (starts_of meta.place) (opening_of meta) old new replicas
lent_opened state slots starts meta old new mid replicas had list are begun = opened_by state slots (starts_of meta.place) (opening_of meta) old new mid replicas had list (subst (λ xs. HaveBegun state xs mid replicas) are begun)

-- ---- what a first cluster's fields are bounded by

pub few_spaces : (r : Rules) → r ≡ record { now = 0; spaces = [] } → length r.spaces ≤ MOST_NAMESPACES
few_spaces r is = let none : length r.spaces ≡ 0 = ap (λ (x : Rules). length x.spaces) is in omega (arith, none)

pub sized_spaces : (r : Rules) → r ≡ record { now = 0; spaces = [] } → All (λ (space : Space). 0 < space.block) r.spaces
sized_spaces r is = subst (λ (x : Rules). All (λ (space : Space). 0 < space.block) x.spaces) (sym is) (All-nil (λ (space : Space). 0 < space.block))

pub at_first_moment : (r : Rules) → r ≡ record { now = 0; spaces = [] } → r.now < TIME_END
at_first_moment r is = let none : r.now ≡ 0 = ap (λ (x : Rules). x.now) is in omega (arith, none)

pub slots_few : (slots : List Slot) (place : Placement) → slots ≡ slots_of place → length (slots_of place) ≤ 320 → length slots ≤ MOST_NODES * MOST_SHARDS
slots_few slots place is few = let same = ap length is in omega (arith, same, few)

-- ---- a disk that couldn't be taken

pub refused_by : {D : Type 0} (state : D → DiskState) (rf shards seed : ℕ) (nodes : List (List ℕ × List ℕ)) (place : Placement) (slots : List Slot) (slot : Slot) (old new : Depot D) (b : Answer) → IsInitial rf shards nodes place → IsFirstPlacement rf shards nodes place → slots ≡ slots_of place
    → IsUnopened state slots old new (unopened.Disk slot) → IsDiskAnswer place slot b → IsRefusedInit state rf shards seed nodes old new b
refused_by state rf shards seed nodes place slots slot old new (answer.Disk name shard) initial first same un h = (
  record {
    place = place;
    initial = initial;
    first = first;
    node = slot.node;
    instance_ = h.1.0;
    named = h.1.1;
    name_is = h.1.2;
    of_slot = (let own : slot_at slot.node shard ≡ slot = λ k. record { shard = h.0 k; node = slot.node } in subst (IsIn (slots_of place)) (sym own) (subst (λ xs. IsIn xs slot) same un.cause.0));
    rose = un.cause.1;
  },
  un.returned,
)
refused_by state rf shards seed nodes place slots slot old new answer.Memory initial first same un h = un.returned
refused_by state rf shards seed nodes place slots slot old new _ initial first same un h = absurd h

-- ---- whose disks are out

pub first_out : {D : Type 0} (state : D → DiskState) (slots : List Slot) (starts : List Start) (events : List Event) (old new : Depot D) (replicas : Tracked D) → ((disk_slot : DiskSlot) → IsForReplicas disk_slot → old.held disk_slot ≢ Out) → AreOpened state slots starts events old new replicas
    → AreOut slots replicas.members new.held
first_out {D} state slots starts events old new replicas free opened = record {
  only = λ s out. none_at s out;
  lent = λ s m there. elim (in_or_out slots s) as (λ _. new.held (disk_slot_of s) ≡ Out) [
    | inl i ↦ ((opened.taken).taken s i).held
    | inr out ↦ absurd (let bad : None ≡ Some m = sym (none_at s out) ∙ there in cc)
  ];
  there = λ s low gone held. elim (in_or_out slots s) as (λ _. ⊥) [
    | inl i ↦ there_after state made replicas (begins_of opened.begun.said starts) s opened.begun.ran (λ none. (let was = (opened.taken).taken s i in let bad : Some (first_member was.disk) ≡ None = sym was.stands ∙ none in cc)) gone
    | inr out ↦ free (disk_slot_of s) low (sym ((opened.taken).others s out).held ∙ held)
  ];
}
  where
    made : Tracked D
    made = record { members = opened.made; events = events }

    none_at : (s : Slot) → ¬ IsIn slots s → get replicas.members s ≡ None
    none_at s out = none_stays state (steps_of s (begins_of opened.begun.said starts)) (get opened.made s) (get replicas.members s) ((opened.taken).others s out).no_member (opened.begun.ran.stepped s)

-- ---- calls may be made

quiet_begin : (start : Start) (said : Said) → AreQuiet (begin_of start said)
quiet_begin start said e (inl is) = subst IsQuiet is tt
quiet_begin start said e (inr (inl is)) = subst IsQuiet is tt
quiet_begin start said e (inr (inr none)) = absurd none

pub quiet_begins : (said : Slot → Said) (starts : List Start) → AreQuiet (begins_of said starts)
quiet_begins said [] = quiet_none
quiet_begins said (start ∷ starts) = quiet_both (begin_of start (said start.slot)) (begins_of said starts) (quiet_begin start (said start.slot)) (quiet_begins said starts)

-- a node of a shard has a slot of the placement
pub node_slot : (place : Placement) (n s : ℕ) → IsIn (nodes_of (shard_at place s)) n → IsIn (slots_of place) (slot_at n s)
node_slot place n s i =
    let a = IsIn-map-back (shard_at place s) n i in
    let at = shard_there place.shards s a.0 a.1 in
    let same : 0 + s ≡ s = omega arith in
    subst (λ (k : ℕ). IsIn (slots_of place) (slot_at k s)) a.2 (subst (λ (k : ℕ). IsIn (slots_of place) (slot_at a.0.node k)) same (start_slot place (start_at (0 + s) a.0) (from_start 0 place.shards s (shard_at place s) a.0 at a.1)))
  where
    IsIn-map-back : (shard : Shard) (n : ℕ) → IsIn (nodes_of shard) n → (a : Assignment) × IsIn shard a × (a.node ≡ n)
    IsIn-map-back [] n i = absurd i
    IsIn-map-back (a ∷ shard) n (inl same) = (a, inl refl, same)
    IsIn-map-back (a ∷ shard) n (inr rest) = let found = IsIn-map-back shard n rest in (found.0, inr found.1, found.2)

    shard_there : (shards : List Shard) (k : ℕ) (a : Assignment) → IsIn (slice_index_or shards k []) a → slice_get shards k ≡ Some (slice_index_or shards k [])
    shard_there [] k a i = absurd i
    shard_there (x ∷ shards) zero a i = refl
    shard_there (x ∷ shards) (suc k) a i = shard_there shards k a i

pub first_ready : {D : Type 0} (disk : D → DiskState) (state : MetaState) (slots : List Slot) (old new : Depot D) (replicas : Tracked D) (bag : List LateWrite) → IsLawful state.place → slots ≡ slots_of state.place → bag ≡ []
    → AreOpened disk slots (starts_of state.place) (opening_of state) old new replicas → IsReady state replicas bag
first_ready {D} disk state slots old new replicas bag lawful same none opened =
    let made : Tracked D = record { members = opened.made; events = opening_of state } in
    let events = begins_of opened.begun.said (starts_of state.place) in
    ready_after disk state made replicas [] bag events (record {
      clock = refl;
      place = refl;
      lawful = lawful;
      there = λ n s i gone.
          let was = (opened.taken).taken (slot_at n s) (subst (λ xs. IsIn xs (slot_at n s)) (sym same) (node_slot state.place n s i)) in
          let bad : Some (first_member was.disk) ≡ None = sym was.stands ∙ gone in
          cc;
      late = λ one m. absurd m;
    }) opened.begun.ran (quiet_begins opened.begun.said (starts_of state.place)) (λ one m. absurd (subst (λ (xs : List LateWrite). IsIn xs one) none m))
