-- The line of a bootstrap, by what became of the replicas of its node.
use Rattle.std.proofs.Common.{◌≡◌, ◌≢◌, ◌<◌, ◌≤◌, ◌+◌, ◌*◌, ℕ, zero, suc, List, [], ◌∷◌, ◌++◌, map, length, refl, sym, ap, ◌∙◌, subst, inl, inr, arith, append_assoc}
use Rattle.std.specs.Prelude.{◌⊎◌, Option, Some, None, Result, Ok, Err, fold}
use Rattle.std.specs.FinMap as finite
use Rattle.std.specs.List.{filter_map, flat_map}
use Rattle.std.proofs.lemmas.Grind.{fold-append}
use Rattle.std.proofs.lemmas.List.{append-nil}
use Rattle.m3_model.specs.Ascends.{Ascends}
use Rattle.m3_model.specs.Members.{IsIn}
use Rattle.m3_model.specs.declared.answer.Answer.{Answer}
use Rattle.m3_model.specs.declared.answer.Answer.TheVariants as answer
use Rattle.m3_model.specs.declared.limits.TheConstants.{MOST_SHARDS, MOST_VERSIONS}
use Rattle.m3_model.specs.declared.placement.Instance.{Instance}
use Rattle.m3_model.specs.declared.placement.Placement.{Placement}
use Rattle.m3_model.specs.declared.rules.MetaState.{MetaState}
use Rattle.m3_outside.specs.DiskState.{DiskState}
use Rattle.m3_outside.specs.Slots.{Held}
use Rattle.m3_outside.specs.declared.disk.Disk.{Ghosts}
use Rattle.m3_outside.specs.declared.slot.DiskSlot.{DiskSlot}
use Rattle.placement_core.specs.Lawful.{IsLawful}
use Rattle.placement_core.specs.Shards.{nodes_of, shard_at}
use Rattle.placement_core.specs.Steps.{IsDoneList, IsStep}
use Rattle.placement_plan.specs.Plans.{AreJoining, IsAvailable}
use Rattle.peer_streams.specs.Joins.{Opened}
use Rattle.peer_streams.specs.Streams.{replied}
use Rattle.cluster_core.specs.Earlier.{last_place, place_after}
use Rattle.cluster_core.specs.Legal.{IsNextPlace}
use Rattle.cluster_core.specs.declared.event.Asked.TheVariants as asked
use Rattle.cluster_core.specs.declared.event.Event.{Event}
use Rattle.cluster_core.specs.declared.event.Event.TheVariants as event
use Rattle.cluster_core.specs.declared.event.StepCall.TheVariants as call
use Rattle.cluster_core.specs.declared.event.StepReply.{StepReply}
use Rattle.cluster_core.specs.declared.event.StepReply.TheVariants as reply
use Rattle.node_calls.specs.cluster_members.Kept.{PastServes}
use Rattle.node_calls.specs.cluster_members.declared.members.Members.{Members}
use Rattle.node_calls.specs.replica_calls.Calls.{Tracked}
use Rattle.node_calls.specs.replica_exchange.MachineCalls.{HasRoom}
use Rattle.node_calls.specs.replica_exchange.declared.slot.Slot.{Slot}
use Rattle.node_calls.specs.session_net.Ready.{IsReady}
use Rattle.node_calls.specs.session_net.Runs.{Ran, slot_at}
use Rattle.node_calls.specs.session_net.declared.net.Net.{Net}
use Rattle.node_calls.specs.Nodes.{KeepsButBoots, MayBoot}
use Rattle.node_calls.proofs.session_net_proofs.ReadyLemmas.{AreQuiet, ready_after}
use Rattle.node_calls.proofs.session_net_proofs.RunLemmas.{ran_then}
use Rattle.cluster_placements.specs.Steps.{MayChange, end_at, kept_in, place_ending}
use Rattle.node_joins.specs.Joined.{JoinedOf}
use Rattle.node_joins.specs.Shards.{AreOpenedBelow, AreTried, joined_shard}
use Rattle.node_joins.specs.declared.open_err.OpenErr.{OpenErr}
use Rattle.node_joins.specs.Unowned.{AreUnowned, CameUnowned}
use Rattle.node_joins.proofs.EachLemmas.{Each, each_both, each_flat}
use Rattle.node_joins.proofs.UnownedLemmas.{IsNoBegin, none_replied, unowned_more}
use Rattle.told_joins.specs.Lines.{AddsJoins, AddsPart, AddsUnmarked, AreOpened, Leaves, added_by, done_by, ends_by, joined_of, marks}
use Rattle.told_joins.proofs.MarkLemmas.{are_joining, up}
use Rattle.cluster_joins.specs.Boots.{IsBooted, IsBooting, IsEndedBy, IsOpenedUp, IsToMark, LacksRoom, MayBeLeft, stood_before}
use Rattle.cluster_joins.specs.Marks.{HasEnded, IsMarked, MayBeMarked, done_of, printed_pair, source_slot}
use Rattle.cluster_joins.specs.Opened.{IsNotToMark, IsPrepared, KeepsAll, MayMark, ended_answer}
use Rattle.cluster_joins.specs.declared.marking.Booting.{Booting}
use Rattle.cluster_joins.specs.declared.marking.Booting.TheVariants as booting
use Rattle.cluster_joins.specs.declared.marking.Marked.{Marked}
use Rattle.cluster_joins.specs.declared.marking.Marking.{Marking}
use Rattle.cluster_joins.proofs.JoinedLemmas.{done_list, done_same, ends_same, few_joined, printed_same}
use Rattle.cluster_joins.proofs.MarkLemmas.{next_nodes, next_place, sources_in}
use Rattle.cluster_joins.proofs.OpenedLemmas.{all_opened, ended_by, err_booted}
use Rattle.cluster_joins.proofs.StillLemmas.{err_quiet, opened_quiet, ready_still, serves_still, still_on}

-- ---- lists

some_in : {X : Type 0} (xs : List X) → xs ≢ [] → (x : X) × IsIn xs x
some_in [] none = absurd (none refl)
some_in (x ∷ xs) none = (x, inl refl)

map_none : {X Y : Type 0} (f : X → Y) (xs : List X) → map f xs ≡ [] → xs ≡ []
map_none f [] e = refl
map_none f (x ∷ xs) e = cc

leaves_by : (place : Placement) (y : ℕ) (next : Placement) (xs : List (ℕ × List ℕ)) → xs ≢ [] → IsAvailable place (done_by y xs) next → IsLawful next → Leaves place y xs next
leaves_by place y next [] some available lawful = absurd (some refl)
leaves_by place y next (x ∷ xs) some available lawful = (available, lawful)

marks_by : (y : ℕ) (opened : List Opened) (next : Placement) (xs : List (ℕ × List ℕ)) → xs ≢ [] → marks y opened xs next ≡ place_ending next (done_by y xs) ++ ends_by opened
marks_by y opened next [] some = absurd (some refl)
marks_by y opened next (x ∷ xs) some = refl

stood_by : (xs : List (ℕ × List ℕ)) (place : Placement) → xs ≢ [] → stood_before xs place ≡ place ∷ []
stood_by [] place some = absurd (some refl)
stood_by (x ∷ xs) place some = refl

-- ---- all were opened

module _ {D : Type 0} {G : Ghosts D} (state : D → DiskState) (old mid new : Members D G) (name : List ℕ) (only : Option ℕ) (may : MayBoot old name only) (joined : List JoinedOf)
    (h : AreOpenedBelow state may.runs.node only old.net.state.place (length old.net.state.place.shards) joined old.net.replicas mid.net.replicas) (came : CameUnowned state old.net.replicas mid.net.replicas) (keeps : KeepsButBoots old mid) (same : KeepsAll mid new) where
  abbrev place : Placement
  place = old.net.state.place

  abbrev y : ℕ
  y = may.runs.node

  abbrev opened : List Opened
  opened = h.opened

  pub kept : KeepsButBoots old new
  kept = record {
    keeps = record {
      state = ap (λ (n : Net D G). n.state) same.net ∙ (keeps.keeps).state;
      fates = ap (λ (n : Net D G). n.fates) same.net ∙ (keeps.keeps).fates;
      bag = ap (λ (n : Net D G). n.bag) same.net ∙ (keeps.keeps).bag;
      slots = same.slots ∙ (keeps.keeps).slots;
      past = same.past ∙ (keeps.keeps).past;
    };
    stopped = same.stopped ∙ keeps.stopped;
  }

  replicas_same : new.net.replicas ≡ mid.net.replicas
  replicas_same = ap (λ (n : Net D G). n.replicas) same.net

  pub ran : Ran state old.net.replicas (added_by opened) new.net.replicas
  ran = subst (λ (t : Tracked D). Ran state old.net.replicas (added_by opened) t) (sym replicas_same) h.ran

  came_new : CameUnowned state old.net.replicas new.net.replicas
  came_new = subst (λ (t : Tracked D). CameUnowned state old.net.replicas t) (sym replicas_same) came

  all : AreOpened place y only opened []
  all = all_opened y only place state joined old.net.replicas mid.net.replicas h

  pub quiet : AreQuiet (added_by opened)
  quiet = opened_quiet place y opened h.each

  part : IsEndedBy state old name only AddsPart new
  part = ended_by state old new name only may kept came_new AddsPart (added_by opened) (record { opened = opened; left = []; before = all; last = []; part = inl refl; adds = sym (append-nil (added_by opened)) }) ran

  printed_are : map printed_pair joined ≡ joined_of opened
  printed_are = ap (map printed_pair) h.joined_are ∙ printed_same opened

  done_are : done_of y joined ≡ done_by y (joined_of opened)
  done_are = ap (done_of y) h.joined_are ∙ done_same y opened

  place_mid : mid.net.state.place ≡ place
  place_mid = ap (λ (m : MetaState). m.place) (keeps.keeps).state

  kept_same : kept_in mid ≡ kept_in old
  kept_same = ap (λ (ps : List Placement). suc (length ps)) (keeps.keeps).past

  some_joined : joined ≢ [] → joined_of opened ≢ []
  some_joined some none = some (map_none printed_pair joined (printed_are ∙ none))

  -- nothing is to be marked
  unmoved : (available : List (ℕ × List ℕ)) (shown : Placement) (version : ℕ) → joined ≡ [] → available ≡ [] → shown ≡ mid.net.state.place → version ≡ mid.net.state.place.version → IsBooted state old name only (answer.Available available shown version) new
  unmoved available shown version none printed shown_is version_is =
      let gone : joined_of opened ≡ [] = sym printed_are ∙ ap (map printed_pair) none in
      let is : shown ≡ place = shown_is ∙ place_mid in (
        version_is ∙ ap (λ (p : Placement). p.version) (sym shown_is),
        record {
          may = may;
          opened = opened;
          more = added_by opened;
          adds = record {
            all = all;
            leaves = subst (λ xs. Leaves place y xs shown) (sym gone) is;
            adds = sym (append-nil (added_by opened)) ∙ ap (λ xs. added_by opened ++ marks y opened xs shown) (sym gone);
          };
          unowned = came_new (added_by opened) ran.grew;
          room = inl gone;
          available_is = printed ∙ sym gone;
          ran = ran;
          state_is = (kept.keeps).state ∙ ap (λ (p : Placement). record (old.net.state) { place = p }) (sym is);
          past = (kept.keeps).past ∙ sym (append-nil old.past.items) ∙ ap (λ xs. old.past.items ++ stood_before xs place) (sym gone);
          fates = (kept.keeps).fates;
          bag = (kept.keeps).bag;
          slots = (kept.keeps).slots;
          stopped = kept.stopped;
        },
      )

  unmarked : joined ≢ [] → MOST_VERSIONS ≤ kept_in mid → IsEndedBy state old name only (λ p n o. AddsUnmarked p n o (kept_in old)) new
  unmarked some reached =
      let one = some_in (joined_of opened) (some_joined some) in
      ended_by state old new name only may kept came_new (λ p n o. AddsUnmarked p n o (kept_in old)) (added_by opened)
      (record { opened = opened; all = all; joined = one.0; among = one.1; reached = subst (λ n. MOST_VERSIONS ≤ n) kept_same reached; adds = refl }) ran

  pub not_marked : (answered : Answer) → IsNotToMark mid joined answered → IsBooted state old name only answered new
  not_marked (answer.Available available shown version) n = unmoved available shown version n.0 (n.1).0 (n.1).1 (n.1).2
  not_marked (answer.Limit limit) n = (n.1, unmarked n.0 n.2)
  not_marked answer.Memory n = inr (inr part)
  not_marked answer.Full n = (subst (λ (t : Tracked D). ¬ HasRoom (2 + 2 * MOST_SHARDS) t.events) (sym replicas_same) n, part)
  not_marked _ n = absurd n

  -- this is
  module _ (marking : Marking) (p : IsPrepared mid y joined marking new) (ready : IsReady old.net.state old.net.replicas old.net.bag) where
    available : IsAvailable place (done_by y (joined_of opened)) marking.next
    available = subst (λ (q : Placement). IsAvailable q (done_by y (joined_of opened)) marking.next) place_mid (subst (λ ds. IsAvailable mid.net.state.place ds marking.next) done_are p.next)

    done_is : marking.done ≡ done_by y (joined_of opened)
    done_is = (p.parts).done_is ∙ done_are

    pub to_mark : IsToMark state old name only marking new
    to_mark = record {
      may = may;
      opened = opened;
      all = all;
      some = some_joined p.some;
      unowned = came_new (added_by opened) ran.grew;
      room = subst (λ n. n < MOST_VERSIONS) kept_same p.few_past;
      available = available;
      lawful = p.lawful;
      printed_is = (p.parts).printed_is;
      done_is = done_is;
      joined_are = (p.parts).joined_are ∙ printed_are;
      sources_are = ap (flat_map end_at) ((p.parts).sources_are ∙ ap (map source_slot) h.joined_are) ∙ ends_same opened;
      ran = ran;
      keeps = kept;
    }

    pub left_booted : IsBooted state old name only answer.Memory new
    left_booted = inr (inr part)

    ready_new : IsReady new.net.state new.net.replicas new.net.bag
    ready_new = ready_still state old new (added_by opened) ran quiet kept ready

    place_new : new.net.state.place ≡ place
    place_new = ap (λ (m : MetaState). m.place) (kept.keeps).state

    step_old : IsStep place marking.next (done_by y (joined_of opened))
    step_old =
        let joining = are_joining place ready.lawful y only opened [] all in
        let ascend = up place ready.lawful y only opened [] all in
        let list = done_list place y opened ascend joining in
        let list_mid = subst (λ ds. IsDoneList (length mid.net.state.place.shards) ds) (sym done_are) (subst (λ (q : Placement). IsDoneList (length q.shards) (done_by y (joined_of opened))) (sym place_mid) list) in
        subst (λ (q : Placement). IsStep q marking.next (done_by y (joined_of opened))) place_mid (subst (λ ds. IsStep mid.net.state.place marking.next ds) done_are (p.step list_mid))

    abbrev ask : Event
    ask = event.Ask (asked.Place marking.next marking.done)

    last_old : last_place (old.net.replicas.events ++ (added_by opened ++ ask ∷ [])) ≡ Some place
    last_old = ap last_place (sym (append_assoc old.net.replicas.events (added_by opened) (ask ∷ [])) ∙ ap (λ es. es ++ ask ∷ []) (sym ran.grew)) ∙ fold-append place_after None new.net.replicas.events (ask ∷ []) ∙ ready_new.place ∙ ap Some place_new

    comes : IsNextPlace (new.net.replicas.events ++ ask ∷ []) marking.next marking.done
    comes = subst (IsNextPlace (new.net.replicas.events ++ ask ∷ []) marking.next) (sym done_is)
        (subst (λ es. IsNextPlace es marking.next (done_by y (joined_of opened))) (sym (ap (λ es. es ++ ask ∷ []) ran.grew ∙ append_assoc old.net.replicas.events (added_by opened) (ask ∷ [])))
        (next_place place ready.lawful y only opened all old.net.replicas.events (ask ∷ []) marking.next last_old step_old))

    there_new : (n s : ℕ) → IsIn (nodes_of (shard_at place s)) n → finite.get new.net.replicas.members (slot_at n s) ≢ None
    there_new n s m = ready_new.there n s (subst (λ (q : Placement). IsIn (nodes_of (shard_at q s)) n) (sym place_new) m)

    pub may_mark : PastServes old → MayBeMarked new marking
    may_mark serves = record {
      ready = ready_new;
      serves = serves_still state old new (added_by opened) ran quiet kept serves;
      few_past = subst (λ (ps : List Placement). suc (length ps) < MOST_VERSIONS) (sym same.past) p.few_past;
      past_room = p.past_room;
      lawful = p.lawful;
      step = subst (λ (q : Placement). IsStep q marking.next marking.done) (sym place_new) (subst (IsStep place marking.next) (sym done_is) step_old);
      nodes = ap length (available.instances ∙ sym (ap (λ (q : Placement). q.instances) place_new));
      comes = comes;
      there = λ n s m. there_new n s (next_nodes place marking.next (done_by y (joined_of opened)) available n s m);
      sources_there = λ slot m. there_new slot.node slot.shard (sources_in place ready.lawful y opened h.each slot (subst (λ xs. IsIn xs slot) ((p.parts).sources_are ∙ ap (map source_slot) h.joined_are) m));
      room = p.room;
    }

-- ---- the node's replicas, by its number

module _ {D : Type 0} {G : Ghosts D} (state : D → DiskState) (old : Members D G) (name : List ℕ) (only : Option ℕ) (node : ℕ) (runs : (may : MayBoot old name only) × (may.runs.node ≡ node)) (ready : IsReady old.net.state old.net.replicas old.net.bag) where
  module _ (mid : Tracked D) (joined : List JoinedOf) (h : AreOpenedBelow state node only old.net.state.place (length old.net.state.place.shards) joined old.net.replicas mid) where
    -- the shards that it joined are those that it joins
    pub joining_done : AreJoining old.net.state.place.shards (done_of node joined)
    joining_done =
        let all = all_opened node only old.net.state.place state joined old.net.replicas mid h in
        subst (AreJoining old.net.state.place.shards) (sym (ap (done_of node) h.joined_are ∙ done_same node h.opened)) (are_joining old.net.state.place ready.lawful node only h.opened [] all)

    pub joined_few : length joined ≤ MOST_SHARDS
    joined_few =
        let few = few_joined node only old.net.state.place (length old.net.state.place.shards) h.opened joined h.shards h.joined_are in
        let most = (ready.lawful).limits.few_shards in
        omega (arith, few, most)

  module _ (mid : Members D G) (joined : List JoinedOf) (h : AreOpenedBelow state node only old.net.state.place (length old.net.state.place.shards) joined old.net.replicas mid.net.replicas) where
    module _ (new : Members D G) (came : CameUnowned state old.net.replicas mid.net.replicas) (keeps : KeepsButBoots old mid) (serves : PastServes old) where
      own : AreOpenedBelow state ((runs.0).runs).node only old.net.state.place (length old.net.state.place.shards) joined old.net.replicas mid.net.replicas
      own = subst (λ k. AreOpenedBelow state k only old.net.state.place (length old.net.state.place.shards) joined old.net.replicas mid.net.replicas) (sym runs.1) h

      ok_by : (result : Booting) → MayMark mid ((runs.0).runs).node joined result new → IsBooting state old name only result new
      ok_by (booting.Answered answered) m = not_marked state old mid new name only runs.0 joined own came keeps m.1 answered m.0
      ok_by (booting.Joined marking) m = (to_mark state old mid new name only runs.0 joined own came keeps m.1 marking m.0 ready, may_mark state old mid new name only runs.0 joined own came keeps m.1 marking m.0 ready serves)

      pub ok_booting : (result : Booting) → MayMark mid node joined result new → IsBooting state old name only result new
      ok_booting result m = ok_by result (subst (λ k. MayMark mid k joined result new) (sym runs.1) m)

      left_by : (result : Booting) → MayMark mid ((runs.0).runs).node joined result new → MayBeLeft state old name only result new
      left_by (booting.Answered answered) m = tt
      left_by (booting.Joined marking) m = left_booted state old mid new name only runs.0 joined own came keeps m.1 marking m.0 ready

      pub ok_left : (result : Booting) → MayMark mid node joined result new → MayBeLeft state old name only result new
      ok_left result m = left_by result (subst (λ k. MayMark mid k joined result new) (sym runs.1) m)

      same_by : (result : Booting) → MayMark mid node joined result new → KeepsAll mid new
      same_by (booting.Answered answered) m = m.1
      same_by (booting.Joined marking) m = m.1

      pub ok_state : (result : Booting) → MayMark mid node joined result new → new.net.state ≡ old.net.state
      ok_state result m = ((kept state old mid new name only runs.0 joined own came keeps (same_by result m)).keeps).state

      pub ok_past : (result : Booting) → MayMark mid node joined result new → new.past.items ≡ old.past.items
      ok_past result m = ((kept state old mid new name only runs.0 joined own came keeps (same_by result m)).keeps).past

      -- calls may be made
      pub ok_ready : (result : Booting) → MayMark mid node joined result new → IsReady new.net.state new.net.replicas new.net.bag
      ok_ready result m =
          let same = same_by result m in
          let keeps_new = kept state old mid new name only runs.0 joined own came keeps same in
          let came_to = ran state old mid new name only runs.0 joined own came keeps same in
          let quiet_all = quiet state old mid new name only runs.0 joined own came keeps same in
          ready_still state old new (added_by (own).opened) came_to quiet_all keeps_new ready

      pub ok_still : (result : Booting) → MayMark mid node joined result new → (held : DiskSlot → Held D) → MayChange old held → MayChange new held
      ok_still result m held may =
          let same = same_by result m in
          let keeps_new = kept state old mid new name only runs.0 joined own came keeps same in
          let came_to = ran state old mid new name only runs.0 joined own came keeps same in
          let quiet_all = quiet state old mid new name only runs.0 joined own came keeps same in
          still_on state old new (added_by (own).opened) came_to quiet_all keeps_new held may

  -- where not all were opened
  pub err_ready : (new : Tracked D) (why : OpenErr) → AreTried state node only old.net.state.place old.net.replicas new (Err why) → IsReady old.net.state new old.net.bag
  err_ready new why h = let q = err_quiet state node only old.net.state.place old.net.replicas new why h in ready_after state old.net.state old.net.replicas new old.net.bag old.net.bag q.0 ready q.1 q.2 (λ one m. inl m)

  module _ (new : Members D G) (keeps : KeepsButBoots old new) (came : CameUnowned state old.net.replicas new.net.replicas) (why : OpenErr) (h : AreTried state node only old.net.state.place old.net.replicas new.net.replicas (Err why)) where
    pub not_all : (b : Answer) → b ≡ ended_answer name why → IsBooted state old name only b new
    not_all b is =
        subst (λ a. IsBooted state old name only a new) (sym is)
        (err_booted state old new name only runs.0 keeps came why (subst (λ k. AreTried state k only old.net.state.place old.net.replicas new.net.replicas (Err why)) (sym runs.1) h))

    pub err_still : (held : DiskSlot → Held D) → MayChange old held → MayChange new held
    err_still held may = let q = err_quiet state node only old.net.state.place old.net.replicas new.net.replicas why h in still_on state old new q.0 q.1 q.2 keeps held may

-- ---- the marking

-- a placement and ends of tenures begin nothing
ends_nothing : (next : Placement) (done : List (ℕ × ℕ)) (sources : List Slot) → Each IsNoBegin (place_ending next done ++ flat_map end_at sources)
ends_nothing next done sources = each_both IsNoBegin (place_ending next done) (flat_map end_at sources) first (each_flat IsNoBegin end_at sources (λ s m. none_replied s.node s.shard call.End reply.Done (λ t e. cc)))
  where
    first : Each IsNoBegin (place_ending next done)
    first e (inl is) n s tenure a same = cc
    first e (inr (inl is)) n s tenure a same = cc
    first e (inr (inr none)) n s tenure a same = absurd none

module _ {D : Type 0} {G : Ghosts D} (state : D → DiskState) (old was mid new : Members D G) (name : List ℕ) (only : Option ℕ) (marking : Marking) (marked : Marked) (answered : Answer) (to : IsToMark state old name only marking was) (m : IsMarked state was marking marked mid) (e : HasEnded state mid marked answered new) where
  abbrev first_place : Placement
  first_place = old.net.state.place

  abbrev own_node : ℕ
  own_node = ((to.may).runs).node

  abbrev next : Placement
  next = marking.next

  printed_next : marked.printed ≡ next
  printed_next = ap (λ (x : Marked). x.printed) m.marked_is ∙ to.printed_is

  answer_same : answer.Available marked.joined marked.printed marked.printed.version ≡ answer.Available marked.joined next next.version
  answer_same = ap (λ (q : Placement). answer.Available marked.joined q q.version) printed_next

  abbrev tail : List Event
  tail = place_ending next marking.done ++ flat_map end_at marked.sources.items

  ran_tail : Ran state was.net.replicas tail new.net.replicas
  ran_tail = ran_then state (place_ending next marking.done) (flat_map end_at marked.sources.items) was.net.replicas mid.net.replicas new.net.replicas m.ran e.ran

  ends_are : flat_map end_at marked.sources.items ≡ ends_by to.opened
  ends_are = ap (λ (x : Marked). flat_map end_at x.sources.items) m.marked_is ∙ to.sources_are

  tail_is : tail ≡ marks own_node to.opened (joined_of to.opened) next
  tail_is = ap (λ ds. place_ending next ds ++ flat_map end_at marked.sources.items) to.done_is ∙ ap (λ es. place_ending next (done_by own_node (joined_of to.opened)) ++ es) ends_are ∙ sym (marks_by own_node to.opened next (joined_of to.opened) to.some)

  up_ : IsOpenedUp state old name only marked.joined next new
  up_ = record {
    may = to.may;
    opened = to.opened;
    more = added_by to.opened ++ tail;
    adds = record { all = to.all; leaves = leaves_by first_place own_node next (joined_of to.opened) to.some to.available to.lawful; adds = ap (λ es. added_by to.opened ++ es) tail_is };
    unowned = unowned_more state (added_by to.opened) tail old.net.replicas was.net.replicas to.ran to.unowned (ends_nothing next marking.done marked.sources.items);
    room = inr to.room;
    available_is = ap (λ (x : Marked). x.joined) m.marked_is ∙ to.joined_are;
    ran = ran_then state (added_by to.opened) tail old.net.replicas was.net.replicas new.net.replicas to.ran ran_tail;
    state_is = ((e.keeps).keeps).state ∙ m.state_is ∙ ap (λ (s : MetaState). record s { place = next }) ((to.keeps).keeps).state;
    past = ((e.keeps).keeps).past ∙ m.past ∙ ap (λ xs. xs ++ was.net.state.place ∷ []) ((to.keeps).keeps).past ∙ ap (λ (s : MetaState). old.past.items ++ s.place ∷ []) ((to.keeps).keeps).state ∙ sym (ap (λ xs. old.past.items ++ xs) (stood_by (joined_of to.opened) first_place to.some));
    fates = ((e.keeps).keeps).fates ∙ m.fates ∙ ((to.keeps).keeps).fates;
    bag = ((e.keeps).keeps).bag ∙ m.bag ∙ ((to.keeps).keeps).bag;
    slots = ((e.keeps).keeps).slots ∙ m.slots ∙ ((to.keeps).keeps).slots;
    stopped = (e.keeps).stopped ∙ m.stopped ∙ (to.keeps).stopped;
  }

  -- the shards were marked that were to be, and then the tenures of the sources ended
  pub end_booted : IsBooted state old name only answered new
  end_booted = subst (λ b. IsBooted state old name only b new) (sym (e.answer_is ∙ answer_same)) (refl, up_)
