-- The events of a first cluster tell of the line of its `init`, and serve it.
use Rattle.std.proofs.Common.{◌≡◌, ◌+◌, ◌*◌, ◌≤◌, ℕ, zero, suc, List, [], ◌∷◌, ◌++◌, length, take, refl, sym, ap, subst, ◌∙◌, inl, inr, arith, Bool, true, false}
use Rattle.std.specs.Prelude.{◌⊎◌, Option, Some, None, Ok, fold, slice_get, map}
use Rattle.std.proofs.Math.Nat.{mul-le-mul_left}
use Rattle.std.proofs.lemmas.List.{append-nil}
use Rattle.std.proofs.lemmas.Option.{same_Some}
use Rattle.m3_model.specs.Members.{IsIn}
use Rattle.m3_model.specs.declared.act.Act.{Act}
use Rattle.m3_model.specs.declared.act.Act.TheVariants as act
use Rattle.m3_model.specs.declared.answer.Answer.{Answer}
use Rattle.m3_model.specs.declared.answer.Answer.TheVariants as answer
use Rattle.m3_model.specs.declared.limits.TheConstants.{MOST_REQUEST_EVENTS}
use Rattle.m3_model.specs.declared.placement.Assignment.{Assignment}
use Rattle.m3_model.specs.declared.placement.Placement.{Placement}
use Rattle.m3_model.specs.declared.reason.Reason.TheVariants as reason
use Rattle.m3_model.specs.declared.turn.Turn.{Turn}
use Rattle.m3_model.proofs.Lists.{IsIn-take}
use Rattle.m3_outside.specs.Depots.{Depot, TellAll}
use Rattle.m3_outside.specs.DiskState.{DiskState, IsLawfulDisk}
use Rattle.m3_outside.specs.declared.disk.Disk.{Ghosts}
use Rattle.placement_core.specs.Lawful.{IsLawful}
use Rattle.placement_core.proofs.ListLemmas.{IsIn-from_Any}
use Rattle.cluster_core.specs.Earlier.{last_place, place_after as placed_after}
use Rattle.cluster_core.specs.Lists.{At}
use Rattle.cluster_core.specs.declared.event.Event.{Event}
use Rattle.cluster_core.specs.declared.event.Event.TheVariants as event
use Rattle.cluster_core.specs.declared.event.StepCall.{StepCall}
use Rattle.cluster_core.specs.declared.event.StepCall.TheVariants as call
use Rattle.cluster_core.specs.declared.event.StepReply.{StepReply}
use Rattle.cluster_core.specs.declared.event.StepReply.TheVariants as reply
use Rattle.cluster_core.proofs.ListLemmas.{at_in, at_within, in_at}
use Rattle.node_calls.specs.replica_machine.declared.machine.Began.{Began}
use Rattle.node_calls.specs.replica_exchange.declared.slot.Slot.{Slot}
use Rattle.node_calls.specs.session_net.Runs.{slot_at}
use Rattle.node_calls.proofs.session_net_proofs.ReadyLemmas.{AreQuiet, IsQuiet}
use Rattle.node_calls.specs.cluster_members.declared.members.Members.{Members}
use Rattle.first_cluster.specs.Bare.{AreBare, BeginsBare}
use Rattle.first_cluster.specs.Begins.{Said, begin_reply, begins_of}
use Rattle.first_cluster.specs.First.{IsFirst}
use Rattle.first_cluster.specs.Slots.{starts_of}
use Rattle.first_cluster.specs.declared.start.Start.{Start}
use Rattle.first_cluster.proofs.BareLemmas.{first_begins_bare}
use Rattle.first_cluster.proofs.BeginLemmas.{begins_long}
use Rattle.first_cluster.proofs.FirstLemmas.{quiet_begins}
use Rattle.first_cluster.proofs.PlacedSlots.{few_starts}
use Rattle.told_runs.specs.told_by.Hears.{HearsBy, HearsOpened, InStretch}
use Rattle.told_runs.specs.told_by.Lines.{AreSteps, InitLine, IsAskOrStep, IsPlain, PlainLine, position_after}
use Rattle.told_runs.specs.told_by.Makes.{IsAssigned, MayMake}
use Rattle.told_runs.specs.Answers.{HearsOf, IsAnswered, IsDecidedBy, IsOfKind}
use Rattle.told_runs.specs.Bounds.{writes_taken}
use Rattle.told_runs.specs.Lines.{AddsInOrder, OpensNext, ServesOne}
use Rattle.transcripts.specs.Caused.{acts_in, refusal_after}
use Rattle.transcripts.specs.Deliveries.{LateMessage}
use Rattle.transcripts.specs.Faults.{AreDifferent, Fault, Taking}
use Rattle.transcripts.specs.Fates.{OfNode, is_stopped}
use Rattle.transcripts.specs.Placements.{placements, printed}
use Rattle.transcripts.specs.Record.{Record, TurnPosition, inner_turns, line_of}
use Rattle.transcripts.specs.Refusals.{refusal_by}
use Rattle.transcripts.specs.Rules.{rules_at, start_rules}
use Rattle.line_tracks.specs.calls.Left.{WereDelivered}
use Rattle.line_tracks.proofs.calls.DeliverLemmas.{nothing_line}
use Rattle.line_tracks.proofs.calls.ServeLemmas.{delivered_so}
use Rattle.told_runs.proofs.told_by_proofs.LineLemmas.{nothing_at}
use Rattle.line_tracks.specs.acts.Stands.{NoneStands}
use Rattle.line_tracks.proofs.acts.StandLemmas.{no_placement, printed_none}
use Rattle.line_tracks.specs.acts.Inits.{FirstTells, LeavesAnew}
use Rattle.line_tracks.proofs.acts.BeginEvents.{IsStepOf, ask_for, assigned_start, began_so, of_begin, refused_so, said_first, start_assigned, step_among, step_of, step_there}

-- ---- lists that begin with two events

-- events that aren't Places leave the placement that stands
place_kept : (was : Option Placement) (e : Event) → IsQuiet e → placed_after was e ≡ was
place_kept was (event.Place place done) quiet = absurd quiet
place_kept was _ quiet = refl

places_kept : (was : Option Placement) (more : List Event) → AreQuiet more → fold placed_after was more ≡ was
places_kept was [] quiet = refl
places_kept was (e ∷ more) quiet = ap (λ w. fold placed_after w more) (place_kept was e (quiet e (inl refl))) ∙ places_kept was more (λ x m. quiet x (inr m))

-- no `init` is refused where no placement stands
pub not_refused : (turns : List Turn) (rf shards seed : ℕ) (nodes : List (List ℕ × List ℕ)) (b : Answer) → NoneStands turns → refusal_after None (position_after turns (act.Init rf shards seed nodes) b) (inner_turns turns) ≡ None
not_refused turns rf shards seed nodes b none =
    ap (λ o. refusal_by o (map (λ place. place.version) (placements None (inner_turns turns))) (rules_at None (position_after turns (act.Init rf shards seed nodes) b)) (is_stopped (inner_turns turns)) (act.Init rf shards seed nodes)) (no_placement turns none)

-- one that was answered so is decided
pub decided : (turns : List Turn) (rf shards seed : ℕ) (nodes : List (List ℕ × List ℕ)) (b : Answer) (taking : List Fault) (end : ℕ) → NoneStands turns → IsOfKind taking None (position_after turns (act.Init rf shards seed nodes) b) (act.Init rf shards seed nodes) b
    → IsAnswered taking None end (position_after turns (act.Init rf shards seed nodes) b)
decided turns rf shards seed nodes b taking end none kind =
    let p = position_after turns (act.Init rf shards seed nodes) b in
    inr (inr (inner_turns turns, record { others = []; some_of = tt; are = sym (append-nil (inner_turns turns)) }, subst (IsDecidedBy taking None p) (sym (not_refused turns rf shards seed nodes b none)) kind))

-- ---- an `init` that made no cluster

module _ (tells : Bool) (untaken : List Fault) (turns : List Turn) (rf shards seed : ℕ) (nodes : List (List ℕ × List ℕ)) (b : Answer) where
  abbrev own : TurnPosition
  own = position_after turns (act.Init rf shards seed nodes) b

  -- no events tell of it and serve it, where there is a cause for its answer, and these disks couldn't be taken
  pub unmade_leaves : NoneStands turns → IsPlain (act.Init rf shards seed nodes) b → HearsBy None [] (InStretch [] 0 0) own (act.Init rf shards seed nodes) b → HearsOf None (InStretch [] 0 0) own [] b → printed b ≡ None
      → ((available : List (ℕ × List ℕ)) (place : Placement) (version : ℕ) → b ≡ answer.Available available place version → ⊥) → IsOfKind untaken None own (act.Init rf shards seed nodes) b
      → ((fault : Fault) → IsIn untaken fault → (fault.kind ≡ Taking) × (fault.line ≡ length turns)) → AreDifferent untaken → LeavesAnew PlainLine tells untaken turns (act.Init rf shards seed nodes) b []
  unmade_leaves none plain hears delivers prints no_boot kind are different = record {
    line = nothing_line None turns [] (act.Init rf shards seed nodes) b plain hears prints no_boot;
    serves = λ was past were. record {
      adds = record { lawful = λ i place done adds. absurd (nothing_at i _ adds.1); one = λ i place done adds. absurd (nothing_at i _ adds.1); ends = λ i n s r adds. absurd (nothing_at i _ adds.1) };
      opens = λ is. record { fenced = λ i n s tenure fence points adds. absurd (nothing_at i _ adds.1); owned = λ i n s tenure adds. absurd (nothing_at i _ adds.1) };
      answered = decided turns rf shards seed nodes b untaken 0 none kind;
      delivers = delivers;
      not_again = λ q at x y i j. absurd i;
      untaken_are = are;
      different = different;
      bound = λ is. omega arith;
    };
    delivered = λ was were. delivered_so turns (act.Init rf shards seed nodes) b [] (λ x i. absurd i) was were;
  }

-- ---- an `init` that made one

module _ {D : Type 0} {G : Ghosts D} (state : D → DiskState) (m : Members D G) (rf shards seed : ℕ) (nodes : List (List ℕ × List ℕ)) (old new : Depot D) (first : IsFirst state rf shards seed nodes old new m) (turns : List Turn) (none : NoneStands turns) where
  abbrev place : Placement
  place = m.net.state.place

  abbrev a : Act
  a = act.Init rf shards seed nodes

  abbrev b : Answer
  b = answer.Placed place place.version

  abbrev p : TurnPosition
  p = position_after turns a b

  abbrev said : Slot → Said
  said = first.opened.begun.said

  abbrev begins : List Event
  begins = begins_of said (starts_of place)

  abbrev all : List Event
  all = event.Place place [] ∷ event.Clock (start_rules None) ∷ begins

  events_are : m.net.replicas.events ≡ all
  events_are = first.opened.begun.ran.grew ∙ ap (λ rules. event.Place place [] ∷ event.Clock rules ∷ begins) first.rules

  -- what stands behind the two
  in_begins : (i : ℕ) (e : Event) → 2 ≤ i → At all i e → IsIn begins e
  in_begins zero e two at = absurd (omega (arith, two))
  in_begins (suc zero) e two at = absurd (omega (arith, two))
  in_begins (suc (suc i)) e two at = at_in begins i e at

  quiet_take : (k : ℕ) → AreQuiet (take k begins)
  quiet_take k e i = quiet_begins said (starts_of place) e (IsIn-take k begins e i)

  last_so : (i : ℕ) → 2 ≤ i → last_place (take i all) ≡ Some place
  last_so zero two = absurd (omega (arith, two))
  last_so (suc zero) two = absurd (omega (arith, two))
  last_so (suc (suc i)) two = places_kept (Some place) (take i begins) (quiet_take i)

  last_all : last_place all ≡ Some place
  last_all = places_kept (Some place) begins (quiet_begins said (starts_of place))

  -- ---- the line

  node_runs : (node : ℕ) (shard : ℕ) (tenure : ℕ) → IsAssigned place node shard tenure → OfNode place node (λ name. is_stopped (inner_turns turns) name ≡ false)
  node_runs node shard tenure h =
      let x = IsIn-from_Any (λ (y : Assignment). (y.node ≡ node) × (y.tenure ≡ tenure)) h.0 h.2 in
      let listed = (first.lawful.spread h.0 (at_in place.shards shard h.0 h.1)).listed x.0 x.1 in
      record { instance_ = listed.0; stands = subst (λ n. slice_get place.instances n ≡ Some listed.0) x.2.0 listed.1; holds = none.runs listed.0.name }

  make_begin : (i : ℕ) (start : Start) → IsIn (starts_of place) start → 2 ≤ i → (e : Event) → (ask_for start ≡ e) ⊎ (step_of start (said start.slot) ≡ e) → MayMake None (take i all) p e
  make_begin i start among two e (inl is) = subst (MayMake None (take i all) p) is (place, refl, last_so i two, start_assigned place start among)
  make_begin i start among two e (inr is) = subst (MayMake None (take i all) p) is (record { opens = tt; place = place; last = last_so i two; runs = node_runs start.slot.node start.slot.shard start.tenure (start_assigned place start among) }, (place, refl, last_so i two, start_assigned place start among))

  make_so : (i : ℕ) (e : Event) → 2 ≤ i → At all i e → MayMake None (take i all) p e
  make_so i e two at =
      let of_it = of_begin said (starts_of place) e (in_begins i e two at) in
      make_begin i of_it.start of_it.among two e of_it.is

  hears_so : HearsOpened (InStretch all 0 (length all)) place
  hears_so node shard tenure h =
      let start : Start = record { slot = slot_at node shard; tenure = tenure } in
      let i = assigned_start place node shard tenure h in
      let at = in_at begins (step_of start (said start.slot)) (step_there said (starts_of place) start i) in
      let low = at_within begins at.0 (step_of start (said start.slot)) at.1 in
      (begin_reply (said start.slot), said_first state rf shards seed nodes old new m first start i, (call.Begin tenure, refl, (suc (suc at.0), (omega arith, omega (arith, low), at.1))))

  steps_so : AreSteps begins
  steps_so e i =
      let of_it = of_begin said (starts_of place) e i in
      elim of_it.is as (λ _. IsAskOrStep e) [ inl is ↦ subst IsAskOrStep is tt | inr is ↦ subst IsAskOrStep is tt ]

  -- a step is a begin
  step_at : (i n s : ℕ) (c : StepCall) (r : StepReply) → At all i (event.Step n s c r) → IsStepOf said (starts_of place) n s c r
  step_at zero n s c r at = cc
  step_at (suc zero) n s c r at = cc
  step_at (suc (suc i)) n s c r at = step_among said (starts_of place) n s c r (at_in begins i (event.Step n s c r) at)

  line_so : InitLine None turns [] a b all
  line_so = record {
    makes = record {
      makes = λ i e low two at. make_so i e two at;
      restarts = λ i n s r low two at. absurd (let is = (step_at i n s call.Restart r at).call_is in cc);
      hears = hears_so;
    };
    found_nothing = refl;
    opens = refl;
    sets = refl;
    place = place;
    version = place.version;
    answered = refl;
    begins = begins;
    steps = steps_so;
    adds = refl;
    not_earlier = λ q at. printed_none turns none q at;
  }

  -- ---- served

  place_at : (i : ℕ) (other : Placement) (done : List (ℕ × ℕ)) → At all i (event.Place other done) → other ≡ place
  place_at zero other done at = placed_same place other done (same_Some (event.Place place []) (event.Place other done) at)
    where
      placed_same : (x y : Placement) (done : List (ℕ × ℕ)) → event.Place x [] ≡ event.Place y done → y ≡ x
      placed_same x y done e = same_Some y x (sym (ap (λ e. placed_after None e) e))
  place_at (suc zero) other done at = cc
  place_at (suc (suc i)) other done at = absurd (quiet_begins said (starts_of place) (event.Place other done) (at_in begins i (event.Place other done) at))

  in_order : AddsInOrder [] all
  in_order = record {
    lawful = λ i other done adds. subst IsLawful (sym (place_at i other done adds.1)) first.lawful;
    one = λ i other done adds. last_all ∙ ap Some (sym (place_at i other done adds.1));
    ends = λ i node shard r adds. absurd (let is = (step_at i node shard call.End r adds.1).call_is in cc);
  }

  few_events : length all ≤ 642
  few_events =
      let long = begins_long said (starts_of place) in
      let few = few_starts place rf shards nodes first.lawful first.place in
      omega (arith, long, few)

  bounded : (writes : ℕ) → length ([] ++ all) ≤ length {A = Event} [] + (MOST_REQUEST_EVENTS * length (acts_in (line_of a b ∷ []))) * (writes + 1)
  bounded writes =
      let few = few_events in
      let one : 1 ≤ writes + 1 = omega arith in
      let some : (MOST_REQUEST_EVENTS * 1) * 1 ≤ (MOST_REQUEST_EVENTS * 1) * (writes + 1) = mul-le-mul_left (MOST_REQUEST_EVENTS * 1) one in
      omega (arith, few, some)

  module _ (tells : Bool) (lawful : (d : D) → IsLawfulDisk (state d)) (tell : tells ≡ true → TellAll state) (bare : tells ≡ true → AreBare state old.held) where
    opens_so : tells ≡ true → OpensNext None [] all
    opens_so is = record {
      fenced = λ i node shard tenure fence points adds begun.
          let of_it = step_at i node shard (call.Begin tenure) (reply.Began fence points) adds.1 in
          let began = began_so (said of_it.start.slot) fence points of_it.reply_is in
          let so = first_begins_bare state lawful m rf shards seed nodes old new (tell is) (bare is) first of_it.start of_it.among in
          inl (sym began.2 ∙ fence_of of_it.start began.0 (subst (BeginsBare of_it.start) began.1 so) ∙ tenure_of of_it.start.tenure tenure of_it.call_is);
      owned = λ i node shard tenure adds.
          let of_it = step_at i node shard (call.Begin tenure) (reply.Refused reason.NotOwned) adds.1 in
          let so = first_begins_bare state lawful m rf shards seed nodes old new (tell is) (bare is) first of_it.start of_it.among in
          absurd (so.owned (refused_so (said of_it.start.slot) reason.NotOwned of_it.reply_is));
    }
      where
        tenure_of : (x y : ℕ) → call.Begin x ≡ call.Begin y → x ≡ y
        tenure_of x y e = cc

        fence_of : (start : Start) (began : Began) → BeginsBare start (Ok began) → began.fence ≡ start.tenure
        fence_of start began h = (h.fence).0

    serves_so : (was : TurnPosition → List LateMessage) (past : List Record) → WereDelivered turns was → ServesOne tells [] [] was past None turns [] a b all
    serves_so was past were = record {
      adds = in_order;
      opens = opens_so;
      answered = decided turns rf shards seed nodes b [] (length all) none (first.initial, refl);
      delivers = tt;
      not_again = λ q at x y i j. absurd i;
      untaken_are = λ fault i. absurd i;
      different = tt;
      bound = λ is. bounded (writes_taken past (turns ++ line_of a b ∷ []));
    }

    leaves_so : LeavesAnew InitLine tells [] turns a b all
    leaves_so = record { line = line_so; serves = serves_so; delivered = λ was were. delivered_so turns a b [] (λ x i. absurd i) was were }

    pub leaves_first : LeavesAnew InitLine tells [] turns a b m.net.replicas.events
    leaves_first = subst (LeavesAnew InitLine tells [] turns a b) (sym events_are) leaves_so

pub first_tells : {D : Type 0} {G : Ghosts D} (state : D → DiskState) → ((d : D) → IsLawfulDisk (state d)) → (m : Members D G) → FirstTells state m
first_tells {D} {G} state lawful m tells turns rf shards seed nodes old new tell bare none first = leaves_first state m rf shards seed nodes old new first turns none tells lawful tell bare
