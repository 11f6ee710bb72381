-- A cluster that stands, one line on; and turns after which none stands.
use Rattle.std.proofs.Common.{◌≡◌, ◌<◌, ℕ, suc, List, [], ◌∷◌, ◌++◌, length, refl, sym, ap, ◌∙◌, subst, inl, inr, arith, Bool, true, false}
use Rattle.std.specs.Prelude.{◌⊎◌, Option, Some, None, slice_get, nat_lt, if◌then◌else◌}
use Rattle.std.specs.List.{Any}
use Rattle.std.proofs.lemmas.Bool.{leb-true}
use Rattle.m3_model.specs.Members.{IsIn}
use Rattle.m3_model.proofs.MemberLemmas.{IsIn-append_cases, IsIn-filter_map}
use Rattle.m3_model.specs.declared.act.Act.{Act}
use Rattle.m3_model.specs.declared.answer.Answer.{Answer}
use Rattle.m3_model.specs.declared.placement.Placement.{Placement}
use Rattle.m3_model.specs.declared.rules.MetaState.{MetaState}
use Rattle.m3_model.specs.declared.turn.Turn.{Turn}
use Rattle.m3_outside.specs.DiskState.{DiskState}
use Rattle.m3_outside.specs.declared.disk.Disk.{Ghosts}
use Rattle.cluster_core.specs.Earlier.{GivesTenure, HasTenure}
use Rattle.cluster_core.specs.declared.event.Event.{Event}
use Rattle.cluster_core.specs.declared.event.Event.TheVariants as event
use Rattle.cluster_core.specs.declared.event.StepCall.{StepCall}
use Rattle.cluster_core.specs.declared.event.StepReply.{StepReply}
use Rattle.cluster_core.proofs.ExtendLemmas.{any_more}
use Rattle.node_calls.specs.replica_exchange.declared.slot.Slot.{Slot}
use Rattle.node_calls.specs.session_net.Ready.{IsReady, Places}
use Rattle.node_calls.specs.session_net.Runs.{Ran, slot_at}
use Rattle.told_runs.specs.told_by.Hears.{HasReplica, IsNamedBy}
use Rattle.told_runs.proofs.told_by_proofs.BrokenLemmas.{turn_among}
use Rattle.told_runs.proofs.told_by_proofs.TurnLemmas.{inner-append}
use Rattle.transcripts.specs.Fates.{stopped_by}
use Rattle.transcripts.specs.Placements.{later_placement, newer, placement_after, placements, printed}
use Rattle.transcripts.proofs.PlacementLemmas.{known_more, known_printed}
use Rattle.transcripts.specs.Record.{InnerTurn, IsTurnPosition, TurnPosition, inner_turns, line_of}
use Rattle.line_tracks.specs.calls.Left.{AreSlots, AreStoppedBy, NetIsLeftBy}
use Rattle.line_tracks.proofs.calls.KeepLemmas.{fates_on, left_as_before, rules_on}
use Rattle.node_calls.specs.cluster_members.Kept.{IsKept, PastServes}
use Rattle.node_calls.specs.cluster_members.declared.members.Members.{Members}
use Rattle.line_tracks.specs.acts.Quiet.{KeepsStops}
use Rattle.line_tracks.specs.acts.Stands.{AreKept, HasSlots, KnowsNodes, NoneStands, PlacesAreKept, ClusterStands}
use Rattle.line_tracks.specs.acts.Stays.{HaveNoPlace, NoneIsPlaced, PrintsNoOther, StandsStill, StandsUnchanged, StaysUnmade}
use Rattle.line_tracks.proofs.acts.CountLemmas.{count_on}
use Rattle.line_tracks.proofs.acts.KnownLemmas.{known_on}
use Rattle.line_tracks.proofs.acts.GrowLemmas.{named_still, replica_before}
use Rattle.line_tracks.proofs.acts.QuietLemmas.{delivers_nothing_so, flags_on, keeps_stops_so, sets_nothing_so, slots_on, stops_next}

-- ---- before a cluster stands

none_printed : (turns : List InnerTurn) → ((turn : InnerTurn) → IsIn turns turn → printed turn.answer ≡ None) → placement_after None turns ≡ None
none_printed [] none = refl
none_printed (turn ∷ turns) none = ap (λ o. placement_after (later_placement o None) turns) (none turn (inl refl)) ∙ none_printed turns (λ x i. none x (inr i))

pub no_placement : (turns : List Turn) → NoneStands turns → placement_after None (inner_turns turns) ≡ None
no_placement turns none = none_printed (inner_turns turns) none.prints

pub printed_none : (turns : List Turn) → NoneStands turns → (q : TurnPosition) → IsTurnPosition turns q → printed q.turn.answer ≡ None
printed_none turns none q at = none.prints q.turn (turn_among turns q at)

pub none_is_placed : NoneIsPlaced
none_is_placed turns none = (no_placement turns none, printed_none turns none)

pub none_stands_at_first : NoneStands []
none_stands_at_first = record { prints = λ turn i. absurd i; rules = refl; fates = refl; runs = λ name. refl }

pub stays_unmade : StaysUnmade
stays_unmade turns a b none sets stays = record {
  prints = λ turn i. elim (IsIn-append_cases (inner_turns turns) (inner_turns (line_of a b ∷ [])) turn (subst (λ (ts : List InnerTurn). IsIn ts turn) (inner-append turns (line_of a b ∷ [])) i)) as (λ _. printed turn.answer ≡ None) [
    | inl before ↦ none.prints turn before
    | inr last ↦ elim last as (λ _. printed turn.answer ≡ None) [ inl same ↦ subst (λ (x : InnerTurn). printed x.answer ≡ None) same sets.place | inr nothing ↦ absurd nothing ]
  ];
  rules = rules_on None turns a b sets ∙ none.rules;
  fates = fates_on None turns a b sets ∙ none.fates;
  runs = λ name. stops_next turns a b name ∙ ap (stopped_by name a b) (none.runs name) ∙ stays name;
}

-- ---- placements

-- of a placement and the same one the newer is it
pub newer_same : (place : Placement) → newer place (Some place) ≡ place
newer_same place = by (nat_lt place.version place.version)
  where
    by : (t : Bool) → (if t then place else place) ≡ place
    by true = refl
    by false = refl

-- of a placement and one of the next version the latter stands
pub newer_next : (next place : Placement) → next.version ≡ suc place.version → newer next (Some place) ≡ next
newer_next next place later = by (nat_lt next.version place.version) refl
  where
    by : (t : Bool) → nat_lt next.version place.version ≡ t → (if t then place else next) ≡ next
    by false is = refl
    by true is = absurd (let low = leb-true (suc next.version) place.version is in omega (arith, low, later))

-- what is known after more turns was known before, or one of these printed it
printed_or : (xs ys : List InnerTurn) (place : Placement) → IsIn (placements None (xs ++ ys)) place → IsIn (placements None xs) place ⊎ ((t : InnerTurn) × IsIn ys t × (printed t.answer ≡ Some place))
printed_or xs ys place m =
    let t = IsIn-filter_map (λ (turn : InnerTurn). printed turn.answer) (xs ++ ys) place m in
    elim (IsIn-append_cases xs ys t.0 t.1) as (λ _. IsIn (placements None xs) place ⊎ ((u : InnerTurn) × IsIn ys u × (printed u.answer ≡ Some place))) [
      | inl before ↦ inl (known_printed None xs t.0 place before t.2)
      | inr last ↦ inr (t.0, last, t.2)
    ]

pub known_or_printed : (o : Option MetaState) (xs ys : List InnerTurn) (place : Placement) → IsIn (placements o (xs ++ ys)) place → IsIn (placements o xs) place ⊎ ((t : InnerTurn) × IsIn ys t × (printed t.answer ≡ Some place))
known_or_printed None xs ys place m = printed_or xs ys place m
known_or_printed (Some state) xs ys place (inl first) = inl (inl first)
known_or_printed (Some state) xs ys place (inr m) = elim (printed_or xs ys place m) as (λ _. IsIn (placements (Some state) xs) place ⊎ ((t : InnerTurn) × IsIn ys t × (printed t.answer ≡ Some place))) [ inl before ↦ inl (inr before) | inr last ↦ inr last ]

-- a turn that prints no other placement leaves those that are kept
pub kept_on : (start : Option MetaState) (turns : List Turn) (a : Act) (b : Answer) (standing : Placement) (past : List Placement) → PrintsNoOther standing b → AreKept start turns standing past → AreKept start (turns ++ line_of a b ∷ []) standing past
kept_on start turns a b standing past prints kept = record {
  are = λ place. (
    λ m. elim (known_or_printed start (inner_turns turns) (inner_turns (line_of a b ∷ [])) place (subst (λ (ts : List InnerTurn). IsIn (placements start ts) place) (inner-append turns (line_of a b ∷ [])) m)) as (λ _. IsKept standing past place) [
      | inl before ↦ (kept.are place).0 before
      | inr last ↦ elim last.1 as (λ _. IsKept standing past place) [
        | inl same ↦ inl (prints place (ap (λ (x : InnerTurn). printed x.answer) same ∙ last.2))
        | inr nothing ↦ absurd nothing
      ]
    ],
    λ k. subst (λ (ts : List InnerTurn). IsIn (placements start ts) place) (sym (inner-append turns (line_of a b ∷ []))) (known_more start (inner_turns turns) (inner_turns (line_of a b ∷ [])) place ((kept.are place).1 k)),
  );
  count = count_on start turns a b standing (length past) kept.count;
  fewer = kept.fewer;
}

-- ---- a cluster in which nothing changed

pub stands_unchanged : {D : Type 0} {G : Ghosts D} (m : Members D G) → StandsUnchanged m
stands_unchanged m start turns a b stands sets delivers = record {
  left = left_as_before m.net start turns m.net a b stands.left (record { state = refl; fates = refl }) (sets_nothing_so a b sets) (delivers_nothing_so a b delivers) refl;
  ready = stands.ready;
  kept = kept_on start turns a b m.net.state.place m.past.items (λ p is. let clash : None ≡ Some p = sym (sets_nothing_so a b sets).place ∙ is in cc) stands.kept;
  serves = stands.serves;
  placed = stands.placed;
  known = known_on turns a b m.net.state.place m.net.fates (sets_nothing_so a b sets).fates (keeps_stops_so a b sets) stands.known;
  slots = stands.slots;
  named = stands.named;
  stopped = flags_on turns a b m.net.state.place m.stopped.items (keeps_stops_so a b sets) stands.stopped;
}

-- ---- one line on

-- where these events came, and the slots are still those that have a replica
module _ {D : Type 0} {G : Ghosts D} (start : Option MetaState) (turns : List Turn) (old : Members D G) (stands : ClusterStands start turns old) (a : Act) (b : Answer) (new : Members D G) (same_place : new.net.state.place ≡ old.net.state.place) (more : List Event)
    (grew : new.net.replicas.events ≡ old.net.replicas.events ++ more) (no_place : HaveNoPlace more) (of_slots : (n s : ℕ) (c : StepCall) (r : StepReply) → IsIn more (event.Step n s c r) → IsIn old.slots.items (slot_at n s)) (slots : new.slots.items ≡ old.slots.items)
    (past : new.past.items ≡ old.past.items) (prints : PrintsNoOther old.net.state.place b) (are : AreSlots new.slots.items new.net.replicas) where
  slots_grown : HasSlots new
  slots_grown = record {
    are = are;
    given = λ s i. let given = stands.slots.given s (was_in s i) in (given.0, subst (λ es. HasTenure es s.node s.shard given.0) (sym grew) (any_more (GivesTenure s.node s.shard given.0) old.net.replicas.events more given.1));
    all = λ n s has. now_in (slot_at n s) (elim (replica_before old.net.replicas.events more no_place n s (subst (λ es. HasReplica es n s) grew has)) as (λ _. IsIn old.slots.items (slot_at n s)) [
      | inl before ↦ stands.slots.all n s before
      | inr stepped ↦ of_slots n s stepped.0 stepped.1 stepped.2
    ]);
    placed = λ s i. subst (λ (p : Placement). s.node < length p.instances) (sym same_place) (stands.slots.placed s (was_in s i));
  }
    where
      was_in : (s : Slot) → IsIn new.slots.items s → IsIn old.slots.items s
      was_in s i = subst (λ xs. IsIn xs s) slots i

      now_in : (s : Slot) → IsIn old.slots.items s → IsIn new.slots.items s
      now_in s i = subst (λ xs. IsIn xs s) (sym slots) i

  kept_grown : AreKept start (turns ++ line_of a b ∷ []) new.net.state.place new.past.items
  kept_grown = subst (λ xs. AreKept start (turns ++ line_of a b ∷ []) new.net.state.place xs) (sym past)
      (subst (λ (p : Placement). AreKept start (turns ++ line_of a b ∷ []) p old.past.items) (sym same_place) (kept_on start turns a b old.net.state.place old.past.items prints stands.kept))

  -- calls may go by each placement that is kept
  serves_grown : IsReady new.net.state new.net.replicas new.net.bag → PastServes new
  serves_grown ready place i =
      let was = stands.serves place (subst (λ xs. IsIn xs place) past i) in
      record {
        clock = ready.clock;
        place = subst (λ es. Any (Places place) es) (sym grew) (any_more (Places place) old.net.replicas.events more was.place);
        lawful = was.lawful;
        there = λ n s m. are.there (slot_at n s) (subst (λ xs. IsIn xs (slot_at n s)) (sym slots) (stands.slots.are.all (slot_at n s) (was.there n s m)));
        late = ready.late;
      }

  placed_grown : PlacesAreKept new
  placed_grown place done i =
      subst (λ xs. IsKept new.net.state.place xs place) (sym past) (subst (λ (p : Placement). IsKept p old.past.items place) (sym same_place)
      (elim (IsIn-append_cases old.net.replicas.events more (event.Place place done) (subst (λ es. IsIn es (event.Place place done)) grew i)) as (λ _. IsKept old.net.state.place old.past.items place) [
        | inl before ↦ stands.placed place done before
        | inr came ↦ absurd (no_place (event.Place place done) came)
      ]))

  pub stands_grown : NetIsLeftBy start (turns ++ line_of a b ∷ []) new.net → IsReady new.net.state new.net.replicas new.net.bag → AreStoppedBy (turns ++ line_of a b ∷ []) new.net.state.place new.stopped.items → KnowsNodes (turns ++ line_of a b ∷ []) new.net.state.place new.net.fates → ClusterStands start (turns ++ line_of a b ∷ []) new
  stands_grown left ready stopped known = record {
    left = left;
    ready = ready;
    kept = kept_grown;
    serves = serves_grown ready;
    placed = placed_grown;
    known = known;
    slots = slots_grown;
    named = λ n own at. subst (λ es. IsNamedBy es n own.name) (sym grew) (named_still old.net.replicas.events more no_place n own.name (stands.named n own (ap (λ (p : Placement). slice_get p.instances n) (sym same_place) ∙ at)));
    stopped = stopped;
  }

-- where its replicas took the steps among these events
pub stands_on : {D : Type 0} {G : Ghosts D} (state : D → DiskState) (start : Option MetaState) (turns : List Turn) (old : Members D G) → ClusterStands start turns old → (a : Act) (b : Answer) (new : Members D G) → new.net.state.place ≡ old.net.state.place
    → (more : List Event) → Ran state old.net.replicas more new.net.replicas → HaveNoPlace more → ((n s : ℕ) (c : StepCall) (r : StepReply) → IsIn more (event.Step n s c r) → IsIn old.slots.items (slot_at n s)) → new.slots.items ≡ old.slots.items → new.past.items ≡ old.past.items → PrintsNoOther old.net.state.place b
    → NetIsLeftBy start (turns ++ line_of a b ∷ []) new.net → IsReady new.net.state new.net.replicas new.net.bag → AreStoppedBy (turns ++ line_of a b ∷ []) new.net.state.place new.stopped.items → KnowsNodes (turns ++ line_of a b ∷ []) new.net.state.place new.net.fates → ClusterStands start (turns ++ line_of a b ∷ []) new
stands_on {D} {G} state start turns old stands a b new same_place more ran no_place of_slots slots past prints left ready stopped known =
    stands_grown start turns old stands a b new same_place more ran.grew no_place of_slots slots past prints
    (subst (λ xs. AreSlots xs new.net.replicas) (sym slots) (slots_on state old.slots.items old.net.replicas new.net.replicas more ran stands.slots.are)) left ready stopped known

-- a turn that neither stopped nor restarted a node leaves the flags
pub flags_stay : {D : Type 0} {G : Ghosts D} (turns : List Turn) (a : Act) (b : Answer) (old new : Members D G) → KeepsStops a b → new.net.state.place ≡ old.net.state.place → new.stopped.items ≡ old.stopped.items → AreStoppedBy turns old.net.state.place old.stopped.items
    → AreStoppedBy (turns ++ line_of a b ∷ []) new.net.state.place new.stopped.items
flags_stay turns a b old new keeps place stopped are =
    subst (λ (p : Placement). AreStoppedBy (turns ++ line_of a b ∷ []) p new.stopped.items) (sym place)
    (subst (AreStoppedBy (turns ++ line_of a b ∷ []) old.net.state.place) (sym stopped) (flags_on turns a b old.net.state.place old.stopped.items keeps are))

pub stands_still : {D : Type 0} {G : Ghosts D} (state : D → DiskState) (old : Members D G) → StandsStill state old
stands_still {D} {G} state old start turns new a b stands h = stands_on state start turns old stands a b new h.place h.more h.ran h.no_place h.of_slots h.slots h.past h.prints h.left h.ready (flags_stay turns a b old new h.halts h.place h.stopped stands.stopped) h.known
