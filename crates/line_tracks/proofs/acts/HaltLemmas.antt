-- Lines that stop or restart a node.
use Rattle.std.proofs.Common.{◌≡◌, ◌<◌, ◌≤◌, ◌+◌, ◌*◌, ℕ, List, [], ◌∷◌, ◌++◌, length, take, refl, sym, ap, ◌∙◌, subst, inl, inr, arith, Bool, true, false, length-append}
use Rattle.std.specs.Prelude.{◌⊎◌, Option, Some, None, nat_eq, IsTrue}
use Rattle.std.specs.List.{flat_map}
use Rattle.std.proofs.lemmas.Bool.{cases_lt}
use Rattle.m3_model.specs.Members.{IsIn}
use Rattle.m3_model.specs.Reads.{found_of}
use Rattle.m3_model.specs.declared.act.Act.{Act}
use Rattle.m3_model.specs.declared.act.Act.TheVariants as act
use Rattle.m3_model.specs.declared.answer.Answer.{Answer}
use Rattle.m3_model.specs.declared.answer.Answer.TheVariants as answer
use Rattle.m3_model.specs.declared.limits.TheConstants.{MOST_NODES, MOST_REQUEST_EVENTS, MOST_SHARDS}
use Rattle.m3_model.specs.declared.placement.Placement.{Placement}
use Rattle.m3_model.specs.declared.reason.Reason.{Reason}
use Rattle.m3_model.specs.declared.reason.Reason.TheVariants as reason
use Rattle.m3_model.specs.declared.rules.MetaState.{MetaState}
use Rattle.m3_model.specs.declared.turn.Turn.{Turn}
use Rattle.m3_model.proofs.MemberLemmas.{IsIn-append_cases, IsIn-append_left, IsIn-append_right}
use Rattle.m3_model.proofs.Lists.{IsIn-filter, IsIn-flat_map, flat_map-IsIn}
use Rattle.m3_outside.specs.DiskState.{DiskState}
use Rattle.m3_outside.specs.declared.disk.Disk.{Ghosts}
use Rattle.cluster_core.specs.Earlier.{last_place}
use Rattle.cluster_core.specs.Lists.{At}
use Rattle.cluster_core.specs.declared.event.Asked.TheVariants as asked
use Rattle.cluster_core.specs.declared.event.Event.{Event}
use Rattle.cluster_core.specs.declared.event.Event.TheVariants as event
use Rattle.cluster_core.specs.declared.event.StepCall.{StepCall}
use Rattle.cluster_core.specs.declared.event.StepCall.TheVariants as call
use Rattle.cluster_core.specs.declared.event.StepReply.{StepReply}
use Rattle.cluster_core.specs.declared.event.StepReply.TheVariants as reply
use Rattle.cluster_core.proofs.ListLemmas.{at_in, in_at}
use Rattle.node_calls.specs.replica_exchange.Exchanges.{ask_of}
use Rattle.node_calls.specs.replica_exchange.declared.slot.Slot.{Slot}
use Rattle.node_calls.specs.session_net.Messages.{exchange}
use Rattle.node_calls.specs.session_net.Ready.{IsReady}
use Rattle.node_calls.specs.session_net.Runs.{Ran, slot_at}
use Rattle.node_calls.proofs.session_net_proofs.ReadyLemmas.{AreQuiet, quiet_both}
use Rattle.told_runs.specs.told_by.Clocks.{sets_rules}
use Rattle.told_runs.specs.told_by.Hears.{AnySlot, HasStep, HearsBy, HearsRefused, InStretch, IsRestartCall}
use Rattle.told_runs.specs.told_by.Lines.{IsPlain, MayChange, PlainLine, position_after}
use Rattle.told_runs.specs.told_by.Makes.{EndsRestart, IsNamedLast, MayAsk, MayHalt, MayMake}
use Rattle.told_runs.specs.told_by.Openings.{sets_seed}
use Rattle.told_runs.specs.told_by.Spans.{From}
use Rattle.told_runs.specs.told_by.Writes.{IsUnmetWrite}
use Rattle.told_runs.proofs.told_by_proofs.OneLemmas.{among_back, at_back, back_at}
use Rattle.told_runs.specs.Answers.{HearsOf, IsOfKind}
use Rattle.transcripts.specs.Deliveries.{delivers_nothing}
use Rattle.transcripts.specs.Fates.{is_stopped, stopped_by}
use Rattle.transcripts.specs.Record.{TurnPosition, inner_turns, line_of}
use Rattle.line_tracks.specs.calls.Keeps.{SetsNothing}
use Rattle.line_tracks.specs.calls.Laws.{IsCalm, IsCalmCall, LeavesLine}
use Rattle.line_tracks.specs.calls.Left.{AreStoppedBy, NetIsLeftBy}
use Rattle.told_joins.proofs.FrontLemmas.{some_events}
use Rattle.told_joins.proofs.LineLemmas.{in_stretch}
use Rattle.line_tracks.proofs.calls.KeepLemmas.{left_as_before}
use Rattle.line_tracks.proofs.calls.ServeLemmas.{answered, delivered_so, serves_so}
use Rattle.node_calls.specs.cluster_members.declared.members.Members.{Members}
use Rattle.node_calls.proofs.cluster_members_proofs.NameLemmas.{node_found}
use Rattle.node_calls.specs.Halts.{IsUnrestarted, restart_at, slots_of_node, stop_at}
use Rattle.node_calls.specs.Nodes.{IsNode, IsUnstarted, KeepsButNodes}
use Rattle.node_calls.proofs.ListLemmas.{filter_few, flat_long}
use Rattle.node_calls.proofs.RunLemmas.{ready_still, restarts_quiet, stops_quiet, unrestarted_few, unrestarted_quiet}
use Rattle.line_tracks.specs.acts.Quiet.{KeepsStops}
use Rattle.line_tracks.specs.acts.Stands.{ClusterStands, IsUnnamed, KnowsNodes}
use Rattle.line_tracks.specs.acts.Stays.{HaveNoPlace, IsNoPlace}
use Rattle.line_tracks.proofs.acts.GrowLemmas.{given_before, last_before}
use Rattle.line_tracks.proofs.acts.KnownLemmas.{known_by, restart_stays, stop_stays}
use Rattle.line_tracks.proofs.acts.StandLemmas.{flags_stay, stands_on}
use Rattle.line_tracks.specs.acts.Nodes.{LeavesStanding, RestartFailedTells, RestartWantedTells, RestartedTells, StoppedTells}
use Rattle.line_tracks.proofs.acts.NodeStands.{named_last, of_node, slot_here, stopped_set, stopped_so}

-- ---- events at the slots of a node

-- the event asks one of these slots for a call of this kind, or is its step
pub record IsHaltOf (Kind : StepCall → Type 0) (slots : List Slot) (e : Event) : Type 0 where
  pub slot : Slot
  pub among : IsIn slots slot
  pub c : StepCall
  pub kind : Kind c
  pub is : (e ≡ ask_of slot.node slot.shard c) ⊎ ((r : StepReply) × (e ≡ event.Step slot.node slot.shard c r))

-- a stop or a restart
abbrev pub IsHaltCall : StepCall → Type 0
IsHaltCall c = (c ≡ call.Stop) ⊎ (c ≡ call.Restart)

halt_call_calm : (c : StepCall) → IsHaltCall c → IsCalmCall c
halt_call_calm c (inl stop) = subst IsCalmCall (sym stop) tt
halt_call_calm c (inr restart) = subst IsCalmCall (sym restart) tt

module _ (Kind : StepCall → Type 0) where
  pub exchange_halts : (slots : List Slot) (s : Slot) → IsIn slots s → (c : StepCall) → Kind c → (r : StepReply) (e : Event) → IsIn (exchange s.node s.shard c r) e → IsHaltOf Kind slots e
  exchange_halts slots s among c kind r e (inl is) = record { slot = s; among = among; c = c; kind = kind; is = inl (sym is) }
  exchange_halts slots s among c kind r e (inr (inl is)) = record { slot = s; among = among; c = c; kind = kind; is = inr (r, sym is) }
  exchange_halts slots s among c kind r e (inr (inr none)) = absurd none

  stops_halt : Kind call.Stop → (slots : List Slot) (e : Event) → IsIn (flat_map stop_at slots) e → IsHaltOf Kind slots e
  stops_halt kind slots e m = let found = IsIn-flat_map stop_at slots e m in exchange_halts slots found.0 found.1 call.Stop kind reply.Done e found.2

  restarts_halt : Kind call.Restart → (slots : List Slot) (e : Event) → IsIn (flat_map restart_at slots) e → IsHaltOf Kind slots e
  restarts_halt kind slots e m = let found = IsIn-flat_map restart_at slots e m in exchange_halts slots found.0 found.1 call.Restart kind reply.Done e found.2

  more_slots : (slots all : List Slot) → ((s : Slot) → IsIn slots s → IsIn all s) → (e : Event) → IsHaltOf Kind slots e → IsHaltOf Kind all e
  more_slots slots all each e h = record { slot = h.slot; among = each h.slot h.among; c = h.c; kind = h.kind; is = h.is }

  unrestarted_halts : Kind call.Restart → (slots : List Slot) (shard : ℕ) (why : Reason) (events : List Event) → IsUnrestarted slots shard why events → (e : Event) → IsIn events e → IsHaltOf Kind slots e
  unrestarted_halts kind slots shard why events h e m =
      let s = h.slot in
      let one : List Event = exchange s.node s.shard call.Restart (reply.Refused why) in
      elim (IsIn-append_cases (flat_map restart_at h.before) one e (subst (λ es. IsIn es e) h.are m)) as (λ _. IsHaltOf Kind slots e) [
        | inl before ↦ more_slots h.before slots (λ x i. subst (λ xs. IsIn xs x) (sym h.parts) (IsIn-append_left h.before (s ∷ h.later) x i)) e (restarts_halt kind h.before e before)
        | inr last ↦ exchange_halts slots s (subst (λ xs. IsIn xs s) (sym h.parts) (IsIn-append_right h.before (s ∷ h.later) s (inl refl))) call.Restart kind (reply.Refused why) e last
      ]

  -- ---- what such an event isn't

  pub halt_no_place : (slots : List Slot) (e : Event) → IsHaltOf Kind slots e → IsNoPlace e
  halt_no_place slots e h = elim h.is as (λ _. IsNoPlace e) [ inl is ↦ subst IsNoPlace (sym is) tt | inr is ↦ subst IsNoPlace (sym is.1) tt ]

  pub halt_calm : ((c : StepCall) → Kind c → IsCalmCall c) → (slots : List Slot) (e : Event) → IsHaltOf Kind slots e → IsCalm e
  halt_calm of_kind slots e h = elim h.is as (λ _. IsCalm e) [ inl is ↦ subst IsCalm (sym is) tt | inr is ↦ subst IsCalm (sym is.1) (of_kind h.c h.kind) ]

  pub halt_changes : (slots : List Slot) (p : TurnPosition) (past : List Event) (e : Event) → IsHaltOf Kind slots e → MayChange p past e
  halt_changes slots p past e h = elim h.is as (λ _. MayChange p past e) [ inl is ↦ subst (MayChange p past) (sym is) tt | inr is ↦ subst (MayChange p past) (sym is.1) tt ]

  pub halt_step : (slots : List Slot) (n s : ℕ) (c : StepCall) (r : StepReply) → IsHaltOf Kind slots (event.Step n s c r) → IsIn slots (slot_at n s)
  halt_step slots n s c r h = by h.slot h.among h.c h.is
    where
      by : (slot : Slot) → IsIn slots slot → (d : StepCall) → (event.Step n s c r ≡ ask_of slot.node slot.shard d) ⊎ ((q : StepReply) × (event.Step n s c r ≡ event.Step slot.node slot.shard d q)) → IsIn slots (slot_at n s)
      by slot among d (inl is) = cc
      by slot among d (inr (q, is)) = let node : slot.node ≡ n = cc in let shard : slot.shard ≡ s = cc in subst (IsIn slots) (λ i. record { shard = shard i; node = node i }) among

-- ---- the line

-- where a named node may be halted, its slots may be asked for calls of this kind, and step so
abbrev pub MayAskFor : (StepCall → Type 0) → Option MetaState → List Turn → Act → Answer → List ℕ → Type 0
MayAskFor Kind start turns a b name =
    (past : List Event) (k s : ℕ) (c : StepCall) → Kind c
    → ((r : StepReply) → MayHalt past (position_after turns a b) name k s → MayMake start past (position_after turns a b) (event.Step k s c r)) × (MayHalt past (position_after turns a b) name k s → MayAsk start past (position_after turns a b) a (asked.Step k s c))

-- what the answer says is heard, and neither sets nor prints anything
pub record IsHaltAnswer (a : Act) (b : Answer) : Type 0 where
  pub plain : IsPlain a b
  pub sets : SetsNothing a b
  pub quiet : IsTrue (delivers_nothing (line_of a b))
  pub no_boot : (available : List (ℕ × List ℕ)) (place : Placement) (version : ℕ) → b ≡ answer.Available available place version → ⊥

module _ {D : Type 0} {G : Ghosts D} (state : D → DiskState) (start : Option MetaState) (turns : List Turn) (old new : Members D G) (stands : ClusterStands start turns old) (name : List ℕ) (halted : Bool) (n : IsNode old name halted)
    (a : Act) (b : Answer) (answers : IsHaltAnswer a b) (Kind : StepCall → Type 0) (of_kind : (c : StepCall) → Kind c → IsHaltCall c) (more : List Event) (ran : Ran state old.net.replicas more new.net.replicas) (halts : (e : Event) → IsIn more e → IsHaltOf Kind (slots_of_node n.node old.slots.items) e)
    (asks : MayAskFor Kind start turns a b name)
    (keeps : KeepsButNodes old new) where
  abbrev pub events : List Event
  events = old.net.replicas.events

  abbrev pub whole : List Event
  whole = events ++ more

  abbrev pub p : TurnPosition
  p = position_after turns a b

  abbrev pub own_slots : List Slot
  own_slots = slots_of_node n.node old.slots.items

  no_place : HaveNoPlace more
  no_place e m = halt_no_place Kind own_slots e (halts e m)

  may_halt : (i : ℕ) (e : Event) → length events ≤ i → At whole i e → (s : Slot) → IsIn own_slots s → MayHalt (take i whole) p name s.node s.shard
  may_halt i e le at s among =
      let given = stands.slots.given s (IsIn-filter (λ (x : Slot). nat_eq x.node n.node) old.slots.items s among) in
      let last : last_place (take i whole) ≡ Some old.net.state.place = last_before events more no_place i e le at ∙ stands.ready.place in
      record {
        alone = refl;
        of_node = subst (λ k. IsNamedLast (take i whole) k name) (sym (of_node n.node old.slots.items s among)) (named_last start turns old stands name halted n (take i whole) last);
        tenure = given.0;
        given = given_before events more s.node s.shard given.0 given.1 i e le at;
      }

  makes : (i : ℕ) (e : Event) → length events ≤ i → At whole i e → MayMake start (take i whole) p e
  makes i e le at =
      let h = halts e (among_back events more i e at le) in
      let s = h.slot in
      let may = may_halt i e le at s h.among in
      let each = asks (take i whole) s.node s.shard h.c h.kind in
      elim h.is as (λ _. MayMake start (take i whole) p e) [
        | inl is ↦ subst (MayMake start (take i whole) p) (sym is) (each.1 may)
        | inr is ↦ subst (MayMake start (take i whole) p) (sym is.1) (each.0 is.0 may)
      ]

  pub line : HearsBy start events (InStretch whole (length events) (length whole)) p a b → ((i k s : ℕ) (r : StepReply) → length events ≤ i → At whole i (event.Step k s call.Restart r) → EndsRestart (From (length events)) whole (λ _. p) p i k s) → PlainLine start turns events a b more
  line hears restarts = record {
    makes = record { makes = λ i e le two at. makes i e le at; restarts = λ i k s r le two at. restarts i k s r le at; hears = hears };
    plain = answers.plain;
    opened = inl (some_events events old.net.state.place stands.ready.place);
    adds = λ i e at. halt_changes Kind own_slots p (events ++ take i more) e (halts e (at_in more i e at));
    prints = record {
      is_place = λ place e. absurd (let bad : None ≡ Some place = sym answers.sets.place ∙ e in cc);
      not_earlier = λ q at was is e f. absurd (let bad : None ≡ Some is = sym answers.sets.place ∙ f in cc);
    };
    ends = λ available boot x m. absurd (answers.no_boot available boot.place boot.version boot.answered);
  }

  calm : (e : Event) → IsIn more e → IsCalm e
  calm e m = halt_calm Kind (λ c kind. halt_call_calm c (of_kind c kind)) own_slots e (halts e m)

  pub leaves : PlainLine start turns events a b more → length more ≤ MOST_REQUEST_EVENTS → HearsOf start (InStretch whole (length events) (length whole)) p [] b → (b ≡ answer.Memory) ⊎ IsOfKind [] start p a b → LeavesLine PlainLine start turns [] old.net a b new.net
  leaves line few heard kind = record {
    more = more;
    grew = ran.grew;
    line = line;
    serves = λ none. serves_so start turns events a b more calm few [] heard (λ x m. absurd m) (answered start turns events a b more calm kind none);
    delivered = delivered_so turns a b [] (λ m i. absurd i);
  }

  pub left_so : new.net.bag ≡ old.net.bag → NetIsLeftBy start (turns ++ line_of a b ∷ []) new.net
  left_so bag = left_as_before old.net start turns new.net a b stands.left (record { state = keeps.state; fates = keeps.fates }) answers.sets answers.quiet bag

  ready_so : AreQuiet more → IsReady new.net.state new.net.replicas new.net.bag
  ready_so quiet =
      subst (λ st. IsReady st new.net.replicas new.net.bag) (sym keeps.state) (subst (IsReady old.net.state new.net.replicas) (sym keeps.bag) (ready_still state old.net.replicas new.net.replicas more ran old.net.state old.net.bag stands.ready quiet))

  pub stands_so : AreQuiet more → AreStoppedBy (turns ++ line_of a b ∷ []) new.net.state.place new.stopped.items → ((own : List ℕ) → IsUnnamed old.net.state.place own → stopped_by own a b false ≡ false) → ClusterStands start (turns ++ line_of a b ∷ []) new
  stands_so quiet stopped stays = stands_on state start turns old stands a b new (ap (λ (s : MetaState). s.place) keeps.state) more ran no_place
      (λ k s c r m. IsIn-filter (λ (x : Slot). nat_eq x.node n.node) old.slots.items (slot_at k s) (halt_step Kind own_slots k s c r (halts (event.Step k s c r) m))) keeps.slots keeps.past (λ q is. let clash : None ≡ Some q = sym answers.sets.place ∙ is in cc) (left_so keeps.bag) (ready_so quiet) stopped
      (subst (λ (s : MetaState). KnowsNodes (turns ++ line_of a b ∷ []) s.place new.net.fates) (sym keeps.state) (subst (KnowsNodes (turns ++ line_of a b ∷ []) old.net.state.place) (sym keeps.fates) (known_by turns a b old.net.state.place old.net.fates answers.sets.fates stays stands.known)))

-- ---- sizes and quiet

pub few_own : {D : Type 0} {G : Ghosts D} (m : Members D G) (node : ℕ) → length (slots_of_node node m.slots.items) ≤ MOST_NODES * MOST_SHARDS
few_own m node = let few = filter_few (λ (s : Slot). nat_eq s.node node) m.slots.items in let most = m.few_slots in omega (arith, few, most)

no_restart : (slots : List Slot) (n s : ℕ) (r : StepReply) → IsIn (flat_map stop_at slots) (event.Step n s call.Restart r) → ⊥
no_restart slots n s r m =
    let found = IsIn-flat_map stop_at slots (event.Step n s call.Restart r) m in
    by (found.0) found.2
  where
    by : (slot : Slot) → IsIn (stop_at slot) (event.Step n s call.Restart r) → ⊥
    by slot (inl is) = cc
    by slot (inr (inl is)) = cc
    by slot (inr (inr none)) = none

-- ---- a node is stopped

pub plain_so : (a : Act) (b : Answer) → ((nodes : List ℕ) → b ≡ answer.Acks nodes → ⊥) → ¬ IsUnmetWrite a b → found_of b ≡ None → sets_rules a b ≡ false → sets_seed a b ≡ false → IsPlain a b
plain_so a b acks unmet found rules seed = record { no_acks = acks; not_unmet = unmet; no_found = found; no_rules = rules; no_seed = seed }

stop_answer : (name : List ℕ) → IsHaltAnswer (act.Stop name) answer.Done
stop_answer name = record {
  plain = plain_so (act.Stop name) answer.Done (λ nodes e. cc) (λ u. u) refl refl refl;
  sets = record { rules = λ x. refl; place = refl; seed = λ x. refl; fates = refl };
  quiet = refl;
  no_boot = λ available place version e. cc;
}

abbrev pub IsStop : StepCall → Type 0
IsStop c = c ≡ call.Stop

stop_asks : (start : Option MetaState) (turns : List Turn) (name : List ℕ) → MayAskFor IsStop start turns (act.Stop name) answer.Done name
stop_asks start turns name past k s c kind =
    let p = position_after turns (act.Stop name) answer.Done in
    (λ r may. subst (λ d. MayMake start past p (event.Step k s d r)) (sym kind) (may, refl), λ may. subst (λ d. MayAsk start past p (act.Stop name) (asked.Step k s d)) (sym kind) (may, refl))

pub stopped_tells : {D : Type 0} {G : Ghosts D} (state : D → DiskState) (old : Members D G) → StoppedTells state old
stopped_tells {D} {G} state old start turns new name stands h =
    let a : Act = act.Stop name in
    let n = h.ran in
    let slots = slots_of_node n.node old.slots.items in
    let more = flat_map stop_at slots in
    let events = old.net.replicas.events in
    let halts = stops_halt IsStop refl slots in
    let asks = stop_asks start turns name in
    record {
      line = leaves state start turns old new stands name false n a answer.Done (stop_answer name) IsStop (λ c k. inl k) more h.stopped halts asks h.keeps
          (line state start turns old new stands name false n a answer.Done (stop_answer name) IsStop (λ c k. inl k) more h.stopped halts asks h.keeps
          (λ k s slot. in_stretch events more (event.Step k s call.Stop reply.Done) (flat_map-IsIn stop_at slots (slot_at k s) (event.Step k s call.Stop reply.Done) (slot_here start turns old stands name false n k s slot.named slot.has) (inr (inl refl))))
          (λ i k s r le at. inl refl))
          (let long = flat_long stop_at (λ s. refl) slots in let few = few_own old n.node in omega (arith, long, few)) tt (inr tt);
      stands = stands_so state start turns old new stands name false n a answer.Done (stop_answer name) IsStop (λ c k. inl k) more h.stopped halts asks h.keeps (stops_quiet slots)
          (stopped_set start turns old stands name false n new true a answer.Done h.stopped_now (ap (λ (s : MetaState). s.place) h.keeps.state) (λ own x. refl))
          (let found = node_found name old.net.state.place.instances n.node n.found in stop_stays old.net.state.place name n.node found.instance_ found.stands found.name_is);
    }

-- ---- a node is restarted

restart_answer : (name : List ℕ) (pick : ℕ) → IsHaltAnswer (act.Restart name pick) answer.Done
restart_answer name pick = record {
  plain = plain_so (act.Restart name pick) answer.Done (λ nodes e. cc) (λ u. u) refl refl refl;
  sets = record { rules = λ x. refl; place = refl; seed = λ x. refl; fates = refl };
  quiet = refl;
  no_boot = λ available place version e. cc;
}

abbrev pub IsRestart : StepCall → Type 0
IsRestart c = c ≡ call.Restart

restart_asks : (start : Option MetaState) (turns : List Turn) (name : List ℕ) (pick : ℕ) (b : Answer) → is_stopped (inner_turns turns) name ≡ true → MayAskFor IsRestart start turns (act.Restart name pick) b name
restart_asks start turns name pick b stopped past k s c kind =
    let p = position_after turns (act.Restart name pick) b in
    (λ r may. subst (λ d. MayMake start past p (event.Step k s d r)) (sym kind) (may, stopped), λ may. subst (λ d. MayAsk start past p (act.Restart name pick) (asked.Step k s d)) (sym kind) (may, stopped))

pub restarted_tells : {D : Type 0} {G : Ghosts D} (state : D → DiskState) (old : Members D G) → RestartedTells state old
restarted_tells {D} {G} state old start turns new name pick stands h =
    let a : Act = act.Restart name pick in
    let n = h.was in
    let slots = slots_of_node n.node old.slots.items in
    let more = flat_map restart_at slots in
    let events = old.net.replicas.events in
    let halts = restarts_halt IsRestart refl slots in
    let asks = restart_asks start turns name pick answer.Done (stopped_so start turns old stands name true n) in
    record {
      line = leaves state start turns old new stands name true n a answer.Done (restart_answer name pick) IsRestart (λ c k. inr k) more h.restarted halts asks h.keeps
          (line state start turns old new stands name true n a answer.Done (restart_answer name pick) IsRestart (λ c k. inr k) more h.restarted halts asks h.keeps
          (λ k s slot. in_stretch events more (event.Step k s call.Restart reply.Done) (flat_map-IsIn restart_at slots (slot_at k s) (event.Step k s call.Restart reply.Done) (slot_here start turns old stands name true n k s slot.named slot.has) (inr (inl refl))))
          (λ i k s r le at. inl refl))
          (let long = flat_long restart_at (λ s. refl) slots in let few = few_own old n.node in omega (arith, long, few)) tt (inr tt);
      stands = stands_so state start turns old new stands name true n a answer.Done (restart_answer name pick) IsRestart (λ c k. inr k) more h.restarted halts asks h.keeps (restarts_quiet slots)
          (stopped_set start turns old stands name true n new false a answer.Done h.stopped_now (ap (λ (s : MetaState). s.place) h.keeps.state) (λ own x. refl))
          (λ own away. restart_stays name pick own);
    }

-- ---- one that stays stopped

refused_asks : (start : Option MetaState) (turns : List Turn) (name : List ℕ) (pick : ℕ) (b : Answer) → is_stopped (inner_turns turns) name ≡ true → (b ≡ answer.Done → ⊥) → MayAskFor IsHaltCall start turns (act.Restart name pick) b name
refused_asks start turns name pick b stopped not past k s c kind =
    let p = position_after turns (act.Restart name pick) b in
    elim kind as (λ _. ((r : StepReply) → MayHalt past p name k s → MayMake start past p (event.Step k s c r)) × (MayHalt past p name k s → MayAsk start past p (act.Restart name pick) (asked.Step k s c))) [
      | inl stop ↦ (λ r may. subst (λ d. MayMake start past p (event.Step k s d r)) (sym stop) (may, stopped, not), λ may. subst (λ d. MayAsk start past p (act.Restart name pick) (asked.Step k s d)) (sym stop) (may, stopped, not))
      | inr restart ↦ (λ r may. subst (λ d. MayMake start past p (event.Step k s d r)) (sym restart) (may, stopped), λ may. subst (λ d. MayAsk start past p (act.Restart name pick) (asked.Step k s d)) (sym restart) (may, stopped))
    ]

module _ {D : Type 0} {G : Ghosts D} (state : D → DiskState) (start : Option MetaState) (turns : List Turn) (old new : Members D G) (stands : ClusterStands start turns old) (name : List ℕ) (pick shard : ℕ) (why : Reason) (h : IsUnstarted state old name shard why new)
    (b : Answer) (answers : IsHaltAnswer (act.Restart name pick) b) (not_done : b ≡ answer.Done → ⊥) (halts_so : KeepsStops (act.Restart name pick) b) where
  abbrev pub slots : List Slot
  slots = slots_of_node h.was.node old.slots.items

  abbrev pub stops : List Event
  stops = flat_map stop_at slots

  abbrev pub came : List Event
  came = h.tried ++ stops

  each : (e : Event) → IsIn came e → IsHaltOf IsHaltCall slots e
  each e m = elim (IsIn-append_cases h.tried stops e m) as (λ _. IsHaltOf IsHaltCall slots e) [
    | inl tried ↦ unrestarted_halts IsHaltCall (inr refl) slots shard why h.tried h.refused e tried
    | inr stopped ↦ stops_halt IsHaltCall (inl refl) slots e stopped
  ]

  asks : MayAskFor IsHaltCall start turns (act.Restart name pick) b name
  asks = refused_asks start turns name pick b (stopped_so start turns old stands name true h.was) not_done

  -- each restart is followed by a stop
  again : (i k s : ℕ) (r : StepReply) → length old.net.replicas.events ≤ i → At (old.net.replicas.events ++ came) i (event.Step k s call.Restart r)
      → EndsRestart (From (length old.net.replicas.events)) (old.net.replicas.events ++ came) (λ _. position_after turns (act.Restart name pick) b) (position_after turns (act.Restart name pick) b) i k s
  again i k s r le at =
      let events = old.net.replicas.events in
      let step : Event = event.Step k s call.Restart r in
      let back = at_back events came i step at le in
      let in_tried : back.0 < length h.tried = before back.0 back.2 in
      let slot = halt_step IsHaltCall slots k s call.Restart r (each step (at_in came back.0 step back.2)) in
      let stop : Event = event.Step k s call.Stop reply.Done in
      let there = in_at stops stop (flat_map-IsIn stop_at slots (slot_at k s) stop slot (inr (inl refl))) in
      let there_too = back_at events came (length h.tried + there.0) stop (back_at h.tried stops there.0 stop there.1) in
      let is = back.1 in
      let later : i < length events + (length h.tried + there.0) = omega (arith, is, in_tried) in
      let mine : length events ≤ length events + (length h.tried + there.0) = omega arith in
      inr (record { stop = length events + (length h.tried + there.0); later = later; there = there_too; mine = mine; own = refl })
    where
      before : (j : ℕ) → At came j (event.Step k s call.Restart r) → j < length h.tried
      before j at = elim (cases_lt j (length h.tried)) as (λ _. j < length h.tried) [ inl lt ↦ lt | inr ge ↦ absurd (no_restart slots k s r (among_back h.tried stops j (event.Step k s call.Restart r) at ge)) ]

  pub kept_line : HearsBy start old.net.replicas.events (InStretch (old.net.replicas.events ++ came) (length old.net.replicas.events) (length (old.net.replicas.events ++ came))) (position_after turns (act.Restart name pick) b) (act.Restart name pick) b
      → HearsOf start (InStretch (old.net.replicas.events ++ came) (length old.net.replicas.events) (length (old.net.replicas.events ++ came))) (position_after turns (act.Restart name pick) b) [] b
      → (b ≡ answer.Memory) ⊎ IsOfKind [] start (position_after turns (act.Restart name pick) b) (act.Restart name pick) b → LeavesStanding start turns old (act.Restart name pick) b new
  kept_line hears heard kind = record {
    line = leaves state start turns old new stands name true h.was (act.Restart name pick) b answers IsHaltCall (λ c k. k) came h.stopped each asks h.keeps
        (line state start turns old new stands name true h.was (act.Restart name pick) b answers IsHaltCall (λ c k. k) came h.stopped each asks h.keeps hears again)
        (let long = flat_long stop_at (λ s. refl) slots in let both = length-append h.tried stops in let tried = unrestarted_few slots shard why h.tried h.refused in let few = few_own old h.was.node in omega (arith, long, both, tried, few)) heard kind;
    stands = stands_so state start turns old new stands name true h.was (act.Restart name pick) b answers IsHaltCall (λ c k. k) came h.stopped each asks h.keeps
        (quiet_both h.tried stops (unrestarted_quiet slots shard why h.tried h.refused) (stops_quiet slots)) (flags_stay turns (act.Restart name pick) b old new halts_so (ap (λ (s : MetaState). s.place) h.keeps.state) h.stays stands.stopped) (λ own away. halts_so own false);
  }

  -- the refused step is heard
  pub refused_heard : HearsRefused old.net.replicas.events (InStretch (old.net.replicas.events ++ came) (length old.net.replicas.events) (length (old.net.replicas.events ++ came))) AnySlot name shard IsRestartCall why
  refused_heard =
      let s = h.refused.slot in
      let step : Event = event.Step s.node s.shard call.Restart (reply.Refused why) in
      let own : s.node ≡ h.was.node = of_node h.was.node old.slots.items s (subst (λ xs. IsIn xs s) (sym h.refused.parts) (IsIn-append_right h.refused.before (s ∷ h.refused.later) s (inl refl))) in
      let last : List Event = exchange s.node s.shard call.Restart (reply.Refused why) in
      let among : IsIn h.tried step = subst (λ es. IsIn es step) (sym h.refused.are) (IsIn-append_right (flat_map restart_at h.refused.before) last step (inr (inl refl))) in
      let here = in_stretch old.net.replicas.events came step (IsIn-append_left h.tried stops step among) in
      record {
        node = s.node;
        of_node = subst (λ k. IsNamedLast old.net.replicas.events k name) (sym own) (named_last start turns old stands name true h.was old.net.replicas.events stands.ready.place);
        reached = tt;
        step = subst (λ t. HasStep (InStretch (old.net.replicas.events ++ came) (length old.net.replicas.events) (length (old.net.replicas.events ++ came))) IsRestartCall s.node t (reply.Refused why)) h.refused.shard_is (call.Restart, tt, here);
      }

disk_answer : (name : List ℕ) (pick : ℕ) (node : List ℕ) (shard : ℕ) → IsHaltAnswer (act.Restart name pick) (answer.Disk node shard)
disk_answer name pick node shard = record {
  plain = plain_so (act.Restart name pick) (answer.Disk node shard) (λ nodes e. cc) (λ u. u) refl refl refl;
  sets = record { rules = λ x. refl; place = refl; seed = λ x. refl; fates = refl };
  quiet = refl;
  no_boot = λ available place version e. cc;
}

memory_answer : (name : List ℕ) (pick : ℕ) → IsHaltAnswer (act.Restart name pick) answer.Memory
memory_answer name pick = record {
  plain = plain_so (act.Restart name pick) answer.Memory (λ nodes e. cc) (λ u. u) refl refl refl;
  sets = record { rules = λ x. refl; place = refl; seed = λ x. refl; fates = refl };
  quiet = refl;
  no_boot = λ available place version e. cc;
}

pub restart_failed_tells : {D : Type 0} {G : Ghosts D} (state : D → DiskState) (old : Members D G) → RestartFailedTells state old
restart_failed_tells {D} {G} state old start turns new name node pick shard stands (same, h) =
    kept_line state start turns old new stands name pick shard reason.Disk h (answer.Disk node shard) (disk_answer name pick node shard) (λ e. cc) (λ own x. refl)
    (same, refused_heard state start turns old new stands name pick shard reason.Disk h (answer.Disk node shard) (disk_answer name pick node shard) (λ e. cc) (λ own x. refl))
    tt (inr tt)

pub restart_wanted_tells : {D : Type 0} {G : Ghosts D} (state : D → DiskState) (old : Members D G) → RestartWantedTells state old
restart_wanted_tells {D} {G} state old start turns new name pick stands (shard, h) =
    kept_line state start turns old new stands name pick shard reason.Memory h answer.Memory (memory_answer name pick) (λ e. cc) (λ own x. refl) tt tt (inl refl)
