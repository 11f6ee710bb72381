-- Lines that set the rules, or the fates.
use Rattle.std.proofs.Common.{◌≡◌, ℕ, ◌≤◌, List, [], ◌∷◌, ◌++◌, length, take, refl, sym, ap, subst, ◌∙◌, inl, inr, arith, true, unwrap_or}
use Rattle.std.specs.Prelude.{Option, Some, None}
use Rattle.std.proofs.lemmas.List.{append-nil}
use Rattle.m3_model.specs.Members.{IsIn}
use Rattle.m3_model.specs.declared.act.Act.{Act}
use Rattle.m3_model.specs.declared.act.Act.TheVariants as act
use Rattle.m3_model.specs.declared.act.Fate.{Fate}
use Rattle.m3_model.specs.declared.act.Fate.TheVariants.{Deliver}
use Rattle.m3_model.specs.declared.answer.Answer.TheVariants as answer
use Rattle.m3_model.specs.declared.placement.Placement.{Placement}
use Rattle.m3_model.specs.declared.rules.MetaState.{MetaState}
use Rattle.m3_model.specs.declared.rules.Rules.{Rules}
use Rattle.m3_model.specs.declared.turn.Reply.TheVariants as reply
use Rattle.m3_model.specs.declared.turn.Request.TheVariants as request
use Rattle.m3_model.specs.declared.turn.Turn.{Turn}
use Rattle.m3_outside.specs.DiskState.{DiskState}
use Rattle.m3_outside.specs.declared.disk.Disk.{Ghosts}
use Rattle.cluster_core.specs.declared.event.Asked.TheVariants as asked
use Rattle.cluster_core.specs.declared.event.Event.{Event}
use Rattle.cluster_core.specs.declared.event.Event.TheVariants as event
use Rattle.cluster_core.specs.declared.event.StepCall.{StepCall}
use Rattle.cluster_core.specs.declared.event.StepCall.TheVariants as call
use Rattle.cluster_core.specs.declared.event.StepReply.{StepReply}
use Rattle.net_plan.specs.Fates.{FateMap, fate_of}
use Rattle.net_plan.specs.declared.fate_key.FateKey.{FateKey}
use Rattle.net_plan.proofs.RowLemmas.{get-fates}
use Rattle.node_calls.specs.replica_calls.Calls.{Tracked}
use Rattle.node_calls.specs.session_net.Ready.{IsReady}
use Rattle.told_runs.specs.told_by.Clocks.{sets_rules}
use Rattle.told_runs.specs.told_by.Hears.{HearsBy, InStretch}
use Rattle.told_runs.specs.told_by.Lines.{AreSteps, IsAskOrStep, ClockLine, PlainLine, position_after}
use Rattle.told_runs.specs.told_by.Makes.{MayAsk, MayMake}
use Rattle.told_runs.proofs.told_by_proofs.OneLemmas.{among_back}
use Rattle.told_runs.specs.Answers.{IsOfKind}
use Rattle.transcripts.specs.Fates.{Numbering, calls_in, client_acts, fate_in, fates_set, numbering_after, numbering_by}
use Rattle.transcripts.specs.Placements.{seed_after, seed_by}
use Rattle.transcripts.specs.Record.{inner_turns, line_of}
use Rattle.transcripts.specs.Rules.{rules_after, rules_by, start_rules}
use Rattle.line_tracks.specs.calls.Laws.{IsCalm, LeavesServed}
use Rattle.line_tracks.specs.calls.Left.{AreSlots, FareAsSet, HoldsBack, NetIsLeftBy}
use Rattle.line_tracks.proofs.calls.DeliverLemmas.{long_list, nothing_line}
use Rattle.line_tracks.proofs.calls.KeepLemmas.{holds_on, numbering_next, place_next, rules_next, seed_next}
use Rattle.line_tracks.proofs.calls.ServeLemmas.{answered, delivered_so, serves_so}
use Rattle.node_calls.specs.cluster_members.Steps.{SetsRules, clock_events}
use Rattle.node_calls.specs.cluster_members.declared.members.Members.{Members}
use Rattle.node_calls.proofs.cluster_members_proofs.ClockLemmas.{ready_ruled}
use Rattle.line_tracks.specs.acts.Due.{HaveLeft, IsDueNext}
use Rattle.line_tracks.specs.acts.Settings.{FatesTell, GoesOn, MovedTells, NamedTells}
use Rattle.line_tracks.specs.acts.Quiet.{KeepsStops}
use Rattle.line_tracks.specs.acts.Stands.{ClusterStands, KnowsNodes}
use Rattle.line_tracks.specs.acts.Stays.{IsNoPlace}
use Rattle.line_tracks.proofs.acts.DueLemmas.{fates_are_due, moments_are_due, namespaces_are_due}
use Rattle.line_tracks.proofs.acts.KnownLemmas.{known_kept, known_set}
use Rattle.line_tracks.proofs.acts.NameLemmas.{numbered_fate}
use Rattle.line_tracks.proofs.acts.StandLemmas.{flags_stay, stands_grown, stands_still}

-- ---- the rules

-- a Clock and its Ask are no Place
clock_no_place : (rules : Rules) (e : Event) → IsIn (clock_events rules) e → IsNoPlace e
clock_no_place rules e (inl is) = subst IsNoPlace is tt
clock_no_place rules e (inr (inl is)) = subst IsNoPlace is tt
clock_no_place rules e (inr (inr none)) = absurd none

-- nor a step
clock_no_step : (rules : Rules) (n s : ℕ) (c : StepCall) (r : StepReply) → IsIn (clock_events rules) (event.Step n s c r) → ⊥
clock_no_step rules n s c r (inl is) = cc
clock_no_step rules n s c r (inr (inl is)) = cc
clock_no_step rules n s c r (inr (inr none)) = none

module _ (start : Option MetaState) (turns : List Turn) (events : List Event) (a : Act) (rules : Rules) (sets : sets_rules a answer.Done ≡ true) (leaves : rules_by a answer.Done (rules_after (start_rules start) (inner_turns turns)) ≡ rules)
    (asks : (past : List Event) → MayAsk start past (position_after turns a answer.Done) a (asked.Clock rules)) (hears : (Here : ℕ → Event → Type 0) → HearsBy start events Here (position_after turns a answer.Done) a answer.Done) (opened : 2 ≤ length events) where
  abbrev more : List Event
  more = clock_events rules

  made : (past : List Event) (e : Event) → IsIn more e → MayMake start past (position_after turns a answer.Done) e
  made past e (inl is) = subst (MayMake start past (position_after turns a answer.Done)) is (asks past)
  made past e (inr (inl is)) = subst (MayMake start past (position_after turns a answer.Done)) is tt
  made past e (inr (inr none)) = absurd none

  calm_clock : (e : Event) → IsIn more e → IsCalm e
  calm_clock e (inl is) = subst IsCalm is tt
  calm_clock e (inr (inl is)) = subst IsCalm is tt
  calm_clock e (inr (inr none)) = absurd none

  ask_alone : AreSteps (event.Ask (asked.Clock rules) ∷ [])
  ask_alone e (inl is) = subst IsAskOrStep is tt
  ask_alone e (inr none) = absurd none

  clock_line : ClockLine start turns events a answer.Done more
  clock_line = record {
    makes = record {
      makes = λ i e le two at. made (take i (events ++ more)) e (among_back events more i e at le);
      restarts = λ i n s r le two at. absurd (clock_no_step rules n s call.Restart r (among_back events more i (event.Step n s call.Restart r) at le));
      hears = hears (InStretch (events ++ more) (length events) (length (events ++ more)));
    };
    sets = sets;
    opened = opened;
    asks = event.Ask (asked.Clock rules) ∷ [];
    steps = ask_alone;
    adds = ap (λ (r : Rules). event.Ask (asked.Clock rules) ∷ event.Clock r ∷ []) (sym leaves);
  }

  pub clock_served : (later : List Event) → later ≡ events ++ more → IsDueNext start turns a answer.Done None → IsOfKind [] start (position_after turns a answer.Done) a answer.Done → LeavesServed ClockLine start turns [] events a answer.Done later
  clock_served later grew free kind = record {
    more = more;
    grew = grew;
    line = clock_line;
    serves = serves_so start turns events a answer.Done more calm_clock (omega arith) [] tt (λ x m. absurd m) (answered start turns events a answer.Done more calm_clock (inr kind) free);
    delivered = delivered_so turns a answer.Done [] (λ x m. absurd m);
  }

-- the fields after it
ruled_left : {D : Type 0} {G : Ghosts D} (state : D → DiskState) (start : Option MetaState) (turns : List Turn) (old new : Members D G) (a : Act) (rules : Rules) → NetIsLeftBy start turns old.net → SetsRules state rules old new → rules_by a answer.Done old.net.state.rules ≡ rules
    → ((x : ℕ) → seed_by a answer.Done x ≡ x) → fates_set (request.One a) (reply.One answer.Done) ≡ None → NetIsLeftBy start (turns ++ line_of a answer.Done ∷ []) new.net
ruled_left {D} {G} state start turns old new a rules left set by seed fates =
    let is = set.state_is in
    let longer = turns ++ line_of a answer.Done ∷ [] in
    let same_place : new.net.state.place ≡ old.net.state.place = ap (λ (s : MetaState). s.place) is in
    let same_fates : (numbering_after 0 longer).fates ≡ (numbering_after 0 turns).fates = ap (λ (n : Numbering). n.fates) (numbering_next start turns a answer.Done) ∙ fates_stay in
    record {
      rules = rules_next start turns a answer.Done ∙ ap (rules_by a answer.Done) left.rules ∙ by ∙ sym (ap (λ (s : MetaState). s.rules) is);
      place = place_next start turns a answer.Done refl ∙ left.place ∙ ap Some (sym same_place);
      seed = seed_next start turns a answer.Done ∙ seed (seed_after start (inner_turns turns)) ∙ left.seed ∙ sym (ap (λ (s : MetaState). s.seed) is);
      fates = subst (λ (p : Placement). FareAsSet longer p new.net.fates) (sym same_place)
          (subst (FareAsSet longer old.net.state.place) (sym set.fates) (λ client call node own stands. left.fates client call node own stands ∙ ap (λ list. fate_in list client call own.name) (sym same_fates)));
      late = subst (HoldsBack start longer) (sym set.bag) (holds_on start turns a answer.Done refl old.net.bag left.late);
    }
  where
    fates_stay : (numbering_by (fates_set (request.One a) (reply.One answer.Done)) (calls_in (client_acts 0 (request.One a))) (numbering_after 0 turns)).fates ≡ (numbering_after 0 turns).fates
    fates_stay = ap (λ o. (numbering_by o (calls_in (client_acts 0 (request.One a))) (numbering_after 0 turns)).fates) fates

module _ {D : Type 0} {G : Ghosts D} (state : D → DiskState) (start : Option MetaState) (turns : List Turn) (old new : Members D G) (stands : ClusterStands start turns old) where
  abbrev here : Option Placement
  here = Some old.net.state.place

  have_left : HaveLeft start turns here old.net.state.rules
  have_left = record { rules_are = (stands.left).rules; place_is = (stands.left).place }

  pub ruled : (a : Act) (rules : Rules) → SetsRules state rules old new → sets_rules a answer.Done ≡ true → rules_by a answer.Done old.net.state.rules ≡ rules
      → ((past : List Event) (r : Rules) → rules_by a answer.Done (rules_after (start_rules start) (inner_turns turns)) ≡ r → MayAsk start past (position_after turns a answer.Done) a (asked.Clock r))
      → ((Here : ℕ → Event → Type 0) → HearsBy start old.net.replicas.events Here (position_after turns a answer.Done) a answer.Done) → IsDueNext start turns a answer.Done None → IsOfKind [] start (position_after turns a answer.Done) a answer.Done
      → ((x : ℕ) → seed_by a answer.Done x ≡ x) → fates_set (request.One a) (reply.One answer.Done) ≡ None → KeepsStops a answer.Done → GoesOn ClockLine start turns old a answer.Done new
  ruled a rules set sets by asks hears free kind seed fates keeps =
      let leaves : rules_by a answer.Done (rules_after (start_rules start) (inner_turns turns)) ≡ rules = ap (rules_by a answer.Done) (stands.left).rules ∙ by in
      record {
        line = clock_served start turns old.net.replicas.events a rules sets leaves (λ past. asks past rules leaves) hears (long_list old.net.replicas.events old.net.state.place old.net.state.rules stands.ready.place stands.ready.clock) new.net.replicas.events (set.ran).grew free kind;
        stands = stands_still state old start turns new a answer.Done stands (record {
          left = ruled_left state start turns old new a rules stands.left set by seed fates;
          ready = ready_ruled state old.net.state new.net.state old.net.replicas new.net.replicas new.net.bag rules (subst (IsReady old.net.state old.net.replicas) (sym set.bag) stands.ready) set.ran set.state_is;
          place = ap (λ (s : MetaState). s.place) set.state_is;
          prints = λ p e. cc;
          more = clock_events rules;
          ran = set.ran;
          no_place = clock_no_place rules;
          of_slots = λ n s c r i. absurd (clock_no_step rules n s c r i);
          slots = set.slots;
          past = set.past;
          stopped = set.stopped;
          halts = keeps;
          known = known_kept turns a answer.Done old.net.state.place new.net.state.place old.net.fates new.net.fates (ap (λ (s : MetaState). s.place) set.state_is) set.fates fates keeps stands.known;
        });
      }

pub named_tells : {D : Type 0} {G : Ghosts D} (state : D → DiskState) (old : Members D G) → NamedTells state old
named_tells state old start turns name block past future retention new stands named =
    let due = namespaces_are_due start turns old.net.state.place old.net.state.rules (have_left state start turns old new stands) name block past future retention answer.Done in
    ruled state start turns old new stands (act.Namespace name block past future retention) _ named.1 refl refl (λ past r is. sym is) (λ Here. tt) (due.free (named.0).new (named.0).few) tt (λ x. refl) refl (λ own x. refl)

pub moved_tells : {D : Type 0} {G : Ghosts D} (state : D → DiskState) (old : Members D G) → MovedTells state old
moved_tells state old start turns now new stands moved =
    let due = moments_are_due start turns old.net.state.place old.net.state.rules (have_left state start turns old new stands) now answer.Done in
    ruled state start turns old new stands (act.Now now) _ moved.1 refl refl (λ past r is. sym is) (λ Here. tt) (due.free moved.0) tt (λ x. refl) refl (λ own x. refl)

-- ---- the fates

fates_line : (start : Option MetaState) (turns : List Turn) (events : List Event) (list : List (ℕ × ℕ × List ℕ × Fate)) → PlainLine start turns events (act.Fates list) answer.Done []
fates_line start turns events list =
    nothing_line start turns events (act.Fates list) answer.Done (record { no_acks = λ nodes e. cc; not_unmet = λ u. u; no_found = refl; no_rules = refl; no_seed = refl }) tt refl (λ available place version e. cc)

pub fates_tell : {D : Type 0} {G : Ghosts D} (old : Members D G) → FatesTell old
fates_tell {D} {G} old start turns list new stands set =
    let a : Act = act.Fates list in
    let left = stands.left in
    let longer = turns ++ line_of a answer.Done ∷ [] in
    let events = old.net.replicas.events in
    let is = set.state in
    let same_place : new.net.state.place ≡ old.net.state.place = ap (λ (s : MetaState). s.place) is in
    let have : HaveLeft start turns (Some old.net.state.place) old.net.state.rules = record { rules_are = left.rules; place_is = left.place } in
    let due = (fates_are_due start turns old.net.state.place old.net.state.rules have list answer.Done).free set.items set.numbered in
    let fare : FareAsSet longer old.net.state.place new.net.fates = (λ client call node own there.
    let key : FateKey = record { client = client; call = call; node = node } in
    ap (λ (f : FateMap). fate_of f key) set.fates ∙ ap (λ o. unwrap_or o Deliver) (get-fates set.items key)
    ∙ numbered_fate old.net.state.place.instances list set.items ((stands.ready.lawful).limits).distinct set.numbered client call node own there
    ∙ ap (λ (n : Numbering). fate_in n.fates client call own.name) (sym (numbering_next start turns a answer.Done))) in
    record {
      line = record {
        more = [];
        grew = ap (λ t. t.events) set.replicas ∙ sym (append-nil events);
        line = fates_line start turns events list;
        serves = serves_so start turns events a answer.Done [] (λ e m. absurd m) (omega arith) [] tt (λ x m. absurd m) (answered start turns events a answer.Done [] (λ e m. absurd m) (inr tt) due);
        delivered = delivered_so turns a answer.Done [] (λ x m. absurd m);
      };
      stands = stands_grown start turns old stands a answer.Done new same_place [] (ap (λ (t : Tracked D). t.events) set.replicas ∙ sym (append-nil events)) (λ e m. absurd m) (λ n s c r m. absurd m) set.slots set.past (λ p e. cc)
          (subst (λ slots. AreSlots slots new.net.replicas) (sym set.slots) (subst (AreSlots old.slots.items) (sym set.replicas) stands.slots.are)) (record {
            rules = rules_next start turns a answer.Done ∙ left.rules ∙ sym (ap (λ (s : MetaState). s.rules) is);
            place = place_next start turns a answer.Done refl ∙ left.place ∙ ap Some (sym same_place);
            seed = seed_next start turns a answer.Done ∙ left.seed ∙ sym (ap (λ (s : MetaState). s.seed) is);
            fates = subst (λ (p : Placement). FareAsSet longer p new.net.fates) (sym same_place) fare;
            late = subst (HoldsBack start longer) (sym set.bag) (holds_on start turns a answer.Done refl old.net.bag left.late);
          }) (subst (λ (s : MetaState). IsReady s new.net.replicas new.net.bag) (sym is) (subst (λ (t : Tracked D). IsReady old.net.state t new.net.bag) (sym set.replicas) (subst (IsReady old.net.state old.net.replicas) (sym set.bag) stands.ready)))
          (flags_stay turns a answer.Done old new (λ name x. refl) same_place set.stopped stands.stopped)
          (subst (λ (p : Placement). KnowsNodes longer p new.net.fates) (sym same_place) (known_set turns list set.items old.net.state.place old.net.fates new.net.fates set.fates set.numbered stands.known));
    }
