-- Lines that ask each replica of the placement for the same, or have it report.
use Rattle.std.proofs.Common.{◌≡◌, ◌≤◌, ℕ, List, [], ◌∷◌, ◌++◌, length, take, refl, sym, ap, ◌∙◌, subst, inl, inr}
use Rattle.std.specs.Prelude.{◌⊎◌, Option, Some, None}
use Rattle.std.proofs.lemmas.List.{append-nil}
use Rattle.m3_model.specs.Members.{IsIn}
use Rattle.m3_model.specs.declared.act.Act.{Act}
use Rattle.m3_model.specs.declared.act.Act.TheVariants as act
use Rattle.m3_model.specs.declared.answer.Answer.{Answer}
use Rattle.m3_model.specs.declared.answer.Answer.TheVariants as answer
use Rattle.m3_model.specs.declared.limits.TheConstants.{MOST_REQUEST_EVENTS}
use Rattle.m3_model.specs.declared.placement.Placement.{Placement}
use Rattle.m3_model.specs.declared.rules.MetaState.{MetaState}
use Rattle.m3_model.specs.declared.turn.Turn.{Turn}
use Rattle.m3_outside.specs.DiskState.{DiskState}
use Rattle.m3_outside.specs.declared.disk.Disk.{Ghosts}
use Rattle.placement_core.specs.Shards.{nodes_of, shard_at}
use Rattle.cluster_core.specs.Lists.{At}
use Rattle.cluster_core.specs.declared.event.Asked.TheVariants as asked
use Rattle.cluster_core.specs.declared.event.Event.{Event}
use Rattle.cluster_core.specs.declared.event.Event.TheVariants as event
use Rattle.cluster_core.specs.declared.event.StepCall.{StepCall}
use Rattle.cluster_core.specs.declared.event.StepCall.TheVariants as call
use Rattle.cluster_core.specs.declared.event.StepReply.{StepReply}
use Rattle.cluster_core.proofs.ListLemmas.{at_in}
use Rattle.node_calls.specs.session_net.Ready.{IsReady}
use Rattle.node_calls.specs.session_net.Runs.{Ran, slot_at}
use Rattle.node_calls.proofs.session_net_proofs.ReadyLemmas.{AreQuiet}
use Rattle.told_runs.specs.told_by.Hears.{HearsBy, InStretch}
use Rattle.told_runs.specs.told_by.Lines.{IsPlain, PlainLine, position_after}
use Rattle.told_runs.specs.told_by.Makes.{MayAsk, MayMake}
use Rattle.told_runs.proofs.told_by_proofs.OneLemmas.{among_back}
use Rattle.told_runs.specs.Answers.{HearsOf, IsOfKind}
use Rattle.transcripts.specs.Placements.{MayStand}
use Rattle.transcripts.specs.Record.{TurnPosition, inner_turns, line_of}
use Rattle.transcripts.specs.Rules.{rules_at}
use Rattle.line_tracks.specs.calls.Laws.{IsCalm, IsCalmCall, LeavesLine}
use Rattle.told_joins.proofs.FrontLemmas.{some_events}
use Rattle.line_tracks.proofs.calls.KeepLemmas.{left_as_before}
use Rattle.line_tracks.proofs.calls.ServeLemmas.{answered, delivered_so, serves_so}
use Rattle.node_calls.specs.cluster_members.declared.members.Members.{Members}
use Rattle.cluster_upkeep.specs.Nodes.{KeepsButBoots}
use Rattle.cluster_upkeep.proofs.RunLemmas.{ready_still}
use Rattle.line_tracks.specs.acts.Due.{IsDueNext}
use Rattle.line_tracks.specs.acts.Nodes.{LeavesStanding}
use Rattle.line_tracks.specs.acts.Quiet.{DeliversNone, SetsNone}
use Rattle.line_tracks.specs.acts.Stands.{ClusterStands}
use Rattle.line_tracks.specs.acts.Stays.{HaveNoPlace}
use Rattle.line_tracks.proofs.acts.DueLemmas.{refused_by}
use Rattle.line_tracks.proofs.acts.HaltLemmas.{IsHaltOf, halt_calm, halt_changes, halt_no_place, halt_step}
use Rattle.line_tracks.proofs.acts.KnownLemmas.{known_kept}
use Rattle.line_tracks.proofs.acts.QuietLemmas.{delivers_nothing_so, keeps_stops_so, sets_nothing_so}
use Rattle.line_tracks.proofs.acts.StandLemmas.{flags_stay, stands_on}
use Rattle.line_tracks.specs.acts.Upkeep.{IsUpkeepAct, UpkeepIsDue}

-- ---- refusals

pub upkeep_is_due : UpkeepIsDue
upkeep_is_due start turns place rules left a b is = by a is
  where
    by : (x : Act) → IsUpkeepAct x → IsDueNext start turns x b None
    by act.Tick h = refused_by start turns (Some place) rules left act.Tick b None (λ versions. refl)
    by act.Flush h = refused_by start turns (Some place) rules left act.Flush b None (λ versions. refl)
    by act.Snapshot h = refused_by start turns (Some place) rules left act.Snapshot b None (λ versions. refl)
    by act.Status h = refused_by start turns (Some place) rules left act.Status b None (λ versions. refl)
    by _ h = absurd h

-- ---- what the turn may make

-- the turn may ask each slot for calls of this kind, and have it step so; these restart, begin and end nothing
pub record MayBeAsked (Kind : StepCall → Type 0) (start : Option MetaState) (turns : List Turn) (a : Act) (b : Answer) : Type 0 where
  pub asks : (past : List Event) (n s : ℕ) (c : StepCall) → Kind c → MayAsk start past (position_after turns a b) a (asked.Step n s c)
  pub steps : (past : List Event) (n s : ℕ) (c : StepCall) (r : StepReply) → Kind c → MayMake start past (position_after turns a b) (event.Step n s c r)
  pub calm : (c : StepCall) → Kind c → IsCalmCall c
  pub no_restart : Kind call.Restart → ⊥

module _ {D : Type 0} {G : Ghosts D} (start : Option MetaState) (turns : List Turn) (old : Members D G) (stands : ClusterStands start turns old) where
  -- the rules are those of the turn
  pub rules_here : (a : Act) (b : Answer) → old.net.state.rules ≡ rules_at start (position_after turns a b)
  rules_here a b = sym stands.left.rules

  -- and the placement stands
  pub stands_here : (a : Act) (b : Answer) → MayStand start (position_after turns a b) old.net.state.place
  stands_here a b = (inner_turns turns, record { others = []; some_of = tt; are = sym (append-nil (inner_turns turns)) }, stands.left.place)

  -- a replica of it has a slot
  pub slot_there : (n s : ℕ) → IsIn (nodes_of (shard_at old.net.state.place s)) n → IsIn old.slots.items (slot_at n s)
  slot_there n s m = stands.slots.are.all (slot_at n s) (stands.ready.there n s m)

-- ---- the line

module _ {D : Type 0} {G : Ghosts D} (state : D → DiskState) (start : Option MetaState) (turns : List Turn) (old new : Members D G) (stands : ClusterStands start turns old) (a : Act) (b : Answer) (plain : IsPlain a b) (sets : SetsNone b) (delivers : DeliversNone b)
    (no_boot : (available : List (ℕ × List ℕ)) (place : Placement) (version : ℕ) → b ≡ answer.Available available place version → ⊥) (Kind : StepCall → Type 0) (may : MayBeAsked Kind start turns a b) (more : List Event)
    (ran : Ran state old.net.replicas more new.net.replicas) (each : (e : Event) → IsIn more e → IsHaltOf Kind old.slots.items e) (keeps : KeepsButBoots old new) where
  abbrev pub events : List Event
  events = old.net.replicas.events

  abbrev pub whole : List Event
  whole = events ++ more

  abbrev pub p : TurnPosition
  p = position_after turns a b

  no_place : HaveNoPlace more
  no_place e m = halt_no_place Kind old.slots.items e (each e m)

  makes : (i : ℕ) (e : Event) → length events ≤ i → At whole i e → MayMake start (take i whole) p e
  makes i e le at =
      let h = each e (among_back events more i e at le) in
      let s = h.slot in
      elim h.is as (λ _. MayMake start (take i whole) p e) [
        | inl is ↦ subst (MayMake start (take i whole) p) (sym is) (may.asks (take i whole) s.node s.shard h.c h.kind)
        | inr is ↦ subst (MayMake start (take i whole) p) (sym is.1) (may.steps (take i whole) s.node s.shard h.c is.0 h.kind)
      ]

  -- no such event restarts a replica
  restarts_none : (n s : ℕ) (r : StepReply) → IsHaltOf Kind old.slots.items (event.Step n s call.Restart r) → ⊥
  restarts_none n s r h = by h.slot.node h.slot.shard h.c h.kind h.is
    where
      by : (i j : ℕ) (c : StepCall) → Kind c → (event.Step n s call.Restart r ≡ event.Ask (asked.Step i j c)) ⊎ ((q : StepReply) × (event.Step n s call.Restart r ≡ event.Step i j c q)) → ⊥
      by i j c kind (inl is) = cc
      by i j c kind (inr (q, is)) = let same : c ≡ call.Restart = cc in may.no_restart (subst Kind same kind)

  pub line : HearsBy start events (InStretch whole (length events) (length whole)) p a b → PlainLine start turns events a b more
  line hears = record {
    makes = record {
      makes = λ i e le two at. makes i e le at;
      restarts = λ i n s r le two at. absurd (restarts_none n s r (each (event.Step n s call.Restart r) (among_back events more i (event.Step n s call.Restart r) at le)));
      hears = hears;
    };
    plain = plain;
    opened = inl (some_events events old.net.state.place stands.ready.place);
    adds = λ i e at. halt_changes Kind old.slots.items p (events ++ take i more) e (each e (at_in more i e at));
    prints = record {
      is_place = λ place e. absurd (let bad : None ≡ Some place = sym (sets_nothing_so a b sets).place ∙ e in cc);
      not_earlier = λ q at was is e f. absurd (let bad : None ≡ Some is = sym (sets_nothing_so a b sets).place ∙ f in cc);
    };
    ends = λ available boot x m. absurd (no_boot available boot.place boot.version boot.answered);
  }

  calm : (e : Event) → IsIn more e → IsCalm e
  calm e m = halt_calm Kind may.calm old.slots.items e (each e m)

  leaves : PlainLine start turns events a b more → length more ≤ MOST_REQUEST_EVENTS → HearsOf start (InStretch whole (length events) (length whole)) p [] b → IsOfKind [] start p a b → LeavesLine PlainLine start turns [] old.net a b new.net
  leaves line few heard kind = record {
    more = more;
    grew = ran.grew;
    line = line;
    serves = λ none. serves_so start turns events a b more calm few [] heard (λ x m. absurd m) (answered start turns events a b more calm (inr kind) none);
    delivered = delivered_so turns a b [] (λ m i. absurd i);
  }

  ready_so : AreQuiet more → IsReady new.net.state new.net.replicas new.net.bag
  ready_so quiet =
      subst (λ st. IsReady st new.net.replicas new.net.bag) (sym keeps.keeps.state)
      (subst (IsReady old.net.state new.net.replicas) (sym keeps.keeps.bag) (ready_still state old.net.replicas new.net.replicas more ran old.net.state old.net.bag stands.ready quiet))

  stands_so : AreQuiet more → ClusterStands start (turns ++ line_of a b ∷ []) new
  stands_so quiet =
      let place = ap (λ (s : MetaState). s.place) keeps.keeps.state in
      stands_on state start turns old stands a b new place more ran no_place (λ n s c r m. halt_step Kind old.slots.items n s c r (each (event.Step n s c r) m)) keeps.keeps.slots keeps.keeps.past (λ p is. let clash : None ≡ Some p = sym (sets_nothing_so a b sets).place ∙ is in cc)
      (left_as_before old.net start turns new.net a b stands.left (record { state = keeps.keeps.state; fates = keeps.keeps.fates }) (sets_nothing_so a b sets) (delivers_nothing_so a b delivers) keeps.keeps.bag) (ready_so quiet)
      (flags_stay turns a b old new (keeps_stops_so a b sets) place keeps.stopped stands.stopped)
      (known_kept turns a b old.net.state.place new.net.state.place old.net.fates new.net.fates place keeps.keeps.fates (sets_nothing_so a b sets).fates (keeps_stops_so a b sets) stands.known)

  pub leaves_standing : HearsBy start events (InStretch whole (length events) (length whole)) p a b → length more ≤ MOST_REQUEST_EVENTS → HearsOf start (InStretch whole (length events) (length whole)) p [] b → IsOfKind [] start p a b → AreQuiet more
      → LeavesStanding start turns old a b new
  leaves_standing hears few heard kind quiet = record { line = leaves (line hears) few heard kind; stands = stands_so quiet }
