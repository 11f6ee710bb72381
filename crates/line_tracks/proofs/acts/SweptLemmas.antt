-- Sweeps: each replica was asked and heard.
use Rattle.std.proofs.Common.{◌≡◌, ◌≤◌, ℕ, List, [], ◌++◌, length, refl, sym, ap, ◌∙◌, subst, inl, inr, arith}
use Rattle.std.specs.Prelude.{Option, Some, Result, Err, IsErrOf}
use Rattle.std.specs.List.{flat_map}
use Rattle.std.proofs.lemmas.Option.{same_Some, none-some}
use Rattle.m3_model.specs.Members.{IsIn}
use Rattle.m3_model.specs.declared.act.Act.{Act}
use Rattle.m3_model.specs.declared.act.Act.TheVariants as act
use Rattle.m3_model.specs.declared.answer.Answer.{Answer}
use Rattle.m3_model.specs.declared.answer.Answer.TheVariants as answer
use Rattle.m3_model.specs.declared.limits.TheConstants.{MOST_REQUEST_EVENTS}
use Rattle.m3_model.specs.declared.reason.Damage.{Damage}
use Rattle.m3_model.specs.declared.reason.Reason.{Reason}
use Rattle.m3_model.specs.declared.reason.Reason.TheVariants as reason
use Rattle.m3_model.specs.declared.rules.MetaState.{MetaState}
use Rattle.m3_model.specs.declared.turn.Turn.{Turn}
use Rattle.m3_model.proofs.Lists.{IsIn-flat_map, flat_map-IsIn}
use Rattle.m3_outside.specs.DiskState.{DiskState}
use Rattle.m3_outside.specs.declared.disk.Disk.{Ghosts}
use Rattle.cluster_core.specs.declared.event.Asked.TheVariants as asked
use Rattle.cluster_core.specs.declared.event.Event.{Event}
use Rattle.cluster_core.specs.declared.event.Event.TheVariants as event
use Rattle.cluster_core.specs.declared.event.StepCall.{StepCall}
use Rattle.cluster_core.specs.declared.event.StepCall.TheVariants as call
use Rattle.cluster_core.specs.declared.event.StepReply.TheVariants as reply
use Rattle.node_calls.specs.replica_machine.Steps.{reply_by}
use Rattle.node_calls.specs.session_net.Runs.{slot_at}
use Rattle.told_runs.specs.told_by.Hears.{Happens, HasStep, HearsReason, HearsSwept, InStretch, IsSweepCall}
use Rattle.told_runs.specs.told_by.Lines.{IsPlain, position_after}
use Rattle.told_runs.specs.told_by.Makes.{MayAsk, MayMake}
use Rattle.told_runs.specs.Answers.{IsOfKind}
use Rattle.transcripts.specs.Reasons.{IsShown}
use Rattle.transcripts.specs.Sweeps.{Entry, IsSweptOver}
use Rattle.transcripts.proofs.SweepLemmas.{done_entry, entry_slot, failed_entry}
use Rattle.line_tracks.specs.calls.Laws.{IsCalmCall}
use Rattle.node_calls.specs.cluster_members.declared.members.Members.{Members}
use Rattle.cluster_upkeep.proofs.ListLemmas.{flat_long}
use Rattle.cluster_upkeep.specs.Sweeps.{asked_at}
use Rattle.cluster_upkeep.specs.Upkeep.{HasSwept}
use Rattle.cluster_upkeep.proofs.SweepLemmas.{asked_quiet}
use Rattle.line_tracks.specs.acts.Nodes.{LeavesStanding}
use Rattle.line_tracks.specs.acts.Stands.{ClusterStands}
use Rattle.line_tracks.proofs.calls.ActLemmas.{damage_shown}
use Rattle.told_joins.proofs.LineLemmas.{in_stretch}
use Rattle.line_tracks.proofs.acts.HaltLemmas.{IsHaltOf, exchange_halts, plain_so}
use Rattle.line_tracks.specs.acts.Upkeep.{SweptTells, sweep_call}
use Rattle.line_tracks.proofs.acts.UpkeepLemmas.{MayBeAsked, leaves_standing, rules_here, slot_there, stands_here}

-- a reason is heard by the step that was refused so
reason_heard : (Here : ℕ → Event → Type 0) (Kind : StepCall → Type 0) (n s : ℕ) (why : Reason) → ((damage : Damage) → why ≡ reason.Corrupt damage → IsShown damage) → HasStep Here Kind n s (reply.Refused why) → HearsReason Here Kind n s why
reason_heard Here Kind n s reason.Memory shown step = tt
reason_heard Here Kind n s (reason.Corrupt damage) shown step = (shown damage refl, step)
reason_heard Here Kind n s why shown step = step

module _ {D : Type 0} {G : Ghosts D} (state : D → DiskState) (start : Option MetaState) (turns : List Turn) (old new : Members D G) (stands : ClusterStands start turns old) (c : StepCall) (done : List (ℕ × ℕ × ℕ)) (failed : List (ℕ × ℕ × Reason)) (h : HasSwept state c old done failed new)
    (a : Act) (kind : IsSweepCall a c) where
  abbrev b : Answer
  b = answer.Swept done failed

  abbrev more : List Event
  more = flat_map (asked_at c) h.entries

  abbrev events : List Event
  events = old.net.replicas.events

  abbrev Here : ℕ → Event → Type 0
  Here = InStretch (events ++ more) (length events) (length (events ++ more))

  abbrev IsIt : StepCall → Type 0
  IsIt x = x ≡ c

  -- each event asks one of the slots, or is its step
  each : (e : Event) → IsIn more e → IsHaltOf IsIt old.slots.items e
  each e m =
      let found = IsIn-flat_map (asked_at c) h.entries e m in
      let x = found.0 in
      let among = (h.members.each x.node x.shard).0 (entry_slot h.entries x x.node x.shard found.1 refl refl) in
      exchange_halts IsIt old.slots.items (slot_at x.node x.shard) (slot_there start turns old stands x.node x.shard among) c refl (reply_by (λ n. reply.Count n) x.said) e found.2

  step_here : (x : Entry) → IsIn h.entries x → Happens Here (event.Step x.node x.shard c (reply_by (λ n. reply.Count n) x.said))
  step_here x among =
      let step : Event = event.Step x.node x.shard c (reply_by (λ n. reply.Count n) x.said) in
      in_stretch events more step (flat_map-IsIn (asked_at c) h.entries x step among (inr (inl refl)))

  heard : HearsSwept Here (IsSweepCall a) done failed
  heard = record {
    counted = λ x m.
        let found = done_entry h.entries x (subst (λ xs. IsIn xs x) h.done_are m) in
        (c, kind, subst (Happens Here) (λ i. event.Step (found.node_is i) (found.shard_is i) c (reply_by (λ n. reply.Count n) (found.said_is i))) (step_here found.entry found.among));
    refused = λ x m.
        let found = failed_entry h.entries x (subst (λ xs. IsIn xs x) h.failed_are m) in
        reason_heard Here (IsSweepCall a) x.0 x.1 x.2 (λ damage is. damage_shown damage (h.files found.entry found.among damage (of_damage found.entry.said x.2 damage found.said_is is)))
        (c, kind, subst (Happens Here) (λ i. event.Step (found.node_is i) (found.shard_is i) c (reply_by (λ n. reply.Count n) (found.said_is i))) (step_here found.entry found.among));
  }
    where
      of_damage : (said : Result ℕ Reason) (why : Reason) (damage : Damage) → said ≡ Err why → why ≡ reason.Corrupt damage → IsErrOf said (reason.Corrupt damage)
      of_damage said why damage e f = e ∙ ap (λ (r : Reason). Err r) f

  over : IsSweptOver start (position_after turns a b) done failed
  over = record { place = old.net.state.place; stands = stands_here start turns old stands a b; entries = h.entries; members = h.members; done_are = h.done_are; failed_are = h.failed_are }

  few : length more ≤ MOST_REQUEST_EVENTS
  few = let long = flat_long (asked_at c) (λ e. refl) h.entries in let low = h.few in omega (arith, long, low)

  -- where the turn may ask so, it is told and served
  swept_so : IsPlain a b → MayBeAsked IsIt start turns a b → (IsSweptOver start (position_after turns a b) done failed → IsOfKind [] start (position_after turns a b) a b) → LeavesStanding start turns old a b new
  swept_so plain may of_kind = leaves_standing state start turns old new stands a b plain tt tt (λ available place version e. cc) IsIt may more h.ran each h.keeps heard few tt (of_kind over) (asked_quiet c h.entries)

-- ---- each act

module _ {D : Type 0} {G : Ghosts D} (state : D → DiskState) (start : Option MetaState) (turns : List Turn) (old new : Members D G) (stands : ClusterStands start turns old) (done : List (ℕ × ℕ × ℕ)) (failed : List (ℕ × ℕ × Reason)) where
  abbrev swept : Answer
  swept = answer.Swept done failed

  tick_tells : HasSwept state (call.Tick old.net.state.rules) old done failed new → LeavesStanding start turns old act.Tick swept new
  tick_tells h = swept_so state start turns old new stands (call.Tick old.net.state.rules) done failed h act.Tick tt (plain_so act.Tick swept (λ nodes e. cc) (λ u. u) refl refl refl) (record {
    asks = λ past n s c is. subst (λ x. MayAsk start past (position_after turns act.Tick swept) act.Tick (asked.Step n s x)) (sym is) (rules_here start turns old stands act.Tick swept);
    steps = λ past n s c r is. subst (λ x. MayMake start past (position_after turns act.Tick swept) (event.Step n s x r)) (sym is) tt;
    calm = λ c is. subst IsCalmCall (sym is) tt;
    no_restart = λ is. cc;
  }) (λ over. over)

  flush_tells : HasSwept state (call.Flush old.net.state.rules) old done failed new → LeavesStanding start turns old act.Flush swept new
  flush_tells h = swept_so state start turns old new stands (call.Flush old.net.state.rules) done failed h act.Flush tt (plain_so act.Flush swept (λ nodes e. cc) (λ u. u) refl refl refl) (record {
    asks = λ past n s c is. subst (λ x. MayAsk start past (position_after turns act.Flush swept) act.Flush (asked.Step n s x)) (sym is) (rules_here start turns old stands act.Flush swept);
    steps = λ past n s c r is. subst (λ x. MayMake start past (position_after turns act.Flush swept) (event.Step n s x r)) (sym is) tt;
    calm = λ c is. subst IsCalmCall (sym is) tt;
    no_restart = λ is. cc;
  }) (λ over. over)

  snapshot_tells : HasSwept state call.Snapshot old done failed new → LeavesStanding start turns old act.Snapshot swept new
  snapshot_tells h = swept_so state start turns old new stands call.Snapshot done failed h act.Snapshot tt (plain_so act.Snapshot swept (λ nodes e. cc) (λ u. u) refl refl refl) (record {
    asks = λ past n s c is. subst (λ x. MayAsk start past (position_after turns act.Snapshot swept) act.Snapshot (asked.Step n s x)) (sym is) tt;
    steps = λ past n s c r is. subst (λ x. MayMake start past (position_after turns act.Snapshot swept) (event.Step n s x r)) (sym is) tt;
    calm = λ c is. subst IsCalmCall (sym is) tt;
    no_restart = λ is. cc;
  }) (λ over. over)

pub swept_tells : {D : Type 0} {G : Ghosts D} (state : D → DiskState) (old : Members D G) → SweptTells state old
swept_tells {D} {G} state old start turns new a c done failed asks stands h = by a asks
  where
    of_call : (x : StepCall) → Some x ≡ Some c → HasSwept state x old done failed new
    of_call x is = subst (λ y. HasSwept state y old done failed new) (sym (same_Some x c is)) h

    by : (x : Act) → sweep_call x old.net.state.rules ≡ Some c → LeavesStanding start turns old x (answer.Swept done failed) new
    by act.Tick is = tick_tells state start turns old new stands done failed (of_call (call.Tick old.net.state.rules) is)
    by act.Flush is = flush_tells state start turns old new stands done failed (of_call (call.Flush old.net.state.rules) is)
    by act.Snapshot is = snapshot_tells state start turns old new stands done failed (of_call call.Snapshot is)
    by _ is = absurd (none-some c is)
