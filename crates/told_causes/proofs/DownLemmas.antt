-- A replica that is down has its cause.
use Rattle.std.proofs.Common.{◌≡◌, ℕ, zero, suc, ◌<◌, ◌≤◌, ◌+◌, ◌-◌, List, [], ◌∷◌, ◌++◌, take, drop, length, refl, sym, ap, ◌∙◌, subst, inl, inr, arith, Bool, true, false, length-append}
use Rattle.std.specs.Prelude.{◌⊎◌, Some, Option, IsTrue}
use Rattle.std.specs.List.{list_any}
use Rattle.std.proofs.lemmas.Bool.{cases_eq}
use Rattle.m3_model.specs.Members.{IsIn}
use Rattle.m3_model.specs.declared.act.Act.{Act}
use Rattle.m3_model.specs.declared.act.Act.TheVariants as act
use Rattle.m3_model.specs.declared.reason.Reason.{Reason}
use Rattle.m3_model.specs.declared.reason.Reason.TheVariants as reason
use Rattle.m3_model.specs.declared.replica.Standing.TheVariants as standing
use Rattle.m3_model.specs.declared.rules.MetaState.{MetaState}
use Rattle.m3_model.specs.declared.turn.Turn.{Turn}
use Rattle.cluster_core.specs.Legal.{Legal}
use Rattle.cluster_core.specs.Lists.{At}
use Rattle.cluster_core.specs.Replicas.{replica, after}
use Rattle.cluster_core.specs.declared.event.Asked.TheVariants as asked
use Rattle.cluster_core.specs.declared.event.Event.{Event}
use Rattle.cluster_core.specs.declared.event.Event.TheVariants as event
use Rattle.cluster_core.specs.declared.event.StepCall.{StepCall}
use Rattle.cluster_core.specs.declared.event.StepCall.TheVariants as call
use Rattle.cluster_core.specs.declared.event.StepReply.{StepReply}
use Rattle.cluster_core.specs.declared.event.StepReply.TheVariants as reply
use Rattle.cluster_core.specs.declared.replica_state.ReplicaState.{ReplicaState}
use Rattle.cluster_core.proofs.ListLemmas.{along, at_some}
use Rattle.cluster_core.proofs.TraceLemmas.{lawful_step, replica_own, replica_suc, step_cases}
use Rattle.transcripts.specs.Fates.{is_stopped}
use Rattle.transcripts.specs.Faults.{Fault, closes, is_restart, Failing, Damaged}
use Rattle.transcripts.specs.Record.{InnerTurn, TurnPosition, IsTurnPosition, inner_turns, lists_of}
use Rattle.told_by.specs.Hears.{IsNamedBy}
use Rattle.told_by.specs.Makes.{MayAsk}
use Rattle.told_by.specs.Told.{ToldBy}
use Rattle.told_by.proofs.PrintedLemmas.{ends_within}
use Rattle.told_by.proofs.TurnLemmas.{alone_is, at_cut, inner-append}
use Rattle.told_causes.specs.Faults.{fault_of, faults_told}
use Rattle.told_causes.specs.Standing.{DownHasCause, DownIsSaid, IsClosedSince, IsHaltAct}
use Rattle.told_causes.proofs.FaultLemmas.{steps_faults}
use Rattle.told_causes.proofs.HaltLemmas.{late_step, opening_two, restarts, stop_halts, stops}
use Rattle.told_causes.proofs.NameLemmas.{any_append, drop_line, drop_past, stopped_on}
use Rattle.told_causes.proofs.RefusalLemmas.{first_down, refused_law}

-- ---- one step

-- the reason closes the replica
abbrev Closes : Reason → Type 0
Closes reason.Disk = Unit {0}
Closes (reason.Corrupt damage) = Unit {0}
Closes _ = ⊥

-- what makes a replica down: it was, it is stopped, or a fault or damage closes it
record Downs (r : ReplicaState) (c : StepCall) (a : StepReply) : Type 0 where
  how : (r.standing ≡ standing.Down) ⊎ ((c ≡ call.Stop) ⊎ ((why : Reason) × (a ≡ reply.Refused why) × Closes why))

refused_down : (r : ReplicaState) (c : StepCall) (why : Reason) → (after r c (reply.Refused why)).standing ≡ standing.Down → Downs r c (reply.Refused why)
refused_down r c reason.Disk e = record { how = inr (inr (reason.Disk, refl, tt)) }
refused_down r c (reason.Corrupt damage) e = record { how = inr (inr (reason.Corrupt damage, refl, tt)) }
refused_down r (call.Begin tenure) _ e = record { how = inl e }
refused_down r (call.Put client number rules version point) _ e = record { how = inl e }
refused_down r (call.Merge page) _ e = record { how = inl e }
refused_down r (call.Fence version) _ e = record { how = inl e }
refused_down r (call.Tick rules) _ e = record { how = inl e }
refused_down r _ _ e = record { how = inl e }

down_by : (r : ReplicaState) (c : StepCall) (a : StepReply) → (after r c a).standing ≡ standing.Down → Downs r c a
down_by r c (reply.Refused why) e = refused_down r c why e
down_by r call.Stop a e = record { how = inr (inl refl) }
down_by r call.Restart reply.Done e = cc
down_by r (call.Begin tenure) (reply.Began fence points) e = cc
down_by r _ _ e = record { how = inl e }

-- the fault that a closing refusal tells of
closing_fault : (k n s : ℕ) (c : StepCall) (why : Reason) → Closes why → (f : Fault) × (fault_of k (event.Step n s c (reply.Refused why)) ≡ Some f) × (f.line ≡ k) × (f.node ≡ n) × (f.shard ≡ s) × IsTrue (closes f.kind)
closing_fault k n s c reason.Disk h = (record { line = k; node = n; shard = s; kind = Failing }, refl, refl, refl, refl, refl)
closing_fault k n s c (reason.Corrupt damage) h = (record { line = k; node = n; shard = s; kind = Damaged }, refl, refl, refl, refl, refl)
closing_fault k n s c _ h = absurd h

take_front : {X : Type 0} (xs : List X) (y : X) (zs : List X) → take (length xs) (xs ++ y ∷ zs) ≡ xs
take_front [] y zs = refl
take_front (x ∷ xs) y zs = ap (λ ys. x ∷ ys) (take_front xs y zs)

module _ {tells : Bool} (start : Option MetaState) (turns : List Turn) (events : List Event) (legal : Legal tells events) (told : ToldBy start turns events) (n s : ℕ) (name : List ℕ) (named : IsNamedBy events n name) where
  abbrev IsDownAt : ℕ → Type 0
  IsDownAt j = (replica n s (take j events)).standing ≡ standing.Down

  abbrev faults : List Fault
  faults = faults_told told.ends events (length turns)

  -- the slot was called before this position
  abbrev Called : ℕ → Type 0
  Called m = (i : ℕ) × (c : StepCall) × (a : StepReply) × (i < m) × At events i (event.Step n s c a)

  called : (j : ℕ) → j ≤ length events → IsDownAt j → Called j
  called j high = along events (λ k. IsDownAt k → Called k) 0 (λ down. cc) (λ i e low there was down. by_step i e there was down) j (omega arith) high
    where
      longer : (i : ℕ) → Called i → Called (suc i)
      longer i h = (h.0, h.1, h.2, omega (arith, h.3), h.4)

      by_step : (i : ℕ) (e : Event) → At events i e → (IsDownAt i → Called i) → IsDownAt (suc i) → Called (suc i)
      by_step i e there was down =
          elim (step_cases n s (replica n s (take i events)) e) as (λ _. Called (suc i)) [
            | inl same ↦ longer i (was (ap (λ (r : ReplicaState). r.standing) (sym (replica_suc events legal n s i e there ∙ same)) ∙ down))
            | inr own ↦ (i, own.0, own.1, omega arith, there ∙ ap Some own.2)
          ]

  -- a fault of the slot in this line
  record IsListed (k : ℕ) : Type 0 where
    fault : Fault
    among : IsIn faults fault
    line : fault.line ≡ k
    of_node : fault.node ≡ n
    of_shard : fault.shard ≡ s
    closing : IsTrue (closes fault.kind)

  -- a fault of the slot in an earlier line, and no restart of the node in a line after it
  record IsClosed (k : ℕ) : Type 0 where
    fault : Fault
    among : IsIn faults fault
    low : fault.line < k
    of_node : fault.node ≡ n
    of_shard : fault.shard ≡ s
    closing : IsTrue (closes fault.kind)
    not_restarted : list_any (is_restart name) (inner_turns (drop (suc fault.line) (take k turns))) ≡ false

  -- the node is stopped after these lines, or a fault closed the slot
  abbrev HasCause : ℕ → Type 0
  HasCause k = (is_stopped (inner_turns (take k turns)) name ≡ true) ⊎ IsClosed k

  -- no Restart of the slot stands from one position up to another
  abbrev NoRestart : ℕ → ℕ → Type 0
  NoRestart low high = (i : ℕ) → low ≤ i → i < high → At events i (event.Step n s call.Restart reply.Done) → ⊥

  -- the slot was down before the line and wasn't restarted in it so far; or it was stopped in it; or a fault of this line is listed
  abbrev InLine : ℕ → ℕ → Type 0
  InLine k j = (HasCause k × NoRestart (told.ends k) j × Called (told.ends k)) ⊎ (((i : ℕ) × (a : StepReply) × At events i (event.Step n s call.Stop a) × (told.ends k ≤ i) × (i < j)) ⊎ IsListed k)

  no_restart_here : (j : ℕ) → IsDownAt (suc j) → At events j (event.Step n s call.Restart reply.Done) → ⊥
  no_restart_here j down there = let up = ap (λ (r : ReplicaState). r.standing) (replica_own events legal n s j call.Restart reply.Done there) in let bad : standing.Boot ≡ standing.Down = sym up ∙ down in cc

  longer : (low j : ℕ) → IsDownAt (suc j) → NoRestart low j → NoRestart low (suc j)
  longer low j down none i above below there =
      elim (cases_eq i j) as (λ _. ⊥) [
        | inl now ↦ no_restart_here j down (subst (λ m. At events m (event.Step n s call.Restart reply.Done)) now there)
        | inr other ↦ none i above (omega (arith, below, other)) there
      ]

  goes_on : (k j : ℕ) → IsDownAt (suc j) → InLine k j → InLine k (suc j)
  goes_on k j down (inl before) = inl (before.0, longer (told.ends k) j down before.1, before.2)
  goes_on k j down (inr (inl stop)) = inr (inl (stop.0, stop.1, stop.2, stop.3, omega (arith, stop.4)))
  goes_on k j down (inr (inr fault)) = inr (inr fault)

  listed : (j k : ℕ) (c : StepCall) (why : Reason) → k < length turns → At events j (event.Step n s c (reply.Refused why)) → told.ends k ≤ j → j < told.ends (suc k) → Closes why → IsListed k
  listed j k c why less there low high closing =
      let f = closing_fault k n s c why closing in
      record {
        fault = f.0;
        among = steps_faults told.ends events (length turns) f.0 (record {
          early = omega (arith, f.2, less);
          position = j;
          low = subst (λ m. told.ends m ≤ j) (sym f.2) low;
          high = subst (λ m. j < told.ends (suc m)) (sym f.2) high;
          e = event.Step n s c (reply.Refused why);
          there = there;
          tells = subst (λ m. fault_of m (event.Step n s c (reply.Refused why)) ≡ Some f.0) (sym f.2) f.1;
        });
        line = f.2;
        of_node = f.3;
        of_shard = f.4;
        closing = f.5;
      }

  one_event : (k j : ℕ) (e : Event) → k < length turns → told.ends k ≤ j → suc j ≤ told.ends (suc k) → At events j e → (IsDownAt j → InLine k j) → IsDownAt (suc j) → InLine k (suc j)
  one_event k j e less low high there was down =
      elim (step_cases n s (replica n s (take j events)) e) as (λ _. InLine k (suc j)) [
        | inl same ↦ goes_on k j down (was (ap (λ (r : ReplicaState). r.standing) (sym (replica_suc events legal n s j e there ∙ same)) ∙ down))
        | inr own ↦
            let at : At events j (event.Step n s own.0 own.1) = there ∙ ap Some own.2 in
            let d = down_by (replica n s (take j events)) own.0 own.1 (ap (λ (r : ReplicaState). r.standing) (sym (replica_suc events legal n s j e there ∙ own.3)) ∙ down) in
            elim d.how as (λ _. InLine k (suc j)) [
              | inl before ↦ goes_on k j down (was before)
              | inr new ↦ elim new as (λ _. InLine k (suc j)) [
                | inl stop ↦ inr (inl (j, own.1, subst (λ c. At events j (event.Step n s c own.1)) stop at, low, omega arith))
                | inr closed ↦ inr (inr (listed j k own.0 closed.0 less (subst (λ a. At events j (event.Step n s own.0 a)) closed.1 at) low (omega (arith, high)) closed.2))
              ]
            ]
      ]

  up_to : (k : ℕ) → k < length turns → told.ends (suc k) ≤ length events → (IsDownAt (told.ends k) → HasCause k) → (d : ℕ) → told.ends k + d ≤ told.ends (suc k) → IsDownAt (told.ends k + d) → InLine k (told.ends k + d)
  up_to k less bound was zero high down =
      let same : told.ends k + 0 ≡ told.ends k = omega arith in
      let now = subst IsDownAt same down in
      inl (was now, λ i above below t. omega (arith, above, below), called (told.ends k) (omega (arith, high, bound)) now)
  up_to k less bound was (suc d) high down =
      let next : told.ends k + suc d ≡ suc (told.ends k + d) = omega arith in
      let there = at_some events (told.ends k + d) (omega (arith, high, bound)) in
      subst (InLine k) (sym next) (one_event k (told.ends k + d) there.0 less (omega arith) (omega (arith, high)) there.1 (λ before. up_to k less bound was d (omega (arith, high)) before) (subst IsDownAt next down))

  cause_on : (k : ℕ) (line : Turn) → At turns k line → list_any (is_restart name) (inner_turns (line ∷ [])) ≡ false → HasCause k → HasCause (suc k)
  cause_on k line at none (inl stopped) = inl (stopped_on name turns k line at none stopped)
  cause_on k line at none (inr closed) =
      let low = closed.low in
      inr (record {
        fault = closed.fault;
        among = closed.among;
        low = omega (arith, low);
        of_node = closed.of_node;
        of_shard = closed.of_shard;
        closing = closed.closing;
        not_restarted =
            ap (λ ls. list_any (is_restart name) (inner_turns ls)) (drop_line turns (suc (closed.fault).line) k line low at)
            ∙ ap (list_any (is_restart name)) (inner-append (drop (suc (closed.fault).line) (take k turns)) (line ∷ []))
            ∙ any_append (is_restart name) (inner_turns (drop (suc (closed.fault).line) (take k turns))) (inner_turns (line ∷ [])) closed.not_restarted none;
      })

  by_restart : (k : ℕ) (line : Turn) → At turns k line → (b : Bool) → list_any (is_restart name) (inner_turns (line ∷ [])) ≡ b → HasCause k × NoRestart (told.ends k) (told.ends (suc k)) × Called (told.ends k) → HasCause (suc k)
  by_restart k line at true is h = let c = h.2 in let r = restarts start turns events legal told n s name named k line at is c.0 c.1 c.2 c.4 c.3 in absurd (h.1 r.0 r.1 r.2 r.3)
  by_restart k line at false is h = cause_on k line at is h.0

  -- a replica that is down between two lines has its cause
  down_has_cause : (k : ℕ) → k ≤ length turns → IsDownAt (told.ends k) → HasCause k
  down_has_cause zero high down =
      let c = called (told.ends 0) (ends_within start turns events told 0 high) down in
      absurd (omega (arith, late_step events legal c.0 n s c.1 c.2 c.4, c.3, (told.lines).first, opening_two start))
  down_has_cause (suc k) high down =
      let line = at_some turns k (omega (arith, high)) in
      let grows = (told.lines).ascends k (omega (arith, high)) in
      let whole : told.ends k + (told.ends (suc k) - told.ends k) ≡ told.ends (suc k) = omega (arith, grows) in
      let h = subst (InLine k) whole (up_to k (omega (arith, high)) (ends_within start turns events told (suc k) high) (λ d. down_has_cause k (omega (arith, high)) d) (told.ends (suc k) - told.ends k) (omega (arith, whole)) (subst IsDownAt (sym whole) down)) in
      elim h as (λ _. HasCause (suc k)) [
        | inl before ↦ by_restart k line.0 line.1 (list_any (is_restart name) (inner_turns (line.0 ∷ []))) refl before
        | inr new ↦ elim new as (λ _. HasCause (suc k)) [
          | inl stop ↦ inl (stops start turns events legal told n s name named stop.0 k stop.1 stop.2 (omega (arith, high)) stop.3 stop.4)
          | inr fault ↦ inr (record {
            fault = fault.fault;
            among = fault.among;
            low = omega (arith, fault.line);
            of_node = fault.of_node;
            of_shard = fault.of_shard;
            closing = fault.closing;
            not_restarted = ap (λ m. list_any (is_restart name) (inner_turns (drop (suc m) (take (suc k) turns)))) fault.line ∙ ap (λ ls. list_any (is_restart name) (inner_turns ls)) (drop_past turns (suc k));
          })
        ]
      ]

  -- no turn that stops nothing has a stop in its line
  none_stopped : (p : TurnPosition) → IsTurnPosition turns p → ¬ IsHaltAct p.turn.act → (i : ℕ) (a : StepReply) → At events i (event.Step n s call.Stop a) → told.ends (length p.lines) ≤ i → i < told.ends (suc (length p.lines)) → ⊥
  none_stopped p in_run quiet i a there low high =
      let less : length p.lines < length turns = omega (arith, ap length in_run.in_run, length-append p.lines (p.line ∷ in_run.after)) in
      let h = stop_halts start turns events legal told i (length p.lines) n s a there less low high in
      by_act h.q h.in_run h.line_is (h.q).turn.act refl h.asks
    where
      clash : (q : TurnPosition) → IsTurnPosition turns q → length q.lines ≡ length p.lines → lists_of q.line ≡ (q.turn ∷ []) ∷ [] → IsHaltAct q.turn.act → ⊥
      clash q q_in same alone halts =
          let there : At turns (length q.lines) q.line = subst (λ ts. At ts (length q.lines) q.line) (sym q_in.in_run) (at_cut q.lines q.line q_in.after) in
          let is = alone_is turns q p (q.line, there, alone) in_run (sym same) in
          quiet (subst (λ (t : InnerTurn). IsHaltAct t.act) is halts)

      by_act : (q : TurnPosition) → IsTurnPosition turns q → length q.lines ≡ length p.lines → (x : Act) → q.turn.act ≡ x → MayAsk start (take i events) q x (asked.Step n s call.Stop) → ⊥
      by_act q q_in same (act.Stop node) is h = clash q q_in same (h.0).alone (subst IsHaltAct (sym is) tt)
      by_act q q_in same (act.Restart node pick) is h = clash q q_in same (h.0).alone (subst IsHaltAct (sym is) tt)
      by_act q q_in same _ is h = h

  cause_at : (p : TurnPosition) → IsTurnPosition turns p → ¬ IsHaltAct p.turn.act → (i : ℕ) → (told.spans).from p ≤ i → i < (told.spans).to p → IsDownAt i → (is_stopped (inner_turns p.lines) name ≡ true) ⊎ IsClosedSince faults p n s name
  cause_at p in_run quiet i low high down =
      let k = length p.lines in
      let less : k < length turns = omega (arith, ap length in_run.in_run, length-append p.lines (p.line ∷ in_run.after)) in
      let begins = (told.lines).low p in_run in
      let finishes = (told.lines).high p in_run in
      let whole : told.ends k + (i - told.ends k) ≡ i = omega (arith, begins, low) in
      let front : take k turns ≡ p.lines = ap (take (length p.lines)) in_run.in_run ∙ take_front p.lines p.line in_run.after in
      let h = subst (InLine k) whole (up_to k less (ends_within start turns events told (suc k) (omega (arith, less))) (λ d. down_has_cause k (omega (arith, less)) d) (i - told.ends k) (omega (arith, whole, high, finishes)) (subst IsDownAt (sym whole) down)) in
      elim h as (λ _. (is_stopped (inner_turns p.lines) name ≡ true) ⊎ IsClosedSince faults p n s name) [
        | inl before ↦ elim before.0 as (λ _. (is_stopped (inner_turns p.lines) name ≡ true) ⊎ IsClosedSince faults p n s name) [
          | inl stopped ↦ inl (ap (λ ls. is_stopped (inner_turns ls) name) (sym front) ∙ stopped)
          | inr closed ↦
              let earlier = closed.low in
              inr (record {
                fault = closed.fault;
                among = closed.among;
                of_node = closed.of_node;
                of_shard = closed.of_shard;
                closing = closed.closing;
                not_later = omega (arith, earlier);
                not_restarted = ap (λ ls. list_any (is_restart name) (inner_turns (drop (suc (closed.fault).line) ls))) (sym front) ∙ closed.not_restarted;
              })
        ]
        | inr new ↦ elim new as (λ _. (is_stopped (inner_turns p.lines) name ≡ true) ⊎ IsClosedSince faults p n s name) [
          | inl stop ↦ absurd (none_stopped p in_run quiet stop.0 stop.1 stop.2 stop.3 (omega (arith, stop.4, high, finishes)))
          | inr fault ↦ inr (record {
            fault = fault.fault;
            among = fault.among;
            of_node = fault.of_node;
            of_shard = fault.of_shard;
            closing = fault.closing;
            not_later = omega (arith, fault.line);
            not_restarted = ap (λ ls. list_any (is_restart name) (inner_turns ls)) (ap (λ m. drop (suc m) p.lines) fault.line ∙ drop_whole p.lines);
          })
        ]
      ]
    where
      drop_whole : {X : Type 0} (xs : List X) → drop (suc (length xs)) xs ≡ []
      drop_whole [] = refl
      drop_whole (x ∷ xs) = drop_whole xs

pub down_cause : {tells : Bool} → DownHasCause tells
down_cause {tells} start turns events legal told p in_run quiet n s name named c step =
    let there = (step.1).2 in
    cause_at start turns events legal told n s name named p in_run quiet step.0 (step.1).0 (step.1).1 (first_down (replica n s (take step.0 events)) c (refused_law tells (take step.0 events) n s (replica n s (take step.0 events)) c reason.Down (lawful_step events legal step.0 n s c (reply.Refused reason.Down) there)))

pub down_said : DownIsSaid
down_said listed start p place n s name named stays (inl stopped) = inl (record { instance_ = named.instance_; stands = named.stands; holds = subst (λ x. is_stopped (inner_turns p.lines) x ≡ true) (sym named.holds) stopped })
down_said listed start p place n s name named stays (inr closed) =
    inr (record {
      fault = closed.fault;
      among = closed.among;
      of_node = closed.of_node;
      of_shard = closed.of_shard;
      closing = closed.closing;
      not_later = closed.not_later;
      was_there = stays closed.fault closed.among closed.of_node closed.of_shard;
      not_restarted = record { instance_ = named.instance_; stands = named.stands; holds = subst (λ x. list_any (is_restart x) (inner_turns (drop (suc (closed.fault).line) p.lines)) ≡ false) (sym named.holds) closed.not_restarted };
    })
