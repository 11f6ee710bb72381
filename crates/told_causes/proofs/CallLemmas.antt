-- What the steps of a call say: why a replica refused it, and that what it took lies within its window.
use Rattle.std.specs.Prelude.{not, ◌&&◌, false}
use Rattle.std.specs.Option.{option_map_or}
use Rattle.m3_model.specs.declared.placement.Instance.{Instance}
use Rattle.transcripts.specs.Fates.{OfNode, is_reached, is_stopped, reaches}
use Rattle.transcripts.specs.Record.{inner_turns}
use Rattle.told_by.specs.Spans.{Spans}
use Rattle.std.proofs.Common.{◌≡◌, ℕ, suc, ◌<◌, ◌≤◌, ◌+◌, List, [], ◌∷◌, take, length, refl, sym, ap, ◌∙◌, subst, inl, inr, arith, Bool, true, false, length-append}
use Rattle.std.specs.Prelude.{Option, Some, None, nat_le, if◌then◌else◌, slice_get}
use Rattle.std.specs.Option.{option_or}
use Rattle.std.proofs.lemmas.Bool.{leb-true}
use Rattle.std.proofs.lemmas.Option.{same_Some}
use Rattle.m3_model.specs.Calls.{is_call}
use Rattle.m3_model.specs.Members.{IsIn}
use Rattle.m3_model.specs.Rules.{InWindow, IsPast, IsFuture}
use Rattle.m3_model.specs.declared.act.Act.{Act}
use Rattle.m3_model.specs.declared.act.Act.TheVariants as act
use Rattle.m3_model.specs.declared.placement.Placement.{Placement}
use Rattle.m3_model.specs.declared.point.Point.{Point}
use Rattle.m3_model.specs.declared.reason.Reason.{Reason}
use Rattle.m3_model.specs.declared.reason.Reason.TheVariants as reason
use Rattle.m3_model.specs.declared.replica.Standing.{Standing}
use Rattle.m3_model.specs.declared.replica.Standing.TheVariants as standing
use Rattle.m3_model.specs.declared.rules.MetaState.{MetaState}
use Rattle.m3_model.specs.declared.rules.Rules.{Rules}
use Rattle.m3_model.specs.declared.rules.Space.{Space}
use Rattle.m3_model.specs.declared.turn.Turn.{Turn}
use Rattle.cluster_core.specs.Legal.{Legal}
use Rattle.cluster_core.specs.Lists.{At}
use Rattle.cluster_core.specs.Refusals.{first_refusal, outdated, outside, outside_of, reason_if, shut, unowned}
use Rattle.cluster_core.specs.Replicas.{replica}
use Rattle.cluster_core.specs.Rows.{LawfulStep}
use Rattle.cluster_core.specs.declared.event.Event.{Event}
use Rattle.cluster_core.specs.declared.event.Event.TheVariants as event
use Rattle.cluster_core.specs.declared.event.StepCall.{StepCall}
use Rattle.cluster_core.specs.declared.event.StepCall.TheVariants as call
use Rattle.cluster_core.specs.declared.event.StepReply.{StepReply}
use Rattle.cluster_core.specs.declared.event.StepReply.TheVariants as reply
use Rattle.cluster_core.specs.declared.replica_state.ReplicaState.{ReplicaState}
use Rattle.cluster_core.proofs.TraceLemmas.{lawful_step}
use Rattle.m3_model.specs.Hash.{shard_of}
use Rattle.m3_model.specs.Levels.{needed_write}
use Rattle.transcripts.specs.Calls.{AsksShard, Call, call_of}
use Rattle.transcripts.specs.Caused.{is_write}
use Rattle.transcripts.specs.Faults.{Fault, Failing, Damaged}
use Rattle.transcripts.specs.Placements.{MayUse, seed_at}
use Rattle.transcripts.specs.Points.{point_of}
use Rattle.transcripts.specs.Reasons.{IsOutside, MayRefuse, MayServe, TakesPoint}
use Rattle.transcripts.specs.Record.{TurnPosition, IsTurnPosition}
use Rattle.transcripts.specs.Rules.{rules_at}
use Rattle.told_by.specs.Hears.{HasServed, HearsAcks, HearsBy, IsHeard, IsOwnCall, DidAsAsked}
use Rattle.told_by.specs.Told.{ToldBy}
use Rattle.told_causes.specs.Calls.{IsExplainedAt, AcksAreSaid, IsSteadyNode, ReasonsAreSaid, ServedIsTaken, Within}
use Rattle.told_causes.specs.Faults.{fault_of, faults_told}
use Rattle.told_causes.specs.Standing.{IsHaltAct}
use Rattle.told_causes.proofs.BootLemmas.{boot_cause, boot_said}
use Rattle.told_causes.proofs.DownLemmas.{down_cause, down_said}
use Rattle.told_causes.proofs.FaultLemmas.{steps_faults}
use Rattle.told_causes.proofs.RefusalLemmas.{or_cases, refused_law}
use Rattle.told_causes.proofs.RunLemmas.{who_served, who_served_begun}

-- ---- windows

-- the reasons of a moment
abbrev IsOfMoment : Reason → Type 0
IsOfMoment reason.Past = Unit {0}
IsOfMoment reason.Future = Unit {0}
IsOfMoment _ = ⊥

shut_not : (x : Standing) (why : Reason) → IsOfMoment why → shut x ≡ Some why → ⊥
shut_not standing.Down why h e = subst IsOfMoment (sym (same_Some reason.Down why e)) h
shut_not standing.Boot why h e = subst IsOfMoment (sym (same_Some reason.Boot why e)) h
shut_not standing.Open why h e = cc

unowned_not : (o : Option ℕ) (version : ℕ) (why : Reason) → IsOfMoment why → unowned o version ≡ Some why → ⊥
unowned_not None version why h e = subst IsOfMoment (sym (same_Some reason.NotOwned why e)) h
unowned_not (Some tenure) version why h e = by (nat_le tenure version) e
  where
    by : (b : Bool) → (if b then None else Some reason.NotOwned) ≡ Some why → ⊥
    by true e = cc
    by false e = subst IsOfMoment (sym (same_Some reason.NotOwned why e)) h

outdated_not : (fence version : ℕ) (why : Reason) → IsOfMoment why → outdated fence version ≡ Some why → ⊥
outdated_not fence version why h e = by (nat_le fence version) e
  where
    by : (b : Bool) → (if b then None else Some (reason.Stale fence)) ≡ Some why → ⊥
    by true e = cc
    by false e = subst IsOfMoment (sym (same_Some (reason.Stale fence) why e)) h

-- a put that is refused for its moment is outside
pub put_outside : (r : ReplicaState) (client number version : ℕ) (rules : Rules) (point : Point) (why : Reason) → IsOfMoment why → first_refusal r (call.Put client number rules version point) ≡ Some why → outside rules point ≡ Some why
put_outside r client number version rules point why h e =
    elim (or_cases (shut r.standing) (option_or (unowned r.tenure version) (option_or (outdated r.fence version) (outside rules point))) why e) as (λ _. outside rules point ≡ Some why) [
      | inl bad ↦ absurd (shut_not r.standing why h bad)
      | inr rest ↦ elim (or_cases (unowned r.tenure version) (option_or (outdated r.fence version) (outside rules point)) why rest) as (λ _. outside rules point ≡ Some why) [
        | inl bad ↦ absurd (unowned_not r.tenure version why h bad)
        | inr last ↦ elim (or_cases (outdated r.fence version) (outside rules point) why last) as (λ _. outside rules point ≡ Some why) [
          | inl bad ↦ absurd (outdated_not r.fence version why h bad)
          | inr is ↦ is
        ]
      ]
    ]

read_not : (r : ReplicaState) (version : ℕ) (why : Reason) → IsOfMoment why → option_or (shut r.standing) (option_or (unowned r.tenure version) (outdated r.fence version)) ≡ Some why → ⊥
read_not r version why h e =
    elim (or_cases (shut r.standing) (option_or (unowned r.tenure version) (outdated r.fence version)) why e) as (λ _. ⊥) [
      | inl bad ↦ shut_not r.standing why h bad
      | inr rest ↦ elim (or_cases (unowned r.tenure version) (outdated r.fence version) why rest) as (λ _. ⊥) [ inl bad ↦ unowned_not r.tenure version why h bad | inr bad ↦ outdated_not r.fence version why h bad ]
    ]

pub outside_past : (rules : Rules) (p : Point) (o : Option Space) → slice_get rules.spaces p.ns ≡ o → outside_of rules p o ≡ Some reason.Past → IsPast rules p
outside_past rules p None is e = cc
outside_past rules p (Some space) is e = by (nat_le (p.t + space.past) rules.now) (nat_le (rules.now + space.future) p.t) refl e
  where
    by : (b c : Bool) → nat_le (p.t + space.past) rules.now ≡ b → option_or (reason_if b reason.Past) (reason_if c reason.Future) ≡ Some reason.Past → IsPast rules p
    by true c low h = record { space = space; stands = is; too_old = leb-true (p.t + space.past) rules.now low }
    by false true low h = cc
    by false false low h = cc

pub outside_future : (rules : Rules) (p : Point) (o : Option Space) → slice_get rules.spaces p.ns ≡ o → outside_of rules p o ≡ Some reason.Future → IsFuture rules p
outside_future rules p None is e = cc
outside_future rules p (Some space) is e = by (nat_le (p.t + space.past) rules.now) (nat_le (rules.now + space.future) p.t) refl e
  where
    by : (b c : Bool) → nat_le (rules.now + space.future) p.t ≡ c → option_or (reason_if b reason.Past) (reason_if c reason.Future) ≡ Some reason.Future → IsFuture rules p
    by true c high h = cc
    by false true high h = record { space = space; stands = is; too_new = leb-true (rules.now + space.future) p.t high }
    by false false high h = cc

module _ {tells : Bool} (start : Option MetaState) (turns : List Turn) (events : List Event) (legal : Legal tells events) (told : ToldBy start turns events) (p : TurnPosition) (in_run : IsTurnPosition turns p) where
  abbrev faults : List Fault
  faults = faults_told told.ends events (length turns)

  -- a step refused for its moment is of a point outside its window
  refused_past : (version node shard i : ℕ) (c : StepCall) → IsOwnCall start p version c → At events i (event.Step node shard c (reply.Refused reason.Past)) → IsOutside IsPast (rules_at start p) p.turn.act
  refused_past version node shard i c own there = by c own (refused_law tells (take i events) node shard (replica node shard (take i events)) c reason.Past (lawful_step events legal i node shard c (reply.Refused reason.Past) there))
    where
      by : (c : StepCall) → IsOwnCall start p version c → first_refusal (replica node shard (take i events)) c ≡ Some reason.Past → IsOutside IsPast (rules_at start p) p.turn.act
      by (call.Put client number rules at_version point) own e = record {
        point = point;
        of_act = subst (λ (r : Rules). point_of r.spaces p.turn.act ≡ Some point) own.2 own.4;
        outside = subst (λ (r : Rules). IsPast r point) own.2 (outside_past rules point (slice_get rules.spaces point.ns) refl (put_outside (replica node shard (take i events)) client number at_version rules point reason.Past tt e));
      }
      by (call.Read client number rules at_version pick from to) own e = absurd (read_not (replica node shard (take i events)) at_version reason.Past tt e)
      by _ own e = absurd own

  refused_future : (version node shard i : ℕ) (c : StepCall) → IsOwnCall start p version c → At events i (event.Step node shard c (reply.Refused reason.Future)) → IsOutside IsFuture (rules_at start p) p.turn.act
  refused_future version node shard i c own there = by c own (refused_law tells (take i events) node shard (replica node shard (take i events)) c reason.Future (lawful_step events legal i node shard c (reply.Refused reason.Future) there))
    where
      by : (c : StepCall) → IsOwnCall start p version c → first_refusal (replica node shard (take i events)) c ≡ Some reason.Future → IsOutside IsFuture (rules_at start p) p.turn.act
      by (call.Put client number rules at_version point) own e = record {
        point = point;
        of_act = subst (λ (r : Rules). point_of r.spaces p.turn.act ≡ Some point) own.2 own.4;
        outside = subst (λ (r : Rules). IsFuture r point) own.2 (outside_future rules point (slice_get rules.spaces point.ns) refl (put_outside (replica node shard (take i events)) client number at_version rules point reason.Future tt e));
      }
      by (call.Read client number rules at_version pick from to) own e = absurd (read_not (replica node shard (take i events)) at_version reason.Future tt e)
      by _ own e = absurd own

  -- a step that tells of a fault within the turn's stretch has it in the turn's line
  pub fault_here : (i : ℕ) (e : Event) (fault : Fault) → (told.spans).from p ≤ i → i < (told.spans).to p → At events i e → fault.line ≡ length p.lines → fault_of (length p.lines) e ≡ Some fault → IsIn faults fault
  fault_here i e fault low high there line says =
      let less : length p.lines < length turns = omega (arith, ap length in_run.in_run, length-append p.lines (p.line ∷ in_run.after)) in
      let begins = (told.lines).low p in_run in
      let finishes = (told.lines).high p in_run in
      steps_faults told.ends events (length turns) fault (record {
        early = omega (arith, line, less);
        position = i;
        low = subst (λ m. told.ends m ≤ i) (sym line) (omega (arith, begins, low));
        high = subst (λ m. i < told.ends (suc m)) (sym line) (omega (arith, finishes, high));
        e = e;
        there = there;
        tells = subst (λ m. fault_of m e ≡ Some fault) (sym line) says;
      })

  calls_halt_nothing : (a : Act) → is_call a ≡ true → IsHaltAct a → ⊥
  calls_halt_nothing (act.Stop node) e h = cc
  calls_halt_nothing (act.Restart node pick) e h = cc
  calls_halt_nothing _ e h = h

  reason_said : is_call p.turn.act ≡ true → (place : Placement) (shard node : ℕ) → (steady : IsSteadyNode start turns events told p place shard node) → (why : Reason) → IsExplainedAt tells start turns events told p place shard node steady.name why → IsHeard start (Within events told.spans p) p place shard node why → MayRefuse tells faults start p place shard node why
  reason_said calls place shard node steady reason.Cut known h = h
  reason_said calls place shard node steady reason.Memory known h = tt
  reason_said calls place shard node steady reason.Past known h = let s = (h.2).1 in refused_past place.version node shard (h.2).0 h.0 h.1 s.2
  reason_said calls place shard node steady reason.Future known h = let s = (h.2).1 in refused_future place.version node shard (h.2).0 h.0 h.1 s.2
  reason_said calls place shard node steady reason.Down known h =
      down_said faults start p place node shard steady.name steady.named steady.there
      (down_cause start turns events legal told p in_run (calls_halt_nothing p.turn.act calls) node shard steady.name steady.everywhere h.0 h.2)
  reason_said calls place shard node steady reason.Boot known h =
      λ is. boot_said start p place node shard steady.name steady.named (boot_cause start turns events legal told p in_run (calls_halt_nothing p.turn.act calls) node shard steady.name (known is) h.0 h.2)
  reason_said calls place shard node steady reason.Disk known h =
      let s = (h.2).1 in fault_here (h.2).0 (event.Step node shard h.0 (reply.Refused reason.Disk)) (record { line = length p.lines; node = node; shard = shard; kind = Failing }) s.0 s.1 s.2 refl refl
  reason_said calls place shard node steady (reason.Corrupt damage) known h =
      let step = h.1 in
      let s = (step.2).1 in
      (fault_here (step.2).0 (event.Step node shard step.0 (reply.Refused (reason.Corrupt damage))) (record { line = length p.lines; node = node; shard = shard; kind = Damaged }) s.0 s.1 s.2 refl refl, h.0)
  reason_said calls place shard node steady reason.NotOwned known h = known
  reason_said calls place shard node steady (reason.Stale fence) known h = known

  -- what a replica took lies within its window
  served_taken : (place : Placement) (shard node : ℕ) → HasServed start (Within events told.spans p) p place shard node → MayServe (rules_at start p) p.turn.act
  served_taken place shard node h =
      let step = h.2 in
      let s = (step.2).1 in
      by_call step.0 h.0 h.1 step.1 (lawful_step events legal (step.2).0 node shard step.0 h.0 s.2) p.turn.act refl
    where
      not_write : (a : Act) → is_write a ≡ false → MayServe (rules_at start p) a
      not_write (act.Write ns id t v level version) e = cc
      not_write _ e = tt

      by_act : (point : Point) → point_of (rules_at start p).spaces p.turn.act ≡ Some point → InWindow (rules_at start p) point → (a : Act) → p.turn.act ≡ a → MayServe (rules_at start p) a
      by_act point of_act window (act.Write ns id t v level version) is = record { point = point; of_act = ap (point_of (rules_at start p).spaces) (sym is) ∙ of_act; in_window = window }
      by_act point of_act window _ is = tt

      by_call : (c : StepCall) (a : StepReply) → DidAsAsked a → IsOwnCall start p place.version c → LawfulStep tells (take (h.2.2).0 events) node shard (replica node shard (take (h.2.2).0 events)) c a → (x : Act) → p.turn.act ≡ x → MayServe (rules_at start p) x
      by_call (call.Put client number rules version point) reply.Done served own law x is = by_act point (subst (λ (r : Rules). point_of r.spaces p.turn.act ≡ Some point) own.2 own.4) (subst (λ (r : Rules). InWindow r point) own.2 law.in_window) x is
      by_call (call.Put client number rules version point) (reply.Found series) served own law x is = absurd law
      by_call (call.Put client number rules version point) _ served own law x is = absurd served
      by_call (call.Read client number rules version pick from to) a served own law x is = not_write x (ap is_write (sym is) ∙ own.4)
      by_call _ a served own law x is = absurd own

pub reasons_said : {tells : Bool} → ReasonsAreSaid tells
reasons_said start turns events legal told p in_run calls place shard node steady why known h = reason_said start turns events legal told p in_run calls place shard node steady why known h

pub taken_said : {tells : Bool} → ServedIsTaken tells
taken_said start turns events legal told p in_run place shard node h = served_taken start turns events legal told p in_run place shard node h

-- the messages of a call reach a replica that did as it asks, where its node runs
pub served_reached : (start : Option MetaState) (events : List Event) (spans : Spans) (p : TurnPosition) (place : Placement) (shard node : ℕ) → HasServed start (Within events spans p) p place shard node → OfNode place node (λ name. is_stopped (inner_turns p.lines) name ≡ false) → reaches p place node ≡ true
served_reached start events spans p place shard node h up =
    let sent = h.3 in
    let same : (up.instance_).name ≡ (sent.instance_).name = ap (λ (i : Instance). i.name) (same_Some up.instance_ sent.instance_ (sym up.stands ∙ sent.stands)) in
    ap (λ o. option_map_or (λ (i : Instance). is_reached p i.name) o false) sent.stands
    ∙ ap (λ b. not b && not (is_stopped (inner_turns p.lines) (sent.instance_).name)) sent.holds
    ∙ ap (λ b. not b) (ap (is_stopped (inner_turns p.lines)) (sym same) ∙ up.holds)

pub acks_said : {tells : Bool} → AcksAreSaid tells
acks_said start turns events legal told p in_run halts names ns id t v level version nodes acts answers =
    let h : HearsAcks start (Within events told.spans p) p nodes =
    subst (λ b. HearsBy start (take ((told.spans).from p) events) (Within events told.spans p) p p.turn.act b) answers ((told.tells).hears p in_run) in
    let is : record { id = Some id; version = version; needed = needed_write level } ≡ h.call = same_Some (record { id = Some id; version = version; needed = needed_write level }) h.call (sym (ap call_of acts) ∙ h.of_call) in
    let shard = shard_of id (seed_at start p) (length (h.place).shards) in
    let asks : AsksShard start p h.place (h.call).id shard = subst (λ (c : Call). AsksShard start p h.place c.id shard) is refl in
    record {
      place = h.place;
      may_use = subst (λ (c : Call). MayUse start p c.version h.place) (sym is) h.may_use;
      counted = λ s asked node m. h.counted s (subst (λ (c : Call). AsksShard start p h.place c.id s) is asked) node m;
      by_name = h.by_name;
      reached = λ node m. let one = h.served shard asks node m in served_reached start events told.spans p h.place shard node one (who_served start turns events legal told halts p in_run names h.place (record { call = h.call; of_act = h.of_call; may_use = h.may_use }) shard node one);
      begun = λ s asked node m. who_served_begun start turns events legal told halts p in_run (subst (λ a. is_call a ≡ true) (sym acts) refl) names h.place (record { call = h.call; of_act = h.of_call; may_use = h.may_use }) s node (h.served s (subst (λ (c : Call). AsksShard start p h.place c.id s) is asked) node m);
      enough = subst (λ (c : Call). c.needed (h.place).rf ≤ length nodes) (sym is) h.enough;
      takes =
          let first = some_node nodes h.some in
          subst (TakesPoint (rules_at start p)) (sym acts) (subst (MayServe (rules_at start p)) acts (taken_said start turns events legal told p in_run h.place shard first.0 (h.served shard asks first.0 first.1)));
    }
  where
    some_node : (ns : List ℕ) → 0 < length ns → (n : ℕ) × IsIn ns n
    some_node [] lt = absurd (omega arith)
    some_node (n ∷ ns) lt = (n, inl refl)
