-- Sweeps: each reason has its cause.
use Rattle.std.proofs.Common.{◌≡◌, ℕ, List, take, length, refl, sym, subst, Bool}
use Rattle.std.specs.Prelude.{Option, Some}
use Rattle.std.proofs.lemmas.Option.{same_Some}
use Rattle.m3_model.specs.Members.{IsIn}
use Rattle.m3_model.specs.declared.act.Act.{Act}
use Rattle.m3_model.specs.declared.act.Act.TheVariants as act
use Rattle.m3_model.specs.declared.placement.Placement.{Placement}
use Rattle.m3_model.specs.declared.reason.Reason.{Reason}
use Rattle.m3_model.specs.declared.reason.Reason.TheVariants as reason
use Rattle.m3_model.specs.declared.replica.Standing.{Standing}
use Rattle.m3_model.specs.declared.replica.Standing.TheVariants as standing
use Rattle.m3_model.specs.declared.rules.MetaState.{MetaState}
use Rattle.m3_model.specs.declared.turn.Turn.{Turn}
use Rattle.placement_core.specs.Shards.{nodes_of, shard_at}
use Rattle.cluster_core.specs.Lists.{At}
use Rattle.cluster_core.specs.Refusals.{first_refusal, shut}
use Rattle.cluster_core.specs.Replicas.{replica}
use Rattle.cluster_core.specs.Rows.{MayBeUnowned, ReplicaMayRefuse}
use Rattle.cluster_core.specs.declared.event.Event.{Event}
use Rattle.cluster_core.specs.declared.event.Event.TheVariants as event
use Rattle.cluster_core.specs.declared.event.StepCall.{StepCall}
use Rattle.cluster_core.specs.declared.event.StepCall.TheVariants as call
use Rattle.cluster_core.specs.declared.event.StepReply.TheVariants as reply
use Rattle.cluster_core.specs.declared.replica_state.ReplicaState.{ReplicaState}
use Rattle.cluster_core.proofs.TraceLemmas.{lawful_step}
use Rattle.transcripts.specs.Faults.{Fault, Failing, Damaged}
use Rattle.transcripts.specs.Record.{TurnPosition}
use Rattle.transcripts.specs.Sweeps.{MayNotKeepUp}
use Rattle.told_by.specs.Hears.{HearsReason, IsSweepCall}
use Rattle.told_by.specs.Told.{ToldBy}
use Rattle.told_causes.specs.Calls.{Within}
use Rattle.told_causes.specs.Faults.{faults_told}
use Rattle.told_causes.specs.Standing.{IsHaltAct}
use Rattle.told_causes.specs.Sweeps.{IsKnownSweep, IsSweepAct, SweepsAreSaid}
use Rattle.told_causes.proofs.BootLemmas.{boot_cause, boot_said}
use Rattle.told_causes.proofs.CallLemmas.{fault_here}
use Rattle.told_causes.proofs.DownLemmas.{down_cause, down_said}
use Rattle.told_causes.proofs.RefusalLemmas.{refused_law}

-- ---- what upkeep is never refused for

-- the reasons of a version and of a moment
abbrev IsOfCall : Reason → Type 0
IsOfCall reason.NotOwned = Unit {0}
IsOfCall (reason.Stale fence) = Unit {0}
IsOfCall reason.Past = Unit {0}
IsOfCall reason.Future = Unit {0}
IsOfCall _ = ⊥

shut_never : (x : Standing) (why : Reason) → IsOfCall why → shut x ≡ Some why → ⊥
shut_never standing.Down why h e = subst IsOfCall (sym (same_Some reason.Down why e)) h
shut_never standing.Boot why h e = subst IsOfCall (sym (same_Some reason.Boot why e)) h
shut_never standing.Open why h e = cc

sweep_never : (a : Act) (r : ReplicaState) (c : StepCall) → IsSweepCall a c → (why : Reason) → IsOfCall why → first_refusal r c ≡ Some why → ⊥
sweep_never act.Tick r (call.Tick rules) kind why h e = shut_never r.standing why h e
sweep_never act.Flush r (call.Flush rules) kind why h e = shut_never r.standing why h e
sweep_never act.Snapshot r call.Snapshot kind why h e = shut_never r.standing why h e
sweep_never _ r _ kind why h e = absurd kind

sweep_owned : (tells : Bool) (a : Act) (r : ReplicaState) (c : StepCall) → IsSweepCall a c → MayBeUnowned tells r c → ⊥
sweep_owned tells act.Tick r (call.Tick rules) kind h = shut_never r.standing reason.NotOwned tt h
sweep_owned tells act.Flush r (call.Flush rules) kind h = shut_never r.standing reason.NotOwned tt h
sweep_owned tells act.Snapshot r call.Snapshot kind h = shut_never r.standing reason.NotOwned tt h
sweep_owned tells _ r _ kind h = absurd kind

-- ---- what it is refused for

module _ {tells : Bool} (start : Option MetaState) (turns : List Turn) (events : List Event) (told : ToldBy start turns events) (p : TurnPosition) (place : Placement) (known : IsKnownSweep tells start turns events told p place) where
  abbrev faults : List Fault
  faults = faults_told told.ends events (length turns)

  halts_nothing : IsHaltAct p.turn.act → ⊥
  halts_nothing h = by p.turn.act known.sweeps h
    where
      by : (a : Act) → IsSweepAct a → IsHaltAct a → ⊥
      by (act.Stop node) sweeps halts = sweeps
      by (act.Restart node pick) sweeps halts = sweeps
      by _ sweeps halts = halts

  -- what the refusal of a step is
  refused : (node shard i : ℕ) (c : StepCall) (why : Reason) → At events i (event.Step node shard c (reply.Refused why)) → ReplicaMayRefuse tells (take i events) shard (replica node shard (take i events)) c why
  refused node shard i c why there = refused_law tells (take i events) node shard (replica node shard (take i events)) c why (lawful_step events known.legal i node shard c (reply.Refused why) there)

  said : (shard node : ℕ) → IsIn (nodes_of (shard_at place shard)) node → (why : Reason) → HearsReason (Within events told.spans p) (IsSweepCall p.turn.act) node shard why → MayNotKeepUp tells faults start p place shard node why
  said shard node among reason.Memory h = tt
  said shard node among reason.Down h =
      let steady = (known.explained shard node among).0 in
      down_said faults start p place node shard steady.name steady.named steady.there
      (down_cause start turns events known.legal told p known.in_run halts_nothing node shard steady.name steady.everywhere h.0 h.2)
  said shard node among reason.Boot h =
      let why = known.explained shard node among in
      let steady = why.0 in
      λ is. boot_said start p place node shard steady.name steady.named (boot_cause start turns events known.legal told p known.in_run halts_nothing node shard steady.name (why.1 is) h.0 h.2)
  said shard node among reason.Disk h =
      let s = (h.2).1 in
      fault_here start turns events known.legal told p known.in_run (h.2).0 (event.Step node shard h.0 (reply.Refused reason.Disk)) (record { line = length p.lines; node = node; shard = shard; kind = Failing }) s.0 s.1 s.2 refl refl
  said shard node among (reason.Corrupt damage) h =
      let step = h.1 in
      let s = (step.2).1 in
      (fault_here start turns events known.legal told p known.in_run (step.2).0 (event.Step node shard step.0 (reply.Refused (reason.Corrupt damage))) (record { line = length p.lines; node = node; shard = shard; kind = Damaged }) s.0 s.1 s.2 refl refl, h.0)
  said shard node among reason.NotOwned h =
      let s = (h.2).1 in absurd (sweep_owned tells p.turn.act (replica node shard (take (h.2).0 events)) h.0 h.1 (refused node shard (h.2).0 h.0 reason.NotOwned s.2))
  said shard node among (reason.Stale fence) h =
      let s = (h.2).1 in absurd (sweep_never p.turn.act (replica node shard (take (h.2).0 events)) h.0 h.1 (reason.Stale fence) tt (refused node shard (h.2).0 h.0 (reason.Stale fence) s.2))
  said shard node among reason.Past h =
      let s = (h.2).1 in absurd (sweep_never p.turn.act (replica node shard (take (h.2).0 events)) h.0 h.1 reason.Past tt (refused node shard (h.2).0 h.0 reason.Past s.2))
  said shard node among reason.Future h =
      let s = (h.2).1 in absurd (sweep_never p.turn.act (replica node shard (take (h.2).0 events)) h.0 h.1 reason.Future tt (refused node shard (h.2).0 h.0 reason.Future s.2))
  said shard node among reason.Cut h = let s = (h.2).1 in absurd (refused node shard (h.2).0 h.0 reason.Cut s.2)

pub sweeps_said : {tells : Bool} → SweepsAreSaid tells
sweeps_said start turns events told p place known shard node among why h = said start turns events told p place known shard node among why h
