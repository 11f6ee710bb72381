-- Former replicas: each reason has its cause.
use Rattle.std.proofs.Common.{◌≡◌, ℕ, List, take, length, refl, sym, subst, Bool, true, false}
use Rattle.std.specs.Prelude.{Option, Some, None, nat_le, if◌then◌else◌}
use Rattle.std.specs.Option.{option_or}
use Rattle.std.proofs.lemmas.Option.{same_Some}
use Rattle.m3_model.specs.Members.{IsIn}
use Rattle.m3_model.specs.declared.act.Act.{Act}
use Rattle.m3_model.specs.declared.act.Act.TheVariants as act
use Rattle.m3_model.specs.declared.placement.Placement.{Placement}
use Rattle.m3_model.specs.declared.reason.Reason.{Reason}
use Rattle.m3_model.specs.declared.reason.Reason.TheVariants as reason
use Rattle.m3_model.specs.declared.replica.Standing.{Standing}
use Rattle.m3_model.specs.declared.replica.Standing.TheVariants as standing
use Rattle.m3_model.specs.declared.rules.MetaState.{MetaState}
use Rattle.m3_model.specs.declared.turn.Turn.{Turn}
use Rattle.placement_core.specs.Shards.{nodes_of, shard_at}
use Rattle.cluster_core.specs.Lists.{At}
use Rattle.cluster_core.specs.Refusals.{first_refusal, shut, unowned, untenured}
use Rattle.cluster_core.specs.Replicas.{replica}
use Rattle.cluster_core.specs.Rows.{MayBeUnowned, ReplicaMayRefuse}
use Rattle.cluster_core.specs.declared.event.Event.{Event}
use Rattle.cluster_core.specs.declared.event.Event.TheVariants as event
use Rattle.cluster_core.specs.declared.event.StepCall.{StepCall}
use Rattle.cluster_core.specs.declared.event.StepCall.TheVariants as call
use Rattle.cluster_core.specs.declared.event.StepReply.TheVariants as reply
use Rattle.cluster_core.specs.declared.replica_state.ReplicaState.{ReplicaState}
use Rattle.cluster_core.proofs.TraceLemmas.{lawful_step}
use Rattle.transcripts.specs.Faults.{Fault, Failing, Damaged}
use Rattle.transcripts.specs.Peers.{MayBreak}
use Rattle.transcripts.specs.Record.{TurnPosition}
use Rattle.told_by.specs.Hears.{HearsReason, IsStreamCall}
use Rattle.told_by.specs.Told.{ToldBy}
use Rattle.told_causes.specs.Calls.{Within}
use Rattle.told_causes.specs.Faults.{faults_told}
use Rattle.told_causes.specs.Standing.{IsHaltAct}
use Rattle.told_causes.specs.Boot.{IsBootAct}
use Rattle.told_causes.specs.Peers.{IsKnownStream, PeersAreSaid}
use Rattle.told_causes.proofs.BootLemmas.{boot_cause, boot_said}
use Rattle.told_causes.proofs.CallLemmas.{fault_here}
use Rattle.told_causes.proofs.DownLemmas.{down_cause, down_said}
use Rattle.told_causes.proofs.RefusalLemmas.{refused_law}

-- ---- what a stream is never refused for

-- the reasons of a fence and of a moment
abbrev IsOfMoment : Reason → Type 0
IsOfMoment (reason.Stale fence) = Unit {0}
IsOfMoment reason.Past = Unit {0}
IsOfMoment reason.Future = Unit {0}
IsOfMoment _ = ⊥

-- where a replica is shut, or else has no tenure for the call
behind_shut : (x : Standing) (rest : Option Reason) (why : Reason) → IsOfMoment why → (rest ≡ Some why → ⊥) → option_or (shut x) rest ≡ Some why → ⊥
behind_shut standing.Down rest why h none e = subst IsOfMoment (sym (same_Some reason.Down why e)) h
behind_shut standing.Boot rest why h none e = subst IsOfMoment (sym (same_Some reason.Boot why e)) h
behind_shut standing.Open rest why h none e = none e

unowned_never : (tenure : Option ℕ) (version : ℕ) (why : Reason) → IsOfMoment why → unowned tenure version ≡ Some why → ⊥
unowned_never None version why h e = subst IsOfMoment (sym (same_Some reason.NotOwned why e)) h
unowned_never (Some tenure) version why h e = by (nat_le tenure version) e
  where
    by : (b : Bool) → (if b then None else Some reason.NotOwned) ≡ Some why → ⊥
    by true is = cc
    by false is = subst IsOfMoment (sym (same_Some reason.NotOwned why is)) h

untenured_never : (tenure : Option ℕ) (why : Reason) → IsOfMoment why → untenured tenure ≡ Some why → ⊥
untenured_never None why h e = subst IsOfMoment (sym (same_Some reason.NotOwned why e)) h
untenured_never (Some tenure) why h e = cc

stream_never : (version : ℕ) (r : ReplicaState) (c : StepCall) → IsStreamCall version c → (why : Reason) → IsOfMoment why → first_refusal r c ≡ Some why → ⊥
stream_never version r (call.Fence at_version) kind why h e = behind_shut r.standing (unowned r.tenure at_version) why h (unowned_never r.tenure at_version why h) e
stream_never version r (call.Page from) kind why h e = behind_shut r.standing (untenured r.tenure) why h (untenured_never r.tenure why h) e
stream_never version r _ kind why h e = absurd kind

-- ---- what it is refused for

module _ {tells : Bool} (start : Option MetaState) (turns : List Turn) (events : List Event) (told : ToldBy start turns events) (p : TurnPosition) (place : Placement) (shard version : ℕ) (known : IsKnownStream tells start turns events told p place shard version) where
  abbrev faults : List Fault
  faults = faults_told told.ends events (length turns)

  halts_nothing : IsHaltAct p.turn.act → ⊥
  halts_nothing h = by p.turn.act known.boots h
    where
      by : (a : Act) → IsBootAct a → IsHaltAct a → ⊥
      by (act.Bootstrap node asked) boots halts = halts
      by _ boots halts = boots

  -- what the refusal of a step is
  refused : (node i : ℕ) (c : StepCall) (why : Reason) → At events i (event.Step node shard c (reply.Refused why)) → ReplicaMayRefuse tells (take i events) shard (replica node shard (take i events)) c why
  refused node i c why there = refused_law tells (take i events) node shard (replica node shard (take i events)) c why (lawful_step events known.legal i node shard c (reply.Refused why) there)

  said : (node : ℕ) → IsIn (nodes_of (shard_at place shard)) node → (why : Reason) → HearsReason (Within events told.spans p) (IsStreamCall version) node shard why → MayBreak tells faults start p place shard node why
  said node among reason.Memory h = tt
  said node among reason.Down h =
      let steady = (known.explained node among).0 in
      down_said faults start p place node shard steady.name steady.named steady.there
      (down_cause start turns events known.legal told p known.in_run halts_nothing node shard steady.name steady.everywhere h.0 h.2)
  said node among reason.Boot h =
      let why = known.explained node among in
      let steady = why.0 in
      λ is. boot_said start p place node shard steady.name steady.named (boot_cause start turns events known.legal told p known.in_run halts_nothing node shard steady.name (why.1 is) h.0 h.2)
  said node among reason.Disk h =
      let s = (h.2).1 in
      fault_here start turns events known.legal told p known.in_run (h.2).0 (event.Step node shard h.0 (reply.Refused reason.Disk)) (record { line = length p.lines; node = node; shard = shard; kind = Failing }) s.0 s.1 s.2 refl refl
  said node among (reason.Corrupt damage) h =
      let step = h.1 in
      let s = (step.2).1 in
      (fault_here start turns events known.legal told p known.in_run (step.2).0 (event.Step node shard step.0 (reply.Refused (reason.Corrupt damage))) (record { line = length p.lines; node = node; shard = shard; kind = Damaged }) s.0 s.1 s.2 refl refl, h.0)
  said node among reason.NotOwned h = known.unowned node among h
  said node among (reason.Stale fence) h =
      let s = (h.2).1 in absurd (stream_never version (replica node shard (take (h.2).0 events)) h.0 h.1 (reason.Stale fence) tt (refused node (h.2).0 h.0 (reason.Stale fence) s.2))
  said node among reason.Past h =
      let s = (h.2).1 in absurd (stream_never version (replica node shard (take (h.2).0 events)) h.0 h.1 reason.Past tt (refused node (h.2).0 h.0 reason.Past s.2))
  said node among reason.Future h =
      let s = (h.2).1 in absurd (stream_never version (replica node shard (take (h.2).0 events)) h.0 h.1 reason.Future tt (refused node (h.2).0 h.0 reason.Future s.2))
  said node among reason.Cut h = let s = (h.2).1 in absurd (refused node (h.2).0 h.0 reason.Cut s.2)

pub peers_said : {tells : Bool} → PeersAreSaid tells
peers_said start turns events told p place shard version known node among why h = said start turns events told p place shard version known node among why h
