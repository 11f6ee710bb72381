-- What a turn hears and may make stays so where more happens within its stretch, or behind it.
use Rattle.std.specs.Prelude.{[], ◌∷◌}
use Rattle.std.proofs.Common.{ℕ, List, Bool}
use Rattle.std.specs.Prelude.{Option, Some, None}
use Rattle.m3_model.specs.declared.act.Act.{Act}
use Rattle.m3_model.specs.declared.act.Act.TheVariants as act
use Rattle.m3_model.specs.declared.answer.Answer.{Answer}
use Rattle.m3_model.specs.declared.answer.Answer.TheVariants as answer
use Rattle.m3_model.specs.declared.answer.StatusLine.{StatusLine}
use Rattle.m3_model.specs.declared.placement.Placement.{Placement}
use Rattle.m3_model.specs.declared.reason.Reason.{Reason}
use Rattle.m3_model.specs.declared.reason.Reason.TheVariants as reason
use Rattle.m3_model.specs.declared.rules.MetaState.{MetaState}
use Rattle.cluster_core.specs.declared.event.Event.{Event}
use Rattle.cluster_core.specs.declared.event.Event.TheVariants as event
use Rattle.cluster_core.specs.declared.event.StepCall.{StepCall}
use Rattle.cluster_core.specs.declared.event.StepCall.TheVariants as call
use Rattle.cluster_core.specs.declared.event.StepReply.{StepReply}
use Rattle.cluster_core.specs.declared.event.StepReply.TheVariants as reply
use Rattle.m3_model.specs.Levels.{majority}
use Rattle.transcripts.specs.Calls.{Call}
use Rattle.transcripts.specs.Deliveries.{LateMessage}
use Rattle.transcripts.specs.Record.{TurnPosition}
use Rattle.told_by.specs.Hears.{AnySlot, Happens, IsMember, IsOwnCall, IsLatePut, IsSweepCall, IsStreamCall, IsRepairCall, IsRestartCall, IsJoinCall, IsBeginOf, HasEnough, HasServed, HasStep, HearsAcks, HearsBy, HearsFound, HearsLate, HearsOutcomes, HearsReason, HearsRefused, HearsShard, HearsShort, HearsStatus, HearsTooFew, IsHeard}
use Rattle.told_by.specs.Makes.{MayMake}
use Rattle.told_by.specs.Spans.{IsOfTurn}

-- a turn may make what no turn makes
pub makes_by : (start : Option MetaState) (past : List Event) (p : TurnPosition) (e : Event) → (IsOfTurn e → MayMake start past p e) → MayMake start past p e
makes_by start past p (event.Step n s call.Stop a) h = h tt
makes_by start past p (event.Step n s call.Restart a) h = h tt
makes_by start past p (event.Step n s (call.Begin tenure) a) h = h tt
makes_by start past p (event.Step n s _ a) h = tt
makes_by start past p _ h = h tt

module _ (start : Option MetaState) (past : List Event) (Old New : ℕ → Event → Type 0) (on : (i : ℕ) (e : Event) → Old i e → New i e) (p : TurnPosition) where
  happens_on : (e : Event) → Happens Old e → Happens New e
  happens_on e h = (h.0, on h.0 e h.1)

  step_on : (Kind : StepCall → Type 0) (n s : ℕ) (a : StepReply) → HasStep Old Kind n s a → HasStep New Kind n s a
  step_on Kind n s a h = (h.0, h.1, happens_on (event.Step n s h.0 a) h.2)

  heard_on : (place : Placement) (s n : ℕ) (why : Reason) → IsHeard start Old p place s n why → IsHeard start New p place s n why
  heard_on place s n reason.Cut h = h
  heard_on place s n reason.Memory h = h
  heard_on place s n (reason.Corrupt damage) h = (h.0, step_on (IsOwnCall start p place.version) n s (reply.Refused (reason.Corrupt damage)) h.1)
  heard_on place s n why h = (h.0, h.1, happens_on (event.Step n s h.0 (reply.Refused why)) h.2)

  served_on : (place : Placement) (s n : ℕ) → HasServed start Old p place s n → HasServed start New p place s n
  served_on place s n h = (h.0, h.1, step_on (IsOwnCall start p place.version) n s h.0 h.2, h.3)

  shard_on : (place : Placement) (s got : ℕ) (reasons : List (ℕ × Reason)) → HearsShard start Old p place s got reasons → HearsShard start New p place s got reasons
  shard_on place s got reasons h = record {
    others = h.others;
    counted = h.counted;
    by_name = h.by_name;
    heard = λ r m. heard_on place s r.0 r.1 (h.heard r m);
    took = λ some. let one = h.took some in (one.0, served_on place s one.0 one.1);
    served = λ n m none. served_on place s n (h.served n m none);
  }

  enough_on : (place : Placement) (s needed : ℕ) → HasEnough start Old p place s needed → HasEnough start New p place s needed
  enough_on place s needed h = record { nodes = h.nodes; distinct = h.distinct; counted = h.counted; served = λ n m. served_on place s n (h.served n m); enough = h.enough }

  acks_on : (nodes : List ℕ) → HearsAcks start Old p nodes → HearsAcks start New p nodes
  acks_on nodes h = record {
    call = h.call;
    of_call = h.of_call;
    place = h.place;
    may_use = h.may_use;
    by_name = h.by_name;
    some = h.some;
    enough = h.enough;
    counted = h.counted;
    served = λ s asked n m. served_on h.place s n (h.served s asked n m);
  }

  too_few_on : (got needed : ℕ) (reasons : List (ℕ × Reason)) (s : ℕ) → HearsTooFew start Old p got needed reasons s → HearsTooFew start New p got needed reasons s
  too_few_on got needed reasons s h = record {
    call = h.call;
    of_call = h.of_call;
    place = h.place;
    may_use = h.may_use;
    asked = h.asked;
    needed_is = h.needed_is;
    fewer = h.fewer;
    hears = shard_on h.place s got reasons h.hears;
    first = λ lower lt asked. enough_on h.place lower needed (h.first lower lt asked);
  }

  short_on : (call : Call) (place : Placement) → HearsShort start Old p call place → HearsShort start New p call place
  short_on call place h = record { shard = h.shard; asked = h.asked; got = h.got; reasons = h.reasons; hears = shard_on place h.shard h.got h.reasons h.hears; some = h.some; fewer = h.fewer }

  found_on : (short : Bool) → HearsFound start Old p short → HearsFound start New p short
  found_on short h = record {
    call = h.call;
    of_call = h.of_call;
    place = h.place;
    may_use = h.may_use;
    enough = λ s asked. enough_on h.place s ((h.call).needed (h.place).rf) (h.enough s asked);
    is_short = λ e. let both = h.is_short e in (both.0, short_on h.call h.place both.1);
    not_short = λ e level s asked. enough_on h.place s (majority (h.place).rf) (h.not_short e level s asked);
  }

  late_on : (m : LateMessage) (s : ℕ) (o : Option Reason) → HearsLate start Old p m s o → HearsLate start New p m s o
  late_on m s None h = step_on (IsLatePut start p m) m.node s reply.Done h
  late_on m s (Some reason.Memory) h = h
  late_on m s (Some (reason.Corrupt damage)) h = (h.0, step_on (IsLatePut start p m) m.node s (reply.Refused (reason.Corrupt damage)) h.1)
  late_on m s (Some why) h = (h.0, h.1, happens_on (event.Step m.node s h.0 (reply.Refused why)) h.2)

  pub outcomes_on : (messages : List LateMessage) (outcomes : List (ℕ × ℕ × Option Reason)) → HearsOutcomes start Old p messages outcomes → HearsOutcomes start New p messages outcomes
  outcomes_on [] [] h = h
  outcomes_on (m ∷ messages) (x ∷ outcomes) h =
      let one = h.0 in
      (record { message = one.message; node_is = one.node_is; shard_is = one.shard_is; heard = late_on m x.1 x.2 one.heard }, outcomes_on messages outcomes h.1)
  outcomes_on [] (x ∷ outcomes) h = h
  outcomes_on (m ∷ messages) [] h = h

  reason_on : (Kind : StepCall → Type 0) (n s : ℕ) (why : Reason) → HearsReason Old Kind n s why → HearsReason New Kind n s why
  reason_on Kind n s reason.Memory h = h
  reason_on Kind n s (reason.Corrupt damage) h = (h.0, step_on Kind n s (reply.Refused (reason.Corrupt damage)) h.1)
  reason_on Kind n s why h = (h.0, h.1, happens_on (event.Step n s h.0 (reply.Refused why)) h.2)

  refused_on : (Reached : Placement → ℕ → Type 0) (name : List ℕ) (s : ℕ) (Kind : StepCall → Type 0) (why : Reason) → HearsRefused past Old Reached name s Kind why → HearsRefused past New Reached name s Kind why
  refused_on Reached name s Kind why h = record { node = h.node; of_node = h.of_node; reached = h.reached; step = step_on Kind h.node s (reply.Refused why) h.step }

  status_on : (now version : ℕ) (replicas : List StatusLine) → HearsStatus past Old now version replicas → HearsStatus past New now version replicas
  status_on now version replicas h = record {
    rules = h.rules;
    clock = h.clock;
    now_is = h.now_is;
    place = h.place;
    last = h.last;
    version_is = h.version_is;
    each = λ line m. let both = h.each line m in let r = both.1 in (both.0, (r.0, r.1, r.2, happens_on (event.Step line.node line.shard call.Report (reply.Told r.0)) r.3));
  }

  -- what a turn hears it hears also where more happens
  pub hears_on : (a : Act) (b : Answer) → HearsBy start past Old p a b → HearsBy start past New p a b
  hears_on a (answer.Acks nodes) h = acks_on nodes h
  hears_on a (answer.Found series short) h = found_on short h
  hears_on a (answer.Consistency got needed reasons s) h = too_few_on got needed reasons s h
  hears_on a (answer.Outcomes outcomes) h = record { messages = h.messages; in_order = h.in_order; each = outcomes_on h.messages outcomes h.each }
  hears_on a (answer.Swept done failed) h = record { counted = λ x m. step_on (IsSweepCall a) x.0 x.1 (reply.Count x.2) (h.counted x m); refused = λ x m. reason_on (IsSweepCall a) x.0 x.1 x.2 (h.refused x m) }
  hears_on a (answer.Peers got needed reasons s) h = record {
    place = h.place;
    last = h.last;
    assignments = h.assignments;
    there = h.there;
    joining = h.joining;
    among = h.among;
    is_joining = h.is_joining;
    heard = λ x m. reason_on (IsStreamCall (h.joining).tenure) x.0 s x.1 (h.heard x m);
  }
  hears_on a (answer.Repaired shards) h = λ x m y k. reason_on IsRepairCall y.0 x.shard y.1 (h x m y k)
  hears_on a (answer.Status now replicas version) h = status_on now version replicas h
  hears_on (act.Init rf shards seed nodes) (answer.Placed place version) h = λ n s tenure given. let step = h n s tenure given in (step.0, step.1, step_on (IsBeginOf tenure) n s step.0 step.2)
  hears_on (act.Stop node) answer.Done h = λ n s slot. happens_on (event.Step n s call.Stop reply.Done) (h n s slot)
  hears_on (act.Restart node pick) answer.Done h = λ n s slot. happens_on (event.Step n s call.Restart reply.Done) (h n s slot)
  hears_on (act.Restart node pick) (answer.Disk name s) h = (h.0, refused_on AnySlot node s IsRestartCall reason.Disk h.1)
  hears_on (act.Bootstrap node only) (answer.Disk name s) h = (h.0, h.1, refused_on (IsMember s) node s IsJoinCall reason.Disk h.2)
  hears_on (act.Bootstrap node only) (answer.Corrupt name s damage) h = (h.0, h.1, h.2, refused_on (IsMember s) node s IsJoinCall (reason.Corrupt damage) h.3)
  hears_on (act.Bootstrap node only) (answer.Available available place version) h = (
    λ n s tenure slot given. let step = h.0 n s tenure slot given in (step.0, step.1, step_on (IsBeginOf tenure) n s step.0 step.2),
    λ x m q k. let fenced = h.1 x m q k in (fenced.0, happens_on (event.Step q x.0 (call.Fence fenced.0) reply.Done) fenced.1),
  )
  hears_on _ _ h = h
