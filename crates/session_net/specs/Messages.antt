-- The messages of a call: what becomes of each, which events it brings, and what its node is heard to say.
use Rattle.std.specs.Prelude.{◌≡◌, ℕ, List, [], ◌∷◌, ◌++◌, Result, Err}
use Rattle.m3_model.specs.declared.act.Fate.{Fate}
use Rattle.m3_model.specs.declared.act.Fate.TheVariants as fate
use Rattle.m3_model.specs.declared.reason.Reason.{Reason}
use Rattle.m3_model.specs.declared.reason.Reason.TheVariants as reason
use Rattle.replica_calls.specs.cluster_core.declared.event.Event.{Event}
use Rattle.replica_calls.specs.cluster_core.declared.event.Event.TheVariants as event
use Rattle.replica_calls.specs.cluster_core.declared.event.StepCall.{StepCall}
use Rattle.replica_calls.specs.cluster_core.declared.event.StepReply.{StepReply}
use Rattle.net_plan.specs.Fates.{FateMap, fate_of}
use Rattle.replica_calls.specs.Steps.{reply_by}
use Rattle.replica_calls.specs.Exchanges.{ask_of}
use Rattle.replica_calls.specs.CallId.{CallId}

-- what becomes of the message of the call to the node
abbrev pub fate_to : FateMap → CallId → ℕ → Fate
fate_to fates call node = fate_of fates (record { client = call.client; call = call.number; node = node })

-- a replica is asked, and answers so
abbrev pub exchange : ℕ → ℕ → StepCall → StepReply → List Event
exchange n s c a = ask_of n s c ∷ event.Step n s c a ∷ []

-- one delivery of a message: the replica is asked and says so
abbrev pub IsDelivery : {X : Type 0} → (X → StepReply) → ℕ → ℕ → StepCall → Result X Reason → List Event → Type 0
IsDelivery ok n s c said events = events ≡ exchange n s c (reply_by ok said)

-- two deliveries, of which the first is heard
pub record AreTwo {X : Type 0} (ok : X → StepReply) (n s : ℕ) (c : StepCall) (said : Result X Reason) (events : List Event) : Type 0 where
  pub heard : List Event
  pub first : IsDelivery ok n s c said heard
  pub again : Result X Reason
  pub unheard : List Event
  pub second : IsDelivery ok n s c again unheard
  pub are : events ≡ heard ++ unheard

-- the events that a message of this fate brings, and what its node is heard to say: one that is lost or late brings none, and its node is cut off
abbrev pub IsHeard : {X : Type 0} → (X → StepReply) → Fate → ℕ → ℕ → StepCall → Result X Reason → List Event → Type 0
IsHeard ok fate.Lose n s c said events = (said ≡ Err reason.Cut) × (events ≡ [])
IsHeard ok fate.Late n s c said events = (said ≡ Err reason.Cut) × (events ≡ [])
IsHeard ok fate.Deliver n s c said events = IsDelivery ok n s c said events
IsHeard ok fate.Twice n s c said events = AreTwo ok n s c said events

-- A node with what it was heard to say.
abbrev pub Heard : Type 0 → Type 0
Heard X = ℕ × Result X Reason

-- the messages of a call to these nodes, one after the other, with what each is heard to say
abbrev pub AreHeard : {X : Type 0} → (X → StepReply) → FateMap → CallId → ℕ → StepCall → List ℕ → List (Heard X) → List Event → Type 0
AreHeard ok fates call s c [] [] events = events ≡ []
AreHeard ok fates call s c (n ∷ nodes) (x ∷ heard) events =
    (x.0 ≡ n) × (first rest : List Event) × (events ≡ first ++ rest) × IsHeard ok (fate_to fates call n) n s c x.1 first × AreHeard ok fates call s c nodes heard rest
AreHeard ok fates call s c _ _ events = ⊥
