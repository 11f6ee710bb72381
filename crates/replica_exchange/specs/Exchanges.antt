-- What a call of a replica adds to the list of events.
use Rattle.std.specs.Prelude.{◌≡◌, ℕ, List, [], ◌∷◌, ◌++◌, length, Bool, true, false, cond}
use Rattle.replica_machine.specs.cluster_core.declared.event.Asked.TheVariants as asked
use Rattle.replica_machine.specs.cluster_core.declared.event.Event.{Event}
use Rattle.replica_machine.specs.cluster_core.declared.event.Event.TheVariants as event
use Rattle.replica_machine.specs.cluster_core.declared.event.StepCall.{StepCall}
use Rattle.replica_machine.specs.cluster_core.declared.event.StepReply.{StepReply}

abbrev pub ask_of : ℕ → ℕ → StepCall → Event
ask_of n s c = event.Ask (asked.Step n s c)

-- the events that callers make; replicas make their steps, and the placement makes Places and Clocks
abbrev pub is_callers : Event → Bool
is_callers (event.Step n s c a) = false
is_callers (event.Place placement done) = false
is_callers (event.Clock rules) = false
is_callers _ = true

abbrev pub own_events : List Event → List Event
own_events [] = []
own_events (e ∷ events) = cond (is_callers e) (e ∷ own_events events) (own_events events)

-- what a caller has seen: the list so far, and of it what it made itself
pub record Seen : Type 0 where
  pub events : List Event
  pub own : List Event

-- where there is one caller, it sees the whole list, and made all that callers make
abbrev pub seen_in : List Event → Seen
seen_in events = record { events = events; own = own_events events }

-- where there is one caller, nobody else adds to the list during a call
abbrev pub IsNothing : List Event → Type 0
IsNothing events = events ≡ []

-- An Ask and the step that answers it stand past all that the caller had seen, the step last. What others added before it and between them is as it may be.
-- To what the caller made itself the Ask alone was added.
pub record HasExchanged (MayCome : List Event → Type 0) (n s : ℕ) (c : StepCall) (a : StepReply) (old new : Seen) : Type 0 where
  pub before : List Event
  pub between : List Event
  pub may_before : MayCome before
  pub may_between : MayCome between
  pub after : new ≡ record { events = (((old.events ++ before) ++ ask_of n s c ∷ []) ++ between) ++ event.Step n s c a ∷ []; own = old.own ++ ask_of n s c ∷ [] }

-- the same of a step that nobody asks for
pub record HasStepped (MayCome : List Event → Type 0) (n s : ℕ) (c : StepCall) (a : StepReply) (old new : Seen) : Type 0 where
  pub before : List Event
  pub may_before : MayCome before
  pub after : new ≡ record old { events = (old.events ++ before) ++ event.Step n s c a ∷ [] }

-- the same of an event that a caller adds itself, or the placement, at this position
pub record HasAdded (MayCome : List Event → Type 0) (e : Event) (position : ℕ) (old new : Seen) : Type 0 where
  pub before : List Event
  pub may_before : MayCome before
  pub position_is : position ≡ length (old.events ++ before)
  pub after : new ≡ record { events = (old.events ++ before) ++ e ∷ []; own = old.own ++ own_events (e ∷ []) }
