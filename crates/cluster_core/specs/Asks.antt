-- Asks: a step, a placement or a clock is asked for before it is done, each time anew.
use Rattle.std.specs.Prelude.{◌≡◌, ◌<◌, ◌≤◌, ℕ, ⊤, List, length}
use Rattle.m3_model.specs.Members.{IsIn}
use Rattle.cluster_core.specs.Lists.{At, IsDistinct}
use Rattle.cluster_core.specs.declared.event.Asked.{Asked}
use Rattle.cluster_core.specs.declared.event.Asked.TheVariants as asked
use Rattle.cluster_core.specs.declared.event.Event.{Event}
use Rattle.cluster_core.specs.declared.event.Event.TheVariants as event
use Rattle.cluster_core.specs.declared.event.StepCall.TheVariants as call

-- the event is what was asked for: a step by its replica and its call, whatever was answered
abbrev pub MatchesAsked : Asked → Event → Type 0
MatchesAsked (asked.Step n s c) (event.Step node shard made reply) = (node ≡ n) × (shard ≡ s) × (made ≡ c)
MatchesAsked (asked.Place place done) (event.Place placed ended) = (placed ≡ place) × (ended ≡ done)
MatchesAsked (asked.Clock rules) (event.Clock ruled) = ruled ≡ rules
MatchesAsked _ _ = ⊥

-- an Ask for the event
abbrev pub IsAskFor : Event → Event → Type 0
IsAskFor e (event.Ask asked) = MatchesAsked asked e
IsAskFor e _ = ⊥

-- another event that the Asks for the event ask for, too
abbrev pub IsLike : Event → Event → Type 0
IsLike (event.Step n s c a) (event.Step node shard made reply) = (node ≡ n) × (shard ≡ s) × (made ≡ c)
IsLike (event.Place place done) (event.Place placed ended) = (placed ≡ place) × (ended ≡ done)
IsLike (event.Clock rules) (event.Clock ruled) = ruled ≡ rules
IsLike _ _ = ⊥

-- more Asks for the event stand earlier than events like it, the first two events apart; both by their positions
pub record WasAsked (past : List Event) (e : Event) : Type 0 where
  pub asks : List ℕ
  pub answered : List ℕ
  pub distinct : IsDistinct asks
  pub are_asks : (i : ℕ) → IsIn asks i → (ask : Event) × At past i ask × IsAskFor e ask
  pub are_all : (i : ℕ) (other : Event) → 2 ≤ i → At past i other → IsLike e other → IsIn answered i
  pub more : length answered < length asks

-- each step but a report was asked for
abbrev pub StepWasAsked : List Event → Event → Type 0
StepWasAsked past (event.Step n s call.Report a) = ⊤
StepWasAsked past e = WasAsked past e
