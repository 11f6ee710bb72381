-- Where a legal list tells of a run, each of its answers is what it is for a cause.
use Rattle.std.specs.Prelude.{◌≡◌, ◌≢◌, ◌≤◌, ◌<◌, ◌++◌, ℕ, suc, List, [], length, take, Option, Some, true, false, Bool}
use Rattle.m3_model.specs.declared.placement.Placement.{Placement}
use Rattle.m3_model.specs.declared.reason.Reason.TheVariants as reason
use Rattle.m3_model.specs.declared.rules.MetaState.{MetaState}
use Rattle.m3_model.specs.declared.turn.Turn.{Turn}
use Rattle.placement_core.specs.Lawful.{IsLawful}
use Rattle.cluster_core.specs.Earlier.{last_place}
use Rattle.cluster_core.specs.Legal.{Legal}
use Rattle.cluster_core.specs.Lists.{At}
use Rattle.cluster_core.specs.Replicas.{replica}
use Rattle.cluster_core.specs.declared.event.Event.{Event}
use Rattle.cluster_core.specs.declared.event.Event.TheVariants as event
use Rattle.cluster_core.specs.declared.event.StepCall.TheVariants as call
use Rattle.cluster_core.specs.declared.event.StepReply.{StepReply}
use Rattle.cluster_core.specs.declared.event.StepReply.TheVariants as reply
use Rattle.transcripts.specs.Caused.{Caused}
use Rattle.transcripts.specs.Faults.{Fault}
use Rattle.transcripts.specs.Deliveries.{LateMessage}
use Rattle.transcripts.specs.Placements.{has_replica}
use Rattle.transcripts.specs.Joined.{Joined}
use Rattle.transcripts.specs.Record.{Life, TurnPosition}
use Rattle.told_by.specs.Told.{ToldBy}
use Rattle.told_causes.specs.Faults.{faults_told}
use Rattle.told_causes.specs.Standing.{HaltsAlone}
use Rattle.told_causes.specs.Boot.{GivesNone, HasOneTurn, IsPrintedIn}
use Rattle.told_moves.specs.Order.{OpensWithin}
use Rattle.told_runs.specs.Answers.{AreAnswered}
use Rattle.told_runs.specs.Bounds.{IsBounded}

-- files hold no tenure above the first with which a slot begins
abbrev pub OwnsFiles : List Event → Type 0
OwnsFiles events = (i node shard tenure : ℕ) → At events i (event.Step node shard (call.Begin tenure) (reply.Refused reason.NotOwned)) → (replica node shard (take i events)).begun ≢ []

-- ---- the order

-- How a cluster makes its list: a line of one turn has one Place at most, and in any other each Place is printed by a turn in whose stretch it stands; each Place is
-- a lawful placement; a tenure ends where the placement that stands has no replica of the slot.
pub record IsMadeInOrder (start : Option MetaState) (turns : List Turn) (events : List Event) (told : ToldBy start turns events) : Type 0 where
  pub alone : (k i : ℕ) (place : Placement) (done : List (ℕ × ℕ)) → k < length turns → HasOneTurn turns k → told.ends k ≤ i → i < told.ends (suc k) → At events i (event.Place place done) → last_place (take (told.ends (suc k)) events) ≡ Some place
  pub beside : (k i : ℕ) (place : Placement) (done : List (ℕ × ℕ)) → k < length turns → ¬ HasOneTurn turns k → told.ends k ≤ i → i < told.ends (suc k) → At events i (event.Place place done) → IsPrintedIn turns told.spans k i place
  pub lawful : (i : ℕ) (place : Placement) (done : List (ℕ × ℕ)) → At events i (event.Place place done) → IsLawful place
  pub ends : (i node shard : ℕ) (a : StepReply) → At events i (event.Step node shard call.End a) → (place : Placement) → last_place (take i events) ≡ Some place → has_replica (Some place) shard node ≡ false

-- ---- the run

-- What is known of a run beside that a legal list tells of it: its lines were served in order, stops and restarts alone in theirs; where the disks tell what
-- they hold, its files hold no more than earlier runs left; its answers, with the late messages that its turns deliver; and, where they tell, how many events a line adds at
-- most: a disk that doesn't tell may give a stream of pages without end.
pub record IsServedRun (tells : Bool) (taking : List Fault) (delivered : TurnPosition → List LateMessage) (life : Life) (events : List Event) (told : ToldBy life.present.start life.present.turns events) : Type 0 where
  pub order : IsMadeInOrder life.present.start life.present.turns events told
  pub halts : HaltsAlone life.present.turns
  pub opens : tells ≡ true → OpensWithin life.present.start events
  pub owned : tells ≡ true → OwnsFiles events
  pub answers : AreAnswered taking delivered life.present.start life.present.turns events told
  pub bound : tells ≡ true → IsBounded life.past life.present.turns told.ends

-- The life's present run is caused, as far as the disks tell, by the faults of disks that couldn't be taken, and those that its steps tell.
abbrev pub IsCausedWhereTold : Bool → Type 0
IsCausedWhereTold tells =
    (life : Life) (events : List Event) → Legal tells events → (told : ToldBy life.present.start life.present.turns events) → (taking : List Fault) (delivered : TurnPosition → List LateMessage)
    → IsServedRun tells taking delivered life events told
    → Caused tells life (taking ++ faults_told told.ends events (length life.present.turns))

-- And in a line where turns stand beside each other no Place gives a node a shard.
abbrev pub IsGivenAlone : Bool → Type 0
IsGivenAlone tells =
    (life : Life) (events : List Event) → Legal tells events → (told : ToldBy life.present.start life.present.turns events) → (taking : List Fault) (delivered : TurnPosition → List LateMessage)
    → IsServedRun tells taking delivered life events told
    → (k i : ℕ) (place : Placement) (done : List (ℕ × ℕ)) → k < length life.present.turns → ¬ HasOneTurn life.present.turns k → told.ends k ≤ i → i < told.ends (suc k) → At events i (event.Place place done) → GivesNone (take i events) place

-- And it is joined.
abbrev pub IsJoinedWhereTold : Bool → Type 0
IsJoinedWhereTold tells =
    (life : Life) (events : List Event) → Legal tells events → (told : ToldBy life.present.start life.present.turns events) → (taking : List Fault) (delivered : TurnPosition → List LateMessage)
    → IsServedRun tells taking delivered life events told → Joined life
