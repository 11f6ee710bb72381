-- Why a replica's node doesn't own its shard, and why a replica is fenced: moves of the shard.
use Rattle.std.specs.Prelude.{◌≡◌, ◌⊎◌, ℕ, List, Option, None, true, Bool}
use Rattle.m3_model.specs.declared.placement.Placement.{Placement}
use Rattle.m3_model.specs.declared.reason.Reason.{Reason}
use Rattle.m3_model.specs.declared.reason.Reason.TheVariants as reason
use Rattle.m3_model.specs.declared.rules.MetaState.{MetaState}
use Rattle.m3_model.specs.declared.turn.Turn.{Turn}
use Rattle.cluster_core.specs.Legal.{Legal}
use Rattle.cluster_core.specs.Lists.{At}
use Rattle.cluster_core.specs.declared.event.Event.{Event}
use Rattle.cluster_core.specs.declared.event.Event.TheVariants as event
use Rattle.cluster_core.specs.declared.event.StepCall.{StepCall}
use Rattle.cluster_core.specs.declared.event.StepCall.TheVariants as call
use Rattle.cluster_core.specs.declared.event.StepReply.TheVariants as reply
use Rattle.transcripts.specs.Fates.{OfNode}
use Rattle.transcripts.specs.Moves.{IsFencedAbove, IsNew, IsUnowned, OwnsNot}
use Rattle.transcripts.specs.Placements.{printed}
use Rattle.transcripts.specs.Record.{TurnPosition, IsTurnPosition}
use Rattle.told_by.specs.Hears.{Happens, HasStep, InStretch, IsNamedBy, IsStreamCall}
use Rattle.told_by.specs.Told.{ToldBy}
use Rattle.told_causes.specs.Boot.{IsBootAct}
use Rattle.told_moves.specs.Order.{IsInOrder, OpensWithin}

-- a put or a read at this version
abbrev pub IsAtVersion : ℕ → StepCall → Type 0
IsAtVersion version (call.Put client number rules at_version point) = at_version ≡ version
IsAtVersion version (call.Read client number rules at_version pick from to) = at_version ≡ version
IsAtVersion version _ = ⊥

-- the placement is a Place of the list
pub record IsPlacedIn (events : List Event) (place : Placement) : Type 0 where
  pub place_at : ℕ
  pub done : List (ℕ × ℕ)
  pub there : At events place_at (event.Place place done)

-- a turn that is no bootstrap and prints no placement
pub record IsQuiet (p : TurnPosition) : Type 0 where
  pub begins_none : ¬ IsBootAct p.turn.act
  pub prints_none : printed p.turn.answer ≡ None

-- what a replica of the node refused so within the turn's stretch, to a put or a read at the version of a placement
pub record IsRefusedAt (start : Option MetaState) (turns : List Turn) (events : List Event) (told : ToldBy start turns events) (p : TurnPosition) (used : Placement) (shard node : ℕ) (why : Reason) : Type 0 where
  pub placed : IsPlacedIn events used
  pub name : List ℕ
  pub named : OfNode used node (λ own. own ≡ name)
  pub asked : StepCall
  pub at_version : IsAtVersion used.version asked
  pub refused : Happens (InStretch events (told.spans.from p) (told.spans.to p)) (event.Step node shard asked (reply.Refused why))

-- Where a put or a read is refused as not owned, the node has no replica of the shard any more, or not yet, or has it since a later version.
abbrev pub NotOwnedIsSaid : Bool → Type 0
NotOwnedIsSaid tells =
    (start : Option MetaState) (turns : List Turn) (events : List Event) → Legal tells events → (told : ToldBy start turns events) → IsInOrder start turns events told
    → (p : TurnPosition) → IsTurnPosition turns p → IsQuiet p → (used : Placement) (shard node : ℕ) → IsRefusedAt start turns events told p used shard node reason.NotOwned → IsUnowned tells start p used shard node

-- Where it is refused for a fence, a move of the shard fenced the replica above the version.
abbrev pub StaleIsSaid : Type 0
StaleIsSaid =
    (start : Option MetaState) (turns : List Turn) (events : List Event) → Legal true events → (told : ToldBy start turns events) → IsInOrder start turns events told → OpensWithin start events
    → (p : TurnPosition) → IsTurnPosition turns p → IsQuiet p → (used : Placement) (shard node fence : ℕ) → IsRefusedAt start turns events told p used shard node (reason.Stale fence) → IsFencedAbove start p used shard fence

-- Where a former replica refuses a fence or a page as not owned, its node has no replica of the shard any more, or not yet, or has it since a version above that of the
-- move; and so a transcript says of it by any placement that calls the node so.
abbrev pub StreamsAreOwned : Bool → Type 0
StreamsAreOwned tells =
    (start : Option MetaState) (turns : List Turn) (events : List Event) → Legal tells events → (told : ToldBy start turns events) → IsInOrder start turns events told
    → (p : TurnPosition) → IsTurnPosition turns p → printed p.turn.answer ≡ None → (place : Placement) (shard node version : ℕ) (name : List ℕ) → OfNode place node (λ own. own ≡ name) → IsNamedBy events node name
    → HasStep (InStretch events (told.spans.from p) (told.spans.to p)) (IsStreamCall version) node shard (reply.Refused reason.NotOwned)
    → OwnsNot start p shard node version ⊎ OfNode place node (λ own. IsNew tells (record { shard = shard; node = node; name = own }) start p)
