-- Why a replica isn't begun: it waits for a bootstrap since the run opened, since it was assigned, or since its node was restarted.
use Rattle.std.specs.Prelude.{◌≡◌, ◌⊎◌, ◌≤◌, ◌<◌, ℕ, suc, ⊤, List, [], ◌∷◌, length, take, Option, Some, true, IsTrue, Bool}
use Rattle.m3_model.specs.declared.act.Act.{Act}
use Rattle.m3_model.specs.declared.act.Act.TheVariants as act
use Rattle.m3_model.specs.declared.placement.Placement.{Placement}
use Rattle.m3_model.specs.declared.reason.Reason.TheVariants as reason
use Rattle.m3_model.specs.declared.rules.MetaState.{MetaState}
use Rattle.m3_model.specs.declared.turn.Turn.{Turn}
use Rattle.cluster_core.specs.Earlier.{last_place}
use Rattle.cluster_core.specs.Legal.{Legal}
use Rattle.cluster_core.specs.Lists.{At}
use Rattle.cluster_core.specs.declared.event.Event.{Event}
use Rattle.cluster_core.specs.declared.event.Event.TheVariants as event
use Rattle.cluster_core.specs.declared.event.StepCall.{StepCall}
use Rattle.cluster_core.specs.declared.event.StepCall.TheVariants as call
use Rattle.cluster_core.specs.declared.event.StepReply.TheVariants as reply
use Rattle.transcripts.specs.Fates.{OfNode}
use Rattle.transcripts.specs.Placements.{has_replica, placement_after, printed, start_placement}
use Rattle.transcripts.specs.Record.{InnerTurn, TurnPosition, IsTurnPosition, inner_turns, lists_of}
use Rattle.transcripts.specs.Waiting.{WaitsForBoot, waits_at}
use Rattle.told_by.specs.Hears.{Happens, InStretch, IsNamedBy}
use Rattle.told_by.specs.Makes.{IsAssigned}
use Rattle.told_by.specs.Openings.{sets_seed}
use Rattle.told_by.specs.Spans.{IsWithin, Spans}
use Rattle.told_by.specs.Told.{ToldBy}
use Rattle.told_causes.specs.Standing.{IsHaltAct}

-- the act begins replicas
abbrev pub IsBootAct : Act → Type 0
IsBootAct (act.Bootstrap node asked) = ⊤
IsBootAct _ = ⊥

-- the line has one turn
abbrev pub HasOneTurn : List Turn → ℕ → Type 0
HasOneTurn turns k = (line : Turn) × (turn : InnerTurn) × At turns k line × (lists_of line ≡ (turn ∷ []) ∷ [])

-- each replica of the placement was one of the placement before, with the same tenure
abbrev pub GivesNone : List Event → Placement → Type 0
GivesNone past place = (last : Placement) → last_place past ≡ Some last → (n s tenure : ℕ) → IsAssigned place n s tenure → IsAssigned last n s tenure

-- a turn of this line prints the placement, and the position lies within its stretch
pub record IsPrintedIn (turns : List Turn) (spans : Spans) (k i : ℕ) (place : Placement) : Type 0 where
  pub printer : TurnPosition
  pub in_run : IsTurnPosition turns printer
  pub of_line : length printer.lines ≡ k
  pub within : IsWithin spans printer i
  pub prints : printed printer.turn.answer ≡ Some place

-- a line of one turn has one Place at most; in any other each Place is printed by a turn in whose stretch it stands, and gives nobody a shard
pub record ArePlacesInOrder (start : Option MetaState) (turns : List Turn) (events : List Event) (told : ToldBy start turns events) : Type 0 where
  pub alone : (k i : ℕ) (place : Placement) (done : List (ℕ × ℕ)) → k < length turns → HasOneTurn turns k → told.ends k ≤ i → i < told.ends (suc k) → At events i (event.Place place done) → last_place (take (told.ends (suc k)) events) ≡ Some place
  pub beside : (k i : ℕ) (place : Placement) (done : List (ℕ × ℕ)) → k < length turns → ¬ HasOneTurn turns k → told.ends k ≤ i → i < told.ends (suc k) → At events i (event.Place place done)
      → GivesNone (take i events) place × IsPrintedIn turns told.spans k i place

-- the turn begins replicas over this placement: a bootstrap over the one that stands, an `init` over the one that it prints
abbrev pub BeginsOver : List Event → ℕ → TurnPosition → Placement → Type 0
BeginsOver events from q place = (IsBootAct q.turn.act × (last_place (take from events) ≡ Some place)) ⊎ ((sets_seed q.turn.act q.turn.answer ≡ true) × (printed q.turn.answer ≡ Some place))

-- a turn that begins the slot with the tenure which its placement gives isn't refused as not owned
abbrev pub OwnsWhereBegun : (start : Option MetaState) (turns : List Turn) (events : List Event) → ToldBy start turns events → ℕ → ℕ → Type 0
OwnsWhereBegun start turns events told node shard =
    (q : TurnPosition) → IsTurnPosition turns q → (place : Placement) → BeginsOver events (told.spans.from q) q place → (tenure : ℕ) → IsAssigned place node shard tenure
    → (i : ℕ) → InStretch events (told.spans.from q) (told.spans.to q) i (event.Step node shard (call.Begin tenure) (reply.Refused reason.NotOwned)) → ⊥

-- each Place with the slot has its node by this name, and files that hold a higher tenure refuse no begin of it
pub record IsKnownSlot (start : Option MetaState) (turns : List Turn) (events : List Event) (told : ToldBy start turns events) (node shard : ℕ) (name : List ℕ) : Type 0 where
  pub everywhere : IsNamedBy events node name
  pub has_name : (i : ℕ) (place : Placement) (done : List (ℕ × ℕ)) → At events i (event.Place place done) → IsTrue (has_replica (Some place) shard node) → OfNode place node (λ own. own ≡ name)
  pub owned : OwnsWhereBegun start turns events told node shard

-- the slot's replica was a member before the turn's line, or before an earlier one
pub record WasMember (start : Option MetaState) (p : TurnPosition) (shard node : ℕ) : Type 0 where
  pub lines : ℕ
  pub not_later : lines ≤ length p.lines
  pub member : IsTrue (has_replica (placement_after (start_placement start) (inner_turns (take lines p.lines))) shard node)

-- what is known of a replica that is asked: Places are in order, its slot is known, and it was a member
pub record IsKnownMember (start : Option MetaState) (turns : List Turn) (events : List Event) (told : ToldBy start turns events) (p : TurnPosition) (shard node : ℕ) (name : List ℕ) : Type 0 where
  pub places : ArePlacesInOrder start turns events told
  pub slot : IsKnownSlot start turns events told node shard name
  pub was : WasMember start p shard node

-- Where a step of a turn that stops and restarts nothing is refused as not begun, its replica waits for a bootstrap.
abbrev pub BootHasCause : Bool → Type 0
BootHasCause tells =
    (start : Option MetaState) (turns : List Turn) (events : List Event) → Legal tells events → (told : ToldBy start turns events) → (p : TurnPosition) → IsTurnPosition turns p → ¬ IsHaltAct p.turn.act
    → (node shard : ℕ) (name : List ℕ) → IsKnownMember start turns events told p shard node name
    → (c : StepCall) → Happens (InStretch events (told.spans.from p) (told.spans.to p)) (event.Step node shard c (reply.Refused reason.Boot)) → waits_at (record { shard = shard; node = node; name = name }) start p ≡ true

-- So where the placement calls the node so, a transcript says why it isn't begun.
abbrev pub BootIsSaid : Type 0
BootIsSaid =
    (start : Option MetaState) (p : TurnPosition) (place : Placement) (node shard : ℕ) (name : List ℕ) → OfNode place node (λ own. own ≡ name) → waits_at (record { shard = shard; node = node; name = name }) start p ≡ true → WaitsForBoot start p place shard node
