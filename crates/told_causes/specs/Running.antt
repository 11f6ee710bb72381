-- Whose replicas do as they are asked: nodes that aren't stopped.
use Rattle.std.specs.Prelude.{◌≡◌, ℕ, ⊤, List, Option, false, Bool}
use Rattle.m3_model.specs.declared.placement.Placement.{Placement}
use Rattle.m3_model.specs.declared.rules.MetaState.{MetaState}
use Rattle.m3_model.specs.declared.turn.Turn.{Turn}
use Rattle.cluster_core.specs.Legal.{Legal}
use Rattle.cluster_core.specs.declared.event.Event.{Event}
use Rattle.cluster_core.specs.declared.event.Event.TheVariants as event
use Rattle.cluster_core.specs.declared.event.StepCall.{StepCall}
use Rattle.cluster_core.specs.declared.event.StepCall.TheVariants as call
use Rattle.cluster_core.specs.declared.event.StepReply.{StepReply}
use Rattle.cluster_core.specs.declared.event.StepReply.TheVariants as reply
use Rattle.transcripts.specs.Fates.{OfNode, is_stopped}
use Rattle.transcripts.specs.Record.{TurnPosition, IsTurnPosition, inner_turns}
use Rattle.told_by.specs.Hears.{Happens, HasServed, InStretch, IsNamedBy}
use Rattle.told_by.specs.Told.{ToldBy}
use Rattle.told_causes.specs.Calls.{IsUsedBy, ServedAreNamed, Within}
use Rattle.told_causes.specs.Standing.{HaltsAlone}

-- the replica took a point, answered a read, was fenced, gave a page, or did its upkeep
abbrev pub Serves : StepCall → StepReply → Type 0
Serves (call.Put client number rules version point) reply.Done = ⊤
Serves (call.Read client number rules version pick from to) (reply.Found series) = ⊤
Serves (call.Fence version) reply.Done = ⊤
Serves (call.Page from) (reply.Paged page) = ⊤
Serves (call.Tick rules) (reply.Count n) = ⊤
Serves (call.Flush rules) (reply.Count n) = ⊤
Serves call.Snapshot (reply.Count n) = ⊤
Serves _ _ = ⊥

-- Where a replica serves within a turn's stretch, its node isn't stopped at that turn.
abbrev pub WhoServesRuns : Bool → Type 0
WhoServesRuns tells =
    (start : Option MetaState) (turns : List Turn) (events : List Event) → Legal tells events → (told : ToldBy start turns events) → HaltsAlone turns → (p : TurnPosition) → IsTurnPosition turns p → (node shard : ℕ) (name : List ℕ) → IsNamedBy events node name
    → (c : StepCall) (a : StepReply) → Serves c a → Happens (InStretch events (told.spans.from p) (told.spans.to p)) (event.Step node shard c a) → is_stopped (inner_turns p.lines) name ≡ false

-- So the nodes run whose replicas did as a call asks, where each has one name in all placements.
abbrev pub WhoServedRuns : Bool → Type 0
WhoServedRuns tells =
    (start : Option MetaState) (turns : List Turn) (events : List Event) → Legal tells events → (told : ToldBy start turns events) → HaltsAlone turns → (p : TurnPosition) → IsTurnPosition turns p → ServedAreNamed start events told.spans p
    → (place : Placement) → IsUsedBy start p place → (shard node : ℕ) → HasServed start (Within events told.spans p) p place shard node → OfNode place node (λ name. is_stopped (inner_turns p.lines) name ≡ false)
