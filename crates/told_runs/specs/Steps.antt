-- What is known of a run goes on by a line that makes a placement, and by one that is to make one and doesn't.
use Rattle.std.specs.Prelude.{◌≡◌, ◌<◌, ◌≤◌, ℕ, List, [], ◌∷◌, ◌++◌, length, Option, Some, Bool, true}
use Rattle.m3_model.specs.declared.act.Act.{Act}
use Rattle.m3_model.specs.declared.answer.Answer.{Answer}
use Rattle.m3_model.specs.declared.answer.Answer.TheVariants as answer
use Rattle.m3_model.specs.declared.limits.TheConstants.{MOST_REQUEST_EVENTS}
use Rattle.m3_model.specs.declared.placement.Placement.{Placement}
use Rattle.m3_model.specs.declared.rules.MetaState.{MetaState}
use Rattle.m3_model.specs.declared.turn.Request.{Request}
use Rattle.m3_model.specs.declared.turn.Turn.{Turn}
use Rattle.placement_core.specs.Lawful.{IsLawful}
use Rattle.placement_acts.specs.Acts.{LeadsNowhere, LeadsTo, is_step_act}
use Rattle.cluster_core.specs.Legal.{Legal}
use Rattle.cluster_core.specs.declared.event.Event.{Event}
use Rattle.transcripts.specs.Caused.{IsUnmadeIn, kept_after}
use Rattle.transcripts.specs.Deliveries.{LateMessage}
use Rattle.transcripts.specs.Faults.{Fault, Taking}
use Rattle.transcripts.specs.Placements.{placement_after, start_placement}
use Rattle.transcripts.specs.Record.{Record, TurnPosition, inner_turns, line_of}
use Rattle.told_by.specs.Lines.{position_after}
use Rattle.told_by.specs.Steps.{AddsStep}
use Rattle.told_runs.specs.Lines.{IsToldAndServed, delivered_on}

-- The act asks for a step from this placement, which stands after these lines.
pub record MeetsStep (start : Option MetaState) (turns : List Turn) (place : Placement) (a : Act) : Type 0 where
  pub is_step : is_step_act a ≡ true
  pub stands : placement_after (start_placement start) (inner_turns turns) ≡ Some place

-- The step leads to the placement, and the line adds no more than makes it.
pub record MakesStep (tells : Bool) (start : Option MetaState) (turns : List Turn) (events : List Event) (place : Placement) (a : Act) (next : Placement) (more : List Event) : Type 0 where
  pub opened : 0 < length events
  pub leads : LeadsTo (Some place) (kept_after start (inner_turns turns) place) a next
  pub lawful : IsLawful next
  pub adds : AddsStep next more
  pub few : length more ≤ MOST_REQUEST_EVENTS
  pub legal : Legal tells (events ++ more)

-- A run that is told and served stays so by the line that prints such a placement with its version.
abbrev pub StepsServe : Bool → Type 0
StepsServe tells =
    (past : List Record) (start : Option MetaState) (turns : List Turn) (unanswered later : Option Request) (events : List Event) (taking : List Fault) (was : TurnPosition → List LateMessage)
    → IsToldAndServed tells taking was past start turns unanswered events
    → (place : Placement) (a : Act) (next : Placement) (more : List Event) → MeetsStep start turns place a → MakesStep tells start turns events place a next more
    → IsToldAndServed tells taking (delivered_on turns was (λ p. [])) past start (turns ++ line_of a (answer.Placed next next.version) ∷ []) later (events ++ more)

-- And by one whose step leads nowhere, which adds nothing.
abbrev pub RefusedStepsServe : Bool → Type 0
RefusedStepsServe tells =
    (past : List Record) (start : Option MetaState) (turns : List Turn) (unanswered later : Option Request) (events : List Event) (taking : List Fault) (was : TurnPosition → List LateMessage)
    → IsToldAndServed tells taking was past start turns unanswered events
    → (place : Placement) (a : Act) (b : Answer) → MeetsStep start turns place a → LeadsNowhere (Some place) (kept_after start (inner_turns turns) place) a b
    → IsToldAndServed tells taking (delivered_on turns was (λ p. [])) past start (turns ++ line_of a b ∷ []) later events

-- the disk of the slot couldn't be taken in the line after these
abbrev pub untaken_after : List Turn → ℕ → ℕ → Fault
untaken_after turns node shard = record { line = length turns; node = node; shard = shard; kind = Taking }

-- And by one whose step leads to a placement, of a slot of which the disk couldn't be taken, which adds nothing.
abbrev pub UntakenStepsServe : Bool → Type 0
UntakenStepsServe tells =
    (past : List Record) (start : Option MetaState) (turns : List Turn) (unanswered later : Option Request) (events : List Event) (taking : List Fault) (was : TurnPosition → List LateMessage)
    → IsToldAndServed tells taking was past start turns unanswered events
    → (place : Placement) (a : Act) (next : Placement) (name : List ℕ) (node shard : ℕ) → MeetsStep start turns place a → LeadsTo (Some place) (kept_after start (inner_turns turns) place) a next
    → IsUnmadeIn (untaken_after turns node shard ∷ []) start (position_after turns a (answer.Disk name shard)) next name shard
    → IsToldAndServed tells (untaken_after turns node shard ∷ taking) (delivered_on turns was (λ p. [])) past start (turns ++ line_of a (answer.Disk name shard) ∷ []) later events
