-- Lines that make a placement: each answers what the planning rules lead to.
use Rattle.std.specs.Prelude.{◌≡◌, ◌⊎◌, ℕ, List, Option, ◌∷◌, ◌++◌, Some, Bool, true}
use Rattle.m3_model.specs.Limits.{MeetsLimits}
use Rattle.m3_model.specs.declared.act.Act.{Act}
use Rattle.m3_model.specs.declared.answer.Answer.{Answer}
use Rattle.m3_model.specs.declared.answer.Answer.TheVariants as answer
use Rattle.m3_model.specs.declared.placement.Placement.{Placement}
use Rattle.m3_model.specs.declared.rules.MetaState.{MetaState}
use Rattle.m3_model.specs.declared.rules.Rules.{Rules}
use Rattle.m3_model.specs.declared.turn.Turn.{Turn}
use Rattle.placement_core.specs.Lawful.{IsLawful}
use Rattle.placement_acts.specs.Acts.{IsRefused, LeadsTo, is_step_act, refusal_due}
use Rattle.transcripts.specs.Caused.{Caused, IsUnmadeIn, kept_after}
use Rattle.transcripts.specs.Faults.{Fault}
use Rattle.transcripts.specs.Placements.{placement_after, start_placement}
use Rattle.transcripts.specs.Record.{Life, TurnPosition, inner_turns}
use Rattle.transcripts.specs.Refusals.{kept_versions, refusal_by}
use Rattle.model_laws.specs.Building.{line, position_after}

-- In a life that is caused a line of this act is answered so, over this lawful placement, behind these lines.
pub record StepLine (tells : Bool) (life : Life) (faults : List Fault) (lines : List Turn) (place : Placement) (a : Act) (b : Answer) : Type 0 where
  pub caused : Caused tells life faults
  pub after : List Turn
  pub in_run : life.present.turns ≡ lines ++ line a b ∷ after
  pub stands : placement_after (start_placement life.present.start) (inner_turns lines) ≡ Some place
  pub lawful : IsLawful place
  pub is_step : is_step_act a ≡ true
  pub limits : MeetsLimits a

-- memory was wanted, or room for events
abbrev pub IsFree : Answer → Type 0
IsFree b = (b ≡ answer.Memory) ⊎ (b ≡ answer.Full)

-- of a slot of the next placement the disk couldn't be taken
abbrev pub NamesSlotOf : List Fault → Option MetaState → TurnPosition → Placement → Answer → Type 0
NamesSlotOf faults start p next (answer.Disk name shard) = IsUnmadeIn faults start p next name shard
NamesSlotOf faults start p next _ = ⊥

-- Where the line leads to a placement the answer prints it with its version, or names one of its slots.
abbrev pub LedIsPrinted : Bool → Type 0
LedIsPrinted tells =
    (life : Life) (faults : List Fault) (lines : List Turn) (place : Placement) (a : Act) (b : Answer) → StepLine tells life faults lines place a b
    → (next : Placement) → LeadsTo (Some place) (kept_after life.present.start (inner_turns lines) place) a next → IsFree b ⊎ ((b ≡ answer.Placed next next.version) ⊎ NamesSlotOf faults life.present.start (position_after lines a b) next b)

-- Where it is refused the answer is this very refusal.
abbrev pub RefusedIsAnswered : Bool → Type 0
RefusedIsAnswered tells =
    (life : Life) (faults : List Fault) (lines : List Turn) (place : Placement) (a : Act) (b : Answer) → StepLine tells life faults lines place a b
    → (refusal : Answer) → IsRefused (Some place) (kept_after life.present.start (inner_turns lines) place) a refusal → IsFree b ⊎ (b ≡ refusal)

-- what the turns before a step refuse it for is what names and limits refuse it for
abbrev pub RefusalsAgree : Type 0
RefusalsAgree =
    (place : Placement) (versions : List ℕ) (rules : Rules) (stopped : List ℕ → Bool) (a : Act) → is_step_act a ≡ true → refusal_by (Some place) versions rules stopped a ≡ refusal_due (Some place) (kept_versions (Some place) versions) a
