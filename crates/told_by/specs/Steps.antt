-- What a line adds that makes a placement, or is refused.
use Rattle.std.specs.Prelude.{◌≡◌, ◌<◌, ⊤, List, [], ◌∷◌, ◌++◌, length, Option, Some, false, true, Bool}
use Rattle.m3_model.specs.Members.{IsIn}
use Rattle.m3_model.specs.declared.act.Act.{Act}
use Rattle.m3_model.specs.declared.answer.Answer.{Answer}
use Rattle.m3_model.specs.declared.answer.Answer.TheVariants as answer
use Rattle.m3_model.specs.declared.placement.Placement.{Placement}
use Rattle.m3_model.specs.declared.rules.MetaState.{MetaState}
use Rattle.m3_model.specs.declared.turn.Turn.{Turn}
use Rattle.cluster_core.specs.Legal.{Legal}
use Rattle.cluster_core.specs.declared.event.Asked.TheVariants as asked
use Rattle.cluster_core.specs.declared.event.Event.{Event}
use Rattle.cluster_core.specs.declared.event.Event.TheVariants as event
use Rattle.cluster_core.specs.declared.event.StepCall.TheVariants as call
use Rattle.placement_acts.specs.Acts.{is_step_act}
use Rattle.transcripts.specs.Placements.{has_replica}
use Rattle.told_by.specs.Lines.{PlainLine}
use Rattle.told_by.specs.Told.{ToldBy}

-- an Ask for the end of a tenure, or its End, at a slot of which the placement has no replica
abbrev pub EndsGone : Placement → Event → Type 0
EndsGone next (event.Ask (asked.Step n s call.End)) = has_replica (Some next) s n ≡ false
EndsGone next (event.Step n s call.End a) = has_replica (Some next) s n ≡ false
EndsGone next _ = ⊥

-- a placement is asked for and made, which ends no move; then tenures end of replicas that it takes away
pub record AddsStep (next : Placement) (more : List Event) : Type 0 where
  pub ends : List Event
  pub gone : (e : Event) → IsIn ends e → EndsGone next e
  pub adds : more ≡ event.Ask (asked.Place next []) ∷ event.Place next [] ∷ ends

-- What a line adds so that makes the placement, and prints it with its version, is what tells of a line that neither writes nor reads.
abbrev pub StepsTell : Bool → Type 0
StepsTell tells =
    (start : Option MetaState) (turns : List Turn) (events : List Event) (a : Act) (next : Placement) (more : List Event) → is_step_act a ≡ true → 0 < length events → Legal tells (events ++ more) → ToldBy start turns events
    → AddsStep next more → PlainLine start turns events a (answer.Placed next next.version) more

-- an answer to a line that makes no placement: a refusal, or want of memory or of room
abbrev pub IsUnmoved : Answer → Type 0
IsUnmoved answer.Order = ⊤
IsUnmoved (answer.Unknown name) = ⊤
IsUnmoved (answer.Limit limit) = ⊤
IsUnmoved (answer.Busy name shard) = ⊤
IsUnmoved (answer.Group shard) = ⊤
IsUnmoved (answer.Disk name shard) = ⊤
IsUnmoved answer.Memory = ⊤
IsUnmoved answer.Full = ⊤
IsUnmoved _ = ⊥

-- So is nothing, where it makes none.
abbrev pub UnmovedTell : Type 0
UnmovedTell = (start : Option MetaState) (turns : List Turn) (events : List Event) (a : Act) (b : Answer) → is_step_act a ≡ true → IsUnmoved b → PlainLine start turns events a b []
