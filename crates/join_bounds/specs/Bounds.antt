-- How many events a bootstrap adds at most where the disks tell.
use Rattle.std.specs.Prelude.{◌≤◌, ◌*◌, ◌+◌, ℕ, List, [], ◌∷◌, ◌++◌, length, Option, true}
use Rattle.m3_model.specs.declared.act.Act.TheVariants as act
use Rattle.m3_model.specs.declared.answer.Answer.{Answer}
use Rattle.m3_model.specs.declared.limits.TheConstants.{MOST_REQUEST_EVENTS}
use Rattle.m3_model.specs.declared.placement.Placement.{Placement}
use Rattle.m3_model.specs.declared.rules.MetaState.{MetaState}
use Rattle.m3_model.specs.declared.turn.Turn.{Turn}
use Rattle.placement_core.specs.Lawful.{IsLawful}
use Rattle.cluster_core.specs.Core.{AgreesWith, Opening}
use Rattle.cluster_core.specs.Legal.{Legal}
use Rattle.cluster_core.specs.declared.event.Event.{Event}
use Rattle.transcripts.specs.Left.{OpeningStands}
use Rattle.transcripts.specs.Record.{Record, line_of}
use Rattle.told_by.specs.Told.{ToldBy}
use Rattle.told_runs.specs.Bounds.{writes_taken}

-- In a legal list that tells of the turns, and whose replicas first begin with what earlier runs sent, a bootstrap that adds this adds no more events than a request may.
abbrev pub AreFew : (Placement → ℕ → Option ℕ → List ℕ → Answer → ℕ → List Event → List Event → Type 0) → Type 0
AreFew Adds =
    (past : List Record) (start : Option MetaState) (turns : List Turn) (events more : List Event) (opening : Opening)
    → Legal true (events ++ more) → AgreesWith (events ++ more) opening → OpeningStands past start opening → ToldBy start turns events
    → (place : Placement) → IsLawful place → (name : List ℕ) (only : Option ℕ) (y : ℕ) (b : Answer) (kept : ℕ) → Adds place y only name b kept events more
    → length more ≤ MOST_REQUEST_EVENTS * (writes_taken past (turns ++ line_of (act.Bootstrap name only) b ∷ []) + 1)
