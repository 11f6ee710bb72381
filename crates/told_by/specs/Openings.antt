-- How a list begins.
use Rattle.std.specs.Prelude.{◌≡◌, ◌≤◌, ℕ, List, [], Option, Some, None, Bool, true, false}
use Rattle.transcripts.specs.Record.{TurnPosition}
use Rattle.transcripts.specs.Rules.{start_rules}
use Rattle.m3_model.specs.declared.act.Act.{Act}
use Rattle.m3_model.specs.declared.act.Act.TheVariants as act
use Rattle.m3_model.specs.declared.answer.Answer.{Answer}
use Rattle.m3_model.specs.declared.answer.Answer.TheVariants as answer
use Rattle.m3_model.specs.declared.placement.Placement.{Placement}
use Rattle.m3_model.specs.declared.rules.MetaState.{MetaState}
use Rattle.m3_model.specs.declared.turn.Turn.{Turn}
use Rattle.cluster_core.specs.Lists.{At}
use Rattle.cluster_core.specs.declared.event.Event.{Event}
use Rattle.cluster_core.specs.declared.event.Event.TheVariants as event
use Rattle.told_by.specs.Spans.{Spans, IsAlone}

-- with the placement and the rules that the run found
pub record IsOpenedBy (state : MetaState) (events : List Event) : Type 0 where
  pub placed : At events 0 (event.Place state.place [])
  pub clock : At events 1 (event.Clock state.rules)

-- how many events stand before all turns
abbrev pub opening_length : Option MetaState → ℕ
opening_length None = 0
opening_length (Some state) = 2

-- an `init` was answered ok, which sets the seed
abbrev pub sets_seed : Act → Answer → Bool
sets_seed (act.Init rf shards seed nodes) (answer.Placed placement version) = true
sets_seed _ _ = false

-- the `init` with whose placement the list begins, at moment 0 without namespaces, in a run that found nothing
pub record IsInitOf (start : Option MetaState) (turns : List Turn) (events : List Event) (spans : Spans) (p : TurnPosition) : Type 0 where
  pub found_nothing : start ≡ None
  pub alone : IsAlone turns p
  pub sets : sets_seed p.turn.act p.turn.answer ≡ true
  pub place : Placement
  pub version : ℕ
  pub answered : p.turn.answer ≡ answer.Placed place version
  pub placed : At events 0 (event.Place place [])
  pub clock : At events 1 (event.Clock (start_rules None))
  pub from_is : spans.from p ≡ 0
  pub to_above : 2 ≤ spans.to p

pub record TellsInit (start : Option MetaState) (turns : List Turn) (Here : TurnPosition → Type 0) (Mine : ℕ → Type 0) (events : List Event) (spans : Spans) : Type 0 where
  -- where the first event is theirs, an `init` among them made the first
  pub begun : Mine 0 → (e : Event) → At events 0 e → (p : TurnPosition) × Here p × IsInitOf start turns events spans p
  -- and no other is answered ok
  pub inits : (p : TurnPosition) → Here p → sets_seed p.turn.act p.turn.answer ≡ true → IsInitOf start turns events spans p
