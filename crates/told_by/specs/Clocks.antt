-- What a list tells of moments and namespaces: each line that sets them is a Clock, and each Clock past the opening is of such a line.
use Rattle.std.specs.Prelude.{◌≡◌, ◌≤◌, ℕ, List, Option, Bool, true, false}
use Rattle.transcripts.specs.Record.{TurnPosition}
use Rattle.transcripts.specs.Rules.{rules_by, rules_at}
use Rattle.m3_model.specs.declared.act.Act.{Act}
use Rattle.m3_model.specs.declared.act.Act.TheVariants as act
use Rattle.m3_model.specs.declared.answer.Answer.{Answer}
use Rattle.m3_model.specs.declared.answer.Answer.TheVariants as answer
use Rattle.m3_model.specs.declared.rules.MetaState.{MetaState}
use Rattle.m3_model.specs.declared.rules.Rules.{Rules}
use Rattle.m3_model.specs.declared.turn.Turn.{Turn}
use Rattle.cluster_core.specs.Lists.{At}
use Rattle.cluster_core.specs.declared.event.Event.{Event}
use Rattle.cluster_core.specs.declared.event.Event.TheVariants as event
use Rattle.told_by.specs.Spans.{IsAlone}

-- the moment or a namespace was set
abbrev pub sets_rules : Act → Answer → Bool
sets_rules (act.Now now) answer.Done = true
sets_rules (act.Namespace name block past future retention) answer.Done = true
sets_rules _ _ = false

-- the rules that the turn leaves
abbrev pub rules_left : Option MetaState → TurnPosition → Rules
rules_left start p = rules_by p.turn.act p.turn.answer (rules_at start p)

-- the turn has a Clock of its own, of the rules that it leaves
pub record HasClock (start : Option MetaState) (Mine : ℕ → Type 0) (events : List Event) (makers : ℕ → TurnPosition) (p : TurnPosition) : Type 0 where
  pub clock : ℕ
  pub there : At events clock (event.Clock (rules_left start p))
  pub mine : Mine clock
  pub past_opening : 2 ≤ clock
  pub own : makers clock ≡ p

-- the Clock is the turn's: alone in its line it set the rules
pub record IsClockOf (start : Option MetaState) (turns : List Turn) (p : TurnPosition) (rules : Rules) : Type 0 where
  pub alone : IsAlone turns p
  pub sets : sets_rules p.turn.act p.turn.answer ≡ true
  pub rules_are : rules ≡ rules_left start p

pub record TellsClocks (start : Option MetaState) (turns : List Turn) (Here : TurnPosition → Type 0) (Mine : ℕ → Type 0) (events : List Event) (makers : ℕ → TurnPosition) : Type 0 where
  pub set : (p : TurnPosition) → Here p → sets_rules p.turn.act p.turn.answer ≡ true → HasClock start Mine events makers p
  pub each_clock : (i : ℕ) (rules : Rules) → Mine i → 2 ≤ i → At events i (event.Clock rules) → IsClockOf start turns (makers i) rules
