-- The moment and the namespaces that a turn meets.
use Rattle.std.specs.Prelude.{[], ◌∷◌, ◌++◌, List, Option, Some, None, fold}
use Rattle.m3_model.specs.declared.rules.Rules.{Rules}
use Rattle.m3_model.specs.declared.rules.MetaState.{MetaState}
use Rattle.m3_model.specs.declared.act.Act.{Act}
use Rattle.m3_model.specs.declared.act.Act.TheVariants as act
use Rattle.m3_model.specs.declared.answer.Answer.{Answer}
use Rattle.m3_model.specs.declared.answer.Answer.TheVariants as answer
use Rattle.transcripts.specs.Record.{InnerTurn, TurnPosition, inner_turns}

-- a run without a saved state begins at moment 0 without namespaces
abbrev pub start_rules : Option MetaState → Rules
start_rules None = record { now = 0; spaces = [] }
start_rules (Some state) = state.rules

-- what an act with its answer leaves of the moment and the namespaces
abbrev pub rules_by : Act → Answer → Rules → Rules
rules_by (act.Now now) answer.Done rules = record rules { now = now }
rules_by (act.Namespace name block past future retention) answer.Done rules =
    record rules { spaces = rules.spaces ++ record { name = name; block = block; past = past; future = future; retention = retention } ∷ [] }
rules_by _ _ rules = rules

abbrev pub rules_after : Rules → List InnerTurn → Rules
rules_after rules turns = fold (λ r turn. rules_by turn.act turn.answer r) rules turns

-- the rules at a position of a run: its lists don't change them, so its own line doesn't count
abbrev pub rules_at : Option MetaState → TurnPosition → Rules
rules_at start p = rules_after (start_rules start) (inner_turns p.lines)
