-- What the turns before an act that makes a placement refuse it for.
use Rattle.std.proofs.Common.{◌≡◌, ◌∙◌, ℕ, Bool, true, false, List, Option, Some, None, refl, ap}
use Rattle.std.specs.Prelude.{cond, not, option_map}
use Rattle.std.specs.Option.{option_or}
use Rattle.m3_model.specs.declared.act.Act.{Act}
use Rattle.m3_model.specs.declared.act.Act.TheVariants as act
use Rattle.m3_model.specs.declared.answer.Answer.{Answer}
use Rattle.m3_model.specs.declared.answer.Answer.TheVariants as answer
use Rattle.m3_model.specs.declared.placement.Placement.{Placement}
use Rattle.m3_model.specs.declared.rules.MetaState.{MetaState}
use Rattle.m3_model.specs.declared.rules.Rules.{Rules}
use Rattle.placement_core.specs.NodeNames.{is_listed}
use Rattle.placement_acts.specs.Acts.{answer_if, is_step_act, names_due, refusal_due, versions_due}
use Rattle.placement_acts.proofs.ActLemmas.{by_step}
use Rattle.transcripts.specs.Caused.{kept_after, refusal_after, versions_after}
use Rattle.transcripts.specs.Fates.{is_stopped}
use Rattle.transcripts.specs.Placements.{placement_after, start_placement}
use Rattle.transcripts.specs.Record.{InnerTurn, TurnPosition, inner_turns}
use Rattle.transcripts.specs.Refusals.{kept_versions, refusal_by}
use Rattle.transcripts.specs.Rules.{rules_at}

end_none : (o : Option Answer) → option_or o None ≡ o
end_none None = refl
end_none (Some a) = refl

-- a name that isn't listed, and then the versions
unknown_agrees : (listed : Bool) (name : List ℕ) (versions : Option Answer) → option_or (option_map (λ n. answer.Unknown n) (cond listed None (Some name))) (option_or versions None) ≡ option_or (answer_if (not listed) (answer.Unknown name)) versions
unknown_agrees true name versions = end_none versions
unknown_agrees false name versions = refl

-- a name that is there, the names, and then the versions
names_agree : (order names versions : Option Answer) → option_or order (option_or (option_or names versions) None) ≡ option_or (option_or order names) versions
names_agree None None versions = end_none versions
names_agree None (Some a) versions = refl
names_agree (Some a) names versions = refl

both_agree : (order : Option Answer) (listed : Bool) (name : List ℕ) (names versions : Option Answer)
    → option_or order (option_or (option_map (λ n. answer.Unknown n) (cond listed None (Some name))) (option_or (option_or names versions) None)) ≡ option_or (option_or order (option_or (answer_if (not listed) (answer.Unknown name)) names)) versions
both_agree (Some a) listed name names versions = refl
both_agree None false name names versions = refl
both_agree None true name names versions = names_agree None names versions

-- what the turns before a step refuse it for is what its names and the limits refuse it for
pub refusals_agree : (place : Placement) (versions : List ℕ) (rules : Rules) (stopped : List ℕ → Bool) (a : Act) → is_step_act a ≡ true → refusal_by (Some place) versions rules stopped a ≡ refusal_due (Some place) (kept_versions (Some place) versions) a
refusals_agree place versions rules stopped =
    let kept = kept_versions (Some place) versions in
    by_step (λ a. refusal_by (Some place) versions rules stopped a ≡ refusal_due (Some place) kept a)
    (λ node group. names_agree (answer_if (is_listed node place) answer.Order) (names_due place node) (versions_due kept (act.Add node group)))
    (λ node. unknown_agrees (is_listed node place) node (versions_due kept (act.Drain node)))
    (λ node. unknown_agrees (is_listed node place) node (versions_due kept (act.Cancel node)))
    (λ node. unknown_agrees (is_listed node place) node (versions_due kept (act.Remove node)))
    (λ node by group. both_agree (answer_if (is_listed by place) answer.Order) (is_listed node place) node (names_due place by) (versions_due kept (act.Replace node by group)))

-- so it is with the turns before one that meets the placement
pub step_refusal : (start : Option MetaState) (p : TurnPosition) (turns : List InnerTurn) (place : Placement) → placement_after (start_placement start) turns ≡ Some place → is_step_act p.turn.act ≡ true
    → refusal_after start p turns ≡ refusal_due (Some place) (kept_after start turns place) p.turn.act
step_refusal start p turns place stands step =
    ap (λ (o : Option Placement). refusal_by o (versions_after start turns) (rules_at start p) (is_stopped (inner_turns p.lines)) p.turn.act) stands
    ∙ refusals_agree place (versions_after start turns) (rules_at start p) (is_stopped (inner_turns p.lines)) p.turn.act step
