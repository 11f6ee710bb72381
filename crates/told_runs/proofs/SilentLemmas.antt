-- Calls print no placement, whatever they are answered.
use Rattle.std.proofs.Common.{◌≡◌, ℕ, Bool, true, false, List, refl, sym, ap, ◌∙◌, inl, inr}
use Rattle.std.specs.Prelude.{Some, None, Option, option_map, not, ◌&&◌, nat_le, length}
use Rattle.std.specs.Option.{option_or}
use Rattle.std.proofs.lemmas.Option.{same_Some}
use Rattle.m3_model.specs.Calls.{is_call}
use Rattle.m3_model.specs.declared.act.Act.{Act}
use Rattle.m3_model.specs.declared.act.Act.TheVariants as act
use Rattle.m3_model.specs.declared.answer.Answer.{Answer}
use Rattle.m3_model.specs.declared.answer.Answer.TheVariants as answer
use Rattle.m3_model.specs.declared.limits.TheConstants.{MOST_NODES, MOST_VERSIONS}
use Rattle.m3_model.specs.declared.placement.Placement.{Placement}
use Rattle.m3_model.specs.declared.rules.MetaState.{MetaState}
use Rattle.m3_model.specs.declared.rules.Rules.{Rules}
use Rattle.m3_model.specs.declared.rules.Space.{Space}
use Rattle.transcripts.specs.Caused.{refusal_after}
use Rattle.transcripts.specs.Faults.{Fault}
use Rattle.transcripts.specs.Placements.{printed}
use Rattle.transcripts.specs.Record.{TurnPosition}
use Rattle.placement_acts.specs.Acts.{answer_if, is_known, is_step_act, versions_due}
use Rattle.transcripts.specs.Refusals.{is_out_of_order, kept_versions, limit_reached, lowered_moment, missing_name, names_reached, refusal_by, wrong_state}
use Rattle.told_causes.proofs.RefusalLemmas.{or_cases}
use Rattle.told_runs.specs.Answers.{IsAnswered, IsDecidedBy, IsOfKind}

if_silent : (b : Bool) (own r : Answer) → printed own ≡ None → answer_if b own ≡ Some r → printed r ≡ None
if_silent true own r silent e = ap printed (sym (same_Some own r e)) ∙ silent
if_silent false own r silent e = cc

unknown_silent : (o : Option (List ℕ)) (r : Answer) → option_map (λ name. answer.Unknown name) o ≡ Some r → printed r ≡ None
unknown_silent None r e = cc
unknown_silent (Some name) r e = ap printed (sym (same_Some (answer.Unknown name) r e))

names_silent : (place : Option Placement) (name : List ℕ) (r : Answer) → names_reached place name ≡ Some r → printed r ≡ None
names_silent None name r e = cc
names_silent (Some place) name r e = if_silent (not (is_known name place) && nat_le MOST_NODES (length place.instances)) (answer.Limit MOST_NODES) r refl e

versions_silent : (kept : ℕ) (a : Act) (r : Answer) → versions_due kept a ≡ Some r → printed r ≡ None
versions_silent kept a r e = if_silent (is_step_act a && nat_le MOST_VERSIONS kept) (answer.Limit MOST_VERSIONS) r refl e

-- a limit of names comes before that of versions
both_silent : (place : Option Placement) (name : List ℕ) (kept : ℕ) (a : Act) (r : Answer) → option_or (names_reached place name) (versions_due kept a) ≡ Some r → printed r ≡ None
both_silent place name kept a r e = elim (or_cases (names_reached place name) (versions_due kept a) r e) as (λ _. printed r ≡ None) [ inl names ↦ names_silent place name r names | inr versions ↦ versions_silent kept a r versions ]

limit_silent : (place : Option Placement) (versions : List ℕ) (spaces : List Space) (a : Act) (r : Answer) → limit_reached place versions spaces a ≡ Some r → printed r ≡ None
limit_silent place versions spaces (act.Namespace name block past future retention) r e = if_silent _ _ r refl e
limit_silent place versions spaces (act.Add node group) r e = both_silent place node (kept_versions place versions) (act.Add node group) r e
limit_silent place versions spaces (act.Replace node by group) r e = both_silent place by (kept_versions place versions) (act.Replace node by group) r e
limit_silent place versions spaces a r e = versions_silent (kept_versions place versions) a r e

moment_silent : (moment : ℕ) (a : Act) (r : Answer) → lowered_moment moment a ≡ Some r → printed r ≡ None
moment_silent moment (act.Now now) r e = if_silent _ _ r refl e
moment_silent moment _ r e = cc

state_silent : (stopped : List ℕ → Bool) (a : Act) (r : Answer) → wrong_state stopped a ≡ Some r → printed r ≡ None
state_silent stopped (act.Stop node) r e = if_silent _ _ r refl e
state_silent stopped (act.Bootstrap node shard) r e = if_silent _ _ r refl e
state_silent stopped (act.Restart node pick) r e = if_silent _ _ r refl e
state_silent stopped _ r e = cc

-- a refusal that is due prints no placement
pub refusal_silent : (place : Option Placement) (versions : List ℕ) (rules : Rules) (stopped : List ℕ → Bool) (a : Act) (r : Answer) → refusal_by place versions rules stopped a ≡ Some r → printed r ≡ None
refusal_silent place versions rules stopped a r e =
    let order = answer_if (is_out_of_order place rules.spaces a) answer.Order in
    let name = option_map (λ n. answer.Unknown n) (missing_name place versions rules.spaces a) in
    let last = option_or (lowered_moment rules.now a) (wrong_state stopped a) in
    elim (or_cases order (option_or name (option_or (limit_reached place versions rules.spaces a) last)) r e) as (λ _. printed r ≡ None) [
      | inl is ↦ if_silent (is_out_of_order place rules.spaces a) answer.Order r refl is
      | inr rest ↦ elim (or_cases name (option_or (limit_reached place versions rules.spaces a) last) r rest) as (λ _. printed r ≡ None) [
        | inl is ↦ unknown_silent (missing_name place versions rules.spaces a) r is
        | inr other ↦ elim (or_cases (limit_reached place versions rules.spaces a) last r other) as (λ _. printed r ≡ None) [
          | inl is ↦ limit_silent place versions rules.spaces a r is
          | inr end ↦ elim (or_cases (lowered_moment rules.now a) (wrong_state stopped a) r end) as (λ _. printed r ≡ None) [ inl is ↦ moment_silent rules.now a r is | inr is ↦ state_silent stopped a r is ]
        ]
      ]
    ]

module _ (taking : List Fault) (start : Option MetaState) (p : TurnPosition) where
  by_kind : (a : Act) (b : Answer) → is_call a ≡ true → IsOfKind taking start p a b → printed b ≡ None
  by_kind (act.Write ns id t v level version) (answer.Acks nodes) calls kind = refl
  by_kind (act.Write ns id t v level version) (answer.Consistency got needed reasons shard) calls kind = refl
  by_kind (act.Fetch ns id from to level version) (answer.Found series short) calls kind = refl
  by_kind (act.Fetch ns id from to level version) (answer.Consistency got needed reasons shard) calls kind = refl
  by_kind (act.Match ns wanted from to level version) (answer.Found series short) calls kind = refl
  by_kind (act.Match ns wanted from to level version) (answer.Consistency got needed reasons shard) calls kind = refl
  by_kind (act.Init rf shards seed nodes) b calls kind = cc
  by_kind (act.Bootstrap node asked) b calls kind = cc
  by_kind (act.Namespace name block past future retention) b calls kind = cc
  by_kind (act.Now now) b calls kind = cc
  by_kind (act.Fates list) b calls kind = cc
  by_kind act.Deliver b calls kind = cc
  by_kind (act.Stop node) b calls kind = cc
  by_kind (act.Restart node pick) b calls kind = cc
  by_kind (act.Add node group) b calls kind = cc
  by_kind (act.Drain node) b calls kind = cc
  by_kind (act.Cancel node) b calls kind = cc
  by_kind (act.Remove node) b calls kind = cc
  by_kind (act.Replace node by group) b calls kind = cc
  by_kind act.Tick b calls kind = cc
  by_kind act.Flush b calls kind = cc
  by_kind act.Snapshot b calls kind = cc
  by_kind act.Status b calls kind = cc
  by_kind _ _ calls kind = absurd kind

  by_refusal : (o : Option Answer) → ((r : Answer) → o ≡ Some r → printed r ≡ None) → is_call p.turn.act ≡ true → IsDecidedBy taking start p o → printed p.turn.answer ≡ None
  by_refusal (Some r) silent calls e = ap printed e ∙ silent r refl
  by_refusal None silent calls kind = by_kind p.turn.act p.turn.answer calls kind

  pub call_silent : (end : ℕ) → is_call p.turn.act ≡ true → IsAnswered taking start end p → printed p.turn.answer ≡ None
  call_silent end calls (inl memory) = ap printed memory
  call_silent end calls (inr (inl full)) = ap printed full.0
  call_silent end calls (inr (inr decided)) = by_refusal (refusal_after start p decided.0) (λ r e. refusal_silent _ _ _ _ p.turn.act r e) calls decided.2
