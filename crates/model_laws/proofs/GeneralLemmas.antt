-- What a kept life says of one read.
use Rattle.std.proofs.Common.{◌≡◌, ◌≤◌, ℕ, ℤ, Bool, true, false, cond, List, ◌++◌, length, nat_le, refl, subst, ap, ◌∙◌, inl, inr, arith}
use Rattle.std.specs.Prelude.{Option, Some, None, option_map, ◌⊎◌}
use Rattle.std.specs.List.{flat_map, filter_map}
use Rattle.std.proofs.lemmas.Bool.Decides.{nat_tests}
use Rattle.std.proofs.lemmas.Option.{same_Some}
use Rattle.m3_model.specs.Members.{IsIn}
use Rattle.m3_model.specs.Levels.{majority}
use Rattle.transcripts.specs.Record.{Life, TurnPosition, acts_of, turns_before}
use Rattle.m3_model.specs.Rules.{namespace_position}
use Rattle.transcripts.specs.Rules.{rules_at}
use Rattle.transcripts.specs.Points.{point_of, was_sent, sent_point, sent_at, acked_point, acked_at, rf_at}
use Rattle.transcripts.specs.Kept.{Kept, KeepsPoints}
use Rattle.m3_model.specs.declared.point.Point.{Point}
use Rattle.m3_model.specs.declared.rules.Space.{Space}
use Rattle.m3_model.specs.declared.act.Act.{Act}
use Rattle.m3_model.specs.declared.act.Act.TheVariants as act
use Rattle.m3_model.specs.declared.act.WriteLevel.{WriteLevel}
use Rattle.m3_model.specs.declared.answer.Answer.TheVariants as answer
use Rattle.m3_model.proofs.MemberLemmas.{IsIn-append_cases, IsIn-filter_map, filter_map-IsIn}
use Rattle.model_laws.specs.General.{AnsweredRead, FindsAcknowledged, FindsOnlySent, Writes, EarlierWrite, FindsEarlierWrites, TurnWrites, LeftUnanswered, FindsOnlyWritten}
use Rattle.model_laws.proofs.PositionLemmas.{points_kept}

read_keeps : (life : Life) → Kept life → (r : AnsweredRead life) → KeepsPoints (rules_at life.present.start r.position) (acked_at life.past life.present.start r.position) (sent_at life.past life.present.start r.position) r.read r.found
read_keeps life kept r = points_kept life.past life.present.start r.position r.read r.found (kept r.position r.in_run) r.answered r.asked

pub finds_acknowledged : (life : Life) → Kept life → FindsAcknowledged life
finds_acknowledged life kept r = (read_keeps life kept r).acknowledged

pub finds_only_sent : (life : Life) → Kept life → FindsOnlySent life
finds_only_sent life kept r point here = ((read_keeps life kept r).nothing_else point here).0

-- a write that is known has its point
point_of-Writes : (spaces : List Space) (a : Act) (point : Point) → Writes spaces a point → point_of spaces a ≡ Some point
point_of-Writes spaces a point w =
    ap (point_of spaces) w.act_is ∙ ap (option_map (λ k. record { ns = k; id = point.id; t = point.t; v = point.v })) w.space_is

acked_point-taken : (rf : ℕ) (spaces : List Space) (a : Act) (taken : List ℕ) → majority rf ≤ length taken → acked_point rf spaces (record { act = a; answer = answer.Acks taken }) ≡ point_of spaces a
acked_point-taken rf spaces a taken enough =
    let test : nat_le (majority rf) (length taken) ≡ true = grind (arith, nat_tests) in
    ap (λ b. cond b (point_of spaces a) None) test

-- an earlier write that a majority took is acknowledged
acknowledged : (life : Life) (p : TurnPosition) (point : Point) → EarlierWrite life p point → IsIn (acked_at life.past life.present.start p) point
acknowledged life p point w =
    let rf = rf_at life.present.start p in
    let spaces = (rules_at life.present.start p).spaces in
    filter_map-IsIn (acked_point rf spaces) (turns_before life.past p) w.turn point w.before
    (ap (λ b. acked_point rf spaces (record { act = w.turn.act; answer = b })) w.answered ∙ acked_point-taken rf spaces w.turn.act w.taken w.by_majority ∙ point_of-Writes spaces w.turn.act point w.writes)

pub finds_earlier_writes : (life : Life) → Kept life → FindsEarlierWrites life
finds_earlier_writes life kept r strong point w = finds_acknowledged life kept r strong point (acknowledged life r.position point w)

-- the point of an act is written by it
writes_by : (spaces : List Space) (ns id : List ℕ) (t : ℕ) (v : ℤ) (level : WriteLevel) (version : Option ℕ) (point : Point) (o : Option ℕ) → namespace_position ns spaces ≡ o
    → option_map (λ k. record { ns = k; id = id; t = t; v = v }) o ≡ Some point → Writes spaces (act.Write ns id t v level version) point
writes_by spaces ns id t v level version point None at e = cc
writes_by spaces ns id t v level version point (Some k) at e =
    let made : Point = record { ns = k; id = id; t = t; v = v } in
    subst (λ x. Writes spaces (act.Write ns id t v level version) x) (same_Some made point e) (record { ns = ns; level = level; version = version; act_is = refl; space_is = at })

writes_of : (spaces : List Space) (a : Act) (point : Point) → point_of spaces a ≡ Some point → Writes spaces a point
writes_of spaces (act.Write ns id t v level version) point e = writes_by spaces ns id t v level version point (namespace_position ns spaces) refl e
writes_of spaces a point e = cc

sent_cases : (sent : Bool) (o : Option Point) (point : Point) → cond sent o None ≡ Some point → o ≡ Some point
sent_cases true o point e = e
sent_cases false o point e = cc

-- what was sent was written
written : (life : Life) (p : TurnPosition) (point : Point) → IsIn (sent_at life.past life.present.start p) point → TurnWrites life p point ⊎ LeftUnanswered life p point
written life p point h =
    let spaces = (rules_at life.present.start p).spaces in
    let turns = turns_before life.past p ++ p.beside in
    let acts = flat_map (λ run. acts_of run.unanswered) life.past in
    elim (IsIn-append_cases (filter_map (sent_point spaces) turns) (filter_map (point_of spaces) acts) point h) as (λ _. TurnWrites life p point ⊎ LeftUnanswered life p point) [
      | inl of_turn ↦ (
          let source = IsIn-filter_map (sent_point spaces) turns point of_turn in
          inl (record {
            turn = source.0;
            not_later = IsIn-append_cases (turns_before life.past p) p.beside source.0 source.1;
            writes = writes_of spaces source.0.act point (sent_cases (was_sent source.0.answer) (point_of spaces source.0.act) point source.2);
          }))
      | inr of_act ↦ (
          let source = IsIn-filter_map (point_of spaces) acts point of_act in
          inr (record { a = source.0; taken = source.1; writes = writes_of spaces source.0 point source.2 }))
    ]

pub finds_only_written : (life : Life) → Kept life → FindsOnlyWritten life
finds_only_written life kept r point here = written life r.position point (finds_only_sent life kept r point here)
