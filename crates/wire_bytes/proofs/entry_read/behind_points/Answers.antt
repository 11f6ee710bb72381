use Rattle.std.proofs.Common.{◌≡◌, ℕ, suc, ◌+◌, ◌-◌, [], ◌∷◌, ◌++◌, refl, subst, ◌∙◌, arith}
use Rattle.std.proofs.lemmas.List.{length_push}
use Rattle.m3_model.specs.declared.point.Point.{Point}
use Rattle.wire_bytes.specs.Fields.{IsFault}
use Rattle.wire_bytes.specs.Bodies.{SomePoints}
use Rattle.wire_bytes.proofs.PointLemmas.{exit_err}
use Rattle.wire_bytes.proofs.EntryLemmas.{first_point_fault, later_point_fault, stands_more, stands_none}
use Rattle.wire_bytes.proofs.entry_read.behind_points.Goals as goal

pub loop-i-init : goal.loop-i-init
loop-i-init c =
    let all : c.args.count - 0 ≡ c.args.count = omega arith in
    record {
      faults = λ e a. subst (λ (n : ℕ). IsFault (SomePoints n) c.args.bytes.now c.args.from e) all a;
      points = ([], refl, stands_none c.args.bytes.now c.args.from c.requires);
    }

pub returns-in_err-offset-clause-err : goal.returns-in_err-offset-clause-err
returns-in_err-offset-clause-err c =
    let left : suc (c.args.count - c.loop-i._i - 1) ≡ c.args.count - c.loop-i._i = omega arith in
    exit_err c.from_residual.result c.in_err-offset.field-0.0 (IsFault (SomePoints c.args.count) c.args.bytes.now c.args.from) c.from_residual.ensures.1
    (c.loop-i.invariant.faults c.in_err-offset.field-0.0 (subst (λ (n : ℕ). IsFault (SomePoints n) c.args.bytes.now c.loop-i.offset c.in_err-offset.field-0.0) left
    (first_point_fault (c.args.count - c.loop-i._i - 1) c.args.bytes.now c.loop-i.offset c.in_err-offset.field-0.0 c.in_err-offset.ensures.err)))

pub loop-i-preserved : goal.loop-i-preserved
loop-i-preserved c =
    let left : suc (c.args.count - (c.loop-i._i + 1)) ≡ c.args.count - c.loop-i._i = omega arith in
    let p = c.in_ok-offset.field-0 in
    let st = c.in_ok-offset.ensures.ok in
    let r = c.loop-i.invariant.points in
    let q : Point = record { ns = p.ns; id = st.id; t = p.t; v = p.v } in
    record {
      faults = λ e a. c.loop-i.invariant.faults e (subst (λ (n : ℕ). IsFault (SomePoints n) c.args.bytes.now c.loop-i.offset e) left
          (later_point_fault (c.args.count - (c.loop-i._i + 1)) c.args.bytes.now c.loop-i.offset p e st a));
      points = (r.0 ++ q ∷ [], length_push r.0 q ∙ (let e : _ = r.1 in omega (arith, e)), stands_more r.0 c.args.bytes.now c.args.from c.loop-i.offset p r.2 st);
    }

pub returns-clause-ok : goal.returns-clause-ok
returns-clause-ok c =
    let r = c.loop-i.invariant.points in
    let all : c.loop-i._i ≡ c.args.count = omega arith in
    (r.0, r.1 ∙ all, r.2)
