use Rattle.std.proofs.Common.{ℕ, ◌<◌, ℤ, pos, List, length, get_or, None, ap, sym, ◌∙◌, subst, rules, take, drop, map, w64}
use Rattle.std.specs.Prelude.{FitsSigned}
use Rattle.std.proofs.lemmas.Int.{to_z-of_z}
use Rattle.m3_model.specs.Contents.{Contents}
use Rattle.block_buffer.specs.Held.{InMemory}
use Rattle.block_buffer.specs.Taken.{settled_at, settled_with}
use Rattle.series_slots.proofs.PointLemmas.{always_err}
use Rattle.block_buffer.proofs.JoinLemmas.{timed_point, settled_more, first_points}
use Rattle.held_points.proofs.held.HeldPoints.settle.Goals as goal

abbrev no_room : Contents → InMemory
no_room points = record { points = points; room = None }

pub returns-in_err-settle_one-clause-err : goal.returns-in_err-settle_one-clause-err
returns-in_err-settle_one-clause-err c = always_err c.from_residual.result (record {
  front = map (timed_point c.args.ns c.args.series.now.id) (take c.loop-t.t-index c.args.series.now.points);
  back = map (timed_point c.args.ns c.args.series.now.id) (drop c.loop-t.t-index c.args.series.now.points);
  parts = first_points c.args.ns c.args.series.now c.loop-t.t-index;
  settles = ap (λ (h : InMemory). h.points) (c.in_err-settle_one.ensures.err) ∙ ap (λ (h : InMemory). h.points) c.loop-t.invariant;
})

pub loop-t-preserved : goal.loop-t-preserved
loop-t-preserved c =
    let x : ℕ × ℤ = get_or c.as_slice-t-items.result.now c.loop-t.t-index (0, pos 0) in
    let id : List ℕ = c.args.series.now.id in
    let fits : FitsSigned w64 x.1 = search rules in
    let low : c.loop-t.t-index < length c.args.series.now.points = subst (λ (ps : List (ℕ × ℤ)). c.loop-t.t-index < length ps) c.as_slice-t-items.ensures c.loop-t-test.true in
    let before : Contents = settled_with c.args.self.now.points (map (timed_point c.args.ns id) (take c.loop-t.t-index c.args.series.now.points)) in
    c.in_ok-settle_one.ensures.ok ∙ ap no_room
    (ap (λ (z : ℤ). settled_at c.loop-t.self.points (timed_point c.args.ns id (x.0, z))) (to_z-of_z w64 x.1 fits)
    ∙ ap (λ (h : InMemory). settled_at h.points (timed_point c.args.ns id x)) c.loop-t.invariant
    ∙ ap (λ (ps : List (ℕ × ℤ)). settled_at before (timed_point c.args.ns id (get_or ps c.loop-t.t-index (0, pos 0)))) c.as_slice-t-items.ensures
    ∙ sym (settled_more c.args.self.now.points c.args.ns id c.args.series.now.points c.loop-t.t-index (0, pos 0) low))
