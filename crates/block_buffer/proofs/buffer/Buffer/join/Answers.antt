use Rattle.std.proofs.Common.{ℕ, ◌<◌, ℤ, pos, List, length, get_or, None, ap, ap₂, sym, ◌∙◌, subst, rules, take, drop, map, w64}
use Rattle.std.specs.Prelude.{FitsSigned}
use Rattle.std.proofs.lemmas.Int.{to_z-of_z}
use Rattle.m3_model.specs.Contents.{Contents, raised, raised_at}
use Rattle.block_buffer.specs.Held.{InMemory}
use Rattle.block_buffer.specs.Joins.{joined}
use Rattle.series_slots.specs.SeriesKeys.{key_at}
use Rattle.series_slots.proofs.PointLemmas.{always_err}
use Rattle.block_buffer.proofs.JoinLemmas.{timed_point, joined_more, first_points}
use Rattle.block_buffer.proofs.buffer.Buffer.join.Goals as goal

abbrev no_room : Contents → InMemory
no_room points = record { points = points; room = None }

pub returns-in_err-add-clause-err : goal.returns-in_err-add-clause-err
returns-in_err-add-clause-err c = always_err c.from_residual-in_err-add.result (record {
  front = map (timed_point c.args.ns c.args.series.now.id) (take c.loop-t.t-index c.args.series.now.points);
  back = map (timed_point c.args.ns c.args.series.now.id) (drop c.loop-t.t-index c.args.series.now.points);
  parts = first_points c.args.ns c.args.series.now c.loop-t.t-index;
  joins = ap (λ h. h.points) (c.in_err-add.ensures.err ∙ c.loop-t.invariant);
})

pub loop-t-preserved : goal.loop-t-preserved
loop-t-preserved c =
    let x : ℕ × ℤ = get_or c.as_slice-t-items.result.now c.loop-t.t-index (0, pos 0) in
    let id : List ℕ = c.args.series.now.id in
    let fits : FitsSigned w64 x.1 = search rules in
    let low : c.loop-t.t-index < length c.args.series.now.points = subst (λ (ps : List (ℕ × ℤ)). c.loop-t.t-index < length ps) c.as_slice-t-items.ensures c.loop-t-test.true in
    let before : Contents = joined c.args.self.now.points (map (timed_point c.args.ns id) (take c.loop-t.t-index c.args.series.now.points)) in
    c.in_ok-add.ensures.ok ∙ ap no_room
    (ap₂ (λ (i : List ℕ) (z : ℤ). raised_at c.loop-t.self.points (key_at (record { ns = c.args.ns; id = i }) x.0) z) c.in_ok-copy.ensures (to_z-of_z w64 x.1 fits)
    ∙ ap (λ (h : InMemory). raised h.points (timed_point c.args.ns id x)) c.loop-t.invariant
    ∙ ap (λ (ps : List (ℕ × ℤ)). raised before (timed_point c.args.ns id (get_or ps c.loop-t.t-index (0, pos 0)))) c.as_slice-t-items.ensures
    ∙ sym (joined_more c.args.self.now.points c.args.ns id c.args.series.now.points c.loop-t.t-index (0, pos 0) low))
