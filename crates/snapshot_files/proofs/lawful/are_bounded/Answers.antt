use Rattle.std.proofs.Common.{◌++◌, [], ◌∷◌, take, refl, sym, ap, subst, ◌∙◌}
use Rattle.std.proofs.lemmas.List.{take_all, take_more}
use Rattle.fileset_check.specs.m3_model.declared.point.Point.{Point}
use Rattle.fileset_check.specs.wire_bytes.Entries.{AllBounded}
use Rattle.fileset_check.proofs.wire_bytes_proofs.EntryLemmas.{bounded_at, bounded_more}
use Rattle.snapshot_files.proofs.lawful.are_bounded.Goals as goal

pub loop-point-init : goal.loop-point-init
loop-point-init c = tt

pub returns-then-not-is_bounded : goal.returns-then-not-is_bounded
returns-then-not-is_bounded c = (
  (λ t. absurd (cc)),
  (λ all.
      let yes = c.is_bounded.ensures.1 (bounded_at c.args.points.now c.loop-point.point-index c.point-item.result all c.loop-point-test.true (sym c.point-item.is)) in
      let no = c.if-not-is_bounded.true in
      absurd (cc)),
)

pub loop-point-preserved : goal.loop-point-preserved
loop-point-preserved c =
    let p = c.point-item.result in
    let i = c.loop-point.point-index in
    let points = c.args.points.now in
    subst AllBounded (sym (take_more points i p c.loop-point-test.true ∙ ap (λ (q : Point). take i points ++ q ∷ []) (sym c.point-item.is)))
    (bounded_more (take i points) p c.loop-point.invariant (c.is_bounded.ensures.0 c.if-not-is_bounded.false))

pub returns : goal.returns
returns c = ((λ t. subst AllBounded (take_all c.loop-point.point-index c.args.points.now c.loop-point-test.false) c.loop-point.invariant), (λ all. refl))
