use Rattle.std.proofs.Common.{◌≡◌, length, sym, ap, subst, ◌∙◌}
use Rattle.fileset_check.specs.m3_model.Ascends.{Ascends}
use Rattle.snapshot_files.specs.Bodies.{head_in}
use Rattle.snapshot_files.specs.Snaps.{IsBefore}
use Rattle.snapshot_files.specs.declared.body.Head.{Head}
use Rattle.snapshot_files.proofs.BodyLemmas.{points_same}
use Rattle.snapshot_files.proofs.body.read_body.Goals as goal

pub returns-then-not-fill-clause-err : goal.returns-then-not-fill-clause-err
returns-then-not-fill-clause-err c = λ b.
    let found = c.read_head.ensures.whole b in
    let read = c.in_ok-head.was in
    let head : c.in_ok-head.head ≡ head_in b.snapshot = cc in
    let count : c.in_ok-head.head.count ≡ length b.snapshot.points = ap (λ (h : Head). h.count) head in
    let same = points_same c.args.number c.args.bytes.now b c.in_ok-points.points c.in_ok-points.next (c.in_ok-points.ensures.ok.0 ∙ count) c.in_ok-points.ensures.ok.1 in
    let yes = c.fill.ensures.1 (same.1, subst (Ascends IsBefore) (sym (c.as_slice.ensures ∙ same.0)) b.values.ascending) in
    let no = c.if-not-fill.true in
    absurd (cc)
