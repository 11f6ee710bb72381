use Rattle.std.proofs.Common.{◌≡◌, ℕ, ◌+◌, subst, sym, arith}
use Rattle.byteorder.specs.Endian.{big_bytes}
use Rattle.wire_bytes.specs.Fields.{IsFault, Stands}
use Rattle.wire_bytes.specs.Entries.{AnEntry}
use Rattle.wire_bytes.proofs.PointLemmas.{exit_err}
use Rattle.wire_bytes.proofs.EntryLemmas.{tag_fault, behind_tag, number_body, Body, tagged_stands, points_entry_stands}
use Rattle.wire_bytes.proofs.entry_read.read_entry.Goals as goal

pub returns-in_err-tag-clause-err : goal.returns-in_err-tag-clause-err
returns-in_err-tag-clause-err c = exit_err c.from_residual.result c.in_err-tag.field-0.0 (IsFault AnEntry c.args.bytes.now c.args.at) c.from_residual.ensures.1
    (tag_fault c.args.bytes.now c.args.at c.in_err-tag.field-0.0 c.in_err-tag.ensures.err)

pub returns-in_err-count-clause-err : goal.returns-in_err-count-clause-err
returns-in_err-count-clause-err c = exit_err c.from_residual-in_err-count.result c.in_err-count.field-0.0 (IsFault AnEntry c.args.bytes.now c.args.at) c.from_residual-in_err-count.ensures.1
    (behind_tag c.args.bytes.now c.args.at c.in_ok-tag.tag c.in_err-count.field-0.0 c.in_ok-tag.ensures.within.0 c.in_ok-tag.ensures.within.1 c.in_ok-tag.ensures.ok
    (subst (λ (x : ℕ). IsFault (Body x) c.args.bytes.now (c.args.at + 1) c.in_err-count.field-0.0) (sym c.if-tag-eq-POINTS.true) c.in_err-count.ensures.err))

pub returns-in_err-number-clause-err : goal.returns-in_err-number-clause-err
returns-in_err-number-clause-err c = exit_err c.from_residual-in_err-number.result c.in_err-number.field-0.0 (IsFault AnEntry c.args.bytes.now c.args.at) c.from_residual-in_err-number.ensures.1
    (behind_tag c.args.bytes.now c.args.at c.in_ok-tag.tag c.in_err-number.field-0.0 c.in_ok-tag.ensures.within.0 c.in_ok-tag.ensures.within.1 c.in_ok-tag.ensures.ok
    (number_body c.args.bytes.now (c.args.at + 1) c.in_ok-tag.tag c.in_err-number.field-0.0 c.in_ok-tag.ensures.within.0 c.in_ok-tag.ensures.within.1 c.if-tag-eq-POINTS.false c.in_err-number.ensures.err))

pub returns-then-tag-eq-POINTS-clause-ok : goal.returns-then-tag-eq-POINTS-clause-ok
returns-then-tag-eq-POINTS-clause-ok c =
    let r = c.in_ok-count.ensures.ok in
    points_entry_stands c.in_ok-tag.tag c.in_ok-count.count c.args.at c.in_ok-count.next c.args.bytes.now c.if-tag-eq-POINTS.true r.0 r.1 c.in_ok-tag.ensures.ok r.2

pub returns-then-tag-eq-FENCE-clause-ok : goal.returns-then-tag-eq-FENCE-clause-ok
returns-then-tag-eq-FENCE-clause-ok c = (
  c.in_ok-number.ensures.fits,
  tagged_stands 2 c.in_ok-number.number c.args.at c.args.bytes.now
      (subst (λ (x : ℕ). Stands (big_bytes 1 x) c.args.bytes.now c.args.at (c.args.at + 1)) c.if-tag-eq-FENCE.true c.in_ok-tag.ensures.ok) c.in_ok-number.ensures.ok,
)

pub returns-clause-ok : goal.returns-clause-ok
returns-clause-ok c =
    let three : c.in_ok-tag.tag ≡ 3 = omega (arith, c.in_ok-tag.ensures.within.0, c.in_ok-tag.ensures.within.1, c.if-tag-eq-POINTS.false, c.if-tag-eq-FENCE.false) in (
      c.in_ok-number.ensures.fits,
      tagged_stands 3 c.in_ok-number.number c.args.at c.args.bytes.now
          (subst (λ (x : ℕ). Stands (big_bytes 1 x) c.args.bytes.now c.args.at (c.args.at + 1)) three c.in_ok-tag.ensures.ok) c.in_ok-number.ensures.ok,
    )
