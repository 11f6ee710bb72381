use Rattle.std.proofs.Common.{◌≡◌, ℕ, subst, arith}
use Rattle.byteorder.specs.Endian.{big_bytes}
use Rattle.fileset_check.specs.wire_bytes.Fields.{Stands}
use Rattle.snapshot_files.proofs.BodyLemmas.{fields_of, head_stands}
use Rattle.snapshot_files.proofs.body.read_head.Goals as goal

pub returns-in_err-fence-clause-whole : goal.returns-in_err-fence-clause-whole
returns-in_err-fence-clause-whole c = λ b.
    let there = c.get_number-2.ensures.whole b.snapshot.fence b.values.fence (fields_of b.snapshot c.args.bytes.now b.is).fence in
    let refused = c.in_err-fence.was in
    absurd (cc)

pub returns-clause-ok : goal.returns-clause-ok
returns-clause-ok c =
    let format : c.in_ok-get_between.field-0 ≡ 1 = omega (arith, c.in_ok-get_between.ensures.within.0, c.in_ok-get_between.ensures.within.1) in
    let number : c.in_ok-get_between-2.field-0 ≡ c.args.number = omega (arith, c.in_ok-get_between-2.ensures.within.0, c.in_ok-get_between-2.ensures.within.1) in
    head_stands c.args.number c.in_ok-tenure.tenure c.in_ok-fence.fence c.in_ok-first.first c.in_ok-count.count c.args.bytes.now
    (subst (λ (n : ℕ). Stands (big_bytes 1 n) c.args.bytes.now 0 1) format c.in_ok-get_between.ensures.ok)
    (subst (λ (n : ℕ). Stands (big_bytes 8 n) c.args.bytes.now 1 9) number c.in_ok-get_between-2.ensures.ok)
    c.in_ok-tenure.ensures.ok c.in_ok-fence.ensures.ok c.in_ok-first.ensures.ok c.in_ok-count.ensures.ok
