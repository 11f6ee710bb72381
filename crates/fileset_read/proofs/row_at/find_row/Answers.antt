use Rattle.std.proofs.Common.{◌≡◌, ◌+◌, ℕ, length, sym, subst, arith}
use Rattle.byteorder.specs.Endian.{big_bytes}
use Rattle.shard_files.specs.wire_bytes.Fields.{Stands}
use Rattle.fileset_read.proofs.RowLemmas.{row_parts, row_found}
use Rattle.fileset_read.proofs.row_at.find_row.Goals as goal

pub returns-in_err-id_to-clause-whole : goal.returns-in_err-id_to-clause-whole
returns-in_err-id_to-clause-whole c = λ s rest w e.
    let p = row_parts s rest c.args.bytes.now c.args.at c.requires e in
    let no = c.in_err-id_to.ensures.whole (length s.id) (omega (arith, w.id)) p.head in
    absurd (cc)

pub returns-in_err-count-clause-whole : goal.returns-in_err-count-clause-whole
returns-in_err-count-clause-whole c = λ s rest w e.
    let p = row_parts s rest c.args.bytes.now c.args.at c.requires e in
    let read = c.in_ok-id_to.ensures.whole (length s.id) (omega (arith, w.id)) p.head in
    let len : c.in_ok-id_to.field-0 ≡ length s.id = cc in
    let no = c.in_err-count.ensures.whole (length s.points) (omega (arith, w.counted)) (subst (λ (n : ℕ). Stands (big_bytes 4 (length s.points)) c.args.bytes.now (c.args.at + 2 + n) (c.args.at + 2 + n + 4)) (sym len) p.counted) in
    absurd (cc)

pub returns-then-bytes-next-clause-whole : goal.returns-then-bytes-next-clause-whole
returns-then-bytes-next-clause-whole c = λ s rest w e.
    let p = row_parts s rest c.args.bytes.now c.args.at c.requires e in
    let read = c.in_ok-id_to.ensures.whole (length s.id) (omega (arith, w.id)) p.head in
    let len : c.in_ok-id_to.field-0 ≡ length s.id = cc in
    let more = c.in_ok-count.ensures.whole (length s.points) (omega (arith, w.counted)) (subst (λ (n : ℕ). Stands (big_bytes 4 (length s.points)) c.args.bytes.now (c.args.at + 2 + n) (c.args.at + 2 + n + 4)) (sym len) p.counted) in
    let count : c.in_ok-count.count ≡ length s.points = cc in
    let within = p.within in
    let short = c.if-bytes-next.true in
    omega (arith, within, short, len, count)

pub returns-clause-whole : goal.returns-clause-whole
returns-clause-whole c = λ s rest w e.
    let p = row_parts s rest c.args.bytes.now c.args.at c.requires e in
    let read = c.in_ok-id_to.ensures.whole (length s.id) (omega (arith, w.id)) p.head in
    let len : c.in_ok-id_to.field-0 ≡ length s.id = cc in
    let more = c.in_ok-count.ensures.whole (length s.points) (omega (arith, w.counted)) (subst (λ (n : ℕ). Stands (big_bytes 4 (length s.points)) c.args.bytes.now (c.args.at + 2 + n) (c.args.at + 2 + n + 4)) (sym len) p.counted) in
    let count : c.in_ok-count.count ≡ length s.points = cc in
    row_found s rest c.args.bytes.now c.args.at c.in_ok-id_to.field-0 c.in_ok-count.count p len count
