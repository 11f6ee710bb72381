use Rattle.std.proofs.Common.{◌-◌, ◌+◌, arith, subst}
use Rattle.wire_bytes.specs.Fields.{IsFault}
use Rattle.wire_bytes.specs.Numbers.{ANumber}
use Rattle.log_chunks.proofs.Fronts.{nothing_left, few_left, shut_gate, short_length, short_payload, whole_chunk, bad_length}
use Rattle.log_chunks.proofs.chunk_read.get_chunk.Goals as goal
use Rattle.log_chunks.proofs.chunk_read.get_chunk.Goals.{then-at-bytes-via-then-at-bytes, then-at-bytes-via-else-at-bytes+then-bytes-at-ne-OPEN, then-at-bytes-via-else-at-bytes+else-bytes-at-ne-OPEN+then-segment-at}

pub returns-then-at-bytes : goal.returns-then-at-bytes
returns-then-at-bytes c = λ cs done.
    elim c.then-at-bytes.branch [
      | then-at-bytes-via-then-at-bytes w ↦ nothing_left cs c.args.bytes.now c.args.at c.requires.short c.requires.inside done w.if-at-bytes.true
      | then-at-bytes-via-else-at-bytes+then-bytes-at-ne-OPEN w ↦ (let apart = w.if-at-bytes.false in let within = c.requires.inside in shut_gate cs c.args.bytes.now c.args.at c.requires.short c.requires.inside done (omega (arith, apart, within)) w.if-bytes-at-ne-OPEN.true)
      | then-at-bytes-via-else-at-bytes+else-bytes-at-ne-OPEN+then-segment-at w ↦ (let less = w.if-segment-at.true in few_left cs c.args.bytes.now c.args.at c.requires.short c.requires.inside done (omega (arith, less)))
    ]

pub returns-in-Err-Short : goal.returns-in-Err-Short
returns-in-Err-Short c = λ cs done.
    let apart = c.if-at-bytes.false in
    let within = c.requires.inside in
    let room = c.if-segment-at.false in
    short_length cs c.args.bytes.now c.args.at c.requires.short c.requires.inside done (omega (arith, apart, within)) c.if-bytes-at-ne-OPEN.false (omega (arith, room)) (subst (IsFault (ANumber 4 0 (65536 - c.args.at - 5)) c.args.bytes.now (c.args.at + 1)) c.in-Err-Short.field-0-is c.in-Err-Short.ensures.err)

pub returns-in-Err-Bad : goal.returns-in-Err-Bad
returns-in-Err-Bad c = λ cs done.
    let apart = c.if-at-bytes.false in
    let within = c.requires.inside in
    let room = c.if-segment-at.false in
    let f = subst (IsFault (ANumber 4 0 (65536 - c.args.at - 5)) c.args.bytes.now (c.args.at + 1)) c.in-Err-Bad.field-0-is c.in-Err-Bad.ensures.err in
    bad_length cs c.args.bytes.now c.args.at c.requires.short c.requires.inside done (omega (arith, apart, within)) c.if-bytes-at-ne-OPEN.false (omega (arith, room)) c.in-Err-Bad.at f.0 f.1

pub returns-then-bytes-next : goal.returns-then-bytes-next
returns-then-bytes-next c = λ cs done.
    let apart = c.if-at-bytes.false in
    let within = c.requires.inside in
    let room = c.if-segment-at.false in
    let less = c.if-bytes-next.true in
    short_payload cs c.args.bytes.now c.args.at c.requires.short c.requires.inside done (omega (arith, apart, within)) c.if-bytes-at-ne-OPEN.false (omega (arith, room)) c.in-Ok.len c.in-Ok.ensures.within.1 c.in-Ok.ensures.ok (omega (arith, less))

pub returns-else-bytes-next : goal.returns-else-bytes-next
returns-else-bytes-next c = λ cs done.
    let apart = c.if-at-bytes.false in
    let within = c.requires.inside in
    let room = c.if-segment-at.false in
    let fits = c.if-bytes-next.false in
    whole_chunk cs c.args.bytes.now c.args.at c.requires.short c.requires.inside done (omega (arith, apart, within)) c.if-bytes-at-ne-OPEN.false (omega (arith, room)) c.in-Ok.len c.in-Ok.ensures.within.1 c.in-Ok.ensures.ok (omega (arith, fits))
