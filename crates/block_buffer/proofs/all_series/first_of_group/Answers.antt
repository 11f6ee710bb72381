use Rattle.std.proofs.Common.{◌<◌, length, arith}
use Rattle.std.proofs.lemmas.Option.{slice_get_within}
use Rattle.block_buffer.proofs.EntryLemmas.{entry_at}
use Rattle.block_buffer.proofs.GroupLemmas.{end_within, of_group}
use Rattle.block_buffer.proofs.all_series.first_of_group.Goals as goal

pub first_of-requires : goal.first_of-requires
first_of-requires c =
    let at = entry_at c.args.placed.now c.loop-position.position (end_within c.args.group c.positions_of-first.result.1 _ c.loop-position.position c.positions_of-first.ensures.end c.loop-position-test.true) in
    (at.0, record { slots = at.1; entry = at.2 })

pub returns : goal.returns
returns c position t e is there space some =
    let below : position < length c.args.placed.now = slice_get_within c.args.placed.now position e there in
    let inside = of_group c.args.group c.positions_of-first.result.0 c.positions_of-first.result.1 (length c.args.placed.now) position c.positions_of-first.ensures.first c.positions_of-first.ensures.end c.positions_of-first.ensures.fits below is in
    let high = inside.1 in
    let past = c.loop-position-test.false in
    c.loop-position.invariant position t e inside.0 (omega (arith, high, past)) there space some
