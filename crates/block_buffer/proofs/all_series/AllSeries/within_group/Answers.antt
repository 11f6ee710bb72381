use Rattle.std.proofs.Common.{arith}
use Rattle.block_buffer.specs.Spots.{IsKeyWithin}
use Rattle.block_buffer.proofs.EntryLemmas.{entry_at}
use Rattle.block_buffer.proofs.GroupLemmas.{end_within}
use Rattle.block_buffer.proofs.SpotLemmas.{clear_group}
use Rattle.block_buffer.proofs.all_series.AllSeries.within_group.Goals as goal

pub within_at-found-requires : goal.within_at-found-requires
within_at-found-requires c =
    let at = entry_at c.args.self.now c.loop-position.position (end_within c.args.group c.positions_of-first.result.1 _ c.loop-position.position c.positions_of-first.ensures.end c.loop-position-test.true) in
    (at.0, record { slots = at.1; entry = at.2 })

pub returns-clause-none : goal.returns-clause-none
returns-clause-none c e =
    let past = c.loop-position-test.false in
    clear_group c.args.self.now (IsKeyWithin c.args.ns c.args.low c.args.high) c.positions_of-first.result.0 c.positions_of-first.result.1 c.args.group c.positions_of-first.ensures.first c.positions_of-first.ensures.end c.positions_of-first.ensures.fits
    (λ p low high. c.loop-position.invariant p low (omega (arith, past, high)))
