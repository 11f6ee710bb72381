use Rattle.std.proofs.Common.{arith}
use Rattle.disk_content.proofs.UndoLemmas.{next_lies}
use Rattle.disk_content.proofs.unwind.unwind.Goals as goal

pub take_back-requires : goal.take_back-requires
take_back-requires c =
    let so_far = c.loop-left.invariant in
    next_lies c.args.entries.now c.loop-left.entries c.args.files.now c.loop-left.files c.loop-left.left c.index-entries-left.result (omega arith) (omega (arith, so_far.within, so_far.len)) c.requires so_far.rest so_far.files
