use Rattle.outside_tests.proofs.HeldLemmas.{unused_not_out}
use Rattle.outside_tests.proofs.disks.kept_by_slot.Goals as goal

pub visit-requires : goal.visit-requires
visit-requires c = unused_not_out _ (c.in_ok-disks.ensures.unused c.args.slot)
