use Rattle.disk_slots.proofs.SlotLemmas.{all_unused}
use Rattle.disk_slots.proofs.slots.DiskSlots.new.Goals as goal

pub returns-clause-unused : goal.returns-clause-unused
returns-clause-unused g c = all_unused c.in_ok-slots.slots.items c.in_ok-slots.ensures.empty
