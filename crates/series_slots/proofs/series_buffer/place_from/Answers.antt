use Rattle.series_slots.proofs.SlotLemmas.{disk_slot_of}
use Rattle.series_slots.proofs.series_buffer.place_from.Goals as goal

pub returns-in-Ok : goal.returns-in-Ok
returns-in-Ok c = disk_slot_of c.args.t c.args.slots.now.items c.in-Ok.position c.requires c.in-Ok.ensures.there
