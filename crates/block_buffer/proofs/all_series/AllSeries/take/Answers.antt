use Rattle.std.proofs.Common.{◌∙◌}
use Rattle.block_buffer.proofs.all_series.AllSeries.take.Goals as goal

pub take_slot-requires : goal.take_slot-requires
take_slot-requires c = (c.requires.0, record { slots = c.requires.1.slots; entry = c.requires.1.entry })

pub leave-requires : goal.leave-requires
leave-requires c = (c.requires.0, c.take_slot.ensures.there c.requires.0 (record { slots = c.requires.1.slots; entry = c.requires.1.entry }))

pub returns-clause-taken : goal.returns-clause-taken
returns-clause-taken c s at k = c.leave.ensures.kept k ∙ c.take_slot.ensures.taken s (record { slots = at.slots; entry = at.entry }) k

pub returns-clause-left : goal.returns-clause-left
returns-clause-left c s at = c.leave.ensures.left s (c.take_slot.ensures.there s (record { slots = at.slots; entry = at.entry }))
