use Rattle.std.proofs.Common.{sym}
use Rattle.series_slots.specs.SeriesKeys.{key_at}
use Rattle.block_buffer.proofs.ContentLemmas.{held_there}
use Rattle.block_buffer.proofs.all_series.AllSeries.hold_at.Goals as goal

pub hold_absent-requires : goal.hold_absent-requires
hold_absent-requires c = (c.requires.0, c.requires.1.slots, c.requires.1.entry, sym (c.in-None.ensures.bare c.requires.0 c.requires.1.slots c.requires.1.entry))

pub returns-in-Some-clause-ok : goal.returns-in-Some-clause-ok
returns-in-Some-clause-ok c s at = held_there c.args.self.now (key_at s c.args.t) c.in-Some.slot (c.in-Some.ensures.slot s at)
