use Rattle.std.proofs.Common.{◌≡◌, true, false, ap, sym, ◌∙◌}
use Rattle.series_slots.specs.SeriesKeys.{key_at}
use Rattle.series_slots.specs.Points.{slot_at}
use Rattle.series_slots.specs.SeriesEntries.{slots_of}
use Rattle.block_buffer.specs.AllSeries.{is_bare}
use Rattle.block_buffer.proofs.ContentLemmas.{value_vacated, bare_before, bare_other}
use Rattle.block_buffer.proofs.all_series.AllSeries.vacate.Goals as goal

pub slot-requires : goal.slot-requires
slot-requires c = (c.requires.0, record { slots = c.requires.1.slots; entry = c.requires.1.entry })

pub returns-then-is_bare-clause-kept : goal.returns-then-is_bare-clause-kept
returns-then-is_bare-clause-kept c k =
    let s = c.requires.0 in
    let bare : is_bare (slot_at (slots_of c.args.self.now) (key_at s c.args.t)) ≡ true =
    ap is_bare (sym (c.slot.ensures.slot s (record { slots = c.requires.1.slots; entry = c.requires.1.entry }))) ∙ sym c.is_bare.ensures ∙ c.if-is_bare.true in
    value_vacated c.args.self.now c.take.new.self (key_at s c.args.t) bare (c.take.ensures.taken s c.requires.1) k

pub returns-then-is_bare-clause-vacated : goal.returns-then-is_bare-clause-vacated
returns-then-is_bare-clause-vacated c s at k e = bare_before c.args.self.now c.take.new.self (key_at s c.args.t) (c.take.ensures.taken s at) k e

pub returns-else-is_bare-clause-vacated : goal.returns-else-is_bare-clause-vacated
returns-else-is_bare-clause-vacated c s at k e =
    let full : is_bare (slot_at (slots_of c.args.self.now) (key_at s c.args.t)) ≡ false =
    ap is_bare (sym (c.slot.ensures.slot s (record { slots = at.slots; entry = at.entry }))) ∙ sym c.is_bare.ensures ∙ c.if-is_bare.false in
    bare_other c.args.self.now (key_at s c.args.t) full k e
