use Rattle.std.proofs.Common.{rules}
use Rattle.std.proofs.lemmas.Bool.{ltb-true}
use Rattle.series_slots.proofs.SlotLemmas.{after_last}
use Rattle.series_slots.proofs.series_buffer.is_after_all.Goals as goal

pub returns-in-Some : goal.returns-in-Some
returns-in-Some c h =
    let slots = c.args.slots.now in
    let last = c.in-Some.field-0.now in
    after_last c.args.t slots.items slots.len last c.requires slots.ok.0 (c.back.ensures.variant.0 (search rules)) c.in-Some.ensures.lookup (ltb-true last.0 c.args.t h)
