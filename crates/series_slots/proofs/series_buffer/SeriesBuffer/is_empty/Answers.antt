use Rattle.std.proofs.Common.{sym, ◌∙◌}
use Rattle.std.specs.FinMap.{entries-from_sorted}
use Rattle.std.specs.Ordering.{nat_cmp}
use Rattle.std.proofs.lemmas.Bool.{eqb-true, eq-eqb}
use Rattle.m3_model.proofs.Keyed.{holds_of}
use Rattle.series_slots.proofs.series_buffer.SeriesBuffer.is_empty.Goals as goal

pub returns : goal.returns
returns c =
    let slots = c.self.inside.slots in
    rw (← c.self.view_is, entries-from_sorted nat_cmp _ (holds_of _ c.self.invariant))
    (λ h. sym slots.ok.0 ∙ eqb-true slots.len 0 (sym c.is_empty.ensures ∙ h), λ h. c.is_empty.ensures ∙ eq-eqb slots.len 0 (slots.ok.0 ∙ h))
