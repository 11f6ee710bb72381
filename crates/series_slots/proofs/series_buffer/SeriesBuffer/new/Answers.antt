use Rattle.std.proofs.Common.{ap, ◌∙◌}
use Rattle.std.specs.FinMap.{from_sorted}
use Rattle.std.specs.Ordering.{nat_cmp}
use Rattle.m3_model.proofs.RaiseLemmas.{from_sorted-empty}
use Rattle.series_slots.proofs.series_buffer.SeriesBuffer.new.Goals as goal

pub returns : goal.returns
returns c = ap (λ xs. from_sorted {R = nat_cmp} xs) c.new.ensures.items ∙ from_sorted-empty nat_cmp
