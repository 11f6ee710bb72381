use Rattle.std.proofs.Common.{ap, sym, ◌∙◌, arith}
use Rattle.std.specs.FinMap.{entries, entries-from_sorted}
use Rattle.std.specs.List.{filter_map}
use Rattle.std.specs.Ordering.{nat_cmp}
use Rattle.std.proofs.lemmas.Result.{IfOk-weaker}
use Rattle.m3_model.proofs.Keyed.{holds_of}
use Rattle.series_slots.specs.Slots.{valued_in}
use Rattle.series_slots.proofs.SlotLemmas.{paired-none}
use Rattle.series_slots.proofs.series_buffer.SeriesBuffer.pairs.Goals as goal

pub returns : goal.returns
returns c = rw (← c.self.view_is) (IfOk-weaker c.pairs_between.result _ _
    (λ pairs e. e ∙ ap (λ es. filter_map (valued_in c.args.from c.args.to) es) (sym (entries-from_sorted nat_cmp _ (holds_of _ c.self.invariant)))) c.pairs_between.ensures)

pub returns-then-to-from : goal.returns-then-to-from
returns-then-to-from c = c.new.ensures.items ∙ sym (paired-none c.args.from c.args.to (entries c.args.self.now) (omega arith))
