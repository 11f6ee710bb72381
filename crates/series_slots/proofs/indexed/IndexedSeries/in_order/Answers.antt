use Rattle.std.proofs.Common.{List, sym, subst, IsPermutation, IsSortedByKey}
use Rattle.std.specs.Cmp.Lexicographic.{slice_cmp}
use Rattle.std.specs.Ordering.{nat_cmp}
use Rattle.std.specs.List.{IsDistinct}
use Rattle.std.specs.Map.{keys_of}
use Rattle.m3_model.specs.declared.point.Series.{Series}
use Rattle.series_slots.specs.SeriesEntries.{SeriesEntries}
use Rattle.series_slots.specs.SeriesKeys.{series_eq}
use Rattle.series_slots.proofs.AnswerLemmas.{space_range}
use Rattle.series_slots.proofs.indexed.IndexedSeries.in_order.Goals as goal

pub returns : goal.returns
returns c ns from to is wanted =
    space_range c.args.self.now ns from to wanted c.from_vec.result (subst (λ (es : SeriesEntries). IsDistinct series_eq (keys_of es)) c.self.view_is c.self.invariant.0)
    (subst (IsPermutation _) (sym c.from_vec.ensures) (subst (λ (xs : List Series). IsPermutation xs c.by_id.result.items) is c.by_id.ensures.same))
    (subst (IsSortedByKey (λ (s : Series). s.id) (slice_cmp nat_cmp)) (sym c.from_vec.ensures) c.by_id.ensures.order)
