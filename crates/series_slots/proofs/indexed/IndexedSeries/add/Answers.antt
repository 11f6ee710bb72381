use Rattle.std.proofs.Common.{◌≡◌, None, [], ◌∷◌, ◌++◌, ap, sym, subst, ◌∙◌, true, cond}
use Rattle.std.specs.BTreeSet.{contains}
use Rattle.std.specs.Ordering.{is_eq}
use Rattle.std.specs.FinMap as finite
use Rattle.indexmap.specs.IndexMap.{get}
use Rattle.indexmap.proofs.CallerLemmas.{insert_entry-new}
use Rattle.series_slots.specs.Above.{AreListed}
use Rattle.series_slots.specs.declared.series_key.SeriesKey.{SeriesKey}
use Rattle.series_slots.specs.SeriesKeys.{series_cmp, series_cmp_total, series_eq}
use Rattle.series_slots.specs.Slots.{Slots}
use Rattle.series_slots.specs.SeriesEntries.{SeriesEntries, slots_of}
use Rattle.series_slots.specs.Written.{IsAdded}
use Rattle.series_slots.proofs.HashLemmas.{took}
use Rattle.series_slots.proofs.PointLemmas.{series_cmp-IsAntisymmetric}
use Rattle.series_slots.proofs.OrderLemmas.{come_listed}
use Rattle.series_slots.proofs.SeriesLemmas.{series_tie, placed_at}
use Rattle.series_slots.proofs.indexed.IndexedSeries.add.Goals as goal

pub returns-clause-ok : goal.returns-clause-ok
returns-clause-ok c =
    let es : SeriesEntries = c.reserve.new.self.entries in
    let same : es ≡ c.args.self.now = c.reserve.ensures.entries ∙ c.self.view_is in
    let none : finite.get (slots_of es) c.args.series ≡ None = subst (λ (ps : SeriesEntries). finite.get (slots_of ps) c.args.series ≡ None) (sym same) c.requires in
    let absent : get series_eq c.reserve.new.self c.args.series ≡ None = sym (placed_at es c.args.series) ∙ none in
    subst (λ (ps : SeriesEntries). IsAdded ps c.insert-2.new.self.entries c.args.series c.len-position.result) same (record {
      last = c.len-position.ensures.len;
      placed = c.in_ok-insert-2.ensures.entries ∙ insert_entry-new series_eq c.reserve.new.self c.args.series c.new.result absent ∙ ap (λ (v : Slots). es ++ (c.args.series, v) ∷ []) c.new.ensures;
      mapped = took series_cmp series_cmp_total series_eq series_tie series_cmp-IsAntisymmetric es c.insert-2.new.self.entries c.args.series c.new.result c.in_ok-insert-2.ensures.updates.0
          ∙ ap (finite.insert (slots_of es) c.args.series) c.new.ensures;
    })

pub invariant_of-self-2 : goal.invariant_of-self-2
invariant_of-self-2 c =
    let es : SeriesEntries = c.reserve.new.self.entries in
    let listed : AreListed (contains series_cmp c.self.inside.order) es = subst (AreListed (contains series_cmp c.self.inside.order)) (sym c.reserve.ensures.entries) c.self.invariant.1 in
    let mapped = took series_cmp series_cmp_total series_eq series_tie series_cmp-IsAntisymmetric es c.insert-2.new.self.entries c.args.series c.new.result c.in_ok-insert-2.ensures.updates.0 in
    let updates : (q : SeriesKey) → contains series_cmp c.insert.new.self q ≡ cond (is_eq (series_cmp c.args.series q)) true (contains series_cmp c.self.inside.order q) =
    subst (λ (k : SeriesKey). (q : SeriesKey) → contains series_cmp c.insert.new.self q ≡ cond (is_eq (series_cmp k q)) true (contains series_cmp c.self.inside.order q)) c.in_ok-copy.ensures c.in_ok-insert.ensures.updates.0 in
    (c.insert-2.ensures.unique, come_listed (contains series_cmp c.self.inside.order) (contains series_cmp c.insert.new.self) es c.insert-2.new.self.entries c.args.series c.new.result listed updates mapped)
