use Rattle.std.proofs.Common.{◌≡◌, List, ◌++◌, Some, ap, sym, subst, ◌∙◌, append-nil}
use Rattle.std.specs.Prelude.{slice_get, OnOk}
use Rattle.std.specs.List.{filter_map}
use Rattle.std.specs.FinMap as map
use Rattle.m3_model.specs.declared.point.Series.{Series}
use Rattle.series_slots.specs.declared.series_key.SeriesKey.{SeriesKey}
use Rattle.series_slots.specs.Slots.{Slots, valued_in}
use Rattle.series_slots.specs.SeriesEntries.{SeriesEntries}
use Rattle.series_slots.specs.Ranges.{some_series}
use Rattle.series_slots.proofs.AnswerLemmas.{other_space, its_range}
use Rattle.series_slots.proofs.indexed.IndexedSeries.push_range_at.Goals as goal

pub returns-then-space_at-ns-clause-ok : goal.returns-then-space_at-ns-clause-ok
returns-then-space_at-ns-clause-ok c s slots at =
    let space = c.space_at.ensures s (record { slots = slots; entry = at }) in
    sym (ap (λ (xs : List Series). c.args.found.now.items ++ xs) (other_space c.args.ns c.args.from c.args.to (s, slots) (λ is. c.if-space_at-ns.true (space ∙ is))) ∙ append-nil c.args.found.now.items)

pub returns-in-Some-clause-ok : goal.returns-in-Some-clause-ok
returns-in-Some-clause-ok c s slots at =
    let es : SeriesEntries = c.self.inside.map.entries in
    let there : slice_get es c.args.position ≡ Some (s, slots) = subst (λ (ps : SeriesEntries). slice_get ps c.args.position ≡ Some (s, slots)) (sym c.self.view_is) at in
    let pair : Some (c.in-Some.series.now, c.in-Some.buffer.now) ≡ Some (s, slots) = c.in-Some.ensures.entry ∙ there in
    let same : (c.in-Some.series.now, c.in-Some.buffer.now) ≡ (s, slots) = cc in
    let is : s.ns ≡ c.args.ns = sym (c.space_at.ensures s (record { slots = slots; entry = at })) ∙ c.if-space_at-ns.false in
    subst (λ (xs : List Series). OnOk c.push_range.result (c.push_range.new.found.items ≡ c.args.found.now.items ++ xs)) (sym (its_range c.args.ns c.args.from c.args.to (s, slots) is))
    (subst (λ (e : SeriesKey × Slots). OnOk c.push_range.result (c.push_range.new.found.items ≡ c.args.found.now.items ++ some_series e.0.id (filter_map (valued_in c.args.from c.args.to) (map.entries e.1)))) same c.push_range.ensures.ok)
