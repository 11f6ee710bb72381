use Rattle.std.proofs.Common.{◌≡◌, ap, sym, ◌∙◌, subst, Some, None, List, [], ◌++◌}
use Rattle.std.specs.FinMap as finite
use Rattle.m3_model.specs.declared.point.Series.{Series}
use Rattle.m3_model.specs.declared.point.Pick.TheVariants as pick
use Rattle.series_slots.specs.declared.series_key.SeriesKey.{SeriesKey}
use Rattle.series_slots.specs.Points.{points_of}
use Rattle.series_slots.specs.SeriesEntries.{SeriesEntries, slots_of}
use Rattle.series_slots.specs.Ranges.{IsRangeOf, some_series}
use Rattle.series_slots.proofs.SeriesLemmas.{placed_at}
use Rattle.series_slots.proofs.AnswerLemmas.{no_range, one_range, pairs_of}
use Rattle.series_slots.proofs.indexed.IndexedSeries.range_of.Goals as goal

pub returns-in_ok-push_range-in-Some : goal.returns-in_ok-push_range-in-Some
returns-in_ok-push_range-in-Some c =
    let key : SeriesKey = record { ns = c.args.ns; id = c.args.id.now } in
    let same : record { ns = c.args.ns; id = c.in_ok-copy.field-0 } ≡ key = ap (λ id. record { ns = c.args.ns; id = id }) c.in_ok-copy.ensures in
    let there : finite.get (slots_of c.self.inside.map.entries) key ≡ Some c.in-Some.buffer.now =
    ap (finite.get (slots_of c.self.inside.map.entries)) (sym same) ∙ placed_at c.self.inside.map.entries _ ∙ sym c.in-Some.ensures.value in
    let found : c.from_vec.result ≡ some_series c.args.id.now (pairs_of c.args.from c.args.to c.in-Some.buffer.now) =
    c.from_vec.ensures ∙ c.in_ok-push_range-in-Some.ensures.ok ∙ ap (λ (xs : List Series). xs ++ some_series c.args.id.now (pairs_of c.args.from c.args.to c.in-Some.buffer.now)) c.new-found.ensures.items in
    subst (IsRangeOf (points_of (slots_of c.args.self.now)) (pick.One c.args.ns c.args.id.now) c.args.from c.args.to) (sym found)
    (subst (λ (es : SeriesEntries). IsRangeOf (points_of (slots_of es)) (pick.One c.args.ns c.args.id.now) c.args.from c.args.to (some_series c.args.id.now (pairs_of c.args.from c.args.to c.in-Some.buffer.now))) c.self.view_is
    (one_range (slots_of c.self.inside.map.entries) c.args.ns c.args.id.now c.args.from c.args.to c.in-Some.buffer.now there))

pub returns-in-None : goal.returns-in-None
returns-in-None c =
    let key : SeriesKey = record { ns = c.args.ns; id = c.args.id.now } in
    let same : record { ns = c.args.ns; id = c.in_ok-copy.field-0 } ≡ key = ap (λ id. record { ns = c.args.ns; id = id }) c.in_ok-copy.ensures in
    let gone : finite.get (slots_of c.self.inside.map.entries) key ≡ None =
    ap (finite.get (slots_of c.self.inside.map.entries)) (sym same) ∙ placed_at c.self.inside.map.entries _ ∙ sym c.in-None.ensures.value in
    subst (IsRangeOf (points_of (slots_of c.args.self.now)) (pick.One c.args.ns c.args.id.now) c.args.from c.args.to) (sym c.new.ensures)
    (subst (λ (es : SeriesEntries). IsRangeOf (points_of (slots_of es)) (pick.One c.args.ns c.args.id.now) c.args.from c.args.to []) c.self.view_is
    (no_range (slots_of c.self.inside.map.entries) c.args.ns c.args.id.now c.args.from c.args.to gone))
