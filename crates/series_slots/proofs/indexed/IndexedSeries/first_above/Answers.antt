use Rattle.std.proofs.Common.{◌≡◌, ℤ, None, ◌∷◌, refl, sym, subst, ◌∙◌, rules, w64}
use Rattle.std.specs.Prelude.{FitsSigned}
use Rattle.std.specs.BTreeSet.{contains}
use Rattle.std.proofs.lemmas.Int.{to_z-of_z}
use Rattle.series_slots.specs.declared.series_key.SeriesKey.{SeriesKey}
use Rattle.series_slots.specs.SeriesKeys.{series_cmp}
use Rattle.series_slots.specs.Points.{points_of}
use Rattle.series_slots.specs.SeriesEntries.{SeriesEntries, slots_of}
use Rattle.series_slots.specs.Above.{IsFirstAbove}
use Rattle.series_slots.proofs.OrderLemmas.{IsAhead, all_ahead, one_gone, one_found}
use Rattle.series_slots.proofs.indexed.IndexedSeries.first_above.Goals as goal

pub loop-next-init : goal.loop-next-init
loop-next-init c =
    let es : SeriesEntries = c.self.inside.map.entries in
    let after : SeriesKey = c.args.series.now in
    let gives = c.into_iter-next-iterator.ensures.into_iter_gives ∙ c.range-next-items.ensures.between tt in
    subst (λ (ps : SeriesEntries). IsAhead ps after c.into_iter-next-iterator.result) c.self.view_is
    (subst (IsAhead es after) (sym gives) (all_ahead (contains series_cmp c.self.inside.order) es after c.self.inside.order.keys c.self.invariant.1 (λ s. refl) c.range-next-items.ensures.ordered))

pub returns-in-Some-first_of-clause-some : goal.returns-in-Some-first_of-clause-some
returns-in-Some-first_of-clause-some c =
    let es : SeriesEntries = c.args.self.now in
    let after : SeriesKey = c.args.series.now in
    let x : SeriesKey = c.in-Some.next.now in
    let steps : c.loop-next.next-iterator ≡ x ∷ c.next.new.self = search rules in
    let fits : FitsSigned w64 c.in-Some-first_of.v = search rules in
    subst (λ (z : ℤ). IsFirstAbove (points_of (slots_of es)) after x c.in-Some-first_of.t z) (sym (to_z-of_z w64 c.in-Some-first_of.v fits))
    (one_found es after x c.next.new.self c.in-Some-first_of.t c.in-Some-first_of.v (subst (IsAhead es after) steps c.loop-next.invariant) c.in-Some-first_of.ensures.some)

pub loop-next-preserved : goal.loop-next-preserved
loop-next-preserved c =
    let es : SeriesEntries = c.args.self.now in
    let after : SeriesKey = c.args.series.now in
    let x : SeriesKey = c.in-Some.next.now in
    let steps : c.loop-next.next-iterator ≡ x ∷ c.next.new.self = search rules in
    let none : c.first_of.result ≡ None = search rules in
    one_gone es after x c.next.new.self (subst (IsAhead es after) steps c.loop-next.invariant) (c.first_of.ensures.none none)
