use Rattle.std.proofs.Common.{◌≡◌, ℕ, ◌+◌, ◌<◌, ◌≤◌, ◌^◌, [], ◌∷◌, ◌++◌, None, ap, sym, subst, ◌∙◌, inl, inr, rules, arith}
use Rattle.std.specs.Prelude.{slice_get}
use Rattle.std.specs.FinMap as finite
use Rattle.series_slots.specs.declared.series_key.SeriesKey.{SeriesKey}
use Rattle.series_slots.specs.Points.{slot_at}
use Rattle.series_slots.specs.SeriesEntries.{SeriesEntries, slots_of}
use Rattle.block_buffer.specs.AllSeries.{TimesFit, SpacesBelow, AreNoted}
use Rattle.block_buffer.proofs.PositionLemmas.{last_at}
use Rattle.block_buffer.proofs.SetLemmas.{came}
use Rattle.block_buffer.proofs.EntryLemmas.{times_added, spaces_added}
use Rattle.block_buffer.proofs.SpotLemmas.{noted_added}
use Rattle.block_buffer.proofs.all_series.AllSeries.add.Goals as goal

pub invariant_of-self : goal.invariant_of-self
invariant_of-self c =
    let same = sym c.in_err-position.ensures.err in
    (subst TimesFit same c.self.invariant.0, subst (SpacesBelow c.self.inside.spaces) same c.self.invariant.1, c.self.invariant.2, subst (AreNoted c.self.inside.firsts.spaces.items) same c.self.invariant.3)

pub invariant_of-self-2 : goal.invariant_of-self-2
invariant_of-self-2 c =
    let es : SeriesEntries = c.self.inside.placed in
    let s : SeriesKey = c.args.series in
    let next : ℕ = c.higher_of-self-inside.result in
    let fits : c.args.series.ns < 2 ^ 8 = search rules in
    let low : c.args.series.ns + 1 ≤ next = c.higher_of-self-inside.ensures.second in
    let limit = c.self.invariant.2 in
    let done = c.in_ok-position.ensures.ok in (
      subst TimesFit (sym done.placed) (times_added es s c.self.invariant.0),
      subst (SpacesBelow next) (sym done.placed) (spaces_added c.self.inside.spaces next es s finite.empty c.higher_of-self-inside.ensures.first (omega (arith, low)) c.self.invariant.1),
      elim c.higher_of-self-inside.ensures.one as (λ _. next ≤ 256) [ inl is ↦ omega (arith, is, limit) | inr is ↦ omega (arith, is, fits) ],
      subst (AreNoted c.self.inside.firsts.spaces.items) (sym done.placed) (noted_added c.self.inside.firsts.spaces.items es s c.self.invariant.3),
    )

pub returns-clause-at : goal.returns-clause-at
returns-clause-at c =
    let es : SeriesEntries = c.self.inside.placed in
    let done = c.in_ok-position.ensures.ok in
    ap (λ (ps : SeriesEntries). slice_get ps c.in_ok-position.position) done.placed ∙ ap (slice_get (es ++ (c.args.series, finite.empty) ∷ [])) done.last ∙ last_at es (c.args.series, finite.empty)

pub returns-clause-kept : goal.returns-clause-kept
returns-clause-kept c k =
    let es : SeriesEntries = c.self.inside.placed in
    let none : finite.get (slots_of es) c.args.series ≡ None = subst (λ (ps : SeriesEntries). finite.get (slots_of ps) c.args.series ≡ None) (sym c.self.view_is) c.requires in
    came es c.add.new.self c.args.series c.in_ok-position.position none c.in_ok-position.ensures.ok k ∙ ap (λ (ps : SeriesEntries). slot_at (slots_of ps) k) c.self.view_is
