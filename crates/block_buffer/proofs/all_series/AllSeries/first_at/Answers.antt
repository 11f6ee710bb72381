use Rattle.std.proofs.Common.{ℤ, refl, sym, subst, ◌∙◌, rules, w64}
use Rattle.std.specs.Prelude.{FitsSigned}
use Rattle.std.proofs.lemmas.Int.{to_z-of_z}
use Rattle.series_slots.specs.SeriesEntries.{SeriesEntries, IsAt}
use Rattle.series_slots.specs.Firsts.{IsFirstAt}
use Rattle.block_buffer.proofs.all_series.AllSeries.first_at.Goals as goal

pub returns-then-space_at-ns-clause-none : goal.returns-then-space_at-ns-clause-none
returns-then-space_at-ns-clause-none c e s at is =
    let there : IsAt c.self.inside.placed c.args.position s = subst (λ (ps : SeriesEntries). IsAt ps c.args.position s) (sym c.self.view_is) at in
    absurd (c.if-space_at-ns.true (c.space_at.ensures s there ∙ is))

pub returns-clause-some : goal.returns-clause-some
returns-clause-some c = (
  refl,
  λ s at.
      let there : IsAt c.self.inside.placed c.args.position s = subst (λ (ps : SeriesEntries). IsAt ps c.args.position s) (sym c.self.view_is) at in
      let fits : FitsSigned w64 c.in_ok-t.v = search rules in (
        sym (c.space_at.ensures s there) ∙ c.if-space_at-ns.false,
        subst (λ (z : ℤ). IsFirstAt c.args.self.now c.args.position s c.args.low c.in_ok-t.t z) (sym (to_z-of_z w64 c.in_ok-t.v fits))
            (subst (λ (ps : SeriesEntries). IsFirstAt ps c.args.position s c.args.low c.in_ok-t.t c.in_ok-t.v) c.self.view_is (c.in_ok-t.ensures.some s there)),
      ),
)
