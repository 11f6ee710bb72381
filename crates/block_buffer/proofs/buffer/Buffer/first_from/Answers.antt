use Rattle.std.proofs.Common.{◌≡◌, ℤ, None, refl, sym, subst, rules, w64}
use Rattle.std.specs.Prelude.{FitsSigned}
use Rattle.std.proofs.lemmas.Int.{to_z-of_z}
use Rattle.std.specs.FinMap as finite
use Rattle.series_slots.specs.SeriesKeys.{key_at}
use Rattle.block_buffer.specs.FirstOf.{IsFirstOf}
use Rattle.block_buffer.specs.Held.{InMemory}
use Rattle.block_buffer.proofs.FirstOfLemmas.{none_of_absent, none_of_later, first_of_series}
use Rattle.block_buffer.proofs.buffer.Buffer.first_from.Goals as goal

pub returns-in_err-position-clause-none : goal.returns-in_err-position-clause-none
returns-in_err-position-clause-none c e q le =
    subst (λ (h : InMemory). finite.get h.points (key_at c.args.series.now q) ≡ None) c.self.view_is (none_of_absent c.self.inside.all c.args.series.now c.args.low (c.in_err-position.ensures.absent refl) q le)

pub returns-in_err-spot-clause-none : goal.returns-in_err-spot-clause-none
returns-in_err-spot-clause-none c e q le =
    subst (λ (h : InMemory). finite.get h.points (key_at c.args.series.now q) ≡ None) c.self.view_is
    (none_of_later c.self.inside.all c.args.series.now c.args.low (c.in_err-spot.ensures.none refl c.args.series.now c.in_ok-position.ensures.there refl) q le)

pub returns-clause-some : goal.returns-clause-some
returns-clause-some c =
    let fits : FitsSigned w64 c.in_ok-spot.spot.v = search rules in
    let spot = c.in_ok-spot.spot in
    let first = (c.in_ok-spot.ensures.some.1 c.args.series.now c.in_ok-position.ensures.there).1 in
    subst (λ (z : ℤ). IsFirstOf c.args.self.now.points c.args.series.now c.args.low spot.t z) (sym (to_z-of_z w64 spot.v fits))
    (subst (λ (h : InMemory). IsFirstOf h.points c.args.series.now c.args.low spot.t spot.v) c.self.view_is (first_of_series c.self.inside.all c.in_ok-position.position c.args.series.now c.args.low spot.t spot.v first))
