use Rattle.std.proofs.Common.{◌≡◌, ℤ, None, ap, sym, subst, ◌∙◌, rules, w64}
use Rattle.std.specs.Prelude.{FitsSigned}
use Rattle.std.proofs.lemmas.Int.{to_z-of_z}
use Rattle.m3_model.specs.Contents.{Contents}
use Rattle.m3_model.specs.declared.point.Point.{Point}
use Rattle.series_slots.specs.declared.series_key.SeriesKey.{SeriesKey}
use Rattle.held_pages.specs.Walks.{IsFirstOn}
use Rattle.held_pages.proofs.WalkLemmas.{found_here, found_above}
use Rattle.held_pages.proofs.walk.first_on.Goals as goal

pub returns-in-Some : goal.returns-in-Some
returns-in-Some c =
    let points : Contents = c.args.held.now.points in
    let s : SeriesKey = c.args.series.now in
    let fits : FitsSigned w64 c.in-Some.v = search rules in
    let same = c.in_ok-point.ensures ∙ ap (λ (z : ℤ). let p : Point = record { ns = s.ns; id = s.id; t = c.in-Some.t; v = z } in p) (to_z-of_z w64 c.in-Some.v fits) in
    subst (IsFirstOn points s c.args.low) (sym same) (found_here points s c.args.low c.in-Some.t c.in-Some.v c.in-Some.ensures.some)

pub returns-in_ok-point-in-Some-first_above : goal.returns-in_ok-point-in-Some-first_above
returns-in_ok-point-in-Some-first_above c =
    let points : Contents = c.args.held.now.points in
    let s : SeriesKey = c.args.series.now in
    let found = c.in-Some-first_above in
    let later : SeriesKey = found.later.now in
    let none : c.first_from.result ≡ None = search rules in
    let fits : FitsSigned w64 c.in-Some-first_above.v = search rules in
    let same = c.in_ok-point-in-Some-first_above.ensures ∙ ap (λ (z : ℤ). let p : Point = record { ns = later.ns; id = later.id; t = found.t; v = z } in p) (to_z-of_z w64 c.in-Some-first_above.v fits) in
    subst (IsFirstOn points s c.args.low) (sym same) (found_above points s later c.args.low found.t found.v (c.first_from.ensures.none none) found.ensures.some)
