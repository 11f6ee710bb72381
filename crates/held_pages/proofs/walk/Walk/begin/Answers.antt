use Rattle.std.proofs.Common.{◌≡◌, List, ℕ, [], sym, subst, rules}
use Rattle.std.specs.Prelude.{Option, Some}
use Rattle.std.specs.Option.{option_copied}
use Rattle.m3_model.specs.declared.point.Key.{Key}
use Rattle.m3_model.specs.declared.point.Point.{Point}
use Rattle.series_slots.specs.SeriesKeys.{series_of}
use Rattle.held_pages.specs.Walks.{IsCursor, IsPartWalked}
use Rattle.held_pages.proofs.WalkLemmas.{begun, from_later}
use Rattle.held_pages.proofs.walk.Walk.begin.Goals as goal

pub returns-in_ok-id-in-Some : goal.returns-in_ok-id-in-Some
returns-in_ok-id-in-Some c d limit ends =
    let key : Key = c.in-Some.key.now in
    let low = c.after.result in
    let last : option_copied c.args.last ≡ Some key = search rules in
    let at : IsCursor d (Some key) (series_of key) low = λ k v stands. from_later key k low c.after.ensures (ends k v stands) in
    subst (λ (o : Option Key). IsPartWalked d o limit c.new-in-Some.result.items (record { ns = key.ns; id = c.in_ok-id-in-Some.id }) low) (sym last)
    (subst (λ (ps : List Point). IsPartWalked d (Some key) limit ps (record { ns = key.ns; id = c.in_ok-id-in-Some.id }) low) (sym c.new-in-Some.ensures.items)
    (subst (λ (id : List ℕ). IsPartWalked d (Some key) limit [] (record { ns = key.ns; id = id }) low) (sym c.in_ok-id-in-Some.ensures) (begun d (Some key) limit (series_of key) low at)))
