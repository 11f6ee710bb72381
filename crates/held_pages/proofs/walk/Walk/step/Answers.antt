use Rattle.std.proofs.Common.{◌≡◌, ◌<◌, List, [], ◌∷◌, ◌++◌, length, sym, subst, rules, arith}
use Rattle.std.specs.Prelude.{Option, Some, MatchOption}
use Rattle.m3_model.specs.Contents.{Contents}
use Rattle.m3_model.specs.declared.point.Point.{Point}
use Rattle.series_slots.specs.declared.series_key.SeriesKey.{SeriesKey}
use Rattle.held_pages.specs.Walks.{HasNoneOn, IsFirstOn, IsPartWalked}
use Rattle.held_pages.proofs.WalkLemmas.{pushed}
use Rattle.held_pages.proofs.walk.Walk.step.Goals as goal

pub returns-clause-part : goal.returns-clause-part
returns-clause-part c ends last was =
    let points : Contents = c.args.held.now.points in
    let s : SeriesKey = c.args.self.now.series in
    let low = c.args.self.now.low in
    let first : List Point = c.args.self.now.first.items in
    let p : Point = c.in-Some.point in
    let later = c.after-self.result in
    let some : c.in_ok-point.field-0 ≡ Some p = search rules in
    let is : IsFirstOn points s low p = subst (λ (o : Option Point). MatchOption o (HasNoneOn points s low) (IsFirstOn points s low)) some c.in_ok-point.ensures in
    let few : length first < c.args.limit = search arith in
    subst (λ (ps : List Point). IsPartWalked points last c.args.limit ps c.set.new.self later) (sym c.in_ok-push.ensures.items)
    (subst (λ (q : SeriesKey). IsPartWalked points last c.args.limit (first ++ p ∷ []) q later) (sym c.in_ok-set.ensures)
    (pushed points last c.args.limit first s low p later ends was few is c.after-self.ensures))
