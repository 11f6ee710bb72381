use Rattle.std.proofs.Common.{◌≡◌, ℕ, List, ap, sym, ◌∙◌, subst, ◌↔◌}
use Rattle.std.specs.Prelude.{Option, None, MatchOption}
use Rattle.m3_model.specs.declared.point.Key.{Key}
use Rattle.block_buffer.specs.Held.{InMemory}
use Rattle.held_points.specs.Indexed.{IsIndexed, IsIndexedFor}
use Rattle.std.proofs.lemmas.Result.{IfOk-weaker}
use Rattle.m3_model.specs.Members.{IsIn}
use Rattle.m3_model.specs.Contents.{Contents}
use Rattle.m3_model.specs.Answers.{IsAnswer}
use Rattle.m3_model.specs.declared.point.Pick.{Pick}
use Rattle.m3_model.specs.declared.point.Pick.TheVariants as pick
use Rattle.series_slots.specs.Ranges.{IsRangeOf}
use Rattle.held_points.specs.Matched.{HasNoEqual, AreCandidates, IsMatchedBy}
use Rattle.held_points.specs.Selected.{IsSelection}
use Rattle.held_points.proofs.AnswerLemmas.{named_answer, unequal_answer}
use Rattle.held_points.proofs.held.HeldPoints.fetch.Goals as goal

pub returns-in_ok-ids-in-Some : goal.returns-in_ok-ids-in-Some
returns-in_ok-ids-in-Some c =
    let points = c.self.inside.buffer.points in
    let index = c.self.inside.index in
    let none : c.self.inside.buffer.room ≡ None = ap (λ (h : InMemory). h.room) c.self.view_is ∙ c.requires in
    let indexed : IsIndexed points index = subst (λ (o : Option Key). IsIndexedFor o c.self.inside.newly points index) none c.self.invariant in
    let wanted = c.as_slice-wanted.result.now in
    let ids = c.in_ok-ids-in-Some.ids in
    let pick_is : c.args.pick.now ≡ pick.Match c.in-Match.ns wanted = c.in-Match.is ∙ ap (pick.Match c.in-Match.ns) (sym c.as_slice-wanted.ensures) in
    let candidates = subst (λ (o : Option (List ℕ)). MatchOption o (HasNoEqual wanted) (AreCandidates index wanted)) c.in-Some.is c.in_ok-ordinals-in-Match.ensures in
    let named = subst (λ (os : List ℕ). (id : List ℕ) → IsIn ids id ↔ IsMatchedBy index wanted os id) c.as_slice.ensures c.in_ok-ids-in-Some.ensures.exact in
    IfOk-weaker c.ranges-in-Some.result (IsSelection points c.in-Match.ns (IsIn ids) c.args.from c.args.to) (IsAnswer c.args.self.now.points c.args.pick.now c.args.from c.args.to)
    (λ series is.
    subst (λ (held : Contents). IsAnswer held c.args.pick.now c.args.from c.args.to series) (ap (λ (h : InMemory). h.points) c.self.view_is)
    (subst (λ (p : Pick). IsAnswer points p c.args.from c.args.to series) (sym pick_is)
    (named_answer points index c.in-Match.ns c.args.from c.args.to wanted c.in-Some.ordinals ids series indexed candidates named is)))
    c.ranges-in-Some.ensures

pub returns-in_ok-found-in-None : goal.returns-in_ok-found-in-None
returns-in_ok-found-in-None c =
    let points = c.self.inside.buffer.points in
    let wanted = c.as_slice-wanted.result.now in
    let found = c.in_ok-found-in-None.found in
    let pick_is : c.args.pick.now ≡ pick.Match c.in-Match.ns wanted = c.in-Match.is ∙ ap (pick.Match c.in-Match.ns) (sym c.as_slice-wanted.ensures) in
    let none = subst (λ (o : Option (List ℕ)). MatchOption o (HasNoEqual wanted) (AreCandidates c.self.inside.index wanted)) c.in-None.is c.in_ok-ordinals-in-Match.ensures in
    let range = subst (λ (p : Pick). IsRangeOf points p c.args.from c.args.to found) pick_is c.in_ok-found-in-None.ensures in
    subst (λ (held : Contents). IsAnswer held c.args.pick.now c.args.from c.args.to c.unequal.result) (ap (λ (h : InMemory). h.points) c.self.view_is)
    (subst (λ (p : Pick). IsAnswer points p c.args.from c.args.to c.unequal.result) (sym pick_is)
    (unequal_answer points c.in-Match.ns c.args.from c.args.to wanted found c.unequal.result none range c.unequal.ensures.ordered c.unequal.ensures.exact))
