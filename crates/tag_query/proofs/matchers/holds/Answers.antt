use Rattle.std.proofs.Common.{◌≡◌, subst, sym, ◌∙◌, ap, true≢false, get_or, length, ◌<◌}
use Rattle.std.specs.Prelude.{IsTrue}
use Rattle.m3_model.specs.Members.{IsIn}
use Rattle.m3_model.specs.Tags.{MatcherHolds}
use Rattle.m3_model.proofs.Lists.{IsIn-get_or}
use Rattle.tag_query.proofs.matchers.holds.Goals as goal

pub returns-then-not-meets : goal.returns-then-not-meets
returns-then-not-meets c =
    let list : c.as_slice-matcher-items.result.now ≡ c.args.wanted.now = c.as_slice-matcher-items.ensures in
    let here : IsIn c.args.wanted.now c.matcher-item.result = subst (IsIn c.args.wanted.now) (ap (λ xs. get_or xs c.loop-matcher.matcher-index c.matcher-item.result) (sym list) ∙ sym c.matcher-item.is) (IsIn-get_or c.args.wanted.now c.loop-matcher.matcher-index c.matcher-item.result (subst (λ xs. c.loop-matcher.matcher-index < length xs) list c.loop-matcher-test.true)) in
    ((λ wrong. absurd (true≢false (sym wrong))), (λ all. subst IsTrue c.if-not-meets.true (c.meets.ensures.1 (subst (λ tags. MatcherHolds tags c.matcher-item.result) (sym c.as_slice.ensures) (all c.matcher-item.result here)))))
