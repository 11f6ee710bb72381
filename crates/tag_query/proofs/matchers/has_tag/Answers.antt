use Rattle.std.proofs.Common.{subst, sym, ◌∙◌, inl, inr, refl, true≢false}
use Rattle.std.specs.Prelude.{IsTrue}
use Rattle.m3_model.specs.Members.{IsIn}
use Rattle.m3_model.proofs.Lists.{IsIn-get_or}
use Rattle.tag_query.proofs.Members.{at_or_later}
use Rattle.tag_query.proofs.matchers.has_tag.Goals as goal

pub returns-then-is_tag : goal.returns-then-is_tag
returns-then-is_tag c =
    let here : IsIn c.args.tags.now c.tag-item.result = subst (IsIn c.args.tags.now) (sym c.tag-item.is) (IsIn-get_or c.args.tags.now c.loop-tag.tag-index c.tag-item.result c.loop-tag-test.true) in
    ((λ _. subst (IsIn c.args.tags.now) (c.is_tag.ensures.0 (subst IsTrue (sym c.if-is_tag.true) refl)) here), (λ _. refl))

pub loop-tag-preserved : goal.loop-tag-preserved
loop-tag-preserved c m =
    elim (at_or_later c.args.tags.now c.loop-tag.tag-index c.tag-item.result (c.args.name.now, c.args.value.now) c.loop-tag-test.true (c.loop-tag.invariant m)) [
      | inl here ↦ absurd (true≢false (sym (c.is_tag.ensures.1 (c.tag-item.is ∙ here)) ∙ c.if-is_tag.false))
      | inr later ↦ later
    ]
