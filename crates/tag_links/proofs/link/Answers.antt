use Rattle.std.proofs.Common.{◌||◌, ◌∙◌, ◌∷◌, [], ap, sym, take, get_or}
use Rattle.std.proofs.lemmas.List.{take_more}
use Rattle.std.proofs.Math.Bool.{or-false}
use Rattle.tag_links.specs.Links.{is_link_of, is_linked_in}
use Rattle.tag_links.proofs.LinkLemmas.{none_taken, is_link_of-append, linked_more}
use Rattle.tag_links.proofs.link.Goals as goal

pub returns-in_err-link_one-clause-kept : goal.returns-in_err-link_one-clause-kept
returns-in_err-link_one-clause-kept c q none =
    c.in_err-link_one.ensures.err q
    ∙ c.loop-tag.invariant q
    ∙ ap (λ b. is_linked_in c.args.links.now q || b) (none_taken c.args.tags.now c.loop-tag.tag-index c.args.ordinal q none) ∙ or-false _

pub loop-tag-preserved : goal.loop-tag-preserved
loop-tag-preserved c q =
    linked_more _ _ _ _ (c.in_ok-link_one.ensures.ok q) _ (c.loop-tag.invariant q)
    ∙ ap (λ b. is_linked_in c.args.links.now q || b)
    (sym (ap (λ tags. is_link_of tags c.args.ordinal q) (take_more c.args.tags.now c.loop-tag.tag-index c.tag-item.result c.loop-tag-test.true)
    ∙ is_link_of-append (take c.loop-tag.tag-index c.args.tags.now) (get_or c.args.tags.now c.loop-tag.tag-index c.tag-item.result ∷ []) c.args.ordinal q
    ∙ ap (λ tag. is_link_of (take c.loop-tag.tag-index c.args.tags.now) c.args.ordinal q || is_link_of (tag ∷ []) c.args.ordinal q) (sym c.tag-item.is)))
