use Rattle.std.proofs.Common.{◌||◌, ◌&&◌, ◌∙◌, ◌∷◌, [], ap, sym, not, take, get_or}
use Rattle.std.proofs.lemmas.List.{take_more}
use Rattle.tag_links.specs.Links.{is_link_of, is_linked_in}
use Rattle.tag_links.proofs.LinkLemmas.{is_link_of-append, unlinked_more}
use Rattle.tag_links.proofs.unlink.Goals as goal

pub loop-tag-preserved : goal.loop-tag-preserved
loop-tag-preserved c q =
    unlinked_more _ _ _ _ (c.unlink_one.ensures q) _ (c.loop-tag.invariant q)
    ∙ ap (λ b. is_linked_in c.args.links.now q && not b)
    (sym (ap (λ tags. is_link_of tags c.args.ordinal q) (take_more c.args.tags.now c.loop-tag.tag-index c.tag-item.result c.loop-tag-test.true)
    ∙ is_link_of-append (take c.loop-tag.tag-index c.args.tags.now) (get_or c.args.tags.now c.loop-tag.tag-index c.tag-item.result ∷ []) c.args.ordinal q
    ∙ ap (λ tag. is_link_of (take c.loop-tag.tag-index c.args.tags.now) c.args.ordinal q || is_link_of (tag ∷ []) c.args.ordinal q) (sym c.tag-item.is)))
