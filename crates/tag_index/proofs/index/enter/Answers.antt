use Rattle.std.proofs.Common.{◌∙◌, ◌&&◌, ap, not}
use Rattle.tag_index.specs.Links.{is_link_of, is_linked_in}
use Rattle.tag_links.proofs.LinkLemmas.{rolled_back}
use Rattle.tag_index.proofs.index.enter.Goals as goal

pub returns-in-Err-clause-unlinked : goal.returns-in-Err-clause-unlinked
returns-in-Err-clause-unlinked c q =
    rolled_back c.args.entry.tags c.args.ordinal q _ (is_linked_in c.link_and_number.new.links q) _ (c.requires q) (c.link_and_number.ensures.kept q)
    (c.unlink.ensures q ∙ ap (λ tags. is_linked_in c.link_and_number.new.links q && not (is_link_of tags c.args.ordinal q)) c.as_slice.ensures)
