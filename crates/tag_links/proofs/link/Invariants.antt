use Rattle.std.proofs.Common.{◌≡◌, ◌||◌, take}
use Rattle.tag_links.specs.Links.{Link, is_link_of, is_linked_in}
use Rattle.tag_links.proofs.link.Given as goal

abbrev pub invariant-loop-tag : goal.invariant-loop-tag
invariant-loop-tag l = (q : Link) → is_linked_in l.links q ≡ (is_linked_in l.fn.links q || is_link_of (take l.tag-index l.tags) l.ordinal q)
