-- Links from tags to the ordinals of series.
use Rattle.std.specs.Prelude.{Option, Some, None, Bool, false}
use Rattle.tag_index.specs.declared.entry.Entry.{Entry}
pub use Rattle.tag_links.specs.Links.{Link, link_of, is_link_of, is_linked_in}

-- whether it is a link of the series at its ordinal
abbrev pub is_linked : Option Entry → Link → Bool
is_linked None q = false
is_linked (Some e) q = is_link_of e.tags q.ordinal q
