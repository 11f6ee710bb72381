use Rattle.std.proofs.Common.{◌≡◌, drop}
use Rattle.line_parse.specs.Contents.{contents}
use Rattle.line_lists.specs.Lists.{entries_of}
use Rattle.line_lists.proofs.Entries.{with_front}
use Rattle.line_lists.proofs.lists.entries_of.Given as goal

abbrev pub invariant-loop-item : goal.invariant-loop-item
invariant-loop-item g l = with_front l.entries.items (entries_of g.E.Entry.reading (contents (drop l.item-index l.items))) ≡ entries_of g.E.Entry.reading (contents l.items)
