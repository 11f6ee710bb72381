use Rattle.std.proofs.Common.{false}
use Rattle.event_book.proofs.Opening.{starts_kept}
use Rattle.event_book.proofs.blank.Blank.new.Goals as goal

pub of_words-requires : goal.of_words-requires
of_words-requires g c = starts_kept g.E.Entries.lawful (g.E.Entries.starts false)
