use Rattle.std.proofs.Common.{length}
use Rattle.held_pages.proofs.rising.+hold_new.Given as goal

abbrev pub decreases-hold_new : goal.decreases-hold_new
decreases-hold_new l = length l.rises.now
