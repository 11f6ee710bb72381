use Rattle.std.proofs.Common.{None, ◌∙◌}
use Rattle.page_cut.proofs.PageLemmas.{whole_from}
use Rattle.page_cut.proofs.PastLemmas.{past_none}
use Rattle.page_cut.proofs.laws.pages_hold_the_list.Goals as goal

pub returns : goal.returns
returns c points limit pages some up h = whole_from points limit None pages some up h ∙ past_none points
