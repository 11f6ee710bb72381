use Rattle.std.proofs.Common.{None, length, arith}
use Rattle.page_cut.specs.Pages.{points_past}
use Rattle.page_cut.proofs.PageLemmas.{pages_from}
use Rattle.page_cut.proofs.laws.pages_end.Goals as goal

pub returns : goal.returns
returns c points limit some up = pages_from (length (points_past None points)) points limit None some up (omega arith)
