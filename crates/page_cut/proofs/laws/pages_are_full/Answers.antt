use Rattle.page_cut.specs.Pages.{points_past}
use Rattle.page_cut.proofs.PageLemmas.{limited, filled}
use Rattle.page_cut.proofs.laws.pages_are_full.Goals as goal

pub returns-clause-limited : goal.returns-clause-limited
returns-clause-limited c points limit after = limited limit (points_past after points)

pub returns-clause-filled : goal.returns-clause-filled
returns-clause-filled c points limit after = filled limit (points_past after points)
