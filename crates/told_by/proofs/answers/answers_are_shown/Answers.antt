use Rattle.told_by.proofs.FoundLemmas.{found_is_shown}
use Rattle.told_by.proofs.PageLemmas.{page_is_shown}
use Rattle.told_by.proofs.answers.answers_are_shown.Goals as goal

pub returns-clause-found : goal.returns-clause-found
returns-clause-found c = found_is_shown

pub returns-clause-page : goal.returns-clause-page
returns-clause-page c = page_is_shown
