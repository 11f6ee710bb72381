use Rattle.net_plan.proofs.RowLemmas.{finds_listed, delivers_others, lists_found}
use Rattle.net_plan.proofs.laws.fates_are_listed.Goals as goal

pub returns-clause-finds : goal.returns-clause-finds
returns-clause-finds c = finds_listed

pub returns-clause-delivers : goal.returns-clause-delivers
returns-clause-delivers c = delivers_others

pub returns-clause-lists : goal.returns-clause-lists
returns-clause-lists c = lists_found
