use Rattle.std.proofs.Common.{sym, Some, not, rules}
use Rattle.std.proofs.lemmas.List.Sorted.{IsPartitionPoint-from_clause}
use Rattle.page_cut.specs.Pages.{is_past}
use Rattle.page_cut.proofs.PastLemmas.{past_none, partitioned, found_past}
use Rattle.page_cut.proofs.pages.position_after.Goals as goal

pub returns-in-None-clause-past : goal.returns-in-None-clause-past
returns-in-None-clause-past c = rw c.in-None.is (sym (past_none c.args.points.now))

pub returns-in-Some-clause-past : goal.returns-in-Some-clause-past
returns-in-Some-clause-past c =
    let after = Some c.in-Some.key.now in
    let found = IsPartitionPoint-from_clause (λ x. not (is_past after x)) c.args.points.now c.partition_point.result c.partition_point.ensures.partitioned (partitioned after c.args.points.now c.requires) (λ a r f h. search rules) in
    rw c.in-Some.is (found_past after c.args.points.now c.partition_point.result c.partition_point.ensures.bound found)
