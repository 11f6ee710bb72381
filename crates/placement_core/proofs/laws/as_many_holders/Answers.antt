use Rattle.placement_core.proofs.HolderLemmas.{many_holders, distinct_holders, many_former, counted_hold}
use Rattle.placement_core.proofs.laws.as_many_holders.Goals as goal

pub returns : goal.returns
returns c = record { many = many_holders; distinct = distinct_holders; former = many_former; counted = counted_hold }
