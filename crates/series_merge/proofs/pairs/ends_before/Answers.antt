use Rattle.std.proofs.lemmas.Bool.{ltb-true}
use Rattle.series_merge.proofs.PairLemmas.{ends_apart}
use Rattle.series_merge.proofs.pairs.ends_before.Goals as goal

pub returns-in-Some-Some : goal.returns-in-Some-Some
returns-in-Some-Some c earlier one_ascends other_ascends =
    let last = c.in-Some-Some.ensures.item in
    let first = c.in-Some-Some.ensures'.item in
    ends_apart c.args.one.now c.args.other.now c.in-Some-Some.last.now c.in-Some-Some.first.now last.3.0 last.1 first.1 (ltb-true c.in-Some-Some.last.now.0 c.in-Some-Some.first.now.0 earlier) one_ascends other_ascends
