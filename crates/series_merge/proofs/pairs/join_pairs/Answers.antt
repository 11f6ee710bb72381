use Rattle.series_merge.proofs.PairLemmas.{appended}
use Rattle.series_merge.proofs.pairs.join_pairs.Goals as goal

pub returns-then-ends_before-2 : goal.returns-then-ends_before-2
returns-then-ends_before-2 c =
    appended c.args.one c.args.other c.as_slice-else-ends_before.result.now c.as_slice-else-ends_before-2.result.now c.as_slice-then-ends_before-2.result.now c.append-then-ends_before-2.result c.as_slice-else-ends_before.ensures c.as_slice-else-ends_before-2.ensures
    c.as_slice-then-ends_before-2.ensures (c.ends_before-else-ends_before.ensures c.if-ends_before-2.true) c.append-then-ends_before-2.ensures
