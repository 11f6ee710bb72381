use Rattle.volume_bytes.proofs.RowLemmas.{pair_more}
use Rattle.volume_bytes.proofs.rows.push_pairs.Goals as goal

pub loop-pair-preserved : goal.loop-pair-preserved
loop-pair-preserved c =
    pair_more c.args.pairs.now c.loop-pair.pair-index c.loop-pair.out.items c.put_number.new.out.items c.put_number-in-loop-pair.new.out.items _ c.cast_unsigned.result c.loop-pair-test.true c.requires
    c.in_ok-put_number.ensures.ok c.in_ok-put_number-2.ensures.ok c.cast_unsigned.ensures c.loop-pair.invariant
