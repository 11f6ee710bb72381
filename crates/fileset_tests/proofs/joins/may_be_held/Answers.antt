use Rattle.volume_bytes.specs.Heads.{head_of}
use Rattle.volume_points.proofs.VolumeLemmas.{row_points}
use Rattle.fileset_tests.proofs.joins.may_be_held.Goals as goal

pub returns-then-is_volume-clause-bounded : goal.returns-then-is_volume-clause-bounded
returns-then-is_volume-clause-bounded c = λ filled p m.
    let of = row_points (head_of c.args.head.now) c.args.rows.now p (c.is_volume.ensures.0 c.if-is_volume.true) m in (of.bounded, (of.low, of.high))
