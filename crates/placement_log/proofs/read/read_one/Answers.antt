use Rattle.std.proofs.Common.{sym, subst}
use Rattle.commit_log.specs.Contents.{segment_bytes}
use Rattle.placement_log.specs.Damage.{MayBeBroken}
use Rattle.placement_log.proofs.ReadLemmas.{broken_in}
use Rattle.placement_log.proofs.read.read_one.Goals as goal

pub returns-clause-err : goal.returns-clause-err
returns-clause-err g c = λ t.
    let files = (g.D.Disk.state c.args.disk.now).files in
    subst (MayBeBroken c.args.number files) (sym c.in_segment.ensures) (broken_in c.args.number files c.in-Err.e (c.in-Err.ensures.err (segment_bytes c.args.number files) (c.in_ok-front.ensures.ok t)))
