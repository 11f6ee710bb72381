use Rattle.std.proofs.Common.{map, ap, ◌∙◌, rules}
use Rattle.std.specs.Prelude.{nat_lt}
use Rattle.std.specs.List.{filter}
use Rattle.std.proofs.lemmas.Fn.{filter_same}
use Rattle.log_chunks.specs.m3_outside.declared.disk_err.DiskErr.TheVariants.{Failed as DiskFailed}
use Rattle.commit_log.specs.Segment.{segment}
use Rattle.commit_log.proofs.Leaves.{leaves_as, leaves_then}
use Rattle.commit_log.proofs.ReadLemmas.{passed_err}
use Rattle.commit_log.proofs.cut.find_below.Goals as goal

pub returns-in_err-reserve-clause-leaves : goal.returns-in_err-reserve-clause-leaves
returns-in_err-reserve-clause-leaves g c =
    leaves_then _ _ (g.D.Disk.state c.args.disk.now) (g.D.Disk.state c.segment_numbers.new.disk) (g.D.Disk.state c.reserve.new.self) c.in_ok-numbers.ensures.leaves
    (leaves_as _ _ (g.D.Disk.state c.segment_numbers.new.disk) (g.D.Disk.state c.reserve.new.self)
    (λ f. passed_err c.from_residual-in_err-reserve.result c.reserve.result c.in_err-reserve.field-0.0 DiskFailed c.in_err-reserve.was c.from_residual-in_err-reserve.ensures.1 f) c.reserve.ensures.leaves)

pub returns-clause-leaves : goal.returns-clause-leaves
returns-clause-leaves g c =
    leaves_then _ _ (g.D.Disk.state c.args.disk.now) (g.D.Disk.state c.segment_numbers.new.disk) (g.D.Disk.state c.reserve.new.self) c.in_ok-numbers.ensures.leaves
    (leaves_as _ _ (g.D.Disk.state c.segment_numbers.new.disk) (g.D.Disk.state c.reserve.new.self) (λ f. absurd (cc)) c.reserve.ensures.leaves)

pub returns-clause-ok : goal.returns-clause-ok
returns-clause-ok g c = λ t.
    c.in_ok-names.ensures ∙ ap (map segment) (c.deref.ensures.value ∙ filter_same _ (λ n. nat_lt n c.args.number) _ (λ x b q r. search rules) _ _ c.retain.ensures.filtered
    ∙ ap (filter (λ n. nat_lt n c.args.number)) (c.in_ok-numbers.ensures.ok t))
