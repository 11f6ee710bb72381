use Rattle.placement_log.specs.declared.open_err.OpenErr.TheVariants as failures
use Rattle.commit_log.proofs.Leaves.{leaves_as, leaves_then}
use Rattle.commit_log.proofs.ReadLemmas.{passed_err}
use Rattle.std.proofs.Common.{◌≤◌, sym, subst}
use Rattle.commit_log.proofs.Numbers.{next_least}
use Rattle.placement_log.proofs.read.read_log.Goals as goal

pub returns-clause-some : goal.returns-clause-some
returns-clause-some g c = subst (λ n. 1 ≤ n) (sym c.in_ok-numbers.ensures.next) (next_least _)

pub returns-in_err-read_segments-clause-leaves : goal.returns-in_err-read_segments-clause-leaves
returns-in_err-read_segments-clause-leaves g c =
    leaves_then _ _ (g.D.Disk.state c.args.disk.now) (g.D.Disk.state c.list_segments.new.disk) (g.D.Disk.state c.read_segments.new.disk) c.in_ok-numbers.ensures.leaves
    (leaves_as _ _ (g.D.Disk.state c.list_segments.new.disk) (g.D.Disk.state c.read_segments.new.disk)
    (λ f. passed_err c.from_residual-in_err-read_segments.result c.read_segments.result c.in_err-read_segments.field-0.0 failures.Disk c.in_err-read_segments.was c.from_residual-in_err-read_segments.ensures.1 f) c.read_segments.ensures.leaves)

pub returns-clause-leaves : goal.returns-clause-leaves
returns-clause-leaves g c =
    leaves_then _ _ (g.D.Disk.state c.args.disk.now) (g.D.Disk.state c.list_segments.new.disk) (g.D.Disk.state c.read_segments.new.disk) c.in_ok-numbers.ensures.leaves
    (leaves_as _ _ (g.D.Disk.state c.list_segments.new.disk) (g.D.Disk.state c.read_segments.new.disk) (λ f. absurd (cc)) c.read_segments.ensures.leaves)

pub returns-clause-state : goal.returns-clause-state
returns-clause-state g c = c.read_segments.ensures.state tt
