use Rattle.std.proofs.Common.{◌∙◌, sym, refl}
use Rattle.std.proofs.lemmas.Result.{on_ok_weaker}
use Rattle.listed_volumes.proofs.commit_log_proofs.Leaves.{leaves_as}
use Rattle.listed_volumes.proofs.ReadLemmas.{not_fault}
use Rattle.joined_reads.specs.Beside.{content_beside}
use Rattle.joined_reads.proofs.BesideLemmas.{adds_none, points_added, points_stay}
use Rattle.joined_reads.proofs.rising.add_risen.Goals as goal

pub returns-then-not-branch-clause-points : goal.returns-then-not-branch-clause-points
returns-then-not-branch-clause-points g c = λ tells.
    points_stay (content_beside c.args.held.now.points c.args.volumes.now) c.args.point.now c.args.found.now.items c.args.found.now.items (sym (c.in_ok-is_risen.ensures.risen tells) ∙ c.if-not-branch.true) refl

pub returns-then-not-branch-clause-adds : goal.returns-then-not-branch-clause-adds
returns-then-not-branch-clause-adds g c = adds_none _ c.args.found.now.items c.args.found.now.items refl

pub returns-clause-points : goal.returns-clause-points
returns-clause-points g c = λ tells.
    on_ok_weaker c.add_rise.result (λ is. points_added (content_beside c.args.held.now.points c.args.volumes.now) c.args.point.now c.args.found.now.items c.add_rise.new.found.items (sym (c.in_ok-is_risen.ensures.risen tells) ∙ c.if-not-branch.false) is) c.add_rise.ensures.points

pub returns-clause-leaves : goal.returns-clause-leaves
returns-clause-leaves g c = leaves_as _ _ (g.D.Disk.state c.args.disk.now) (g.D.Disk.state c.is_risen.new.disk) (λ f. absurd (not_fault c.add_rise.result c.add_rise.ensures.err f)) c.is_risen.ensures.leaves
