use Rattle.std.proofs.Common.{◌+◌, sym, subst, rules, w64}
use Rattle.std.specs.Prelude.{FitsSigned}
use Rattle.std.proofs.lemmas.Int.{to_z-of_z}
use Rattle.m3_model.specs.Answers.{IsAnswer}
use Rattle.m3_model.specs.declared.point.Pick.{Pick}
use Rattle.listed_volumes.proofs.commit_log_proofs.Leaves.{leaves_none}
use Rattle.listed_volumes.proofs.commit_log_proofs.ReadLemmas.{passed_err}
use Rattle.listed_volumes.specs.fileset_read.declared.file_err.FileErr.TheVariants as failures
use Rattle.listed_volumes.proofs.ReadLemmas.{not_fault}
use Rattle.joined_reads.specs.Beside.{content_beside}
use Rattle.joined_reads.proofs.rising.is_risen.Goals as goal

pub returns-in_err-pick-clause-leaves : goal.returns-in_err-pick-clause-leaves
returns-in_err-pick-clause-leaves g c =
    leaves_none _ (g.D.Disk.state c.args.disk.now) (λ f. not_fault c.pick_of.result c.pick_of.ensures.err (passed_err c.from_residual.result c.pick_of.result c.in_err-pick.field-0.0 failures.Disk c.in_err-pick.was c.from_residual.ensures.1 f))

pub returns-in_err-pick-clause-cached : goal.returns-in_err-pick-clause-cached
returns-in_err-pick-clause-cached g c = c.requires.cached

pub returns-clause-risen : goal.returns-clause-risen
returns-clause-risen g c = λ tells.
    let p = c.args.point.now in
    let content = content_beside c.args.held.now.points c.args.volumes.now in
    let fits : FitsSigned w64 p.v = search rules in
    c.is_above.ensures content p (sym (to_z-of_z w64 p.v fits)) (subst (λ (k : Pick). IsAnswer content k p.t (p.t + 1) c.in_ok-found.found) c.in_ok-pick.ensures.ok (c.in_ok-found.ensures.answer tells))
