use Rattle.std.proofs.Common.{◌∙◌, sym, subst}
use Rattle.std.proofs.lemmas.Result.{IfOk-weaker}
use Rattle.fileset_check.specs.m3_outside.Files.{Files}
use Rattle.fileset_check.proofs.commit_log_proofs.Leaves.{leaves_then}
use Rattle.fileset_check.specs.shard_files.Parts.{VolumeHolds}
use Rattle.fileset_check.specs.volume_bytes.Heads.{head_of}
use Rattle.fileset_check.specs.fileset_read.Volumes.{IsThere}
use Rattle.volume_rows.specs.Seekers.{IsSeekerOf}
use Rattle.volume_points.proofs.candidates.look_up.Goals as goal

pub row_of-requires-clause-there : goal.row_of-requires-clause-there
row_of-requires-clause-there g c = λ later.
    let leaves = c.in_ok-seeker.ensures.leaves in
    let tells = sym leaves.proceeds.tells ∙ later in
    subst (IsThere (head_of c.args.head.now)) (sym (leaves.files tells)) (c.requires tells)

pub row_of-requires-clause-seeker : goal.row_of-requires-clause-seeker
row_of-requires-clause-seeker g c = λ later.
    let leaves = c.in_ok-seeker.ensures.leaves in
    let tells = sym leaves.proceeds.tells ∙ later in
    subst (λ (m : Files). IsSeekerOf (head_of c.args.head.now) c.in_ok-seeker.seeker m) (sym (leaves.files tells)) (c.in_ok-seeker.ensures.ok tells)

pub returns-clause-leaves : goal.returns-clause-leaves
returns-clause-leaves g c =
    leaves_then _ _ (g.D.Disk.state c.args.disk.now) (g.D.Disk.state c.seeker_of.new.disk) (g.D.Disk.state c.row_of.new.disk) c.in_ok-seeker.ensures.leaves c.row_of.ensures.leaves

pub returns-clause-ok : goal.returns-clause-ok
returns-clause-ok g c = λ tells.
    let leaves = c.in_ok-seeker.ensures.leaves in
    let v = head_of c.args.head.now in
    IfOk-weaker c.row_of.result _ _
    (λ found h rows holds. h rows (subst (λ (m : Files). VolumeHolds v rows m) (sym (leaves.files tells)) holds)) (c.row_of.ensures.ok (leaves.proceeds.tells ∙ tells))
