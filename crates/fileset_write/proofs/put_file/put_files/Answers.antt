use Rattle.std.proofs.Common.{◌≡◌, sym, ◌∙◌, Result, Ok}
use Rattle.std.specs.Prelude.{⊤, IsErrOf}
use Rattle.shard_files.specs.m3_outside.declared.disk_err.DiskErr.{DiskErr}
use Rattle.shard_files.specs.m3_outside.declared.disk_err.DiskErr.TheVariants.{Failed as DiskFailed}
use Rattle.shard_files.proofs.m3_outside_proofs.Moments.{counts_none}
use Rattle.fileset_write.proofs.FilesLemmas.{put_none, absent_here, put_elapses, put_others, put_more}
use Rattle.fileset_write.proofs.put_file.put_files.Goals as goal

never : (r : Result ⊤ DiskErr) (u : ⊤) → r ≡ Ok u → IsErrOf r DiskFailed → ⊥
never r u was failed = absurd (cc)

pub loop-file-init : goal.loop-file-init
loop-file-init g c = put_none c.args.files.now (g.D.Disk.state c.args.disk.now) c.requires.apart c.requires.absent

pub put_file-requires-clause-absent : goal.put_file-requires-clause-absent
put_file-requires-clause-absent g c = λ h. absent_here c.args.files.now c.loop-file.file-index c.file-item.result c.loop-file-test.true c.file-item.is (g.D.Disk.state c.args.disk.now) (g.D.Disk.state c.loop-file.disk) (g.D.Disk.state c.loop-file.disk) c.loop-file.invariant c.as_slice.result.now c.as_slice.ensures (sym c.loop-file.invariant.tells ∙ h)

pub returns-in_err-put_file-clause-any_moment : goal.returns-in_err-put_file-clause-any_moment
returns-in_err-put_file-clause-any_moment g c = λ t. put_elapses c.args.files.now c.loop-file.file-index c.file-item.result c.loop-file-test.true c.file-item.is (g.D.Disk.state c.args.disk.now) (g.D.Disk.state c.loop-file.disk) (g.D.Disk.state c.put_file.new.disk) c.loop-file.invariant c.as_slice.result.now c.as_slice.ensures t (c.put_file.ensures.any_moment (c.loop-file.invariant.tells ∙ t))

pub returns-in_err-put_file-clause-files : goal.returns-in_err-put_file-clause-files
returns-in_err-put_file-clause-files g c = λ t. put_others c.args.files.now c.loop-file.file-index c.file-item.result c.loop-file-test.true c.file-item.is (g.D.Disk.state c.args.disk.now) (g.D.Disk.state c.loop-file.disk) (g.D.Disk.state c.put_file.new.disk) c.loop-file.invariant c.as_slice.result.now c.as_slice.ensures t (c.put_file.ensures.files (c.loop-file.invariant.tells ∙ t))

pub loop-file-preserved : goal.loop-file-preserved
loop-file-preserved g c =
    put_more c.args.files.now c.loop-file.file-index c.file-item.result c.loop-file-test.true c.file-item.is (g.D.Disk.state c.args.disk.now) (g.D.Disk.state c.loop-file.disk) (g.D.Disk.state c.put_file.new.disk) c.loop-file.invariant c.as_slice.result.now c.as_slice.ensures c.put_file.ensures.tells (counts_none _ _ _ (never c.put_file.result _ c.in_ok-put_file.was) c.put_file.ensures.faults)
    (λ t. c.put_file.ensures.any_moment (c.loop-file.invariant.tells ∙ t)) (λ t. c.put_file.ensures.files (c.loop-file.invariant.tells ∙ t)) (λ t. c.in_ok-put_file.ensures.ok (c.loop-file.invariant.tells ∙ t))
