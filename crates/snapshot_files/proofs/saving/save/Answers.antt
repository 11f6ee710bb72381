use Rattle.std.proofs.Common.{ap, ◌∙◌, List, ℕ}
use Rattle.std.proofs.lemmas.Result.{on_ok_weaker}
use Rattle.sha2.specs.Sha256.{sha256}
use Rattle.fileset_check.specs.m3_outside.declared.file_name.FileName.{FileName}
use Rattle.fileset_check.specs.m3_outside.Files.{Files}
use Rattle.fileset_check.specs.m3_outside.DiskState.{StepOf, Elapses, Becomes}
use Rattle.fileset_write.specs.declared.new_file.NewFile.{NewFile}
use Rattle.fileset_write.specs.Putting.{with_volume, MayPutAll, PutNone}
use Rattle.snapshot_files.specs.Snaps.{seen}
use Rattle.snapshot_files.proofs.SaveLemmas.{given, moment, files, none_left, acknowledged, there, moment0, none0}
use Rattle.snapshot_files.proofs.saving.save.Goals as goal

pub returns-in_err-bytes-clause-any_moment : goal.returns-in_err-bytes-clause-any_moment
returns-in_err-bytes-clause-any_moment g c = λ t.
    moment0 (seen c.args.snap.now) (g.D.Disk.state c.args.disk.now) (g.met.D.Disk.lawful c.args.disk.now) t (c.requires.fresh t)

pub returns-in_err-bytes-clause-memory : goal.returns-in_err-bytes-clause-memory
returns-in_err-bytes-clause-memory g c = λ t m.
    none0 (seen c.args.snap.now) (g.D.Disk.state c.args.disk.now) (g.met.D.Disk.lawful c.args.disk.now) t (c.requires.fresh t)

pub returns-clause-any_moment : goal.returns-clause-any_moment
returns-clause-any_moment g c = λ t.
    moment (seen c.args.snap.now) c.requires.values (g.D.Disk.state c.args.disk.now) (g.D.Disk.state c.put_all.new.disk) (given (seen c.args.snap.now) (λ (l : List NewFile) (q : FileName) (k : List ℕ). Elapses (MayPutAll l q k) (g.D.Disk.state c.args.disk.now) (g.D.Disk.state c.put_all.new.disk)) c.data_name.result c.checkpoint_name.result c.in_ok-bytes.bytes c.digest-digest.result c.data_name.ensures c.in_ok-bytes.ensures c.checkpoint_name.ensures (c.digest-digest.ensures ∙ ap sha256 (c.as_slice.ensures ∙ c.in_ok-bytes.ensures)) (c.put_all.ensures.any_moment t))

pub returns-clause-acknowledged : goal.returns-clause-acknowledged
returns-clause-acknowledged g c = λ t.
    on_ok_weaker c.put_all.result (λ done. acknowledged (seen c.args.snap.now) c.requires.values (g.D.Disk.state c.args.disk.now) (g.D.Disk.state c.put_all.new.disk) (given (seen c.args.snap.now) (λ (l : List NewFile) (q : FileName) (k : List ℕ). Becomes (with_volume l q k) (g.D.Disk.state c.args.disk.now) (g.D.Disk.state c.put_all.new.disk)) c.data_name.result c.checkpoint_name.result c.in_ok-bytes.bytes c.digest-digest.result c.data_name.ensures c.in_ok-bytes.ensures c.checkpoint_name.ensures (c.digest-digest.ensures ∙ ap sha256 (c.as_slice.ensures ∙ c.in_ok-bytes.ensures)) done)) (c.put_all.ensures.ok t)

pub returns-clause-memory : goal.returns-clause-memory
returns-clause-memory g c = λ t m.
    none_left (seen c.args.snap.now) c.requires.values (g.D.Disk.state c.args.disk.now) (g.D.Disk.state c.put_all.new.disk) (given (seen c.args.snap.now) (λ (l : List NewFile) (q : FileName) (k : List ℕ). (f : Files) → (g.D.Disk.state c.put_all.new.disk).images f → StepOf (PutNone l q) (g.D.Disk.state c.args.disk.now).images f) c.data_name.result c.checkpoint_name.result c.in_ok-bytes.bytes c.digest-digest.result c.data_name.ensures c.in_ok-bytes.ensures c.checkpoint_name.ensures (c.digest-digest.ensures ∙ ap sha256 (c.as_slice.ensures ∙ c.in_ok-bytes.ensures)) (c.put_all.ensures.memory t m))

pub returns-clause-files : goal.returns-clause-files
returns-clause-files g c = λ t.
    files (seen c.args.snap.now) c.requires.values (g.D.Disk.state c.args.disk.now) (g.D.Disk.state c.put_all.new.disk) (given (seen c.args.snap.now) (λ (l : List NewFile) (q : FileName) (k : List ℕ). MayPutAll l q k (g.D.Disk.state c.args.disk.now).files (g.D.Disk.state c.put_all.new.disk).files) c.data_name.result c.checkpoint_name.result c.in_ok-bytes.bytes c.digest-digest.result c.data_name.ensures c.in_ok-bytes.ensures c.checkpoint_name.ensures (c.digest-digest.ensures ∙ ap sha256 (c.as_slice.ensures ∙ c.in_ok-bytes.ensures)) (c.put_all.ensures.files t))

pub returns-clause-there : goal.returns-clause-there
returns-clause-there g c = λ t.
    on_ok_weaker c.put_all.result (λ done. there (seen c.args.snap.now) c.requires.values (g.D.Disk.state c.args.disk.now) (g.D.Disk.state c.put_all.new.disk) (given (seen c.args.snap.now) (λ (l : List NewFile) (q : FileName) (k : List ℕ). Becomes (with_volume l q k) (g.D.Disk.state c.args.disk.now) (g.D.Disk.state c.put_all.new.disk)) c.data_name.result c.checkpoint_name.result c.in_ok-bytes.bytes c.digest-digest.result c.data_name.ensures c.in_ok-bytes.ensures c.checkpoint_name.ensures (c.digest-digest.ensures ∙ ap sha256 (c.as_slice.ensures ∙ c.in_ok-bytes.ensures)) done)) (c.put_all.ensures.ok t)
