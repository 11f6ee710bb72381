use Rattle.std.proofs.Common.{refl, sym, subst, ◌∙◌, List, ℕ, ◌∷◌}
use Rattle.sha2.specs.Sha256.{sha256}
use Rattle.shard_files.specs.m3_model.declared.point.Series.{Series}
use Rattle.shard_files.specs.m3_outside.declared.file_name.FileName.{FileName}
use Rattle.shard_files.specs.m3_outside.Files.{Files, IsAbsent}
use Rattle.shard_files.specs.m3_outside.DiskState.{StepOf, Elapses, Becomes}
use Rattle.shard_files.specs.wire_bytes.Volumes.{Checkpoint, digests_bytes}
use Rattle.shard_files.specs.Parts.{part_of}
use Rattle.shard_files.specs.Steps.{next_volume}
use Rattle.shard_files.specs.m3_outside.declared.disk_err.DiskErr.TheVariants.{Memory as WantOfMemory}
use Rattle.shard_files.proofs.commit_log_proofs.ReadLemmas.{passed_err}
use Rattle.fileset_write.specs.declared.new_file.NewFile.{NewFile}
use Rattle.fileset_write.specs.Putting.{AreApart, AreAbsent, names_of, with_volume, MayPutAll, PutNone}
use Rattle.fileset_write.specs.NewVolumes.{new_files, IsNewVolume}
use Rattle.fileset_write.proofs.WriteLemmas.{apart, numbered, as_given, moment1, files1, none1, not_there1, absent_b, absent_each_b, moment2, files2, none2, not_there2, written, there}
use Rattle.fileset_write.proofs.writing.write.Goals as goal

pub returns-in_err-number-clause-any_moment : goal.returns-in_err-number-clause-any_moment
returns-in_err-number-clause-any_moment g c = λ t.
    moment1 c.args.ns c.args.start c.args.size (next_volume c.args.ns c.args.start (g.D.Disk.state c.args.disk.now).files) c.args.rows.now (g.D.Disk.state c.args.disk.now) refl _ (g.met.D.Disk.lawful c.args.disk.now) (g.D.Disk.state c.next_number.new.disk) c.next_number.ensures.leaves t

pub returns-in_err-number-clause-files : goal.returns-in_err-number-clause-files
returns-in_err-number-clause-files g c = λ t.
    files1 c.args.ns c.args.start c.args.size (next_volume c.args.ns c.args.start (g.D.Disk.state c.args.disk.now).files) c.args.rows.now (g.D.Disk.state c.args.disk.now) refl _ (g.met.D.Disk.lawful c.args.disk.now) (g.D.Disk.state c.next_number.new.disk) c.next_number.ensures.leaves t

pub returns-in_err-number-clause-memory : goal.returns-in_err-number-clause-memory
returns-in_err-number-clause-memory g c = λ t m.
    none1 c.args.ns c.args.start c.args.size (next_volume c.args.ns c.args.start (g.D.Disk.state c.args.disk.now).files) c.args.rows.now (g.D.Disk.state c.args.disk.now) refl _ (g.met.D.Disk.lawful c.args.disk.now) (g.D.Disk.state c.next_number.new.disk) c.next_number.ensures.leaves t

pub returns-in_err-number-clause-not_there : goal.returns-in_err-number-clause-not_there
returns-in_err-number-clause-not_there g c = λ t m.
    not_there1 c.args.ns c.args.start c.args.size (next_volume c.args.ns c.args.start (g.D.Disk.state c.args.disk.now).files) c.args.rows.now (g.D.Disk.state c.args.disk.now) refl _ (g.met.D.Disk.lawful c.args.disk.now) (g.D.Disk.state c.next_number.new.disk) c.next_number.ensures.leaves t

pub returns-in_err-volume-clause-any_moment : goal.returns-in_err-volume-clause-any_moment
returns-in_err-volume-clause-any_moment g c = λ t.
    moment1 c.args.ns c.args.start c.args.size (next_volume c.args.ns c.args.start (g.D.Disk.state c.args.disk.now).files) c.args.rows.now (g.D.Disk.state c.args.disk.now) refl _ (g.met.D.Disk.lawful c.args.disk.now) (g.D.Disk.state c.next_number.new.disk) c.next_number.ensures.leaves t

pub returns-in_err-volume-clause-files : goal.returns-in_err-volume-clause-files
returns-in_err-volume-clause-files g c = λ t.
    files1 c.args.ns c.args.start c.args.size (next_volume c.args.ns c.args.start (g.D.Disk.state c.args.disk.now).files) c.args.rows.now (g.D.Disk.state c.args.disk.now) refl _ (g.met.D.Disk.lawful c.args.disk.now) (g.D.Disk.state c.next_number.new.disk) c.next_number.ensures.leaves t

pub returns-in_err-volume-clause-memory : goal.returns-in_err-volume-clause-memory
returns-in_err-volume-clause-memory g c = λ t m.
    none1 c.args.ns c.args.start c.args.size (next_volume c.args.ns c.args.start (g.D.Disk.state c.args.disk.now).files) c.args.rows.now (g.D.Disk.state c.args.disk.now) refl _ (g.met.D.Disk.lawful c.args.disk.now) (g.D.Disk.state c.next_number.new.disk) c.next_number.ensures.leaves t

pub returns-in_err-volume-clause-not_there : goal.returns-in_err-volume-clause-not_there
returns-in_err-volume-clause-not_there g c = λ t m.
    not_there1 c.args.ns c.args.start c.args.size (next_volume c.args.ns c.args.start (g.D.Disk.state c.args.disk.now).files) c.args.rows.now (g.D.Disk.state c.args.disk.now) refl _ (g.met.D.Disk.lawful c.args.disk.now) (g.D.Disk.state c.next_number.new.disk) c.next_number.ensures.leaves t

pub put_all-requires-clause-apart : goal.put_all-requires-clause-apart
put_all-requires-clause-apart g c =
    let is = subst (λ (r : List Series). IsNewVolume (record { format = 1; ns = c.args.ns; start = c.args.start; size = c.args.size; number = c.in_ok-number.number }) r c.in_ok-volume.volume) c.as_slice.ensures c.in_ok-volume.ensures in
    as_given (λ (l : List NewFile) (q : FileName) (k : List ℕ). AreApart (q ∷ names_of l)) (new_files (record { format = 1; ns = c.args.ns; start = c.args.start; size = c.args.size; number = c.in_ok-number.number }) c.args.rows.now) c.deref.result.now (part_of Checkpoint (record { format = 1; ns = c.args.ns; start = c.args.start; size = c.args.size; number = c.in_ok-number.number })) c.in_ok-volume.volume.checkpoint (sha256 (digests_bytes (record { format = 1; ns = c.args.ns; start = c.args.start; size = c.args.size; number = c.in_ok-number.number }) c.args.rows.now)) c.in_ok-volume.volume.digest (sym (c.deref.ensures.value ∙ is.files)) (sym is.checkpoint) (sym is.digest) (apart c.args.ns c.args.start c.args.size c.in_ok-number.number c.args.rows.now)

pub put_all-requires-clause-absent : goal.put_all-requires-clause-absent
put_all-requires-clause-absent g c = λ h.
    let is = subst (λ (r : List Series). IsNewVolume (record { format = 1; ns = c.args.ns; start = c.args.start; size = c.args.size; number = c.in_ok-number.number }) r c.in_ok-volume.volume) c.as_slice.ensures c.in_ok-volume.ensures in
    let t = sym c.next_number.ensures.leaves.proceeds.tells ∙ h in
    as_given (λ (l : List NewFile) (q : FileName) (k : List ℕ). AreAbsent (q ∷ names_of l) (g.D.Disk.state c.next_number.new.disk).files) (new_files (record { format = 1; ns = c.args.ns; start = c.args.start; size = c.args.size; number = c.in_ok-number.number }) c.args.rows.now) c.deref.result.now (part_of Checkpoint (record { format = 1; ns = c.args.ns; start = c.args.start; size = c.args.size; number = c.in_ok-number.number })) c.in_ok-volume.volume.checkpoint (sha256 (digests_bytes (record { format = 1; ns = c.args.ns; start = c.args.start; size = c.args.size; number = c.in_ok-number.number }) c.args.rows.now)) c.in_ok-volume.volume.digest (sym (c.deref.ensures.value ∙ is.files)) (sym is.checkpoint) (sym is.digest) (absent_b c.args.ns c.args.start c.args.size c.in_ok-number.number c.args.rows.now (g.D.Disk.state c.args.disk.now) (c.in_ok-number.ensures.ok t) _ (g.met.D.Disk.lawful c.args.disk.now) (g.D.Disk.state c.next_number.new.disk) c.next_number.ensures.leaves t)

pub put_all-requires-clause-none : goal.put_all-requires-clause-none
put_all-requires-clause-none g c = λ h x image.
    let is = subst (λ (r : List Series). IsNewVolume (record { format = 1; ns = c.args.ns; start = c.args.start; size = c.args.size; number = c.in_ok-number.number }) r c.in_ok-volume.volume) c.as_slice.ensures c.in_ok-volume.ensures in
    let t = sym c.next_number.ensures.leaves.proceeds.tells ∙ h in
    as_given (λ (l : List NewFile) (q : FileName) (k : List ℕ). IsAbsent q x) (new_files (record { format = 1; ns = c.args.ns; start = c.args.start; size = c.args.size; number = c.in_ok-number.number }) c.args.rows.now) c.deref.result.now (part_of Checkpoint (record { format = 1; ns = c.args.ns; start = c.args.start; size = c.args.size; number = c.in_ok-number.number })) c.in_ok-volume.volume.checkpoint (sha256 (digests_bytes (record { format = 1; ns = c.args.ns; start = c.args.start; size = c.args.size; number = c.in_ok-number.number }) c.args.rows.now)) c.in_ok-volume.volume.digest (sym (c.deref.ensures.value ∙ is.files)) (sym is.checkpoint) (sym is.digest) (absent_each_b c.args.ns c.args.start c.args.size c.in_ok-number.number c.args.rows.now (g.D.Disk.state c.args.disk.now) (c.in_ok-number.ensures.ok t) _ (g.met.D.Disk.lawful c.args.disk.now) (g.D.Disk.state c.next_number.new.disk) c.next_number.ensures.leaves t x image)

pub returns-in_err-put_all-clause-any_moment : goal.returns-in_err-put_all-clause-any_moment
returns-in_err-put_all-clause-any_moment g c = λ t.
    let is = subst (λ (r : List Series). IsNewVolume (record { format = 1; ns = c.args.ns; start = c.args.start; size = c.args.size; number = c.in_ok-number.number }) r c.in_ok-volume.volume) c.as_slice.ensures c.in_ok-volume.ensures in
    let t1 = c.next_number.ensures.leaves.proceeds.tells ∙ t in
    moment2 c.args.ns c.args.start c.args.size c.in_ok-number.number c.args.rows.now (g.D.Disk.state c.args.disk.now) (c.in_ok-number.ensures.ok t) _ (g.met.D.Disk.lawful c.args.disk.now) (g.D.Disk.state c.next_number.new.disk) c.next_number.ensures.leaves t (numbered c.args.ns c.args.start c.args.size c.in_ok-number.number c.args.rows.now c.in_ok-number.ensures.limit c.requires.values) (g.D.Disk.state c.put_all.new.disk) (as_given (λ (l : List NewFile) (q : FileName) (k : List ℕ). Elapses (MayPutAll l q k) (g.D.Disk.state c.next_number.new.disk) (g.D.Disk.state c.put_all.new.disk)) c.deref.result.now (new_files (record { format = 1; ns = c.args.ns; start = c.args.start; size = c.args.size; number = c.in_ok-number.number }) c.args.rows.now) c.in_ok-volume.volume.checkpoint (part_of Checkpoint (record { format = 1; ns = c.args.ns; start = c.args.start; size = c.args.size; number = c.in_ok-number.number })) c.in_ok-volume.volume.digest (sha256 (digests_bytes (record { format = 1; ns = c.args.ns; start = c.args.start; size = c.args.size; number = c.in_ok-number.number }) c.args.rows.now)) (c.deref.ensures.value ∙ is.files) is.checkpoint is.digest (c.put_all.ensures.any_moment t1))

pub returns-in_err-put_all-clause-files : goal.returns-in_err-put_all-clause-files
returns-in_err-put_all-clause-files g c = λ t.
    let is = subst (λ (r : List Series). IsNewVolume (record { format = 1; ns = c.args.ns; start = c.args.start; size = c.args.size; number = c.in_ok-number.number }) r c.in_ok-volume.volume) c.as_slice.ensures c.in_ok-volume.ensures in
    let t1 = c.next_number.ensures.leaves.proceeds.tells ∙ t in
    files2 c.args.ns c.args.start c.args.size c.in_ok-number.number c.args.rows.now (g.D.Disk.state c.args.disk.now) (c.in_ok-number.ensures.ok t) _ (g.met.D.Disk.lawful c.args.disk.now) (g.D.Disk.state c.next_number.new.disk) c.next_number.ensures.leaves t (numbered c.args.ns c.args.start c.args.size c.in_ok-number.number c.args.rows.now c.in_ok-number.ensures.limit c.requires.values) (g.D.Disk.state c.put_all.new.disk) (as_given (λ (l : List NewFile) (q : FileName) (k : List ℕ). MayPutAll l q k (g.D.Disk.state c.next_number.new.disk).files (g.D.Disk.state c.put_all.new.disk).files) c.deref.result.now (new_files (record { format = 1; ns = c.args.ns; start = c.args.start; size = c.args.size; number = c.in_ok-number.number }) c.args.rows.now) c.in_ok-volume.volume.checkpoint (part_of Checkpoint (record { format = 1; ns = c.args.ns; start = c.args.start; size = c.args.size; number = c.in_ok-number.number })) c.in_ok-volume.volume.digest (sha256 (digests_bytes (record { format = 1; ns = c.args.ns; start = c.args.start; size = c.args.size; number = c.in_ok-number.number }) c.args.rows.now)) (c.deref.ensures.value ∙ is.files) is.checkpoint is.digest (c.put_all.ensures.files t1))

pub returns-clause-any_moment : goal.returns-clause-any_moment
returns-clause-any_moment g c = λ t.
    let is = subst (λ (r : List Series). IsNewVolume (record { format = 1; ns = c.args.ns; start = c.args.start; size = c.args.size; number = c.in_ok-number.number }) r c.in_ok-volume.volume) c.as_slice.ensures c.in_ok-volume.ensures in
    let t1 = c.next_number.ensures.leaves.proceeds.tells ∙ t in
    moment2 c.args.ns c.args.start c.args.size c.in_ok-number.number c.args.rows.now (g.D.Disk.state c.args.disk.now) (c.in_ok-number.ensures.ok t) _ (g.met.D.Disk.lawful c.args.disk.now) (g.D.Disk.state c.next_number.new.disk) c.next_number.ensures.leaves t (numbered c.args.ns c.args.start c.args.size c.in_ok-number.number c.args.rows.now c.in_ok-number.ensures.limit c.requires.values) (g.D.Disk.state c.put_all.new.disk) (as_given (λ (l : List NewFile) (q : FileName) (k : List ℕ). Elapses (MayPutAll l q k) (g.D.Disk.state c.next_number.new.disk) (g.D.Disk.state c.put_all.new.disk)) c.deref.result.now (new_files (record { format = 1; ns = c.args.ns; start = c.args.start; size = c.args.size; number = c.in_ok-number.number }) c.args.rows.now) c.in_ok-volume.volume.checkpoint (part_of Checkpoint (record { format = 1; ns = c.args.ns; start = c.args.start; size = c.args.size; number = c.in_ok-number.number })) c.in_ok-volume.volume.digest (sha256 (digests_bytes (record { format = 1; ns = c.args.ns; start = c.args.start; size = c.args.size; number = c.in_ok-number.number }) c.args.rows.now)) (c.deref.ensures.value ∙ is.files) is.checkpoint is.digest (c.put_all.ensures.any_moment t1))

pub returns-clause-files : goal.returns-clause-files
returns-clause-files g c = λ t.
    let is = subst (λ (r : List Series). IsNewVolume (record { format = 1; ns = c.args.ns; start = c.args.start; size = c.args.size; number = c.in_ok-number.number }) r c.in_ok-volume.volume) c.as_slice.ensures c.in_ok-volume.ensures in
    let t1 = c.next_number.ensures.leaves.proceeds.tells ∙ t in
    files2 c.args.ns c.args.start c.args.size c.in_ok-number.number c.args.rows.now (g.D.Disk.state c.args.disk.now) (c.in_ok-number.ensures.ok t) _ (g.met.D.Disk.lawful c.args.disk.now) (g.D.Disk.state c.next_number.new.disk) c.next_number.ensures.leaves t (numbered c.args.ns c.args.start c.args.size c.in_ok-number.number c.args.rows.now c.in_ok-number.ensures.limit c.requires.values) (g.D.Disk.state c.put_all.new.disk) (as_given (λ (l : List NewFile) (q : FileName) (k : List ℕ). MayPutAll l q k (g.D.Disk.state c.next_number.new.disk).files (g.D.Disk.state c.put_all.new.disk).files) c.deref.result.now (new_files (record { format = 1; ns = c.args.ns; start = c.args.start; size = c.args.size; number = c.in_ok-number.number }) c.args.rows.now) c.in_ok-volume.volume.checkpoint (part_of Checkpoint (record { format = 1; ns = c.args.ns; start = c.args.start; size = c.args.size; number = c.in_ok-number.number })) c.in_ok-volume.volume.digest (sha256 (digests_bytes (record { format = 1; ns = c.args.ns; start = c.args.start; size = c.args.size; number = c.in_ok-number.number }) c.args.rows.now)) (c.deref.ensures.value ∙ is.files) is.checkpoint is.digest (c.put_all.ensures.files t1))

pub returns-in_err-put_all-clause-memory : goal.returns-in_err-put_all-clause-memory
returns-in_err-put_all-clause-memory g c = λ t m.
    let is = subst (λ (r : List Series). IsNewVolume (record { format = 1; ns = c.args.ns; start = c.args.start; size = c.args.size; number = c.in_ok-number.number }) r c.in_ok-volume.volume) c.as_slice.ensures c.in_ok-volume.ensures in
    let t1 = c.next_number.ensures.leaves.proceeds.tells ∙ t in
    none2 c.args.ns c.args.start c.args.size c.in_ok-number.number c.args.rows.now (g.D.Disk.state c.args.disk.now) (c.in_ok-number.ensures.ok t) _ (g.met.D.Disk.lawful c.args.disk.now) (g.D.Disk.state c.next_number.new.disk) c.next_number.ensures.leaves t (numbered c.args.ns c.args.start c.args.size c.in_ok-number.number c.args.rows.now c.in_ok-number.ensures.limit c.requires.values) (g.D.Disk.state c.put_all.new.disk) (as_given (λ (l : List NewFile) (q : FileName) (k : List ℕ). (f : Files) → (g.D.Disk.state c.put_all.new.disk).images f → StepOf (PutNone l q) (g.D.Disk.state c.next_number.new.disk).images f) c.deref.result.now (new_files (record { format = 1; ns = c.args.ns; start = c.args.start; size = c.args.size; number = c.in_ok-number.number }) c.args.rows.now) c.in_ok-volume.volume.checkpoint (part_of Checkpoint (record { format = 1; ns = c.args.ns; start = c.args.start; size = c.args.size; number = c.in_ok-number.number })) c.in_ok-volume.volume.digest (sha256 (digests_bytes (record { format = 1; ns = c.args.ns; start = c.args.start; size = c.args.size; number = c.in_ok-number.number }) c.args.rows.now)) (c.deref.ensures.value ∙ is.files) is.checkpoint is.digest (c.put_all.ensures.memory t1 (passed_err c.from_residual-in_err-put_all.result c.put_all.result c.in_err-put_all.field-0.0 WantOfMemory c.in_err-put_all.was c.from_residual-in_err-put_all.ensures.1 m)))

pub returns-in_err-put_all-clause-not_there : goal.returns-in_err-put_all-clause-not_there
returns-in_err-put_all-clause-not_there g c = λ t m.
    let is = subst (λ (r : List Series). IsNewVolume (record { format = 1; ns = c.args.ns; start = c.args.start; size = c.args.size; number = c.in_ok-number.number }) r c.in_ok-volume.volume) c.as_slice.ensures c.in_ok-volume.ensures in
    let t1 = c.next_number.ensures.leaves.proceeds.tells ∙ t in
    not_there2 c.args.ns c.args.start c.args.size c.in_ok-number.number c.args.rows.now (g.D.Disk.state c.args.disk.now) (c.in_ok-number.ensures.ok t) _ (g.met.D.Disk.lawful c.args.disk.now) (g.D.Disk.state c.next_number.new.disk) c.next_number.ensures.leaves t (numbered c.args.ns c.args.start c.args.size c.in_ok-number.number c.args.rows.now c.in_ok-number.ensures.limit c.requires.values) (g.D.Disk.state c.put_all.new.disk) (as_given (λ (l : List NewFile) (q : FileName) (k : List ℕ). PutNone l q (g.D.Disk.state c.next_number.new.disk).files (g.D.Disk.state c.put_all.new.disk).files) c.deref.result.now (new_files (record { format = 1; ns = c.args.ns; start = c.args.start; size = c.args.size; number = c.in_ok-number.number }) c.args.rows.now) c.in_ok-volume.volume.checkpoint (part_of Checkpoint (record { format = 1; ns = c.args.ns; start = c.args.start; size = c.args.size; number = c.in_ok-number.number })) c.in_ok-volume.volume.digest (sha256 (digests_bytes (record { format = 1; ns = c.args.ns; start = c.args.start; size = c.args.size; number = c.in_ok-number.number }) c.args.rows.now)) (c.deref.ensures.value ∙ is.files) is.checkpoint is.digest (c.put_all.ensures.shut t1 (passed_err c.from_residual-in_err-put_all.result c.put_all.result c.in_err-put_all.field-0.0 WantOfMemory c.in_err-put_all.was c.from_residual-in_err-put_all.ensures.1 m)))

pub returns-clause-acknowledged : goal.returns-clause-acknowledged
returns-clause-acknowledged g c = λ t.
    let is = subst (λ (r : List Series). IsNewVolume (record { format = 1; ns = c.args.ns; start = c.args.start; size = c.args.size; number = c.in_ok-number.number }) r c.in_ok-volume.volume) c.as_slice.ensures c.in_ok-volume.ensures in
    let t1 = c.next_number.ensures.leaves.proceeds.tells ∙ t in
    written c.args.ns c.args.start c.args.size c.in_ok-number.number c.args.rows.now (g.D.Disk.state c.args.disk.now) (c.in_ok-number.ensures.ok t) _ (g.met.D.Disk.lawful c.args.disk.now) (g.D.Disk.state c.next_number.new.disk) c.next_number.ensures.leaves t (numbered c.args.ns c.args.start c.args.size c.in_ok-number.number c.args.rows.now c.in_ok-number.ensures.limit c.requires.values) (g.D.Disk.state c.put_all.new.disk) (as_given (λ (l : List NewFile) (q : FileName) (k : List ℕ). Becomes (with_volume l q k) (g.D.Disk.state c.next_number.new.disk) (g.D.Disk.state c.put_all.new.disk)) c.deref.result.now (new_files (record { format = 1; ns = c.args.ns; start = c.args.start; size = c.args.size; number = c.in_ok-number.number }) c.args.rows.now) c.in_ok-volume.volume.checkpoint (part_of Checkpoint (record { format = 1; ns = c.args.ns; start = c.args.start; size = c.args.size; number = c.in_ok-number.number })) c.in_ok-volume.volume.digest (sha256 (digests_bytes (record { format = 1; ns = c.args.ns; start = c.args.start; size = c.args.size; number = c.in_ok-number.number }) c.args.rows.now)) (c.deref.ensures.value ∙ is.files) is.checkpoint is.digest (c.in_ok-put_all.ensures.ok t1))

pub returns-clause-there : goal.returns-clause-there
returns-clause-there g c = λ t.
    let is = subst (λ (r : List Series). IsNewVolume (record { format = 1; ns = c.args.ns; start = c.args.start; size = c.args.size; number = c.in_ok-number.number }) r c.in_ok-volume.volume) c.as_slice.ensures c.in_ok-volume.ensures in
    let t1 = c.next_number.ensures.leaves.proceeds.tells ∙ t in
    there c.args.ns c.args.start c.args.size c.in_ok-number.number c.args.rows.now (g.D.Disk.state c.args.disk.now) (c.in_ok-number.ensures.ok t) _ (g.met.D.Disk.lawful c.args.disk.now) (g.D.Disk.state c.next_number.new.disk) c.next_number.ensures.leaves t (numbered c.args.ns c.args.start c.args.size c.in_ok-number.number c.args.rows.now c.in_ok-number.ensures.limit c.requires.values) (g.D.Disk.state c.put_all.new.disk) (as_given (λ (l : List NewFile) (q : FileName) (k : List ℕ). Becomes (with_volume l q k) (g.D.Disk.state c.next_number.new.disk) (g.D.Disk.state c.put_all.new.disk)) c.deref.result.now (new_files (record { format = 1; ns = c.args.ns; start = c.args.start; size = c.args.size; number = c.in_ok-number.number }) c.args.rows.now) c.in_ok-volume.volume.checkpoint (part_of Checkpoint (record { format = 1; ns = c.args.ns; start = c.args.start; size = c.args.size; number = c.in_ok-number.number })) c.in_ok-volume.volume.digest (sha256 (digests_bytes (record { format = 1; ns = c.args.ns; start = c.args.start; size = c.args.size; number = c.in_ok-number.number }) c.args.rows.now)) (c.deref.ensures.value ∙ is.files) is.checkpoint is.digest (c.in_ok-put_all.ensures.ok t1))
