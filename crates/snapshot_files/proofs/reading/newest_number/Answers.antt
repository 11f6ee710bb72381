use Rattle.std.proofs.Common.{◌≡◌, ap, subst, ◌∙◌, List}
use Rattle.std.specs.Prelude.{filter}
use Rattle.std.specs.FinMap.{keys}
use Rattle.fileset_check.specs.m3_outside.Files.{Files}
use Rattle.fileset_check.specs.m3_outside.declared.file_name.FileName.{FileName}
use Rattle.fileset_check.proofs.commit_log_proofs.Leaves.{leaves_as, leaves_then}
use Rattle.fileset_check.proofs.fileset_read_proofs.NameLemmas.{err_is}
use Rattle.fileset_check.specs.shard_files.Damage.{last_of}
use Rattle.snapshot_files.specs.Told.{checkpoint_of, is_counted}
use Rattle.snapshot_files.proofs.NewestLemmas.{counted_names}
use Rattle.snapshot_files.proofs.reading.newest_number.Goals as goal

pub returns-in_err-last_counted-clause-leaves : goal.returns-in_err-last_counted-clause-leaves
returns-in_err-last_counted-clause-leaves g c =
    leaves_then _ _ (g.D.Disk.state c.args.disk.now) (g.D.Disk.state c.list.new.self) (g.D.Disk.state c.last_counted.new.disk) c.list.ensures.leaves
    (leaves_as _ _ (g.D.Disk.state c.list.new.self) (g.D.Disk.state c.last_counted.new.disk) (λ f. err_is c.last_counted.result _ c.in_err-last_counted.was) c.last_counted.ensures.leaves)

pub returns-clause-leaves : goal.returns-clause-leaves
returns-clause-leaves g c =
    leaves_then _ _ (g.D.Disk.state c.args.disk.now) (g.D.Disk.state c.list.new.self) (g.D.Disk.state c.last_counted.new.disk) c.list.ensures.leaves
    (leaves_as _ _ (g.D.Disk.state c.list.new.self) (g.D.Disk.state c.last_counted.new.disk) (λ f. absurd (cc)) c.last_counted.ensures.leaves)

pub returns-clause-ok : goal.returns-clause-ok
returns-clause-ok g c = λ t.
    let files = (g.D.Disk.state c.args.disk.now).files in
    let same = c.list.ensures.leaves.files t in
    let told = c.list.ensures.leaves.proceeds.tells ∙ t in
    let all : c.as_slice.result.now ≡ keys files = c.as_slice.ensures ∙ c.in_ok-names.ensures.names t in
    subst (λ (l : List FileName). last_of l ≡ checkpoint_of c.in_ok-last_counted.field-0) (ap (λ (m : Files). filter (is_counted m) c.as_slice.result.now) same ∙ ap (filter (is_counted files)) all ∙ counted_names files) (c.in_ok-last_counted.ensures.ok told)
