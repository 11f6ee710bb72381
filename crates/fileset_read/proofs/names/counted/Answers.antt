use Rattle.std.proofs.Common.{◌≡◌, ap, ◌∙◌}
use Rattle.std.specs.Prelude.{filter}
use Rattle.std.specs.FinMap.{keys}
use Rattle.shard_files.specs.m3_outside.Files.{Files}
use Rattle.shard_files.specs.m3_outside.declared.disk_err.DiskErr.TheVariants.{Failed as DiskFailed}
use Rattle.shard_files.proofs.Leaves.{leaves_as, leaves_then}
use Rattle.shard_files.proofs.ReadLemmas.{passed_err}
use Rattle.fileset_read.specs.Volumes.{is_counted}
use Rattle.fileset_read.proofs.NameLemmas.{counted_names}
use Rattle.fileset_read.proofs.names.counted.Goals as goal

pub returns-in_err-keep_counted-clause-leaves : goal.returns-in_err-keep_counted-clause-leaves
returns-in_err-keep_counted-clause-leaves g c =
    leaves_then _ _ (g.D.Disk.state c.args.disk.now) (g.D.Disk.state c.list.new.self) (g.D.Disk.state c.keep_counted.new.disk) c.list.ensures.leaves
    (leaves_as _ _ (g.D.Disk.state c.list.new.self) (g.D.Disk.state c.keep_counted.new.disk)
    (λ f. passed_err c.from_residual-in_err-keep_counted.result c.keep_counted.result c.in_err-keep_counted.field-0.0 DiskFailed c.in_err-keep_counted.was c.from_residual-in_err-keep_counted.ensures.1 f) c.keep_counted.ensures.leaves)

pub returns-clause-leaves : goal.returns-clause-leaves
returns-clause-leaves g c =
    leaves_then _ _ (g.D.Disk.state c.args.disk.now) (g.D.Disk.state c.list.new.self) (g.D.Disk.state c.keep_counted.new.disk) c.list.ensures.leaves
    (leaves_as _ _ (g.D.Disk.state c.list.new.self) (g.D.Disk.state c.keep_counted.new.disk) (λ f. absurd (cc)) c.keep_counted.ensures.leaves)

pub returns-clause-ok : goal.returns-clause-ok
returns-clause-ok g c = λ t.
    let files = (g.D.Disk.state c.args.disk.now).files in
    let same = c.list.ensures.leaves.files t in
    let told = c.list.ensures.leaves.proceeds.tells ∙ t in
    let kept : c.from_vec.result ≡ filter (is_counted files) c.as_slice.result.now = c.from_vec.ensures ∙ c.in_ok-keep_counted.ensures.ok told ∙ ap (λ (m : Files). filter (is_counted m) c.as_slice.result.now) same in
    let all : c.as_slice.result.now ≡ keys files = c.as_slice.ensures ∙ c.in_ok-all.ensures.names t in
    kept ∙ ap (filter (is_counted files)) all ∙ counted_names files
