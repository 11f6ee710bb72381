use Rattle.std.proofs.Common.{◌≡◌, List, sym, ap, subst, ◌∙◌, rules}
use Rattle.fileset_read.specs.m3_outside.Files.{Files}
use Rattle.fileset_read.proofs.commit_log_proofs.Leaves.{leaves_as}
use Rattle.fileset_read.proofs.shard_files_proofs.SegmentStops.{passed_on}
use Rattle.fileset_check.specs.PartFiles.{AreParts}
use Rattle.fileset_check.specs.Told.{MayTell, VolumeTells, of_part}
use Rattle.fileset_check.proofs.FirstLemmas.{says_tells, no_fault}
use Rattle.fileset_check.proofs.volume.check_volume.Goals as goal

pub returns-in_err-check_parts-clause-leaves : goal.returns-in_err-check_parts-clause-leaves
returns-in_err-check_parts-clause-leaves g c = leaves_as _ _ (g.D.Disk.state c.args.disk.now) (g.D.Disk.state c.read_parts.new.disk) (λ f. absurd (no_fault c.from_residual-in_err-check_parts.result c.in_err-check_parts.field-0.0 c.from_residual-in_err-check_parts.ensures.1 f)) c.read_parts.ensures.leaves

pub returns-in_err-check_parts-clause-err : goal.returns-in_err-check_parts-clause-err
returns-in_err-check_parts-clause-err g c = λ t.
    let files = (g.D.Disk.state c.args.disk.now).files in
    let same : c.in_ok-parts.parts.items ≡ c.deref.result.now = search rules in
    passed_on c.from_residual-in_err-check_parts.result (of_part c.in_err-check_parts.field-0.0) (MayTell (VolumeTells files c.args.of)) c.from_residual-in_err-check_parts.ensures.1
    (says_tells (VolumeTells files c.args.of) c.in_err-check_parts.field-0.0 (c.in_err-check_parts.ensures.err files (subst (AreParts c.args.of files) same (c.in_ok-parts.ensures.ok t))))
