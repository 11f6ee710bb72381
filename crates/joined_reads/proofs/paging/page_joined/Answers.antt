use Rattle.std.proofs.Common.{List}
use Rattle.std.specs.Option.{option_copied}
use Rattle.m3_model.specs.Contents.{content_of}
use Rattle.listed_volumes.proofs.commit_log_proofs.Leaves.{leaves_none, leaves_as}
use Rattle.listed_volumes.proofs.commit_log_proofs.ReadLemmas.{passed_err}
use Rattle.listed_volumes.specs.shard_files.FilesHold.{volume_points}
use Rattle.listed_volumes.specs.fileset_read.declared.file_err.FileErr.TheVariants as failures
use Rattle.listed_volumes.proofs.FirstLemmas.{join_of_points}
use Rattle.listed_volumes.proofs.ReadLemmas.{not_fault}
use Rattle.listed_volumes.specs.Listed.{known_in}
use Rattle.joined_reads.specs.Beside.{content_beside}
use Rattle.joined_reads.proofs.BesideLemmas.{cached_on}
use Rattle.joined_reads.proofs.paging.page_joined.Goals as goal

pub returns-in_err-here-clause-leaves : goal.returns-in_err-here-clause-leaves
returns-in_err-here-clause-leaves g c =
    leaves_none _ (g.D.Disk.state c.args.disk.now) (λ f. not_fault c.first_held.result c.first_held.ensures.err (passed_err c.from_residual.result c.first_held.result c.in_err-here.field-0.0 failures.Disk c.in_err-here.was c.from_residual.ensures.1 f))

pub returns-in_err-here-clause-cached : goal.returns-in_err-here-clause-cached
returns-in_err-here-clause-cached g c = c.requires.cached

pub returns-in_err-there-clause-cached : goal.returns-in_err-there-clause-cached
returns-in_err-there-clause-cached g c =
    cached_on c.args.volumes.now c.args.kept.now c.first_listed.new.kept (g.D.Disk.state c.args.disk.now) (g.D.Disk.state c.first_listed.new.disk) c.first_listed.ensures.leaves.proceeds.tells c.requires.there c.first_listed.ensures.kept c.first_listed.ensures.right c.requires.cached

pub returns-clause-cached : goal.returns-clause-cached
returns-clause-cached g c =
    cached_on c.args.volumes.now c.args.kept.now c.first_listed.new.kept (g.D.Disk.state c.args.disk.now) (g.D.Disk.state c.first_listed.new.disk) c.first_listed.ensures.leaves.proceeds.tells c.requires.there c.first_listed.ensures.kept c.first_listed.ensures.right c.requires.cached

pub returns-clause-page : goal.returns-clause-page
returns-clause-page g c = λ tells.
    let m = c.args.held.now.points in
    let vs = c.args.volumes.now in
    c.page_of_both.ensures.page m (content_of (volume_points (known_in vs))) (content_beside m vs) (option_copied c.args.after) (join_of_points m (volume_points (known_in vs))) (c.in_ok-here.ensures.first (c.requires.times tells)) (c.in_ok-there.ensures.first tells)

pub returns-clause-leaves : goal.returns-clause-leaves
returns-clause-leaves g c = leaves_as _ _ (g.D.Disk.state c.args.disk.now) (g.D.Disk.state c.first_listed.new.disk) (λ f. absurd (not_fault c.page_of_both.result c.page_of_both.ensures.err f)) c.first_listed.ensures.leaves
