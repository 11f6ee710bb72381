use Rattle.std.proofs.Common.{ℕ, List}
use Rattle.std.proofs.lemmas.Result.{IfOk-weaker}
use Rattle.m3_model.specs.Answers.{IsAnswer}
use Rattle.m3_model.specs.Contents.{Contents, content_of}
use Rattle.m3_model.specs.declared.point.Pick.{Pick}
use Rattle.m3_model.specs.declared.point.Point.{Point}
use Rattle.listed_volumes.specs.block_buffer.Joins.{joined}
use Rattle.listed_volumes.proofs.commit_log_proofs.Leaves.{leaves_none, leaves_as}
use Rattle.listed_volumes.proofs.commit_log_proofs.ReadLemmas.{passed_err}
use Rattle.listed_volumes.specs.shard_files.FilesHold.{volume_points}
use Rattle.listed_volumes.specs.fileset_read.declared.file_err.FileErr.TheVariants as failures
use Rattle.listed_volumes.proofs.ReadLemmas.{not_fault}
use Rattle.listed_volumes.specs.Listed.{known_in}
use Rattle.joined_reads.specs.Beside.{content_beside}
use Rattle.joined_reads.proofs.BesideLemmas.{cached_on}
use Rattle.joined_reads.proofs.fetching.fetch_joined.Goals as goal

pub returns-in_err-here-clause-leaves : goal.returns-in_err-here-clause-leaves
returns-in_err-here-clause-leaves g c =
    leaves_none _ (g.D.Disk.state c.args.disk.now) (λ f. not_fault c.fetch_held.result c.fetch_held.ensures.err (passed_err c.from_residual.result c.fetch_held.result c.in_err-here.field-0.0 failures.Disk c.in_err-here.was c.from_residual.ensures.1 f))

pub returns-in_err-here-clause-cached : goal.returns-in_err-here-clause-cached
returns-in_err-here-clause-cached g c = c.requires.cached

pub returns-in_err-there-clause-cached : goal.returns-in_err-there-clause-cached
returns-in_err-there-clause-cached g c =
    cached_on c.args.volumes.now c.args.kept.now c.fetch.new.kept (g.D.Disk.state c.args.disk.now) (g.D.Disk.state c.fetch.new.disk) c.fetch.ensures.leaves.proceeds.tells c.requires.there c.fetch.ensures.kept c.fetch.ensures.right c.requires.cached

pub returns-clause-cached : goal.returns-clause-cached
returns-clause-cached g c =
    cached_on c.args.volumes.now c.args.kept.now c.fetch.new.kept (g.D.Disk.state c.args.disk.now) (g.D.Disk.state c.fetch.new.disk) c.fetch.ensures.leaves.proceeds.tells c.requires.there c.fetch.ensures.kept c.fetch.ensures.right c.requires.cached

pub returns-clause-answer : goal.returns-clause-answer
returns-clause-answer g c = λ tells.
    let vs = c.args.volumes.now in
    let m = c.args.held.now.points in
    IfOk-weaker c.join_both.result
    (λ series. (d : Contents) (points : List Point) (pick : Pick) (from to : ℕ) → IsAnswer d pick from to c.in_ok-here.here → IsAnswer (content_of points) pick from to c.in_ok-there.there → IsAnswer (joined d points) pick from to series)
    (IsAnswer (content_beside m vs) c.args.pick.now c.args.from c.args.to)
    (λ series f. f m (volume_points (known_in vs)) c.args.pick.now c.args.from c.args.to c.in_ok-here.ensures.answer (c.in_ok-there.ensures.answer tells)) c.join_both.ensures.answer

pub returns-clause-leaves : goal.returns-clause-leaves
returns-clause-leaves g c = leaves_as _ _ (g.D.Disk.state c.args.disk.now) (g.D.Disk.state c.fetch.new.disk) (λ f. absurd (not_fault c.join_both.result c.join_both.ensures.err f)) c.fetch.ensures.leaves
