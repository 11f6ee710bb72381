use Rattle.std.proofs.Common.{◌∙◌, [], ap, map}
use Rattle.std.specs.Prelude.{filter}
use Rattle.store_log.specs.listed_volumes.block_buffer.Joins.{joined}
use Rattle.store_log.proofs.listed_volumes_proofs.commit_log_proofs.Leaves.{leaves_none}
use Rattle.store_log.proofs.listed_volumes_proofs.commit_log_proofs.ReadLemmas.{passed_err}
use Rattle.store_log.specs.listed_volumes.shard_files.FilesHold.{volume_points}
use Rattle.store_log.specs.listed_volumes.fileset_read.declared.file_err.FileErr.TheVariants as failures
use Rattle.store_log.specs.listed_volumes.Known.{is_of}
use Rattle.store_log.proofs.listed_volumes_proofs.AnswerLemmas.{block_is_range}
use Rattle.store_log.proofs.listed_volumes_proofs.ReadLemmas.{not_fault}
use Rattle.store_log.specs.listed_volumes.Listed.{known_in}
use Rattle.shard_store.proofs.KnownReads.{of_heads, there_heads, bounded_of}
use Rattle.shard_store.proofs.VolumeLists.{known_by_heads}
use Rattle.shard_store.proofs.opened.Opened.rows_of.Goals as goal

pub returns-in_err-buffered-clause-leaves : goal.returns-in_err-buffered-clause-leaves
returns-in_err-buffered-clause-leaves g c =
    leaves_none _ (g.D.Disk.state c.args.disk.now) (λ f. not_fault c.buffered_rows.result c.buffered_rows.ensures.err (passed_err c.from_residual.result c.buffered_rows.result c.in_err-buffered.field-0.0 failures.Disk c.in_err-buffered.was c.from_residual.ensures.1 f))

pub returns-in_err-heads-clause-leaves : goal.returns-in_err-heads-clause-leaves
returns-in_err-heads-clause-leaves g c =
    leaves_none _ (g.D.Disk.state c.args.disk.now) (λ f. not_fault c.heads_of.result c.heads_of.ensures.err (passed_err c.from_residual-in_err-heads.result c.heads_of.result c.in_err-heads.field-0.0 failures.Disk c.in_err-heads.was c.from_residual-in_err-heads.ensures.1 f))

pub block_rows-requires-clause-there : goal.block_rows-requires-clause-there
block_rows-requires-clause-there g c =
    let vs = c.args.self.now.volumes.items in
    let are = c.deref-2.ensures.value ∙ c.in_ok-heads.ensures.ok ∙ ap (map (λ v. v.head)) c.deref.ensures.value in
    there_heads c.args.self.now.held.points (known_in vs) c.args.self.now.tenure c.args.self.now.fence (g.D.Disk.state c.args.disk.now) (g.met.D.Disk.lawful c.args.disk.now) c.requires.kept.exact c.deref-2.result.now (known_by_heads vs c.deref-2.result.now are)

pub block_rows-requires-clause-ordered : goal.block_rows-requires-clause-ordered
block_rows-requires-clause-ordered g c = (c.in_ok-buffered.ensures.rows []).ordered

pub block_rows-requires-clause-bounded : goal.block_rows-requires-clause-bounded
block_rows-requires-clause-bounded g c p m = (bounded_of c.args.ns c.args.start c.args.size c.in_ok-buffered.buffered c.in_ok-buffered.ensures.volume p m, ((c.in_ok-buffered.ensures.rows []).nothing_else p m).2)

pub returns-in-Ok-clause-join : goal.returns-in-Ok-clause-join
returns-in-Ok-clause-join g c = λ tells.
    let vs = c.args.self.now.volumes.items in
    let m = c.args.self.now.held.points in
    let are = c.deref-2.ensures.value ∙ c.in_ok-heads.ensures.ok ∙ ap (map (λ v. v.head)) c.deref.ensures.value in
    let of = of_heads m (known_in vs) c.args.self.now.tenure c.args.self.now.fence (g.D.Disk.state c.args.disk.now) (g.met.D.Disk.lawful c.args.disk.now) c.requires.kept.exact c.deref-2.result.now (known_by_heads vs c.deref-2.result.now are) tells in
    c.in-Ok.ensures.content tells (known_in vs) of
    ∙ ap (λ d. joined d (volume_points (filter (is_of c.args.ns c.args.start c.args.size) (known_in vs)))) (block_is_range m c.args.ns c.args.start c.args.size c.in_ok-buffered.buffered c.in_ok-buffered.ensures.rows)
