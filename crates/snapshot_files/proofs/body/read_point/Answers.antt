use Rattle.std.proofs.Common.{refl, ◌∙◌, to_z, of_z, w64}
use Rattle.std.proofs.lemmas.Int.{to_z-of_z}
use Rattle.fileset_check.specs.m3_model.declared.point.Point.{Point}
use Rattle.fileset_check.specs.shard_files.Entries.{HasPoint}
use Rattle.fileset_check.proofs.shard_files_proofs.LocationLemmas.{point_read}
use Rattle.fileset_check.proofs.shard_files_proofs.SegmentStops.{passed_on}
use Rattle.fileset_check.specs.fileset_read.declared.row_err.RowErr.TheVariants as errors
use Rattle.snapshot_files.specs.Bodies.{Refuses}
use Rattle.snapshot_files.proofs.body.read_point.Goals as goal

pub returns-in_err-found-clause-err : goal.returns-in_err-found-clause-err
returns-in_err-found-clause-err c = passed_on c.from_residual.result errors.Form (Refuses (HasPoint c.args.bytes.now c.args.at)) c.from_residual.ensures.1 (λ h.
    let there = c.get_point.ensures.whole h.p h.stands in
    let refused = c.in_err-found.was in
    absurd (cc))

pub returns-clause-ok : goal.returns-clause-ok
returns-clause-ok c =
    let f = c.in_ok-found.found in
    let text = rw c.unwrap-id.ensures at c.from_utf8.ensures.cases in
    let p : Point = record { ns = f.ns; id = c.in_ok-from_str.field-0; t = f.t; v = to_z w64 (of_z w64 f.v) } in
    point_read c.args.bytes.now c.args.at f p c.in_ok-found.ensures.ok refl (c.in_ok-from_str.ensures ∙ text.0) refl (to_z-of_z w64 f.v c.in_ok-found.ensures.ok.values.value)
