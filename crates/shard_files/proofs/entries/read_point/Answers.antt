use Rattle.std.proofs.Common.{refl, sym, subst, ◌∙◌, Result, IfOk, to_z, of_z, w64}
use Rattle.std.specs.Result.{IsOk}
use Rattle.std.proofs.lemmas.Int.{to_z-of_z}
use Rattle.commit_log.specs.m3_model.declared.point.Point.{Point}
use Rattle.commit_log.specs.wire_bytes.Points.{PointStands}
use Rattle.commit_log.specs.wire_bytes.declared.points.PointAt.{PointAt}
use Rattle.commit_log.specs.wire_bytes.declared.wire_err.WireErr.{WireErr}
use Rattle.shard_files.proofs.LocationLemmas.{point_read}
use Rattle.shard_files.proofs.entries.read_point.Goals as goal

pub unwrap-found-requires : goal.unwrap-found-requires
unwrap-found-requires c = subst (λ (r : Result PointAt WireErr). IsOk r) (sym (c.get_point.ensures.whole c.requires.p c.requires.stands)) refl

pub returns : goal.returns
returns c =
    let f = c.unwrap-found.result in
    let st : PointStands c.args.bytes.now c.args.at f = subst (λ (r : Result PointAt WireErr). IfOk r (λ p. PointStands c.args.bytes.now c.args.at p)) c.unwrap-found.ensures c.get_point.ensures.ok in
    let text = rw c.unwrap-id.ensures at c.from_utf8.ensures.cases in
    let p : Point = record { ns = f.ns; id = c.in_ok-from_str.field-0; t = f.t; v = to_z w64 (of_z w64 f.v) } in
    point_read c.args.bytes.now c.args.at f p st refl (c.in_ok-from_str.ensures ∙ text.0) refl (to_z-of_z w64 f.v st.values.value)
