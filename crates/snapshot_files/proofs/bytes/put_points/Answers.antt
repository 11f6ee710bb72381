use Rattle.std.proofs.Common.{◌≡◌, ℕ, ℤ, List, [], ◌∷◌, ◌++◌, take, subst, sym, ap, ◌∙◌, append_assoc, to_z, of_z, w64}
use Rattle.std.proofs.lemmas.List.{take_more}
use Rattle.std.proofs.lemmas.Int.{to_z-of_z}
use Rattle.fileset_check.specs.m3_model.declared.point.Point.{Point}
use Rattle.fileset_check.specs.wire_bytes.Points.{IsPoint, point_bytes}
use Rattle.fileset_check.specs.wire_bytes.Entries.{bytes_of_point, points_bytes}
use Rattle.fileset_check.proofs.wire_bytes_proofs.EntryLemmas.{bounded_at, points_more}
use Rattle.snapshot_files.proofs.bytes.put_points.Goals as goal

pub put_point-requires : goal.put_point-requires
put_point-requires c =
    let p = c.point-item.result in
    let b = bounded_at c.args.points.now c.loop-point.point-index p c.requires c.loop-point-test.true (sym c.point-item.is) in
    subst (λ (id : List ℕ). IsPoint p.ns id p.t (to_z w64 (of_z w64 p.v))) (sym (c.as_bytes.ensures.value ∙ c.as_str.ensures))
    (subst (λ (v : ℤ). IsPoint p.ns p.id p.t v) (sym (to_z-of_z w64 p.v b.value)) b)

pub loop-point-preserved : goal.loop-point-preserved
loop-point-preserved c =
    let p = c.point-item.result in
    let i = c.loop-point.point-index in
    let b = bounded_at c.args.points.now i p c.requires c.loop-point-test.true (sym c.point-item.is) in
    let done = take i c.args.points.now in
    let same : point_bytes p.ns c.as_bytes.result.now p.t (to_z w64 (of_z w64 p.v)) ≡ bytes_of_point p =
    ap (λ (id : List ℕ). point_bytes p.ns id p.t (to_z w64 (of_z w64 p.v))) (c.as_bytes.ensures.value ∙ c.as_str.ensures) ∙ ap (point_bytes p.ns p.id p.t) (to_z-of_z w64 p.v b.value) in
    c.in_ok-put_point.ensures.ok
    ∙ ap (λ (l : List ℕ). c.loop-point.out.items ++ l) same
    ∙ ap (λ (l : List ℕ). l ++ bytes_of_point p) c.loop-point.invariant
    ∙ append_assoc c.args.out.now.items (points_bytes done) (bytes_of_point p)
    ∙ ap (λ (l : List ℕ). c.args.out.now.items ++ l) (sym (points_more done p)
    ∙ ap points_bytes (sym (take_more c.args.points.now i p c.loop-point-test.true
    ∙ ap (λ (q : Point). done ++ q ∷ []) (sym c.point-item.is))))
