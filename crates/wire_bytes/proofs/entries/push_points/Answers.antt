use Rattle.std.proofs.Common.{◌≡◌, ℕ, ℤ, ◌<◌, List, [], ◌∷◌, ◌++◌, length, map, take, get_or, subst, sym, ap, ◌∙◌, arith, append_assoc, to_z, of_z, w64, Bor}
use Rattle.std.proofs.lemmas.List.{get_or-map, map_more, length-map}
use Rattle.std.proofs.lemmas.Int.{to_z-of_z}
use Rattle.m3_model.specs.declared.point.Point.{Point}
use Rattle.wire_bytes.specs.Points.{IsPoint, point_bytes}
use Rattle.wire_bytes.specs.Entries.{IsBounded, AllBounded, bytes_of_point, points_bytes}
use Rattle.wire_bytes.proofs.EntryLemmas.{bounded_at, points_more}
use Rattle.wire_bytes.proofs.entries.push_points.Goals as goal

-- the item at the loop's offset is within its bounds
item_bounded : (xs : List (Bor Point)) (i : ℕ) (x : Bor Point) → AllBounded (map (λ (q : Bor Point). q.now) xs) → i < length xs → x ≡ get_or xs i x → IsBounded x.now
item_bounded xs i x all lt is =
    bounded_at (map (λ (q : Bor Point). q.now) xs) i x.now all (omega (arith, length-map xs (λ (q : Bor Point). q.now)))
    (get_or-map (λ (q : Bor Point). q.now) xs i x x.now lt ∙ ap (λ (q : Bor Point). q.now) (sym is))

pub put_point-requires : goal.put_point-requires
put_point-requires c =
    let b = item_bounded c.args.points.now c.loop-point.point-index c.point-item.result c.requires c.loop-point-test.true c.point-item.is in
    let p = c.point-item.result.now in
    subst (λ (id : List ℕ). IsPoint p.ns id p.t (to_z w64 (of_z w64 p.v))) (sym (c.as_bytes.ensures.value ∙ c.as_str.ensures))
    (subst (λ (v : ℤ). IsPoint p.ns p.id p.t v) (sym (to_z-of_z w64 p.v b.value)) b)

pub loop-point-preserved : goal.loop-point-preserved
loop-point-preserved c =
    let b = item_bounded c.args.points.now c.loop-point.point-index c.point-item.result c.requires c.loop-point-test.true c.point-item.is in
    let p = c.point-item.result.now in
    let done = map (λ (q : Bor Point). q.now) (take c.loop-point.point-index c.args.points.now) in
    let same : point_bytes p.ns c.as_bytes.result.now p.t (to_z w64 (of_z w64 p.v)) ≡ bytes_of_point p =
    ap (λ (id : List ℕ). point_bytes p.ns id p.t (to_z w64 (of_z w64 p.v))) (c.as_bytes.ensures.value ∙ c.as_str.ensures) ∙ ap (point_bytes p.ns p.id p.t) (to_z-of_z w64 p.v b.value) in
    c.in_ok-put_point.ensures.ok
    ∙ ap (λ (l : List ℕ). c.loop-point.out.items ++ l) same
    ∙ ap (λ (l : List ℕ). l ++ bytes_of_point p) c.loop-point.invariant
    ∙ append_assoc c.args.out.now.items (points_bytes done) (bytes_of_point p)
    ∙ ap (λ (l : List ℕ). c.args.out.now.items ++ l) (sym (points_more done p)
    ∙ ap points_bytes (sym (map_more (λ (q : Bor Point). q.now) c.args.points.now c.loop-point.point-index c.point-item.result c.loop-point-test.true
    ∙ ap (λ (q : Bor Point). done ++ q.now ∷ []) (sym c.point-item.is))))
