-- The points of a set that has them by key and value.
use Rattle.std.proofs.Common.{◌≡◌, ◌⊎◌, inl, inr, ⊎_elim, ℤ, List, [], ◌∷◌, ◌++◌, sym, ap, subst, ◌∙◌}
use Rattle.std.specs.Prelude.{◌↔◌, map, Result, Ok, Err, IfOk}
use Rattle.std.specs.BTreeSet.{insert_key}
use Rattle.std.specs.FinMap.{IsAntisymmetric, int_cmp-IsAntisymmetric}
use Rattle.std.specs.Ordering.{int_cmp}
use Rattle.std.specs.declared.cmp.Ordering.TheVariants.{Less}
use Rattle.m3_model.specs.Ascends.{Ascends}
use Rattle.m3_model.specs.Contents.{key_of}
use Rattle.m3_model.specs.Keys.{key_cmp}
use Rattle.m3_model.specs.Members.{IsIn}
use Rattle.m3_model.specs.declared.point.Key.{Key}
use Rattle.m3_model.specs.declared.point.Point.{Point}
use Rattle.m3_model.proofs.Keyed.{key_cmp-IsAntisymmetric}
use Rattle.m3_model.proofs.MemberLemmas.{IsIn-append_left, IsIn-append_cases, IsIn-push, IsIn-map, map-IsIn}
use Rattle.m3_model.proofs.Orders.{both_equal}
use Rattle.held_points.proofs.ListLemmas.{insert_key-IsIn, IsIn-insert_key}
use Rattle.snapshot_files.specs.shard_files.Once.{IsBefore, IsEachOnce}
use Rattle.shard_open.specs.Ranks.{rank_cmp, ranked, unranked, AreRanksOf}

rank_cmp-IsAntisymmetric : IsAntisymmetric rank_cmp
rank_cmp-IsAntisymmetric x y e =
    let parts = both_equal (key_cmp x.0 y.0) (int_cmp x.1 y.1) e in
    λ i. (key_cmp-IsAntisymmetric x.0 y.0 parts.0 i, int_cmp-IsAntisymmetric x.1 y.1 parts.1 i)

pub no_ranks : (ranks : List (Key × ℤ)) → ranks ≡ [] → AreRanksOf [] ranks
no_ranks ranks none = record { each = λ p. (λ m. subst (λ (l : List (Key × ℤ)). IsIn l (ranked p)) none m, λ m. absurd m) }

-- one more point
pub one_more : (ks ms : List (Key × ℤ)) (points : List Point) (q : Point) → ms ≡ insert_key rank_cmp ks (ranked q) → AreRanksOf points ks → AreRanksOf (points ++ q ∷ []) ms
one_more ks ms points q is has = record {
  each = λ p. (
    (λ m. ⊎_elim (λ (old : IsIn ks (ranked p)). IsIn-append_left points (q ∷ []) p ((has.each p).0 old)) (λ (new : ranked q ≡ ranked p). subst (IsIn (points ++ q ∷ [])) (ap unranked new) (IsIn-push points q))
        (insert_key-IsIn rank_cmp rank_cmp-IsAntisymmetric ks (ranked q) (ranked p) (subst (λ (l : List (Key × ℤ)). IsIn l (ranked p)) is m))),
    (λ m. subst (λ (l : List (Key × ℤ)). IsIn l (ranked p)) (sym is) (IsIn-insert_key rank_cmp rank_cmp-IsAntisymmetric ks (ranked q) (ranked p)
        (⊎_elim (λ (old : IsIn points p). inl ((has.each p).1 old)) (λ (new : (q ≡ p) ⊎ ⊥). ⊎_elim (λ (same : q ≡ p). inr (ap ranked same)) (λ (none : ⊥). absurd none) new) (IsIn-append_cases points (q ∷ []) p m)))),
  );
}

-- the points ascend as their keys and values do
pub unranked_ascend : (ks : List (Key × ℤ)) → Ascends (λ a b. rank_cmp a b ≡ Less) ks → Ascends IsBefore (map unranked ks)
unranked_ascend [] h = tt
unranked_ascend (k ∷ ks) h = ((λ p m. let at = IsIn-map unranked ks p m in subst (IsBefore (unranked k)) at.2 (h.0 at.0 at.1)), unranked_ascend ks h.1)

once_of : (ks : List (Key × ℤ)) (points listed : List Point) → AreRanksOf points ks → listed ≡ map unranked ks → Ascends IsBefore listed → IsEachOnce points listed
once_of ks points listed has is ascending = record {
  ascending = ascending;
  same = λ p. (
    (λ m. let at = IsIn-map unranked ks p (subst (λ (l : List Point). IsIn l p) is m) in (has.each p).0 (subst (IsIn ks) (ap ranked at.2) at.1)),
    (λ m. subst (λ (l : List Point). IsIn l p) (sym is) (map-IsIn unranked ks (ranked p) ((has.each p).1 m))),
  );
}

pub once_ok : {E : Type 0} (r : Result (List Point) E) (ks : List (Key × ℤ)) (points : List Point) → AreRanksOf points ks → IfOk r (λ listed. listed ≡ map unranked ks) → IfOk r (Ascends IsBefore) → IfOk r (IsEachOnce points)
once_ok (Ok listed) ks points has is ascending = once_of ks points listed has is ascending
once_ok (Err e) ks points has is ascending = tt
