-- The first points of a content that a list of points stands for.
use Rattle.std.proofs.Common.{◌≡◌, ℕ, zero, suc, ◌<◌, ◌≤◌, ℤ, List, [], ◌∷◌, ◌++◌, length, take, refl, sym, ap, ◌∙◌, subst, inl, inr, arith}
use Rattle.std.specs.Prelude.{◌⊎◌, Option, Some, None}
use Rattle.std.specs.FinMap.{get, empty}
use Rattle.std.specs.declared.cmp.Ordering.TheVariants.{Less}
use Rattle.m3_model.specs.Answers.{HasPoint}
use Rattle.m3_model.specs.Ascends.{Ascends}
use Rattle.m3_model.specs.Contents.{Contents, content_of, key_of, point_at}
use Rattle.m3_model.specs.Keys.{key_cmp, key_cmp_total}
use Rattle.m3_model.specs.Members.{IsIn}
use Rattle.m3_model.specs.declared.point.Key.{Key}
use Rattle.m3_model.specs.declared.point.Point.{Point}
use Rattle.m3_model.proofs.MemberLemmas.{IsIn-append_cases, IsIn-append_right}
use Rattle.series_merge.proofs.JoinLemmas.{joined_has}
use Rattle.series_merge.proofs.OrderLemmas.{content_in}
use Rattle.page_cut.specs.Pages.{IsBefore}
use Rattle.first_points.specs.Firsts.{IsPast, HasNonePast, IsNext, AreInTurn, last_key, AreFirst}
use Rattle.first_points.proofs.PartitionLemmas.{back_ascends}
use Rattle.first_points.proofs.TurnLemmas.{not_itself, not_both}

-- of two points at one key in a list that ascends there is one
same_point : (points : List Point) (p q : Point) → Ascends IsBefore points → IsIn points p → IsIn points q → key_of p ≡ key_of q → p ≡ q
same_point [] p q h m n e = absurd m
same_point (x ∷ points) p q h (inl a) (inl b) e = sym a ∙ b
same_point (x ∷ points) p q h (inl a) (inr n) e = absurd (not_itself (key_of q) (subst (λ k. key_cmp k (key_of q) ≡ Less) (ap key_of a ∙ e) (h.0 q n)))
same_point (x ∷ points) p q h (inr m) (inl b) e = absurd (not_itself (key_of p) (subst (λ k. key_cmp k (key_of p) ≡ Less) (ap key_of b ∙ sym e) (h.0 p m)))
same_point (x ∷ points) p q h (inr m) (inr n) e = same_point points p q h.1 m n e

-- a list that ascends stands for each of its points
pub listed_has : (points : List Point) (p : Point) → Ascends IsBefore points → IsIn points p → HasPoint (content_of points) p
listed_has points p h m =
    let held = joined_has points empty p m in
    let there : IsIn points (record p { v = held.value }) = content_in points (record p { v = held.value }) held.stands in
    let same : record p { v = held.value } ≡ p = same_point points (record p { v = held.value }) p h there m refl in
    subst (HasPoint (content_of points)) same held.stands

-- ---- what is above a key

-- these points, which ascend, are those of the content above the key
pub record Remains (c : Contents) (after : Option Key) (points : List Point) : Type 0 where
  pub ascend : Ascends IsBefore points
  pub stand : (p : Point) → IsIn points p → HasPoint c p
  pub past : (p : Point) → IsIn points p → IsPast after (key_of p)
  pub all : (k : Key) (v : ℤ) → get c k ≡ Some v → IsPast after k → IsIn points (point_at k v)

next_of : (c : Contents) (after : Option Key) (p : Point) (points : List Point) → Remains c after (p ∷ points) → IsNext c after p
next_of c after p points h = record {
  stands = h.stand p (inl refl);
  past = h.past p (inl refl);
  first = λ k v here above low.
      elim (h.all k v here above) as (λ _. ⊥) [
        | inl same ↦ not_itself k (subst (λ q. key_cmp k q ≡ Less) (ap key_of same) low)
        | inr later ↦ not_both k (key_of p) low (h.ascend.0 (point_at k v) later)
      ];
}

left_of : (c : Contents) (after : Option Key) (p : Point) (points : List Point) → ((k : Key) → key_cmp (key_of p) k ≡ Less → IsPast after k) → Remains c after (p ∷ points) → Remains c (Some (key_of p)) points
left_of c after p points later h = record {
  ascend = h.ascend.1;
  stand = λ q m. h.stand q (inr m);
  past = λ q m. h.ascend.0 q m;
  all = λ k v here above.
      elim (h.all k v here (later k above)) as (λ _. IsIn points (point_at k v)) [
        | inl same ↦ absurd (not_itself k (subst (λ q. key_cmp q k ≡ Less) (ap key_of same) above))
        | inr m ↦ m
      ];
}

past_behind : (after : Option Key) (p : Point) → IsPast after (key_of p) → (k : Key) → key_cmp (key_of p) k ≡ Less → IsPast after k
past_behind None p h k below = tt
past_behind (Some a) p h k below = key_cmp_total.trans a (key_of p) k h below

pub first_of : (limit : ℕ) (c : Contents) (after : Option Key) (points : List Point) → Remains c after points → AreFirst c after limit (take limit points)
first_of zero c after points h = record { in_turn = tt; few = omega arith; all = λ few. absurd (omega (arith, few)) }
first_of (suc n) c after [] h = record { in_turn = tt; few = omega arith; all = λ few k v here above. h.all k v here above }
first_of (suc n) c after (p ∷ points) h =
    let rest = first_of n c (Some (key_of p)) points (left_of c after p points (past_behind after p (h.past p (inl refl))) h) in
    let few = rest.few in
    record { in_turn = (next_of c after p points h, rest.in_turn); few = omega (arith, few); all = λ less. rest.all (omega (arith, less)) }

-- the first points above the key of a list of which just an end is above it
pub first_ends : (limit : ℕ) (points front back : List Point) (after : Option Key) → Ascends IsBefore points → points ≡ front ++ back → ((p : Point) → IsIn front p → IsPast after (key_of p) → ⊥)
    → ((p : Point) → IsIn back p → IsPast after (key_of p)) → AreFirst (content_of points) after limit (take limit back)
first_ends limit points front back after ascend parts low high =
    first_of limit (content_of points) after back (record {
      ascend = back_ascends IsBefore front back (subst (Ascends IsBefore) parts ascend);
      stand = λ p m. listed_has points p ascend (subst (λ l. IsIn l p) (sym parts) (IsIn-append_right front back p m));
      past = high;
      all = λ k v here above.
          elim (IsIn-append_cases front back (point_at k v) (subst (λ l. IsIn l (point_at k v)) parts (content_in points (point_at k v) here))) as (λ _. IsIn back (point_at k v)) [
            | inl m ↦ absurd (low (point_at k v) m above)
            | inr m ↦ m
          ];
    })
