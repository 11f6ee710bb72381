-- A page of the first points of a content, as a replica that the content shows may answer it.
use Rattle.std.proofs.Common.{◌≡◌, ◌∙◌, ℕ, ℤ, suc, ◌-◌, ◌<◌, ◌≤◌, List, [], ◌∷◌, length, refl, sym, ap, subst, inl, inr, arith}
use Rattle.std.specs.Prelude.{◌⊎◌, ⊤, Option, Some, None, MatchOption, slice_get}
use Rattle.std.specs.FinMap.{get}
use Rattle.std.specs.Ordering.{ordering_reverse}
use Rattle.std.specs.declared.cmp.Ordering.{Ordering}
use Rattle.std.specs.declared.cmp.Ordering.TheVariants.{Less, Equal, Greater}
use Rattle.m3_model.specs.Contents.{Contents, key_of, point_at}
use Rattle.m3_model.specs.Keys.{key_cmp, key_cmp_total}
use Rattle.m3_model.specs.Members.{IsIn}
use Rattle.m3_model.specs.Reads.{Covers}
use Rattle.m3_model.specs.declared.point.Key.{Key}
use Rattle.m3_model.specs.declared.point.Page.{Page}
use Rattle.m3_model.specs.declared.point.Point.{Point}
use Rattle.m3_model.proofs.Keyed.{key_cmp-IsAntisymmetric}
use Rattle.m3_model.proofs.Lists.{All-from_each}
use Rattle.placement_core.proofs.ListLemmas.{Any-from_IsIn}
use Rattle.first_points.specs.Firsts.{AreInTurn, GoesOnFrom, HasNonePast, IsPageOf, IsPast, last_key}
use Rattle.first_points.proofs.PageLemmas.{turns_ascend}
use Rattle.first_points.proofs.TurnLemmas.{past_later}
use Rattle.cluster_core.specs.Answers.{AsksFor, GoesOn, IsKeyBelow, IsPage, IsPastKey, IsUpTo}
use Rattle.cluster_core.specs.Replicas.{IsGone, Shows}
use Rattle.cluster_core.specs.declared.event.StepCall.TheVariants as call
use Rattle.cluster_core.specs.declared.replica_state.ReplicaState.{ReplicaState}
use Rattle.cluster_core.proofs.ListLemmas.{at_in}

asked : (after : Option Key) (k : Key) → IsPast after k → IsPastKey after k
asked None k h = h
asked (Some a) k h = h

is_asked : (after : Option Key) (k : Key) → IsPastKey after k → IsPast after k
is_asked None k h = h
is_asked (Some a) k h = h

-- ---- points in turn

-- what stands above the key is one of them, or above the last one
turned : (c : Contents) (last : Option Key) (points : List Point) → AreInTurn c last points → (k : Key) (v : ℤ) → get c k ≡ Some v → IsPast last k → IsPast (last_key last points) k ⊎ IsIn points (point_at k v)
turned c last [] h k v here past = inl past
turned c last (q ∷ points) h k v here past = by (turned c (Some (key_of q)) points h.1 k v here) (key_cmp k (key_of q)) refl
  where
    same_value : Some v ≡ Some q.v → v ≡ q.v
    same_value e = cc

    by : (key_cmp (key_of q) k ≡ Less → IsPast (last_key (Some (key_of q)) points) k ⊎ IsIn points (point_at k v)) → (o : Ordering) → key_cmp k (key_of q) ≡ o → IsPast (last_key (Some (key_of q)) points) k ⊎ IsIn (q ∷ points) (point_at k v)
    by later Less e = absurd (h.0.first k v here past e)
    by later Equal e =
        let same : k ≡ key_of q = key_cmp-IsAntisymmetric k (key_of q) e in
        let value : v ≡ q.v = same_value (sym here ∙ ap (get c) same ∙ h.0.stands) in
        inr (inl (λ i. point_at (sym same i) (sym value i)))
    by later Greater e =
        elim (later (key_cmp_total.antisymm (key_of q) k ∙ ap ordering_reverse e)) as (λ _. IsPast (last_key (Some (key_of q)) points) k ⊎ IsIn (q ∷ points) (point_at k v)) [
          | inl behind ↦ inl behind
          | inr m ↦ inr (inr m)
        ]

-- the last of them
record IsLast (points : List Point) (k : Key) : Type 0 where
  last : Point
  at : slice_get points (length points - 1) ≡ Some last
  key : key_of last ≡ k

last_of : (last : Option Key) (points : List Point) (k : Key) → last_key last points ≡ Some k → 1 ≤ length points → IsLast points k
last_of last [] k e some = absurd (omega (arith, some))
last_of last (p ∷ []) k e some = record { last = p; at = refl; key = (let same : key_of p ≡ k = cc in same) }
last_of last (p ∷ q ∷ points) k e some =
    let later = last_of (Some (key_of p)) (q ∷ points) k e (omega arith) in
    let next : length (p ∷ q ∷ points) - 1 ≡ suc (length (q ∷ points) - 1) = omega arith in
    record { last = later.last; at = ap (λ i. slice_get (p ∷ q ∷ points) i) next ∙ later.at; key = later.key }

-- ---- the page

module _ (r : ReplicaState) (c : Contents) (shows : Shows r c) (after : Option Key) where
  sound : (last : Option Key) (points : List Point) → AreInTurn c last points → (p : Point) → IsIn points p → IsIn r.sure p × IsPast last (key_of p)
  sound last [] h p m = absurd m
  sound last (q ∷ points) h p (inl e) = subst (λ (x : Point). IsIn r.sure x × IsPast last (key_of x)) e (shows.sure (key_of q) q.v h.0.stands, h.0.past)
  sound last (q ∷ points) h p (inr m) = let later = sound (Some (key_of q)) points h.1 p m in (later.0, past_later last (key_of q) (key_of p) h.0.past later.1)

  module _ (page : Page) (is : IsPageOf c after page) where
    -- nothing above the last one is asked for up to where the page goes on
    not_behind : (k : Key) (v : ℤ) → get c k ≡ Some v → IsUpTo page.next k → IsPast (last_key after page.points) k → ⊥
    not_behind k v here up behind = by page.next refl is.next up
      where
        by : (next : Option Key) → page.next ≡ next → MatchOption next (HasNonePast c (last_key after page.points)) (GoesOnFrom c after page) → IsUpTo next k → ⊥
        by None e none up = none k v here behind
        by (Some a) e on up = up (subst (λ (o : Option Key). IsPast o k) on.last behind)

    covered : (p : Point) → IsIn r.sure p → ¬ IsGone r p → AsksFor (call.Page after) p → IsUpTo page.next (key_of p) → Covers page.points p
    covered p m stays asks up =
        let held = shows.all p m stays in
        elim (turned c after page.points is.first.in_turn (key_of p) held.value held.stands (is_asked after (key_of p) asks)) as (λ _. Covers page.points p) [
          | inl behind ↦ absurd (not_behind (key_of p) held.value held.stands up behind)
          | inr there ↦ record { value = held.value; at_least = held.at_least; stands = there }
        ]

    full_of : (n : ℕ) → n ≤ 64 → (n < 64 → ⊥) → n ≡ 64
    full_of n few not = grind arith

    goes_on : (k : Key) → GoesOnFrom c after page k → GoesOn r (call.Page after) page k
    goes_on k on =
        let full = full_of (length page.points) is.first.few (λ less. is.first.all less (key_of on.more) (on.more).v on.follows.stands (subst (λ (o : Option Key). IsPast o (key_of on.more)) (sym on.last) on.follows.past)) in
        let last = last_of after page.points k on.last (omega (arith, full)) in
        let end : length page.points - 1 ≡ 63 = omega (arith, full) in
        let past : IsPast after k = subst (IsPast after) last.key (sound after page.points is.first.in_turn last.last (in_at page.points (length page.points - 1) last.last last.at)).1 in
        record {
          full = full;
          last = last.last;
          at_end = ap (λ i. slice_get page.points i) (sym end) ∙ last.at;
          next_is = last.key;
          more = Any-from_IsIn (λ p. AsksFor (call.Page after) p × IsKeyBelow k (key_of p)) r.sure on.more (shows.sure (key_of on.more) (on.more).v on.follows.stands)
              (asked after (key_of on.more) (past_later after k (key_of on.more) past on.follows.past), on.follows.past);
        }
      where
        in_at : (points : List Point) (i : ℕ) (p : Point) → slice_get points i ≡ Some p → IsIn points p
        in_at points i p e = at_in points i p e

    next_on : (next : Option Key) → MatchOption next (HasNonePast c (last_key after page.points)) (GoesOnFrom c after page) → MatchOption next ⊤ (λ k. GoesOn r (call.Page after) page k)
    next_on None none = tt
    next_on (Some k) on = goes_on k on

    page_shown : IsPage r (call.Page after) page
    page_shown = record {
      nothing_else = All-from_each (λ p. IsIn r.sure p × AsksFor (call.Page after) p) page.points (λ p m. let s = sound after page.points is.first.in_turn p m in (s.0, asked after (key_of p) s.1));
      all_there = All-from_each (λ p. ¬ IsGone r p → AsksFor (call.Page after) p → IsUpTo page.next (key_of p) → Covers page.points p) r.sure (λ p m. covered p m);
      ascending = turns_ascend c after page.points is.first.in_turn;
      few = is.first.few;
      next = next_on page.next is.next;
    }

pub page_is : (r : ReplicaState) (c : Contents) → Shows r c → (after : Option Key) (page : Page) → IsPageOf c after page → IsPage r (call.Page after) page
page_is r c shows after page is = page_shown r c shows after page is
