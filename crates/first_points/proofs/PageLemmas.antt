-- The page of the first points, of which one more than it may have is given.
use Rattle.std.proofs.Common.{◌≡◌, ℕ, zero, suc, ◌+◌, ◌-◌, ◌<◌, ◌≤◌, List, [], ◌∷◌, ◌++◌, length, take, true, false, cond, refl, sym, ap, ◌∙◌, subst, inl, inr, arith}
use Rattle.std.specs.Prelude.{◌⊎◌, Option, Some, None, MatchOption, nat_le, slice_get}
use Rattle.std.specs.Option.{option_map}
use Rattle.std.proofs.lemmas.Bool.{leb-true, leb-false, cases_Bool}
use Rattle.std.proofs.lemmas.List.{length-take-le}
use Rattle.std.specs.declared.cmp.Ordering.TheVariants.{Less}
use Rattle.m3_model.specs.Ascends.{Ascends}
use Rattle.m3_model.specs.Contents.{Contents, key_of}
use Rattle.m3_model.specs.Keys.{key_cmp, key_cmp_total}
use Rattle.m3_model.specs.Members.{IsIn}
use Rattle.m3_model.specs.declared.point.Key.{Key}
use Rattle.m3_model.specs.declared.point.Page.{Page}
use Rattle.m3_model.specs.declared.point.Point.{Point}
use Rattle.page_cut.specs.Pages.{IsBefore, page_from}
use Rattle.first_points.specs.Firsts.{IsNext, AreInTurn, HasNonePast, last_key, AreFirst, IsPageOf, GoesOnFrom}

-- points in turn ascend
pub turns_ascend : (c : Contents) (after : Option Key) (points : List Point) → AreInTurn c after points → Ascends IsBefore points
turns_ascend c after [] h = tt
turns_ascend c after (p ∷ points) h = (later (key_of p) points h.1, turns_ascend c (Some (key_of p)) points h.1)
  where
    later : (k : Key) (points : List Point) → AreInTurn c (Some k) points → (q : Point) → IsIn points q → key_cmp k (key_of q) ≡ Less
    later k [] h q m = absurd m
    later k (p ∷ points) h q (inl e) = subst (λ r. key_cmp k (key_of r) ≡ Less) e h.0.past
    later k (p ∷ points) h q (inr m) = key_cmp_total.trans k (key_of p) (key_of q) h.0.past (later (key_of p) points h.1 q m)

-- the first ones of a longer list: the last of them, and the one that follows
record Front (c : Contents) (after : Option Key) (limit : ℕ) (points : List Point) : Type 0 where
  in_turn : AreInTurn c after (take limit points)
  last : Point
  got : slice_get points (limit - 1) ≡ Some last
  key : last_key after (take limit points) ≡ Some (key_of last)
  more : Point
  follows : IsNext c (Some (key_of last)) more

front_of : (limit : ℕ) (c : Contents) (after : Option Key) (points : List Point) → 1 ≤ limit → limit < length points → AreInTurn c after points → Front c after limit points
front_of zero c after points some more h = absurd (omega (arith, some))
front_of (suc n) c after [] some more h = absurd (omega (arith, more))
front_of (suc zero) c after (p ∷ []) some more h = absurd (omega (arith, more))
front_of (suc zero) c after (p ∷ q ∷ points) some more h = record { in_turn = (h.0, tt); last = p; got = refl; key = refl; more = q; follows = h.1.0 }
front_of (suc (suc n)) c after (p ∷ points) some more h =
    let later = front_of (suc n) c (Some (key_of p)) points (omega arith) (omega (arith, more)) h.1 in
    let next : suc (suc n) - 1 ≡ suc n = omega arith in
    let this : n ≡ suc n - 1 = omega arith in
    record {
      in_turn = (h.0, later.in_turn);
      last = later.last;
      got = ap (λ k. slice_get (p ∷ points) k) next ∙ ap (λ k. slice_get points k) this ∙ later.got;
      key = later.key;
      more = later.more;
      follows = later.follows;
    }

pub page_of : (limit : ℕ) (c : Contents) (after : Option Key) (points : List Point) → 1 ≤ limit → AreFirst c after (limit + 1) points
    → AreFirst c after limit (page_from limit points).points × MatchOption (page_from limit points).next (HasNonePast c (last_key after (page_from limit points).points)) (GoesOnFrom c after (page_from limit points))
page_of limit c after points some h =
    elim (cases_Bool (nat_le (length points) limit)) as (λ _. Of (page_from limit points)) [
      | inl few ↦
          let le = leb-true (length points) limit few in
          subst Of (sym (ap (λ b. cond b whole part) few)) (record { in_turn = h.in_turn; few = le; all = λ less. h.all (omega (arith, less)) }, h.all (omega (arith, le)))
      | inr more ↦
          let lt = leb-false (length points) limit more in
          let f = front_of limit c after points some lt h.in_turn in
          let count = length-take-le limit points (omega (arith, lt)) in
          let said : Page = record { points = take limit points; next = Some (key_of f.last) } in
          let is : part ≡ said = ap (λ (o : Option Point). record { points = take limit points; next = option_map key_of o }) f.got in
          subst Of (sym (ap (λ b. cond b whole part) more ∙ is)) (
            record { in_turn = f.in_turn; few = omega (arith, count); all = λ less. absurd (omega (arith, count, less)) },
            record { last = f.key; more = f.more; follows = f.follows },
          )
    ]
  where
    whole : Page
    whole = record { points = points; next = None }

    part : Page
    part = record { points = take limit points; next = option_map key_of (slice_get points (limit - 1)) }

    Of : Page → Type 0
    Of page = AreFirst c after limit page.points × MatchOption page.next (HasNonePast c (last_key after page.points)) (GoesOnFrom c after page)
