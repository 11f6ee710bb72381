-- The points of a list above a key.
use Rattle.std.proofs.Common.{◌≡◌, ℕ, ◌≤◌, List, length, take, true, cond, refl, sym, ap, ◌∙◌, subst, inl, inr, arith}
use Rattle.std.specs.Prelude.{◌⊎◌, ◌↔◌, Option, Some, None, nat_le, slice_get, ◌-◌}
use Rattle.std.specs.Option.{option_map}
use Rattle.std.specs.Ordering.{is_lt}
use Rattle.std.proofs.lemmas.Bool.{leb-true, cases_Bool}
use Rattle.std.proofs.lemmas.List.{take_all}
use Rattle.m3_model.specs.Answers.{HasPoint}
use Rattle.m3_model.specs.Ascends.{Ascends}
use Rattle.m3_model.specs.Contents.{Contents, key_of, point_at}
use Rattle.m3_model.specs.Keys.{key_cmp}
use Rattle.m3_model.specs.Members.{IsIn}
use Rattle.m3_model.specs.declared.point.Key.{Key}
use Rattle.m3_model.specs.declared.point.Page.{Page}
use Rattle.m3_model.specs.declared.point.Point.{Point}
use Rattle.m3_model.proofs.Ascending.{Ascends-filter}
use Rattle.m3_model.proofs.Lists.{IsIn-filter, IsIn-filter_passes, filter-IsIn}
use Rattle.m3_model.proofs.Orders.{less_from}
use Rattle.page_cut.specs.Pages.{IsBefore, is_past, points_past, page_from, page_of}
use Rattle.first_points.specs.Firsts.{IsPast, AreFirst}
use Rattle.first_points.proofs.ListedLemmas.{Remains, first_of}

past_from : (after : Option Key) (p : Point) → is_past after p ≡ true → IsPast after (key_of p)
past_from None p h = tt
past_from (Some k) p h = less_from (key_cmp k (key_of p)) h

past_of : (after : Option Key) (p : Point) → IsPast after (key_of p) → is_past after p ≡ true
past_of None p h = refl
past_of (Some k) p h = ap is_lt h

pub remains_past : (c : Contents) (after : Option Key) (points : List Point) → Ascends IsBefore points → ((p : Point) → IsIn points p ↔ HasPoint c p) → Remains c after (points_past after points)
remains_past c after points ascend same = record {
  ascend = Ascends-filter IsBefore (is_past after) points ascend;
  stand = λ p m. (same p).0 (IsIn-filter (is_past after) points p m);
  past = λ p m. past_from after p (IsIn-filter_passes (is_past after) points p m);
  all = λ k v here past. filter-IsIn (is_past after) points (point_at k v) ((same (point_at k v)).1 here) (past_of after (point_at k v) past);
}

-- the points of a page are the first ones
pub points_from : (limit : ℕ) (rest : List Point) → (page_from limit rest).points ≡ take limit rest
points_from limit rest =
    elim (cases_Bool (nat_le (length rest) limit)) as (λ _. (page_from limit rest).points ≡ take limit rest) [
      | inl few ↦ ap (λ b. (cond b whole part).points) few ∙ sym (take_all limit rest (leb-true (length rest) limit few))
      | inr more ↦ ap (λ b. (cond b whole part).points) more
    ]
  where
    whole : Page
    whole = record { points = rest; next = None }

    part : Page
    part = record { points = take limit rest; next = option_map key_of (slice_get rest (limit - 1)) }

pub first_of_page : (limit : ℕ) (c : Contents) (after : Option Key) (points : List Point) → Ascends IsBefore points → ((p : Point) → IsIn points p ↔ HasPoint c p) → AreFirst c after limit (page_of points limit after).points
first_of_page limit c after points ascend same = subst (AreFirst c after limit) (sym (points_from limit (points_past after points))) (first_of limit c after (points_past after points) (remains_past c after points ascend same))
