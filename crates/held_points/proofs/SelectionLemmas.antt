-- The points of some series, one series after the other.
use Rattle.std.proofs.Common.{◌≡◌, ℕ, ◌<◌, ℤ, List, [], ◌∷◌, ◌++◌, refl, sym, ◌∙◌, subst, inl, inr}
use Rattle.std.specs.Prelude.{◌⊎◌}
use Rattle.m3_model.specs.declared.point.Pick.TheVariants as pick
use Rattle.m3_model.specs.declared.point.Point.{Point}
use Rattle.m3_model.specs.declared.point.Series.{Series}
use Rattle.m3_model.specs.Ascends.{Ascends}
use Rattle.m3_model.specs.Members.{IsIn}
use Rattle.m3_model.specs.Tags.{IsBelow}
use Rattle.m3_model.specs.Contents.{Contents}
use Rattle.m3_model.specs.Reads.{IsOrdered, points_in}
use Rattle.m3_model.proofs.MemberLemmas.{IsIn-append_left, IsIn-append_right, IsIn-append_cases}
use Rattle.series_slots.specs.Ranges.{IsRangeOf}
use Rattle.series_slots.proofs.AnswerLemmas.{point_in, in_points}
use Rattle.held_points.specs.Selected.{IsSelected, IsSelection}
use Rattle.held_points.proofs.ListLemmas.{some_element, ascends_append}

-- no series have no points
pub empty_selection : (c : Contents) (ns from to : ℕ) → IsSelection c ns (IsIn []) from to []
empty_selection c ns from to = record {
  ordered = record { ids = tt; times = λ s m. absurd m; none_empty = λ s m. absurd m };
  nothing_else = λ p m. absurd m;
  whole = λ p is. absurd is.named;
}

-- a point of a series that isn't empty
first_point : (ns : ℕ) (series : List Series) → IsOrdered series → (s : Series) → IsIn series s → (p : Point) × IsIn (points_in ns series) p × (p.id ≡ s.id)
first_point ns series h s m =
    let x = some_element s.points (h.none_empty s m) in
    let p : Point = record { ns = ns; id = s.id; t = x.0.0; v = x.0.1 } in
    (p, in_points ns series s p m refl refl x.1, refl)

both_ordered : (all found : List Series) → IsOrdered all → IsOrdered found → ((a b : Series) → IsIn all a → IsIn found b → IsBelow a.id b.id) → IsOrdered (all ++ found)
both_ordered all found h g below = record {
  ids = ascends_append (λ (a b : Series). IsBelow a.id b.id) all found h.ids g.ids below;
  times = λ s m. elim (IsIn-append_cases all found s m) as (λ _. Ascends (λ (a b : ℕ × ℤ). a.0 < b.0) s.points) [ inl a ↦ h.times s a | inr b ↦ g.times s b ];
  none_empty = λ s m. elim (IsIn-append_cases all found s m) [ inl a ↦ h.none_empty s a | inr b ↦ g.none_empty s b ];
}

in_either : (ns : ℕ) (all found : List Series) (p : Point) → IsIn (points_in ns (all ++ found)) p → IsIn (points_in ns all) p ⊎ IsIn (points_in ns found) p
in_either ns all found p m =
    let at = point_in ns (all ++ found) p m in
    elim (IsIn-append_cases all found at.0 at.1) as (λ _. IsIn (points_in ns all) p ⊎ IsIn (points_in ns found) p) [
      | inl a ↦ inl (in_points ns all at.0 p a at.2 at.3 at.4)
      | inr b ↦ inr (in_points ns found at.0 p b at.2 at.3 at.4)
    ]

from_either : (ns : ℕ) (all found : List Series) (p : Point) → IsIn (points_in ns all) p ⊎ IsIn (points_in ns found) p → IsIn (points_in ns (all ++ found)) p
from_either ns all found p h =
    elim h as (λ _. IsIn (points_in ns (all ++ found)) p) [
      | inl a ↦ let at = point_in ns all p a in in_points ns (all ++ found) at.0 p (IsIn-append_left all found at.0 at.1) at.2 at.3 at.4
      | inr b ↦ let at = point_in ns found p b in in_points ns (all ++ found) at.0 p (IsIn-append_right all found at.0 at.1) at.2 at.3 at.4
    ]

-- the range of one more series, whose identifier is above the others, is added to theirs
pub next_selection : (c : Contents) (ns from to : ℕ) (done : List (List ℕ)) (id : List ℕ) (all found : List Series) → IsSelection c ns (IsIn done) from to all
    → ((x : List ℕ) → IsIn done x → IsBelow x id) → IsRangeOf c (pick.One ns id) from to found → IsSelection c ns (IsIn (done ++ id ∷ [])) from to (all ++ found)
next_selection c ns from to done id all found h above range = record {
  ordered = both_ordered all found h.ordered range.ordered (λ a b m n.
      let p = first_point ns all h.ordered a m in
      let q = first_point ns found range.ordered b n in
      let low : IsBelow a.id id = above a.id (subst (IsIn done) p.2 (h.nothing_else p.0 p.1).named) in
      subst (IsBelow a.id) (sym (range.nothing_else q.0 q.1).1.1 ∙ q.2) low);
  nothing_else = λ p m.
      elim (in_either ns all found p m) as (λ _. IsSelected c ns (IsIn (done ++ id ∷ [])) from to p) [
        | inl a ↦ let is = h.nothing_else p a in record { stands = is.stands; in_space = is.in_space; named = IsIn-append_left done (id ∷ []) p.id is.named; in_range = is.in_range }
        | inr b ↦ let is = range.nothing_else p b in record { stands = is.0; in_space = is.1.0; named = IsIn-append_right done (id ∷ []) p.id (inl (sym is.1.1)); in_range = is.2 }
      ];
  whole = λ p is. from_either ns all found p
      (elim (IsIn-append_cases done (id ∷ []) p.id is.named) as (λ _. IsIn (points_in ns all) p ⊎ IsIn (points_in ns found) p) [
        | inl old ↦ inl (h.whole p (record { stands = is.stands; in_space = is.in_space; named = old; in_range = is.in_range }))
        | inr new ↦ elim new as (λ _. IsIn (points_in ns all) p ⊎ IsIn (points_in ns found) p) [
          | inl same ↦ inr (range.whole p is.stands (is.in_space, sym same) is.in_range)
          | inr none ↦ absurd none
        ]
      ]);
}
