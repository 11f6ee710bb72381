-- Points up to a last one: of lists in parts, and of the pairs and the rows that a search keeps.
use Rattle.std.proofs.Common.{◌≡◌, List, [], ◌∷◌, ◌++◌, Bool, true, false, refl, sym, ap, ◌∙◌, inl, inr, append-nil, true≢false}
use Rattle.std.specs.Prelude.{Option, Some, None, not}
use Rattle.std.specs.Cmp.{IsTotalOrder}
use Rattle.std.specs.Cmp.Lexicographic.{slice_cmp}
use Rattle.std.specs.Ordering.{nat_cmp, ordering_then, is_lt}
use Rattle.std.specs.declared.cmp.Ordering.{Ordering}
use Rattle.std.specs.declared.cmp.Ordering.TheVariants.{Less, Equal, Greater}
use Rattle.std.proofs.lemmas.List.Elements.{filter-append}
use Rattle.m3_model.specs.Contents.{key_of}
use Rattle.m3_model.specs.Keys.{key_cmp}
use Rattle.m3_model.specs.Members.{IsIn}
use Rattle.m3_model.specs.declared.point.Point.{Point}
use Rattle.page_cut.proofs.PastLemmas.{filter_all, filter_leaves, filter_takes}
use Rattle.first_points.specs.Bounds.{is_up_to, points_up_to}

pub up_to_none : (points : List Point) → points_up_to None points ≡ points
up_to_none points = filter_all (λ p. is_up_to None (key_of p)) points (λ p m. refl)

module _ (last : Option Point) where
  pub up_to_apart : (front back : List Point) → points_up_to last (front ++ back) ≡ points_up_to last front ++ points_up_to last back
  up_to_apart front back = filter-append (λ p. is_up_to last (key_of p)) front back

  pub up_to_taken : (p : Point) (points : List Point) → is_up_to last (key_of p) ≡ true → points_up_to last (p ∷ points) ≡ p ∷ points_up_to last points
  up_to_taken p points within = filter_takes (λ q. is_up_to last (key_of q)) p points within

  pub up_to_left : (p : Point) (points : List Point) → is_up_to last (key_of p) ≡ false → points_up_to last (p ∷ points) ≡ points_up_to last points
  up_to_left p points above = filter_leaves (λ q. is_up_to last (key_of q)) p points above

  -- none where all are above it
  pub none_up_to : (points : List Point) → ((p : Point) → IsIn points p → is_up_to last (key_of p) ≡ false) → points_up_to last points ≡ []
  none_up_to [] above = refl
  none_up_to (p ∷ points) above = up_to_left p points (above p (inl refl)) ∙ none_up_to points (λ q m. above q (inr m))

  -- where those of the back are above it
  pub up_to_front : (front back : List Point) → ((p : Point) → IsIn back p → is_up_to last (key_of p) ≡ false) → points_up_to last (front ++ back) ≡ points_up_to last front
  up_to_front front back above = up_to_apart front back ∙ ap (λ l. points_up_to last front ++ l) (none_up_to back above) ∙ append-nil (points_up_to last front)

  -- and those of the front aren't
  pub up_to_whole_front : (front back : List Point) → ((p : Point) → IsIn front p → is_up_to last (key_of p) ≡ true) → ((p : Point) → IsIn back p → is_up_to last (key_of p) ≡ false) → points_up_to last (front ++ back) ≡ front
  up_to_whole_front front back within above = up_to_front front back above ∙ filter_all (λ p. is_up_to last (key_of p)) front within

-- ---- what a search finds

pub then_assoc : (a b c : Ordering) → ordering_then (ordering_then a b) c ≡ ordering_then a (ordering_then b c)
then_assoc Less b c = refl
then_assoc Equal b c = refl
then_assoc Greater b c = refl

-- what is below an element that isn't above the last one isn't either
pub lower_within : {X : Type 0} (cmp : X → X → Ordering) → IsTotalOrder cmp → (s : Ordering) (last x y : X) → cmp x y ≡ Less → not (is_lt (ordering_then s (cmp last y))) ≡ true → not (is_lt (ordering_then s (cmp last x))) ≡ true
lower_within cmp total Less last x y below within = within
lower_within cmp total Greater last x y below within = refl
lower_within cmp total Equal last x y below within = by (cmp last x) refl
  where
    by : (o : Ordering) → cmp last x ≡ o → not (is_lt (cmp last x)) ≡ true
    by Less e = absurd (true≢false (sym within ∙ ap (λ o. not (is_lt o)) (total.trans last x y e below)))
    by Equal e = ap (λ o. not (is_lt o)) e
    by Greater e = ap (λ o. not (is_lt o)) e

-- a point of a series whose time is, or isn't, within
pub time_within : (last p : Point) (b : Bool) → not (is_lt (ordering_then (ordering_then (nat_cmp last.ns p.ns) (slice_cmp nat_cmp last.id p.id)) (nat_cmp last.t p.t))) ≡ b → is_up_to (Some last) (key_of p) ≡ b
time_within last p b h = ap (λ o. not (is_lt o)) (sym (then_assoc (nat_cmp last.ns p.ns) (slice_cmp nat_cmp last.id p.id) (nat_cmp last.t p.t))) ∙ h

-- one of a series that isn't
pub series_above : (last p : Point) → not (is_lt (ordering_then (nat_cmp last.ns p.ns) (slice_cmp nat_cmp last.id p.id))) ≡ false → is_up_to (Some last) (key_of p) ≡ false
series_above last p above = time_within last p false (by (ordering_then (nat_cmp last.ns p.ns) (slice_cmp nat_cmp last.id p.id)) above)
  where
    by : (o : Ordering) → not (is_lt o) ≡ false → not (is_lt (ordering_then o (nat_cmp last.t p.t))) ≡ false
    by Less h = refl
    by Equal h = absurd (true≢false h)
    by Greater h = absurd (true≢false h)
