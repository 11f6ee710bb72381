-- The points of series that a read asks for.
use Rattle.std.proofs.Common.{◌≡◌, ℕ, ◌<◌, ◌≤◌, ℤ, List, [], ◌∷◌, ◌++◌, length, refl, sym, ap, ◌∙◌, subst, Bool, true, false, cond, ◌↔◌, arith}
use Rattle.std.specs.Prelude.{Option, Some, None, filter, nat_le, nat_lt}
use Rattle.std.specs.List.{filter_map, cons_option}
use Rattle.std.proofs.lemmas.Bool.{leb-true, le-leb, ltb-true, lt-ltb}
use Rattle.std.proofs.lemmas.List.Elements.{filter_map-append}
use Rattle.m3_model.specs.Ascends.{Ascends}
use Rattle.m3_model.specs.Members.{IsIn}
use Rattle.m3_model.specs.Reads.{IsOrdered, Matches, space_picked}
use Rattle.m3_model.specs.Tags.{IsBelow}
use Rattle.m3_model.specs.declared.point.Pick.{Pick}
use Rattle.m3_model.specs.declared.point.Pick.TheVariants as pick
use Rattle.m3_model.specs.declared.point.Point.{Point}
use Rattle.m3_model.specs.declared.point.Series.{Series}
use Rattle.m3_model.proofs.MemberLemmas.{IsIn-filter_map, filter_map-IsIn}
use Rattle.m3_model.proofs.RangeLemmas.{both_true}
use Rattle.held_points.proofs.series_slots_proofs.AnswerLemmas.{point_in, in_points}
use Rattle.held_points.proofs.series_slots_proofs.MoveLemmas.{IsIn-filter, filter-IsIn}
use Rattle.volume_points.specs.Picked.{AreAscending, IsPicked, IsSelectionOf, cut_series, filled, is_between}

abbrev IsEarlier : ℕ × ℤ → ℕ × ℤ → Type 0
IsEarlier a b = a.0 < b.0

-- what is asked for is of the namespace and of an identifier that is asked for
pub matches_of : (pick : Pick) (p : Point) → p.ns ≡ space_picked pick → IsPicked pick p.id → Matches pick p
matches_of (pick.One ns id) p e h = (e, sym h)
matches_of (pick.Match ns wanted) p e h = (e, h)

pub of_matches : (pick : Pick) (p : Point) → Matches pick p → (p.ns ≡ space_picked pick) × IsPicked pick p.id
of_matches (pick.One ns id) p m = (m.0, sym m.1)
of_matches (pick.Match ns wanted) p m = (m.0, m.1)

-- ---- parts of series

-- a part of a series: it has its identifier, its times ascend where those of the series do, and it isn't empty
pub record IsPart (s part : Series) : Type 0 where
  pub named : part.id ≡ s.id
  pub times : Ascends IsEarlier s.points → Ascends IsEarlier part.points
  pub some : 0 < length part.points

module _ (f : Series → Option Series) (parts : (s part : Series) → f s ≡ Some part → IsPart s part) where
  parts_below : (s : Series) (rows : List Series) → ((r : Series) → IsIn rows r → IsBelow s.id r.id) → (part : Series) → IsIn (filter_map f rows) part → IsBelow s.id part.id
  parts_below s rows below part m = let found = IsIn-filter_map f rows part m in subst (IsBelow s.id) (sym (parts found.0 part found.2).named) (below found.0 found.1)

  parts_ascend : (rows : List Series) → Ascends (λ (a b : Series). IsBelow a.id b.id) rows → Ascends (λ (a b : Series). IsBelow a.id b.id) (filter_map f rows)
  parts_ascend [] h = tt
  parts_ascend (s ∷ rows) h = by (f s) refl (parts_ascend rows h.1)
    where
      by : (o : Option Series) → f s ≡ o → Ascends (λ (a b : Series). IsBelow a.id b.id) (filter_map f rows) → Ascends (λ (a b : Series). IsBelow a.id b.id) (cons_option o (filter_map f rows))
      by None e later = later
      by (Some part) e later = ((λ y m. subst (λ id. IsBelow id y.id) (sym (parts s part e).named) (parts_below s rows h.0 y m)), later)

  -- such parts of series that ascend are in order
  pub parts_ordered : (rows : List Series) → AreAscending rows → IsOrdered (filter_map f rows)
  parts_ordered rows h = record {
    ids = parts_ascend rows h.ids;
    times = λ part m. let found = IsIn-filter_map f rows part m in (parts found.0 part found.2).times (h.times found.0 found.1);
    none_empty = λ part m. let found = IsIn-filter_map f rows part m in (parts found.0 part found.2).some;
  }

-- ---- the pairs in a range

pub record IsFilled (id : List ℕ) (ps : List (ℕ × ℤ)) (s : Series) : Type 0 where
  pub named : s.id ≡ id
  pub pairs : s.points ≡ ps
  pub some : 0 < length s.points

pub filled_is : (id : List ℕ) (ps : List (ℕ × ℤ)) (s : Series) → filled id ps ≡ Some s → IsFilled id ps s
filled_is id [] s e = cc
filled_is id (p ∷ ps) s e =
    let is : record { id = id; points = p ∷ ps } ≡ s = cc in
    record { named = ap (λ (x : Series). x.id) (sym is); pairs = ap (λ (x : Series). x.points) (sym is); some = subst (λ (x : Series). 0 < length x.points) is (omega arith) }

pub filled_some : (id : List ℕ) (ps : List (ℕ × ℤ)) (x : ℕ × ℤ) → IsIn ps x → filled id ps ≡ Some (record { id = id; points = ps })
filled_some id [] x m = absurd m
filled_some id (p ∷ ps) x m = refl

earlier_kept : (p : ℕ × ℤ → Bool) (x : ℕ × ℤ) (xs : List (ℕ × ℤ)) (b : Bool) → ((y : ℕ × ℤ) → IsIn xs y → IsEarlier x y) → Ascends IsEarlier (filter p xs) → Ascends IsEarlier (cond b (x ∷ filter p xs) (filter p xs))
earlier_kept p x xs true h later = ((λ y m. h y (IsIn-filter p xs y m).0), later)
earlier_kept p x xs false h later = later

-- pairs that pass a test ascend as before
pub filter_ascends : (p : ℕ × ℤ → Bool) (xs : List (ℕ × ℤ)) → Ascends IsEarlier xs → Ascends IsEarlier (filter p xs)
filter_ascends p [] h = tt
filter_ascends p (x ∷ xs) h = earlier_kept p x xs (p x) h.0 (filter_ascends p xs h.1)

pub cut_part : (from to : ℕ) (s part : Series) → cut_series from to s ≡ Some part → IsPart s part
cut_part from to s part e =
    let is = filled_is s.id (filter (is_between from to) s.points) part e in
    record { named = is.named; times = λ h. subst (Ascends IsEarlier) (sym is.pairs) (filter_ascends (is_between from to) s.points h); some = is.some }

between : (from to : ℕ) (x : ℕ × ℤ) → from ≤ x.0 → x.0 < to → is_between from to x ≡ true
between from to x low high = let a : nat_le from x.0 ≡ true = le-leb from x.0 low in let b : nat_lt x.0 to ≡ true = lt-ltb x.0 to high in cc

between_is : (from to : ℕ) (x : ℕ × ℤ) → is_between from to x ≡ true → (from ≤ x.0) × (x.0 < to)
between_is from to x e = let both = both_true (nat_le from x.0) (nat_lt x.0 to) e in (leb-true from x.0 both.0, ltb-true x.0 to both.1)

-- one more series, and its part
pub cut_more : (from to : ℕ) (done : List Series) (s : Series) (o : Option Series) → o ≡ cut_series from to s → filter_map (cut_series from to) (done ++ s ∷ []) ≡ filter_map (cut_series from to) done ++ cons_option o []
cut_more from to done s o is = filter_map-append (cut_series from to) done (s ∷ []) ∙ ap (λ (p : Option Series). filter_map (cut_series from to) done ++ cons_option p []) (sym is)

-- ---- a selection

-- the pairs in the range of the series that the pick asks for
pub selected : (found kept : List Series) (pick : Pick) (from to : ℕ) → ((s : Series) → IsIn kept s ↔ (IsIn found s × IsPicked pick s.id)) → IsSelectionOf found pick from to (filter_map (cut_series from to) kept)
selected found kept pick from to exact = record {
  nothing_else = λ p m.
      let at = point_in (space_picked pick) (filter_map (cut_series from to) kept) p m in
      let of = IsIn-filter_map (cut_series from to) kept at.0 at.1 in
      let is = filled_is of.0.id (filter (is_between from to) of.0.points) at.0 of.2 in
      let pair = IsIn-filter (is_between from to) of.0.points (p.t, p.v) (subst (λ ps. IsIn ps (p.t, p.v)) is.pairs at.4) in
      let was = (exact of.0).0 of.1 in
      let named : p.id ≡ of.0.id = at.3 ∙ is.named in
      let times = between_is from to (p.t, p.v) pair.1 in
      (in_points (space_picked pick) found of.0 p was.0 at.2 named pair.0, matches_of pick p at.2 (subst (IsPicked pick) (sym named) was.1), (times.0, times.1));
  whole = λ p m matches r.
      let at = point_in (space_picked pick) found p m in
      let asked = (of_matches pick p matches).1 in
      let is_kept = (exact at.0).1 (at.1, subst (IsPicked pick) at.3 asked) in
      let pair = filter-IsIn (is_between from to) at.0.points (p.t, p.v) at.4 (between from to (p.t, p.v) r.0 r.1) in
      let part = filter_map-IsIn (cut_series from to) kept at.0 _ is_kept (filled_some at.0.id (filter (is_between from to) at.0.points) (p.t, p.v) pair) in
      in_points (space_picked pick) (filter_map (cut_series from to) kept) _ p part at.2 at.3 pair;
}
