-- The series that a pick asks for, of some that are looked at one after the other.
use Rattle.std.proofs.Common.{◌≡◌, ◌∙◌, ℕ, ◌+◌, ◌<◌, ◌≤◌, List, [], ◌∷◌, ◌++◌, length, take, get_or, refl, sym, ap, subst, inl, inr, ◌↔◌}
use Rattle.std.specs.Prelude.{◌⊎◌, Option}
use Rattle.std.specs.List.{filter_map, cons_option}
use Rattle.std.proofs.lemmas.List.{take_all, take_more}
use Rattle.m3_model.specs.Ascends.{Ascends}
use Rattle.m3_model.specs.Members.{IsIn}
use Rattle.m3_model.specs.Reads.{IsOrdered}
use Rattle.m3_model.specs.Tags.{IsBelow}
use Rattle.m3_model.specs.declared.point.Pick.{Pick}
use Rattle.m3_model.specs.declared.point.Series.{Series}
use Rattle.m3_model.proofs.MemberLemmas.{IsIn-append_cases, IsIn-append_left, IsIn-append_right}
use Rattle.volume_points.specs.Picked.{AreAscending, IsPicked, IsSelectionOf, cut_series}
use Rattle.volume_points.proofs.PickedLemmas.{cut_more, cut_part, parts_ordered, selected}

-- what was kept of these rows are the parts in the range of those that the pick asks for
pub record AreChosen (pick : Pick) (from to : ℕ) (rows kept : List Series) : Type 0 where
  pub chosen : List Series
  pub exact : (s : Series) → IsIn chosen s ↔ (IsIn rows s × IsPicked pick s.id)
  pub ascend : AreAscending rows → AreAscending chosen
  pub cut : kept ≡ filter_map (cut_series from to) chosen

abbrev IsBefore : Series → Series → Type 0
IsBefore a b = IsBelow a.id b.id

front_ascends : (xs ys : List Series) → Ascends IsBefore (xs ++ ys) → Ascends IsBefore xs
front_ascends [] ys up = tt
front_ascends (x ∷ xs) ys up = ((λ y m. up.0 y (IsIn-append_left xs ys y m)), front_ascends xs ys up.1)

front : (xs ys : List Series) → AreAscending (xs ++ ys) → AreAscending xs
front xs ys h = record { ids = front_ascends xs ys h.ids; times = λ s m. h.times s (IsIn-append_left xs ys s m) }

-- the first ones stand before the last
before_last : (xs : List Series) (y : Series) → Ascends IsBefore (xs ++ y ∷ []) → (x : Series) → IsIn xs x → IsBefore x y
before_last [] y up x m = absurd m
before_last (z ∷ xs) y up x (inl e) = subst (λ (w : Series). IsBefore w y) e (up.0 y (IsIn-append_right xs (y ∷ []) y (inl refl)))
before_last (z ∷ xs) y up x (inr m) = before_last xs y up.1 x m

one_more : (xs : List Series) (y : Series) → Ascends IsBefore xs → ((x : Series) → IsIn xs x → IsBefore x y) → Ascends IsBefore (xs ++ y ∷ [])
one_more [] y up below = ((λ z m. absurd m), tt)
one_more (x ∷ xs) y up below = ((λ z m. by z (IsIn-append_cases xs (y ∷ []) z m)), one_more xs y up.1 (λ z m. below z (inr m)))
  where
    by : (z : Series) → IsIn xs z ⊎ IsIn (y ∷ []) z → IsBefore x z
    by z (inl m) = up.0 z m
    by z (inr (inl e)) = subst (IsBefore x) e (below x (inl refl))
    by z (inr (inr m)) = absurd m

pub chosen_none : (pick : Pick) (from to : ℕ) → AreChosen pick from to [] []
chosen_none pick from to = record { chosen = []; exact = λ s. ((λ m. absurd m), (λ m. absurd m.0)); ascend = λ h. h; cut = refl }

module _ (pick : Pick) (from to : ℕ) (rows kept : List Series) (s : Series) (so_far : AreChosen pick from to rows kept) where
  -- one that isn't asked for
  pub chosen_still : (IsPicked pick s.id → ⊥) → AreChosen pick from to (rows ++ s ∷ []) kept
  chosen_still none = record {
    chosen = so_far.chosen;
    exact = λ r. (
      (λ m. let was = (so_far.exact r).0 m in (IsIn-append_left rows (s ∷ []) r was.0, was.1)),
      (λ m. by r m.1 (IsIn-append_cases rows (s ∷ []) r m.0)),
    );
    ascend = λ h. so_far.ascend (front rows (s ∷ []) h);
    cut = so_far.cut;
  }
    where
      by : (r : Series) → IsPicked pick r.id → IsIn rows r ⊎ IsIn (s ∷ []) r → IsIn so_far.chosen r
      by r asked (inl m) = (so_far.exact r).1 (m, asked)
      by r asked (inr (inl e)) = absurd (none (subst (λ (x : Series). IsPicked pick x.id) (sym e) asked))
      by r asked (inr (inr m)) = absurd m

  -- one that is
  pub chosen_more : (later : List Series) (part : Option Series) → part ≡ cut_series from to s → later ≡ kept ++ cons_option part [] → IsPicked pick s.id → AreChosen pick from to (rows ++ s ∷ []) later
  chosen_more later part is added asked = record {
    chosen = so_far.chosen ++ s ∷ [];
    exact = λ r. (
      (λ m. of r (IsIn-append_cases so_far.chosen (s ∷ []) r m)),
      (λ m. by r m.1 (IsIn-append_cases rows (s ∷ []) r m.0)),
    );
    ascend = λ h.
        let before = so_far.ascend (front rows (s ∷ []) h) in
        record {
          ids = one_more so_far.chosen s before.ids (λ r m. before_last rows s h.ids r ((so_far.exact r).0 m).0);
          times = λ r m. h.times r (of r (IsIn-append_cases so_far.chosen (s ∷ []) r m)).0;
        };
    cut = added ∙ ap (λ (l : List Series). l ++ cons_option part []) so_far.cut ∙ sym (cut_more from to so_far.chosen s part is);
  }
    where
      of : (r : Series) → IsIn so_far.chosen r ⊎ IsIn (s ∷ []) r → IsIn (rows ++ s ∷ []) r × IsPicked pick r.id
      of r (inl m) = let was = (so_far.exact r).0 m in (IsIn-append_left rows (s ∷ []) r was.0, was.1)
      of r (inr (inl e)) = (IsIn-append_right rows (s ∷ []) r (inl e), subst (λ (x : Series). IsPicked pick x.id) e asked)
      of r (inr (inr m)) = absurd m

      by : (r : Series) → IsPicked pick r.id → IsIn rows r ⊎ IsIn (s ∷ []) r → IsIn (so_far.chosen ++ s ∷ []) r
      by r picked (inl m) = IsIn-append_left so_far.chosen (s ∷ []) r ((so_far.exact r).1 (m, picked))
      by r picked (inr (inl e)) = IsIn-append_right so_far.chosen (s ∷ []) r (inl e)
      by r picked (inr (inr m)) = absurd m

-- the rows so far, with the next one
pub next_rows : (rows : List Series) (i : ℕ) (s : Series) → i < length rows → s ≡ get_or rows i s → take i rows ++ s ∷ [] ≡ take (i + 1) rows
next_rows rows i s lt is = sym (take_more rows i s lt ∙ ap (λ (x : Series). take i rows ++ x ∷ []) (sym is))

-- all of them
module _ (pick : Pick) (from to : ℕ) (rows : List Series) (i : ℕ) (kept : List Series) (le : length rows ≤ i) (all : AreChosen pick from to (take i rows) kept) where
  pub chosen_ordered : AreAscending rows → IsOrdered kept
  chosen_ordered h =
      subst IsOrdered (sym all.cut) (parts_ordered (cut_series from to) (cut_part from to) all.chosen (all.ascend (subst AreAscending (sym (take_all i rows le)) h)))

  pub chosen_selected : IsSelectionOf rows pick from to kept
  chosen_selected =
      subst (IsSelectionOf rows pick from to) (sym all.cut)
      (selected rows all.chosen pick from to (subst (λ (l : List Series). (s : Series) → IsIn all.chosen s ↔ (IsIn l s × IsPicked pick s.id)) (take_all i rows le) all.exact))
