-- A merge of two lists goes on by one element.
use Rattle.std.proofs.Common.{◌≡◌, List, [], ◌∷◌, ◌++◌, fold, refl, sym, ap, ◌∙◌, subst, inl, inr, append_assoc}
use Rattle.std.specs.Prelude.{◌⊎◌, ⊤}
use Rattle.std.proofs.lemmas.List.{append-nil}
use Rattle.std.proofs.lemmas.List.Sums.{fold-append}
use Rattle.m3_model.specs.Ascends.{Ascends}
use Rattle.m3_model.specs.Contents.{Contents, raised}
use Rattle.m3_model.specs.Members.{IsIn}
use Rattle.m3_model.specs.declared.point.Point.{Point}
use Rattle.m3_model.proofs.MemberLemmas.{IsIn-append_left, IsIn-append_right, IsIn-append_cases}
use Rattle.series_merge.specs.Parts.{IsPart, JoinAlike}
use Rattle.series_merge.proofs.JoinLemmas.{moved}

-- the element stands before the first of a list
abbrev pub IsBeforeFirst : {X : Type 0} → (X → X → Type 0) → X → List X → Type 0
IsBeforeFirst Before x [] = ⊤
IsBeforeFirst Before x (y ∷ ys) = Before x y

-- ---- order

module _ {X : Type 0} (Before : X → X → Type 0) where
  -- x comes between what is done and a later list
  ascends_put : (done : List X) (x : X) (xs ys : List X) → Ascends Before (done ++ x ∷ xs) → Ascends Before (done ++ ys) → ((y : X) → IsIn ys y → Before x y) → Ascends Before (done ++ x ∷ ys)
  ascends_put [] x xs ys here there below = (below, there)
  ascends_put (w ∷ done) x xs ys here there below = (
    λ y m. elim (IsIn-append_cases done (x ∷ ys) y m) as (λ _. Before w y) [
      | inl l ↦ here.0 y (IsIn-append_left done (x ∷ xs) y l)
      | inr (inl e) ↦ here.0 y (IsIn-append_right done (x ∷ xs) y (inl e))
      | inr (inr r) ↦ there.0 y (IsIn-append_right done ys y r)
    ],
    ascends_put done x xs ys here.1 there.1 below,
  )

  -- z comes in the place of x
  ascends_change : (done : List X) (x z : X) (xs : List X) → ((w : X) → Before w x → Before w z) → ((w : X) → Before x w → Before z w) → Ascends Before (done ++ x ∷ xs) → Ascends Before (done ++ z ∷ xs)
  ascends_change [] x z xs up down here = (λ y m. down y (here.0 y m), here.1)
  ascends_change (w ∷ done) x z xs up down here = (
    λ y m. elim (IsIn-append_cases done (z ∷ xs) y m) as (λ _. Before w y) [
      | inl l ↦ here.0 y (IsIn-append_left done (x ∷ xs) y l)
      | inr (inl e) ↦ subst (Before w) e (up w (here.0 x (IsIn-append_right done (x ∷ xs) x (inl refl))))
      | inr (inr r) ↦ here.0 y (IsIn-append_right done (x ∷ xs) y (inr r))
    ],
    ascends_change done x z xs up down here.1,
  )

  ascends_rest : (done xs : List X) → Ascends Before (done ++ xs) → Ascends Before xs
  ascends_rest [] xs h = h
  ascends_rest (w ∷ done) xs h = ascends_rest done xs h.1

  module _ (trans : (x y z : X) → Before x y → Before y z → Before x z) where
    before_all : (x : X) (ys : List X) → Ascends Before ys → IsBeforeFirst Before x ys → (y : X) → IsIn ys y → Before x y
    before_all x [] ascends first y m = absurd m
    before_all x (z ∷ ys) ascends first y (inl e) = subst (Before x) e first
    before_all x (z ∷ ys) ascends first y (inr m) = trans x z y first (ascends.0 y m)

-- ---- steps

-- what is known of each element of a list and of one more
each_push : {X : Type 0} (Fit : X → Type 0) (done : List X) (z : X) → ((x : X) → IsIn done x → Fit x) → Fit z → (x : X) → IsIn (done ++ z ∷ []) x → Fit x
each_push Fit done z each fit x m = elim (IsIn-append_cases done (z ∷ []) x m) as (λ _. Fit x) [ inl l ↦ each x l | inr (inl e) ↦ subst Fit e fit | inr (inr none) ↦ absurd none ]

module _ {X I : Type 0} (Before : X → X → Type 0) (Fit : X → Type 0) (points : I → List X → List Point) (trans : (x y z : X) → Before x y → Before y z → Before x z)
    (apart : (i : I) (xs ys : List X) → points i (xs ++ ys) ≡ points i xs ++ points i ys) (one other : List X) where
  abbrev Part : List X → List X → List X → Type 0
  Part done left_one left_other = IsPart Before Fit points one other done left_one left_other

  -- the next one is of the first list
  pub of_one : (done : List X) (x : X) (xs ys : List X) → Part done (x ∷ xs) ys → IsBeforeFirst Before x ys → Part (done ++ x ∷ []) xs ys
  of_one done x xs ys was first = record {
    one_ascends = subst (Ascends Before) (sym (append_assoc done (x ∷ []) xs)) was.one_ascends;
    other_ascends = subst (Ascends Before) (sym (append_assoc done (x ∷ []) ys))
        (ascends_put Before done x xs ys was.one_ascends was.other_ascends (before_all Before trans x ys (ascends_rest Before done ys was.other_ascends) first));
    done_fit = each_push Fit done x was.done_fit (was.one_fit x (inl refl));
    one_fit = λ z m. was.one_fit z (inr m);
    other_fit = was.other_fit;
    alike = λ i c. ap (λ zs. fold raised c (points i (zs ++ ys))) (append_assoc done (x ∷ []) xs) ∙ was.alike i c;
  }

  -- the points of four lists
  points_of_four : (i : I) (a b x y : List X) → points i (((a ++ b) ++ x) ++ y) ≡ ((points i a ++ points i b) ++ points i x) ++ points i y
  points_of_four i a b x y =
      apart i ((a ++ b) ++ x) y ∙ ap (λ ps. ps ++ points i y) (apart i (a ++ b) x ∙ ap (λ ps. ps ++ points i x) (apart i a b))

  points_of_pairs : (i : I) (a b x y : List X) → points i ((a ++ x) ++ (b ++ y)) ≡ (points i a ++ points i x) ++ (points i b ++ points i y)
  points_of_pairs i a b x y = apart i (a ++ x) (b ++ y) ∙ ap (λ ps. ps ++ points i (b ++ y)) (apart i a x) ∙ ap (λ ps. (points i a ++ points i x) ++ ps) (apart i b y)

  moved_points : (i : I) (a b x y : List X) → JoinAlike (points i (((a ++ b) ++ x) ++ y)) (points i ((a ++ x) ++ (b ++ y)))
  moved_points i a b x y c =
      ap (fold raised c) (points_of_four i a b x y) ∙ moved (points i a) (points i b) (points i x) (points i y) c ∙ ap (fold raised c) (sym (points_of_pairs i a b x y))

  -- the next one is of the second list
  pub of_other : (done : List X) (y : X) (xs ys : List X) → Part done xs (y ∷ ys) → IsBeforeFirst Before y xs → Part (done ++ y ∷ []) xs ys
  of_other done y xs ys was first = record {
    one_ascends = subst (Ascends Before) (sym (append_assoc done (y ∷ []) xs))
        (ascends_put Before done y ys xs was.other_ascends was.one_ascends (before_all Before trans y xs (ascends_rest Before done xs was.one_ascends) first));
    other_ascends = subst (Ascends Before) (sym (append_assoc done (y ∷ []) ys)) was.other_ascends;
    done_fit = each_push Fit done y was.done_fit (was.other_fit y (inl refl));
    one_fit = was.one_fit;
    other_fit = λ z m. was.other_fit z (inr m);
    alike = λ i c. moved_points i done (y ∷ []) xs ys c ∙ was.alike i c;
  }

  -- the next one is of both, joined
  pub of_both : (done : List X) (x y z : X) (xs ys : List X) → ((w : X) → Before w x → Before w z) → ((w : X) → Before x w → Before z w) → ((w : X) → Before w y → Before w z) → ((w : X) → Before y w → Before z w)
      → Fit z → ((i : I) → JoinAlike (points i (z ∷ [])) (points i (x ∷ []) ++ points i (y ∷ []))) → Part done (x ∷ xs) (y ∷ ys) → Part (done ++ z ∷ []) xs ys
  of_both done x y z xs ys x_up x_down y_up y_down fit joins was = record {
    one_ascends = subst (Ascends Before) (sym (append_assoc done (z ∷ []) xs)) (ascends_change Before done x z xs x_up x_down was.one_ascends);
    other_ascends = subst (Ascends Before) (sym (append_assoc done (z ∷ []) ys)) (ascends_change Before done y z ys y_up y_down was.other_ascends);
    done_fit = each_push Fit done z was.done_fit fit;
    one_fit = λ w m. was.one_fit w (inr m);
    other_fit = λ w m. was.other_fit w (inr m);
    alike = λ i c.
        ap (fold raised c) (points_of_four i done (z ∷ []) xs ys)
        ∙ at_front i c (points i done) (points i xs) (points i ys)
        ∙ ap (fold raised c) (sym (points_of_four i (done ++ x ∷ []) (y ∷ []) xs ys ∙ ap (λ ps. ((ps ++ points i (y ∷ [])) ++ points i xs) ++ points i ys) (apart i done (x ∷ []))))
        ∙ moved_points i (done ++ x ∷ []) (y ∷ []) xs ys c
        ∙ ap (λ zs. fold raised c (points i (zs ++ y ∷ ys))) (append_assoc done (x ∷ []) xs) ∙ was.alike i c;
  }
    where
      at_front : (i : I) (c : Contents) (a b e : List Point) → fold raised c (((a ++ points i (z ∷ [])) ++ b) ++ e) ≡ fold raised c ((((a ++ points i (x ∷ [])) ++ points i (y ∷ [])) ++ b) ++ e)
      at_front i c a b e =
          fold-append raised c ((a ++ points i (z ∷ [])) ++ b) e
          ∙ ap (λ d. fold raised d e) (fold-append raised c (a ++ points i (z ∷ [])) b
          ∙ ap (λ d. fold raised d b) (fold-append raised c a (points i (z ∷ [])) ∙ joins i (fold raised c a) ∙ sym (fold-append raised c a (points i (x ∷ []) ++ points i (y ∷ [])))
          ∙ ap (fold raised c) (sym (append_assoc a (points i (x ∷ [])) (points i (y ∷ [])))))
          ∙ sym (fold-append raised c ((a ++ points i (x ∷ [])) ++ points i (y ∷ [])) b))
          ∙ sym (fold-append raised c (((a ++ points i (x ∷ [])) ++ points i (y ∷ [])) ++ b) e)

  -- where one list is used up, the other is the rest
  pub whole_ascends : (done xs ys : List X) → Part done xs ys → (xs ≡ []) ⊎ (ys ≡ []) → Ascends Before ((done ++ xs) ++ ys)
  whole_ascends done xs ys was (inl none) = subst (λ zs. Ascends Before (zs ++ ys)) (sym (ap (λ zs. done ++ zs) none ∙ append-nil done)) was.other_ascends
  whole_ascends done xs ys was (inr none) = subst (Ascends Before) (sym (ap (λ zs. (done ++ xs) ++ zs) none ∙ append-nil (done ++ xs))) was.one_ascends
