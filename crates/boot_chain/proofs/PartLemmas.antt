-- What a claim leaves of the ranges asked for.
use Rattle.std.proofs.Common.{◌≡◌, ◌++◌, List, [], ◌∷◌, true, false, drop, cond, refl, sym, ap, subst, ◌∙◌, inl, inr, true≢false, append_assoc}
use Rattle.std.proofs.lemmas.Bool.{eqb-true, eq-eqb, and_parts, and_from, cases_Bool}
use Rattle.std.proofs.lemmas.List.Sorted.{IsPermutation-refl, IsPermutation-cons, IsPermutation-trans, IsPermutation-sym, IsPermutation-middle, IsPermutation-append_right}
use Rattle.std.specs.List.Sorted.{IsPermutation}
use Rattle.boot_chain.specs.Ranges.{range_eq, is_first, IsSublist, left_of}
use Rattle.boot_chain.specs.declared.range.Range.{Range}

pub range_eq-true : (a b : Range) → range_eq a b ≡ true → a ≡ b
range_eq-true a b h =
    let both = and_parts _ _ h in
    let first = and_parts _ _ both.0 in
    let ns : a.ns ≡ b.ns = eqb-true a.ns b.ns first.0 in
    let from : a.from ≡ b.from = eqb-true a.from b.from first.1 in
    let to : a.to ≡ b.to = eqb-true a.to b.to both.1 in
    ap (λ n. record { ns = n; from = a.from; to = a.to }) ns ∙ ap (λ n. record { ns = b.ns; from = n; to = a.to }) from ∙ ap (λ n. record { ns = b.ns; from = b.from; to = n }) to

pub range_eq-refl : (a : Range) → range_eq a a ≡ true
range_eq-refl a = and_from _ _ (and_from _ _ (eq-eqb a.ns a.ns refl) (eq-eqb a.from a.from refl)) (eq-eqb a.to a.to refl)

pub sublist_later : (xs ys : List Range) (y : Range) → IsSublist xs ys → IsSublist xs (y ∷ ys)
sublist_later [] ys y h = tt
sublist_later (x ∷ xs) ys y h = inr h

pub sublist_tail : (x : Range) (xs ys : List Range) → IsSublist (x ∷ xs) ys → IsSublist xs ys
sublist_tail x xs [] h = absurd h
sublist_tail x xs (y ∷ ys) h =
    elim h as (λ _. IsSublist xs (y ∷ ys)) [
      | inl here ↦ sublist_later xs ys y here.1
      | inr later ↦ sublist_later xs ys y (sublist_tail x xs ys later)
    ]

pub sublist_whole : (xs : List Range) → IsSublist xs xs
sublist_whole [] = tt
sublist_whole (x ∷ xs) = inl (refl, sublist_whole xs)

-- what is left, by whether the next range is claimed
pub left_of-taken : (r : Range) (asked claimed : List Range) → is_first claimed r ≡ true → left_of (r ∷ asked) claimed ≡ left_of asked (drop 1 claimed)
left_of-taken r asked claimed h = ap (λ b. cond b (left_of asked (drop 1 claimed)) (r ∷ left_of asked claimed)) h

pub left_of-kept : (r : Range) (asked claimed : List Range) → is_first claimed r ≡ false → left_of (r ∷ asked) claimed ≡ r ∷ left_of asked claimed
left_of-kept r asked claimed h = ap (λ b. cond b (left_of asked (drop 1 claimed)) (r ∷ left_of asked claimed)) h

pub left_in_order : (asked claimed : List Range) → IsSublist (left_of asked claimed) asked
left_in_order [] claimed = tt
left_in_order (r ∷ asked) claimed =
    elim (cases_Bool (is_first claimed r)) as (λ _. IsSublist (left_of (r ∷ asked) claimed) (r ∷ asked)) [
      | inl taken ↦ subst (λ xs. IsSublist xs (r ∷ asked)) (sym (left_of-taken r asked claimed taken)) (sublist_later (left_of asked (drop 1 claimed)) asked r (left_in_order asked (drop 1 claimed)))
      | inr kept ↦ subst (λ xs. IsSublist xs (r ∷ asked)) (sym (left_of-kept r asked claimed kept)) (inl (refl, left_in_order asked claimed))
    ]

-- a claim of a range at the front is of the later ones without it
behind_taken : (r : Range) (asked claimed : List Range) → is_first claimed r ≡ true → IsSublist claimed (r ∷ asked) → ((rest : List Range) × (claimed ≡ r ∷ rest) × IsSublist rest asked)
behind_taken r asked [] taken h = absurd (true≢false (sym taken))
behind_taken r asked (x ∷ xs) taken h =
    (xs, ap (λ y. y ∷ xs) (range_eq-true x r taken), elim h as (λ _. IsSublist xs asked) [ inl here ↦ here.1 | inr later ↦ sublist_tail x xs asked later ])

behind_kept : (r : Range) (asked claimed : List Range) → is_first claimed r ≡ false → IsSublist claimed (r ∷ asked) → IsSublist claimed asked
behind_kept r asked [] kept h = tt
behind_kept r asked (x ∷ xs) kept h =
    elim h as (λ _. IsSublist (x ∷ xs) asked) [
      | inl here ↦ absurd (true≢false (sym (ap (λ y. range_eq y r) here.0 ∙ range_eq-refl r) ∙ kept))
      | inr later ↦ later
    ]

-- a claim and what it leaves are the ranges asked for
pub apart : (asked claimed : List Range) → IsSublist claimed asked → IsPermutation asked (claimed ++ left_of asked claimed)
apart [] [] h = IsPermutation-refl []
apart [] (x ∷ xs) h = absurd h
apart (r ∷ asked) claimed h =
    elim (cases_Bool (is_first claimed r)) as (λ _. IsPermutation (r ∷ asked) (claimed ++ left_of (r ∷ asked) claimed)) [
      | inl taken ↦
          let behind = behind_taken r asked claimed taken h in
          let same : claimed ++ left_of (r ∷ asked) claimed ≡ r ∷ (behind.0 ++ left_of asked behind.0) = ap (λ xs. claimed ++ xs) (left_of-taken r asked claimed taken) ∙ ap (λ xs. xs ++ left_of asked (drop 1 xs)) behind.1 in
          subst (IsPermutation (r ∷ asked)) (sym same) (IsPermutation-cons r asked (behind.0 ++ left_of asked behind.0) (apart asked behind.0 behind.2))
      | inr kept ↦
          let later = apart asked claimed (behind_kept r asked claimed kept h) in
          subst (IsPermutation (r ∷ asked)) (ap (λ xs. claimed ++ xs) (sym (left_of-kept r asked claimed kept)))
          (IsPermutation-trans (r ∷ asked) (r ∷ (claimed ++ left_of asked claimed)) (claimed ++ r ∷ left_of asked claimed) (IsPermutation-cons r asked (claimed ++ left_of asked claimed) later)
          (IsPermutation-sym (claimed ++ r ∷ left_of asked claimed) (r ∷ (claimed ++ left_of asked claimed)) (IsPermutation-middle claimed r (left_of asked claimed))))
    ]

-- one more claim, out of what earlier ones left
one_more : (asked done left claimed rest : List Range) → IsPermutation asked (done ++ left) → IsSublist claimed left → rest ≡ left_of left claimed → IsPermutation asked ((done ++ claimed) ++ rest)
one_more asked done left claimed rest h s is =
    subst (IsPermutation asked) (sym (append_assoc done claimed rest))
    (IsPermutation-trans asked (done ++ left) (done ++ (claimed ++ rest)) h
    (IsPermutation-append_right done left (claimed ++ rest) (subst (λ xs. IsPermutation left (claimed ++ xs)) (sym is) (apart left claimed s))))

-- the claims of four bootstrappers and what is left are the ranges asked for
pub all_apart : (asked files one log two peers three fresh left : List Range) → IsSublist files asked → one ≡ left_of asked files → IsSublist log one → two ≡ left_of one log
    → IsSublist peers two → three ≡ left_of two peers → IsSublist fresh three → left ≡ left_of three fresh → IsPermutation asked ((((files ++ log) ++ peers) ++ fresh) ++ left)
all_apart asked files one log two peers three fresh left of_files one_is of_log two_is of_peers three_is of_fresh left_is =
    let first = subst (λ xs. IsPermutation asked (files ++ xs)) (sym one_is) (apart asked files of_files) in
    let second = one_more asked files one log two first of_log two_is in
    let third = one_more asked (files ++ log) two peers three second of_peers three_is in
    one_more asked ((files ++ log) ++ peers) three fresh left third of_fresh left_is

-- claims of everything and of nothing
pub left_of-all : (asked : List Range) → left_of asked asked ≡ []
left_of-all [] = refl
left_of-all (r ∷ asked) = left_of-taken r asked (r ∷ asked) (range_eq-refl r) ∙ left_of-all asked

pub left_of-none : (asked : List Range) → left_of asked [] ≡ asked
left_of-none [] = refl
left_of-none (r ∷ asked) = ap (λ xs. r ∷ xs) (left_of-none asked)
