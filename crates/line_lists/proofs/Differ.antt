-- The test that no two entries are alike.
use Rattle.std.proofs.Common.{◌≡◌, List, [], ◌∷◌, refl, sym, ap, ◌∙◌, inl, inr, false}
use Rattle.std.specs.Prelude.{IsTrue, ◌↔◌, Bool, not}
use Rattle.std.specs.List.{list_any}
use Rattle.std.proofs.lemmas.Bool.{both_ways, or_parts, or_from, and_parts, and_from, not-true, not_from_false, false_from_ne_true}
use Rattle.m3_model.specs.Members.{IsIn}
use Rattle.m3_model.specs.Ascends.{Ascends}
use Rattle.line_lists.specs.Lists.{differ_by}

none_passes : {A : Type 0} (test : A → Bool) (xs : List A) → list_any test xs ≡ false → (x : A) → IsIn xs x → test x ≡ false
none_passes test [] none x inside = absurd inside
none_passes test (y ∷ ys) none x inside =
    let parts = or_parts (test y) (list_any test ys) none in
    elim inside as (λ _. test x ≡ false) [ inl same ↦ ap test (sym same) ∙ parts.0 | inr later ↦ none_passes test ys parts.1 x later ]

-- nothing passes the test
pub none_of : {A : Type 0} (test : A → Bool) (xs : List A) → ((x : A) → IsIn xs x → test x ≡ false) → list_any test xs ≡ false
none_of test [] each = refl
none_of test (y ∷ ys) each = or_from (test y) (list_any test ys) (each y (inl refl)) (none_of test ys (λ x inside. each x (inr inside)))

apart_where : {A : Type 0} (is_alike : A → A → Bool) (Alike : A → A → Type 0) → ((a b : A) → IsTrue (is_alike a b) ↔ Alike a b) → (xs : List A) → IsTrue (differ_by is_alike xs) → Ascends (λ a b. ¬ Alike a b) xs
apart_where is_alike Alike tells [] differ = tt
apart_where is_alike Alike tells (y ∷ ys) differ =
    let parts = and_parts (not (list_any (is_alike y) ys)) (differ_by is_alike ys) differ in
    let none = not-true (list_any (is_alike y) ys) parts.0 in
    (λ x inside alike. both_ways (is_alike y x) (none_passes (is_alike y) ys none x inside) ((tells y x).1 alike), apart_where is_alike Alike tells ys parts.1)

differ_where : {A : Type 0} (is_alike : A → A → Bool) (Alike : A → A → Type 0) → ((a b : A) → IsTrue (is_alike a b) ↔ Alike a b) → (xs : List A) → Ascends (λ a b. ¬ Alike a b) xs → IsTrue (differ_by is_alike xs)
differ_where is_alike Alike tells [] apart = refl
differ_where is_alike Alike tells (y ∷ ys) apart =
    and_from (not (list_any (is_alike y) ys)) (differ_by is_alike ys)
    (not_from_false (list_any (is_alike y) ys) (none_of (is_alike y) ys (λ x inside. false_from_ne_true (is_alike y x) (λ same. apart.0 x inside ((tells y x).0 same)))))
    (differ_where is_alike Alike tells ys apart.1)

-- the test tells whether no entry is alike to a later one, where it tells of each two whether they are alike
pub differ_by-Ascends : {A : Type 0} (is_alike : A → A → Bool) (Alike : A → A → Type 0) → ((a b : A) → IsTrue (is_alike a b) ↔ Alike a b) → (xs : List A) → IsTrue (differ_by is_alike xs) ↔ Ascends (λ a b. ¬ Alike a b) xs
differ_by-Ascends is_alike Alike tells xs = (apart_where is_alike Alike tells xs, differ_where is_alike Alike tells xs)
