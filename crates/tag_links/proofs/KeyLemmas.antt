-- What stands under a key, once the content of one key was changed.
use Rattle.std.proofs.Common.{◌≡◌, ℕ, List, [], ◌∷◌, length, refl, sym, ap, ◌∙◌, subst, Bool, true, false, not, cond, ◌||◌, ◌&&◌, arith}
use Rattle.std.specs.Prelude.{Option, None, Result, Ok, Err, OnErr, String, string_bytes, nat_eq}
use Rattle.std.specs.BTreeMap.{is_at}
use Rattle.std.specs.BTreeSet.{BTreeSet, contains, btree_set_len}
use Rattle.std.specs.HashMap.{HashMap, get_by_text, hash_map_len}
use Rattle.std.specs.List.{list_any}
use Rattle.std.specs.Map.{lookup}
use Rattle.std.specs.Ordering.{nat_cmp}
use Rattle.std.specs.Str.{bytes_eq}
use Rattle.std.proofs.lemmas.Bool.Decides.{nat_tests}
use Rattle.std.proofs.lemmas.Slice.Eq.{bytes_eq-Decides}
use Rattle.std.proofs.Math.Bool.{and-true, or-false}

module _ {X : Type 0} (key : List ℕ) where
  -- the key has a new content, and each other key its own
  abbrev pub IsPut : (List ℕ → Option X) → (List ℕ → Option X) → Option X → Type 0
  IsPut old new x = (t : List ℕ) → new t ≡ cond (bytes_eq key t) x (old t)

  -- a test that holds for more of the key's content does so for more of what stands there
  pub more_there : (test : Option X → Bool) (old new : List ℕ → Option X) (x : Option X) (more : Bool) → IsPut old new x → test x ≡ (test (old key) || more) → (t : List ℕ)
      → test (new t) ≡ (test (old t) || (bytes_eq key t && more))
  more_there test old new x more put holds t = ap test (put t) ∙ by_test (bytes_eq key t) refl
    where
      by_test : (b : Bool) → bytes_eq key t ≡ b → test (cond b x (old t)) ≡ (test (old t) || (b && more))
      by_test true e = holds ∙ ap (λ k. test (old k) || more) ((bytes_eq-Decides key t).0 e)
      by_test false e = sym (or-false (test (old t)))

  -- and the same for less
  pub less_there : (test : Option X → Bool) (old new : List ℕ → Option X) (x : Option X) (less : Bool) → IsPut old new x → test x ≡ (test (old key) && not less) → (t : List ℕ)
      → test (new t) ≡ (test (old t) && not (bytes_eq key t && less))
  less_there test old new x less put holds t = ap test (put t) ∙ by_test (bytes_eq key t) refl
    where
      by_test : (b : Bool) → bytes_eq key t ≡ b → test (cond b x (old t)) ≡ (test (old t) && not (b && less))
      by_test true e = holds ∙ ap (λ k. test (old k) && not less) ((bytes_eq-Decides key t).0 e)
      by_test false e = sym (and-true (test (old t)))

  -- a content that tests alike leaves each key as it was
  pub same_there : (test : Option X → Bool) (old new : List ℕ → Option X) (x : Option X) → IsPut old new x → test x ≡ test (old key) → (t : List ℕ) → test (new t) ≡ test (old t)
  same_there test old new x put holds t = ap test (put t) ∙ by_test (bytes_eq key t) refl
    where
      by_test : (b : Bool) → bytes_eq key t ≡ b → test (cond b x (old t)) ≡ test (old t)
      by_test true e = holds ∙ ap (λ k. test (old k)) ((bytes_eq-Decides key t).0 e)
      by_test false e = refl

  -- the second of two changes counts
  pub put_twice : (old between new : List ℕ → Option X) (x y : Option X) → IsPut old between x → IsPut between new y → IsPut old new y
  put_twice old between new x y first second t = second t ∙ ap (cond (bytes_eq key t) y) (first t) ∙ by_test (bytes_eq key t)
    where
      by_test : (b : Bool) → cond b y (cond b x (old t)) ≡ cond b y (old t)
      by_test true = refl
      by_test false = refl

  -- a key that has nothing is as one that lost what it had
  pub put_none : (old : List ℕ → Option X) → old key ≡ None → IsPut old old None
  put_none old none t = by_test (bytes_eq key t) refl
    where
      by_test : (b : Bool) → bytes_eq key t ≡ b → old t ≡ cond b None (old t)
      by_test true e = ap old (sym ((bytes_eq-Decides key t).0 e)) ∙ none
      by_test false e = refl

-- a change at a key is one at the key that it equals
pub put_same : {X : Type 0} (k key : List ℕ) → k ≡ key → (old new : List ℕ → Option X) (x : Option X) → IsPut k old new x → IsPut key old new x
put_same k key same old new x put = subst (λ k. IsPut k old new x) same put

-- an ordinal was put into a set
pub put_in : (s n : BTreeSet ℕ) (o p : ℕ) → contains nat_cmp n p ≡ cond (is_at (nat_cmp o) p) true (contains nat_cmp s p) → contains nat_cmp n p ≡ (contains nat_cmp s p || nat_eq o p)
put_in s n o p e = e ∙ ap (λ b. cond b true (contains nat_cmp s p)) (same_test o p) ∙ by_test (nat_eq o p) (contains nat_cmp s p)
  where
    same_test : (o p : ℕ) → is_at (nat_cmp o) p ≡ nat_eq o p
    same_test o p = grind (arith, nat_tests)

    by_test : (b c : Bool) → cond b true c ≡ (c || b)
    by_test true true = refl
    by_test true false = refl
    by_test false true = refl
    by_test false false = refl

-- an ordinal was taken from a set
pub taken_from : (s n : BTreeSet ℕ) (o p : ℕ) → contains nat_cmp n p ≡ cond (is_at (nat_cmp o) p) false (contains nat_cmp s p) → contains nat_cmp n p ≡ (contains nat_cmp s p && not (nat_eq o p))
taken_from s n o p e = e ∙ ap (λ b. cond b false (contains nat_cmp s p)) (same_test o p) ∙ by_test (nat_eq o p) (contains nat_cmp s p)
  where
    same_test : (o p : ℕ) → is_at (nat_cmp o) p ≡ nat_eq o p
    same_test o p = grind (arith, nat_tests)

    by_test : (b c : Bool) → cond b false c ≡ (c && not b)
    by_test true true = refl
    by_test true false = refl
    by_test false true = refl
    by_test false false = refl

-- a set without ordinals has none
pub none_in : (s : BTreeSet ℕ) → btree_set_len s ≡ 0 → (o : ℕ) → contains nat_cmp s o ≡ false
none_in s e o = by_keys s.keys e
  where
    by_keys : (ks : List ℕ) → length ks ≡ 0 → list_any (is_at (nat_cmp o)) ks ≡ false
    by_keys [] e = refl
    by_keys (k ∷ ks) e = absurd (omega (arith, e))

-- a map without keys has none
pub none_at_all : {X Y S : Type 0} (m : HashMap (String Y) X S) → hash_map_len m ≡ 0 → (key : List ℕ) → get_by_text m key ≡ None
none_at_all {X = X} {Y = Y} m e key = by_entries m.entries e
  where
    by_entries : (es : List (String Y × X)) → length es ≡ 0 → lookup (λ k. bytes_eq key (string_bytes k)) es ≡ None
    by_entries [] e = refl
    by_entries (x ∷ es) e = absurd (omega (arith, e))

-- what holds anyway holds at an error
pub at_error : {T E P : Type 0} (r : Result T E) → P → OnErr r P
at_error (Ok x) p = tt
at_error (Err e) p = p
