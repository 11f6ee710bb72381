-- Links: which ones a series has.
use Rattle.std.proofs.Common.{◌≡◌, ℕ, ◌<◌, List, [], ◌∷◌, ◌++◌, length, take, get_or, refl, sym, ap, ◌∙◌, inl, inr, Bool, true, false, not, ◌||◌, ◌&&◌, arith, zero, suc}
use Rattle.std.specs.Prelude.{◌⊎◌, nat_eq}
use Rattle.std.specs.Str.{bytes_eq}
use Rattle.std.proofs.lemmas.Slice.Eq.{bytes_eq-Decides}
use Rattle.std.proofs.lemmas.Bool.{eqb-true, eq-eqb, and_parts, or_parts}
use Rattle.std.proofs.Math.Bool.{and-false, and-true, or-true}
use Rattle.m3_model.specs.Members.{IsIn}
use Rattle.tag_links.specs.Links.{Link, link_of, is_same, is_link_of}

abbrev pub Pair : Type 0
Pair = List ℕ × List ℕ

pub same_link : (x y : Link) → is_same x y ≡ true → x ≡ y
same_link x y e =
    let first = and_parts (bytes_eq x.name y.name) _ e in
    let second = and_parts (bytes_eq x.value y.value) _ first.1 in
    let names = (bytes_eq-Decides x.name y.name).0 first.0 in
    let values = (bytes_eq-Decides x.value y.value).0 second.0 in
    let ordinals = eqb-true x.ordinal y.ordinal second.1 in
    λ i. record { name = names i; value = values i; ordinal = ordinals i }

pub link_itself : (x : Link) → is_same x x ≡ true
link_itself x =
    ap (λ b. b && (bytes_eq x.value x.value && nat_eq x.ordinal x.ordinal)) ((bytes_eq-Decides x.name x.name).1 refl)
    ∙ ap (λ b. b && nat_eq x.ordinal x.ordinal) ((bytes_eq-Decides x.value x.value).1 refl)
    ∙ eq-eqb x.ordinal x.ordinal refl

-- a link of the tags to the ordinal names one of them and the ordinal
pub link_names : (tags : List Pair) (o : ℕ) (q : Link) → is_link_of tags o q ≡ true → IsIn tags (q.name, q.value) × (o ≡ q.ordinal)
link_names [] o q e = cc
link_names (tag ∷ tags) o q e = by_test (is_same (link_of o tag) q) refl (link_names tags o q) e
  where
    by_test : (b : Bool) → is_same (link_of o tag) q ≡ b → (is_link_of tags o q ≡ true → IsIn tags (q.name, q.value) × (o ≡ q.ordinal)) → (b || is_link_of tags o q) ≡ true
        → ((tag ≡ (q.name, q.value)) ⊎ IsIn tags (q.name, q.value)) × (o ≡ q.ordinal)
    by_test true t later e =
        let same = same_link (link_of o tag) q t in
        (inl (λ i. ((same i).name, (same i).value)), ap (λ (l : Link). l.ordinal) same)
    by_test false t later e = let found = later e in (inr found.0, found.1)

-- each tag has its link
pub names_link : (tags : List Pair) (o : ℕ) (tag : Pair) → IsIn tags tag → is_link_of tags o (link_of o tag) ≡ true
names_link [] o tag h = absurd h
names_link (x ∷ tags) o tag h =
    elim h as (λ _. (is_same (link_of o x) (link_of o tag) || is_link_of tags o (link_of o tag)) ≡ true) [
      | inl same ↦ ap (λ (t : Pair). is_same (link_of o t) (link_of o tag) || is_link_of tags o (link_of o tag)) same ∙ ap (λ b. b || is_link_of tags o (link_of o tag)) (link_itself (link_of o tag))
      | inr later ↦ ap (λ b. is_same (link_of o x) (link_of o tag) || b) (names_link tags o tag later) ∙ or-true _
    ]

-- a link to another ordinal is none of them
pub other_ordinal : (tags : List Pair) (o : ℕ) (q : Link) → (o ≡ q.ordinal → ⊥) → is_link_of tags o q ≡ false
other_ordinal tags o q apart = by_test (is_link_of tags o q) refl
  where
    by_test : (b : Bool) → is_link_of tags o q ≡ b → b ≡ false
    by_test true e = absurd (apart (link_names tags o q e).1)
    by_test false e = refl

pub is_link_of-append : (xs ys : List Pair) (o : ℕ) (q : Link) → is_link_of (xs ++ ys) o q ≡ (is_link_of xs o q || is_link_of ys o q)
is_link_of-append [] ys o q = refl
is_link_of-append (x ∷ xs) ys o q = ap (λ b. is_same (link_of o x) q || b) (is_link_of-append xs ys o q) ∙ or_assoc (is_same (link_of o x) q) _ _
  where
    or_assoc : (a b c : Bool) → (a || (b || c)) ≡ ((a || b) || c)
    or_assoc true b c = refl
    or_assoc false b c = refl

-- a link of none of the tags is none of the first ones, and none of a single one
pub none_taken : (tags : List Pair) (i o : ℕ) (q : Link) → is_link_of tags o q ≡ false → is_link_of (take i tags) o q ≡ false
none_taken [] zero o q e = refl
none_taken [] (suc i) o q e = refl
none_taken (x ∷ tags) zero o q e = refl
none_taken (x ∷ tags) (suc i) o q e =
    let parts = or_parts (is_same (link_of o x) q) (is_link_of tags o q) e in
    ap (λ b. b || is_link_of (take i tags) o q) parts.0 ∙ none_taken tags i o q parts.1

pub none_at : (tags : List Pair) (i o : ℕ) (d : Pair) (q : Link) → i < length tags → is_link_of tags o q ≡ false → is_link_of (get_or tags i d ∷ []) o q ≡ false
none_at [] i o d q h e = absurd (omega arith)
none_at (x ∷ tags) zero o d q h e = ap (λ b. b || false) (or_parts (is_same (link_of o x) q) (is_link_of tags o q) e).0
none_at (x ∷ tags) (suc i) o d q h e = none_at tags i o d q (omega arith) (or_parts (is_same (link_of o x) q) (is_link_of tags o q) e).1

-- one more tag is linked
pub linked_more : (was b now more : Bool) → now ≡ (b || more) → (old : Bool) → b ≡ (old || was) → now ≡ (old || (was || more))
linked_more was b now more e old h = e ∙ ap (λ c. c || more) h ∙ assoc old was more
  where
    assoc : (a b c : Bool) → ((a || b) || c) ≡ (a || (b || c))
    assoc true b c = refl
    assoc false b c = refl

-- one more tag is unlinked
pub unlinked_more : (was b now more : Bool) → now ≡ (b && not more) → (old : Bool) → b ≡ (old && not was) → now ≡ (old && not (was || more))
unlinked_more was b now more e old h = e ∙ ap (λ c. c && not more) h ∙ assoc old was more
  where
    assoc : (a b c : Bool) → ((a && not b) && not c) ≡ (a && not (b || c))
    assoc true true c = refl
    assoc true false c = refl
    assoc false b c = refl

-- what was linked in part is unlinked again
pub rolled_back : (tags : List Pair) (o : ℕ) (q : Link) (old now after : Bool) → (q.ordinal ≡ o → old ≡ false) → (is_link_of tags o q ≡ false → now ≡ old)
    → after ≡ (now && not (is_link_of tags o q)) → after ≡ old
rolled_back tags o q old now after fresh kept e = by_test (is_link_of tags o q) refl e
  where
    by_test : (b : Bool) → is_link_of tags o q ≡ b → after ≡ (now && not b) → after ≡ old
    by_test true t f = f ∙ and-false now ∙ sym (fresh (sym (link_names tags o q t).1))
    by_test false t f = f ∙ and-true now ∙ kept t
