-- Members of lists, by cases and by position.
use Rattle.std.proofs.Common.{◌≡◌, ◌<◌, ℕ, zero, suc, List, [], ◌∷◌, ◌++◌, length, take, get_or, slice_get, Some, ap, ◌∙◌, refl, sym, subst, inl, inr, arith, All, Any, Bool, true, false, cond, filter}
pub use Rattle.std.proofs.lemmas.Option.{slice_get_within as at_within}
use Rattle.m3_model.specs.Members.{IsIn}
use Rattle.m3_model.proofs.Lists.{IsIn-get_or}
pub use Rattle.m3_model.proofs.Lists.{IsIn-get_or as IsIn-from_index, All-from_each, IsIn-filter, IsIn-filter_passes as chosen, filter-IsIn}

pub index-from_IsIn : {X : Type 0} (xs : List X) (x : X) → IsIn xs x → (k : ℕ) × (k < length xs) × ((d : X) → get_or xs k d ≡ x)
index-from_IsIn [] x h = absurd h
index-from_IsIn (y ∷ ys) x h =
    elim h as (λ _. (k : ℕ) × (k < length (y ∷ ys)) × ((d : _) → get_or (y ∷ ys) k d ≡ x)) [
      | inl e ↦ (0, omega arith, λ d. e)
      | inr r ↦ let i = index-from_IsIn ys x r in (suc i.0, omega (arith, i.1), i.2)
    ]

pub IsIn-from_Any : {X : Type 0} (P : X → Type 0) (xs : List X) → Any P xs → (x : X) × IsIn xs x × P x
IsIn-from_Any P xs h = (h.1, subst (IsIn xs) h.3 (IsIn-get_or xs h.0 h.1 h.2), h.4)

pub Any-from_IsIn : {X : Type 0} (P : X → Type 0) (xs : List X) (x : X) → IsIn xs x → P x → Any P xs
Any-from_IsIn P xs x h p = let i = index-from_IsIn xs x h in (i.0, x, i.1, i.2 x, p)

pub each-from_All : {X : Type 0} (P : X → Type 0) (xs : List X) → All P xs → (x : X) → IsIn xs x → P x
each-from_All P xs all x h = let i = index-from_IsIn xs x h in subst P (i.2 x) (all i.0 x i.1)

-- a list is what stands before its last element, and that element
pub last_of : {X : Type 0} (xs : List X) (n : ℕ) (d : X) → length xs ≡ suc n → xs ≡ take n xs ++ get_or xs n d ∷ []
last_of [] n d e = absurd (omega arith)
last_of (x ∷ []) zero d e = refl
last_of (x ∷ (y ∷ ys)) zero d e = absurd (omega arith)
last_of (x ∷ xs) (suc n) d e = ap (λ z. x ∷ z) (last_of xs n d (omega arith))

-- an index finds what stands there
pub at_index : {X : Type 0} (xs : List X) (i : ℕ) (x : X) → i < length xs → x ≡ get_or xs i x → slice_get xs i ≡ Some x
at_index [] i x h e = absurd (omega arith)
at_index (y ∷ ys) zero x h e = ap Some (sym e)
at_index (y ∷ ys) (suc i) x h e = at_index ys i x (omega arith) e

pub same_at : {X : Type 0} (xs : List X) (i : ℕ) (x y : X) → slice_get xs i ≡ Some x → slice_get xs i ≡ Some y → x ≡ y
same_at xs i x y e f = let both : Some x ≡ Some y = sym e ∙ f in cc

-- ---- filters

-- tests that agree on the elements choose the same
pub filter_same : {X : Type 0} (p q : X → Bool) (xs : List X) → ((x : X) → IsIn xs x → p x ≡ q x) → filter p xs ≡ filter q xs
filter_same p q [] h = refl
filter_same p q (y ∷ ys) h = λ i. cond (h y (inl refl) i) (y ∷ filter_same p q ys (λ x m. h x (inr m)) i) (filter_same p q ys (λ x m. h x (inr m)) i)

kept_by : {X : Type 0} (p : X → Bool) (y : X) (ys : List X) (b : Bool) → p y ≡ b → b ≡ true → filter p ys ≡ ys → cond b (y ∷ filter p ys) (filter p ys) ≡ y ∷ ys
kept_by p y ys true is on e = ap (λ zs. y ∷ zs) e
kept_by p y ys false is on e = let clash : false ≡ true = on in cc

pub filter_all : {X : Type 0} (p : X → Bool) (xs : List X) → ((x : X) → IsIn xs x → p x ≡ true) → filter p xs ≡ xs
filter_all p [] h = refl
filter_all p (y ∷ ys) h = kept_by p y ys (p y) refl (h y (inl refl)) (filter_all p ys (λ x m. h x (inr m)))
