-- Members of lists: by position, and of lists that are filtered, cut or made of lists.
use Rattle.std.proofs.Common.{◌≡◌, ◌∙◌, ◌<◌, ℕ, zero, suc, List, [], ◌∷◌, length, get_or, take, filter, flat_map, All, Bool, true, false, cond, refl, sym, ap, subst, inl, inr, arith}
use Rattle.std.specs.Prelude.{◌⊎◌}
use Rattle.std.proofs.lemmas.List.{take_all}
use Rattle.m3_model.specs.Members.{IsIn}
use Rattle.m3_model.proofs.MemberLemmas.{IsIn-append_left, IsIn-append_right, IsIn-append_cases}

pub IsIn-get_or : {X : Type 0} (xs : List X) (i : ℕ) (d : X) → i < length xs → IsIn xs (get_or xs i d)
IsIn-get_or [] i d h = absurd (omega arith)
IsIn-get_or (y ∷ ys) zero d h = inl refl
IsIn-get_or (y ∷ ys) (suc i) d h = inr (IsIn-get_or ys i d (omega arith))

-- what a read gives is a member
pub IsIn-read : {X : Type 0} (xs : List X) (i : ℕ) (x : X) → i < length xs → x ≡ get_or xs i x → IsIn xs x
IsIn-read xs i x h e = subst (IsIn xs) (sym e) (IsIn-get_or xs i x h)

pub All-from_each : {X : Type 0} (P : X → Type 0) (xs : List X) → ((x : X) → IsIn xs x → P x) → All P xs
All-from_each P xs each k d lt = each (get_or xs k d) (IsIn-get_or xs k d lt)

pub nil_from_no_member : {X : Type 0} (xs : List X) → ((x : X) → IsIn xs x → ⊥) → xs ≡ []
nil_from_no_member [] none = refl
nil_from_no_member (x ∷ xs) none = absurd (none x (inl refl))

pub take_whole : {X : Type 0} (xs : List X) → take (length xs) xs ≡ xs
take_whole xs = take_all (length xs) xs (omega arith)

pub IsIn-take : {X : Type 0} (n : ℕ) (xs : List X) (x : X) → IsIn (take n xs) x → IsIn xs x
IsIn-take zero xs x h = absurd h
IsIn-take (suc n) [] x h = absurd h
IsIn-take (suc n) (y ∷ ys) x (inl e) = inl e
IsIn-take (suc n) (y ∷ ys) x (inr r) = inr (IsIn-take n ys x r)

-- ---- a filter keeps the members that pass its test

pub IsIn-filter : {X : Type 0} (p : X → Bool) (xs : List X) (x : X) → IsIn (filter p xs) x → IsIn xs x
IsIn-filter p [] x h = absurd h
IsIn-filter p (y ∷ ys) x h = by (p y) (IsIn-filter p ys x) h
  where
    by : (b : Bool) → (IsIn (filter p ys) x → IsIn ys x) → IsIn (cond b (y ∷ filter p ys) (filter p ys)) x → IsIn (y ∷ ys) x
    by true later (inl e) = inl e
    by true later (inr rest) = inr (later rest)
    by false later rest = inr (later rest)

pub IsIn-filter_passes : {X : Type 0} (p : X → Bool) (xs : List X) (x : X) → IsIn (filter p xs) x → p x ≡ true
IsIn-filter_passes p [] x h = absurd h
IsIn-filter_passes p (y ∷ ys) x h = by (p y) refl (IsIn-filter_passes p ys x) h
  where
    by : (b : Bool) → p y ≡ b → (IsIn (filter p ys) x → p x ≡ true) → IsIn (cond b (y ∷ filter p ys) (filter p ys)) x → p x ≡ true
    by true is later (inl e) = ap p (sym e) ∙ is
    by true is later (inr rest) = later rest
    by false is later rest = later rest

pub filter-IsIn : {X : Type 0} (p : X → Bool) (xs : List X) (x : X) → IsIn xs x → p x ≡ true → IsIn (filter p xs) x
filter-IsIn p [] x h e = absurd h
filter-IsIn p (y ∷ ys) x h e = by (p y) refl (λ rest. filter-IsIn p ys x rest e) h
  where
    by : (b : Bool) → p y ≡ b → (IsIn ys x → IsIn (filter p ys) x) → IsIn (y ∷ ys) x → IsIn (cond b (y ∷ filter p ys) (filter p ys)) x
    by true is later (inl same) = inl same
    by true is later (inr rest) = inr (later rest)
    by false is later (inl same) = absurd (let never : false ≡ true = sym is ∙ ap p same ∙ e in cc)
    by false is later (inr rest) = later rest

-- ---- a list made of lists has their members

pub IsIn-flat_map : {X Y : Type 0} (f : X → List Y) (xs : List X) (y : Y) → IsIn (flat_map f xs) y → (x : X) × IsIn xs x × IsIn (f x) y
IsIn-flat_map f [] y h = absurd h
IsIn-flat_map f (x ∷ xs) y h =
    elim (IsIn-append_cases (f x) (flat_map f xs) y h) as (λ _. (z : _) × IsIn (x ∷ xs) z × IsIn (f z) y) [
      | inl here ↦ (x, inl refl, here)
      | inr later ↦ let found = IsIn-flat_map f xs y later in (found.0, inr found.1, found.2)
    ]

pub flat_map-IsIn : {X Y : Type 0} (f : X → List Y) (xs : List X) (x : X) (y : Y) → IsIn xs x → IsIn (f x) y → IsIn (flat_map f xs) y
flat_map-IsIn f [] x y h m = absurd h
flat_map-IsIn f (z ∷ xs) x y (inl e) m = IsIn-append_left (f z) (flat_map f xs) y (subst (λ w. IsIn (f w) y) (sym e) m)
flat_map-IsIn f (z ∷ xs) x y (inr r) m = IsIn-append_right (f z) (flat_map f xs) y (flat_map-IsIn f xs x y r m)
