-- Names of seats, and the entries made under a name.
use Rattle.std.proofs.Common.{◌≡◌, ℕ, suc, ◌+◌, ◌≤◌, ◌<◌, ◌⊎◌, inl, inr, Bool, true, false, cond, List, [], ◌∷◌, ◌++◌, length, refl, ap, sym, ◌∙◌, arith, zero-le, append_assoc, length-append, le_refl, ⊎_elim}
use mathlib.Core.List.{IsPrefix}
use lib.Pointwise.{bytes_decides}
use Rattle.event_book.specs.Names.{Name, same_name, MayGiveName}
use Rattle.event_book.specs.declared.view.Made.{Made}
use Rattle.event_book.specs.declared.view.Ended.{Ended}
use Rattle.event_book.specs.Lists.{made_by, HasEnded}
use Rattle.std.proofs.lemmas.List.{append-nil}
use Rattle.event_book.proofs.Prefixes.{prefix_whole}

pub same_name_self : (n : Name) → same_name n n ≡ true
same_name_self n = (bytes_decides n n).1 refl

pub same_name_other : (n m : Name) → ¬ (n ≡ m) → same_name n m ≡ false
same_name_other n m not = go (same_name n m) refl
  where
    go : (b : Bool) → same_name n m ≡ b → same_name n m ≡ false
    go true e = absurd (not ((bytes_decides n m).0 e))
    go false e = e

-- where a name that goes on below v is u with one more number, v is u, or v's name goes on to u
pub snoc_below : (v u : Name) (j k : ℕ) (rest : Name) → v ++ j ∷ rest ≡ u ++ k ∷ [] → ((v ≡ u) × (j ≡ k)) ⊎ ((less : Name) × (u ≡ v ++ j ∷ less))
snoc_below [] [] j k rest e = inl (refl, cc)
snoc_below [] (b ∷ u) j k rest e = inr (u, cc)
snoc_below (a ∷ v) [] j k [] e = absurd (omega (arith, ap length e, length-append v (j ∷ [])))
snoc_below (a ∷ v) [] j k (x ∷ rest) e = absurd (omega (arith, ap length e, length-append v (j ∷ x ∷ rest)))
snoc_below (a ∷ v) (b ∷ u) j k rest e = ⊎_elim
    (λ (t : (v ≡ u) × (j ≡ k)). let heads : a ≡ b = cc in inl (cc, t.1))
    (λ (t : (less : Name) × (u ≡ v ++ j ∷ less)). let heads : a ≡ b = cc in inr (t.0, cc (t.1)))
    (snoc_below v u j k rest (cc))

-- the name that a seat gives next
pub next_given : (name : Name) (splits : ℕ) → MayGiveName name splits (name ++ splits ∷ [])
next_given name splits = (splits, [], le_refl splits, refl)

-- what the seat that is split off may give, its parent could
pub child_gives : (name : Name) (splits : ℕ) (m : Name) → MayGiveName (name ++ splits ∷ []) 0 m → MayGiveName name splits m
child_gives name splits m o = (splits, o.0 ∷ o.1, le_refl splits, o.3 ∙ append_assoc name (splits ∷ []) (o.0 ∷ o.1))

-- what a seat may give after a split it could before
pub parent_gives : (name : Name) (splits : ℕ) (m : Name) → MayGiveName name (splits + 1) m → MayGiveName name splits m
parent_gives name splits m o = (o.0, o.1, (let h = o.2 in omega arith), o.3)

-- who may give a seat's next name is that seat, or may give its name
pub gives_next : (name : Name) (splits : ℕ) (other : Name) (times : ℕ) → MayGiveName other times (name ++ splits ∷ []) → ((other ≡ name) × (times ≤ splits)) ⊎ MayGiveName other times name
gives_next name splits other times o = ⊎_elim
    (λ (t : (other ≡ name) × (o.0 ≡ splits)). let h = o.2 in inl (t.0, omega (arith, t.1)))
    (λ (t : (less : Name) × (name ≡ other ++ o.0 ∷ less)). inr (o.0, t.0, o.2, t.1))
    (snoc_below other name o.0 splits o.1 (sym o.3))

-- no name goes on to itself
pub not_longer : (n xs ys : Name) → n ≡ (n ++ xs) ++ ys → 0 < length xs + length ys → ⊥
not_longer n xs ys e more =
    let h : length n ≡ length (n ++ xs) + length ys = ap length e ∙ length-append (n ++ xs) ys in
    let g : length (n ++ xs) ≡ length n + length xs = length-append n xs in
    omega arith

pub not_own : (n : Name) (splits : ℕ) → MayGiveName n splits n → ⊥
not_own n splits o = not_longer n (o.0 ∷ o.1) [] (o.3 ∙ sym (append-nil _)) (omega arith)

pub not_first : (n : Name) (k : ℕ) → n ++ k ∷ [] ≡ [] → ⊥
not_first n k e = let h : length n + 1 ≡ 0 = sym (length-append n (k ∷ [])) ∙ ap length e in omega arith

module _ {E : Type 0} where
  pub made_by_append : (n : Name) (xs ys : List (Made E)) → made_by n (xs ++ ys) ≡ made_by n xs ++ made_by n ys
  made_by_append n [] ys = refl
  made_by_append n (x ∷ xs) ys = go (same_name n x.by) (made_by_append n xs ys)
    where
      go : (b : Bool) → made_by n (xs ++ ys) ≡ made_by n xs ++ made_by n ys → cond b (x.entry ∷ made_by n (xs ++ ys)) (made_by n (xs ++ ys)) ≡ cond b (x.entry ∷ made_by n xs) (made_by n xs) ++ made_by n ys
      go true h = ap (λ (w : List E). x.entry ∷ w) h
      go false h = h

  pub made_by_own : (n : Name) (xs : List (Made E)) (e : E) → made_by n (xs ++ (record { by = n; entry = e }) ∷ []) ≡ made_by n xs ++ e ∷ []
  made_by_own n xs e = made_by_append n xs _ ∙ ap (λ (b : Bool). made_by n xs ++ cond b (e ∷ []) []) (same_name_self n)

  pub made_by_other : (n m : Name) (xs : List (Made E)) (e : E) → ¬ (n ≡ m) → made_by n (xs ++ (record { by = m; entry = e }) ∷ []) ≡ made_by n xs
  made_by_other n m xs e not = made_by_append n xs _ ∙ (ap (λ (b : Bool). made_by n xs ++ cond b (e ∷ []) []) (same_name_other n m not) ∙ append-nil (made_by n xs))

  made_prefix : (n : Name) (xs ys : List (Made E)) → IsPrefix xs ys → IsPrefix (made_by n xs) (made_by n ys)
  made_prefix n xs ys p = (made_by n p.0, sym (made_by_append n xs p.0) ∙ ap (λ (w : List (Made E)). made_by n w) p.1)

  -- what was made in a beginning and in the whole was made in all that lies between
  pub made_between : (n : Name) (xs ys zs : List (Made E)) (es : List E) → IsPrefix xs ys → IsPrefix ys zs → made_by n xs ≡ es → made_by n zs ≡ es → made_by n ys ≡ es
  made_between n xs ys zs es p q first last =
      let a = made_prefix n xs ys p in let b = made_prefix n ys zs q in
      let short : length (made_by n ys) ≤ length (made_by n xs) = omega (arith, ap length b.1, length-append (made_by n ys) b.0, ap length first, ap length last) in
      sym (prefix_whole (made_by n xs) (made_by n ys) a short) ∙ first

  pub ended_between : (ended : List (Ended E)) (xs ys zs : List (Made E)) → IsPrefix xs ys → IsPrefix ys zs → HasEnded ended xs → HasEnded ended zs → HasEnded ended ys
  ended_between [] xs ys zs p q a b = tt
  ended_between (x ∷ rest) xs ys zs p q a b = (made_between x.name xs ys zs x.made p q a.0 b.0, ended_between rest xs ys zs p q a.1 b.1)

  -- who made nothing in the whole made nothing in a beginning
  pub none_before : (n : Name) (xs ys : List (Made E)) → IsPrefix xs ys → made_by n ys ≡ [] → made_by n xs ≡ []
  none_before n xs ys p none = let a = made_prefix n xs ys p in prefix_whole (made_by n xs) [] (a.0, a.1 ∙ none) zero-le

  made_short : (n : Name) (xs : List (Made E)) → length (made_by n xs) ≤ length xs
  made_short n [] = zero-le
  made_short n (x ∷ xs) = go (same_name n x.by) (made_short n xs)
    where
      go : (b : Bool) → length (made_by n xs) ≤ length xs → length (cond b (x.entry ∷ made_by n xs) (made_by n xs)) ≤ suc (length xs)
      go true h = omega arith
      go false h = omega arith

  -- a list between what holds just these entries and a list as long as they are
  pub squeeze : (n : Name) (xs ys zs : List (Made E)) (es : List E) → IsPrefix xs ys → IsPrefix ys zs → made_by n xs ≡ es → length zs ≡ length es → length ys ≡ length es
  squeeze n xs ys zs es p q made all =
      let a = sym (ap length p.1) ∙ length-append xs p.0 in
      let b = sym (ap length q.1) ∙ length-append ys q.0 in
      let c = made_short n xs in
      let d : length (made_by n xs) ≡ length es = ap length made in
      omega arith
