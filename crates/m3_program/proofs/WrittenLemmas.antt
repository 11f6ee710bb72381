-- Bytes written one after the other.
use Rattle.std.proofs.Common.{◌≡◌, ℕ, zero, suc, ◌+◌, ◌-◌, ◌≤◌, ◌<◌, false, length-drop, List, [], ◌∷◌, ◌++◌, take, drop, length, refl, sym, ap, ◌∙◌, subst, append_assoc, append-nil, arith}
use Rattle.std.specs.Prelude.{Option, Some, None, Result, Ok, Err, OnErr, IfErr, nat_eq}
use Rattle.std.proofs.lemmas.Bool.{eq-eqb}
use Rattle.std.specs.Io.KnownBytes.{Appends, Keeps}
use Rattle.std.proofs.KnownBytes.{Appends-nil, Appends-trans}
use Rattle.std.proofs.lemmas.List.{take_all}
use Rattle.m3_program.specs.Passing.{Gives, Outflow, Takes}

pub appends_more : (a b c : Outflow) (x y : List ℕ) → Takes a b x → Takes b c y → Takes a c (x ++ y)
appends_more a b c x y p q = record { written = Appends-trans a.written b.written c.written x y p.written q.written; took = q.took ∙ ap (λ l. l ++ y) p.took ∙ append_assoc a.took x y }

take_suc : {X : Type 0} (n m : ℕ) (x : X) (xs : List X) → take (suc n + m) (x ∷ xs) ≡ x ∷ take (n + m) xs
take_suc n m x xs = let e : suc n + m ≡ suc (n + m) = omega arith in ap (λ k. take k (x ∷ xs)) e

take_none : {X : Type 0} (n : ℕ) → take {A = X} n [] ≡ []
take_none zero = refl
take_none (suc n) = refl

pub take_both : {X : Type 0} (n m : ℕ) (xs : List X) → take n xs ++ take m (drop n xs) ≡ take (n + m) xs
take_both zero m xs = ap (λ k. take k xs) (omega arith)
take_both {X = X} (suc n) m [] = take_none m ∙ sym (take_none (suc n + m))
take_both (suc n) m (x ∷ xs) = ap (λ ys. x ∷ ys) (take_both n m xs) ∙ sym (take_suc n m x xs)

-- a part of the rest of the bytes was written too
pub wrote_more : (bytes : List ℕ) (at count : ℕ) (a b c : Outflow) → Takes a b (take at bytes) → Takes b c (take count (take (length bytes - at) (drop at bytes))) → Takes a c (take (at + count) bytes)
wrote_more bytes at count a b c p q =
    let whole : take (length bytes - at) (drop at bytes) ≡ drop at bytes = take_all _ _ (omega (arith, length-drop at bytes)) in
    subst (Takes a c) (ap (λ ys. take at bytes ++ take count ys) whole ∙ take_both at count bytes) (appends_more a b c (take at bytes) (take count (take (length bytes - at) (drop at bytes))) p q)

pub bound_more : (bytes : List ℕ) (at count : ℕ) → at ≤ length bytes → count ≤ length (take (length bytes - at) (drop at bytes)) → at + count ≤ length bytes
bound_more bytes at count h k =
    let whole : take (length bytes - at) (drop at bytes) ≡ drop at bytes = take_all _ _ (omega (arith, length-drop at bytes)) in
    omega (arith, ap length whole, length-drop at bytes)

pub appends_nothing : (a : Outflow) → Takes a a []
appends_nothing a = record { written = Appends-nil a.written; took = sym (append-nil a.took) }

keeps_appends : (a b : Option (List ℕ)) → Keeps a b → Appends a b []
keeps_appends None b h = tt
keeps_appends (Some xs) None h = absurd h
keeps_appends (Some xs) (Some ys) h = h ∙ sym (append-nil xs)

-- a sink that failed took nothing
pub takes_none : (a b : Outflow) → Keeps a.written b.written → b.took ≡ a.took ++ [] → Takes a b []
takes_none a b kept same = record { written = keeps_appends a.written b.written kept; took = same }

-- nor was more written
pub wrote_no_more : (a b c : Outflow) (x y : List ℕ) → Takes a b x → y ≡ [] → Takes b c y → Takes a c x
wrote_no_more a b c x y p none q = subst (Takes a c) (ap (λ l. x ++ l) none ∙ append-nil x) (appends_more a b c x y p q)

pub on_err_just : {T E P : Type 0} (r : Result T E) → P → OnErr r P
on_err_just (Ok x) p = tt
on_err_just (Err e) p = p

-- what the error is, and what is so where there is one
pub if_err_both : {T E X : Type 0} (r : Result T E) (Q P : E → Type 0) → ((e : E) → Q e → X → P e) → IfErr r Q → OnErr r X → IfErr r P
if_err_both (Ok x) Q P f h k = tt
if_err_both (Err e) Q P f h k = f e h k

-- a source that failed gave nothing
pub gives_nothing : (left : Option (List ℕ)) (gave : List ℕ) (left2 : Option (List ℕ)) (gave2 : List ℕ) → Keeps left left2 → gave2 ≡ gave ++ [] → Gives left gave [] left2 gave2
gives_nothing None gave left2 gave2 kept same = (tt, same)
gives_nothing (Some xs) gave None gave2 kept same = absurd kept
gives_nothing (Some xs) gave (Some ys) gave2 kept same = (sym kept, same)

pub some_of : {X : Type 0} (xs : List X) → nat_eq (length xs) 0 ≡ false → 0 < length xs
some_of [] e = absurd (let yes = eq-eqb 0 0 refl in cc)
some_of (x ∷ xs) e = omega arith
