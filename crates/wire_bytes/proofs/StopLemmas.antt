-- The offset at which bytes stop to have a form.
use Rattle.std.proofs.Common.{◌≡◌, ℕ, suc, ◌<◌, List, [], ◌∷◌, ◌++◌, length, take, refl, sym, ap, subst, ◌∙◌, arith, append_assoc, append-nil, length-append, Bool, true, false}
use Rattle.std.specs.Prelude.{nat_lt}
use Rattle.std.proofs.lemmas.Bool.{ltb-true, ltb-false}
use Rattle.std.proofs.lemmas.List.{take_at, take-take, append_cancel_left}
use Rattle.m3_model.specs.Members.{IsIn}
use Rattle.m3_model.proofs.Lists.{take_whole}
use Rattle.wire_bytes.specs.Fields.{Begins, StopsAt}
use Rattle.wire_bytes.specs.ByteLaws.{OneSpellingStops, StopsAtOne}
use Rattle.wire_bytes.proofs.FieldLemmas.{begins_take}

-- a longer front doesn't begin what a shorter one doesn't
front_below : (Form : List ℕ → Type 0) (bytes : List ℕ) (p q : ℕ) → StopsAt Form bytes p → StopsAt Form bytes q → p < q → ⊥
front_below Form bytes p q a b lt =
    let inner : take (suc p) (take q bytes) ≡ take (suc p) bytes = take-take (suc p) q bytes (omega (arith, lt)) in
    a.stops (omega (arith, lt, b.inside)) (subst (Begins Form) inner (begins_take Form (suc p) (take q bytes) b.begins))

pub stops_one : (Form : List ℕ → Type 0) (bytes : List ℕ) (p q : ℕ) → StopsAt Form bytes p → StopsAt Form bytes q → p ≡ q
stops_one Form bytes p q a b = by (nat_lt p q) refl (nat_lt q p) refl
  where
    by : (c : Bool) → nat_lt p q ≡ c → (d : Bool) → nat_lt q p ≡ d → p ≡ q
    by true e d f = absurd (front_below Form bytes p q a b (ltb-true p q e))
    by false e true f = absurd (front_below Form bytes q p b a (ltb-true q p f))
    by false e false f = let g = ltb-false p q e in let h = ltb-false q p f in omega (arith, g, h)

pub stops_at_one : StopsAtOne
stops_at_one form bytes at other a b = stops_one (IsIn form) bytes at other a b

-- ---- one spelling

-- the front with one byte more
take_next : (front : List ℕ) (x : ℕ) (rest : List ℕ) → take (suc (length front)) (front ++ x ∷ rest) ≡ front ++ x ∷ []
take_next front x rest =
    let long : length (front ++ x ∷ []) ≡ suc (length front) = length-append front (x ∷ []) ∙ omega arith in
    ap (take (suc (length front))) (sym (append_assoc front (x ∷ []) rest)) ∙ take_at (front ++ x ∷ []) rest (suc (length front)) long

longer : (word : List ℕ) (x : ℕ) (rest : List ℕ) → word ++ x ∷ rest ≡ word → ⊥
longer word x rest e = let l = ap length e in let s = length-append word (x ∷ rest) in omega (arith, l, s)

apart : (front : List ℕ) (x y : ℕ) (r s : List ℕ) → front ++ x ∷ r ≡ front ++ y ∷ s → x ≡ y
apart front x y r s e = let rest = append_cancel_left front (x ∷ r) (y ∷ s) e in cc

pub one_spelling_stops : OneSpellingStops
one_spelling_stops = record {
  short = λ word bytes next more e. record {
    inside = omega arith;
    begins = record { rest = next ∷ more; whole = ap (λ (l : List ℕ). l ++ next ∷ more) (take_whole bytes) ∙ sym e };
    stops = λ lt. absurd (omega (arith, lt));
    none = λ same. longer bytes next more (sym e ∙ sym same);
  };
  long = λ word bytes next more e. record {
    inside = (let l = ap length e in let s = length-append word (next ∷ more) in omega (arith, l, s));
    begins = record { rest = []; whole = append-nil (take (length word) bytes) ∙ ap (take (length word)) e ∙ take_at word (next ∷ more) (length word) refl };
    stops = λ lt b. longer word next b.rest (sym (append_assoc word (next ∷ []) b.rest) ∙ ap (λ (l : List ℕ). l ++ b.rest) (sym (ap (take (suc (length word))) e ∙ take_next word next more)) ∙ b.whole);
    none = λ same. longer word next more (sym e ∙ same);
  };
  other = λ word bytes front due stands more rest e f differ. record {
    inside = (let l = ap length f in let s = length-append front (stands ∷ rest) in omega (arith, l, s));
    begins = record { rest = due ∷ more; whole = ap (λ (l : List ℕ). take (length front) l ++ due ∷ more) f ∙ ap (λ (l : List ℕ). l ++ due ∷ more) (take_at front (stands ∷ rest) (length front) refl) ∙ sym e };
    stops = λ lt b. differ (sym (apart front stands due b.rest more (sym (append_assoc front (stands ∷ []) b.rest) ∙ ap (λ (l : List ℕ). l ++ b.rest) (sym (ap (take (suc (length front))) f ∙ take_next front stands rest)) ∙ b.whole ∙ e)));
    none = λ same. differ (sym (apart front stands due rest more (sym f ∙ same ∙ e)));
  };
}
