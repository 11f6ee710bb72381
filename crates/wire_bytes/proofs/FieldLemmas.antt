-- Fields one after another: where one of them fails, the whole fails there.
use Rattle.std.proofs.Common.{◌≡◌, inl, inr, ℕ, zero, suc, ◌+◌, ◌-◌, ◌<◌, ◌≤◌, List, [], ◌∷◌, ◌++◌, length, take, drop, refl, sym, ap, subst, ◌∙◌, arith, append_assoc, length-append}
use Rattle.std.proofs.lemmas.List.{take-append-drop, take_at, append_cancel_left, append-nil, take-take, take-append-le, length-take-le}
use Rattle.std.proofs.lemmas.Bool.{cases_lt}
use Rattle.wire_bytes.specs.Fields.{Stands, Begins, GoesOn, Misfits, IsFault}
use Rattle.wire_bytes.specs.declared.wire_err.WireErr.{WireErr}
use Rattle.wire_bytes.specs.declared.wire_err.WireErr.TheVariants as errors

-- no spelling begins another one
abbrev pub EndsItself : (List ℕ → Type 0) → Type 0
EndsItself F = (a r : List ℕ) → F a → F (a ++ r) → r ≡ []

not_empty : (d : List ℕ) (n : ℕ) (r : List ℕ) → d ++ n ∷ r ≡ [] → ⊥
not_empty d n r e = let l : length (d ++ n ∷ r) ≡ 0 = ap length e in omega (arith, length-append d (n ∷ r))

-- of two ways to cut a list the longer front begins with the shorter one
pub front_of : (a b c d : List ℕ) → a ++ b ≡ c ++ d → length a ≤ length c → c ≡ a ++ drop (length a) c
front_of a b c d e le =
    let t : take (length a) c ≡ a = sym (take-append-le (length a) c d le) ∙ ap (λ (l : List ℕ). take (length a) l) (sym e) ∙ take_at a b (length a) refl in
    sym (take-append-drop (length a) c) ∙ ap (λ (l : List ℕ). l ++ drop (length a) c) t

pub begins_goes : (F : List ℕ → Type 0) (l : List ℕ) → GoesOn F l → Begins F l
begins_goes F l g = record { rest = g.next ∷ g.rest; whole = g.whole }

pub begins_front : (F : List ℕ → Type 0) (a b : List ℕ) → Begins F (a ++ b) → Begins F a
begins_front F a b g = record { rest = b ++ g.rest; whole = subst F (append_assoc a b g.rest) g.whole }

-- a front of what some spelling begins with
pub begins_take : (F : List ℕ → Type 0) (n : ℕ) (l : List ℕ) → Begins F l → Begins F (take n l)
begins_take F n l g = begins_front F (take n l) (drop n l) (subst (Begins F) (sym (take-append-drop n l)) g)

-- a field has one fault at most
misfits_below : (F : List ℕ → Type 0) (l : List ℕ) (m n : ℕ) → Misfits F l m → Misfits F l n → m < n → ⊥
misfits_below F l m n p q lt = p.none (subst (Begins F) (take-take (suc m) n l (omega arith)) (begins_take F (suc m) (take n l) (begins_goes F (take n l) q.fits)))

short_misfits : (F : List ℕ → Type 0) (l : List ℕ) (n : ℕ) → GoesOn F l → Misfits F l n → ⊥
short_misfits F l n g m = m.none (begins_take F (suc n) l (begins_goes F l g))

same_offset : (at p q : ℕ) → at ≤ p → at ≤ q → p - at ≡ q - at → p ≡ q
same_offset at p q a b e = omega arith

bad_one : (F : List ℕ → Type 0) (bytes : List ℕ) (at p q : ℕ) → IsFault F bytes at (errors.Bad p) → IsFault F bytes at (errors.Bad q) → errors.Bad p ≡ errors.Bad q
bad_one F bytes at p q a b = ap errors.Bad (elim (cases_lt (p - at) (q - at)) as (λ _. p ≡ q) [
  | inl lt ↦ absurd (misfits_below F (drop at bytes) (p - at) (q - at) a.1 b.1 lt)
  | inr ge ↦ elim (cases_lt (q - at) (p - at)) as (λ _. p ≡ q) [
    | inl lt ↦ absurd (misfits_below F (drop at bytes) (q - at) (p - at) b.1 a.1 lt)
    | inr le ↦ same_offset at p q a.0 b.0 (omega arith)
  ]
])

pub fault_one : (F : List ℕ → Type 0) (bytes : List ℕ) (at : ℕ) (e f : WireErr) → IsFault F bytes at e → IsFault F bytes at f → e ≡ f
fault_one F bytes at errors.Short errors.Short a b = refl
fault_one F bytes at errors.Short (errors.Bad q) a b = absurd (short_misfits F (drop at bytes) (q - at) a b.1)
fault_one F bytes at (errors.Bad p) errors.Short a b = absurd (short_misfits F (drop at bytes) (p - at) b a.1)
fault_one F bytes at (errors.Bad p) (errors.Bad q) a b = bad_one F bytes at p q a b

-- where a spelling stands there is no fault
whole_short : (F : List ℕ → Type 0) → EndsItself F → (s d : List ℕ) → F s → GoesOn F (s ++ d) → ⊥
whole_short F ends s d f g = not_empty d g.next g.rest (ends s (d ++ g.next ∷ g.rest) f (subst F (append_assoc s d (g.next ∷ g.rest)) g.whole))

front_goes : (F : List ℕ → Type 0) → EndsItself F → (s d : List ℕ) (n : ℕ) → F s → length s ≤ n → GoesOn F (take n (s ++ d)) → ⊥
front_goes F ends s d n f le g =
    let split : take n (s ++ d) ≡ s ++ take (n - length s) d = take_past s d n le in
    whole_short F ends s (take (n - length s) d) f (subst (GoesOn F) split g)
  where
    take_past : (s d : List ℕ) (n : ℕ) → length s ≤ n → take n (s ++ d) ≡ s ++ take (n - length s) d
    take_past [] d n le = let e : n ≡ n - 0 = omega arith in ap (λ (k : ℕ). take k d) e
    take_past (x ∷ s) d zero le = absurd (omega arith)
    take_past (x ∷ s) d (suc n) le = ap (λ (l : List ℕ). x ∷ l) (take_past s d n (omega arith) ∙ (let e : n - length s ≡ suc n - suc (length s) = omega arith in ap (λ (k : ℕ). s ++ take k d) e))

whole_misfits : (F : List ℕ → Type 0) → EndsItself F → (s d : List ℕ) (n : ℕ) → F s → Misfits F (s ++ d) n → ⊥
whole_misfits F ends s d n f m = elim (cases_lt n (length s)) [
  | inl lt ↦ m.none (subst (Begins F) (sym (take-append-le (suc n) s d (omega arith))) (begins_take F (suc n) s (record { rest = []; whole = subst F (sym (append-nil s)) f })))
  | inr le ↦ front_goes F ends s d n f le m.fits
]

pub no_fault : (F : List ℕ → Type 0) → EndsItself F → (s bytes : List ℕ) (at next : ℕ) (e : WireErr) → F s → Stands s bytes at next → IsFault F bytes at e → ⊥
no_fault F ends s bytes at next errors.Short f st a = whole_short F ends s (drop next bytes) f (subst (GoesOn F) st.split a)
no_fault F ends s bytes at next (errors.Bad p) f st a = whole_misfits F ends s (drop next bytes) (p - at) f (subst (λ (l : List ℕ). Misfits F l (p - at)) st.split a.1)

-- of a list two spellings at its head are one
pub one_front : (F : List ℕ → Type 0) → EndsItself F → (s t d e : List ℕ) → F s → F t → s ++ d ≡ t ++ e → s ≡ t
one_front F ends s t d e f g same = elim (cases_lt (length t) (length s)) [
  | inl lt ↦ sym (shorter t s e d g f (sym same) (omega arith))
  | inr le ↦ shorter s t d e f g same le
]
  where
    shorter : (s t d e : List ℕ) → F s → F t → s ++ d ≡ t ++ e → length s ≤ length t → s ≡ t
    shorter s t d e f g same le =
        let is = front_of s d t e same le in
        let none : drop (length s) t ≡ [] = ends s (drop (length s) t) f (subst F is g) in
        sym (is ∙ ap (λ (l : List ℕ). s ++ l) none ∙ append-nil s)

pub one_stands : (F : List ℕ → Type 0) → EndsItself F → (s t bytes : List ℕ) (at m n : ℕ) → F s → F t → Stands s bytes at m → Stands t bytes at n → s ≡ t
one_stands F ends s t bytes at m n f g a b = one_front F ends s t (drop m bytes) (drop n bytes) f g (sym a.split ∙ b.split)

-- a field read as another of the same spellings
pub goes_as : (F G : List ℕ → Type 0) (l : List ℕ) → ((b : List ℕ) → F b → G b) → GoesOn F l → GoesOn G l
goes_as F G l to g = record { next = g.next; rest = g.rest; whole = to _ g.whole }

pub fault_as : (F G : List ℕ → Type 0) (bytes : List ℕ) (at : ℕ) (e : WireErr) → ((b : List ℕ) → F b → G b) → ((b : List ℕ) → G b → F b) → IsFault F bytes at e → IsFault G bytes at e
fault_as F G bytes at errors.Short to from a = goes_as F G _ to a
fault_as F G bytes at (errors.Bad p) to from a = (
  a.0,
  record {
    within = a.1.within;
    fits = goes_as F G _ to a.1.fits;
    none = λ g. a.1.none (record { rest = g.rest; whole = from _ g.whole });
  },
)

-- a spelling of the first, then one of the second, which the value of the first decides
pub record Then (F G : ℕ → List ℕ → Type 0) (bytes : List ℕ) : Type 0 where
  pub x : ℕ
  pub a : List ℕ
  pub b : List ℕ
  pub first : F x a
  pub second : G x b
  pub joined : bytes ≡ a ++ b

abbrev pub Some_of : (ℕ → List ℕ → Type 0) → List ℕ → Type 0
Some_of F bytes = (x : ℕ) × F x bytes

module _ (F G : ℕ → List ℕ → Type 0) (ends : EndsItself (Some_of F)) where
  -- a fault of the first
  goes_first : (l : List ℕ) → ((x : ℕ) (a : List ℕ) → F x a → (b : List ℕ) × G x b) → GoesOn (Some_of F) l → GoesOn (Then F G) l
  goes_first l more g =
      let b = more g.whole.0 (l ++ g.next ∷ g.rest) g.whole.1 in
      record {
        next = g.next;
        rest = g.rest ++ b.0;
        whole = record { x = g.whole.0; a = l ++ g.next ∷ g.rest; b = b.0; first = g.whole.1; second = b.1; joined = sym (append_assoc l (g.next ∷ g.rest) b.0) };
      }

  begins_first : (l : List ℕ) (n : ℕ) → n < length l → GoesOn (Some_of F) (take n l) → Begins (Then F G) (take (suc n) l) → Begins (Some_of F) (take (suc n) l)
  begins_first l n within fits g =
      let t = g.whole in
      let long : length (take (suc n) l) ≡ suc n = length-take-le (suc n) l (omega arith) in
      elim (cases_lt n (length t.a)) [
        | inl lt ↦
            let is = front_of (take (suc n) l) g.rest t.a t.b t.joined (omega arith) in
            record { rest = drop (length (take (suc n) l)) t.a; whole = (t.x, subst (F t.x) is t.first) }
        | inr le ↦
            let is : take (suc n) l ≡ t.a ++ drop (length t.a) (take (suc n) l) = front_of t.a t.b (take (suc n) l) g.rest (sym t.joined) (omega arith) in
            let cut : take n l ≡ take n (t.a ++ drop (length t.a) (take (suc n) l)) = sym (take-take n (suc n) l (omega arith)) ∙ ap (λ (k : List ℕ). take n k) is in
            absurd (front_goes (Some_of F) ends t.a (drop (length t.a) (take (suc n) l)) n (t.x, t.first) le (subst (GoesOn (Some_of F)) cut fits))
      ]

  pub first_fault : (bytes : List ℕ) (at : ℕ) (e : WireErr) → ((x : ℕ) (a : List ℕ) → F x a → (b : List ℕ) × G x b) → IsFault (Some_of F) bytes at e → IsFault (Then F G) bytes at e
  first_fault bytes at errors.Short more a = goes_first (drop at bytes) more a
  first_fault bytes at (errors.Bad p) more a = (
    a.0,
    record {
      within = a.1.within;
      fits = goes_first (take (p - at) (drop at bytes)) more a.1.fits;
      none = λ g. a.1.none (begins_first (drop at bytes) (p - at) a.1.within a.1.fits g);
    },
  )

  -- a fault of the second, behind a spelling of the first
  module _ (one : (x y : ℕ) (a : List ℕ) → F x a → F y a → x ≡ y) (x : ℕ) (s : List ℕ) (f : F x s) where
    goes_second : (d : List ℕ) → GoesOn (G x) d → GoesOn (Then F G) (s ++ d)
    goes_second d g = record {
      next = g.next;
      rest = g.rest;
      whole = record { x = x; a = s; b = d ++ g.next ∷ g.rest; first = f; second = g.whole; joined = append_assoc s d (g.next ∷ g.rest) };
    }

    begins_second : (d : List ℕ) → Begins (Then F G) (s ++ d) → Begins (G x) d
    begins_second d g =
        let t = g.whole in
        let whole : s ++ (d ++ g.rest) ≡ t.a ++ t.b = sym (append_assoc s d g.rest) ∙ t.joined in
        let same : s ≡ t.a = one_front (Some_of F) ends s t.a (d ++ g.rest) t.b (x, f) (t.x, t.first) whole in
        let back : d ++ g.rest ≡ t.b = append_cancel_left s (d ++ g.rest) t.b (whole ∙ ap (λ (l : List ℕ). l ++ t.b) (sym same)) in
        let is : t.x ≡ x = one t.x x s (subst (F t.x) (sym same) t.first) f in
        record { rest = g.rest; whole = subst (G x) (sym back) (subst (λ (y : ℕ). G y t.b) is t.second) }

    misfits_second : (d : List ℕ) (n : ℕ) → Misfits (G x) d n → Misfits (Then F G) (s ++ d) (length s + n)
    misfits_second d n m =
        let cut : (k : ℕ) → s ++ take k d ≡ take (length s + k) (s ++ d) = λ (k : ℕ). past s k in
        let next : suc (length s + n) ≡ length s + suc n = omega arith in
        let up : take (suc (length s + n)) (s ++ d) ≡ take (length s + suc n) (s ++ d) = ap (λ (k : ℕ). take k (s ++ d)) next in
        record {
          within = omega (arith, length-append s d, m.within);
          fits = subst (GoesOn (Then F G)) (cut n) (goes_second (take n d) m.fits);
          none = λ g. m.none (begins_second (take (suc n) d) (subst (Begins (Then F G)) (up ∙ sym (cut (suc n))) g));
        }
      where
        past : (s : List ℕ) (k : ℕ) → s ++ take k d ≡ take (length s + k) (s ++ d)
        past [] k = let e : k ≡ 0 + k = omega arith in ap (λ (j : ℕ). take j d) e
        past (y ∷ s) k = let e : suc (length s + k) ≡ suc (length s) + k = omega arith in ap (λ (l : List ℕ). y ∷ l) (past s k) ∙ ap (λ (j : ℕ). take j (y ∷ (s ++ d))) e

    pub second_fault : (bytes : List ℕ) (at mid : ℕ) (e : WireErr) → Stands s bytes at mid → IsFault (G x) bytes mid e → IsFault (Then F G) bytes at e
    second_fault bytes at mid errors.Short st a = subst (GoesOn (Then F G)) (sym st.split) (goes_second (drop mid bytes) a)
    second_fault bytes at mid (errors.Bad p) st a =
        let is : length s + (p - mid) ≡ p - at = omega (arith, st.ends, a.0) in
        let m = misfits_second (drop mid bytes) (p - mid) a.1 in
        (omega (arith, st.ends, a.0), subst (λ (k : ℕ). Misfits (Then F G) (drop at bytes) k) is (subst (λ (l : List ℕ). Misfits (Then F G) l (length s + (p - mid))) (sym st.split) m))

  -- two such fields don't begin one another where that is so of both
  pub then_ends : ((x y : ℕ) (a : List ℕ) → F x a → F y a → x ≡ y) → ((x : ℕ) (a : List ℕ) → F x a → EndsItself (G x)) → EndsItself (Then F G)
  then_ends one later l r t u =
      let whole : t.a ++ (t.b ++ r) ≡ u.a ++ u.b = sym (append_assoc t.a t.b r) ∙ ap (λ (k : List ℕ). k ++ r) (sym t.joined) ∙ u.joined in
      let same : t.a ≡ u.a = one_front (Some_of F) ends t.a u.a (t.b ++ r) u.b (t.x, t.first) (u.x, u.first) whole in
      let is : u.x ≡ t.x = one u.x t.x t.a (subst (F u.x) (sym same) u.first) t.first in
      let back : t.b ++ r ≡ u.b = append_cancel_left t.a (t.b ++ r) u.b (whole ∙ ap (λ (k : List ℕ). k ++ u.b) (sym same)) in
      later t.x t.a t.first t.b r t.second (subst (G t.x) (sym back) (subst (λ (y : ℕ). G y u.b) is u.second))

-- two fields that stand one after the other
pub stands_both : (a b bytes : List ℕ) (at mid next : ℕ) → Stands a bytes at mid → Stands b bytes mid next → Stands (a ++ b) bytes at next
stands_both a b bytes at mid next p q = record {
  split = p.split ∙ ap (λ (l : List ℕ). a ++ l) q.split ∙ sym (append_assoc a b (drop next bytes));
  ends = omega (arith, p.ends, q.ends, length-append a b);
  within = q.within;
}
