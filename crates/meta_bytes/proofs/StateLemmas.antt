-- The fields of a state and of its parts, one after another.
use Rattle.std.proofs.Common.{◌≡◌, ℕ, suc, ◌+◌, ◌-◌, ◌<◌, ◌≤◌, List, [], ◌∷◌, ◌++◌, length, take, drop, refl, sym, ap, subst, ◌∙◌, arith, append_assoc, append-nil, length-append, length-drop}
use Rattle.std.proofs.lemmas.List.{take_at}
use Rattle.std.proofs.Math.ListN.{drop_of_length-le}
use Rattle.wire_bytes.specs.Fields.{Begins, GoesOn, Misfits, IsFault, StopsAt}
use Rattle.wire_bytes.specs.declared.wire_err.WireErr.TheVariants as errors
use Rattle.wire_bytes.proofs.FieldLemmas.{EndsItself, begins_goes, begins_take}
use Rattle.meta_bytes.specs.Forms.{HasForm, StandsAs, MayFault}
use Rattle.meta_bytes.specs.States.{state_form, MayBreak, placed}
use Rattle.meta_bytes.specs.declared.read_err.ReadErr.{ReadErr}
use Rattle.meta_bytes.specs.declared.read_err.ReadErr.TheVariants as why
use Rattle.meta_bytes.proofs.FormLemmas.{form_ends}
use Rattle.meta_bytes.proofs.FairForms.{fair_state}
use Rattle.meta_bytes.proofs.RuleLemmas.{no_form}

-- ---- where bytes stop to have a form

module _ (F : List ℕ → Type 0) (ends : EndsItself F) (bytes : List ℕ) where
  -- they end within it
  pub stops_short : GoesOn F bytes → StopsAt F bytes (length bytes)
  stops_short g = record {
    inside = omega arith;
    begins = begins_take F (length bytes) bytes (begins_goes F bytes g);
    stops = λ lt. absurd (omega arith);
    none = λ whole. absurd (let none = ends bytes (g.next ∷ g.rest) whole g.whole in cc);
  }

  -- a byte doesn't fit
  pub stops_bad : (n : ℕ) → Misfits F bytes n → StopsAt F bytes n
  stops_bad n m = record {
    inside = let h = m.within in omega arith;
    begins = begins_goes F (take n bytes) m.fits;
    stops = λ lt. m.none;
    none = λ whole. m.none (begins_take F (suc n) bytes (record { rest = []; whole = subst F (sym (append-nil bytes)) whole }));
  }

  -- more bytes come behind it
  pub stops_behind : (s more : List ℕ) → F s → bytes ≡ s ++ more → 0 < length more → StopsAt F bytes (length s)
  stops_behind s more f is some = record {
    inside = omega (arith, long);
    begins = record { rest = []; whole = subst F (sym (append-nil (take (length s) bytes) ∙ front)) f };
    stops = λ lt g. clash (next_front more is some) g;
    none = λ whole. nonempty more some (ends s more f (subst F is whole));
  }
    where
      long : length bytes ≡ length s + length more
      long = ap length is ∙ length-append s more

      front : take (length s) bytes ≡ s
      front = ap (take (length s)) is ∙ take_at s more (length s) refl

      nonempty : (l : List ℕ) → 0 < length l → l ≡ [] → ⊥
      nonempty l lt e = let h = ap length e in omega (arith, lt, h)

      next_front : (more : List ℕ) → bytes ≡ s ++ more → 0 < length more → (x : ℕ) × (take (suc (length s)) bytes ≡ s ++ x ∷ [])
      next_front [] e lt = absurd (omega arith)
      next_front (x ∷ rest) e lt = (x, ap (take (suc (length s))) (e ∙ sym (append_assoc s (x ∷ []) rest)) ∙ take_at (s ++ x ∷ []) rest (suc (length s)) (length-append s (x ∷ []) ∙ (let up : length s + 1 ≡ suc (length s) = omega arith in up)))

      clash : (x : ℕ) × (take (suc (length s)) bytes ≡ s ++ x ∷ []) → Begins F (take (suc (length s)) bytes) → ⊥
      clash n g =
          let whole : F (s ++ (n.0 ∷ g.rest)) = subst F (ap (λ (l : List ℕ). l ++ g.rest) n.1 ∙ append_assoc s (n.0 ∷ []) g.rest) g.whole in
          let none = ends s (n.0 ∷ g.rest) f whole in cc

at_start : (bytes : List ℕ) → drop 0 bytes ≡ bytes
at_start bytes = refl

pub breaks_short : (bytes : List ℕ) → IsFault (HasForm state_form) bytes 0 errors.Short → StopsAt (HasForm state_form) bytes (length bytes)
breaks_short bytes a = stops_short (HasForm state_form) (form_ends state_form fair_state) bytes a

pub breaks_bad : (bytes : List ℕ) (offset : ℕ) → IsFault (HasForm state_form) bytes 0 (errors.Bad offset) → StopsAt (HasForm state_form) bytes offset
breaks_bad bytes offset a =
    let none : offset - 0 ≡ offset = omega arith in
    stops_bad (HasForm state_form) (form_ends state_form fair_state) bytes offset (subst (Misfits (HasForm state_form) bytes) none a.1)

pub breaks_behind : (s bytes : List ℕ) (next : ℕ) → StandsAs state_form s bytes 0 next → next < length bytes → StopsAt (HasForm state_form) bytes next
breaks_behind s bytes next st lt =
    let long : length s ≡ next = omega (arith, st.stands.ends) in
    subst (StopsAt (HasForm state_form) bytes) long (stops_behind (HasForm state_form) (form_ends state_form fair_state) bytes s (drop next bytes) st.has st.stands.split (omega (arith, length-drop next bytes)))

-- a state that is all of some bytes
pub whole_state : (s bytes : List ℕ) (next : ℕ) → StandsAs state_form s bytes 0 next → length bytes ≤ next → (bytes ≡ s) × HasForm state_form bytes
whole_state s bytes next st le =
    let is : bytes ≡ s = st.stands.split ∙ ap (λ (l : List ℕ). s ++ l) (drop_of_length-le bytes le) ∙ append-nil s in
    (is, subst (HasForm state_form) (sym is) st.has)

-- what a fault of the fields tells of all bytes
pub breaks_err : (bytes : List ℕ) (e : ReadErr) → MayFault (HasForm state_form) bytes 0 e → MayBreak bytes (placed (length bytes) e)
breaks_err bytes why.Memory a = tt
breaks_err bytes (why.Wire errors.Short) a = let s = breaks_short bytes a in (no_form bytes s.none, s)
breaks_err bytes (why.Wire (errors.Bad offset)) a = let s = breaks_bad bytes offset a in (no_form bytes s.none, s)
