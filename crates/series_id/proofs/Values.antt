-- A value and its spelling, byte by byte.
use Rattle.std.proofs.Common.{◌≡◌, ◌≢◌, ℕ, ◌+◌, ◌<◌, List, [], ◌∷◌, ◌++◌, length, drop, get_or, cond, Bool, true, false, ◌||◌, refl, sym, ap, ◌∙◌, arith}
use Rattle.std.specs.Prelude.{◌==◌}
use Rattle.std.proofs.lemmas.List.{append_cancel_left}
use Rattle.m3_model.specs.Tags.{escaped}
use Rattle.series_id.proofs.Spellings.{escaped-append, drop_one}

-- the rest of a spelling is to the rest of a value what the spelling is to the value
pub record IsAlike (spelling value rest : List ℕ) (n : ℕ) : Type 0 where
  pub forth : spelling ≡ escaped value → rest ≡ escaped (drop n value)
  pub back : rest ≡ escaped (drop n value) → spelling ≡ escaped value

spelled_one : (value : List ℕ) (n : ℕ) → n < length value → escaped (drop n value) ≡ escaped (get_or value n 0 ∷ []) ++ escaped (drop (n + 1) value)
spelled_one value n h = ap escaped (drop_one value n h) ∙ escaped-append (get_or value n 0 ∷ []) (drop (n + 1) value)

pub alike_more : (spelling value rest later : List ℕ) (n : ℕ) → IsAlike spelling value rest n → n < length value → rest ≡ escaped (get_or value n 0 ∷ []) ++ later → IsAlike spelling value later (n + 1)
alike_more spelling value rest later n a h e = record {
  forth = λ s. append_cancel_left (escaped (get_or value n 0 ∷ [])) later (escaped (drop (n + 1) value)) (sym e ∙ a.forth s ∙ spelled_one value n h);
  back = λ s. a.back (e ∙ ap (λ xs. escaped (get_or value n 0 ∷ []) ++ xs) s ∙ sym (spelled_one value n h));
}

pub not_alike : (spelling value rest : List ℕ) (n : ℕ) → IsAlike spelling value rest n → n < length value → ((later : List ℕ) → rest ≢ escaped (get_or value n 0 ∷ []) ++ later) → spelling ≢ escaped value
not_alike spelling value rest n a h apart s = apart (escaped (drop (n + 1) value)) (a.forth s ∙ spelled_one value n h)

-- the first byte of a value that is spelled so

marked_none : (b : ℕ) (v : List ℕ) → [] ≡ escaped (b ∷ v) → ⊥
marked_none b v e = by_test (b == 34 || b == 92) e
  where
    by_test : (t : Bool) → [] ≡ cond t (92 ∷ b ∷ escaped v) (b ∷ escaped v) → ⊥
    by_test true f = cc
    by_test false f = cc

pub value_none : (text value : List ℕ) → length text ≡ 0 → text ≡ escaped value → value ≡ []
value_none text [] h e = refl
value_none [] (b ∷ v) h e = absurd (marked_none b v e)
value_none (x ∷ text) (b ∷ v) h e = absurd (omega arith)

abbrev pub Splits : List ℕ → ℕ → List ℕ → Type 0
Splits value byte later = (rest : List ℕ) × (value ≡ byte ∷ rest) × (later ≡ escaped rest)

special_is : (b : ℕ) → (b == 34 || b == 92) ≡ false → 92 ≡ b → ⊥
special_is b t e = let never : true ≡ false = ap (λ c. c == 34 || c == 92) e ∙ t in cc

pub value_plain : (text value later : List ℕ) (byte : ℕ) → text ≡ byte ∷ later → byte ≢ 92 → text ≡ escaped value → Splits value byte later
value_plain text [] later byte f h e = let never : byte ∷ later ≡ [] = sym f ∙ e in cc
value_plain text (b ∷ v) later byte f h e = by_test (b == 34 || b == 92) (sym f ∙ e)
  where
    by_test : (t : Bool) → byte ∷ later ≡ cond t (92 ∷ b ∷ escaped v) (b ∷ escaped v) → Splits (b ∷ v) byte later
    by_test true g = let slash : byte ≡ 92 = cc in absurd (h slash)
    by_test false g = let first : b ≡ byte = cc in let more : later ≡ escaped v = cc in (v, ap (λ x. x ∷ v) first, more)

pub value_marked : (text value inside later : List ℕ) (byte : ℕ) → text ≡ 92 ∷ inside → inside ≡ byte ∷ later → text ≡ escaped value → Splits value byte later
value_marked text [] inside later byte f g e = let never : 92 ∷ inside ≡ [] = sym f ∙ e in cc
value_marked text (b ∷ v) inside later byte f g e = by_test (b == 34 || b == 92) refl (sym f ∙ e)
  where
    by_test : (t : Bool) → (b == 34 || b == 92) ≡ t → 92 ∷ inside ≡ cond t (92 ∷ b ∷ escaped v) (b ∷ escaped v) → Splits (b ∷ v) byte later
    by_test true t h =
        let both : inside ≡ b ∷ escaped v = cc in
        let pair : byte ∷ later ≡ b ∷ escaped v = sym g ∙ both in
        let first : b ≡ byte = cc in
        let more : later ≡ escaped v = cc in
        (v, ap (λ x. x ∷ v) first, more)
    by_test false t h = let first : 92 ≡ b = cc in absurd (special_is b t first)

pub value_cut : (text value inside : List ℕ) → text ≡ 92 ∷ inside → length inside ≡ 0 → text ≡ escaped value → value ≡ []
value_cut text value [] f h e = absurd (cut value (sym f ∙ e))
  where
    cut : (w : List ℕ) → 92 ∷ [] ≡ escaped w → ⊥
    cut [] g = cc
    cut (b ∷ w) g = by_test (b == 34 || b == 92) refl g
      where
        by_test : (t : Bool) → (b == 34 || b == 92) ≡ t → 92 ∷ [] ≡ cond t (92 ∷ b ∷ escaped w) (b ∷ escaped w) → ⊥
        by_test true t k = cc
        by_test false t k = let first : 92 ≡ b = cc in special_is b t first
value_cut text value (x ∷ inside) f h e = absurd (omega arith)
