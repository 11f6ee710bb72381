-- The byte of a source.
use Rattle.std.proofs.Common.{◌≡◌, ⊎_elim, ℕ, ◌+◌, ◌-◌, ◌<◌, ◌≤◌, List, [], ◌∷◌, length, drop, get_or, refl, sym, ap, subst, ◌∙◌, arith, length-drop, true}
use Rattle.std.specs.Prelude.{nat_lt, ◌==◌}
use Rattle.std.proofs.lemmas.Bool.{ltb-true, eqb-true, or_cases}
use Rattle.std.proofs.lemmas.List.{get_or-drop}
use Rattle.std.proofs.Math.ListN.{drop_of_length-le}
use Rattle.wire_bytes.specs.Fields.{Stands, GoesOn, Misfits}
use Rattle.meta_bytes.specs.Forms.{Byte, HasForm, StandsAs}
use Rattle.meta_bytes.specs.States.{is_source}
use Rattle.meta_bytes.proofs.NameLemmas.{byte_stands, same_head}

none_goes : GoesOn (HasForm (Byte is_source)) []
none_goes = record { next = 255; rest = []; whole = record { n = 255; small = omega arith; passed = refl; spelled = refl } }

pub source_short : (bytes : List ℕ) (at : ℕ) → length bytes ≤ at → GoesOn (HasForm (Byte is_source)) (drop at bytes)
source_short bytes at le = subst (GoesOn (HasForm (Byte is_source))) (sym (drop_of_length-le bytes le)) none_goes

pub source_none : (bytes : List ℕ) (at : ℕ) → at < length bytes → get_or bytes at 0 ≡ 255 → StandsAs (Byte is_source) (255 ∷ []) bytes at (at + 1)
source_none bytes at lt e = record {
  has = record { n = 255; small = omega arith; passed = refl; spelled = refl };
  stands = subst (λ (b : ℕ). Stands (b ∷ []) bytes at (at + 1)) e (byte_stands bytes at lt);
}

misfits : (l : List ℕ) → 0 < length l → 16 ≤ get_or l 0 0 → (get_or l 0 0 ≡ 255 → ⊥) → Misfits (HasForm (Byte is_source)) l 0
misfits [] lt low other = absurd (omega arith)
misfits (b ∷ l) lt low other = record {
  within = lt;
  fits = none_goes;
  none = λ g.
      let t = g.whole in
      let is : b ≡ t.n = same_head b t.n _ t.small t.spelled in
      ⊎_elim (λ (p : nat_lt t.n 16 ≡ true). let h = ltb-true t.n 16 p in omega (arith, h, is, low)) (λ (p : (t.n == 255) ≡ true). other (is ∙ eqb-true t.n 255 p)) (or_cases (nat_lt t.n 16) (t.n == 255) t.passed);
}

pub source_bad : (bytes : List ℕ) (at : ℕ) → at < length bytes → 16 ≤ get_or bytes at 0 → (get_or bytes at 0 ≡ 255 → ⊥) → (at ≤ at) × Misfits (HasForm (Byte is_source)) (drop at bytes) (at - at)
source_bad bytes at lt low other =
    let here : get_or (drop at bytes) 0 0 ≡ get_or bytes at 0 = get_or-drop at bytes 0 0 ∙ (let e : at + 0 ≡ at = omega arith in ap (λ (k : ℕ). get_or bytes k 0) e) in
    let none : 0 ≡ at - at = omega arith in (
      omega arith,
      subst (λ (k : ℕ). Misfits (HasForm (Byte is_source)) (drop at bytes) k) none (misfits (drop at bytes) (omega (arith, length-drop at bytes)) (omega (arith, here, low)) (λ e. other (sym here ∙ e))),
    )
