-- The bytes of a name at a text's head.
use Rattle.std.proofs.Common.{◌≡◌, ℕ, suc, ◌+◌, ◌≤◌, List, [], ◌∷◌, length, take, drop, get_or, cond, Bool, true, false, ◌&&◌, ◌||◌, not, IsTrue, refl, sym, ap, ◌∙◌, subst, arith}
use Rattle.std.specs.Prelude.{◌==◌}
use Rattle.std.specs.List.{prefix_len, list_all}
use Rattle.std.proofs.lemmas.List.{take-append-drop}
use Rattle.m3_model.specs.Names.{is_letter, is_digit}
use Rattle.series_id.specs.Names.{is_first_byte, is_later_byte, ends_name, BeginsWithName}

-- the longest run of such bytes, and what ends it
record IsRun (text : List ℕ) (n : ℕ) : Type 0 where
  all : list_all is_later_byte (take n text) ≡ true
  ends : IsTrue (ends_name (drop n text))
  within : n ≤ length text

run : (text : List ℕ) → IsRun text (prefix_len is_later_byte text)
run [] = record { all = refl; ends = refl; within = omega arith }
run (b ∷ bs) = by_test (is_later_byte b) refl (run bs)
  where
    by_test : (t : Bool) → is_later_byte b ≡ t → IsRun bs (prefix_len is_later_byte bs) → IsRun (b ∷ bs) (cond t (1 + prefix_len is_later_byte bs) 0)
    by_test true e rest =
        let n : ℕ = prefix_len is_later_byte bs in
        let more : suc n ≡ 1 + n = omega arith in
        subst (IsRun (b ∷ bs)) more (record {
          all = ap (λ t. t && list_all is_later_byte (take n bs)) e ∙ rest.all;
          ends = rest.ends;
          within = omega (arith, rest.within);
        })
    by_test false e rest = record { all = refl; ends = ap not e; within = omega arith }

pub later_of_first : (letter digit line : Bool) → (letter || line) ≡ true → ((letter || digit) || line) ≡ true
later_of_first true digit line e = refl
later_of_first false true line e = refl
later_of_first false false line e = e

pub name_within : (text : List ℕ) (n : ℕ) → n ≡ prefix_len is_later_byte text → n ≤ length text
name_within text n e = omega (arith, (run text).within)

pub begins_with_name : (text : List ℕ) → 1 ≤ length text → is_first_byte (get_or text 0 0) ≡ true → (n : ℕ) → n ≡ prefix_len is_later_byte text → BeginsWithName text (take n text) (drop n text)
begins_with_name [] h first n e = absurd (omega arith)
begins_with_name (b ∷ bs) h first n e =
    let m : ℕ = prefix_len is_later_byte bs in
    let later : is_later_byte b ≡ true = later_of_first (is_letter b) (is_digit b) (b == 95) first in
    let one : n ≡ 1 + m = e ∙ ap (λ t. cond t (1 + m) 0) later in
    let more : suc m ≡ n = omega arith in
    subst (λ k. BeginsWithName (b ∷ bs) (take k (b ∷ bs)) (drop k (b ∷ bs))) more (record {
      split = ap (λ xs. b ∷ xs) (sym (take-append-drop m bs));
      named = ap (λ t. t && list_all is_later_byte (take m bs)) first ∙ (run bs).all;
      ends = (run bs).ends;
    })
