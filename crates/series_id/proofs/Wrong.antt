-- Which bytes keep a text from being a tag's name.
use Rattle.std.proofs.Common.{◌≡◌, ◌≢◌, ℕ, suc, ◌+◌, ◌<◌, ◌≤◌, List, [], ◌∷◌, length, cond, Bool, true, false, ◌&&◌, refl, ap, ◌∙◌, arith}
use Rattle.std.specs.List.{prefix_len, list_all}
use Rattle.m3_model.specs.Tags.{is_tag_name}
use Rattle.series_id.specs.Names.{is_first_byte, is_later_byte}
use Rattle.series_id.specs.Given.{wrong_at}

all_later : (bs : List ℕ) → prefix_len is_later_byte bs ≡ length bs → list_all is_later_byte bs ≡ true
all_later [] e = refl
all_later (b ∷ bs) e = by_test (is_later_byte b) refl e (all_later bs)
  where
    by_test : (t : Bool) → is_later_byte b ≡ t → cond t (1 + prefix_len is_later_byte bs) 0 ≡ suc (length bs) → (prefix_len is_later_byte bs ≡ length bs → list_all is_later_byte bs ≡ true) → (is_later_byte b && list_all is_later_byte bs) ≡ true
    by_test true t f again = ap (λ x. x && list_all is_later_byte bs) t ∙ again (omega (arith, f))
    by_test false t f again = absurd (omega (arith, f))

not_all_later : (bs : List ℕ) → prefix_len is_later_byte bs < length bs → list_all is_later_byte bs ≡ false
not_all_later [] h = absurd (omega arith)
not_all_later (b ∷ bs) h = by_test (is_later_byte b) refl h (not_all_later bs)
  where
    by_test : (t : Bool) → is_later_byte b ≡ t → cond t (1 + prefix_len is_later_byte bs) 0 < suc (length bs) → (prefix_len is_later_byte bs < length bs → list_all is_later_byte bs ≡ false) → (is_later_byte b && list_all is_later_byte bs) ≡ false
    by_test true t f again = ap (λ x. x && list_all is_later_byte bs) t ∙ again (omega (arith, f))
    by_test false t f again = ap (λ x. x && list_all is_later_byte bs) t

pub right_name : (name : List ℕ) → 0 < length name → wrong_at name ≡ length name → is_tag_name name ≡ true
right_name [] h e = absurd (omega arith)
right_name (b ∷ bs) h e = by_test (is_first_byte b) refl e
  where
    by_test : (t : Bool) → is_first_byte b ≡ t → cond t (1 + prefix_len is_later_byte bs) 0 ≡ suc (length bs) → (is_first_byte b && list_all is_later_byte bs) ≡ true
    by_test true t f = ap (λ x. x && list_all is_later_byte bs) t ∙ all_later bs (omega (arith, f))
    by_test false t f = absurd (omega (arith, f))

pub wrong_name : (name : List ℕ) → wrong_at name < length name → is_tag_name name ≡ false
wrong_name [] h = absurd (omega arith)
wrong_name (b ∷ bs) h = by_test (is_first_byte b) refl h
  where
    by_test : (t : Bool) → is_first_byte b ≡ t → cond t (1 + prefix_len is_later_byte bs) 0 < suc (length bs) → (is_first_byte b && list_all is_later_byte bs) ≡ false
    by_test true t f = ap (λ x. x && list_all is_later_byte bs) t ∙ not_all_later bs (omega (arith, f))
    by_test false t f = ap (λ x. x && list_all is_later_byte bs) t

pub no_name : (name : List ℕ) → length name ≡ 0 → is_tag_name name ≡ false
no_name [] h = refl
no_name (b ∷ bs) h = absurd (omega arith)

-- the position of the wrong byte of something that is no name
pub wrong_some : (name : List ℕ) (at : ℕ) → at ≡ wrong_at name → at ≤ length name → (0 < length name → at ≢ length name) → is_tag_name name ≡ false
wrong_some [] at e within apart = refl
wrong_some (b ∷ bs) at e within apart =
    let differ : at ≢ length (b ∷ bs) = apart (omega arith) in
    wrong_name (b ∷ bs) (omega (arith, e, differ))
