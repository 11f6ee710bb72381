-- Why two tags spell their identifier.
use Rattle.std.proofs.Common.{◌≡◌, ℕ, List, [], ◌∷◌, IsTrue, true, nat_lt, zero, suc, codes, refl, ap, inl, inr, arith}
use Rattle.std.specs.Str.{IsAscii}
use Rattle.std.specs.List.{list_all}
use Rattle.std.proofs.lemmas.Bool.Decides.{nat_tests}
use Rattle.std.proofs.lemmas.Str.{IsUtf8-from_ascii}
use Rattle.std.proofs.lemmas.Bool.{and_parts}
use Rattle.m3_model.specs.Tags.{IsSpelledBy, HasTags, IsBelow, is_tag_name}
use Rattle.model_laws.proofs.EachLemmas.{each_in}

-- bytes that a test finds below 128
IsAscii-from_test : (bytes : List ℕ) → list_all (λ b. nat_lt b 128) bytes ≡ true → IsAscii bytes
IsAscii-from_test [] e i = omega arith
IsAscii-from_test (b ∷ bs) e zero = grind (arith, nat_tests)
IsAscii-from_test (b ∷ bs) e (suc i) = IsAscii-from_test bs (and_parts (nat_lt b 128) _ e).1 i

-- two tags
abbrev pair : List (List ℕ × List ℕ)
pair = (codes "dc", codes "x") ∷ (codes "host", codes "h1") ∷ []

pub two_tags_lem : IsSpelledBy (codes "{dc=\"x\",host=\"h1\"}") ((codes "dc", codes "x") ∷ (codes "host", codes "h1") ∷ [])
two_tags_lem = record {
  spelled = refl;
  is_text = IsUtf8-from_ascii _ (IsAscii-from_test (codes "{dc=\"x\",host=\"h1\"}") refl);
  not_long = omega arith;
  some = omega arith;
  few = omega arith;
  named = each_in (λ tag. IsTrue (is_tag_name tag.0)) pair (refl, (refl, tt));
  ascend = (each_in (λ tag. IsBelow (codes "dc") tag.0) ((codes "host", codes "h1") ∷ []) (refl, tt), ((λ y h. absurd h), tt));
}

-- the first byte of a text
abbrev first_byte : List ℕ → ℕ
first_byte [] = 0
first_byte (b ∷ bs) = b

-- no tags spell a text that begins otherwise than with `{`
pub spelled_by_none : (tags : List (List ℕ × List ℕ)) → ¬ IsSpelledBy (codes "hello") tags
spelled_by_none tags s = let same : ◌≡◌ {A = ℕ} 104 123 = ap first_byte s.spelled in omega (arith, same)

pub hello_without_tags : HasTags (codes "hello") []
hello_without_tags = inr (refl, λ others s. spelled_by_none others s)

pub hello_has_none : (tags : List (List ℕ × List ℕ)) → HasTags (codes "hello") tags → tags ≡ []
hello_has_none tags h = elim h as (λ _. tags ≡ []) [ inl s ↦ absurd (spelled_by_none tags s) | inr none ↦ none.0 ]
