-- Items that are written one after the other.
use Rattle.std.proofs.Common.{◌≡◌, ℕ, ◌+◌, ◌<◌, List, ◌∷◌, ◌++◌, map, length, drop, get_or, sym, ap, subst, ◌∙◌, append_assoc, Some}
use Rattle.std.specs.Prelude.{option_map, option_and_then}
use Rattle.std.proofs.lemmas.List.{drop_more}
use Rattle.json.specs.Token.{Token}
use Rattle.json.specs.Tree.{items_tokens}
use Rattle.serde_json.specs.Data.{Data, item}
use Rattle.serde_json.specs.Read.{of_items}
use Rattle.serde_json.specs.View.{items_of}
use Rattle.serde_json.specs.Written.{items_outline}
use Rattle.reply_texts.specs.Tokens.{tokens_of, ReadsBack}

module _ {X : Type 0} (f : X → Data) where
  -- the tokens of the rest of a list, with its closing bracket
  abbrev pub rest_tokens : List X → List Token
  rest_tokens xs = items_tokens (items_outline (items_of (map f xs)))

  -- the rest reads as itself
  abbrev pub RestReads : List X → Type 0
  RestReads xs = of_items (items_outline (items_of (map f xs))) ≡ Some (items_of (map f xs))

  -- one more item is written
  pub turn : (xs : List X) (i : ℕ) (d : X) (old new all : List Token) → i < length xs → new ≡ old ++ tokens_of (f (get_or xs i d)) → old ++ rest_tokens (drop i xs) ≡ all
      → new ++ rest_tokens (drop (i + 1) xs) ≡ all
  turn xs i d old new all below wrote was =
      ap (λ ts. ts ++ rest_tokens (drop (i + 1) xs)) wrote ∙ append_assoc old (tokens_of (f (get_or xs i d))) (rest_tokens (drop (i + 1) xs))
      ∙ sym (ap (λ ys. old ++ rest_tokens ys) (drop_more xs i d below)) ∙ was

  -- one more item reads as itself
  pub reads_turn : (xs : List X) (i : ℕ) (d : X) → i < length xs → ReadsBack (f (get_or xs i d)) → (RestReads (drop i xs) → RestReads xs) → RestReads (drop (i + 1) xs) → RestReads xs
  reads_turn xs i d below one was rest =
      let first : RestReads (get_or xs i d ∷ drop (i + 1) xs) =
      ap (option_and_then (λ x. option_map (item x) (of_items (items_outline (items_of (map f (drop (i + 1) xs))))))) one ∙ ap (option_map (item (f (get_or xs i d)))) rest in
      was (subst RestReads (sym (drop_more xs i d below)) first)

-- ---- four or five pieces, one after the other

pub four_pieces : (t a b c d t1 t2 t3 : List Token) → t1 ≡ t ++ a → t2 ≡ t1 ++ b → t3 ≡ t2 ++ c → t3 ++ d ≡ t ++ (a ++ (b ++ (c ++ d)))
four_pieces t a b c d t1 t2 t3 first second third =
    ap (λ ts. ts ++ d) third ∙ append_assoc t2 c d ∙ ap (λ ts. ts ++ (c ++ d)) second ∙ append_assoc t1 b (c ++ d) ∙ ap (λ ts. ts ++ (b ++ (c ++ d))) first ∙ append_assoc t a (b ++ (c ++ d))

pub five_pieces : (t a b c d e t1 t2 t3 t4 : List Token) → t1 ≡ t ++ a → t2 ≡ t1 ++ b → t3 ≡ t2 ++ c → t4 ≡ t3 ++ d → t4 ++ e ≡ t ++ (a ++ (b ++ (c ++ (d ++ e))))
five_pieces t a b c d e t1 t2 t3 t4 first second third fourth =
    ap (λ ts. ts ++ e) fourth ∙ append_assoc t3 d e ∙ four_pieces t a b c (d ++ e) t1 t2 t3 first second third
