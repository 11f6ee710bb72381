-- The keys of an object against a list of texts.
use Rattle.std.proofs.Common.{◌≡◌, ℕ, List, [], ◌∷◌, map, Bool, true, false, ◌||◌, refl, sym, ap, ap₂, ◌∙◌, Bor, Global, Ordering, Less, Equal, Greater, is_eq}
use Rattle.std.specs.Prelude.{nat_eq, ◌&&◌}
use Rattle.std.specs.List.{list_all, list_any}
use Rattle.std.specs.Ordering.{nat_cmp, match_ordering}
use Rattle.std.specs.Cmp.Lexicographic.{pointwise, slice_cmp}
use Rattle.std.proofs.lemmas.Map.Text.{is_eq-slice_cmp}
use Rattle.std.proofs.lemmas.Slice.Eq.{bytes_eq-Decides}
use Rattle.json.specs.Value.{members_view}
use Rattle.json.specs.declared.value.Value.{Value}
use Rattle.serde_json.specs.Data.{Data, Members, no_members, member, put}
use Rattle.line_parse.specs.Contents.{content, members_data}
use Rattle.line_fields.specs.Fields.{is_one_of, keys_within}

-- a text is one of the texts that references point to
pub one_of_texts : (texts : List (Bor (List ℕ))) (text : List ℕ) → list_any (λ one. pointwise nat_eq one.now text) texts ≡ is_one_of (map (λ one. one.now) texts) text
one_of_texts [] text = refl
one_of_texts (one ∷ texts) text = ap (λ b. pointwise nat_eq one.now text || b) (one_of_texts texts text)

twice : (b c : Bool) → (b && c) ≡ (b && (b && c))
twice true c = refl
twice false c = refl

swapped : (a b c : Bool) → (a && (b && c)) ≡ (b && (a && c))
swapped true b c = refl
swapped false true c = refl
swapped false false c = refl

moved : (a b c : Bool) → (b && (a && c)) ≡ ((a && b) && c)
moved true b c = refl
moved false true c = refl
moved false false c = refl

-- the keys of the members with one more, or with a new value at a key
keys_within-put : (allowed : List (List ℕ)) (key : List ℕ) (d : Data) (ms : Members) → keys_within allowed (put key d ms) ≡ (is_one_of allowed key && keys_within allowed ms)
keys_within-put allowed key d no_members = refl
keys_within-put allowed key d (member l e ms) = by (slice_cmp nat_cmp key l) refl (keys_within-put allowed key d ms)
  where
    by : (o : Ordering) → slice_cmp nat_cmp key l ≡ o → keys_within allowed (put key d ms) ≡ (is_one_of allowed key && keys_within allowed ms)
        → keys_within allowed (match_ordering o (member key d (member l e ms)) (member l d ms) (member l e (put key d ms))) ≡ (is_one_of allowed key && (is_one_of allowed l && keys_within allowed ms))
    by Less is rest = refl
    by Equal is rest =
        let same : key ≡ l = (bytes_eq-Decides key l).0 (sym (is_eq-slice_cmp key l) ∙ ap is_eq is) in
        twice (is_one_of allowed l) (keys_within allowed ms) ∙ ap (λ one. is_one_of allowed one && (is_one_of allowed l && keys_within allowed ms)) (sym same)
    by Greater is rest = ap (λ b. is_one_of allowed l && b) rest ∙ swapped (is_one_of allowed l) (is_one_of allowed key) (keys_within allowed ms)

-- the keys of the members of a line, which go in one after the other
pub keys_within-members_data : (allowed : List (List ℕ)) (members : List (Bor (List ℕ) × Value Global)) (found : Members)
    → keys_within allowed (members_data (members_view members) found) ≡ (list_all (λ one. is_one_of allowed one.0.now) members && keys_within allowed found)
keys_within-members_data allowed [] found = refl
keys_within-members_data allowed (one ∷ members) found =
    keys_within-members_data allowed members (put one.0.now (content one.1) found) ∙ ap (λ b. list_all (λ other. is_one_of allowed other.0.now) members && b) (keys_within-put allowed one.0.now (content one.1) found)
    ∙ moved (is_one_of allowed one.0.now) (list_all (λ other. is_one_of allowed other.0.now) members) (keys_within allowed found)

-- the same test, over texts that references point to
pub all_of_texts : (texts : List (Bor (List ℕ))) (members : List (Bor (List ℕ) × Value Global))
    → list_all (λ one. list_any (λ text. pointwise nat_eq text.now one.0.now) texts) members ≡ list_all (λ one. is_one_of (map (λ text. text.now) texts) one.0.now) members
all_of_texts texts [] = refl
all_of_texts texts (one ∷ members) = ap₂ (λ b c. b && c) (one_of_texts texts one.0.now) (all_of_texts texts members)
