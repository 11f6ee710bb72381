-- The entries of an array, read one after the other.
use Rattle.std.proofs.Common.{◌≡◌, ◌≢◌, ℕ, suc, ◌+◌, ◌<◌, Global, List, [], ◌∷◌, ◌++◌, drop, length, get_or, refl, sym, ap, ◌∙◌, append_assoc, drop-cons, add-one}
use Rattle.std.specs.Prelude.{Result, Ok, Err}
use Rattle.serde_json.specs.Data.{Data}
use Rattle.line_parse.specs.Contents.{content, contents}
use Rattle.json.specs.declared.value.Value.{Value}
use Rattle.line_fields.specs.declared.fault.LineErr.{LineErr}
use Rattle.line_fields.specs.declared.fault.LineErr.TheVariants as errors
use Rattle.line_fields.specs.Fields.{◌>>=◌, Fails}
use Rattle.line_lists.specs.Lists.{item_count, entries_of}
use Rattle.line_lists.specs.Nodes.{node_of_items}
use Rattle.line_lists.specs.Matchers.{matcher_of_items}
use Rattle.line_lists.specs.Fates.{fate_of_items}

pub count_of_values : (values : List (Value Global)) → item_count (contents values) ≡ length values
count_of_values [] = refl
count_of_values (value ∷ values) = ap suc (count_of_values values)

-- these entries, and then those that are read
abbrev pub with_front : {A : Type 0} → List A → Result (List A) LineErr → Result (List A) LineErr
with_front front rest = rest >>= λ entries. Ok (front ++ entries)

-- what stands from the i-th position on begins with what stands there
pub drop_at : {A : Type 0} (xs : List A) (i : ℕ) (x : A) → i < length xs → x ≡ get_or xs i x → drop i xs ≡ x ∷ drop (suc i) xs
drop_at xs i x h e = drop-cons xs i x h ∙ ap (λ one. one ∷ drop (suc i) xs) (sym e)

with_front-push : {A : Type 0} (front : List A) (entry : A) (rest : Result (List A) LineErr) → with_front (front ++ entry ∷ []) rest ≡ with_front front (rest >>= λ entries. Ok (entry ∷ entries))
with_front-push front entry (Ok entries) = ap Ok (append_assoc front (entry ∷ []) entries)
with_front-push front entry (Err e) = refl

-- the entries from the i-th value on, by the entry that this value is
abbrev pub after : {A : Type 0} → (Data → Result A LineErr) → Result A LineErr → List (Value Global) → Result (List A) LineErr
after row first values = first >>= λ entry. entries_of row (contents values) >>= λ entries. Ok (entry ∷ entries)

entries_of-drop : {A : Type 0} (row : Data → Result A LineErr) (values : List (Value Global)) (i : ℕ) (value : Value Global) (front : List A) → i < length values → value ≡ get_or values i value
    → with_front front (entries_of row (contents (drop i values))) ≡ with_front front (after row (row (content value)) (drop (suc i) values))
entries_of-drop row values i value front h at_i = ap (λ vs. with_front front (entries_of row (contents vs))) (drop_at values i value h at_i)

-- one more entry is read
pub one_more_entry : {A : Type 0} (row : Data → Result A LineErr) (values : List (Value Global)) (i : ℕ) (value : Value Global) (front new : List A) (entry : A) → i < length values → value ≡ get_or values i value → row (content value) ≡ Ok entry → new ≡ front ++ entry ∷ []
    → with_front front (entries_of row (contents (drop i values))) ≡ entries_of row (contents values) → with_front new (entries_of row (contents (drop (i + 1) values))) ≡ entries_of row (contents values)
one_more_entry row values i value front new entry h at_i read pushed was =
    ap (λ entries. with_front entries (entries_of row (contents (drop (i + 1) values)))) pushed
    ∙ ap (λ n. with_front (front ++ entry ∷ []) (entries_of row (contents (drop n values)))) (add-one i)
    ∙ with_front-push front entry (entries_of row (contents (drop (suc i) values)))
    ∙ ap (λ first. with_front front (after row first (drop (suc i) values))) (sym read)
    ∙ sym (entries_of-drop row values i value front h at_i) ∙ was

read_fails : {A : Type 0} (row : Data → Result A LineErr) (front : List A) (first : Result A LineErr) (values : List (Value Global)) (e : LineErr) (whole : Result (List A) LineErr) → with_front front (after row first values) ≡ whole → Fails e first → Fails e whole
read_fails row front first values errors.Memory whole same read = tt
read_fails row front first values errors.Form whole same read = sym same ∙ ap (λ r. with_front front (after row r values)) read
read_fails row front first values errors.Later whole same read = sym same ∙ ap (λ r. with_front front (after row r values)) read

-- where one value is no entry, the list is none of entries
pub no_entry : {A : Type 0} (row : Data → Result A LineErr) (values : List (Value Global)) (i : ℕ) (value : Value Global) (front : List A) (e : LineErr) → i < length values → value ≡ get_or values i value → Fails e (row (content value))
    → with_front front (entries_of row (contents (drop i values))) ≡ entries_of row (contents values) → Fails e (entries_of row (contents values))
no_entry row values i value front e h at_i read was =
    read_fails row front (row (content value)) (drop (suc i) values) e (entries_of row (contents values)) (sym (entries_of-drop row values i value front h at_i) ∙ was) read

-- a list of another length than two is no node
pub not_two_items : (values : List (Value Global)) → length values ≢ 2 → node_of_items (contents values) ≡ Err errors.Form
not_two_items [] other = refl
not_two_items (a ∷ []) other = refl
not_two_items (a ∷ b ∷ []) other = absurd (other refl)
not_two_items (a ∷ b ∷ c ∷ values) other = refl

-- a list of another length than three is no matcher
pub not_three_items : (values : List (Value Global)) → length values ≢ 3 → matcher_of_items (contents values) ≡ Err errors.Form
not_three_items [] other = refl
not_three_items (a ∷ []) other = refl
not_three_items (a ∷ b ∷ []) other = refl
not_three_items (a ∷ b ∷ c ∷ []) other = absurd (other refl)
not_three_items (a ∷ b ∷ c ∷ d ∷ values) other = refl

-- a list of another length than four is no fate
pub not_four_items : (values : List (Value Global)) → length values ≢ 4 → fate_of_items (contents values) ≡ Err errors.Form
not_four_items [] other = refl
not_four_items (a ∷ []) other = refl
not_four_items (a ∷ b ∷ []) other = refl
not_four_items (a ∷ b ∷ c ∷ []) other = refl
not_four_items (a ∷ b ∷ c ∷ d ∷ []) other = absurd (other refl)
not_four_items (a ∷ b ∷ c ∷ d ∷ e ∷ values) other = refl
