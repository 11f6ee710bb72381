-- How the fields of a request object are read.
use Rattle.std.specs.Prelude.{◌≡◌, ℕ, ℤ, List, Option, Some, None, Result, Ok, Err, Bool, true, false, ◌&&◌, nat_lt, nat_le, nat_eq, if◌then◌else◌, option_and_then, ⊤}
use Rattle.std.specs.List.{list_any}
use Rattle.std.specs.Option.{option_map_or}
use Rattle.std.specs.Cmp.Lexicographic.{pointwise}
use Rattle.serde_json.specs.Data.{Data, Members, no_members, member}
use Rattle.serde_json.specs.Find.{get, as_str, as_number, as_u64, as_i64, as_object}
use Rattle.m3_model.specs.Names.{is_name}
use Rattle.line_fields.specs.declared.fault.LineErr.{LineErr}
use Rattle.line_fields.specs.declared.fault.LineErr.TheVariants as errors

infixl 10 ◌>>=◌
-- the next step, unless the first one failed
abbrev pub ◌>>=◌ : {A B : Type 0} → Result A LineErr → (A → Result B LineErr) → Result B LineErr
(Ok x) >>= f = f x
(Err e) >>= f = Err e

-- reading fails with this error; want of memory says nothing of what is read
abbrev pub Fails : {A : Type 0} → LineErr → Result A LineErr → Type 0
Fails errors.Memory reading = ⊤
Fails errors.Form reading = reading ≡ Err errors.Form
Fails errors.Later reading = reading ≡ Err errors.Later

-- what a call answered is what reading gives, unless memory ran out
abbrev pub Gives : {A B : Type 0} → (A → B) → Result A LineErr → Result B LineErr → Type 0
Gives view (Ok x) reading = reading ≡ Ok (view x)
Gives view (Err e) reading = Fails e reading

-- what has to be there
abbrev pub needed : {A : Type 0} → Option A → Result A LineErr
needed None = Err errors.Form
needed (Some x) = Ok x

-- the value, where it passes the test
abbrev pub tested : {A : Type 0} → (A → Bool) → A → Result A LineErr
tested test x = if test x then Ok x else Err errors.Form

-- the text is one of these
abbrev pub is_one_of : List (List ℕ) → List ℕ → Bool
is_one_of texts text = list_any (λ one. pointwise nat_eq one text) texts

-- every key is one of these
abbrev pub keys_within : List (List ℕ) → Members → Bool
keys_within allowed no_members = true
keys_within allowed (member key d members) = is_one_of allowed key && keys_within allowed members

-- an object with no other fields than these
unfoldable pub has_only : List (List ℕ) → Data → Bool
has_only allowed d = option_map_or (keys_within allowed) (as_object d) false

-- a text
abbrev pub text_of : Data → Result (List ℕ) LineErr
text_of d = needed (as_str d)

-- a name
unfoldable pub name_in : Data → Result (List ℕ) LineErr
name_in d = text_of d >>= tested is_name

-- a whole number that isn't below the first bound and is below the second
unfoldable pub number_of : ℕ → ℕ → Data → Result ℕ LineErr
number_of from limit d = needed (option_and_then as_u64 (as_number d)) >>= tested (λ n. nat_le from n && nat_lt n limit)

-- the field of this key
abbrev pub field : List ℕ → Data → Result Data LineErr
field key d = needed (get key d)

-- the field is a text
unfoldable pub text_at : List ℕ → Data → Result (List ℕ) LineErr
text_at key d = field key d >>= text_of

-- the field is a name
unfoldable pub name_at : List ℕ → Data → Result (List ℕ) LineErr
name_at key d = field key d >>= name_in

-- the field is such a number
unfoldable pub number_at : List ℕ → ℕ → ℕ → Data → Result ℕ LineErr
number_at key from limit d = field key d >>= number_of from limit

-- the field is a whole number from -2^63 to 2^63 - 1
unfoldable pub value_at : List ℕ → Data → Result ℤ LineErr
value_at key d = field key d >>= λ v. needed (option_and_then as_i64 (as_number v))

-- an optional field: absent, or there and in its row
abbrev pub optional_at : {A : Type 0} → A → List ℕ → (Data → Result A LineErr) → Data → Result A LineErr
optional_at absent key row d = option_map_or row (get key d) (Ok absent)
