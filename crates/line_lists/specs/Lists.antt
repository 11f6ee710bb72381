-- How the arrays of a request object are read.
use Rattle.std.specs.Prelude.{ℕ, suc, List, [], ◌∷◌, Result, Ok, Bool, true, not, ◌&&◌, nat_le}
use Rattle.std.specs.List.{list_any}
use Rattle.serde_json.specs.Data.{Data, Items, no_items, item}
use Rattle.serde_json.specs.Find.{as_array}
use Rattle.line_fields.specs.declared.fault.LineErr.{LineErr}
use Rattle.line_fields.specs.Fields.{◌>>=◌, needed, tested, field}

-- how many items there are
abbrev pub item_count : Items → ℕ
item_count no_items = 0
item_count (item d ds) = suc (item_count ds)

-- at least so many items, and no more than so many
abbrev pub has_count : ℕ → ℕ → Items → Bool
has_count least most ds = nat_le least (item_count ds) && nat_le (item_count ds) most

-- the field is an array of so many items
unfoldable pub items_at : List ℕ → ℕ → ℕ → Data → Result Items LineErr
items_at key least most d = field key d >>= λ array. needed (as_array array) >>= tested (has_count least most)

-- each item, by its row
abbrev pub entries_of : {A : Type 0} → (Data → Result A LineErr) → Items → Result (List A) LineErr
entries_of row no_items = Ok []
entries_of row (item d ds) = row d >>= λ entry. entries_of row ds >>= λ entries. Ok (entry ∷ entries)

-- the field is an array of so many items, each of its row
abbrev pub list_at : {A : Type 0} → (Data → Result A LineErr) → List ℕ → ℕ → ℕ → Data → Result (List A) LineErr
list_at row key least most d = items_at key least most d >>= entries_of row

-- no entry is alike to a later one
abbrev pub differ_by : {A : Type 0} → (A → A → Bool) → List A → Bool
differ_by is_alike [] = true
differ_by is_alike (entry ∷ entries) = not (list_any (is_alike entry) entries) && differ_by is_alike entries
