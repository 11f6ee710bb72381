-- Lists in the order of names.
use Rattle.std.specs.Prelude.{ℕ, List, fold, map, string_bytes}
use Rattle.std.specs.Ordering.{nat_cmp}
use Rattle.std.specs.Cmp.Lexicographic.{slice_cmp}
use Rattle.std.specs.FinMap as finite
use Rattle.serde_json.specs.Data.{Data}
use Rattle.serde_json.specs.View.{view}
use Rattle.reply_values.specs.declared.order.Roll.{Roll}

-- a finite map from names to values, ordered by the names' bytes
abbrev pub NamedValues : Type 0
NamedValues = finite.FinMap (slice_cmp nat_cmp) Data

-- the map with the value at the name
abbrev pub with_item : NamedValues → List ℕ × Data → NamedValues
with_item values item = finite.insert values item.0 item.1

-- the values in the order of their names; of two with one name the later one stays
abbrev pub by_name : List (List ℕ × Data) → List Data
by_name items = finite.values (fold with_item finite.empty items)

-- the names with what stands for their values, in order
abbrev pub roll_entries : Roll → List (List ℕ × Data)
roll_entries roll = map (λ e. (string_bytes e.0, view e.1)) roll.values.entries
