-- Shapes of JSON values.
use Rattle.std.specs.Prelude.{ℕ, List, [], ◌∷◌, map, IsTrue}
use Rattle.std.specs.FinMap.{is_sorted}
use Rattle.std.specs.Ordering.{nat_cmp}
use Rattle.std.specs.Cmp.Lexicographic.{slice_cmp}
use Rattle.serde_json.specs.Data.{Data, Members, no_members, member, number, array, object, unsigned}
use Rattle.serde_json.specs.View.{items_of}

-- the fields, each a key with its value, in the order given
abbrev pub members_in : List (List ℕ × Data) → Members
members_in [] = no_members
members_in (field ∷ fields) = member field.0 field.1 (members_in fields)

-- the object of these fields
abbrev pub object_of : List (List ℕ × Data) → Data
object_of fields = object (members_in fields)

-- the list of these values
abbrev pub array_of : List Data → Data
array_of values = array (items_of values)

-- the list of what stands for each element
abbrev pub list_of : {X : Type 0} → (X → Data) → List X → Data
list_of data_of xs = array_of (map data_of xs)

-- a number without a sign
abbrev pub natural : ℕ → Data
natural n = number (unsigned n)

-- each key is below all later ones, by their bytes
abbrev pub KeysAscend : List (List ℕ × Data) → Type 0
KeysAscend fields = IsTrue (is_sorted (slice_cmp nat_cmp) fields)
