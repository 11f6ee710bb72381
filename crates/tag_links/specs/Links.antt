-- Links from tags to ordinals.
use Rattle.std.specs.Prelude.{ℕ, List, [], ◌∷◌, Option, Some, None, Bool, false, ◌||◌, ◌&&◌, String, nat_eq}
use Rattle.std.specs.BTreeSet.{BTreeSet, contains}
use Rattle.std.specs.HashMap.{HashMap, get_by_text}
use Rattle.std.specs.Ordering.{nat_cmp}
use Rattle.std.specs.Str.{bytes_eq}

-- a tag, and the ordinal of a series
pub record Link : Type 0 where
  pub name : List ℕ
  pub value : List ℕ
  pub ordinal : ℕ

-- the link of a tag to an ordinal
abbrev pub link_of : ℕ → List ℕ × List ℕ → Link
link_of o tag = record { name = tag.0; value = tag.1; ordinal = o }

-- whether both are the same link
abbrev pub is_same : Link → Link → Bool
is_same p q = bytes_eq p.name q.name && (bytes_eq p.value q.value && nat_eq p.ordinal q.ordinal)

-- whether it is the link of one of the tags to the ordinal
abbrev pub is_link_of : List (List ℕ × List ℕ) → ℕ → Link → Bool
is_link_of [] o q = false
is_link_of (tag ∷ tags) o q = is_same (link_of o tag) q || is_link_of tags o q

-- whether there is a set with the ordinal
abbrev pub is_in : Option (BTreeSet ℕ) → ℕ → Bool
is_in None o = false
is_in (Some ordinals) o = contains nat_cmp ordinals o

-- the ordinals of each value of one name
abbrev pub Values : Type 0 → Type 0 → Type 0
Values Y S = HashMap (String Y) (BTreeSet ℕ) S

-- whether the ordinal is one of the value's
abbrev pub is_under : {Y S : Type 0} → Values Y S → List ℕ → ℕ → Bool
is_under values value o = is_in (get_by_text values value) o

-- the value's ordinals, where there are any
abbrev pub value_at : {Y S : Type 0} → Option (Values Y S) → List ℕ → Option (BTreeSet ℕ)
value_at None value = None
value_at (Some values) value = get_by_text values value

-- the ordinals of a tag, by its name and its value
abbrev pub linked_at : {Y S : Type 0} → HashMap (String Y) (Values Y S) S → List ℕ → List ℕ → Option (BTreeSet ℕ)
linked_at links name value = value_at (get_by_text links name) value

-- whether the ordinal of the link is one of its tag's
abbrev pub is_linked_in : {Y S : Type 0} → HashMap (String Y) (Values Y S) S → Link → Bool
is_linked_in links q = is_in (linked_at links q.name q.value) q.ordinal
