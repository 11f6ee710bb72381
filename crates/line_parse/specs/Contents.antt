-- What a parsed text stands for: the data that serde_json reads from it.
use Rattle.std.specs.Prelude.{List, Bool, true, ◌&&◌, map, is_some}
use Rattle.std.specs.Option.{option_map_or}
use Rattle.std.specs.declared.alloc.Global.{Global}
use Rattle.json.specs.Json as json
use Rattle.json.specs.Value.{value_view}
use Rattle.json.specs.declared.value.Value.{Value}
use Rattle.serde_json.specs.Data.{Data, null, boolean, number, string, array, object, Items, no_items, item, Members, no_members, put}
use Rattle.serde_json.specs.Read.{number_of}
use Rattle.serde_json.specs.View.{items_of}

-- the data: of a key that comes twice the last value stays, and a number that is too large counts as null
abbrev mutual
  pub data_of : json.Json → Data
  data_of json.null = null
  data_of (json.boolean b) = boolean b
  data_of (json.number s) = option_map_or number (number_of s) null
  data_of (json.string s) = string s
  data_of (json.array js) = array (items_data js)
  data_of (json.object ms) = object (members_data ms no_members)

  pub items_data : json.Items → Items
  items_data json.no_items = no_items
  items_data (json.item j js) = item (data_of j) (items_data js)

  pub members_data : json.Members → Members → Members
  members_data json.no_members found = found
  members_data (json.member k j ms) found = members_data ms (put k (data_of j) found)

-- no number is too large
abbrev mutual
  pub has_values : json.Json → Bool
  has_values json.null = true
  has_values (json.boolean b) = true
  has_values (json.number s) = is_some (number_of s)
  has_values (json.string s) = true
  has_values (json.array js) = items_have_values js
  has_values (json.object ms) = members_have_values ms

  pub items_have_values : json.Items → Bool
  items_have_values json.no_items = true
  items_have_values (json.item j js) = has_values j && items_have_values js

  pub members_have_values : json.Members → Bool
  members_have_values json.no_members = true
  members_have_values (json.member k j ms) = has_values j && members_have_values ms

-- the data that a parsed value stands for
abbrev pub content : Value Global → Data
content v = data_of (value_view v)

-- the same of each of several
abbrev pub contents : List (Value Global) → Items
contents vs = items_of (map content vs)
