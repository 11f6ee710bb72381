-- How the nodes of a request object are read.
use Rattle.std.specs.Prelude.{ℕ, List, Result, Ok, Err, Bool, nat_eq}
use Rattle.std.specs.Cmp.Lexicographic.{pointwise}
use Rattle.serde_json.specs.Data.{Data, Items, no_items, item}
use Rattle.serde_json.specs.Find.{as_array}
use Rattle.m3_model.specs.declared.limits.TheConstants.{MOST_NODES}
use Rattle.line_fields.specs.declared.fault.LineErr.{LineErr}
use Rattle.line_fields.specs.declared.fault.LineErr.TheVariants as errors
use Rattle.line_fields.specs.Fields.{◌>>=◌, needed, tested, name_in}
use Rattle.line_lists.specs.Lists.{list_at, differ_by}

-- a node of this name and this group
abbrev pub node_of_two : Data → Data → Result (List ℕ × List ℕ) LineErr
node_of_two name group = name_in name >>= λ n. name_in group >>= λ g. Ok (n, g)

-- a node: two items, its name and its group
abbrev pub node_of_items : Items → Result (List ℕ × List ℕ) LineErr
node_of_items (item name (item group no_items)) = node_of_two name group
node_of_items _ = Err errors.Form

-- a node is such an array
unfoldable pub node_of : Data → Result (List ℕ × List ℕ) LineErr
node_of d = needed (as_array d) >>= node_of_items

-- no two nodes have the same name
abbrev pub names_differ : List (List ℕ × List ℕ) → Bool
names_differ = differ_by (λ node other. pointwise nat_eq other.0 node.0)

-- the field is an array of some nodes, not too many, with names of their own
unfoldable pub nodes_at : List ℕ → Data → Result (List (List ℕ × List ℕ)) LineErr
nodes_at key d = list_at node_of key 1 MOST_NODES d >>= tested names_differ
