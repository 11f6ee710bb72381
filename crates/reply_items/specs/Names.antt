-- The names of nodes, which replies have as numbers.
use Rattle.std.specs.Prelude.{ℕ, List, [], Option, slice_get}
use Rattle.std.specs.Option.{option_map_or}
use Rattle.serde_json.specs.Data.{Data, string}
use Rattle.m3_model.specs.declared.placement.Instance.{Instance}
use Rattle.m3_model.specs.declared.placement.Placement.{Placement}

-- the instances of the placement; none where there is no placement
abbrev pub instances_of : Option Placement → List Instance
instances_of place = option_map_or (λ p. p.instances) place []

-- the name of the instance at this position, which is the node's number; empty where none stands there
abbrev pub node_name : List Instance → ℕ → List ℕ
node_name instances node = option_map_or (λ i. i.name) (slice_get instances node) []

-- the node's name as a text
abbrev pub node_data : List Instance → ℕ → Data
node_data instances node = string (node_name instances node)
