-- Placements in replies.
use Rattle.std.specs.Prelude.{ℕ, List, [], ◌∷◌, map, filter, Option, codes}
use Rattle.std.specs.Option.{option_map_or}
use Rattle.serde_json.specs.Data.{Data, boolean, string}
use Rattle.m3_model.specs.declared.placement.Assignment.{Assignment}
use Rattle.m3_model.specs.declared.placement.Instance.{Instance}
use Rattle.m3_model.specs.declared.placement.Placement.{Placement}
use Rattle.reply_values.specs.Json.{object_of, array_of, list_of, natural}
use Rattle.reply_values.specs.Order.{by_name}
use Rattle.reply_values.specs.Words.{state_text}
use Rattle.reply_items.specs.Names.{node_name, node_data}

-- [name, group, drained], under the name
abbrev pub instance_item : Instance → List ℕ × Data
instance_item i = (i.name, array_of (string i.name ∷ string i.group ∷ boolean i.drained ∷ []))

-- the listed instances in the order of their names
abbrev pub instances_data : List Instance → Data
instances_data instances = array_of (by_name (map instance_item (filter (λ i. i.listed) instances)))

-- the name of the source, where there is one
abbrev pub source_items : List Instance → Option ℕ → List Data
source_items instances source = option_map_or (λ node. node_data instances node ∷ []) source []

-- [name, state, tenure] or [name, state, tenure, source], under the node's name
abbrev pub assignment_item : List Instance → Assignment → List ℕ × Data
assignment_item instances a =
    (node_name instances a.node, array_of (node_data instances a.node ∷ string (state_text a.state) ∷ natural a.tenure ∷ source_items instances a.source))

-- the assignments of one shard in the order of their nodes' names
abbrev pub shard_data : List Instance → List Assignment → Data
shard_data instances assignments = array_of (by_name (map (assignment_item instances) assignments))

-- instances, replicas of each shard, and shards
abbrev pub placement_fields : Placement → List (List ℕ × Data)
placement_fields p =
    (codes "instances", instances_data p.instances) ∷ (codes "rf", natural p.rf) ∷ (codes "shards", list_of (shard_data p.instances) p.shards) ∷ []

-- the placement as an object
abbrev pub placement_data : Placement → Data
placement_data p = object_of (placement_fields p)
