-- What calls did on single replicas.
use Rattle.std.specs.Prelude.{ℕ, List, [], ◌∷◌, Option, codes}
use Rattle.std.specs.Option.{option_map_or}
use Rattle.serde_json.specs.Data.{Data, string}
use Rattle.m3_model.specs.declared.placement.Instance.{Instance}
use Rattle.m3_model.specs.declared.reason.Reason.{Reason}
use Rattle.reply_values.specs.Json.{array_of, list_of, natural}
use Rattle.reply_items.specs.Names.{node_data}
use Rattle.reply_items.specs.Reasons.{reason_items}

-- [node, shard, "took"], or the reason in the last position
abbrev pub outcome_data : List Instance → ℕ × ℕ × Option Reason → Data
outcome_data instances o =
    array_of (node_data instances o.0 ∷ natural o.1 ∷ option_map_or reason_items o.2 (string (codes "took") ∷ []))

-- [shard, [peers that were merged]]
abbrev pub merged_data : List Instance → ℕ × List ℕ → Data
merged_data instances m = array_of (natural m.0 ∷ list_of (node_data instances) m.1 ∷ [])

-- [node, shard, count]
abbrev pub swept_data : List Instance → ℕ × ℕ × ℕ → Data
swept_data instances d = array_of (node_data instances d.0 ∷ natural d.1 ∷ natural d.2 ∷ [])

-- [node, shard, reason]
abbrev pub failed_data : List Instance → ℕ × ℕ × Reason → Data
failed_data instances f = array_of (node_data instances f.0 ∷ natural f.1 ∷ reason_items f.2)
