-- Replies to writes and to reads.
use Rattle.std.specs.Prelude.{ℕ, ℤ, List, [], ◌∷◌, Bool, true, codes}
use Rattle.serde_json.specs.Data.{Data, boolean, string}
use Rattle.m3_model.specs.declared.placement.Instance.{Instance}
use Rattle.m3_model.specs.declared.point.Series.{Series}
use Rattle.reply_values.specs.Json.{object_of, list_of}
use Rattle.reply_items.specs.Names.{node_data}
use Rattle.reply_items.specs.Series.{pair_data, series_data}

-- an identifier and its points, as `series_data` has them
abbrev pub series_of : List ℕ → List (ℕ × ℤ) → Data
series_of id points = object_of ((codes "id", string id) ∷ (codes "points", list_of pair_data points) ∷ [])

-- the field that says that a request was served
abbrev pub ok_field : List ℕ × Data
ok_field = (codes "ok", boolean true)

-- the names of the nodes that took a write
abbrev pub acks_fields : List Instance → List ℕ → List (List ℕ × Data)
acks_fields instances acks = (codes "acks", list_of (node_data instances) acks) ∷ ok_field ∷ []

-- the series that were read, and whether replicas were missing
abbrev pub found_fields : List Series → Bool → List (List ℕ × Data)
found_fields series short = ok_field ∷ (codes "series", list_of series_data series) ∷ (codes "short", boolean short) ∷ []
