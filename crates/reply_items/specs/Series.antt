-- Series of points in replies.
use Rattle.std.specs.Prelude.{ℕ, ℤ, [], ◌∷◌, codes}
use Rattle.serde_json.specs.Data.{Data, number, string}
use Rattle.serde_json.specs.Find.{of_integer}
use Rattle.m3_model.specs.declared.point.Series.{Series}
use Rattle.reply_values.specs.Json.{object_of, array_of, list_of, natural}

-- [time, value]
abbrev pub pair_data : ℕ × ℤ → Data
pair_data p = array_of (natural p.0 ∷ number (of_integer p.1) ∷ [])

-- the identifier and its points in their order
abbrev pub series_data : Series → Data
series_data s = object_of ((codes "id", string s.id) ∷ (codes "points", list_of pair_data s.points) ∷ [])
