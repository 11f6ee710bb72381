-- Digests in replies.
use Rattle.std.specs.Prelude.{ℕ, List}
use Rattle.hex.specs.Hex.{encode_lower}
use Rattle.serde_json.specs.Data.{Data, string}

-- bytes as two lower-case hexadecimal digits each
abbrev pub hex_data : List ℕ → Data
hex_data bytes = string (encode_lower bytes)
