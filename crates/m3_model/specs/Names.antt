-- The forms of names and identifiers in requests.
use Rattle.std.specs.Prelude.{ℕ, List, length, Bool, ◌&&◌, ◌||◌, ◌==◌, nat_le}
use Rattle.std.specs.List.{list_all}
use Rattle.m3_model.specs.declared.limits.TheConstants.{MOST_NAME_BYTES, MOST_ID_BYTES}

-- an ASCII letter
abbrev pub is_letter : ℕ → Bool
is_letter b = (nat_le 97 b && nat_le b 122) || (nat_le 65 b && nat_le b 90)

-- an ASCII digit
abbrev pub is_digit : ℕ → Bool
is_digit b = nat_le 48 b && nat_le b 57

-- a letter, a digit, `_` or `-`
abbrev pub is_name_byte : ℕ → Bool
is_name_byte b = (is_letter b || is_digit b) || (b == 95 || b == 45)

-- the name of a node, a group or a namespace: 1 to 32 such bytes
abbrev pub is_name : List ℕ → Bool
is_name text = (nat_le 1 (length text) && nat_le (length text) MOST_NAME_BYTES) && list_all is_name_byte text

-- an identifier has 1 to 512 bytes
abbrev pub has_identifier_length : List ℕ → Bool
has_identifier_length text = nat_le 1 (length text) && nat_le (length text) MOST_ID_BYTES
