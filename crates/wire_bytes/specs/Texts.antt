-- Texts of a known count of bytes, and what may follow within one (Unicode, table 3-7).
use Rattle.std.specs.Prelude.{◌≡◌, ℕ, zero, suc, ◌+◌, ◌≤◌, List, [], ◌∷◌, length, IsUtf8, ⊤}
use Rattle.wire_bytes.specs.declared.due.Due.{Due}
use Rattle.wire_bytes.specs.declared.due.Due.TheVariants.{Start, Later}

-- UTF-8 of so many bytes
pub record AText (n : ℕ) (bytes : List ℕ) : Type 0 where
  pub long : length bytes ≡ n
  pub utf8 : IsUtf8 bytes

-- a byte from low to high, so many that continue the character, and then UTF-8
abbrev pub LaterBytes : ℕ → ℕ → ℕ → List ℕ → Type 0
LaterBytes low high more [] = ⊥
LaterBytes low high zero (b ∷ l) = (low ≤ b) × (b ≤ high) × IsUtf8 l
LaterBytes low high (suc more) (b ∷ l) = (low ≤ b) × (b ≤ high) × LaterBytes 0x80 0xBF more l

-- what may follow to the text's end
abbrev pub MayFollow : Due → List ℕ → Type 0
MayFollow Start l = IsUtf8 l
MayFollow (Later low high more) l = LaterBytes low high more l

-- how many bytes end the character
abbrev pub needed : Due → ℕ
needed Start = 0
needed (Later low high more) = more + 1

-- some byte may follow
abbrev pub IsFair : Due → Type 0
IsFair Start = ⊤
IsFair (Later low high more) = low ≤ high
