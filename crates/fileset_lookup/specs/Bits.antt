-- Bits of a filter in its bytes.
use Rattle.std.specs.Prelude.{ℕ, ◌-◌, ◌/◌, ◌%◌, Bool, true, if◌then◌else◌, ◌==◌, ◌&&◌, nat_lt, List, length, drop, get_or}
use Rattle.std.specs.Int.{bit_at}
use Rattle.std.specs.List.{list_all}
use Rattle.byteorder.specs.Endian.{big_number}
use Rattle.wire_bytes.specs.Volumes.{bits_of}

-- whether bit i is set: the one of value 2^(i mod 8) in byte i / 8
abbrev pub bit_in : List ℕ → ℕ → Bool
bit_in bytes i = bit_at (get_or bytes (i / 8) 0) (i % 8) == 1

-- behind four bytes come some others, and the number in the four is that of the bits of these
abbrev pub is_filter : List ℕ → Bool
is_filter bytes = nat_lt 4 (length bytes) && ((big_number 4 bytes % 8 == 0) && (big_number 4 bytes / 8 == length bytes - 4))

-- the bits of the identifier are set, where the bytes are a filter; other bytes exclude nothing
abbrev pub may_hold : List ℕ → List ℕ → Bool
may_hold bytes id = if is_filter bytes then list_all (bit_in (drop 4 bytes)) (bits_of (big_number 4 bytes) id) else true
