-- The slots of a series: at a time stands a value, or room for one.
use Rattle.std.specs.Prelude.{ℕ, ℤ, Option, Some, None, Bool, option_map, ◌&&◌, nat_le, nat_lt, if◌then◌else◌, is_some}
use Rattle.std.specs.Coded.{Coded, coded_ℕ, coded_ℤ, coded_option}
use Rattle.std.specs.FinMap as map
use Rattle.std.specs.Ordering.{nat_cmp}

abbrev pub Slots : Type 0
Slots = map.FinMap nat_cmp (Option ℤ)

abbrev pub slots_code : Coded Slots
slots_code = map.code coded_ℕ (coded_option coded_ℤ)

-- the value of a slot, where there is a slot and it has one
abbrev pub settled : Option (Option ℤ) → Option ℤ
settled None = None
settled (Some slot) = slot

-- the value at a time
abbrev pub value_at : Slots → ℕ → Option ℤ
value_at slots t = settled (map.get slots t)

-- whether the time is one of those from `low` up to and with `high`
abbrev pub is_within : ℕ → ℕ → ℕ → Bool
is_within low high t = nat_le low t && nat_le t high

-- the time and the value of a slot that has one
abbrev pub valued : ℕ × Option ℤ → Option (ℕ × ℤ)
valued e = option_map (λ v. (e.0, v)) e.1

-- the same, of a slot in a range
abbrev pub valued_in : ℕ → ℕ → ℕ × Option ℤ → Option (ℕ × ℤ)
valued_in from to e = if nat_le from e.0 && nat_lt e.0 to then valued e else None

-- whether the slot has a value at one of those times
abbrev pub is_held_within : ℕ → ℕ → ℕ × Option ℤ → Bool
is_held_within low high e = is_within low high e.0 && is_some e.1
