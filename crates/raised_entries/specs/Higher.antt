-- Whether a value is above what stands at its key.
use Rattle.std.specs.Prelude.{ℤ, Option, Some, None, Bool, true, int_lt}

-- whether the value is above what stands there
abbrev pub is_higher : Option ℤ → ℤ → Bool
is_higher None v = true
is_higher (Some w) v = int_lt w v
