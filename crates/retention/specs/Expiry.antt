-- Which times have outlived the retention of their namespace.
use Rattle.std.specs.Prelude.{ℕ, ◌+◌, Option, Some, None, Bool, false, nat_le, slice_get}
use Rattle.m3_model.specs.declared.point.Key.{Key}
use Rattle.m3_model.specs.declared.rules.Space.{Space}
use Rattle.m3_model.specs.declared.rules.Rules.{Rules}

-- the retention of a time in this namespace has ended; a namespace that isn't there has none
abbrev pub has_ended : Option Space → ℕ → ℕ → Bool
has_ended None now t = false
has_ended (Some space) now t = nat_le (t + space.retention) now

-- the key's namespace is there, and the retention of the key has ended
abbrev pub has_expired : Rules → Key → Bool
has_expired rules k = has_ended (slice_get rules.spaces k.ns) rules.now k.t
