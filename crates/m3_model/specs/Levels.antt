-- How many answers a level needs; M3DB's page "Consistency Levels".
use Rattle.std.specs.Prelude.{ℕ, ◌+◌, ◌/◌, Bool, true, false, not}
use Rattle.m3_model.specs.declared.act.WriteLevel.{WriteLevel}
use Rattle.m3_model.specs.declared.act.WriteLevel.TheVariants as write
use Rattle.m3_model.specs.declared.act.ReadLevel.{ReadLevel}
use Rattle.m3_model.specs.declared.act.ReadLevel.TheVariants as read

-- more than half of the replicas: rounded down before adding
abbrev pub majority : ℕ → ℕ
majority rf = rf / 2 + 1

-- how many replicas have to take a write
abbrev pub needed_write : WriteLevel → ℕ → ℕ
needed_write write.One rf = 1
needed_write write.Majority rf = majority rf
needed_write write.All rf = rf

-- how many replicas have to answer a read
abbrev pub needed_read : ReadLevel → ℕ → ℕ
needed_read read.One rf = 1
needed_read read.Unstrict rf = 1
needed_read read.Majority rf = majority rf
needed_read read.All rf = rf

-- whether at least a majority answered a read of this level that was short or not
abbrev pub is_strong : ReadLevel → Bool → Bool
is_strong read.One short = false
is_strong read.Unstrict short = not short
is_strong read.Majority short = true
is_strong read.All short = true
