use Rattle.std.proofs.Common.{◌≡◌, List, ℕ, ◌++◌, length}
use Rattle.m3_model.specs.Tags.{escaped}
use Rattle.series_id.proofs.read.value_of.Given as goal

abbrev pub invariant-loop-byte : goal.invariant-loop-byte
invariant-loop-byte l = (value : List ℕ) → l.spelling ≡ escaped value → (later : List ℕ) × (value ≡ l.bytes.items ++ later) × (l.rest ≡ escaped later)

abbrev pub decreases-loop-byte : goal.decreases-loop-byte
decreases-loop-byte l = length l.rest
