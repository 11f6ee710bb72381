-- A source in memory, as contracts see it.
use Rattle.std.specs.Prelude.{ℕ, List, ◌++◌, take, drop, Bool, false}
use Rattle.m3_outside.specs.Causes.{count_after}

-- the bytes that reads gave, those that are left, whether the last read found none, the numbers of the calls that fail, and how many calls came and failed so far
pub record Feed : Type 0 where
  pub gave : List ℕ
  pub left : List ℕ
  pub ended : Bool
  pub fail : List ℕ
  pub calls : ℕ
  pub faults : ℕ

-- the feed after a read that took this many bytes, or found none
abbrev pub feed_after_read : Feed → ℕ → Bool → Feed
feed_after_read f count ended = record f { gave = f.gave ++ take count f.left; left = drop count f.left; ended = ended; calls = count_after f.calls }

-- the feed after a read that failed
abbrev pub feed_after_fault : Feed → Feed
feed_after_fault f = record f { ended = false; calls = count_after f.calls; faults = count_after f.faults }
