-- How many events a line adds at most.
use Rattle.std.specs.Prelude.{◌+◌, ◌*◌, ◌≤◌, ℕ, List, [], ◌∷◌, ◌++◌, count_by, length, suc, take}
use Rattle.std.specs.List.{flat_map}
use Rattle.m3_model.specs.declared.limits.TheConstants.{MOST_REQUEST_EVENTS}
use Rattle.m3_model.specs.declared.turn.Turn.{Turn}
use Rattle.cluster_core.specs.Lists.{At}
use Rattle.transcripts.specs.Caused.{acts_in, acts_taken, is_write}
use Rattle.transcripts.specs.Record.{Record}

-- how many writes were taken by the end of these lines, those of earlier runs with them
abbrev pub writes_taken : List Record → List Turn → ℕ
writes_taken past lines = count_by is_write (flat_map acts_taken past ++ acts_in lines)

-- at most this many events for each request of a line and each write taken by its end; `ends` has how many events stand before each line
abbrev pub IsBounded : List Record → List Turn → (ℕ → ℕ) → Type 0
IsBounded past turns ends = (k : ℕ) (line : Turn) → At turns k line → ends (suc k) ≤ ends k + (MOST_REQUEST_EVENTS * length (acts_in (line ∷ []))) * (writes_taken past (take (suc k) turns) + 1)
