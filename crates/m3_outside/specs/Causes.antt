-- Counts of what went wrong at an object outside the program, and the causes that they show.
use Rattle.std.specs.Prelude.{◌≡◌, ℕ, ◌+◌, ◌-◌, ◌^◌, ◌<◌, ◌≤◌, min, List, length, Result, Ok, OnErr}

-- the last value of a count, at which it stays
abbrev pub last_count : ℕ
last_count = 2 ^ 64 - 1

-- a count raised by one, or still at its last value
abbrev pub count_after : ℕ → ℕ
count_after n = min (n + 1) last_count

-- the count rose; at its last value it counts as risen
abbrev pub Rose : ℕ → ℕ → Type 0
Rose before now = count_after before ≤ now

-- the count of faults never falls, stays at its last value, and rose where the call failed
pub record HasCause {T E : Type 0} (before now : ℕ) (result : Result T E) : Type 0 where
  pub later : before ≤ now
  pub stays : before ≡ last_count → now ≡ last_count
  pub failed : OnErr result (Rose before now)

-- the count of stalls never falls, stays at its last value, and rose where the write took nothing of a piece that isn't empty
pub record CountsStalls {E : Type 0} (before now : ℕ) (result : Result ℕ E) (bytes : List ℕ) : Type 0 where
  pub later : before ≤ now
  pub stays : before ≡ last_count → now ≡ last_count
  pub stalled : result ≡ Ok 0 → 0 < length bytes → Rose before now

-- the count of faults never falls, stays at its last value, and rose where a call failed
pub record CountsFaults (failed : Type 0) (before now : ℕ) : Type 0 where
  pub later : before ≤ now
  pub stays : before ≡ last_count → now ≡ last_count
  pub rose : failed → Rose before now

-- a count raised by so many, or at its last value
abbrev pub count_with : ℕ → ℕ → ℕ
count_with before more = min (before + more) last_count

-- the count rose by at least so much, or stands at its last value
abbrev pub RoseBy : ℕ → ℕ → ℕ → Type 0
RoseBy n before now = count_with before n ≤ now
