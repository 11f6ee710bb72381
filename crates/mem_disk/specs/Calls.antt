-- Which calls of a disk in memory fail.
use Rattle.std.specs.Prelude.{◌≡◌, ℕ, ◌-◌, Bool, true, false, ◌||◌, nat_eq, if◌then◌else◌, List, [], Option, Some, None, Result, Ok, Err}
use Rattle.std.specs.List.{list_any}
use Rattle.m3_outside.specs.Causes.{count_after}
use Rattle.m3_outside.specs.declared.disk_err.DiskErr.{DiskErr}
use Rattle.m3_outside.specs.declared.disk_err.DiskErr.TheVariants.{Failed, Memory}

-- the numbers of the calls that fail, how many calls pass before all others fail, and how many calls came and failed so far
pub record Calls : Type 0 where
  pub fail : List ℕ
  pub fuse : Option ℕ
  pub calls : ℕ
  pub faults : ℕ

-- no call fails, and none came so far
abbrev pub unfailing : Calls
unfailing = record { fail = []; fuse = None; calls = 0; faults = 0 }

-- the next call is listed
abbrev pub is_listed : Calls → Bool
is_listed s = list_any (λ n. nat_eq n s.calls) s.fail

-- no call passes
abbrev pub is_burnt : Option ℕ → Bool
is_burnt None = false
is_burnt (Some left) = nat_eq left 0

-- one call fewer passes
abbrev pub fuse_after : Option ℕ → Option ℕ
fuse_after None = None
fuse_after (Some left) = Some (left - 1)

-- the next call fails, where it isn't a restart: it is listed, or the fuse is burnt
abbrev pub fails_next : Calls → Bool
fails_next s = is_listed s || is_burnt s.fuse

-- after a call that isn't a restart
abbrev pub calls_after : Calls → Calls
calls_after s = if fails_next s then record s { calls = count_after s.calls; faults = count_after s.faults } else record s { calls = count_after s.calls; fuse = fuse_after s.fuse }

-- after a restart, which no fuse makes fail
abbrev pub calls_after_restart : Calls → Calls
calls_after_restart s = record s { calls = count_after s.calls; faults = if is_listed s then count_after s.faults else s.faults }

-- a call that may take memory has failed otherwise
abbrev pub is_fault : {X : Type 0} → Result X DiskErr → Bool
is_fault (Ok x) = false
is_fault (Err Failed) = true
is_fault (Err Memory) = false

-- a call other than a restart failed exactly where it was to fail, and was counted
pub record CountsCall (failed : Bool) (old new : Calls) : Type 0 where
  pub exactly : failed ≡ fails_next old
  pub counted : new ≡ calls_after old

-- a restart failed exactly where it was listed, and was counted; where it is done, there is no fuse any more
pub record CountsRestart (failed done : Bool) (old new : Calls) : Type 0 where
  pub exactly : failed ≡ is_listed old
  pub counted : new ≡ (if done then record (calls_after_restart old) { fuse = None } else calls_after_restart old)
