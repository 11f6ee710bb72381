-- What each call of a disk does, from its state before to its state after.
use Rattle.std.specs.Prelude.{◌≡◌, ◌⊎◌, ⊤, ℕ, ◌+◌, ◌≤◌, true, List, length, take, drop, Option, Some, Result, IfOk, OnOk, IsOk, IsErr, IsErrOf, option_map}
use Rattle.std.specs.FinMap.{get, keys}
use Rattle.m3_outside.specs.Files.{Files, Wrote, Torn, Stays, DoneOrNot, files_with_zeros, files_without}
use Rattle.m3_outside.specs.DiskState.{DiskState, Proceeds, Becomes}
use Rattle.m3_outside.specs.declared.file_name.FileName.{FileName}
use Rattle.m3_outside.specs.declared.failed.Failed.{Failed}
use Rattle.m3_outside.specs.declared.disk_err.DiskErr.{DiskErr}
use Rattle.m3_outside.specs.declared.disk_err.DiskErr.TheVariants.{Memory, Failed as DiskFailed}

-- a call that changes no file, no image and no room
pub record LeavesFiles (failed : Type 0) (old new : DiskState) : Type 0 where
  pub proceeds : Proceeds Stays failed old new
  pub files : old.tells ≡ true → new.files ≡ old.files
  pub spare : old.spare ≤ new.spare

-- a call that makes a file or takes one away: done where it answers Ok, not done where it failed for want of memory, and else done or not
pub record ChangesFiles (change : Files → Files) (ok memory failed : Type 0) (old new : DiskState) : Type 0 where
  pub proceeds : Proceeds (DoneOrNot change) failed old new
  pub done : old.tells ≡ true → ok → Becomes change old new
  pub undone : old.tells ≡ true → memory → Becomes (λ files. files) old new
  pub done_or_not : old.tells ≡ true → failed → Becomes (λ files. files) old new ⊎ Becomes change old new

-- there is room for so many calls; memory is wanted only where there wasn't before
pub record Reserves (calls : ℕ) (result : Result ⊤ DiskErr) (old new : DiskState) : Type 0 where
  pub leaves : LeavesFiles (IsErrOf result DiskFailed) old new
  pub enough : OnOk result (calls ≤ new.spare)
  pub had : calls ≤ old.spare → ¬ (IsErrOf result Memory)

-- a file of zeros
pub record Creates (name : FileName) (size : ℕ) (result : Result ⊤ DiskErr) (old new : DiskState) : Type 0 where
  pub changes : ChangesFiles (files_with_zeros name size) (IsOk result) (IsErrOf result Memory) (IsErrOf result DiskFailed) old new
  pub spare : old.spare ≤ new.spare

-- The range may hold any bytes after a stop, also where the write failed, and then also in reads. No other byte changes.
pub record Writes (name : FileName) (at : ℕ) (bytes : List ℕ) (result : Result ⊤ Failed) (old new : DiskState) : Type 0 where
  pub proceeds : Proceeds (Torn name at (length bytes)) (IsErr result) old new
  pub torn : old.tells ≡ true → Torn name at (length bytes) old.files new.files
  pub wrote : old.tells ≡ true → OnOk result (Wrote name at bytes old.files new.files)
  pub spare : old.spare ≤ new.spare + 1

-- where it answers Ok, a stop leaves of this file what a read gives
pub record Syncs (name : FileName) (result : Result ⊤ Failed) (old new : DiskState) : Type 0 where
  pub proceeds : Proceeds Stays (IsErr result) old new
  pub files : old.tells ≡ true → new.files ≡ old.files
  pub synced : old.tells ≡ true → OnOk result ((c : Files) → new.images c → get c name ≡ get new.files name)
  pub spare : old.spare ≤ new.spare + 1

-- the bytes from this offset on
pub record Reads (name : FileName) (at : ℕ) (buf : List ℕ) (result : Result ⊤ Failed) (old new : DiskState) : Type 0 where
  pub leaves : LeavesFiles (IsErr result) old new
  pub bytes : old.tells ≡ true → OnOk result ((file : List ℕ) → get old.files name ≡ Some file → buf ≡ take (length buf) (drop at file))

-- the size of the file, where it is there
pub record Sizes (name : FileName) (result : Result (Option ℕ) Failed) (old new : DiskState) : Type 0 where
  pub leaves : LeavesFiles (IsErr result) old new
  pub size : old.tells ≡ true → IfOk result (λ size. size ≡ option_map length (get old.files name))

-- the file is taken away
pub record Removes (name : FileName) (result : Result ⊤ Failed) (old new : DiskState) : Type 0 where
  pub changes : ChangesFiles (files_without name) (IsOk result) ⊥ (IsErr result) old new
  pub spare : old.spare ≤ new.spare + 1

-- all names, ascending
pub record Lists (result : Result (List FileName) DiskErr) (old new : DiskState) : Type 0 where
  pub leaves : LeavesFiles (IsErrOf result DiskFailed) old new
  pub names : old.tells ≡ true → IfOk result (λ names. names ≡ keys old.files)

-- the process stops and starts again: what reads give is one of the images, and then the only one
pub record Restarts (result : Result ⊤ DiskErr) (old new : DiskState) : Type 0 where
  pub proceeds : Proceeds Stays (IsErrOf result DiskFailed) old new
  pub image : old.tells ≡ true → OnOk result (old.images new.files)
  pub only : old.tells ≡ true → OnOk result ((c : Files) → new.images c → c ≡ new.files)
  pub refused : old.tells ≡ true → IsErr result → new.files ≡ old.files
  pub spare : old.spare ≤ new.spare
