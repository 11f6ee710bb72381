-- What the clauses of a disk's calls say together, of the states of any disk.
use Rattle.std.specs.Prelude.{◌≡◌, ◌⊎◌, ⊤, ℕ, ◌≤◌, true, List, length, Some, Result, IsOk}
use Rattle.std.specs.FinMap.{get}
use Rattle.m3_outside.specs.Files.{Files, Torn, Stays, DoneOrNot, files_with_zeros, files_without}
use Rattle.m3_outside.specs.DiskState.{DiskState, StepOf, Elapses}
use Rattle.m3_outside.specs.DiskCalls.{Creates, Writes, Syncs, Reads, Removes}
use Rattle.m3_outside.specs.declared.file_name.FileName.{FileName}
use Rattle.m3_outside.specs.declared.failed.Failed.{Failed}
use Rattle.m3_outside.specs.declared.disk_err.DiskErr.{DiskErr}

-- after a sync, what a read of the whole file gives is the only image of that file
abbrev pub SyncedIsRead : {D : Type 0} → (D → DiskState) → Type 0
SyncedIsRead {D} state =
    (old mid new : D) (name : FileName) (buf : List ℕ) (synced read : Result ⊤ Failed) → (state old).tells ≡ true
    → Syncs name synced (state old) (state mid) → IsOk synced → Reads name 0 buf read (state mid) (state new) → IsOk read
    → (file : List ℕ) → get (state mid).files name ≡ Some file → length buf ≡ length file → (c : Files) → (state new).images c → get c name ≡ Some buf

-- one of these images has the file as this one has it
pub record HasAsBefore (images : Files → Type 0) (name : FileName) (c : Files) : Type 0 where
  pub before : Files
  pub was : images before
  pub same : get c name ≡ get before name

-- a write changes no other file, neither in reads nor in an image
pub record OtherFileStays (name : FileName) (old new : DiskState) : Type 0 where
  pub files : get new.files name ≡ get old.files name
  pub images : (c : Files) → new.images c → HasAsBefore old.images name c

abbrev pub WritesOneFile : {D : Type 0} → (D → DiskState) → Type 0
WritesOneFile {D} state =
    (old new : D) (name : FileName) (at : ℕ) (bytes : List ℕ) (result : Result ⊤ Failed) → (state old).tells ≡ true → Writes name at bytes result (state old) (state new)
    → (other : FileName) → ¬ (other ≡ name) → OtherFileStays other (state old) (state new)

-- Images come from images: what a stop within a call or after it may leave, one before it might have left, or that with the call's own change.
pub record ImagesComeFromImages {D : Type 0} (state : D → DiskState) : Type 0 where
  pub unchanged : (old new : D) (t : ℕ) (c : Files) → Elapses Stays (state old) (state new) → t ≤ (state old).moment → (state new).since t c → (state old).since t c
  pub written : (old new : D) (name : FileName) (at : ℕ) (bytes : List ℕ) (result : Result ⊤ Failed) (c : Files) → (state old).tells ≡ true → Writes name at bytes result (state old) (state new)
      → (state new).since (state old).moment c → (state old).images c ⊎ StepOf (Torn name at (length bytes)) (state old).images c
  pub made : (old new : D) (name : FileName) (size : ℕ) (result : Result ⊤ DiskErr) (c : Files) → (state old).tells ≡ true → Creates name size result (state old) (state new)
      → (state new).since (state old).moment c → StepOf (DoneOrNot (files_with_zeros name size)) (state old).images c
  pub taken_away : (old new : D) (name : FileName) (result : Result ⊤ Failed) (c : Files) → (state old).tells ≡ true → Removes name result (state old) (state new)
      → (state new).since (state old).moment c → StepOf (DoneOrNot (files_without name)) (state old).images c
