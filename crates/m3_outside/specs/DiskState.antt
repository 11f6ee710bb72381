-- What a disk holds, what a stop of the process may leave of it, and how a call moves both on.
use Rattle.std.specs.Prelude.{◌≡◌, ◌⊎◌, ◌↔◌, ℕ, ◌≤◌, Bool, true}
use Rattle.std.specs.FinMap.{empty}
use Rattle.m3_outside.specs.Causes.{CountsFaults}
use Rattle.m3_outside.specs.Files.{Files, IsAbsent}
use Rattle.m3_outside.specs.declared.file_name.FileName.{FileName}

pub record DiskState : Type 1 where
  pub tells : Bool  -- whether it tells what it holds
  pub files : Files  -- what reads give
  pub images : Files → Type 0  -- what a stop now may leave
  pub moment : ℕ
  pub since : ℕ → Files → Type 0  -- what a stop at some moment from this one on may have left
  pub spare : ℕ  -- so many writes, syncs and removals take no memory
  pub faults : ℕ

-- where the disk tells, its files are so
abbrev pub Told : DiskState → (Files → Type 0) → Type 0
Told d P = d.tells ≡ true → P d.files

-- where the disk tells, each image is so
abbrev pub EachImage : DiskState → (Files → Type 0) → Type 0
EachImage d P = d.tells ≡ true → (c : Files) → d.images c → P c

-- no files, and none after a stop
pub record IsEmpty (d : DiskState) : Type 0 where
  pub files : Told d (λ files. files ≡ empty)
  pub images : EachImage d (λ c. c ≡ empty)

-- both have files of the same names
abbrev pub HaveSameNames : Files → Files → Type 0
HaveSameNames files others = (name : FileName) → IsAbsent name files ↔ IsAbsent name others

-- what holds of every disk
pub record IsLawfulDisk (d : DiskState) : Type 0 where
  pub read_is_image : Told d d.images  -- what reads give, a stop may leave
  pub same_names : EachImage d (HaveSameNames d.files)  -- a stop between two calls makes no file and takes none away
  pub counts_now : (t : ℕ) (c : Files) → t ≤ d.moment → d.images c → d.since t c  -- what a stop may leave now, it may leave since any earlier moment
  pub counts_later : (t u : ℕ) (c : Files) → t ≤ u → d.since u c → d.since t c  -- and so what one may leave since a later moment
  pub only_now : (c : Files) → d.since d.moment c → d.images c  -- since this moment there is nothing else

-- one of these images, a step on
pub record StepOf (step : Files → Files → Type 0) (images : Files → Type 0) (c : Files) : Type 0 where
  pub before : Files
  pub was : images before
  pub stepped : step before c

-- Time goes on: what a stop may leave now, or since an earlier moment, is what it might have left before, or that a step on.
pub record Elapses (step : Files → Files → Type 0) (old new : DiskState) : Type 0 where
  pub later : old.moment ≤ new.moment
  pub images : (c : Files) → new.images c → StepOf step old.images c
  pub nothing_else : (t : ℕ) (c : Files) → t ≤ old.moment → new.since t c → old.since t c ⊎ StepOf step old.images c
  pub keeps : (t : ℕ) (c : Files) → t ≤ old.moment → old.since t c → new.since t c

-- What each call keeps to: it failed only where the count of faults rose, and its step is all that a stop within it or after it may see.
pub record Proceeds (step : Files → Files → Type 0) (failed : Type 0) (old new : DiskState) : Type 0 where
  pub tells : new.tells ≡ old.tells
  pub faults : CountsFaults failed old.faults new.faults
  pub told : old.tells ≡ true → Elapses step old new

-- files and each image alike are changed so
pub record Becomes (change : Files → Files) (old new : DiskState) : Type 0 where
  pub files : new.files ≡ change old.files
  pub images : (c : Files) → new.images c → StepOf (λ before after. after ≡ change before) old.images c
