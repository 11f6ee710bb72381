-- The files of a disk, and how a part of one is written over.
use Rattle.std.specs.Prelude.{◌≡◌, ◌⊎◌, ℕ, ◌+◌, ◌≤◌, List, ◌++◌, length, take, drop, replicate, Some, None}
use Rattle.std.specs.Ordering.{nat_cmp, on, then_cmp}
use Rattle.std.specs.declared.cmp.Ordering.{Ordering}
use Rattle.std.specs.FinMap.{FinMap, get, insert, remove}
use Rattle.m3_outside.specs.declared.file_name.FileName.{FileName}

-- by kind, then by namespace, block and number
abbrev pub name_cmp : FileName → FileName → Ordering
name_cmp = then_cmp (on (λ n. n.kind) nat_cmp) (then_cmp (on (λ n. n.ns) nat_cmp) (then_cmp (on (λ n. n.block) nat_cmp) (on (λ n. n.number) nat_cmp)))

-- from names to bytes
abbrev pub Files : Type 0
Files = FinMap name_cmp (List ℕ)

abbrev pub IsAbsent : FileName → Files → Type 0
IsAbsent name files = get files name ≡ None

pub record IsPresent (name : FileName) (files : Files) : Type 0 where
  pub file : List ℕ
  pub there : get files name ≡ Some file

-- the file is there, and the n bytes from this offset on lie in it
pub record IsInside (name : FileName) (at n : ℕ) (files : Files) : Type 0 where
  pub file : List ℕ
  pub there : get files name ≡ Some file
  pub within : at + n ≤ length file

-- with a new file of zeros
abbrev pub files_with_zeros : FileName → ℕ → Files → Files
files_with_zeros name size files = insert files name (replicate size 0)

-- without the file
abbrev pub files_without : FileName → Files → Files
files_without name files = remove files name

-- with these bytes at this offset
abbrev pub patched : List ℕ → ℕ → List ℕ → List ℕ
patched file at bytes = take at file ++ bytes ++ drop (at + length bytes) file

-- new is old with these bytes at this offset of the file
pub record Wrote (name : FileName) (at : ℕ) (bytes : List ℕ) (old new : Files) : Type 0 where
  pub file : List ℕ
  pub there : get old name ≡ Some file
  pub after : new ≡ insert old name (patched file at bytes)

-- new is old with any n bytes at this offset of the file
pub record Torn (name : FileName) (at n : ℕ) (old new : Files) : Type 0 where
  pub bytes : List ℕ
  pub same_length : length bytes ≡ n
  pub wrote : Wrote name at bytes old new

abbrev pub Stays : Files → Files → Type 0
Stays old new = new ≡ old

-- the change is done or not
abbrev pub DoneOrNot : (Files → Files) → Files → Files → Type 0
DoneOrNot change old new = (new ≡ old) ⊎ (new ≡ change old)
