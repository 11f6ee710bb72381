-- Files that are taken away, one after another.
use Rattle.std.specs.Prelude.{◌≡◌, ⊤, List, [], ◌∷◌, ◌++◌}
use Rattle.m3_outside.specs.Files.{Files, IsPresent, files_without}
use Rattle.m3_outside.specs.DiskState.{DiskState, Becomes}
use Rattle.m3_outside.specs.declared.file_name.FileName.{FileName}

-- without the files of these names
abbrev pub without_files : List FileName → Files → Files
without_files [] files = files
without_files (name ∷ names) files = without_files names (files_without name files)

-- the first few of these files are gone, in this order, or none, or all; all other files stay
pub record MayTakeAway (names : List FileName) (old new : Files) : Type 0 where
  pub gone : List FileName
  pub left : List FileName
  pub split : names ≡ gone ++ left
  pub taken : new ≡ without_files gone old

-- of these files the same first few are gone for reads and in each image, or none, or all; all other files stay
pub record HasTakenAway (names : List FileName) (old new : DiskState) : Type 0 where
  pub gone : List FileName
  pub left : List FileName
  pub split : names ≡ gone ++ left
  pub taken : Becomes (without_files gone) old new

-- these files are there, and each still is where the ones before it are gone
abbrev pub AreRemovable : List FileName → Files → Type 0
AreRemovable [] files = ⊤
AreRemovable (name ∷ names) files = IsPresent name files × AreRemovable names (files_without name files)
