-- Files that are made one after another, and a checkpoint whose gate is opened last.
use Rattle.std.specs.Prelude.{◌≡◌, ◌⊎◌, ⊤, ℕ, false, List, [], ◌∷◌, ◌++◌, length, map, replicate, Some}
use Rattle.std.specs.FinMap.{get, insert}
use Rattle.shard_files.specs.m3_model.Members.{IsIn}
use Rattle.shard_files.specs.m3_outside.Files.{Files, IsAbsent}
use Rattle.shard_files.specs.m3_outside.DiskState.{DiskState, Told, EachImage}
use Rattle.shard_files.specs.m3_outside.declared.file_name.FileName.{FileName}
use Rattle.shard_files.specs.Parts.{is_open}
use Rattle.shard_files.specs.Steps.{OthersStay}
use Rattle.fileset_write.specs.declared.new_file.NewFile.{NewFile}

-- with a file of these bytes
abbrev pub with_file : FileName → List ℕ → Files → Files
with_file name bytes files = insert files name bytes

-- so many zeros, and these bytes behind them
abbrev pub behind : ℕ → List ℕ → List ℕ
behind front bytes = replicate front 0 ++ bytes

-- the file is there: so many zeros, and behind them any n bytes
pub record IsBehind (front n : ℕ) (name : FileName) (files : Files) : Type 0 where
  pub bytes : List ℕ
  pub long : length bytes ≡ n
  pub there : get files name ≡ Some (behind front bytes)

-- the file is as it was, or there with zeros in front; all other files stay
pub record MayPut (name : FileName) (front n : ℕ) (old new : Files) : Type 0 where
  pub others : OthersStay (λ other. other ≡ name) old new
  pub either : (get new name ≡ get old name) ⊎ IsBehind front n name new

-- ---- several files

abbrev pub names_of : List NewFile → List FileName
names_of files = map (λ f. f.name) files

-- with all these files
abbrev pub with_files : List NewFile → Files → Files
with_files [] files = files
with_files (f ∷ fs) files = with_files fs (with_file f.name f.bytes files)

-- no two of the names are one
abbrev pub AreApart : List FileName → Type 0
AreApart [] = ⊤
AreApart (name ∷ names) = ((other : FileName) → IsIn names other → ¬ (other ≡ name)) × AreApart names

-- none of the files is there
abbrev pub AreAbsent : List FileName → Files → Type 0
AreAbsent names files = (name : FileName) → IsIn names name → IsAbsent name files

-- all files stay but those of these names
abbrev pub OthersOf : List FileName → Files → Files → Type 0
OthersOf names old new = OthersStay (IsIn names) old new

-- ---- the checkpoint

-- the checkpoint is there, its gate is closed, and a stop leaves it so
pub record IsShut (name : FileName) (digest : List ℕ) (d : DiskState) : Type 0 where
  pub told : Told d (λ files. get files name ≡ Some (0 ∷ digest))
  pub each : EachImage d (λ files. get files name ≡ Some (0 ∷ digest))

-- with the checkpoint's gate open
abbrev pub opened : FileName → List ℕ → Files → Files
opened name digest files = with_file name (1 ∷ digest) files

-- the gate isn't open, or it is, and the digest stands behind it; all other files stay
pub record MayOpen (name : FileName) (digest : List ℕ) (old new : Files) : Type 0 where
  pub others : OthersStay (λ other. other ≡ name) old new
  pub either : (is_open (get new name) ≡ false) ⊎ (get new name ≡ Some (1 ∷ digest))

-- with all these files, and with the checkpoint, its gate open
abbrev pub with_volume : List NewFile → FileName → List ℕ → Files → Files
with_volume fs name digest files = with_file name (1 ∷ digest) (with_files fs files)

-- all of it is there, or the checkpoint's gate isn't open; all other files stay
pub record MayPutAll (fs : List NewFile) (name : FileName) (digest : List ℕ) (old new : Files) : Type 0 where
  pub others : OthersOf (name ∷ names_of fs) old new
  pub either : (is_open (get new name) ≡ false) ⊎ (new ≡ with_volume fs name digest old)

-- the checkpoint's gate isn't open; all other files stay
pub record PutNone (fs : List NewFile) (name : FileName) (old new : Files) : Type 0 where
  pub others : OthersOf (name ∷ names_of fs) old new
  pub shut : is_open (get new name) ≡ false
