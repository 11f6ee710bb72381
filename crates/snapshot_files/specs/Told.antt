-- What is told of a snapshot that isn't whole.
use Rattle.std.specs.Prelude.{◌≡◌, ℕ, Bool, ◌&&◌, List, [], ◌∷◌, Option, Some, None}
use Rattle.std.specs.FinMap.{get}
use Rattle.fileset_check.specs.m3_outside.Files.{Files}
use Rattle.fileset_check.specs.m3_outside.declared.file_name.FileName.{FileName}
use Rattle.fileset_check.specs.shard_files.Parts.{is_open, is_snapshot_checkpoint, counted_snapshots, snapshot_checkpoint, snapshot_data, SnapshotHolds}
use Rattle.fileset_check.specs.shard_files.Damage.{Damage, OfForm, FirstFound, SnapshotLook, AtGate, AtKept, AtBody, SnapshotFinds, IsBody, bytes_at, last_of}
use Rattle.snapshot_files.specs.Snaps.{seen}
use Rattle.snapshot_files.specs.declared.snap.Snap.{Snap}

-- ---- one snapshot

-- both files of the snapshot of this number: the checkpoint and the data
pub record AreFiles (number : ℕ) (gate body : Option (List ℕ)) (files : Files) : Type 0 where
  pub checkpoint : gate ≡ get files (snapshot_checkpoint number)
  pub content : body ≡ get files (snapshot_data number)

-- the snapshot of this number is there whole, and is this one
pub record IsThere (number : ℕ) (files : Files) (s : Snap) : Type 0 where
  pub numbered : s.number ≡ number
  pub holds : SnapshotHolds (seen s) files

-- the bytes are the data of no snapshot of this number; the offset in them isn't looked for
pub record IsUnfit (number : ℕ) (bytes : List ℕ) (damage : Damage) : Type 0 where
  pub none : ¬ (IsBody number bytes)
  pub is : damage ≡ OfForm (snapshot_data number) 0

-- what each look tells: the damage that it finds, of data that keeps to its digest without the offset
abbrev pub LookTells : ℕ → Files → SnapshotLook → Damage → Type 0
LookTells number files AtGate damage = SnapshotFinds number files AtGate damage
LookTells number files AtKept damage = SnapshotFinds number files AtKept damage
LookTells number files AtBody damage = IsUnfit number (bytes_at files (snapshot_data number)) damage

-- what the first look tells that tells anything
abbrev pub SnapshotTells : ℕ → Files → Damage → Type 0
SnapshotTells number files damage = FirstFound (LookTells number files) (AtGate ∷ AtKept ∷ AtBody ∷ []) damage

-- ---- the newest

-- the name is that of the checkpoint of a snapshot that counts
abbrev pub is_counted : Files → FileName → Bool
is_counted files name = is_snapshot_checkpoint name && is_open (get files name)

-- the checkpoint of the snapshot of this number, where there is one
abbrev pub checkpoint_of : Option ℕ → List FileName
checkpoint_of None = []
checkpoint_of (Some number) = snapshot_checkpoint number ∷ []

-- the newest snapshot that counts isn't whole, and this is told of it
pub record NewestTells (files : Files) (damage : Damage) : Type 0 where
  pub number : ℕ
  pub last : last_of (counted_snapshots files) ≡ checkpoint_of (Some number)
  pub told : SnapshotTells number files damage
