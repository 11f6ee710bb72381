-- What is told of files that aren't sound.
use Rattle.std.specs.Prelude.{◌≡◌, ◌≢◌, ◌⊎◌, ⊤, ℕ, List, Option}
use Rattle.snapshot_files.specs.m3_outside.Files.{Files}
use Rattle.snapshot_files.specs.m3_outside.declared.file_name.FileName.{FileName}
use Rattle.snapshot_files.specs.wire_bytes.Volumes.{Data}
use Rattle.snapshot_files.specs.wire_bytes.Snapshots.{Snapshot}
use Rattle.snapshot_files.specs.shard_files.Parts.{KnownVolume, VolumesAre, NewestIs}
use Rattle.snapshot_files.specs.shard_files.FilesHold.{IsSound}
use Rattle.snapshot_files.specs.shard_files.Damage.{Damage, OfDigest, AtForm, AtBody, FirstDamage, DigestsDiffer}
use Rattle.snapshot_files.specs.shard_files.Loading.{LogTells, Tells}
use Rattle.snapshot_files.specs.shard_files.declared.load_err.LoadErr.{LoadErr}
use Rattle.snapshot_files.specs.shard_files.declared.load_err.LoadErr.TheVariants as failures
use Rattle.snapshot_files.specs.fileset_read.declared.file_err.FileErr.{FileErr}
use Rattle.snapshot_files.specs.fileset_read.declared.file_err.FileErr.TheVariants as unread
use Rattle.snapshot_files.specs.fileset_check.Told.{IsInside, VolumesTell}
use Rattle.snapshot_files.specs.fileset_check.declared.check_err.CheckErr.{CheckErr}
use Rattle.snapshot_files.specs.fileset_check.declared.check_err.CheckErr.TheVariants as checked
use Rattle.snapshot_files.specs.Told.{NewestTells}

-- What is told of the first volume that isn't whole; where all volumes are, of the newest snapshot; and where that is, too, of the log.
pub data FilesTell (files : Files) (damage : Damage) : Type 0 where
  OfVolumes : VolumesTell files damage → FilesTell files damage
  OfSnapshot : (known : List KnownVolume) → VolumesAre known files → NewestTells files damage → FilesTell files damage
  OfLog : (known : List KnownVolume) → VolumesAre known files → (newest : Option Snapshot) → NewestIs newest files → LogTells files damage → FilesTell files damage

-- why these files aren't read; a fault has its own cause, and memory may always be wanted
abbrev pub MayBeUnsound : Files → LoadErr → Type 0
MayBeUnsound files why = Tells (FilesTell files) why

-- the digests that are told differ, whatever the disk tells
abbrev pub AreApart : LoadErr → Type 0
AreApart failures.Disk = ⊤
AreApart failures.Memory = ⊤
AreApart (failures.Digest name kept found) = kept ≢ found
AreApart (failures.Form name at) = ⊤

-- The same of a check of volumes or of a snapshot. Two digests that it tells and that are one, as no disk that tells lets it find them, are told as a form.
abbrev pub IsToldBy : CheckErr → LoadErr → Type 0
IsToldBy checked.Disk why = why ≡ failures.Disk
IsToldBy checked.Memory why = why ≡ failures.Memory
IsToldBy (checked.Digest name kept found) why = ((kept ≡ found) × (why ≡ failures.Form name 0)) ⊎ ((kept ≢ found) × (why ≡ failures.Digest name kept found))
IsToldBy (checked.Form name at) why = why ≡ failures.Form name at

-- why a volume wasn't read that is there whole: on a disk that tells no damage is told
abbrev pub IsUnreadAs : FileErr → LoadErr → Type 0
IsUnreadAs unread.Disk why = why ≡ failures.Disk
IsUnreadAs unread.Memory why = why ≡ failures.Memory
IsUnreadAs (unread.Form name) why = why ≡ failures.Form name 0

-- ---- laws

-- files of which something is told hold nothing
abbrev pub ToldAreUnsound : Type 0
ToldAreUnsound = (files : Files) (damage : Damage) → FilesTell files damage → ¬ IsSound files

-- an offset was looked for: it isn't in data that keeps to its digest, nor in a volume whose name none has
abbrev pub IsPlaced : {files : Files} {damage : Damage} → FilesTell files damage → Type 0
IsPlaced (OfVolumes t) = (¬ (t.told.one ≡ AtForm Data)) × IsInside t.one.ns t.one.block t.one.number
IsPlaced (OfSnapshot known are t) = ¬ (t.told.one ≡ AtBody)
IsPlaced (OfLog known are newest is t) = ⊤

-- what is told is then the first damage of all files
abbrev pub ToldIsFirst : Type 0
ToldIsFirst = (files : Files) (damage : Damage) → (t : FilesTell files damage) → IsPlaced t → FirstDamage files damage

-- where digests are told, they differ, and the one that is found is that of the file's bytes
abbrev pub DigestsAreApart : Type 0
DigestsAreApart = (files : Files) (name : FileName) (kept found : List ℕ) → FilesTell files (OfDigest name kept found) → DigestsDiffer files name kept found
