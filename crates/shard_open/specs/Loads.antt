-- What is loaded of volumes and of the newest snapshot.
use Rattle.std.specs.Prelude.{◌≡◌, ⊤, ℕ, List, [], ◌∷◌, map, Option}
use Rattle.snapshot_files.specs.m3_outside.Files.{Files}
use Rattle.snapshot_files.specs.wire_bytes.Snapshots.{Snapshot}
use Rattle.snapshot_files.specs.volume_bytes.Heads.{head_of}
use Rattle.snapshot_files.specs.shard_files.Parts.{KnownVolume, VolumesAre, NewestIs, VolumeHolds, number_in_newest}
use Rattle.snapshot_files.specs.shard_files.FilesHold.{points_in_newest, tenure_in_newest, fence_in_newest}
use Rattle.snapshot_files.specs.fileset_check.declared.volume.Volume.{Volume}
use Rattle.shard_open.specs.declared.newest.Newest.{Newest}
use Rattle.shard_open.specs.declared.volumes.OpenVolume.{OpenVolume}

-- the volume, as it is known
abbrev pub known_of : OpenVolume → KnownVolume
known_of v = record { head = head_of v.volume.head; rows = v.rows }

-- this volume, which is there whole, was opened
pub record IsOpen (files : Files) (volume : Volume) (v : OpenVolume) : Type 0 where
  pub volume_is : v.volume ≡ volume
  pub holds : VolumeHolds (head_of volume.head) v.rows files

-- these volumes were opened, one for one
abbrev pub AreOpen : Files → List Volume → List OpenVolume → Type 0
AreOpen files [] [] = ⊤
AreOpen files [] (v ∷ found) = ⊥
AreOpen files (volume ∷ listed) [] = ⊥
AreOpen files (volume ∷ listed) (v ∷ found) = IsOpen files volume v × AreOpen files listed found

-- these are the volumes that count
abbrev pub AreOpened : List OpenVolume → Files → Type 0
AreOpened volumes files = VolumesAre (map known_of volumes) files

-- what the newest snapshot that counts has, and nothing where none counts
pub record IsNewest (files : Files) (n : Newest) : Type 0 where
  pub newest : Option Snapshot
  pub is : NewestIs newest files
  pub number_is : n.number ≡ number_in_newest newest
  pub points_are : n.points ≡ points_in_newest newest
  pub tenure_is : n.tenure ≡ tenure_in_newest newest
  pub fence_is : n.fence ≡ fence_in_newest newest
