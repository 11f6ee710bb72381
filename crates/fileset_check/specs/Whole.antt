-- Volumes that are there whole, as they are listed.
use Rattle.std.specs.Prelude.{◌≡◌, List, map, length}
use Rattle.fileset_read.specs.m3_outside.Files.{Files}
use Rattle.fileset_read.specs.m3_outside.declared.file_name.FileName.{FileName}
use Rattle.fileset_read.specs.wire_bytes.Volumes.{count_of}
use Rattle.fileset_read.specs.shard_files.Parts.{KnownVolume, AreKnown, IsKnown, counted_volumes}
use Rattle.fileset_check.specs.declared.volume.Volume.{Volume}

-- which volume it is, with the numbers of its series and points
abbrev pub listed : KnownVolume → Volume
listed k = record { head = record { ns = k.head.ns; start = k.head.start; size = k.head.size; number = k.head.number }; series = length k.rows; points = count_of k.rows }

-- the volume of this checkpoint is there whole
pub record IsListed (files : Files) (name : FileName) (v : Volume) : Type 0 where
  pub known : KnownVolume
  pub is_known : IsKnown files name known
  pub listed_is : v ≡ listed known

-- the volumes of these checkpoints are there whole
pub record AreListed (files : Files) (names : List FileName) (found : List Volume) : Type 0 where
  pub known : List KnownVolume
  pub are_known : AreKnown files names known
  pub listed_are : found ≡ map listed known

-- all volumes that count are there whole
abbrev pub AreVolumes : Files → List Volume → Type 0
AreVolumes files found = AreListed files (counted_volumes files) found
