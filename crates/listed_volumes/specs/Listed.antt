-- The volumes of a list.
use Rattle.std.specs.Prelude.{List, map, IsSome}
use Rattle.m3_model.specs.Members.{IsIn}
use Rattle.volume_points.specs.m3_outside.Files.{Files}
use Rattle.volume_points.specs.shard_files.Parts.{KnownVolume, VolumeHolds}
use Rattle.volume_points.specs.volume_bytes.Heads.{head_of}
use Rattle.listed_volumes.specs.declared.volume.ListedVolume.{ListedVolume}

-- the volume, as it is known
abbrev pub known_as : ListedVolume → KnownVolume
known_as v = record { head = head_of v.head; rows = v.rows.value }

abbrev pub known_in : List ListedVolume → List KnownVolume
known_in listed = map known_as listed

-- each of these volumes is there whole, with its rows
abbrev pub AreHeld : List KnownVolume → Files → Type 0
AreHeld known files = (k : KnownVolume) → IsIn known k → VolumeHolds k.head k.rows files

-- a look-up in it reads no bloom filter and no summaries: they are at hand
abbrev pub IsReady : ListedVolume → Type 0
IsReady v = IsSome v.seeker
