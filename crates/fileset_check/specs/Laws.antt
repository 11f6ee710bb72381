-- What is told of volumes is damage of the files.
use Rattle.std.specs.Prelude.{◌≡◌, ℕ, List}
use Rattle.fileset_read.specs.m3_outside.Files.{Files}
use Rattle.fileset_read.specs.wire_bytes.Volumes.{Data}
use Rattle.fileset_read.specs.shard_files.Parts.{KnownVolume, VolumesAre}
use Rattle.fileset_read.specs.shard_files.Damage.{Damage, AtForm, FirstDamage}
use Rattle.fileset_check.specs.Told.{IsInside, VolumesTell}

-- where something is told, the volumes that count aren't all whole
abbrev pub ToldAreUnsound : Type 0
ToldAreUnsound = (files : Files) (damage : Damage) → VolumesTell files damage → (known : List KnownVolume) → ¬ (VolumesAre known files)

-- what is told is the first damage of all files, but of data that keeps to its digest, and of a name that no volume has
abbrev pub ToldIsFirst : Type 0
ToldIsFirst = (files : Files) (damage : Damage) → (t : VolumesTell files damage) → ¬ (t.told.one ≡ AtForm Data) → IsInside t.one.ns t.one.block t.one.number → FirstDamage files damage
