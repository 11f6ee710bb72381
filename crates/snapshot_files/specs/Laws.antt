-- What is told of the newest snapshot is damage of the files.
use Rattle.std.specs.Prelude.{◌≡◌, List, Option}
use Rattle.fileset_check.specs.m3_outside.Files.{Files}
use Rattle.fileset_check.specs.wire_bytes.Snapshots.{Snapshot}
use Rattle.fileset_check.specs.shard_files.Parts.{KnownVolume, VolumesAre, NewestIs}
use Rattle.fileset_check.specs.shard_files.Damage.{Damage, AtBody, FirstDamage}
use Rattle.snapshot_files.specs.Told.{NewestTells}

-- where something is told, the newest snapshot that counts isn't whole, and there is one
abbrev pub ToldIsUnsound : Type 0
ToldIsUnsound = (files : Files) (damage : Damage) → NewestTells files damage → (newest : Option Snapshot) → ¬ (NewestIs newest files)

-- where the volumes that count are whole, what is told is the first damage of all files, but of data that keeps to its digest
abbrev pub ToldIsFirst : Type 0
ToldIsFirst = (files : Files) (damage : Damage) (known : List KnownVolume) → VolumesAre known files → (t : NewestTells files damage) → ¬ (t.told.one ≡ AtBody) → FirstDamage files damage
