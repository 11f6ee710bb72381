-- Volumes that are to be written.
use Rattle.std.specs.Prelude.{◌≡◌, List, [], ◌∷◌, map}
use Rattle.sha2.specs.Sha256.{sha256}
use Rattle.shard_files.specs.m3_model.declared.point.Series.{Series}
use Rattle.shard_files.specs.wire_bytes.Volumes.{VolumeHead, Part, Info, Summaries, Index, Data, Bloom, Digests, Checkpoint, part_bytes, digests_bytes}
use Rattle.shard_files.specs.Parts.{part_of}
use Rattle.fileset_write.specs.declared.new_file.NewFile.{NewFile}
use Rattle.fileset_write.specs.declared.volume.NewVolume.{NewVolume}

-- one of the volume's files
abbrev pub new_file : VolumeHead → List Series → Part → NewFile
new_file v rows part = record { name = part_of part v; bytes = part_bytes part v rows }

-- all of them but the checkpoint, in the order in which they are made
abbrev pub new_files : VolumeHead → List Series → List NewFile
new_files v rows = map (new_file v rows) (Info ∷ Summaries ∷ Index ∷ Data ∷ Bloom ∷ Digests ∷ [])

-- all that is to be written of the volume of these rows
pub record IsNewVolume (v : VolumeHead) (rows : List Series) (w : NewVolume) : Type 0 where
  pub files : w.files.items ≡ new_files v rows
  pub checkpoint : w.checkpoint ≡ part_of Checkpoint v
  pub digest : w.digest ≡ sha256 (digests_bytes v rows)
