-- What a look-up begins with.
use Rattle.std.specs.Prelude.{◌≡◌, List, length, Some, option_map}
use Rattle.std.specs.FinMap.{get}
use Rattle.fileset_read.specs.m3_model.declared.point.Series.{Series}
use Rattle.fileset_read.specs.m3_outside.Files.{Files}
use Rattle.fileset_read.specs.wire_bytes.Volumes.{VolumeHead, Bloom, Index, Summaries, bloom_bytes, index_bytes, summaries_bytes}
use Rattle.fileset_read.specs.shard_files.Parts.{part_of}
use Rattle.volume_rows.specs.declared.seeker.Seeker.{Seeker}

-- the seeker has the bloom filter and the summaries of the volume, as its files have them, and the size of its index
pub record IsSeekerOf (v : VolumeHead) (k : Seeker) (files : Files) : Type 0 where
  pub bloom : get files (part_of Bloom v) ≡ Some k.bloom
  pub summaries : get files (part_of Summaries v) ≡ Some k.summaries
  pub index : option_map length (get files (part_of Index v)) ≡ Some k.index_len

-- the same of the volume's rows
pub record Seeks (v : VolumeHead) (rows : List Series) (k : Seeker) : Type 0 where
  pub bloom : k.bloom ≡ bloom_bytes rows
  pub summaries : k.summaries ≡ summaries_bytes v.format rows
  pub index : k.index_len ≡ length (index_bytes v.format rows)
