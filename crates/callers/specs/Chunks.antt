-- What stands at the end of a segment.
use Rattle.std.specs.Prelude.{ℕ, List, [], ◌∷◌, ◌++◌}
use Rattle.m3_outside.specs.Files.{Files}
use Rattle.m3_outside.specs.declared.file_name.FileName.{FileName}
use Rattle.commit_log.specs.Segment.{HasChunks}

-- the chunk is the last one of the segment of this name
pub record EndsWith (name : FileName) (chunk : List ℕ) (files : Files) : Type 0 where
  pub before : List (List ℕ)
  pub chunks : HasChunks name (before ++ chunk ∷ []) files
