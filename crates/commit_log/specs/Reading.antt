-- What the reading of a segment finds.
use Rattle.std.specs.Prelude.{◌≡◌, ⊤, ℕ, ◌+◌, ◌<◌, ◌↔◌, List, ◌++◌, length, take, Bool, IsTrue}
use Rattle.log_chunks.specs.m3_model.declared.limits.TheConstants.{SEGMENT_BYTES}
use Rattle.log_chunks.specs.m3_outside.Files.{Files}
use Rattle.log_chunks.specs.Fields.{StopsAt}
use Rattle.commit_log.specs.Segment.{ReadsChunks, IsSegment}
pub use Rattle.log_chunks.specs.Offsets.{ChunkStands, EndStands, BadStands, IsNext}
use Rattle.commit_log.specs.Contents.{PartsHold, FirstDamaged}
use Rattle.commit_log.specs.declared.log_err.LogErr.{LogErr}
use Rattle.commit_log.specs.declared.log_err.LogErr.TheVariants as errors

-- the file's first bytes, at most as many as a segment has, and whether it has just so many
pub record IsFront (front : List ℕ) (whole : Bool) (file : List ℕ) : Type 0 where
  pub is : front ≡ take SEGMENT_BYTES file
  pub whole_is : IsTrue whole ↔ (length file ≡ SEGMENT_BYTES)

-- the chunks of a segment with these bytes came behind those before
pub record ReadsMore (bytes : List ℕ) (old new : List (List ℕ)) : Type 0 where
  pub chunks : List (List ℕ)
  pub is : new ≡ old ++ chunks
  pub long : length bytes ≡ SEGMENT_BYTES
  pub reads : ReadsChunks chunks bytes

-- these bytes are no segment's, by the offset; memory may always be wanted
abbrev pub MayBreak : ℕ → List ℕ → LogErr → Type 0
MayBreak number bytes errors.Disk = ⊥
MayBreak number bytes errors.Memory = ⊤
MayBreak number bytes (errors.Form n at) = (n ≡ number) × StopsAt IsSegment bytes at

-- the segments' chunks came behind those before
pub record FindsAll (ns : List ℕ) (files : Files) (old new : List (List ℕ)) : Type 0 where
  pub chunks : List (List ℕ)
  pub is : new ≡ old ++ chunks
  pub has : PartsHold ns files chunks

-- the first damaged one of these segments is so at the offset; a fault has its own cause, and memory may always be wanted
abbrev pub MayBeFirstDamage : List ℕ → Files → LogErr → Type 0
MayBeFirstDamage ns files errors.Disk = ⊤
MayBeFirstDamage ns files errors.Memory = ⊤
MayBeFirstDamage ns files (errors.Form number at) = FirstDamaged ns number at files
