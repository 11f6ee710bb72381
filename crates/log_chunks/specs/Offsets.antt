-- What stands at an offset in the first bytes of a segment.
use Rattle.std.specs.Prelude.{◌≡◌, ℕ, ◌+◌, ◌<◌, List, length}
use Rattle.wire_bytes.specs.m3_model.declared.limits.TheConstants.{SEGMENT_BYTES}
use Rattle.wire_bytes.specs.Fields.{Stands, Begins, StopsAt}
use Rattle.log_chunks.specs.Segment.{chunk_bytes, ReadsChunks, IsSegment}
use Rattle.log_chunks.specs.declared.chunk_read.ChunkAt.{ChunkAt}
use Rattle.log_chunks.specs.declared.chunk_read.ChunkAt.TheVariants as found

-- a whole chunk stands at the offset, its payload from the one offset to the other
pub record ChunkStands (bytes : List ℕ) (at from next : ℕ) : Type 0 where
  pub payload : List ℕ
  pub behind : from ≡ at + 5
  pub stands : Stands (chunk_bytes payload) bytes at next
  pub named : Stands payload bytes from next

-- Behind these chunks no other one stands, and some segment begins with all these bytes. Where they are as many as a segment has, they are one.
pub record EndStands (chunks : List (List ℕ)) (bytes : List ℕ) (at : ℕ) : Type 0 where
  pub none : (from next : ℕ) → ¬ (ChunkStands bytes at from next)
  pub fits : Begins IsSegment bytes
  pub ends : length bytes ≡ SEGMENT_BYTES → ReadsChunks chunks bytes

-- no chunk stands at the offset, and no segment goes on with the byte at the other one
pub record BadStands (bytes : List ℕ) (at offset : ℕ) : Type 0 where
  pub none : (from next : ℕ) → ¬ (ChunkStands bytes at from next)
  pub within : offset < length bytes
  pub stops : StopsAt IsSegment bytes offset

-- what stands behind these chunks in the first bytes of a segment
abbrev pub IsNext : List (List ℕ) → List ℕ → ℕ → ChunkAt → Type 0
IsNext chunks bytes at (found.Chunk from next) = ChunkStands bytes at from next
IsNext chunks bytes at found.End = EndStands chunks bytes at
IsNext chunks bytes at (found.Bad offset) = BadStands bytes at offset
