-- What a log segment holds: the definitions of its chunks.
pub use Rattle.log_chunks.specs.Segment.{segment, chunk_bytes, IsEnd, ReadsChunks, IsSegment, HasChunks, OthersStay, MayAdd, Adds, written, IsAtRest, IsKept, IsReady}
