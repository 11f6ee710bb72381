-- The end of a log: the segment that chunks go into, and the offset there.
use Rattle.std.specs.Prelude.{◌≡◌, ◌⊎◌, ℕ, ◌<◌, ◌≤◌, Bool, true}
use Rattle.log_chunks.specs.m3_model.declared.limits.TheConstants.{SEGMENT_BYTES}
use Rattle.log_chunks.specs.m3_outside.Files.{Files, IsAbsent, DoneOrNot, files_with_zeros}
use Rattle.log_chunks.specs.m3_outside.DiskState.{DiskState, Told, Becomes}
use Rattle.commit_log.specs.Segment.{segment, IsKept, IsReady}

pub record LogEnd : Type 0 where
  pub number : ℕ  -- the segment's
  pub at : ℕ
  pub clean : Bool  -- whether the bytes from the offset on are known to be zeros

-- no segment has this number or a higher one
abbrev pub NoneFrom : ℕ → Files → Type 0
NoneFrom number files = (n : ℕ) → number ≤ n → IsAbsent (segment n) files

-- no segment has a higher number
abbrev pub NoneAbove : ℕ → Files → Type 0
NoneAbove number files = (n : ℕ) → number < n → IsAbsent (segment n) files

-- the log's segment is as the log knows it, and the last
pub record LogEndStands (log : LogEnd) (d : DiskState) : Type 0 where
  pub kept : log.clean ≡ true → IsKept log.number log.at d
  pub above : Told d (NoneAbove log.number)
  pub within : log.at ≤ SEGMENT_BYTES

-- and a chunk of n bytes may be appended
pub record IsReadyFor (log : LogEnd) (n : ℕ) (d : DiskState) : Type 0 where
  pub stands : LogEndStands log d
  pub clean : log.clean ≡ true
  pub ready : IsReady log.number log.at n d

-- the segment of this number is made, empty, or not; all other files stay
abbrev pub MayBeginSegment : ℕ → Files → Files → Type 0
MayBeginSegment number = DoneOrNot (files_with_zeros (segment number) SEGMENT_BYTES)

-- the segment of this number is there now, empty, for reads and in each image, or for neither; all other files stay
abbrev pub BeganOrNot : ℕ → DiskState → DiskState → Type 0
BeganOrNot number old new = Becomes (λ files. files) old new ⊎ Becomes (files_with_zeros (segment number) SEGMENT_BYTES) old new
