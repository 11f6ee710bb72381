-- What the calls of a log do to all that a reader finds, on any disk.
use Rattle.std.specs.Prelude.{◌≡◌, ◌⊎◌, ◌↔◌, ℕ, ◌<◌, ◌≤◌, true, List, [], ◌∷◌, ◌++◌, length}
use Rattle.log_chunks.specs.m3_model.Members.{IsIn}
use Rattle.log_chunks.specs.m3_model.Ascends.{Ascends}
use Rattle.log_chunks.specs.m3_model.declared.limits.TheConstants.{SEGMENT_BYTES}
use Rattle.log_chunks.specs.m3_outside.Files.{Files, IsPresent}
use Rattle.log_chunks.specs.m3_outside.DiskState.{DiskState, EachImage, StepOf, Elapses, Becomes}
use Rattle.log_chunks.specs.m3_outside.Removal.{without_files, MayTakeAway}
use Rattle.commit_log.specs.Segment.{segment, written, ReadsChunks, MayAdd, Adds}
use Rattle.commit_log.specs.LogEnd.{NoneAbove, MayBeginSegment}
use Rattle.commit_log.specs.Cutting.{numbers_below, numbers_from, segments_below}
use Rattle.commit_log.specs.Contents.{numbers, PartsHold, LogHolds, FirstDamaged}

-- what stands behind a gate that isn't open is never read
abbrev pub NothingBehindGate : Type 0
NothingBehindGate = (cs ds : List (List ℕ)) (gate : ℕ) (behind bytes : List ℕ) → bytes ≡ written cs ++ gate ∷ behind → length bytes ≤ SEGMENT_BYTES → ¬ (gate ≡ 1) → ReadsChunks ds bytes → ds ≡ cs

-- the numbers by which a log is read ascend, and are those of the segments that are there
pub record NumbersAreThere (files : Files) : Type 0 where
  pub ascending : Ascends (λ a b. a < b) (numbers files)
  pub exact : (n : ℕ) → IsIn (numbers files) n ↔ IsPresent (segment n) files

-- files are one log
abbrev pub LogIsOne : Type 0
LogIsOne = (cs ds : List (List ℕ)) (m n : ℕ) (files : Files) → LogHolds cs m files → LogHolds ds n files → (cs ≡ ds) × (m ≡ n)

-- no chunks are those of a log with damage
abbrev pub DamagedIsNone : Type 0
DamagedIsNone = (cs : List (List ℕ)) (number at : ℕ) (files : Files) → FirstDamaged (numbers files) number at files → ¬ PartsHold (numbers files) files cs

-- a reader of these files finds these chunks, and no segment has a number above this one
pub record IsLog (chunks : List (List ℕ)) (number : ℕ) (files : Files) : Type 0 where
  pub parts : PartsHold (numbers files) files chunks
  pub above : NoneAbove number files

-- what a reader finds is that log
abbrev pub ReaderFindsLog : Type 0
ReaderFindsLog = (chunks found : List (List ℕ)) (number next : ℕ) (files : Files) → IsLog chunks number files → LogHolds found next files → found ≡ chunks

-- Where each image is a log that ends in the segment of an append, a stop within the append or after it leaves that log, with the one chunk more or
-- without it, and once the append is acknowledged with it.
pub record AppendGrowsLog {D : Type 0} (state : D → DiskState) : Type 0 where
  pub stopped : (old new : D) (number : ℕ) (chunk : List ℕ) (chunks : List (List ℕ)) → (state old).tells ≡ true → EachImage (state old) (IsLog chunks number) → Elapses (MayAdd (segment number) chunk) (state old) (state new)
      → (c : Files) → (state new).since (state old).moment c → IsLog chunks number c ⊎ IsLog (chunks ++ chunk ∷ []) number c
  pub acknowledged : (old new : D) (number : ℕ) (chunk : List ℕ) (chunks : List (List ℕ)) → (state old).tells ≡ true → EachImage (state old) (IsLog chunks number)
      → ((c : Files) → (state new).images c → StepOf (Adds (segment number) chunk) (state old).images c) → EachImage (state new) (IsLog (chunks ++ chunk ∷ []) number)

-- where each image is a log without segments from a number on, a stop while that segment begins, or afterwards, leaves the same chunks
abbrev pub BeginLeavesLog : {D : Type 0} → (D → DiskState) → Type 0
BeginLeavesLog {D} state =
    (old new : D) (last number : ℕ) (chunks : List (List ℕ)) → (state old).tells ≡ true → last < number → EachImage (state old) (IsLog chunks last) → Elapses (MayBeginSegment number) (state old) (state new)
    → (c : Files) → (state new).since (state old).moment c → IsLog chunks number c

-- the segments below the number m hold some chunks, those from it on others, and no segment has a number above the last
pub record IsCutAt (m : ℕ) (below from : List (List ℕ)) (last : ℕ) (files : Files) : Type 0 where
  pub parts_below : PartsHold (numbers_below m files) files below
  pub parts_from : PartsHold (numbers_from m files) files from
  pub above : NoneAbove last files

-- a log of the last few of these chunks, and all others
pub record LeavesEnd (below from : List (List ℕ)) (last : ℕ) (files : Files) : Type 0 where
  pub gone : List (List ℕ)
  pub left : List (List ℕ)
  pub split : below ≡ gone ++ left
  pub log : IsLog (left ++ from) last files

-- A stop within a cut or after it leaves all chunks of the segments from the number on, and in front of them the last few of the others, or none, or
-- all; where it is done, none. Each image before is to have the same segments below the number as the files.
pub record CutLeavesEnd {D : Type 0} (state : D → DiskState) : Type 0 where
  pub stopped : (old new : D) (m last : ℕ) (below from : List (List ℕ)) → (state old).tells ≡ true → EachImage (state old) (IsCutAt m below from last)
      → EachImage (state old) (λ c. numbers_below m c ≡ numbers_below m (state old).files) → Elapses (MayTakeAway (segments_below m (state old).files)) (state old) (state new)
      → (c : Files) → (state new).since (state old).moment c → LeavesEnd below from last c
  pub done : (old new : D) (m last : ℕ) (below from : List (List ℕ)) → (state old).tells ≡ true → EachImage (state old) (IsCutAt m below from last)
      → EachImage (state old) (λ c. numbers_below m c ≡ numbers_below m (state old).files) → Becomes (without_files (segments_below m (state old).files)) (state old) (state new)
      → EachImage (state new) (IsLog from last)
