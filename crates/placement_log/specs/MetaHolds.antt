-- What the files of the meta disk hold, and what the calls of its log leave.
use Rattle.std.specs.Prelude.{◌≡◌, ◌⊎◌, ℕ, ◌+◌, ◌-◌, ◌≤◌, List, [], ◌∷◌, length, map, take, Option, Some, None, true, false}
use Rattle.std.specs.FinMap.{get}
use Rattle.std.specs.List.{All}
use Rattle.m3_model.specs.declared.limits.TheConstants.{NUMBER_END}
use Rattle.m3_model.specs.declared.rules.MetaState.{MetaState}
use Rattle.m3_outside.specs.Files.{Files}
use Rattle.m3_outside.specs.DiskState.{DiskState, Told, StepOf}
use Rattle.m3_outside.specs.declared.file_name.FileName.{FileName}
use Rattle.commit_log.specs.Contents.{is_segment, numbers, PartsHold}
use Rattle.commit_log.specs.Cutting.{segments_below}
use Rattle.commit_log.specs.LogEnd.{LogEnd, LogEndStands, IsReadyFor, NoneFrom}
use Rattle.commit_log.specs.Segment.{segment, Adds}
use Rattle.meta_bytes.specs.States.{IsMetaState}
use Rattle.placement_log.specs.States.{payload_bytes, last_after}

-- each chunk of the log is the payload of a state, and this is the last state, or none where there are no chunks
pub record MetaHolds (last : Option MetaState) (files : Files) : Type 0 where
  pub states : List MetaState
  pub are : All IsMetaState states
  pub log : PartsHold (numbers files) files (map payload_bytes states)
  pub last_is : last ≡ last_after None states

-- files that are no segments stay
abbrev pub ElseStays : Files → Files → Type 0
ElseStays old new = (q : FileName) → is_segment q ≡ false → get new q ≡ get old q

-- files hold the last state that they held
pub record KeepsLast (old new : Files) : Type 0 where
  pub last : (last : Option MetaState) → MetaHolds last old → MetaHolds last new
  pub others : ElseStays old new

-- they hold what they held, or this state
pub record MaySave (state : MetaState) (old new : Files) : Type 0 where
  pub last : (last : Option MetaState) → MetaHolds last old → MetaHolds last new ⊎ MetaHolds (Some state) new
  pub others : ElseStays old new

-- they hold this state
abbrev pub Saves : MetaState → Files → Files → Type 0
Saves state old new = (last : Option MetaState) → MetaHolds last old → MetaHolds (Some state) new

abbrev pub all_but_last : {X : Type 0} → List X → List X
all_but_last xs = take (length xs - 1) xs

-- the log of the meta disk as its owner knows it: the number for its first segment, its end once that was begun, the bytes that are to be saved, and the
-- files that go then
pub record MetaEnd : Type 0 where
  pub next : ℕ
  pub log : Option LogEnd
  pub payload : List ℕ
  pub older : List FileName

-- a log that was begun stands; where it wasn't, no segment has the next number or a higher one
abbrev pub LogStands : Option LogEnd → ℕ → DiskState → Type 0
LogStands (Some end) next d = LogEndStands end d
LogStands None next d = Told d (NoneFrom next)

-- the log is as its owner knows it
pub record MetaStands (m : MetaEnd) (d : DiskState) : Type 0 where
  pub log : LogStands m.log m.next d
  pub some : 1 ≤ m.next
  pub few : m.next ≤ NUMBER_END

-- a chunk of n bytes may be appended
pub record HasRoom (m : MetaEnd) (n : ℕ) (d : DiskState) : Type 0 where
  pub end : LogEnd
  pub begun : m.log ≡ Some end
  pub ready : IsReadyFor end n d

-- all is there that a save of this state takes
pub record IsReadyToSave (m : MetaEnd) (state : MetaState) (d : DiskState) : Type 0 where
  pub state_is : IsMetaState state
  pub stands : MetaStands m d
  pub end : LogEnd
  pub begun : m.log ≡ Some end
  pub payload : m.payload ≡ payload_bytes state
  pub ready : IsReadyFor end (length m.payload) d
  pub older : Told d (λ files. m.older ≡ segments_below end.number files)
  pub room : 5 + length m.older ≤ d.spare

-- the state's payload is the last chunk now, whatever a stop leaves; the log ends in the same segment
pub record Appended (m m_new : MetaEnd) (state : MetaState) (old new : DiskState) : Type 0 where
  pub end : LogEnd
  pub begun : m.log ≡ Some end
  pub end_new : LogEnd
  pub begun_new : m_new.log ≡ Some end_new
  pub same : end_new.number ≡ end.number
  pub added : old.tells ≡ true → (c : Files) → new.images c → StepOf (Adds (segment end.number) (payload_bytes state)) old.images c

-- the log's segment alone is left, for reads and after each stop
pub record Sweeps (m : MetaEnd) (d : DiskState) : Type 0 where
  pub end : LogEnd
  pub begun : m.log ≡ Some end
  pub now : numbers d.files ≡ end.number ∷ []
  pub stop : (c : Files) → d.images c → numbers c ≡ end.number ∷ []
