-- Damage of the meta disk's log.
use Rattle.std.specs.Prelude.{◌≡◌, ◌⊎◌, ⊤, ℕ, ◌-◌, ◌<◌, ◌≤◌, List, ◌∷◌, ◌++◌, length, map, take, drop, Option}
use Rattle.std.specs.List.{All}
use Rattle.sha2.specs.Sha256.{sha256}
use Rattle.m3_model.specs.declared.limits.TheConstants.{SEGMENT_BYTES}
use Rattle.m3_model.specs.declared.rules.MetaState.{MetaState}
use Rattle.m3_outside.specs.Files.{Files}
use Rattle.m3_outside.specs.declared.disk_err.DiskErr.{DiskErr}
use Rattle.m3_outside.specs.declared.disk_err.DiskErr.TheVariants as disk
use Rattle.wire_bytes.specs.Fields.{StopsAt}
use Rattle.commit_log.specs.Segment.{written, ReadsChunks, IsSegment}
use Rattle.commit_log.specs.Reading.{ChunkStands}
use Rattle.commit_log.specs.Contents.{numbers, PartsHold, segment_bytes}
use Rattle.meta_bytes.specs.Forms.{HasForm}
use Rattle.meta_bytes.specs.States.{state_form, IsMetaState}
use Rattle.placement_log.specs.States.{payload_bytes, IsNoPayload, last_after}
use Rattle.placement_log.specs.declared.open_err.OpenErr.{OpenErr}
use Rattle.placement_log.specs.declared.open_err.OpenErr.TheVariants as failures
use Rattle.placement_log.specs.declared.payload.PayloadErr.{PayloadErr}
use Rattle.placement_log.specs.declared.payload.PayloadErr.TheVariants as refused

abbrev pub of_disk : DiskErr → OpenErr
of_disk disk.Failed = failures.Disk
of_disk disk.Memory = failures.Memory

-- ---- a chunk

-- its first 32 bytes aren't the digest of those behind them
pub record DigestsDiffer (chunk kept found : List ℕ) : Type 0 where
  pub long : 32 ≤ length chunk
  pub kept_is : kept ≡ take 32 chunk
  pub found_is : found ≡ sha256 (drop 32 chunk)
  pub differ : ¬ (kept ≡ found)

-- It ends within the digest; or the digest is right, and behind it the fields of a state stop at the offset, or they are all there, but what some say doesn't
-- go with what others say, and the offset is the chunk's end.
pub data FormBreaks (chunk : List ℕ) (at : ℕ) : Type 0 where
  Short : length chunk < 32 → at ≡ length chunk → FormBreaks chunk at
  Fields : 32 ≤ at → take 32 chunk ≡ sha256 (drop 32 chunk) → StopsAt (HasForm state_form) (drop 32 chunk) (at - 32) → FormBreaks chunk at
  Disagree : 32 ≤ length chunk → take 32 chunk ≡ sha256 (drop 32 chunk) → HasForm state_form (drop 32 chunk) → at ≡ length chunk → FormBreaks chunk at

-- why the chunk is no payload; memory may always be wanted
abbrev pub MayBreakPayload : List ℕ → PayloadErr → Type 0
MayBreakPayload chunk refused.Memory = ⊤
MayBreakPayload chunk (refused.Digest kept found) = IsNoPayload chunk × DigestsDiffer chunk kept found
MayBreakPayload chunk (refused.Form at) = IsNoPayload chunk × FormBreaks chunk at

-- the same of a chunk that stands at this offset
abbrev pub MayBreakFrom : ℕ → List ℕ → PayloadErr → Type 0
MayBreakFrom from chunk refused.Memory = ⊤
MayBreakFrom from chunk (refused.Digest kept found) = IsNoPayload chunk × DigestsDiffer chunk kept found
MayBreakFrom from chunk (refused.Form at) = (from ≤ at) × IsNoPayload chunk × FormBreaks chunk (at - from)

-- ---- a segment

-- the last state of a segment with these bytes came behind the old one
pub record ReadsStates (bytes : List ℕ) (old new : Option MetaState) : Type 0 where
  pub states : List MetaState
  pub are : All IsMetaState states
  pub is : new ≡ last_after old states
  pub long : length bytes ≡ SEGMENT_BYTES
  pub reads : ReadsChunks (map payload_bytes states) bytes

-- up to this offset there are whole chunks, each of them a payload
pub record StatesStand (bytes : List ℕ) (at : ℕ) : Type 0 where
  pub states : List MetaState
  pub are : All IsMetaState states
  pub front : take at bytes ≡ written (map payload_bytes states)
  pub within : at ≤ length bytes

-- as many of the file's bytes as a segment has
abbrev pub front_of : List ℕ → List ℕ
front_of file = take SEGMENT_BYTES file

-- the first chunk in these bytes that is no payload is none for this cause
pub record ChunkBreaks (bytes : List ℕ) (e : PayloadErr) : Type 0 where
  pub at : ℕ
  pub from : ℕ
  pub next : ℕ
  pub before : StatesStand bytes at
  pub stands : ChunkStands bytes at from next
  pub broken : MayBreakFrom from stands.payload e

-- all whole chunks in these bytes of the file are payloads, and behind them the file stops to be a segment by this offset
pub record GrammarBreaks (bytes file : List ℕ) (offset : ℕ) : Type 0 where
  pub at : ℕ
  pub before : StatesStand bytes at
  pub none : (from next : ℕ) → ¬ (ChunkStands bytes at from next)
  pub stops : StopsAt IsSegment file offset

-- why the file is no segment of states; memory may always be wanted
abbrev pub MayStop : List ℕ → PayloadErr → Type 0
MayStop file refused.Memory = ⊤
MayStop file (refused.Digest kept found) = ChunkBreaks (front_of file) (refused.Digest kept found)
MayStop file (refused.Form offset) = ChunkBreaks (front_of file) (refused.Form offset) ⊎ GrammarBreaks (front_of file) file offset

-- ---- the log

-- the same, of the segment of this number
abbrev pub in_segment : ℕ → PayloadErr → OpenErr
in_segment number refused.Memory = failures.Memory
in_segment number (refused.Digest kept found) = failures.Digest number kept found
in_segment number (refused.Form at) = failures.Form number at

-- this segment stops so; a fault has its own cause, and memory may always be wanted
abbrev pub MayBeBroken : ℕ → Files → OpenErr → Type 0
MayBeBroken number files failures.Disk = ⊤
MayBeBroken number files failures.Memory = ⊤
MayBeBroken number files (failures.Digest n kept found) = (n ≡ number) × MayStop (segment_bytes number files) (refused.Digest kept found)
MayBeBroken number files (failures.Form n at) = (n ≡ number) × MayStop (segment_bytes number files) (refused.Form at)

-- the last state of these segments came behind the old one
pub record FindsStates (ns : List ℕ) (files : Files) (old new : Option MetaState) : Type 0 where
  pub states : List MetaState
  pub are : All IsMetaState states
  pub is : new ≡ last_after old states
  pub has : PartsHold ns files (map payload_bytes states)

-- the lowest segment that is none of states stops so; those below it hold states
pub record FirstBroken (files : Files) (e : OpenErr) : Type 0 where
  pub before : List ℕ
  pub number : ℕ
  pub after : List ℕ
  pub split : numbers files ≡ before ++ number ∷ after
  pub states : List MetaState
  pub are : All IsMetaState states
  pub whole : PartsHold before files (map payload_bytes states)
  pub broken : MayBeBroken number files e

-- why these files hold no states; a fault has its own cause, and memory may always be wanted
abbrev pub MayBeDamaged : Files → OpenErr → Type 0
MayBeDamaged files failures.Disk = ⊤
MayBeDamaged files failures.Memory = ⊤
MayBeDamaged files (failures.Digest n kept found) = FirstBroken files (failures.Digest n kept found)
MayBeDamaged files (failures.Form n at) = FirstBroken files (failures.Form n at)
