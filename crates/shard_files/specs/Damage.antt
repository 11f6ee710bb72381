-- The first damage of a replica's files: in volumes by name, then in the newest snapshot, then in segments by number.
use Rattle.std.specs.Prelude.{◌≡◌, ◌⊎◌, ◌+◌, ◌<◌, ◌≤◌, ◌^◌, ℕ, List, [], ◌∷◌, ◌++◌, map, length, take, drop, unwrap_or, Option, Some, None}
use Rattle.std.specs.FinMap.{get}
use Rattle.sha2.specs.Sha256.{sha256}
use Rattle.commit_log.specs.m3_model.Members.{IsIn}
use Rattle.commit_log.specs.m3_model.declared.limits.TheConstants.{SEGMENT_BYTES}
use Rattle.commit_log.specs.m3_model.declared.point.Point.{Point}
use Rattle.commit_log.specs.m3_model.declared.point.Series.{Series}
use Rattle.commit_log.specs.m3_outside.Files.{Files, IsAbsent}
use Rattle.commit_log.specs.m3_outside.declared.file_name.FileName.{FileName}
use Rattle.commit_log.specs.Contents.{numbers}
use Rattle.commit_log.specs.Segment.{segment, chunk_bytes, written, IsSegment}
use Rattle.commit_log.specs.wire_bytes.Fields.{StopsAt}
use Rattle.commit_log.specs.wire_bytes.Entries.{AnEntry}
use Rattle.commit_log.specs.wire_bytes.Volumes.{VolumeHead, IsHead, IsVolume, Part, Info, Summaries, Index, Data, Bloom, Digests, Checkpoint, info_of, data_bytes, part_bytes}
use Rattle.commit_log.specs.wire_bytes.Snapshots.{Snapshot, IsSnapshot, snapshot_bytes}
use Rattle.shard_files.specs.Parts.{part_name, part_of, IsRead, counted_volumes, counted_snapshots, snapshot_data, snapshot_checkpoint}
use Rattle.shard_files.specs.FilesHold.{FilesHold}

-- What is told of a damaged file: the first offset at which no bytes of its form go on, or the digest that is kept of it and the one that is found.
pub data Damage : Type 0 where
  OfForm : FileName → ℕ → Damage
  OfDigest : FileName → List ℕ → List ℕ → Damage

-- the bytes of the file; none where it isn't there
abbrev pub bytes_at : Files → FileName → List ℕ
bytes_at files name = unwrap_or (get files name) []

-- one of these finds this damage, and none before it finds any
pub record FirstFound {X : Type 0} (Finds : X → Damage → Type 0) (all : List X) (damage : Damage) : Type 0 where
  pub before : List X
  pub one : X
  pub after : List X
  pub split : all ≡ before ++ one ∷ after
  pub none : (x : X) → IsIn before x → (other : Damage) → ¬ (Finds x other)
  pub found : Finds one damage

-- the file hasn't the form, by this offset
pub record BreaksForm (Form : List ℕ → Type 0) (files : Files) (name : FileName) (damage : Damage) : Type 0 where
  pub at : ℕ
  pub stops : StopsAt Form (bytes_at files name) at
  pub is : damage ≡ OfForm name at

-- the file isn't there, or its digest is another one than is kept
pub data BreaksDigest (kept : List ℕ) (files : Files) (name : FileName) (damage : Damage) : Type 0 where
  IsGone : IsAbsent name files → damage ≡ OfForm name 0 → BreaksDigest kept files name damage
  Differs : (bytes : List ℕ) → get files name ≡ Some bytes → ¬ (kept ≡ sha256 bytes) → damage ≡ OfDigest name kept (sha256 bytes) → BreaksDigest kept files name damage

-- ---- a volume

-- an open gate and 32 bytes
pub record IsGate (bytes : List ℕ) : Type 0 where
  pub digest : List ℕ
  pub long : length digest ≡ 32
  pub is : bytes ≡ 1 ∷ digest

-- the info of a volume of this head, by its name, of any counts of series and points
pub record IsInfo (ns start number : ℕ) (v : VolumeHead) (bytes : List ℕ) : Type 0 where
  pub series : ℕ
  pub points : ℕ
  pub values : IsHead v
  pub read : IsRead v.format
  pub named : part_of Info v ≡ part_name Info ns start number
  pub some : 1 ≤ series
  pub series_fits : series < 2 ^ 32
  pub points_fit : points < 2 ^ 64
  pub is : bytes ≡ info_of v series points

-- the info of some head
pub record IsSomeInfo (ns start number : ℕ) (bytes : List ℕ) : Type 0 where
  pub head : VolumeHead
  pub info : IsInfo ns start number head bytes

-- the data of some volume of the head that the info has
pub record IsData (ns start number : ℕ) (files : Files) (bytes : List ℕ) : Type 0 where
  pub head : VolumeHead
  pub rows : List Series
  pub info : IsInfo ns start number head (bytes_at files (part_name Info ns start number))
  pub values : IsVolume head rows
  pub is : bytes ≡ data_bytes rows

-- this part of the volume whose head the info has and whose rows the data has
pub record IsDerived (part : Part) (ns start number : ℕ) (files : Files) (bytes : List ℕ) : Type 0 where
  pub head : VolumeHead
  pub rows : List Series
  pub info : IsInfo ns start number head (bytes_at files (part_name Info ns start number))
  pub values : IsVolume head rows
  pub body : bytes_at files (part_name Data ns start number) ≡ data_bytes rows
  pub is : bytes ≡ part_bytes part head rows

-- The form of each file: a gate and a digest, five digests, the data of a volume of the info's head, and all else what the data gives, also the counts of
-- the info.
abbrev pub FormOf : Part → ℕ → ℕ → ℕ → Files → List ℕ → Type 0
FormOf Checkpoint ns start number files bytes = IsGate bytes
FormOf Digests ns start number files bytes = length bytes ≡ 160
FormOf Data ns start number files bytes = IsData ns start number files bytes
FormOf Info ns start number files bytes = IsDerived Info ns start number files bytes
FormOf Summaries ns start number files bytes = IsDerived Summaries ns start number files bytes
FormOf Index ns start number files bytes = IsDerived Index ns start number files bytes
FormOf Bloom ns start number files bytes = IsDerived Bloom ns start number files bytes

-- the digest that is kept of the part: in the checkpoint that of the digests, and in these those of the five others
abbrev pub kept_of : Part → ℕ → ℕ → ℕ → Files → Option (List ℕ)
kept_of Checkpoint ns start number files = None
kept_of Digests ns start number files = Some (drop 1 (bytes_at files (part_name Checkpoint ns start number)))
kept_of Info ns start number files = Some (take 32 (bytes_at files (part_name Digests ns start number)))
kept_of Summaries ns start number files = Some (take 32 (drop 32 (bytes_at files (part_name Digests ns start number))))
kept_of Index ns start number files = Some (take 32 (drop 64 (bytes_at files (part_name Digests ns start number))))
kept_of Data ns start number files = Some (take 32 (drop 96 (bytes_at files (part_name Digests ns start number))))
kept_of Bloom ns start number files = Some (take 32 (drop 128 (bytes_at files (part_name Digests ns start number))))

-- what is looked at in a file of a volume
pub data Look : Type 0 where
  AtForm : Part → Look
  AtDigest : Part → Look
  AtHead : Look

-- In this order: all digests, then the head that the info has, the data, and what the data gives, of the lowest file first.
abbrev pub looks : List Look
looks =
    AtForm Checkpoint ∷ AtDigest Digests ∷ AtForm Digests ∷ AtDigest Info ∷ AtDigest Summaries ∷ AtDigest Index ∷ AtDigest Data ∷ AtDigest Bloom
    ∷ AtHead ∷ AtForm Data ∷ AtForm Info ∷ AtForm Summaries ∷ AtForm Index ∷ AtForm Bloom ∷ []

-- the digest of the part is kept, and the file breaks it
pub record BreaksKept (part : Part) (ns start number : ℕ) (files : Files) (damage : Damage) : Type 0 where
  pub kept : List ℕ
  pub is_kept : kept_of part ns start number files ≡ Some kept
  pub breaks : BreaksDigest kept files (part_name part ns start number) damage

-- this look finds this damage
abbrev pub LookFinds : ℕ → ℕ → ℕ → Files → Look → Damage → Type 0
LookFinds ns start number files (AtForm part) damage = BreaksForm (FormOf part ns start number files) files (part_name part ns start number) damage
LookFinds ns start number files (AtDigest part) damage = BreaksKept part ns start number files damage
LookFinds ns start number files AtHead damage = BreaksForm (IsSomeInfo ns start number) files (part_name Info ns start number) damage

-- ---- a snapshot and a segment

-- the bytes of a snapshot of this number
pub record IsBody (number : ℕ) (bytes : List ℕ) : Type 0 where
  pub snapshot : Snapshot
  pub values : IsSnapshot snapshot
  pub numbered : snapshot.number ≡ number
  pub is : bytes ≡ snapshot_bytes snapshot

-- what is looked at in a snapshot: the checkpoint's form, the data's digest, and the data's form
pub data SnapshotLook : Type 0 where
  AtGate : SnapshotLook
  AtKept : SnapshotLook
  AtBody : SnapshotLook

abbrev pub SnapshotFinds : ℕ → Files → SnapshotLook → Damage → Type 0
SnapshotFinds number files AtGate damage = BreaksForm IsGate files (snapshot_checkpoint number) damage
SnapshotFinds number files AtKept damage = BreaksDigest (drop 1 (bytes_at files (snapshot_checkpoint number))) files (snapshot_data number) damage
SnapshotFinds number files AtBody damage = BreaksForm (IsBody number) files (snapshot_data number) damage

-- a whole chunk of a segment is no entry, by this offset: that in the chunk, behind its gate and its length
pub record EntryStops (bytes : List ℕ) (at : ℕ) : Type 0 where
  pub before : List (List ℕ)
  pub chunk : List ℕ
  pub rest : List ℕ
  pub split : bytes ≡ written before ++ (chunk_bytes chunk ++ rest)
  pub inside : length (written before ++ chunk_bytes chunk) ≤ SEGMENT_BYTES
  pub inner : ℕ
  pub stops : StopsAt AnEntry chunk inner
  pub offset : at ≡ length (written before) + 5 + inner

-- the bytes are no segment of entries, by this offset: no segment of a log goes on here, or a chunk stops to be an entry
abbrev pub SegmentStops : List ℕ → ℕ → Type 0
SegmentStops bytes at = StopsAt IsSegment bytes at ⊎ EntryStops bytes at

-- the first such offset
pub record FirstStop (bytes : List ℕ) (at : ℕ) : Type 0 where
  pub stops : SegmentStops bytes at
  pub first : (other : ℕ) → SegmentStops bytes other → at ≤ other

-- the first such offset of the segment of this number
pub record BreaksSegment (files : Files) (number : ℕ) (damage : Damage) : Type 0 where
  pub at : ℕ
  pub stops : FirstStop (bytes_at files (segment number)) at
  pub is : damage ≡ OfForm (segment number) at

-- ---- all files

-- what damage is looked for in: a volume or a snapshot by its checkpoint, and a segment by its number
pub data Location : Type 0 where
  InVolume : FileName → Location
  InSnapshot : FileName → Location
  InSegment : ℕ → Location

-- the last of the names, where there is one
abbrev pub last_of : List FileName → List FileName
last_of [] = []
last_of (name ∷ []) = name ∷ []
last_of (name ∷ names) = last_of names

-- the locations in their order; of the snapshots the newest alone
abbrev pub locations : Files → List Location
locations files = map InVolume (counted_volumes files) ++ (map InSnapshot (last_of (counted_snapshots files)) ++ map InSegment (numbers files))

-- the first damage at this location is this one
abbrev pub LocationFinds : Files → Location → Damage → Type 0
LocationFinds files (InVolume name) damage = FirstFound (LookFinds name.ns name.block name.number files) looks damage
LocationFinds files (InSnapshot name) damage = FirstFound (SnapshotFinds name.number files) (AtGate ∷ AtKept ∷ AtBody ∷ []) damage
LocationFinds files (InSegment number) damage = BreaksSegment files number damage

-- the first damage of the files is this one
abbrev pub FirstDamage : Files → Damage → Type 0
FirstDamage files damage = FirstFound (LocationFinds files) (locations files) damage

-- ---- laws

-- damaged files hold nothing
abbrev pub DamagedHoldNothing : Type 0
DamagedHoldNothing = (files : Files) (damage : Damage) → FirstDamage files damage → (points : List Point) (tenure fence : ℕ) → ¬ FilesHold points tenure fence files

-- files have one first damage at most
abbrev pub DamageIsOne : Type 0
DamageIsOne = (files : Files) (one other : Damage) → FirstDamage files one → FirstDamage files other → one ≡ other

-- where digests are told, they differ, and the one that is found is that of the file's bytes
pub record DigestsDiffer (files : Files) (name : FileName) (kept found : List ℕ) : Type 0 where
  pub differ : ¬ (kept ≡ found)
  pub bytes : List ℕ
  pub there : get files name ≡ Some bytes
  pub is_found : found ≡ sha256 bytes

abbrev pub ToldDigestsDiffer : Type 0
ToldDigestsDiffer = (files : Files) (name : FileName) (kept found : List ℕ) → FirstDamage files (OfDigest name kept found) → DigestsDiffer files name kept found
