-- One spelling for each volume and each snapshot, and bytes worked out.
use Rattle.std.specs.Prelude.{◌≡◌, ℕ, pos, List, [], ◌∷◌, ◌++◌, length, codes}
use Rattle.m3_model.specs.Members.{IsIn}
use Rattle.m3_model.specs.declared.point.Series.{Series}
use Rattle.wire_bytes.specs.Fields.{StopsAt}
use Rattle.wire_bytes.specs.Volumes.{VolumeHead, IsVolume, Info, Data, part_bytes, row_bytes, index_entry, summaries_bytes}
use Rattle.wire_bytes.specs.Snapshots.{Snapshot, IsSnapshot, snapshot_bytes}

-- volumes of which info and data are the same are one
abbrev pub VolumesAreOne : Type 0
VolumesAreOne = (v w : VolumeHead) (rows others : List Series) → IsVolume v rows → IsVolume w others → part_bytes Info v rows ≡ part_bytes Info w others → part_bytes Data v rows ≡ part_bytes Data w others → (v ≡ w) × (rows ≡ others)

-- snapshots of the same bytes are one
abbrev pub SnapshotsAreOne : Type 0
SnapshotsAreOne = (s t : Snapshot) → IsSnapshot s → IsSnapshot t → snapshot_bytes s ≡ snapshot_bytes t → s ≡ t

-- Where a form has one spelling, bytes that end within it stop at their end, bytes that go on behind it stop at its end, and others stop at the first byte that
-- differs.
pub record OneSpellingStops : Type 0 where
  pub short : (word bytes : List ℕ) (next : ℕ) (more : List ℕ) → word ≡ bytes ++ next ∷ more → StopsAt (λ b. b ≡ word) bytes (length bytes)
  pub long : (word bytes : List ℕ) (next : ℕ) (more : List ℕ) → bytes ≡ word ++ next ∷ more → StopsAt (λ b. b ≡ word) bytes (length word)
  pub other : (word bytes front : List ℕ) (due stands : ℕ) (more rest : List ℕ) → word ≡ front ++ due ∷ more → bytes ≡ front ++ stands ∷ rest → ¬ (due ≡ stands) → StopsAt (λ b. b ≡ word) bytes (length front)

-- bytes stop at one offset at most
abbrev pub StopsAtOne : Type 0
StopsAtOne = (form : List (List ℕ)) (bytes : List ℕ) (at other : ℕ) → StopsAt (IsIn form) bytes at → StopsAt (IsIn form) bytes other → at ≡ other

-- ---- worked out

-- the series `hello` with the value 5 at 100
abbrev pub hello : Series
hello = record { id = codes "hello"; points = (100, pos 5) ∷ [] }

-- its record in the data
abbrev pub HelloRow : Type 0
HelloRow = row_bytes hello ≡ 0 ∷ 5 ∷ 104 ∷ 101 ∷ 108 ∷ 108 ∷ 111 ∷ 0 ∷ 0 ∷ 0 ∷ 1 ∷ 0 ∷ 0 ∷ 0 ∷ 0 ∷ 0 ∷ 0 ∷ 0 ∷ 100 ∷ 0 ∷ 0 ∷ 0 ∷ 0 ∷ 0 ∷ 0 ∷ 0 ∷ 5 ∷ []

-- its entry in the index, in format 1 and in format 2
abbrev pub HelloEntry : Type 0
HelloEntry = index_entry 1 0 hello ≡ 0 ∷ 5 ∷ 104 ∷ 101 ∷ 108 ∷ 108 ∷ 111 ∷ 0 ∷ 0 ∷ 0 ∷ 0 ∷ 0 ∷ 0 ∷ 0 ∷ 0 ∷ 0 ∷ 0 ∷ 0 ∷ 27 ∷ []

abbrev pub HelloEntryInFormat2 : Type 0
HelloEntryInFormat2 = index_entry 2 0 hello ≡ index_entry 1 0 hello ++ (0 ∷ 0 ∷ 0 ∷ 0 ∷ 0 ∷ 0 ∷ 0 ∷ 100 ∷ 0 ∷ 0 ∷ 0 ∷ 0 ∷ 0 ∷ 0 ∷ 0 ∷ 100 ∷ [])

-- series of one byte each, from this one on
abbrev pub letters : List ℕ → List Series
letters [] = []
letters (c ∷ cs) = record { id = c ∷ []; points = [] } ∷ letters cs

-- of 18 series the summaries have the first and the seventeenth, whose entry comes behind 16 entries of 15 bytes
abbrev pub EverySixteenth : Type 0
EverySixteenth = summaries_bytes 1 (letters (codes "abcdefghijklmnopqr")) ≡ 0 ∷ 1 ∷ 97 ∷ 0 ∷ 0 ∷ 0 ∷ 0 ∷ 0 ∷ 0 ∷ 0 ∷ 0 ∷ 0 ∷ 1 ∷ 113 ∷ 0 ∷ 0 ∷ 0 ∷ 0 ∷ 0 ∷ 0 ∷ 0 ∷ 240 ∷ []
