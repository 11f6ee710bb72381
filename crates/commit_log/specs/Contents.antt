-- What a log holds over all its segments, by ascending number.
use Rattle.std.specs.Prelude.{◌≡◌, ℕ, ◌+◌, max, List, [], ◌∷◌, ◌++◌, map, unwrap_or, Bool, ◌==◌, ◌&&◌}
use Rattle.std.specs.List.{filter}
use Rattle.std.specs.FinMap.{get, keys}
use Rattle.log_chunks.specs.m3_outside.Files.{Files}
use Rattle.log_chunks.specs.m3_outside.declared.file_name.FileName.{FileName}
use Rattle.log_chunks.specs.Fields.{StopsAt}
use Rattle.commit_log.specs.Segment.{segment, HasChunks, IsSegment}

-- the chunks of the first segment, and then those of the later ones
pub record FirstHolds (number : ℕ) (files : Files) (chunks : List (List ℕ)) (Later : List (List ℕ) → Type 0) : Type 0 where
  pub first : List (List ℕ)
  pub rest : List (List ℕ)
  pub split : chunks ≡ first ++ rest
  pub has : HasChunks (segment number) first files
  pub later : Later rest

abbrev pub PartsHold : List ℕ → Files → List (List ℕ) → Type 0
PartsHold [] files chunks = chunks ≡ []
PartsHold (n ∷ ns) files chunks = FirstHolds n files chunks (PartsHold ns files)

-- whether the file of this name is a segment
abbrev pub is_segment : FileName → Bool
is_segment name = (name.kind == 0) && ((name.ns == 0) && (name.block == 0))

-- the numbers of the segments among these names
abbrev pub numbers_of : List FileName → List ℕ
numbers_of names = map (λ name. name.number) (filter is_segment names)

-- the numbers of the segments, ascending
abbrev pub numbers : Files → List ℕ
numbers files = numbers_of (keys files)

-- one above all of these, and 1 where there are none
abbrev pub next_after : List ℕ → ℕ
next_after [] = 1
next_after (n ∷ ns) = max (n + 1) (next_after ns)

-- the log of these files: its chunks by ascending segment, and the number for its next segment
pub record LogHolds (chunks : List (List ℕ)) (next : ℕ) (files : Files) : Type 0 where
  pub parts : PartsHold (numbers files) files chunks
  pub next_is : next ≡ next_after (numbers files)

-- the bytes of the segment of this number; none where it isn't there
abbrev pub segment_bytes : ℕ → Files → List ℕ
segment_bytes number files = unwrap_or (get files (segment number)) []

-- the bytes of the segment of this number are no segment's, by this offset: some segment begins with those before it, and none with those up to it
abbrev pub HasDamage : ℕ → ℕ → Files → Type 0
HasDamage number at files = StopsAt IsSegment (segment_bytes number files) at

-- of these segments the one of this number is damaged at the offset, and those before it are whole
pub record FirstDamaged (ns : List ℕ) (number at : ℕ) (files : Files) : Type 0 where
  pub before : List ℕ
  pub after : List ℕ
  pub split : ns ≡ before ++ number ∷ after
  pub chunks : List (List ℕ)
  pub whole : PartsHold before files chunks
  pub damage : HasDamage number at files
