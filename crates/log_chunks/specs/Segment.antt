-- What a log segment holds, as its bytes say.
use Rattle.std.specs.Prelude.{◌≡◌, ◌⊎◌, ⊤, ℕ, ◌+◌, ◌-◌, ◌<◌, ◌≤◌, List, [], ◌∷◌, ◌++◌, length, replicate, Some}
use Rattle.std.specs.FinMap.{get}
use Rattle.byteorder.specs.Endian.{big_bytes}
use Rattle.wire_bytes.specs.m3_model.declared.limits.TheConstants.{SEGMENT_BYTES}
use Rattle.m3_outside.specs.declared.file_name.FileName.{FileName}
use Rattle.m3_outside.specs.Files.{Files}
use Rattle.m3_outside.specs.DiskState.{DiskState, Told, EachImage}

abbrev pub segment : ℕ → FileName
segment number = record { kind = 0; ns = 0; block = 0; number = number }

-- an open gate, the length, and the payload
abbrev pub chunk_bytes : List ℕ → List ℕ
chunk_bytes payload = 1 ∷ (big_bytes 4 (length payload) ++ payload)

-- a gate that isn't open, or too few bytes for a chunk
abbrev pub IsEnd : List ℕ → Type 0
IsEnd [] = ⊤
IsEnd (gate ∷ rest) = (gate ≡ 1 → ⊥) ⊎ (length rest < 4)

-- these bytes are these chunks, and then an end
abbrev pub ReadsChunks : List (List ℕ) → List ℕ → Type 0
ReadsChunks [] bytes = IsEnd bytes
ReadsChunks (chunk ∷ chunks) bytes = (rest : List ℕ) × (bytes ≡ chunk_bytes chunk ++ rest) × ReadsChunks chunks rest

-- the bytes of a segment: so many, chunks and then an end
pub record IsSegment (bytes : List ℕ) : Type 0 where
  pub chunks : List (List ℕ)
  pub long : length bytes ≡ SEGMENT_BYTES
  pub reads : ReadsChunks chunks bytes

-- the segment is there and has these chunks
pub record HasChunks (name : FileName) (chunks : List (List ℕ)) (files : Files) : Type 0 where
  pub file : List ℕ
  pub there : get files name ≡ Some file
  pub size : length file ≡ SEGMENT_BYTES
  pub reads : ReadsChunks chunks file

abbrev pub OthersStay : FileName → Files → Files → Type 0
OthersStay name old new = (q : FileName) → (q ≡ name → ⊥) → get new q ≡ get old q

-- the segment's chunks, with one more or without it; all other files stay
pub record MayAdd (name : FileName) (chunk : List ℕ) (old new : Files) : Type 0 where
  pub chunks : List (List ℕ)
  pub before : HasChunks name chunks old
  pub after : HasChunks name chunks new ⊎ HasChunks name (chunks ++ chunk ∷ []) new
  pub others : OthersStay name old new

-- the segment's chunks with one more; all other files stay
pub record Adds (name : FileName) (chunk : List ℕ) (old new : Files) : Type 0 where
  pub chunks : List (List ℕ)
  pub before : HasChunks name chunks old
  pub after : HasChunks name (chunks ++ chunk ∷ []) new
  pub others : OthersStay name old new

-- whole chunks, one after another
abbrev pub written : List (List ℕ) → List ℕ
written [] = []
written (chunk ∷ chunks) = chunk_bytes chunk ++ written chunks

-- the log's segment is whole chunks up to the log's offset, and zeros behind it
pub record IsAtRest (number at : ℕ) (files : Files) : Type 0 where
  pub chunks : List (List ℕ)
  pub offset : length (written chunks) ≡ at
  pub there : get files (segment number) ≡ Some (written chunks ++ replicate (SEGMENT_BYTES - at) 0)

-- the log's segment is at rest, and a stop leaves it so
pub record IsKept (number at : ℕ) (w : DiskState) : Type 0 where
  pub rest : Told w (IsAtRest number at)
  pub synced : EachImage w (λ c. get c (segment number) ≡ get w.files (segment number))

-- and there is room for a chunk of n bytes
pub record IsReady (number at : ℕ) (n : ℕ) (w : DiskState) : Type 0 where
  pub kept : IsKept number at w
  pub room : at + 5 + n ≤ SEGMENT_BYTES
  pub spare : 5 ≤ w.spare
