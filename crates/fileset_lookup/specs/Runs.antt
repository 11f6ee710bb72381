-- What summaries tell of an identifier: the rows among which its series is, if it is there.
use Rattle.std.specs.Prelude.{◌≡◌, ℕ, ◌%◌, ◌≤◌, List, [], ◌∷◌, ◌++◌, length, Option, Some, None, Result, Ok, Err}
use Rattle.wire_bytes.specs.m3_model.Members.{IsIn}
use Rattle.wire_bytes.specs.m3_model.Tags.{IsBelow}
use Rattle.wire_bytes.specs.m3_model.declared.point.Series.{Series}
use Rattle.wire_bytes.specs.Volumes.{index_bytes}
use Rattle.wire_bytes.specs.declared.wire_err.WireErr.{WireErr}
use Rattle.fileset_lookup.specs.declared.summaries.Piece.{Piece}

-- such a value is read
abbrev pub Gives : {X : Type 0} → Result X WireErr → (X → Type 0) → Type 0
Gives (Ok x) P = P x
Gives (Err e) P = ⊥

-- each of the rows is above the identifier
abbrev pub AreAbove : List ℕ → List Series → Type 0
AreAbove id rows = (s : Series) → IsIn rows s → IsBelow id s.id

-- The rows from one that the summaries name up to the next such: from the last one named that isn't above the identifier.
pub record Run (id : List ℕ) (rows : List Series) : Type 0 where
  pub before : List Series
  pub first : Series
  pub others : List Series
  pub later : List Series
  pub split : rows ≡ before ++ (first ∷ others ++ later)
  pub named : length before % 16 ≡ 0
  pub few : length others ≤ 15
  pub full : 1 ≤ length later → length others ≡ 15
  pub below : (s : Series) → IsIn before s → IsBelow s.id id
  pub reached : ¬ IsBelow id first.id
  pub above : AreAbove id later

-- the offset, where there are rows behind it
abbrev pub offset_of : List Series → ℕ → Option ℕ
offset_of [] offset = None
offset_of (s ∷ later) offset = Some offset

-- the piece is where the entries of the run stand in the index
pub record IsPiece (format : ℕ) (id : List ℕ) (rows : List Series) (piece : Piece) : Type 0 where
  pub run : Run id rows
  pub from : piece.from ≡ length (index_bytes format run.before)
  pub to : piece.to ≡ offset_of run.later (length (index_bytes format (run.before ++ run.first ∷ run.others)))

-- there is such a piece, or each row is above the identifier
abbrev pub FindsPiece : ℕ → List ℕ → List Series → Option Piece → Type 0
FindsPiece format id rows (Some piece) = IsPiece format id rows piece
FindsPiece format id rows None = AreAbove id rows

-- where the entries of the run begin in the index
pub record IsStart (format : ℕ) (id : List ℕ) (rows : List Series) (at : ℕ) : Type 0 where
  pub run : Run id rows
  pub is : at ≡ length (index_bytes format run.before)

abbrev pub FindsStart : ℕ → List ℕ → List Series → Option ℕ → Type 0
FindsStart format id rows (Some at) = IsStart format id rows at
FindsStart format id rows None = AreAbove id rows

-- the piece from one offset to the other, where there is the first
abbrev pub piece_from : Option ℕ → Option ℕ → Option Piece
piece_from None to = None
piece_from (Some from) to = Some (record { from = from; to = to })
