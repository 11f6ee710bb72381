-- What is read of the data of a snapshot.
use Rattle.std.specs.Prelude.{◌≡◌, ⊤, ℕ, List, length}
use Rattle.fileset_check.specs.wire_bytes.Snapshots.{Snapshot, IsSnapshot, snapshot_bytes}
use Rattle.fileset_check.specs.fileset_read.declared.row_err.RowErr.{RowErr}
use Rattle.fileset_check.specs.fileset_read.declared.row_err.RowErr.TheVariants as errors
use Rattle.snapshot_files.specs.declared.body.Head.{Head}
use Rattle.snapshot_files.specs.declared.snap.Snap.{Snap}
use Rattle.snapshot_files.specs.Snaps.{seen}

-- what stands before the points of the snapshot, beside its number
abbrev pub head_in : Snapshot → Head
head_in s = record { tenure = s.tenure; fence = s.fence; first = s.first_segment; count = length s.points }

-- the bytes are the data of this snapshot, which has this number
pub record IsReadAs (number : ℕ) (bytes : List ℕ) (s : Snap) : Type 0 where
  pub values : IsSnapshot (seen s)
  pub numbered : s.number ≡ number
  pub is : bytes ≡ snapshot_bytes (seen s)

-- memory is wanted, or this isn't so
abbrev pub Refuses : Type 0 → RowErr → Type 0
Refuses P errors.Memory = ⊤
Refuses P errors.Form = ¬ P
