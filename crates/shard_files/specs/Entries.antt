-- Entries of a replica's log, as bytes.
use Rattle.std.specs.Prelude.{◌≡◌, ⊤, ℕ, ◌-◌, ◌<◌, ◌≤◌, ◌^◌, List, [], ◌∷◌, length}
use Rattle.commit_log.specs.m3_model.declared.point.Point.{Point}
use Rattle.commit_log.specs.wire_bytes.Fields.{StopsAt}
use Rattle.commit_log.specs.wire_bytes.Entries.{AnEntry, ArePoints, PointsStand, points_entry, fence_entry, tenure_entry}
use Rattle.commit_log.specs.wire_bytes.Points.{PointStands}
use Rattle.commit_log.specs.wire_bytes.declared.points.PointAt.{PointAt}
use Rattle.commit_log.specs.wire_bytes.declared.entry_read.EntryAt.{EntryAt}
use Rattle.commit_log.specs.wire_bytes.declared.entry_read.EntryAt.TheVariants as found
use Rattle.shard_files.specs.declared.entries.LogEntry.{LogEntry}
use Rattle.shard_files.specs.declared.entries.LogEntry.TheVariants as entry
use Rattle.shard_files.specs.declared.entries.EntryErr.{EntryErr}
use Rattle.shard_files.specs.declared.entries.EntryErr.TheVariants as refused

-- the bytes of an entry
abbrev pub spelled : LogEntry → List ℕ
spelled (entry.Points ps) = points_entry ps
spelled (entry.Fence n) = fence_entry n
spelled (entry.Tenure n) = tenure_entry n

-- the entry's values are within their bounds
abbrev pub IsWithin : LogEntry → Type 0
IsWithin (entry.Points ps) = ArePoints ps
IsWithin (entry.Fence n) = n < 2 ^ 64
IsWithin (entry.Tenure n) = n < 2 ^ 64

abbrev pub AreWithin : List LogEntry → Type 0
AreWithin [] = ⊤
AreWithin (e ∷ es) = IsWithin e × AreWithin es

-- these bytes are this entry's
pub record IsEntry (bytes : List ℕ) (e : LogEntry) : Type 0 where
  pub within : IsWithin e
  pub is : bytes ≡ spelled e

-- these bytes stop to be an entry at the offset; memory may always be wanted
abbrev pub MayBreak : List ℕ → EntryErr → Type 0
MayBreak bytes refused.Memory = ⊤
MayBreak bytes (refused.Form at) = StopsAt AnEntry bytes at

-- the same of bytes that stand at this offset
abbrev pub MayBreakFrom : ℕ → List ℕ → EntryErr → Type 0
MayBreakFrom from bytes refused.Memory = ⊤
MayBreakFrom from bytes (refused.Form at) = (from ≤ at) × StopsAt AnEntry bytes (at - from)

-- the offset behind the entry
abbrev pub end_of : EntryAt → ℕ
end_of (found.Points count from next) = next
end_of (found.Fence n next) = next
end_of (found.Tenure n next) = next

-- some point stands at the offset
pub record HasPoint (bytes : List ℕ) (at : ℕ) : Type 0 where
  pub p : PointAt
  pub stands : PointStands bytes at p

-- so many points stand from the offset on
pub record HavePoints (count : ℕ) (bytes : List ℕ) (from : ℕ) : Type 0 where
  pub ps : List Point
  pub next : ℕ
  pub counted : length ps ≡ count
  pub stand : PointsStand ps bytes from next
