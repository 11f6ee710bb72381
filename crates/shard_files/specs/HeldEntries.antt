-- What the log of a replica holds: the points of its entries, their greatest tenure and their greatest fence.
use Rattle.std.specs.Prelude.{◌≡◌, ℕ, max, List, [], ◌∷◌, ◌++◌, map}
use Rattle.commit_log.specs.m3_model.declared.point.Point.{Point}
use Rattle.commit_log.specs.m3_outside.Files.{Files}
use Rattle.commit_log.specs.Contents.{numbers, PartsHold}
use Rattle.shard_files.specs.declared.entries.LogEntry.{LogEntry}
use Rattle.shard_files.specs.declared.entries.LogEntry.TheVariants as entry
use Rattle.shard_files.specs.Entries.{spelled, AreWithin}

-- a reader of these files finds these entries
pub record HoldsEntries (entries : List LogEntry) (files : Files) : Type 0 where
  pub parts : PartsHold (numbers files) files (map spelled entries)
  pub within : AreWithin entries

abbrev pub points_in : LogEntry → List Point
points_in (entry.Points ps) = ps
points_in (entry.Fence n) = []
points_in (entry.Tenure n) = []

-- 0 where the entry has no tenure
abbrev pub tenure_in : LogEntry → ℕ
tenure_in (entry.Points ps) = 0
tenure_in (entry.Fence n) = 0
tenure_in (entry.Tenure n) = n

-- a tenure is a fence too; 0 where the entry has none
abbrev pub fence_in : LogEntry → ℕ
fence_in (entry.Points ps) = 0
fence_in (entry.Fence n) = n
fence_in (entry.Tenure n) = n

-- the points of all entries, also several of one key
abbrev pub points_of : List LogEntry → List Point
points_of [] = []
points_of (e ∷ es) = points_in e ++ points_of es

-- the greatest tenure, and 0 where there is none
abbrev pub tenure_of : List LogEntry → ℕ
tenure_of [] = 0
tenure_of (e ∷ es) = max (tenure_in e) (tenure_of es)

-- the greatest fence or tenure, and 0 where there is none
abbrev pub fence_of : List LogEntry → ℕ
fence_of [] = 0
fence_of (e ∷ es) = max (fence_in e) (fence_of es)

-- these entries have these points, this tenure and this fence
pub record AmountTo (entries : List LogEntry) (points : List Point) (tenure fence : ℕ) : Type 0 where
  pub points_are : points ≡ points_of entries
  pub tenure_is : tenure ≡ tenure_of entries
  pub fence_is : fence ≡ fence_of entries

-- the log holds these points, also several of one key, this tenure and this fence
pub record LogAmountsTo (points : List Point) (tenure fence : ℕ) (files : Files) : Type 0 where
  pub entries : List LogEntry
  pub holds : HoldsEntries entries files
  pub amount : AmountTo entries points tenure fence
