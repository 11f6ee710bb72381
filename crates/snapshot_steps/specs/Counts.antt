-- How many segments a log has, and the newest snapshot beside it, by numbers that are kept in memory.
use Rattle.std.specs.Prelude.{◌≡◌, ℕ, ◌+◌, ◌<◌, length}
use Rattle.m3_model.specs.declared.limits.TheConstants.{NUMBER_END}
use Rattle.snapshot_files.specs.m3_outside.Files.{Files}
use Rattle.snapshot_files.specs.commit_log.Contents.{numbers, next_after}
use Rattle.snapshot_files.specs.commit_log.LogEnd.{LogEnd}
use Rattle.snapshot_files.specs.shard_files.Parts.{IsNewestNumber}

-- The log ends in its last segment. Of the numbers up to its own so many are no segment's, and the newest snapshot that counts has this number, 0 where none
-- counts.
pub record AreCounted (log : LogEnd) (missing snapshot : ℕ) (files : Files) : Type 0 where
  pub limit : log.number < NUMBER_END
  pub last : next_after (numbers files) ≡ log.number + 1
  pub segments : length (numbers files) + missing ≡ log.number + 1
  pub newest : IsNewestNumber snapshot files

-- What was counted is still counted where a log went on: as many segments came as its number rose by, and the newest snapshot is the same.
abbrev pub StayCounted : LogEnd → LogEnd → Files → Files → Type 0
StayCounted old_end new_end old new = (missing snapshot : ℕ) → AreCounted old_end missing snapshot old → AreCounted new_end missing snapshot new
