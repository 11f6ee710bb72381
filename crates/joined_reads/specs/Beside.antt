-- Points in memory beside listed volumes.
use Rattle.std.specs.Prelude.{◌+◌, ◌≤◌, Bool, List, length}
use Rattle.std.specs.FinMap.{get}
use Rattle.std.specs.List.{filter}
use Rattle.m3_model.specs.Contents.{Contents, is_higher, key_of}
use Rattle.m3_model.specs.declared.limits.TheConstants.{MOST_PAGE_POINTS}
use Rattle.m3_model.specs.declared.point.Point.{Point}
use Rattle.m3_outside.specs.DiskState.{DiskState, Told}
use Rattle.listed_volumes.specs.block_buffer.Joins.{joined}
use Rattle.listed_volumes.specs.shard_files.FilesHold.{volume_points}
use Rattle.listed_volumes.specs.wire_bytes.Entries.{AllBounded}
use Rattle.listed_volumes.specs.Cached.{AreOfVolumes, AreRight}
use Rattle.listed_volumes.specs.Listed.{known_in}
use Rattle.listed_volumes.specs.declared.row_cache.RowCache.{RowCache}
use Rattle.listed_volumes.specs.declared.volume.ListedVolume.{ListedVolume}
use Rattle.held_pages.specs.declared.rising.Rise.{Rise}
use Rattle.held_pages.specs.Rises.{AreOfSeries, points_of}

-- the points in memory, joined with those of the volumes
abbrev pub content_beside : Contents → List ListedVolume → Contents
content_beside buffered volumes = joined buffered (volume_points (known_in volumes))

-- each block whose rows are kept is one of the volumes; where the disk tells, they are the volume's rows
abbrev pub AreCachedOn : List ListedVolume → RowCache → DiskState → Type 0
AreCachedOn volumes kept d = AreOfVolumes (known_in volumes) kept × Told d (λ _. AreRight (known_in volumes) kept)

-- points as a page may have them: not too many, each within its bounds
pub record AreMergeable (points : List Point) : Type 0 where
  pub few : length points ≤ MOST_PAGE_POINTS
  pub bounded : AllBounded points

-- the point is new to the content, or raises what stands at its key
abbrev pub rises : Contents → Point → Bool
rises c p = is_higher (get c (key_of p)) p.v

-- those of the points that are new to the content or raise it
abbrev pub risen_in : Contents → List Point → List Point
risen_in c points = filter (rises c) points

-- at most so many rises come as these are points; the rises stay within their bounds, and each with its series
pub record AddsRises (points : List Point) (old new : List Rise) : Type 0 where
  pub few : length new ≤ length old + length points
  pub bounded : AllBounded (points_of old) → AllBounded (points_of new)
  pub series : AreOfSeries old → AreOfSeries new
