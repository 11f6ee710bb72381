-- Laws over answers and rows that are joined.
use Rattle.std.specs.Prelude.{◌≡◌, ℕ, ◌+◌, List, map}
use Rattle.std.specs.FinMap.{retain_keys}
use Rattle.m3_model.specs.Answers.{IsAnswer}
use Rattle.m3_model.specs.Contents.{Contents, content_of}
use Rattle.m3_model.specs.declared.point.Matcher.{Matcher}
use Rattle.m3_model.specs.declared.point.Pick.{Pick}
use Rattle.m3_model.specs.declared.point.Pick.TheVariants as pick
use Rattle.m3_model.specs.declared.point.Point.{Point}
use Rattle.m3_model.specs.declared.point.Series.{Series}
use Rattle.fileset_check.specs.m3_outside.Files.{Files}
use Rattle.held_points.specs.block_buffer.Held.{is_in_block}
use Rattle.held_points.specs.block_buffer.Joins.{joined}
use Rattle.held_points.specs.series_slots.Ranges.{IsRangeOf}
use Rattle.series_merge.specs.Merges.{IsMergeOf}
use Rattle.fileset_check.specs.wire_bytes.Volumes.{points_of_rows}
use Rattle.fileset_check.specs.shard_files.Parts.{KnownVolume, VolumesAre}
use Rattle.fileset_check.specs.volume_bytes.declared.heads.Head.{Head}
use Rattle.fileset_check.specs.volume_bytes.Heads.{head_of}
use Rattle.volume_points.specs.Known.{AreOf, AreThere}

-- answers to one read, of a content and of some points, are merged to the answer of the content joined with the points
abbrev pub AnswersJoin : Type 0
AnswersJoin = (c : Contents) (points : List Point) (pick : Pick) (from to : ℕ) (one other series : List Series) → IsAnswer c pick from to one → IsAnswer (content_of points) pick from to other
    → IsMergeOf one other series → IsAnswer (joined c points) pick from to series

-- the rows of a block in memory stand for the points of the block
abbrev pub BlockIsRange : Type 0
BlockIsRange = (c : Contents) (ns start size : ℕ) (rows : List Series) → ((wanted : List Matcher) → IsRangeOf c (pick.Match ns wanted) start (start + size) rows) → content_of (points_of_rows ns rows) ≡ retain_keys c (is_in_block ns start size)

-- the volumes that count are known by their heads, in their order
abbrev pub VolumesAreKnown : Type 0
VolumesAreKnown = (heads : List Head) (known : List KnownVolume) (files : Files) → map (λ k. k.head) known ≡ map head_of heads → VolumesAre known files → AreOf heads known files

-- volumes that are known by their heads are there whole
abbrev pub KnownAreThere : Type 0
KnownAreThere = (heads : List Head) (known : List KnownVolume) (files : Files) → AreOf heads known files → AreThere heads files
