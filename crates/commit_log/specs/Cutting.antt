-- Segments below a number, which a cut takes away.
use Rattle.std.specs.Prelude.{ℕ, List, map, nat_lt, not}
use Rattle.std.specs.List.{filter}
use Rattle.log_chunks.specs.m3_outside.Files.{Files}
use Rattle.log_chunks.specs.m3_outside.declared.file_name.FileName.{FileName}
use Rattle.commit_log.specs.Segment.{segment}
use Rattle.commit_log.specs.Contents.{numbers}

-- the numbers of the segments below this number, ascending
abbrev pub numbers_below : ℕ → Files → List ℕ
numbers_below number files = filter (λ n. nat_lt n number) (numbers files)

-- the numbers of the others, ascending
abbrev pub numbers_from : ℕ → Files → List ℕ
numbers_from number files = filter (λ n. not (nat_lt n number)) (numbers files)

-- the names of the segments below this number, by ascending number
abbrev pub segments_below : ℕ → Files → List FileName
segments_below number files = map segment (numbers_below number files)
