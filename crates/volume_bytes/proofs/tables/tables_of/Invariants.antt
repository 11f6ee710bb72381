use Rattle.std.proofs.Common.{◌≡◌, ◌+◌, ◌++◌, length, drop}
use Rattle.wire_bytes.specs.Volumes.{count_of, data_bytes, index_bytes, index_from, summaries_bytes, summaries_from}
use Rattle.volume_bytes.proofs.tables.tables_of.Given as goal

-- with what is left, all is there
abbrev pub invariant-loop-row : goal.invariant-loop-row
invariant-loop-row l = record {
  body : l.data.items ++ data_bytes (drop l.row-index l.rows) ≡ data_bytes l.rows;
  index : l.index.items ++ index_from 1 (length l.data.items) (drop l.row-index l.rows) ≡ index_bytes 1 l.rows;
  summaries : l.summaries.items ++ summaries_from 1 l.before (length l.index.items) (drop l.row-index l.rows) ≡ summaries_bytes 1 l.rows;
  points : l.points + count_of (drop l.row-index l.rows) ≡ count_of l.rows;
}
