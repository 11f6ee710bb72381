use Rattle.series_id.proofs.Values.{IsAlike}
use Rattle.series_id.proofs.read.is_spelling.Given as goal

abbrev pub invariant-loop-byte : goal.invariant-loop-byte
invariant-loop-byte l = IsAlike l.spelling l.value l.rest l.byte-index
