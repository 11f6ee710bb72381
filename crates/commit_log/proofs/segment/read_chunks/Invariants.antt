use Rattle.std.proofs.Common.{◌≡◌, ◌-◌, ◌≤◌, List, ℕ, ◌++◌, length, take}
use Rattle.commit_log.specs.Segment.{written}
use Rattle.commit_log.specs.Reading.{IsNext}
use Rattle.commit_log.proofs.segment.read_chunks.Given as goal

abbrev pub invariant-loop-found : goal.invariant-loop-found
invariant-loop-found l = record {
  within : l.at ≤ length l.bytes;
  done : (cs : List (List ℕ)) × (l.chunks.items ≡ l.initial.chunks.items ++ cs) × (take l.at l.bytes ≡ written cs) × IsNext cs l.bytes l.at l.found;
}

abbrev pub decreases-loop-found : goal.decreases-loop-found
decreases-loop-found l = length l.bytes - l.at
