use Rattle.std.proofs.Common.{◌≡◌, ◌-◌, ◌≤◌, List, ◌++◌, length, map, take}
use Rattle.commit_log.specs.Segment.{written}
use Rattle.commit_log.specs.Reading.{IsNext}
use Rattle.shard_files.specs.declared.entries.LogEntry.{LogEntry}
use Rattle.shard_files.specs.Entries.{spelled, AreWithin}
use Rattle.shard_files.proofs.segment_entries.read_segment.Given as goal

abbrev pub invariant-loop-found : goal.invariant-loop-found
invariant-loop-found l = record {
  within : l.at ≤ length l.bytes;
  done : (es : List LogEntry) × (l.entries.items ≡ l.initial.entries.items ++ es) × AreWithin es × (take l.at l.bytes ≡ written (map spelled es)) × IsNext (map spelled es) l.bytes l.at l.found;
}

abbrev pub decreases-loop-found : goal.decreases-loop-found
decreases-loop-found l = length l.bytes - l.at
