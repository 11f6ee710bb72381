-- What an entry of a replica's log brings.
use Rattle.shard_files.specs.declared.entries.LogEntry.{LogEntry}
use Rattle.shard_files.specs.HeldEntries.{points_in, tenure_in, fence_in}
use Rattle.shard_files.specs.Gains.{Gain}

abbrev pub gain_in : LogEntry → Gain
gain_in e = record { points = points_in e; tenure = tenure_in e; fence = fence_in e }
