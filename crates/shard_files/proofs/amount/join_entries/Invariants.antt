use Rattle.shard_files.specs.HeldEntries.{AmountTo}
use Rattle.shard_files.proofs.amount.join_entries.Given as goal

abbrev pub invariant-loop-entry : goal.invariant-loop-entry
invariant-loop-entry l = AmountTo l.yielded l.points.items l.tenure l.fence
