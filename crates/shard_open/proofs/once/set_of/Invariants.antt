use Rattle.shard_open.specs.Ranks.{AreRanksOf}
use Rattle.shard_open.proofs.once.set_of.Given as goal

abbrev pub invariant-loop-point : goal.invariant-loop-point
invariant-loop-point l = AreRanksOf l.yielded l.found.keys
