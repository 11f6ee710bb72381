use Rattle.std.proofs.Common.{◌≤◌, arith}
use Rattle.block_buffer.specs.Spots.{IsKeyWithin, group_of}
use Rattle.block_buffer.proofs.SpotLemmas.{none_of_clear}
use Rattle.block_buffer.proofs.all_series.AllSeries.any_within.Goals as goal

pub returns-in-None-clause-none : goal.returns-in-None-clause-none
returns-in-None-clause-none c e = none_of_clear c.within_from-in-None.new.self (IsKeyWithin c.args.ns c.args.low c.args.high) (λ position. c.within_from-in-None.ensures.none e position (from_first (group_of position)))
  where
    from_first : (g : _) → 0 ≤ g
    from_first g = omega arith
