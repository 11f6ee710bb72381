use Rattle.std.proofs.Common.{◌≡◌}
use Rattle.peer_boot.specs.Claims.{times_below}
use Rattle.peer_boot.proofs.asking.all_times.Given as goal

abbrev pub invariant-loop-ns : goal.invariant-loop-ns
invariant-loop-ns l = l.ranges.items ≡ times_below l.ns
