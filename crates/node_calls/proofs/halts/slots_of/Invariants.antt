use Rattle.std.proofs.Common.{◌≡◌, ◌≤◌, length, take}
use Rattle.node_calls.specs.Halts.{slots_of_node}
use Rattle.node_calls.proofs.halts.slots_of.Given as goal

abbrev pub invariant-loop-slot : goal.invariant-loop-slot
invariant-loop-slot l = record {
  count_is : l.count ≡ length (slots_of_node l.node (take l.slot-index l.slots));
  few : l.count ≤ l.slot-index;
}
