use Rattle.std.proofs.Common.{◌≡◌, vec_len}
use Rattle.disk_slots.specs.SlotStates.{AreEmpty}
use Rattle.disk_slots.proofs.slots.empty_slots.Given as goal

abbrev pub invariant-loop : goal.invariant-loop
invariant-loop g l = record {
  counted : vec_len l.slots ≡ l.counter;
  empty : AreEmpty l.slots.items;
}
