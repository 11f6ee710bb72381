use Rattle.std.proofs.Common.{◌≡◌, take}
use Rattle.first_cluster.specs.Lending.{HasTaken}
use Rattle.first_cluster.proofs.lending.take_all.Given as goal

abbrev pub invariant-loop-slot : goal.invariant-loop-slot
invariant-loop-slot g l = record {
  taken : HasTaken g.D.Disk.state (take l.slot-index l.slots) (g.X.Disks.depot l.fn.disks) l.replicas.members (g.X.Disks.depot l.disks);
  list : l.replicas.events ≡ l.fn.replicas.events;
}
