use Rattle.std.proofs.Common.{◌≡◌, take}
use Rattle.first_cluster.specs.Lending.{HasGivenBack}
use Rattle.first_cluster.proofs.lending.give_all.Given as goal

abbrev pub invariant-loop-slot : goal.invariant-loop-slot
invariant-loop-slot g l = record {
  given : HasGivenBack g.D.Disk.state (take l.slot-index l.slots) (g.X.Disks.depot l.fn.disks) l.fn.replicas.members (g.X.Disks.depot l.disks) l.replicas.members;
  list : l.replicas.events ≡ l.fn.replicas.events;
}
