use Rattle.std.proofs.Common.{◌≡◌, take}
use Rattle.cluster_placements.specs.Lending.{HaveGained}
use Rattle.cluster_placements.proofs.lending.take_all.Given as goal

abbrev pub invariant-loop-slot : goal.invariant-loop-slot
invariant-loop-slot g l = record {
  gained : HaveGained g.D.Disk.state (take l.slot-index l.slots) (g.X.Disks.depot l.fn.disks) l.fn.replicas.members (g.X.Disks.depot l.disks) l.replicas.members;
  list : l.replicas.events ≡ l.fn.replicas.events;
}
