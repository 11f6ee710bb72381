use Rattle.std.proofs.Common.{ap, refl, subst, ◌∙◌}
use Rattle.cluster_members.specs.cluster_core.Replicas.{replica}
use Rattle.first_cluster.specs.Lending.{HasTaken, MayHaveTaken}
use Rattle.first_cluster.proofs.ListLemmas.{take_whole}
use Rattle.first_cluster.proofs.ResultLemmas.{passed_on}
use Rattle.first_cluster.proofs.TakeAll.{taken_none, free_at, taken_at, refused_at}
use Rattle.first_cluster.proofs.lending.take_all.Goals as goal

pub loop-slot-init : goal.loop-slot-init
loop-slot-init g c = record { taken = taken_none g.D.Disk.state (g.X.Disks.depot c.args.disks.now) c.args.replicas.now.members c.requires.none; list = refl }

pub take_one-requires-clause-free : goal.take_one-requires-clause-free
take_one-requires-clause-free g c =
    free_at g.D.Disk.state c.args.slots.now c.loop-slot.slot-index _ (g.X.Disks.depot c.args.disks.now) (g.X.Disks.depot c.loop-slot.disks) c.loop-slot.replicas.members c.loop-slot-test.true c.requires.apart c.requires.free c.loop-slot.invariant.taken

pub take_one-requires-clause-new : goal.take_one-requires-clause-new
take_one-requires-clause-new g c = ap (replica _ _) c.loop-slot.invariant.list ∙ c.requires.new _ _

pub loop-slot-preserved : goal.loop-slot-preserved
loop-slot-preserved g c = record {
  taken =
      taken_at g.D.Disk.state c.args.slots.now c.loop-slot.slot-index _ (g.X.Disks.depot c.args.disks.now) (g.X.Disks.depot c.loop-slot.disks) (g.X.Disks.depot c.take_one.new.disks) c.loop-slot.replicas.members c.take_one.new.replicas.members c.loop-slot-test.true
      c.requires.apart c.loop-slot.invariant.taken c.in_ok-take_one.ensures.taken c.take_one.ensures.others;
  list = c.take_one.ensures.list ∙ c.loop-slot.invariant.list;
}

pub returns-in_err-take_one-clause-err : goal.returns-in_err-take_one-clause-err
returns-in_err-take_one-clause-err g c =
    passed_on c.from_residual.result c.in_err-take_one.field-0.0 (MayHaveTaken g.D.Disk.state c.args.slots.now (g.X.Disks.depot c.args.disks.now) c.take_one.new.replicas.members (g.X.Disks.depot c.take_one.new.disks)) c.from_residual.ensures.1
    (refused_at g.D.Disk.state c.args.slots.now c.loop-slot.slot-index _ (g.X.Disks.depot c.args.disks.now) (g.X.Disks.depot c.loop-slot.disks) (g.X.Disks.depot c.take_one.new.disks) c.loop-slot.replicas.members c.take_one.new.replicas.members
    c.in_err-take_one.field-0.0 c.loop-slot-test.true c.requires.apart c.loop-slot.invariant.taken c.in_err-take_one.ensures.taken c.take_one.ensures.others)

pub returns-in_err-take_one-clause-list : goal.returns-in_err-take_one-clause-list
returns-in_err-take_one-clause-list g c = c.take_one.ensures.list ∙ c.loop-slot.invariant.list

pub returns-clause-ok : goal.returns-clause-ok
returns-clause-ok g c =
    subst (λ slots. HasTaken g.D.Disk.state slots (g.X.Disks.depot c.args.disks.now) c.loop-slot.replicas.members (g.X.Disks.depot c.loop-slot.disks)) (take_whole c.args.slots.now c.loop-slot.slot-index c.loop-slot-test.false) c.loop-slot.invariant.taken

pub returns-clause-list : goal.returns-clause-list
returns-clause-list g c = c.loop-slot.invariant.list
