use Rattle.std.proofs.Common.{ap, refl, subst, ◌∙◌}
use Rattle.cluster_core.specs.Replicas.{replica}
use Rattle.first_cluster.proofs.ListLemmas.{take_whole}
use Rattle.first_cluster.proofs.ResultLemmas.{passed_on}
use Rattle.placement_core.proofs.ListLemmas.{IsIn-from_index}
use Rattle.cluster_placements.specs.Lending.{HaveGained, MayHaveGained}
use Rattle.cluster_placements.proofs.GainLemmas.{but_at, free_at, gained_at, gained_none}
use Rattle.cluster_placements.proofs.lending.take_all.Goals as goal

pub loop-slot-init : goal.loop-slot-init
loop-slot-init g c = record { gained = gained_none g.D.Disk.state (g.X.Disks.depot c.args.disks.now) c.args.replicas.now.members; list = refl }

pub take_one-requires-clause-free : goal.take_one-requires-clause-free
take_one-requires-clause-free g c =
    free_at g.D.Disk.state c.args.slots.now c.loop-slot.slot-index _ (g.X.Disks.depot c.args.disks.now) (g.X.Disks.depot c.loop-slot.disks) c.args.replicas.now.members c.loop-slot.replicas.members c.loop-slot-test.true
    c.requires.apart c.loop-slot.invariant.gained (c.requires.free _ (IsIn-from_index c.args.slots.now c.loop-slot.slot-index _ c.loop-slot-test.true))

pub take_one-requires-clause-new : goal.take_one-requires-clause-new
take_one-requires-clause-new g c = ap (replica _ _) c.loop-slot.invariant.list ∙ c.requires.new _ (IsIn-from_index c.args.slots.now c.loop-slot.slot-index _ c.loop-slot-test.true)

pub loop-slot-preserved : goal.loop-slot-preserved
loop-slot-preserved g c = record {
  gained =
      gained_at g.D.Disk.state c.args.slots.now c.loop-slot.slot-index _ (g.X.Disks.depot c.args.disks.now) (g.X.Disks.depot c.loop-slot.disks) (g.X.Disks.depot c.take_one.new.disks)
      c.args.replicas.now.members c.loop-slot.replicas.members c.take_one.new.replicas.members c.loop-slot-test.true c.requires.apart c.loop-slot.invariant.gained c.take_one.ensures.others c.in_ok-take_one.ensures.taken;
  list = c.take_one.ensures.list ∙ c.loop-slot.invariant.list;
}

pub returns-in_err-take_one-clause-err : goal.returns-in_err-take_one-clause-err
returns-in_err-take_one-clause-err g c =
    passed_on c.from_residual.result c.in_err-take_one.field-0.0
    (MayHaveGained g.D.Disk.state c.args.slots.now (g.X.Disks.depot c.args.disks.now) c.args.replicas.now.members (g.X.Disks.depot c.take_one.new.disks) c.take_one.new.replicas.members) c.from_residual.ensures.1
    (but_at g.D.Disk.state c.args.slots.now c.loop-slot.slot-index _ (g.X.Disks.depot c.args.disks.now) (g.X.Disks.depot c.loop-slot.disks) (g.X.Disks.depot c.take_one.new.disks)
    c.args.replicas.now.members c.loop-slot.replicas.members c.take_one.new.replicas.members c.in_err-take_one.field-0.0 c.loop-slot-test.true c.requires.apart c.loop-slot.invariant.gained c.take_one.ensures.others (λ t i. (c.requires.free t i).no_member) (ap (λ t. t.members) c.in_err-take_one.ensures.same)
    c.in_err-take_one.ensures.left)

pub returns-in_err-take_one-clause-list : goal.returns-in_err-take_one-clause-list
returns-in_err-take_one-clause-list g c = c.take_one.ensures.list ∙ c.loop-slot.invariant.list

pub returns-clause-ok : goal.returns-clause-ok
returns-clause-ok g c =
    subst (λ slots. HaveGained g.D.Disk.state slots (g.X.Disks.depot c.args.disks.now) c.args.replicas.now.members (g.X.Disks.depot c.loop-slot.disks) c.loop-slot.replicas.members)
    (take_whole c.args.slots.now c.loop-slot.slot-index c.loop-slot-test.false) c.loop-slot.invariant.gained

pub returns-clause-list : goal.returns-clause-list
returns-clause-list g c = c.loop-slot.invariant.list
