use Rattle.std.proofs.Common.{◌≡◌, ◌+◌, ap, refl, take, sym, subst, ◌∙◌}
use Rattle.m3_outside.specs.Slots.{Out}
use Rattle.first_cluster.specs.Lending.{HasGivenBack}
use Rattle.first_cluster.proofs.GiveAll.{given_none, given_out, given_by, given_none_at}
use Rattle.first_cluster.proofs.ListLemmas.{take_whole}
use Rattle.first_cluster.proofs.lending.give_all.Goals as goal
use Rattle.first_cluster.proofs.lending.give_all.Goals.{in-Some, in-None}

pub loop-slot-init : goal.loop-slot-init
loop-slot-init g c = record { given = given_none g.D.Disk.state (g.X.Disks.depot c.args.disks.now) c.args.replicas.now.members; list = refl }

pub give-requires : goal.give-requires
give-requires g c =
    subst (λ disk_slot. (g.X.Disks.depot c.loop-slot.disks).held disk_slot ≡ Out) (sym c.disk_slot.ensures)
    (given_out g.D.Disk.state (take c.loop-slot.slot-index c.args.slots.now) _ c.in-Some.member (g.X.Disks.depot c.args.disks.now) (g.X.Disks.depot c.loop-slot.disks) c.args.replicas.now.members c.loop-slot.replicas.members c.loop-slot.invariant.given c.requires
    (sym c.in-Some.ensures.taken))

pub loop-slot-preserved : goal.loop-slot-preserved
loop-slot-preserved g c = record {
  given = elim c.match-take.branch [
    | in-Some w ↦
        subst (λ disks. HasGivenBack g.D.Disk.state (take (c.loop-slot.slot-index + 1) c.args.slots.now) (g.X.Disks.depot c.args.disks.now) c.args.replicas.now.members (g.X.Disks.depot disks) c.take.new.self.members) (sym w.disks-is)
        (given_by g.D.Disk.state c.args.slots.now c.loop-slot.slot-index _ w.disk_slot.result w.disk_of.result w.in-Some.member (g.X.Disks.depot c.args.disks.now) (g.X.Disks.depot c.loop-slot.disks) (g.X.Disks.depot w.give.new.self)
        c.args.replicas.now.members c.loop-slot.replicas.members c.take.new.self.members c.loop-slot-test.true c.loop-slot.invariant.given (sym w.in-Some.is ∙ c.take.ensures.taken) (ap (λ t. t.members) c.take.ensures.left) w.disk_slot.ensures w.disk_of.ensures w.give.ensures.here w.give.ensures.others
        w.give.ensures.counted w.give.ensures.counted_others w.give.ensures.cause.later w.give.ensures.rose)
    | in-None w ↦
        subst (λ disks. HasGivenBack g.D.Disk.state (take (c.loop-slot.slot-index + 1) c.args.slots.now) (g.X.Disks.depot c.args.disks.now) c.args.replicas.now.members (g.X.Disks.depot disks) c.take.new.self.members) (sym w.disks-is)
        (given_none_at g.D.Disk.state c.args.slots.now c.loop-slot.slot-index _ (g.X.Disks.depot c.args.disks.now) (g.X.Disks.depot c.loop-slot.disks) c.args.replicas.now.members c.loop-slot.replicas.members c.take.new.self.members c.loop-slot-test.true
        c.loop-slot.invariant.given (sym w.in-None.is ∙ c.take.ensures.taken) (ap (λ t. t.members) c.take.ensures.left))
  ];
  list = ap (λ t. t.events) c.take.ensures.left ∙ c.loop-slot.invariant.list;
}

pub returns-clause-given : goal.returns-clause-given
returns-clause-given g c =
    subst (λ slots. HasGivenBack g.D.Disk.state slots (g.X.Disks.depot c.args.disks.now) c.args.replicas.now.members (g.X.Disks.depot c.loop-slot.disks) c.loop-slot.replicas.members)
    (take_whole c.args.slots.now c.loop-slot.slot-index c.loop-slot-test.false) c.loop-slot.invariant.given

pub returns-clause-list : goal.returns-clause-list
returns-clause-list g c = c.loop-slot.invariant.list
