use Rattle.std.proofs.Common.{sym, ap, subst, ◌∙◌}
use Rattle.m3_outside.specs.DiskState.{IsEmpty}
use Rattle.m3_outside.specs.Slots.{MayGive}
use Rattle.first_cluster.proofs.TakeOne.{new_by, others_by, back_by}
use Rattle.first_cluster.proofs.lending.take_one.Goals as goal

pub returns-in-Ok-insert-clause-taken : goal.returns-in-Ok-insert-clause-taken
returns-in-Ok-insert-clause-taken g c =
    new_by g.D.Disk.state c.args.slot c.disk_slot.result c.in-Ok.disk (g.X.Disks.depot c.args.disks.now) (g.X.Disks.depot c.take.new.self) c.args.replicas.now.members c.insert.new.self.members c.disk_slot.ensures c.in-Ok.ensures.disk
    c.in-Ok.ensures.disk_faults c.in-Ok.ensures.out c.take.ensures.counted (ap (λ t. t.members) c.in-Ok-insert.ensures.ok)

pub returns-in-Ok-insert-clause-others : goal.returns-in-Ok-insert-clause-others
returns-in-Ok-insert-clause-others g c =
    others_by c.args.slot c.disk_slot.result c.in-Ok.disk (g.X.Disks.depot c.args.disks.now) (g.X.Disks.depot c.take.new.self) c.args.replicas.now.members c.insert.new.self.members c.disk_slot.ensures c.take.ensures.others c.take.ensures.counted
    c.take.ensures.cause.later (ap (λ t. t.members) c.in-Ok-insert.ensures.ok)

pub returns-in-Err-clause-taken : goal.returns-in-Err-clause-taken
returns-in-Err-clause-taken g c = (
  back_by g.D.Disk.state c.args.slot c.disk_slot-in-Err.result c.in-Ok.disk c.in-Err.back (g.X.Disks.depot c.args.disks.now) (g.X.Disks.depot c.give.new.self) c.args.replicas.now.members
      c.insert.new.self.members c.disk_slot-in-Err.ensures (subst (λ disk_slot. MayGive (λ d. IsEmpty (g.D.Disk.state d)) ((g.X.Disks.depot c.args.disks.now).held disk_slot) c.in-Ok.disk) (c.disk_slot.ensures ∙ sym c.disk_slot-in-Err.ensures) c.in-Ok.ensures.disk)
      (c.in-Ok.ensures.disk_faults ∙ ap (g.X.Disks.depot c.args.disks.now).counted (c.disk_slot.ensures ∙ sym c.disk_slot-in-Err.ensures)) c.in-Err.ensures.err.0 c.requires.free.no_member (ap (λ t. t.members) c.in-Err.ensures.err.1)
      c.give.ensures.here c.give.ensures.counted,
  tt,
)
