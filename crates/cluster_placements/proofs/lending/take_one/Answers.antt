use Rattle.std.proofs.Common.{ap, refl}
use Rattle.std.specs.Prelude.{Err}
use Rattle.first_cluster.proofs.TakeOne.{new_by, others_by}
use Rattle.cluster_placements.proofs.GainLemmas.{back_at, unmoved_at}
use Rattle.cluster_placements.proofs.lending.take_one.Goals as goal

pub returns-in-Ok-insert-clause-taken : goal.returns-in-Ok-insert-clause-taken
returns-in-Ok-insert-clause-taken g c =
    new_by g.D.Disk.state c.args.slot c.disk_slot.result c.in-Ok.disk (g.X.Disks.depot c.args.disks.now) (g.X.Disks.depot c.take.new.self) c.args.replicas.now.members c.insert.new.self.members c.disk_slot.ensures c.in-Ok.ensures.disk
    c.in-Ok.ensures.disk_faults c.in-Ok.ensures.out c.take.ensures.counted (ap (λ t. t.members) c.in-Ok-insert.ensures.ok)

pub returns-in-Ok-insert-clause-others : goal.returns-in-Ok-insert-clause-others
returns-in-Ok-insert-clause-others g c =
    others_by c.args.slot c.disk_slot.result c.in-Ok.disk (g.X.Disks.depot c.args.disks.now) (g.X.Disks.depot c.take.new.self) c.args.replicas.now.members c.insert.new.self.members c.disk_slot.ensures c.take.ensures.others c.take.ensures.counted
    c.take.ensures.cause.later (ap (λ t. t.members) c.in-Ok-insert.ensures.ok)

pub returns-in-Err-clause-left : goal.returns-in-Err-clause-left
returns-in-Err-clause-left g c =
    back_at g.D.Disk.state c.args.slot c.disk_slot.result c.disk_slot-in-Err.result c.in-Ok.disk c.in-Err.back (g.X.Disks.depot c.args.disks.now) (g.X.Disks.depot c.take.new.self)
    (g.X.Disks.depot c.give.new.self) c.disk_slot.ensures c.disk_slot-in-Err.ensures c.in-Ok.ensures.disk c.in-Ok.ensures.disk_faults c.in-Err.ensures.err.0 c.give.ensures.here c.give.ensures.counted

pub returns-in-Err-Failed-clause-left : goal.returns-in-Err-Failed-clause-left
returns-in-Err-Failed-clause-left g c =
    (refl, unmoved_at c.args.slot c.disk_slot.result (g.X.Disks.depot c.args.disks.now) (g.X.Disks.depot c.take.new.self) c.disk_slot.ensures c.in-Err-Failed.ensures.refused c.take.ensures.counted, c.in-Err-Failed.ensures.cause.rose (ap (λ e. Err e) c.in-Err-Failed.field-0-is))
