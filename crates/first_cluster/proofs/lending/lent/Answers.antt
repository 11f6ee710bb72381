use Rattle.std.proofs.Common.{ap, sym, subst, ◌∙◌}
use Rattle.m3_model.specs.Members.{IsIn}
use Rattle.cluster_members.specs.cluster_core.Replicas.{replica}
use Rattle.first_cluster.specs.Lending.{HasTaken, IsUnopened}
use Rattle.first_cluster.specs.Slots.{AreApart}
use Rattle.first_cluster.proofs.GiveAll.{all_returned, taken_out}
use Rattle.first_cluster.proofs.SlotLists.{slots_apart}
use Rattle.first_cluster.proofs.lending.lent.Goals as goal

pub take_all-requires-clause-apart : goal.take_all-requires-clause-apart
take_all-requires-clause-apart g c = subst AreApart (sym (c.as_slice-slots.ensures.value ∙ c.requires.slots)) (slots_apart c.args.plan.now.state.place c.requires.lawful)

pub take_all-requires-clause-none : goal.take_all-requires-clause-none
take_all-requires-clause-none g c = ap (λ t. t.members) c.listed-replicas.ensures

pub take_all-requires-clause-new : goal.take_all-requires-clause-new
take_all-requires-clause-new g c = λ n s. ap (λ t. replica n s t.events) c.listed-replicas.ensures

pub take_all-requires-clause-free : goal.take_all-requires-clause-free
take_all-requires-clause-free g c = λ s i. c.requires.free s (subst (λ xs. IsIn xs s) c.as_slice-slots.ensures.value i)

pub give_all-requires : goal.give_all-requires
give_all-requires g c = taken_out g.D.Disk.state c.as_slice-slots.result.now (g.X.Disks.depot c.args.disks.now) (g.X.Disks.depot c.take_all.new.disks) c.take_all.new.replicas.members c.in-Err.why c.in-Err.ensures.err

pub returns-in-Ok-clause-ok : goal.returns-in-Ok-clause-ok
returns-in-Ok-clause-ok g c = subst (λ slots. HasTaken g.D.Disk.state slots (g.X.Disks.depot c.args.disks.now) c.take_all.new.replicas.members (g.X.Disks.depot c.take_all.new.disks)) c.as_slice-slots.ensures.value c.in-Ok.ensures.ok

pub returns-in-Ok-clause-list : goal.returns-in-Ok-clause-list
returns-in-Ok-clause-list g c = c.take_all.ensures.list ∙ ap (λ t. t.events) c.listed-replicas.ensures

pub returns-in-Err-clause-err : goal.returns-in-Err-clause-err
returns-in-Err-clause-err g c =
    subst (λ slots. IsUnopened g.D.Disk.state slots (g.X.Disks.depot c.args.disks.now) (g.X.Disks.depot c.give_all.new.disks) c.in-Err.why) c.as_slice-slots.ensures.value
    (all_returned g.D.Disk.state c.as_slice-slots.result.now (g.X.Disks.depot c.args.disks.now) (g.X.Disks.depot c.take_all.new.disks) (g.X.Disks.depot c.give_all.new.disks) c.take_all.new.replicas.members c.give_all.new.replicas.members c.in-Err.why c.in-Err.ensures.err c.give_all.ensures.given)
