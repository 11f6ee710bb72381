use Rattle.std.proofs.Common.{subst, sym}
use Rattle.first_cluster.specs.Lending.{HasTaken}
use Rattle.first_cluster.specs.declared.unopened.Unopened.TheVariants as unopened
use Rattle.first_cluster.proofs.FirstLemmas.{lent_may}
use Rattle.first_cluster.proofs.GiveAll.{all_as_they_were, all_returned, taken_out}
use Rattle.first_cluster.proofs.first.give_back.Goals as goal

pub give_all-requires : goal.give_all-requires
give_all-requires g c =
    let lent = c.requires.lent in
    let m = c.args.lent.members in
    taken_out g.D.Disk.state m.slots.items lent.first (g.X.Disks.depot c.args.disks.now) m.net.replicas.members unopened.Memory (lent_may g.D.Disk.state m.slots.items lent.first (g.X.Disks.depot c.args.disks.now) m.net.replicas.members lent.is.taken)

pub returns-clause-returned : goal.returns-clause-returned
returns-clause-returned g c = λ rf shards seed nodes first is.
    let m = c.args.lent.members in
    let slots = c.as_slice-slots.result.now in
    (all_returned g.D.Disk.state slots first (g.X.Disks.depot c.args.disks.now) (g.X.Disks.depot c.give_all.new.disks) m.net.replicas.members c.give_all.new.replicas.members unopened.Memory
    (lent_may g.D.Disk.state slots first (g.X.Disks.depot c.args.disks.now) m.net.replicas.members (subst (λ xs. HasTaken g.D.Disk.state xs first m.net.replicas.members (g.X.Disks.depot c.args.disks.now)) (sym c.as_slice-slots.ensures.value) is.taken)) c.give_all.ensures.given).returned

pub returns-clause-as_they_were : goal.returns-clause-as_they_were
returns-clause-as_they_were g c = λ rf shards seed nodes first is.
    let m = c.args.lent.members in
    let slots = c.as_slice-slots.result.now in
    all_as_they_were g.D.Disk.state slots first (g.X.Disks.depot c.args.disks.now) (g.X.Disks.depot c.give_all.new.disks) m.net.replicas.members c.give_all.new.replicas.members
    (subst (λ xs. HasTaken g.D.Disk.state xs first m.net.replicas.members (g.X.Disks.depot c.args.disks.now)) (sym c.as_slice-slots.ensures.value) is.taken) c.give_all.ensures.given
