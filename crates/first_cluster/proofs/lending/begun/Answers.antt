use Rattle.std.proofs.Common.{subst}
use Rattle.first_cluster.specs.Slots.{AreApart}
use Rattle.first_cluster.specs.declared.unopened.Unopened.TheVariants as unopened
use Rattle.first_cluster.proofs.FirstLemmas.{taken_begun, taken_there}
use Rattle.first_cluster.proofs.GiveAll.{all_returned, taken_out}
use Rattle.first_cluster.proofs.lending.begun.Goals as goal

pub begin_all-requires-clause-apart : goal.begin_all-requires-clause-apart
begin_all-requires-clause-apart g c = subst AreApart c.requires.slots c.requires.apart

pub begin_all-requires-clause-there : goal.begin_all-requires-clause-there
begin_all-requires-clause-there g c = taken_there g.D.Disk.state c.args.slots.now c.args.starts.now c.requires.taken.0 (g.X.Disks.depot c.args.disks.now) c.args.replicas.now.members c.requires.slots c.requires.taken.1

pub give_all-requires : goal.give_all-requires
give_all-requires g c =
    taken_out g.D.Disk.state c.args.slots.now c.requires.taken.0 (g.X.Disks.depot c.args.disks.now) c.begin_all.new.replicas.members unopened.Memory
    (taken_begun g.D.Disk.state c.args.slots.now c.args.starts.now c.requires.taken.0 (g.X.Disks.depot c.args.disks.now) c.args.replicas.now c.begin_all.new.replicas c.requires.apart c.requires.slots c.requires.first c.requires.taken.1 c.in-Err.ensures.err)

pub returns-in-Err-clause-err : goal.returns-in-Err-clause-err
returns-in-Err-clause-err g c = λ first had.
    (all_returned g.D.Disk.state c.args.slots.now first (g.X.Disks.depot c.args.disks.now) (g.X.Disks.depot c.give_all.new.disks) c.begin_all.new.replicas.members c.give_all.new.replicas.members unopened.Memory
    (taken_begun g.D.Disk.state c.args.slots.now c.args.starts.now first (g.X.Disks.depot c.args.disks.now) c.args.replicas.now c.begin_all.new.replicas c.requires.apart c.requires.slots c.requires.first had c.in-Err.ensures.err) c.give_all.ensures.given).returned
