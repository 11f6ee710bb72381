use Rattle.std.proofs.Common.{◌∙◌}
use Rattle.cluster_placements.proofs.GainLemmas.{all_returned, cause_still, lent_still, tracked_back}
use Rattle.cluster_placements.proofs.lending.gain.Goals as goal

pub give_all-requires : goal.give_all-requires
give_all-requires g c = λ s m there. lent_still g.D.Disk.state c.args.slots.now (g.X.Disks.depot c.args.disks.now) (g.X.Disks.depot c.take_all.new.disks) c.args.replicas.now.members c.take_all.new.replicas.members c.in-Err.why c.in-Err.ensures.err c.requires.out s m there

pub returns-in-Err-clause-same : goal.returns-in-Err-clause-same
returns-in-Err-clause-same g c =
    tracked_back g.D.Disk.state c.args.slots.now (g.X.Disks.depot c.args.disks.now) (g.X.Disks.depot c.take_all.new.disks) (g.X.Disks.depot c.give_all.new.disks) c.args.replicas.now c.give_all.new.replicas
    c.take_all.new.replicas.members c.in-Err.why c.in-Err.ensures.err c.give_all.ensures.given (λ t i. (c.requires.free t i).no_member) (c.give_all.ensures.list ∙ c.take_all.ensures.list)

pub returns-in-Err-clause-returned : goal.returns-in-Err-clause-returned
returns-in-Err-clause-returned g c =
    all_returned g.D.Disk.state c.args.slots.now (g.X.Disks.depot c.args.disks.now) (g.X.Disks.depot c.take_all.new.disks) (g.X.Disks.depot c.give_all.new.disks) c.args.replicas.now.members
    c.take_all.new.replicas.members c.give_all.new.replicas.members c.in-Err.why c.in-Err.ensures.err c.give_all.ensures.given (λ t i. (c.requires.free t i).no_member)

pub returns-in-Err-clause-cause : goal.returns-in-Err-clause-cause
returns-in-Err-clause-cause g c =
    cause_still g.D.Disk.state c.args.slots.now (g.X.Disks.depot c.args.disks.now) (g.X.Disks.depot c.take_all.new.disks) (g.X.Disks.depot c.give_all.new.disks) c.args.replicas.now.members
    c.take_all.new.replicas.members c.give_all.new.replicas.members c.in-Err.why c.in-Err.ensures.err c.give_all.ensures.given (λ t i. (c.requires.free t i).no_member)
