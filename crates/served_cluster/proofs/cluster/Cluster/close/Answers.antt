use Rattle.std.proofs.Common.{◌≡◌, subst, sym, ◌<◌, ◌≤◌, arith}
use Rattle.line_tracks.specs.first_cluster.Depots.{AreOut, OwnedBy, disk_slot_of}
use Rattle.line_tracks.specs.tracks.Ends.{replica_at}
use Rattle.served_cluster.proofs.OwnLemmas.{held_back, none_given_back, meta_stays}
use Rattle.std.specs.Prelude.{Some}
use Rattle.m3_model.specs.Members.{IsIn}
use Rattle.served_cluster.specs.Owned.{AreReady, held_at}
use Rattle.served_cluster.proofs.cluster.Cluster.close.Goals as goal

pub returns-in-Some-clause-none_out : goal.returns-in-Some-clause-none_out
returns-in-Some-clause-none_out g c =
    let m = c.in-Some.members in
    let held = (g.X.Disks.depot c.args.disks.now).held in
    let own = subst (λ o. OwnedBy o held) c.in-Some.is c.requires.owned.owned in
    let own_all = subst (λ slots. AreOut slots m.net.replicas.members held) (sym c.as_slice.ensures.value) own in
    none_given_back g.D.Disk.state c.as_slice.result.now (g.X.Disks.depot c.args.disks.now) (g.X.Disks.depot c.give_all.new.disks)
    m.net.replicas.members c.give_all.new.replicas.members own_all c.give_all.ensures.given

pub returns-in-Some-clause-meta : goal.returns-in-Some-clause-meta
returns-in-Some-clause-meta g c =
    let m = c.in-Some.members in
    let held = (g.X.Disks.depot c.args.disks.now).held in
    let own = subst (λ o. OwnedBy o held) c.in-Some.is c.requires.owned.owned in
    let own_all = subst (λ slots. AreOut slots m.net.replicas.members held) (sym c.as_slice.ensures.value) own in
    let ready : AreReady (Some m) = subst AreReady c.in-Some.is c.requires.owned.ready in
    meta_stays g.D.Disk.state c.as_slice.result.now (g.X.Disks.depot c.args.disks.now) (g.X.Disks.depot c.give_all.new.disks)
    m.net.replicas.members c.give_all.new.replicas.members own_all
    (λ s i. let low = ready.2.slots.nodes s (subst (λ xs. IsIn xs s) c.as_slice.ensures.value i) in let few = m.few_nodes in omega (arith, low, few)) c.give_all.ensures.given

pub returns-in-Some-clause-held : goal.returns-in-Some-clause-held
returns-in-Some-clause-held g c s =
    let m = c.in-Some.members in
    let held = (g.X.Disks.depot c.args.disks.now).held in
    let before = g.X.Disks.depot c.args.disks.now in
    let own = subst (λ o. OwnedBy o held) c.in-Some.is c.requires.owned.owned in
    let own_all = subst (λ slots. AreOut slots m.net.replicas.members held) (sym c.as_slice.ensures.value) own in
    let back = held_back g.D.Disk.state c.as_slice.result.now before (g.X.Disks.depot c.give_all.new.disks)
    m.net.replicas.members c.give_all.new.replicas.members own_all c.give_all.ensures.given s in
    subst (λ o. (g.X.Disks.depot c.give_all.new.disks).held (disk_slot_of s) ≡ held_at before (replica_at o s) s) (sym c.in-Some.is) back
