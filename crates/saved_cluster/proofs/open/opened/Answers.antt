use Rattle.std.proofs.Common.{◌≡◌, [], refl, sym, ap, subst, ◌∙◌}
use Rattle.std.specs.Prelude.{Some, None, option_map}
use Rattle.placement_log.specs.States.{MayBeState}
use Rattle.line_tracks.specs.acts.Stands.{ClusterStands}
use Rattle.line_tracks.specs.first_cluster.Depots.{OwnedBy}
use Rattle.line_tracks.specs.cluster_placements.Lending.{MayNotTake}
use Rattle.line_tracks.specs.tracks.Lines.{EachMember}
use Rattle.served_cluster.specs.Owned.{AreReady}
use Rattle.served_cluster.proofs.OwnLemmas.{not_some}
use Rattle.saved_cluster.specs.Openings.{OpensWith}
use Rattle.saved_cluster.proofs.TrackLemmas.{begins_afresh, begins_bare}
use Rattle.saved_cluster.proofs.OpenLemmas.{all_left, may_serve}
use Rattle.saved_cluster.proofs.open.opened.Goals as goal

pub returns-in_default : goal.returns-in_default
returns-in_default g c =
    let none = not_some c.args.last c.in_default.not-Some in
    let before = g.X.Disks.depot c.args.disks.now in
    record {
      opened = subst (λ o. OpensWith g.D.Disk.state o before before c.new.result.members) (sym none) (c.new.ensures.none, refl);
      state = ap (option_map (λ m. m.net.state)) c.new.ensures.none ∙ sym none;
      calls = c.new.ensures.calls;
      may = record { owned = subst (λ o. OwnedBy o (g.X.Disks.depot c.args.disks.now).held) (sym c.new.ensures.none) c.requires.free; ready = subst AreReady (sym c.new.ensures.none) tt };
      stands = subst (λ o. EachMember o (ClusterStands c.args.last [])) (sym c.new.ensures.none) tt;
      tracks = begins_bare g.D.Disk.state before c.new.result c.new.ensures.none (λ tells past tell lain. c.new.ensures.tracks tells past before tell lain);
      returned = tt;
      cause = tt;
    }

pub open_members-requires-clause-state : goal.open_members-requires-clause-state
open_members-requires-clause-state g c = subst MayBeState c.in-Some.is c.requires.state

pub returns-in-Ok : goal.returns-in-Ok
returns-in-Ok g c =
    let m = c.in-Ok.members in
    let before = g.X.Disks.depot c.args.disks.now in
    let after = g.X.Disks.depot c.open_members.new.disks in
    record {
      opened = subst (λ o. OpensWith g.D.Disk.state o before after c.of.result.members) (sym c.in-Some.is) (m, c.of.ensures.members, c.in-Ok.ensures.opened);
      state = ap (option_map (λ x. x.net.state)) c.of.ensures.members ∙ ap Some c.in-Ok.ensures.opened.anew.state_is ∙ sym c.in-Some.is;
      calls = c.of.ensures.calls;
      may = may_serve c.of.result m (g.X.Disks.depot c.open_members.new.disks).held c.of.ensures.members c.in-Ok.ensures.may;
      stands = subst (λ o. EachMember o (ClusterStands c.args.last [])) (sym c.of.ensures.members) (subst (λ last. ClusterStands last [] m) (sym c.in-Some.is) c.in-Ok.ensures.stands);
      tracks = begins_afresh g.D.Disk.state before c.of.result after c.in-Some.state m (subst MayBeState c.in-Some.is c.requires.state).place c.of.ensures.members c.of.ensures.calls c.in-Ok.ensures.opened c.in-Ok.ensures.stands;
      returned = tt;
      cause = tt;
    }

pub returns-in-Err-Disk : goal.returns-in-Err-Disk
returns-in-Err-Disk g c =
    let before = g.X.Disks.depot c.args.disks.now in
    let after = g.X.Disks.depot c.open_members.new.disks in
    let why = subst (MayNotTake g.D.Disk.state _ before after) c.in-Err-Disk.field-0-is c.in-Err-Disk.ensures.cause in
    record { opened = tt; state = tt; calls = tt; may = tt; stands = tt; tracks = tt; returned = all_left g.D.Disk.state _ before after c.in-Err-Disk.ensures.returned; cause = why.rose }

pub returns-in-Err-Memory-clause-returned : goal.returns-in-Err-Memory-clause-returned
returns-in-Err-Memory-clause-returned g c =
    all_left g.D.Disk.state _ (g.X.Disks.depot c.args.disks.now) (g.X.Disks.depot c.open_members.new.disks) c.in-Err-Memory.ensures.returned
