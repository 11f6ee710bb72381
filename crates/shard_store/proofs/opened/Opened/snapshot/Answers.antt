use Rattle.std.proofs.Common.{◌∙◌, List, sym, subst}
use Rattle.store_log.proofs.listed_volumes_proofs.commit_log_proofs.Leaves.{leaves_none}
use Rattle.store_log.specs.listed_volumes.commit_log.Contents.{next_after, numbers}
use Rattle.store_log.specs.listed_volumes.shard_files.Parts.{KnownVolume, VolumesAre}
use Rattle.store_log.proofs.snapshot_steps_proofs.volume_steps_proofs.LawLemmas.{join_is_there}
use Rattle.store_log.specs.listed_volumes.Listed.{known_in}
use Rattle.shard_store.specs.StoreParts.{content_of_opened}
use Rattle.shard_store.proofs.KnownReads.{known_counted, counted_is}
use Rattle.shard_store.proofs.RearrangeLemmas.{rearranges_left}
use Rattle.shard_store.proofs.SnapshotLemmas.{are_in, each_after, no_fault, one_after, stands_after}
use Rattle.shard_store.proofs.opened.Opened.snapshot.Goals as goal

pub returns-in_err-points-clause-disk : goal.returns-in_err-points-clause-disk
returns-in_err-points-clause-disk g c =
    let s = c.args.self.now in
    rearranges_left s.held.points (known_in s.volumes.items) s.tenure s.fence _ (g.D.Disk.state c.args.disk.now) (g.D.Disk.state c.args.disk.now) c.requires.kept.exact
    (leaves_none _ (g.D.Disk.state c.args.disk.now) (λ f. no_fault c.from_residual.result c.in_err-points.field-0.0 c.from_residual.ensures c.in_err-points.ensures.err f))

pub returns-clause-kept : goal.returns-clause-kept
returns-clause-kept g c = λ fine.
    let s = c.args.self.now in
    let m = s.held.points in
    let ks = known_in s.volumes.items in
    let old = g.D.Disk.state c.args.disk.now in
    let new = g.D.Disk.state c.take_snapshot.new.disk in
    let are = are_in m ks s.tenure s.fence old (g.met.D.Disk.lawful c.args.disk.now) c.requires.kept.exact c.in_ok-points.points c.in_ok-points.ensures.points in
    record {
      stands = stands_after c.take_snapshot.result c.take_snapshot.new.log new fine c.take_snapshot.ensures.stands (λ wanted. c.take_snapshot.ensures.log_stands wanted c.requires.kept.stands);
      exact = each_after m ks s.tenure s.fence c.in_ok-points.points old new c.take_snapshot.ensures.tells are c.take_snapshot.new.log c.take_snapshot.result fine (c.take_snapshot.ensures.saved m ks c.requires.kept.exact) (c.take_snapshot.ensures.memory m ks c.requires.kept.exact);
      at_rest = c.requires.kept.at_rest;
      order = c.requires.kept.order;
    }

pub returns-clause-saved : goal.returns-clause-saved
returns-clause-saved g c =
    let s = c.args.self.now in
    let m = s.held.points in
    let ks = known_in s.volumes.items in
    let old = g.D.Disk.state c.args.disk.now in
    let new = g.D.Disk.state c.take_snapshot.new.disk in
    let are = are_in m ks s.tenure s.fence old (g.met.D.Disk.lawful c.args.disk.now) c.requires.kept.exact c.in_ok-points.points c.in_ok-points.ensures.points in
    one_after m ks s.tenure s.fence c.in_ok-points.points old new c.take_snapshot.ensures.tells are c.take_snapshot.new.log c.take_snapshot.result (next_after (numbers old.files)) (g.met.D.Disk.lawful c.take_snapshot.new.disk)
    (c.take_snapshot.ensures.saved m ks c.requires.kept.exact) (c.take_snapshot.ensures.alone m ks c.requires.kept.exact) c.take_snapshot.ensures.end c.take_snapshot.ensures.segments c.take_snapshot.ensures.number c.take_snapshot.ensures.stands

pub returns-in_err-points-clause-counted : goal.returns-in_err-points-clause-counted
returns-in_err-points-clause-counted g c = λ fine has. has

pub returns-clause-counted : goal.returns-clause-counted
returns-clause-counted g c = λ fine has tells.
    let s = c.args.self.now in
    let m = s.held.points in
    let ks = known_in s.volumes.items in
    let old = g.D.Disk.state c.args.disk.now in
    let are = are_in m ks s.tenure s.fence old (g.met.D.Disk.lawful c.args.disk.now) c.requires.kept.exact c.in_ok-points.points c.in_ok-points.ensures.points in
    let was = sym c.take_snapshot.ensures.tells ∙ tells in
    c.take_snapshot.ensures.counted m ks c.requires.kept.exact (are was) was fine (has was)

pub returns-clause-known : goal.returns-clause-known
returns-clause-known g c = λ tells fine known counted.
    let s = c.args.self.now in
    let m = s.held.points in
    let ks = known_in s.volumes.items in
    let old = g.D.Disk.state c.args.disk.now in
    let new = g.D.Disk.state c.take_snapshot.new.disk in
    let lawful = g.met.D.Disk.lawful in
    let are = are_in m ks s.tenure s.fence old (lawful c.args.disk.now) c.requires.kept.exact c.in_ok-points.points c.in_ok-points.ensures.points in
    let after = each_after m ks s.tenure s.fence c.in_ok-points.points old new c.take_snapshot.ensures.tells are c.take_snapshot.new.log c.take_snapshot.result fine (c.take_snapshot.ensures.saved m ks c.requires.kept.exact) (c.take_snapshot.ensures.memory m ks c.requires.kept.exact) in
    subst (λ (l : List KnownVolume). VolumesAre l new.files) (sym (counted_is m ks s.tenure s.fence old (lawful c.args.disk.now) c.requires.kept.exact known tells counted))
    (known_counted m ks s.tenure s.fence new (lawful c.take_snapshot.new.disk) after (c.take_snapshot.ensures.tells ∙ tells))

pub returns-clause-disk : goal.returns-clause-disk
returns-clause-disk g c =
    let s = c.args.self.now in
    let m = s.held.points in
    let ks = known_in s.volumes.items in
    let old = g.D.Disk.state c.args.disk.now in
    let are = are_in m ks s.tenure s.fence old (g.met.D.Disk.lawful c.args.disk.now) c.requires.kept.exact c.in_ok-points.points c.in_ok-points.ensures.points in
    record {
      any_moment = λ tells. c.take_snapshot.ensures.any_moment (content_of_opened s) m ks c.requires.kept.exact (are tells) (join_is_there m ks) tells;
      tells = c.take_snapshot.ensures.tells;
      faults = c.take_snapshot.ensures.faults;
    }
