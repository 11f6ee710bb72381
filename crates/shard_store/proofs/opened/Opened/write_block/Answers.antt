use Rattle.std.proofs.Common.{◌≡◌, List, ap, refl, sym, subst, ◌∙◌}
use Rattle.std.specs.Prelude.{⊤, IsErrOf, Result}
use Rattle.m3_outside.specs.DiskState.{EachImage}
use Rattle.m3_outside.specs.declared.disk_err.DiskErr.{DiskErr}
use Rattle.m3_outside.specs.declared.disk_err.DiskErr.TheVariants.{Memory, Failed as DiskFailed}
use Rattle.store_log.specs.listed_volumes.block_buffer.Held.{InMemory, is_in_block, without}
use Rattle.store_log.proofs.listed_volumes_proofs.commit_log_proofs.Leaves.{leaves_none}
use Rattle.store_log.specs.listed_volumes.shard_files.Parts.{KnownVolume}
use Rattle.store_log.specs.snapshot_steps.volume_steps.Known.{HoldsKnown}
use Rattle.store_log.specs.snapshot_steps.volume_steps.KnownLists.{volume_of, with_volume}
use Rattle.store_log.proofs.snapshot_steps_proofs.volume_steps_proofs.KnownLemmas.{hold_with_fewer}
use Rattle.shard_store.proofs.CountedLemmas.{counted_wrote}
use Rattle.shard_store.proofs.PointLemmas.{has_fewer}
use Rattle.store_log.proofs.listed_volumes_proofs.commit_log_proofs.ReadLemmas.{passed_err}
use Rattle.shard_store.proofs.Counts.{counts_for}
use Rattle.store_log.proofs.snapshot_steps_proofs.volume_steps_proofs.LawLemmas.{join_is_there}
use Rattle.store_log.specs.listed_volumes.declared.volume.ListedVolume.{ListedVolume}
use Rattle.store_log.specs.listed_volumes.Listed.{known_as, known_in}
use Rattle.shard_store.specs.StoreParts.{content_of_opened}
use Rattle.shard_store.specs.Stores.{joined_with}
use Rattle.shard_store.proofs.BlockLemmas.{content_written, have_rows, other_numbers}
use Rattle.shard_store.proofs.VolumeLists.{numbered}
use Rattle.store_log.proofs.LogStepLemmas.{err_is, not_failed, want_else}
use Rattle.shard_store.proofs.RearrangeLemmas.{rearranges_left}
use Rattle.store_log.specs.listed_volumes.Cached.{cache_key}
use Rattle.shard_store.proofs.CacheLemmas.{cached_added, cached_still}
use Rattle.shard_store.proofs.opened.Opened.write_block.Goals as goal

pub returns-in_err-reserve-clause-disk : goal.returns-in_err-reserve-clause-disk
returns-in_err-reserve-clause-disk g c =
    let s = c.args.self.now in
    rearranges_left s.held.points (known_in s.volumes.items) s.tenure s.fence _ (g.D.Disk.state c.args.disk.now) (g.D.Disk.state c.args.disk.now) c.requires.kept.exact
    (leaves_none _ (g.D.Disk.state c.args.disk.now) (λ h. not_failed (subst (λ (q : Result ⊤ DiskErr). IsErrOf q DiskFailed) (err_is c.from_residual.result Memory c.from_residual.ensures) h)))

pub returns-in_err-volume-clause-disk : goal.returns-in_err-volume-clause-disk
returns-in_err-volume-clause-disk g c =
    let s = c.args.self.now in
    rearranges_left s.held.points (known_in s.volumes.items) s.tenure s.fence _ (g.D.Disk.state c.args.disk.now) (g.D.Disk.state c.args.disk.now) c.requires.kept.exact
    (leaves_none _ (g.D.Disk.state c.args.disk.now) (λ h. not_failed (subst (λ (q : Result ⊤ DiskErr). IsErrOf q DiskFailed) (err_is c.from_residual-in_err-volume.result Memory c.from_residual-in_err-volume.ensures) h)))

pub returns-in_err-number-clause-kept : goal.returns-in_err-number-clause-kept
returns-in_err-number-clause-kept g c = λ fine.
    let s = c.args.self.now in
    let wanted = want_else c.from_residual-in_err-number.result c.write_volume.result c.in_err-number.field-0.0 c.in_err-number.was (err_is c.from_residual-in_err-number.result c.in_err-number.field-0.0 c.from_residual-in_err-number.ensures) fine in
    record {
      stands = c.write_volume.ensures.log_stands s.log c.requires.kept.stands;
      exact = subst (λ (vs : List ListedVolume). EachImage (g.D.Disk.state c.write_volume.new.disk) (HoldsKnown s.held.points (known_in vs) s.tenure s.fence)) (sym c.reserve.ensures.items)
          (c.write_volume.ensures.memory s.held.points (known_in s.volumes.items) s.tenure s.fence c.requires.kept.exact wanted);
      at_rest = c.requires.kept.at_rest;
      order = c.requires.kept.order;
    }

pub returns-in_err-number-clause-others : goal.returns-in_err-number-clause-others
returns-in_err-number-clause-others g c = λ tells. other_numbers c.args.head.now.ns c.args.head.now.start (g.D.Disk.state c.args.disk.now).files (g.D.Disk.state c.write_volume.new.disk).files (c.write_volume.ensures.others tells)

pub returns-in_err-number-clause-disk : goal.returns-in_err-number-clause-disk
returns-in_err-number-clause-disk g c =
    let s = c.args.self.now in
    let h = c.args.head.now in
    record {
      any_moment = λ tells. c.write_volume.ensures.any_moment (content_of_opened s) s.held.points (known_in s.volumes.items) s.tenure s.fence c.requires.kept.exact (join_is_there s.held.points (known_in s.volumes.items))
          (have_rows s.held.points (known_in s.volumes.items) h.ns h.start h.size c.args.rows.now c.requires.ordered (c.requires.join tells)) tells;
      tells = c.write_volume.ensures.tells;
      faults = counts_for (IsErrOf c.write_volume.result DiskFailed) (IsErrOf c.from_residual-in_err-number.result DiskFailed) _ _ (λ f. passed_err c.from_residual-in_err-number.result c.write_volume.result c.in_err-number.field-0.0 DiskFailed c.in_err-number.was c.from_residual-in_err-number.ensures.1 f) c.write_volume.ensures.faults;
    }

pub returns-clause-kept : goal.returns-clause-kept
returns-clause-kept g c = λ fine.
    let s = c.args.self.now in
    let h = c.args.head.now in
    let m = s.held.points in
    let left = without m (is_in_block h.ns h.start h.size) in
    let ks = known_in s.volumes.items in
    let k = volume_of h.ns h.start h.size c.in_ok-number.number c.args.rows.now in
    let listed : known_in c.add.new.listed.items ≡ with_volume k ks =
    c.add.ensures ∙ (λ i. with_volume (numbered (known_as c.in_ok-volume.volume) h.ns h.start h.size h.number c.in_ok-number.number c.args.rows.now c.in_ok-volume.ensures.known i) (known_in (c.reserve.ensures.items i))) in
    let base : EachImage (g.D.Disk.state c.write_volume.new.disk) (HoldsKnown left (with_volume k ks) s.tenure s.fence) =
    λ tells x image. hold_with_fewer m left (with_volume k ks) s.tenure s.fence x (c.in_ok-number.ensures.known m ks s.tenure s.fence c.requires.kept.exact tells x image) (λ p here. has_fewer m (is_in_block h.ns h.start h.size) p here) in
    record {
      stands = c.write_volume.ensures.log_stands s.log c.requires.kept.stands;
      exact = subst (λ (w : InMemory). EachImage (g.D.Disk.state c.write_volume.new.disk) (HoldsKnown w.points (known_in c.add.new.listed.items) s.tenure s.fence)) (sym c.drop_block.ensures)
          (subst (λ (l : List KnownVolume). EachImage (g.D.Disk.state c.write_volume.new.disk) (HoldsKnown left l s.tenure s.fence)) (sym listed) base);
      at_rest = ap (λ (w : InMemory). w.room) c.drop_block.ensures;
      order = c.requires.kept.order;
    }

pub returns-clause-others : goal.returns-clause-others
returns-clause-others g c = λ tells. other_numbers c.args.head.now.ns c.args.head.now.start (g.D.Disk.state c.args.disk.now).files (g.D.Disk.state c.write_volume.new.disk).files (c.write_volume.ensures.others tells)

pub returns-clause-disk : goal.returns-clause-disk
returns-clause-disk g c =
    let s = c.args.self.now in
    let h = c.args.head.now in
    record {
      any_moment = λ tells. c.write_volume.ensures.any_moment (content_of_opened s) s.held.points (known_in s.volumes.items) s.tenure s.fence c.requires.kept.exact (join_is_there s.held.points (known_in s.volumes.items))
          (have_rows s.held.points (known_in s.volumes.items) h.ns h.start h.size c.args.rows.now c.requires.ordered (c.requires.join tells)) tells;
      tells = c.write_volume.ensures.tells;
      faults = counts_for (IsErrOf c.write_volume.result DiskFailed) _ _ _ (λ f. absurd (let bad = f in cc)) c.write_volume.ensures.faults;
    }

pub returns-clause-content : goal.returns-clause-content
returns-clause-content g c = λ tells.
    let s = c.args.self.now in
    let h = c.args.head.now in
    let m = s.held.points in
    let ks = known_in s.volumes.items in
    let k = volume_of h.ns h.start h.size c.in_ok-number.number c.args.rows.now in
    let listed : known_in c.add.new.listed.items ≡ with_volume k ks =
    c.add.ensures ∙ (λ i. with_volume (numbered (known_as c.in_ok-volume.volume) h.ns h.start h.size h.number c.in_ok-number.number c.args.rows.now c.in_ok-volume.ensures.known i) (known_in (c.reserve.ensures.items i))) in
    (λ i. joined_with (c.drop_block.ensures i).points (listed i)) ∙ content_written m ks h.ns h.start h.size c.args.rows.now c.requires.ordered (c.requires.join tells) c.in_ok-number.number

pub returns-in_err-reserve-clause-counted : goal.returns-in_err-reserve-clause-counted
returns-in_err-reserve-clause-counted g c = λ has. has

pub returns-in_err-volume-clause-counted : goal.returns-in_err-volume-clause-counted
returns-in_err-volume-clause-counted g c = λ has. has

pub returns-in_err-number-clause-counted : goal.returns-in_err-number-clause-counted
returns-in_err-number-clause-counted g c =
    let h = c.args.head.now in
    counted_wrote c.args.self.now h.ns h.start (g.D.Disk.state c.args.disk.now) (g.D.Disk.state c.write_volume.new.disk) c.write_volume.ensures.tells c.write_volume.ensures.segments c.write_volume.ensures.others

pub returns-clause-counted : goal.returns-clause-counted
returns-clause-counted g c =
    let h = c.args.head.now in
    counted_wrote c.args.self.now h.ns h.start (g.D.Disk.state c.args.disk.now) (g.D.Disk.state c.write_volume.new.disk) c.write_volume.ensures.tells c.write_volume.ensures.segments c.write_volume.ensures.others

pub returns-in_err-reserve-clause-cached : goal.returns-in_err-reserve-clause-cached
returns-in_err-reserve-clause-cached g c =
    let s = c.args.self.now in
    cached_still (known_in s.volumes.items) (known_in c.reserve.new.self.items) s.cache s.cache (g.D.Disk.state c.args.disk.now) (g.D.Disk.state c.args.disk.now) refl (ap known_in c.reserve.ensures.items) refl

pub returns-in_err-volume-clause-cached : goal.returns-in_err-volume-clause-cached
returns-in_err-volume-clause-cached g c =
    let s = c.args.self.now in
    cached_still (known_in s.volumes.items) (known_in c.reserve.new.self.items) s.cache s.cache (g.D.Disk.state c.args.disk.now) (g.D.Disk.state c.args.disk.now) refl (ap known_in c.reserve.ensures.items) refl

pub returns-in_err-number-clause-cached : goal.returns-in_err-number-clause-cached
returns-in_err-number-clause-cached g c =
    let s = c.args.self.now in
    cached_still (known_in s.volumes.items) (known_in c.reserve.new.self.items) s.cache s.cache (g.D.Disk.state c.args.disk.now) (g.D.Disk.state c.write_volume.new.disk) c.write_volume.ensures.tells (ap known_in c.reserve.ensures.items) refl

pub returns-clause-cached : goal.returns-clause-cached
returns-clause-cached g c =
    let s = c.args.self.now in
    let h = c.args.head.now in
    let k = volume_of h.ns h.start h.size c.in_ok-number.number c.args.rows.now in
    let one = numbered (known_as c.in_ok-volume.volume) h.ns h.start h.size h.number c.in_ok-number.number c.args.rows.now c.in_ok-volume.ensures.known in
    let listed : known_in c.add.new.listed.items ≡ with_volume k (known_in s.volumes.items) = c.add.ensures ∙ (λ i. with_volume (one i) (known_in (c.reserve.ensures.items i))) in
    cached_added (known_in s.volumes.items) (known_in c.add.new.listed.items) s.cache c.forget.new.self (g.D.Disk.state c.args.disk.now) (g.D.Disk.state c.write_volume.new.disk) c.write_volume.ensures.tells _ k (ap (λ (j : KnownVolume). cache_key j.head) one) listed c.forget.ensures
