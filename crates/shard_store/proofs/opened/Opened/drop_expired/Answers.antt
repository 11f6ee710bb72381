use Rattle.std.proofs.Common.{List, ap, refl, sym, subst}
use Rattle.std.specs.Prelude.{IsErrOf}
use Rattle.m3_outside.specs.DiskState.{EachImage}
use Rattle.m3_outside.specs.declared.disk_err.DiskErr.TheVariants.{Failed as DiskFailed}
use Rattle.store_log.specs.listed_volumes.block_buffer.Held.{InMemory, has_expired, without}
use Rattle.store_log.specs.listed_volumes.fileset_read.declared.file_err.FileErr.TheVariants as unread
use Rattle.store_log.specs.listed_volumes.shard_files.Parts.{KnownVolume}
use Rattle.shard_store.proofs.Counts.{counts_for}
use Rattle.store_log.specs.snapshot_steps.volume_steps.Known.{HoldsKnown}
use Rattle.store_log.specs.listed_volumes.Listed.{known_in}
use Rattle.shard_store.specs.StoreParts.{content_of_opened}
use Rattle.shard_store.proofs.CountedLemmas.{counted_removed}
use Rattle.shard_store.proofs.LossLemmas.{live_known, live_left, live_there, only_fault}
use Rattle.shard_store.proofs.StillLemmas.{fault_said}
use Rattle.shard_store.proofs.CacheLemmas.{cached_live, cached_still}
use Rattle.shard_store.proofs.opened.Opened.drop_expired.Goals as goal

pub returns-in_err-remove_volumes-clause-err : goal.returns-in_err-remove_volumes-clause-err
returns-in_err-remove_volumes-clause-err g c =
    only_fault c.from_residual.result c.remove_volumes.result c.in_err-remove_volumes.field-0.0 c.in_err-remove_volumes.was (λ wanted. c.remove_volumes.ensures.room c.requires.room wanted) c.from_residual.ensures.1

pub returns-in_err-remove_volumes-clause-disk : goal.returns-in_err-remove_volumes-clause-disk
returns-in_err-remove_volumes-clause-disk g c =
    let s = c.args.self.now in
    let rules = c.args.rules.now in
    let ks = known_in s.volumes.items in
    let a = g.D.Disk.state c.args.disk.now in
    let lawful = g.met.D.Disk.lawful c.args.disk.now in
    record {
      any_moment = λ tells. c.remove_volumes.ensures.any_moment (without (content_of_opened s) (has_expired rules)) (without s.held.points (has_expired rules)) ks s.tenure s.fence
          (live_known rules ks s.held.points c.args.goes.now c.requires.goes s.tenure s.fence a lawful c.requires.kept.exact)
          (live_there rules ks s.held.points c.args.goes.now c.requires.goes s.tenure s.fence a lawful c.requires.kept.exact tells) tells;
      tells = c.remove_volumes.ensures.tells;
      faults = counts_for (IsErrOf c.remove_volumes.result DiskFailed) (IsErrOf c.from_residual.result unread.Disk) _ _
          (λ f. fault_said c.from_residual.result c.remove_volumes.result c.in_err-remove_volumes.field-0.0 c.in_err-remove_volumes.was c.from_residual.ensures.1 f) c.remove_volumes.ensures.faults;
    }

pub returns-clause-kept : goal.returns-clause-kept
returns-clause-kept g c =
    let s = c.args.self.now in
    let rules = c.args.rules.now in
    let ks = known_in s.volumes.items in
    let m = s.held.points in
    let live = without m (has_expired rules) in
    let b = g.D.Disk.state c.remove_volumes.new.disk in
    let lawful = g.met.D.Disk.lawful c.args.disk.now in
    let each = live_known rules ks m c.args.goes.now c.requires.goes s.tenure s.fence (g.D.Disk.state c.args.disk.now) lawful c.requires.kept.exact in
    let left = live_left rules ks m c.args.goes.now c.requires.goes s.tenure s.fence (g.D.Disk.state c.args.disk.now) lawful c.requires.kept.exact b c.remove_volumes.ensures.tells (c.in_ok-remove_volumes.ensures.known live ks s.tenure s.fence each) in
    record {
      stands = c.remove_volumes.ensures.log_stands s.log c.requires.kept.stands;
      exact = subst (λ (w : InMemory). EachImage b (HoldsKnown w.points (known_in c.forget.new.listed.items) s.tenure s.fence)) (sym c.expire.ensures.taken)
          (subst (λ (l : List KnownVolume). EachImage b (HoldsKnown live l s.tenure s.fence)) (sym c.forget.ensures) left);
      at_rest = ap (λ (w : InMemory). w.room) c.expire.ensures.taken;
      order = c.requires.kept.order;
    }

pub returns-clause-disk : goal.returns-clause-disk
returns-clause-disk g c =
    let s = c.args.self.now in
    let rules = c.args.rules.now in
    let ks = known_in s.volumes.items in
    let a = g.D.Disk.state c.args.disk.now in
    let lawful = g.met.D.Disk.lawful c.args.disk.now in
    record {
      any_moment = λ tells. c.remove_volumes.ensures.any_moment (without (content_of_opened s) (has_expired rules)) (without s.held.points (has_expired rules)) ks s.tenure s.fence
          (live_known rules ks s.held.points c.args.goes.now c.requires.goes s.tenure s.fence a lawful c.requires.kept.exact)
          (live_there rules ks s.held.points c.args.goes.now c.requires.goes s.tenure s.fence a lawful c.requires.kept.exact tells) tells;
      tells = c.remove_volumes.ensures.tells;
      faults = counts_for (IsErrOf c.remove_volumes.result DiskFailed) _ _ _ (λ f. absurd (let bad = f in cc)) c.remove_volumes.ensures.faults;
    }

pub returns-in_err-remove_volumes-clause-counted : goal.returns-in_err-remove_volumes-clause-counted
returns-in_err-remove_volumes-clause-counted g c = counted_removed c.args.self.now c.args.goes.now (g.D.Disk.state c.args.disk.now) (g.D.Disk.state c.remove_volumes.new.disk) c.remove_volumes.ensures.tells c.remove_volumes.ensures.segments c.remove_volumes.ensures.others

pub returns-clause-counted : goal.returns-clause-counted
returns-clause-counted g c = counted_removed c.args.self.now c.args.goes.now (g.D.Disk.state c.args.disk.now) (g.D.Disk.state c.remove_volumes.new.disk) c.remove_volumes.ensures.tells c.remove_volumes.ensures.segments c.remove_volumes.ensures.others

pub returns-in_err-remove_volumes-clause-cached : goal.returns-in_err-remove_volumes-clause-cached
returns-in_err-remove_volumes-clause-cached g c =
    let s = c.args.self.now in
    cached_still (known_in s.volumes.items) (known_in s.volumes.items) s.cache s.cache (g.D.Disk.state c.args.disk.now) (g.D.Disk.state c.remove_volumes.new.disk) c.remove_volumes.ensures.tells refl refl

pub returns-clause-cached : goal.returns-clause-cached
returns-clause-cached g c =
    let s = c.args.self.now in
    cached_live (known_in s.volumes.items) (known_in c.forget.new.listed.items) s.cache c.forget_all.new.self (g.D.Disk.state c.args.disk.now) (g.D.Disk.state c.remove_volumes.new.disk) c.remove_volumes.ensures.tells c.args.rules.now c.args.goes.now c.requires.goes c.forget.ensures c.forget_all.ensures
