use Rattle.std.proofs.Common.{List, refl, sym, subst}
use Rattle.std.specs.Prelude.{IsErrOf}
use Rattle.m3_outside.specs.DiskState.{EachImage}
use Rattle.m3_outside.specs.declared.disk_err.DiskErr.TheVariants.{Failed as DiskFailed}
use Rattle.store_log.proofs.listed_volumes_proofs.commit_log_proofs.ReadLemmas.{passed_err}
use Rattle.store_log.specs.listed_volumes.shard_files.Parts.{KnownVolume}
use Rattle.shard_store.proofs.Counts.{counts_for}
use Rattle.store_log.specs.snapshot_steps.volume_steps.Known.{HoldsKnown}
use Rattle.store_log.specs.listed_volumes.Listed.{known_in}
use Rattle.shard_store.specs.StoreParts.{content_of_opened}
use Rattle.shard_store.proofs.CountedLemmas.{counted_removed}
use Rattle.store_log.proofs.LogStepLemmas.{err_is, memory_else}
use Rattle.shard_store.proofs.RearrangeLemmas.{becomes_each}
use Rattle.shard_store.proofs.ReplaceLemmas.{content_removed}
use Rattle.shard_store.proofs.CacheLemmas.{cached_still, cached_without}
use Rattle.shard_store.proofs.opened.Opened.remove_older.Goals as goal

pub returns-in_err-remove_volumes-clause-kept : goal.returns-in_err-remove_volumes-clause-kept
returns-in_err-remove_volumes-clause-kept g c = λ fine.
    let memory = memory_else c.remove_volumes.result c.from_residual.result c.in_err-remove_volumes.field-0.0 c.in_err-remove_volumes.was (err_is c.from_residual.result c.in_err-remove_volumes.field-0.0 c.from_residual.ensures) fine in
    record {
      stands = c.remove_volumes.ensures.log_stands c.args.self.now.log c.requires.kept.stands;
      exact = becomes_each (g.D.Disk.state c.args.disk.now) (g.D.Disk.state c.remove_volumes.new.disk) c.remove_volumes.ensures.tells (λ tells. c.remove_volumes.ensures.memory tells memory) c.requires.kept.exact;
      at_rest = c.requires.kept.at_rest;
      order = c.requires.kept.order;
    }

pub returns-in_err-remove_volumes-clause-disk : goal.returns-in_err-remove_volumes-clause-disk
returns-in_err-remove_volumes-clause-disk g c =
    let s = c.args.self.now in
    record {
      any_moment = λ tells. c.remove_volumes.ensures.any_moment (content_of_opened s) s.held.points (known_in s.volumes.items) s.tenure s.fence c.requires.kept.exact (c.requires.there tells) tells;
      tells = c.remove_volumes.ensures.tells;
      faults = counts_for (IsErrOf c.remove_volumes.result DiskFailed) (IsErrOf c.from_residual.result DiskFailed) _ _ (λ f. passed_err c.from_residual.result c.remove_volumes.result c.in_err-remove_volumes.field-0.0 DiskFailed c.in_err-remove_volumes.was c.from_residual.ensures.1 f) c.remove_volumes.ensures.faults;
    }

pub returns-clause-kept : goal.returns-clause-kept
returns-clause-kept g c = λ fine. record {
  stands = c.remove_volumes.ensures.log_stands c.args.self.now.log c.requires.kept.stands;
  exact = subst (λ (ks : List KnownVolume). EachImage (g.D.Disk.state c.remove_volumes.new.disk) (HoldsKnown c.args.self.now.held.points ks c.args.self.now.tenure c.args.self.now.fence)) (sym c.take_off.ensures)
      (c.in_ok-remove_volumes.ensures.known c.args.self.now.held.points (known_in c.args.self.now.volumes.items) c.args.self.now.tenure c.args.self.now.fence c.requires.kept.exact);
  at_rest = c.requires.kept.at_rest;
  order = c.requires.kept.order;
}

pub returns-clause-disk : goal.returns-clause-disk
returns-clause-disk g c =
    let s = c.args.self.now in
    record {
      any_moment = λ tells. c.remove_volumes.ensures.any_moment (content_of_opened s) s.held.points (known_in s.volumes.items) s.tenure s.fence c.requires.kept.exact (c.requires.there tells) tells;
      tells = c.remove_volumes.ensures.tells;
      faults = counts_for (IsErrOf c.remove_volumes.result DiskFailed) _ _ _ (λ f. absurd (let bad = f in cc)) c.remove_volumes.ensures.faults;
    }

pub returns-clause-content : goal.returns-clause-content
returns-clause-content g c = λ tells.
    let s = c.args.self.now in
    content_removed s.held.points (known_in s.volumes.items) (known_in c.take_off.new.listed.items) c.args.olds.now c.take_off.ensures (c.requires.there tells)

pub returns-in_err-remove_volumes-clause-counted : goal.returns-in_err-remove_volumes-clause-counted
returns-in_err-remove_volumes-clause-counted g c = counted_removed c.args.self.now c.args.olds.now (g.D.Disk.state c.args.disk.now) (g.D.Disk.state c.remove_volumes.new.disk) c.remove_volumes.ensures.tells c.remove_volumes.ensures.segments c.remove_volumes.ensures.others

pub returns-clause-counted : goal.returns-clause-counted
returns-clause-counted g c = counted_removed c.args.self.now c.args.olds.now (g.D.Disk.state c.args.disk.now) (g.D.Disk.state c.remove_volumes.new.disk) c.remove_volumes.ensures.tells c.remove_volumes.ensures.segments c.remove_volumes.ensures.others

pub returns-in_err-remove_volumes-clause-cached : goal.returns-in_err-remove_volumes-clause-cached
returns-in_err-remove_volumes-clause-cached g c =
    let s = c.args.self.now in
    cached_still (known_in s.volumes.items) (known_in s.volumes.items) s.cache s.cache (g.D.Disk.state c.args.disk.now) (g.D.Disk.state c.remove_volumes.new.disk) c.remove_volumes.ensures.tells refl refl

pub returns-clause-cached : goal.returns-clause-cached
returns-clause-cached g c =
    let s = c.args.self.now in
    cached_without (known_in s.volumes.items) (known_in c.take_off.new.listed.items) s.cache c.forget_all.new.self (g.D.Disk.state c.args.disk.now) (g.D.Disk.state c.remove_volumes.new.disk) c.remove_volumes.ensures.tells c.args.olds.now c.take_off.ensures c.forget_all.ensures
