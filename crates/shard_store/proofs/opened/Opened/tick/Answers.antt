use Rattle.std.proofs.Common.{◌∙◌, ◌-◌, ap, length, map, refl, sym, arith}
use Rattle.std.specs.Prelude.{IsErrOf}
use Rattle.std.specs.FinMap.{len}
use Rattle.m3_outside.proofs.Moments.{becomes_stays}
use Rattle.store_log.specs.listed_volumes.block_buffer.Held.{has_expired, without}
use Rattle.store_log.proofs.listed_volumes_proofs.commit_log_proofs.Leaves.{leaves_as}
use Rattle.store_log.proofs.listed_volumes_proofs.commit_log_proofs.ReadLemmas.{passed_err}
use Rattle.store_log.specs.listed_volumes.fileset_read.declared.file_err.FileErr.TheVariants as unread
use Rattle.store_log.specs.listed_volumes.volume_bytes.Heads.{head_of}
use Rattle.store_log.specs.listed_volumes.Listed.{known_in}
use Rattle.shard_store.specs.Stores.{joined_with}
use Rattle.shard_store.specs.StoreParts.{content_of_opened}
use Rattle.shard_store.proofs.CountedLemmas.{counted_left}
use Rattle.shard_store.proofs.LossLemmas.{live_kept, never_memory}
use Rattle.shard_store.proofs.RearrangeLemmas.{rearranges_for, rearranges_then}
use Rattle.shard_store.proofs.StillLemmas.{opened_left}
use Rattle.shard_store.proofs.CacheLemmas.{cached_still}
use Rattle.shard_store.proofs.opened.Opened.tick.Goals as goal

-- ---- nothing was done

pub returns-in_err-ready-clause-kept_still : goal.returns-in_err-ready-clause-kept_still
returns-in_err-ready-clause-kept_still g c = λ m. opened_left c.args.self.now _ (g.D.Disk.state c.args.disk.now) (g.D.Disk.state c.ready_tick.new.disk) c.ready_tick.ensures.leaves c.requires.kept

pub returns-in_err-ready-clause-unchanged : goal.returns-in_err-ready-clause-unchanged
returns-in_err-ready-clause-unchanged g c tells m = becomes_stays _ (g.D.Disk.state c.args.disk.now) (g.D.Disk.state c.ready_tick.new.disk) c.ready_tick.ensures.leaves tells

pub returns-in_err-ready-clause-disk : goal.returns-in_err-ready-clause-disk
returns-in_err-ready-clause-disk g c =
    let s = c.args.self.now in
    live_kept c.args.rules.now (known_in s.volumes.items) s.held.points s.tenure s.fence _ (g.D.Disk.state c.args.disk.now) (g.D.Disk.state c.ready_tick.new.disk) c.requires.kept.exact
    (leaves_as _ _ (g.D.Disk.state c.args.disk.now) (g.D.Disk.state c.ready_tick.new.disk) (λ f. passed_err c.from_residual.result c.ready_tick.result c.in_err-ready.field-0.0 unread.Disk c.in_err-ready.was c.from_residual.ensures.1 f) c.ready_tick.ensures.leaves)

-- ---- what has expired is dropped

pub drop_expired-requires-clause-kept : goal.drop_expired-requires-clause-kept
drop_expired-requires-clause-kept g c = opened_left c.args.self.now _ (g.D.Disk.state c.args.disk.now) (g.D.Disk.state c.ready_tick.new.disk) c.ready_tick.ensures.leaves c.requires.kept

pub drop_expired-requires-clause-goes : goal.drop_expired-requires-clause-goes
drop_expired-requires-clause-goes g c = ap (map head_of) c.deref.ensures.value ∙ c.in_ok-ready.ensures.goes

pub drop_expired-requires-clause-room : goal.drop_expired-requires-clause-room
drop_expired-requires-clause-room g c = let same = ap length c.deref.ensures.value in omega (arith, same, c.in_ok-ready.ensures.room)

pub returns-in_err-drop_expired-clause-kept_still : goal.returns-in_err-drop_expired-clause-kept_still
returns-in_err-drop_expired-clause-kept_still g c = λ m.
    absurd (never_memory c.from_residual-in_err-drop_expired.result c.drop_expired.result c.in_err-drop_expired.field-0.0 c.in_err-drop_expired.was c.drop_expired.ensures.err c.from_residual-in_err-drop_expired.ensures.1 m)

pub returns-in_err-drop_expired-clause-memory : goal.returns-in_err-drop_expired-clause-memory
returns-in_err-drop_expired-clause-memory g c = λ m.
    absurd (never_memory c.from_residual-in_err-drop_expired.result c.drop_expired.result c.in_err-drop_expired.field-0.0 c.in_err-drop_expired.was c.drop_expired.ensures.err c.from_residual-in_err-drop_expired.ensures.1 m)

pub returns-in_err-drop_expired-clause-unchanged : goal.returns-in_err-drop_expired-clause-unchanged
returns-in_err-drop_expired-clause-unchanged g c tells m =
    absurd (never_memory c.from_residual-in_err-drop_expired.result c.drop_expired.result c.in_err-drop_expired.field-0.0 c.in_err-drop_expired.was c.drop_expired.ensures.err c.from_residual-in_err-drop_expired.ensures.1 m)

pub returns-in_err-drop_expired-clause-disk : goal.returns-in_err-drop_expired-clause-disk
returns-in_err-drop_expired-clause-disk g c =
    let s = c.args.self.now in
    let kept = without (content_of_opened s) (has_expired c.args.rules.now) in
    let a = g.D.Disk.state c.args.disk.now in
    let b = g.D.Disk.state c.ready_tick.new.disk in
    let d = g.D.Disk.state c.drop_expired.new.disk in
    rearranges_then kept kept _ a b d (λ tells. refl)
    (live_kept c.args.rules.now (known_in s.volumes.items) s.held.points s.tenure s.fence ⊥ a b c.requires.kept.exact (leaves_as _ _ a b (λ none. absurd none) c.ready_tick.ensures.leaves))
    (rearranges_for kept (IsErrOf c.drop_expired.result unread.Disk) _ b d
    (λ f. passed_err c.from_residual-in_err-drop_expired.result c.drop_expired.result c.in_err-drop_expired.field-0.0 unread.Disk c.in_err-drop_expired.was c.from_residual-in_err-drop_expired.ensures.1 f) c.drop_expired.ensures.disk)

-- ---- it was

pub returns-clause-lost : goal.returns-clause-lost
returns-clause-lost g c tells =
    let s = c.args.self.now in
    let ok = c.in_ok-drop_expired.ensures.ok in
    c.in_ok-ready.ensures.lost tells ∙ (λ i. len (content_of_opened s) - len (joined_with (sym ok.0 i) (sym ok.1 i)))

pub returns-clause-disk : goal.returns-clause-disk
returns-clause-disk g c =
    let s = c.args.self.now in
    let kept = without (content_of_opened s) (has_expired c.args.rules.now) in
    let a = g.D.Disk.state c.args.disk.now in
    let b = g.D.Disk.state c.ready_tick.new.disk in
    let d = g.D.Disk.state c.drop_expired.new.disk in
    rearranges_then kept kept _ a b d (λ tells. refl)
    (live_kept c.args.rules.now (known_in s.volumes.items) s.held.points s.tenure s.fence ⊥ a b c.requires.kept.exact (leaves_as _ _ a b (λ none. absurd none) c.ready_tick.ensures.leaves))
    (rearranges_for kept (IsErrOf c.drop_expired.result unread.Disk) _ b d (λ f. absurd (let bad = f in cc)) c.drop_expired.ensures.disk)

-- ---- what is counted

pub returns-in_err-ready-clause-counted : goal.returns-in_err-ready-clause-counted
returns-in_err-ready-clause-counted g c = counted_left c.args.self.now _ (g.D.Disk.state c.args.disk.now) (g.D.Disk.state c.ready_tick.new.disk) c.ready_tick.ensures.leaves

pub returns-in_err-drop_expired-clause-counted : goal.returns-in_err-drop_expired-clause-counted
returns-in_err-drop_expired-clause-counted g c = λ has. c.drop_expired.ensures.counted (counted_left c.args.self.now _ (g.D.Disk.state c.args.disk.now) (g.D.Disk.state c.ready_tick.new.disk) c.ready_tick.ensures.leaves has)

pub returns-clause-counted : goal.returns-clause-counted
returns-clause-counted g c = λ has. c.drop_expired.ensures.counted (counted_left c.args.self.now _ (g.D.Disk.state c.args.disk.now) (g.D.Disk.state c.ready_tick.new.disk) c.ready_tick.ensures.leaves has)

-- ---- what is kept of volumes

pub returns-in_err-ready-clause-cached : goal.returns-in_err-ready-clause-cached
returns-in_err-ready-clause-cached g c = let s = c.args.self.now in cached_still (known_in s.volumes.items) (known_in s.volumes.items) s.cache s.cache (g.D.Disk.state c.args.disk.now) (g.D.Disk.state c.ready_tick.new.disk) c.ready_tick.ensures.leaves.proceeds.tells refl refl

pub returns-in_err-drop_expired-clause-cached : goal.returns-in_err-drop_expired-clause-cached
returns-in_err-drop_expired-clause-cached g c = λ has.
    let s = c.args.self.now in
    c.drop_expired.ensures.cached (cached_still (known_in s.volumes.items) (known_in s.volumes.items) s.cache s.cache (g.D.Disk.state c.args.disk.now) (g.D.Disk.state c.ready_tick.new.disk) c.ready_tick.ensures.leaves.proceeds.tells refl refl has)

pub returns-clause-cached : goal.returns-clause-cached
returns-clause-cached g c = λ has.
    let s = c.args.self.now in
    c.drop_expired.ensures.cached (cached_still (known_in s.volumes.items) (known_in s.volumes.items) s.cache s.cache (g.D.Disk.state c.args.disk.now) (g.D.Disk.state c.ready_tick.new.disk) c.ready_tick.ensures.leaves.proceeds.tells refl refl has)
