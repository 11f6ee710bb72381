use Rattle.std.proofs.Common.{◌∙◌, List, ap, map}
use Rattle.std.specs.Prelude.{filter}
use Rattle.store_log.proofs.listed_volumes_proofs.commit_log_proofs.Leaves.{leaves_none, leaves_as, leaves_then}
use Rattle.store_log.proofs.listed_volumes_proofs.commit_log_proofs.ReadLemmas.{passed_err}
use Rattle.store_log.specs.listed_volumes.fileset_read.declared.file_err.FileErr.TheVariants as unread
use Rattle.store_log.specs.listed_volumes.volume_bytes.Heads.{head_of}
use Rattle.store_log.proofs.listed_volumes_proofs.ReadLemmas.{not_fault}
use Rattle.store_log.specs.listed_volumes.Listed.{known_in}
use Rattle.shard_store.specs.Ticks.{has_outlived, live_volumes}
use Rattle.store_log.specs.listed_volumes.declared.volume.ListedVolume.{ListedVolume}
use Rattle.shard_store.proofs.StillLemmas.{fault_said}
use Rattle.shard_store.proofs.opened.Opened.ready_tick.Goals as goal

pub returns-in_err-goes-clause-leaves : goal.returns-in_err-goes-clause-leaves
returns-in_err-goes-clause-leaves g c =
    leaves_none _ (g.D.Disk.state c.args.disk.now) (λ f. not_fault c.going.result c.going.ensures.err (passed_err c.from_residual.result c.going.result c.in_err-goes.field-0.0 unread.Disk c.in_err-goes.was c.from_residual.ensures.1 f))

pub returns-in_err-stays-clause-leaves : goal.returns-in_err-stays-clause-leaves
returns-in_err-stays-clause-leaves g c =
    leaves_none _ (g.D.Disk.state c.args.disk.now)
    (λ f. not_fault c.staying.result c.staying.ensures.err (passed_err c.from_residual-in_err-stays.result c.staying.result c.in_err-stays.field-0.0 unread.Disk c.in_err-stays.was c.from_residual-in_err-stays.ensures.1 f))

pub lost-requires-clause-goes : goal.lost-requires-clause-goes
lost-requires-clause-goes g c =
    ap (map head_of) c.deref-3.ensures.value ∙ c.in_ok-goes.ensures.ok ∙ ap (λ (vs : List ListedVolume). map (λ k. k.head) (filter (has_outlived c.args.rules.now) (known_in vs))) c.deref.ensures.value

pub lost-requires-clause-stays : goal.lost-requires-clause-stays
lost-requires-clause-stays g c =
    ap (map head_of) c.deref-4.ensures.value ∙ c.in_ok-stays.ensures.ok ∙ ap (λ (vs : List ListedVolume). map (λ k. k.head) (live_volumes c.args.rules.now (known_in vs))) c.deref-2.ensures.value

pub returns-in_err-reserve-clause-leaves : goal.returns-in_err-reserve-clause-leaves
returns-in_err-reserve-clause-leaves g c =
    let a = g.D.Disk.state c.args.disk.now in
    let b = g.D.Disk.state c.lost.new.disk in
    let d = g.D.Disk.state c.reserve.new.self in
    leaves_then _ _ a b d c.lost.ensures.leaves
    (leaves_as _ _ b d (λ f. fault_said c.from_residual-in_err-reserve.result c.reserve.result c.in_err-reserve.field-0.0 c.in_err-reserve.was c.from_residual-in_err-reserve.ensures.1 f) c.reserve.ensures.leaves)

pub returns-clause-goes : goal.returns-clause-goes
returns-clause-goes g c = c.in_ok-goes.ensures.ok ∙ ap (λ (vs : List ListedVolume). map (λ k. k.head) (filter (has_outlived c.args.rules.now) (known_in vs))) c.deref.ensures.value

pub returns-clause-leaves : goal.returns-clause-leaves
returns-clause-leaves g c =
    let a = g.D.Disk.state c.args.disk.now in
    let b = g.D.Disk.state c.lost.new.disk in
    let d = g.D.Disk.state c.reserve.new.self in
    leaves_then _ _ a b d c.lost.ensures.leaves (leaves_as _ _ b d (λ f. absurd (let bad = f in cc)) c.reserve.ensures.leaves)
