use Rattle.std.proofs.Common.{◌≡◌, ◌∙◌, ◌+◌, ◌<◌, ℕ, ap, arith, length, refl, sym, subst}
use Rattle.std.specs.Prelude.{slice_get}
use Rattle.std.proofs.lemmas.Option.{slice_get_read}
use Rattle.m3_model.specs.Contents.{content_of}
use Rattle.store_log.proofs.listed_volumes_proofs.commit_log_proofs.Leaves.{leaves_as, leaves_then}
use Rattle.store_log.proofs.listed_volumes_proofs.commit_log_proofs.ReadLemmas.{passed_err}
use Rattle.store_log.specs.listed_volumes.fileset_read.declared.file_err.FileErr.TheVariants as unread
use Rattle.store_log.specs.listed_volumes.shard_files.FilesHold.{volume_points}
use Rattle.store_log.specs.listed_volumes.Listed.{known_in}
use Rattle.shard_store.specs.StoreParts.{content_of_opened}
use Rattle.shard_store.specs.Ticks.{keys_in, live_volumes}
use Rattle.shard_store.proofs.KnownReads.{known_counted}
use Rattle.shard_store.proofs.LossLemmas.{Losing, losing_more, losing_none, lost_all}
use Rattle.shard_store.proofs.opened.Opened.lost.Goals as goal

pub loop-position-init : goal.loop-position-init
loop-position-init g c = losing_none c.args.rules.now (known_in c.args.self.now.volumes.items) c.args.self.now.held.points (g.D.Disk.state c.args.disk.now)

pub returns-in_err-more-clause-leaves : goal.returns-in_err-more-clause-leaves
returns-in_err-more-clause-leaves g c =
    let b = g.D.Disk.state c.loop-position.disk in
    let d = g.D.Disk.state c.lost_in.new.disk in
    leaves_then ⊥ _ (g.D.Disk.state c.args.disk.now) b d c.loop-position.invariant.leaves
    (leaves_as _ _ b d (λ f. passed_err c.from_residual.result c.lost_in.result c.in_err-more.field-0.0 unread.Disk c.in_err-more.was c.from_residual.ensures.1 f) c.lost_in.ensures.leaves)

pub returns-in_default-checked_add-clause-leaves : goal.returns-in_default-checked_add-clause-leaves
returns-in_default-checked_add-clause-leaves g c =
    let b = g.D.Disk.state c.loop-position.disk in
    let d = g.D.Disk.state c.lost_in.new.disk in
    leaves_then ⊥ _ (g.D.Disk.state c.args.disk.now) b d c.loop-position.invariant.leaves (leaves_as _ _ b d (λ f. absurd (let bad = f in cc)) c.lost_in.ensures.leaves)

pub loop-position-preserved : goal.loop-position-preserved
loop-position-preserved g c =
    let s = c.args.self.now in
    let rules = c.args.rules.now in
    let ks = known_in s.volumes.items in
    let i = c.loop-position.position in
    let items = c.as_slice-space-items.result.now in
    let a = g.D.Disk.state c.args.disk.now in
    let b = g.D.Disk.state c.loop-position.disk in
    let d = g.D.Disk.state c.lost_in.new.disk in
    let ns_is : c.in-Ok.ns ≡ c.loop-position.position = omega (arith, c.in-Ok.ensures) in
    let sum_is : c.in-Some-checked_add.sum ≡ c.loop-position.lost + c.in_ok-more.more = omega (arith, c.in-Some-checked_add.ensures) in
    let low : c.loop-position.position < length c.as_slice-space-items.result.now = omega (arith, c.loop-position-test.true) in
    let stands = ap (λ l. slice_get l c.loop-position.position) (sym c.as_slice-space-items.ensures) ∙ slice_get_read items (length items) i c.space-item.result refl low c.space-item.is in
    subst (λ (n : ℕ). Losing rules ks s.held.points (i + 1) n a d) (sym sum_is)
    (losing_more rules ks s.held.points i c.loop-position.lost c.in_ok-more.more c.space-item.result stands c.in-Some.end c.in-Some.ensures a b d c.loop-position.invariant (leaves_as _ ⊥ b d (λ none. absurd none) c.lost_in.ensures.leaves)
    (λ tells. subst (λ (n : ℕ). c.in_ok-more.more + keys_in (content_of (volume_points (live_volumes rules ks))) n c.in-Some.end ≡ keys_in (content_of_opened s) n c.in-Some.end) ns_is (c.in_ok-more.ensures.lost tells)))

pub returns-clause-lost : goal.returns-clause-lost
returns-clause-lost g c tells =
    let s = c.args.self.now in
    let rules = c.args.rules.now in
    let ks = known_in s.volumes.items in
    let a = g.D.Disk.state c.args.disk.now in
    let lawful = g.met.D.Disk.lawful c.args.disk.now in
    let all = ap length c.as_slice-space-items.ensures in
    lost_all rules ks s.held.points a.files (known_counted s.held.points ks s.tenure s.fence a lawful c.requires.kept.exact tells) c.loop-position.position c.loop-position.lost a (g.D.Disk.state c.loop-position.disk) (omega (arith, c.loop-position-test.false, all)) c.loop-position.invariant tells
