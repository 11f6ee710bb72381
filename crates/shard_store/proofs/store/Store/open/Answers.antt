use Rattle.std.proofs.Common.{◌≡◌, ◌+◌, List, length, map, arith, ap, refl, sym, subst, ◌∙◌}
use Rattle.std.specs.Prelude.{IsErrOf}
use Rattle.m3_outside.specs.DiskState.{EachImage, Told}
use Rattle.m3_outside.specs.declared.disk_err.DiskErr.{DiskErr}
use Rattle.m3_outside.specs.declared.disk_err.DiskErr.TheVariants.{Memory, Failed as DiskFailed}
use Rattle.store_log.specs.listed_volumes.shard_files.Gains.{Brings, nothing}
use Rattle.std.specs.Prelude.{⊤, Err, Option, Result}
use Rattle.shard_store.specs.declared.opened.Opened.{Opened}
use Rattle.store_log.specs.listed_volumes.commit_log.Contents.{numbers}
use Rattle.store_log.specs.listed_volumes.shard_files.Parts.{IsNewestNumber, KnownVolume}
use Rattle.store_log.specs.listed_volumes.shard_files.FilesHold.{volume_points}
use Rattle.shard_open.specs.Loads.{known_of}
use Rattle.store_log.specs.snapshot_steps.volume_steps.Known.{HoldsKnown}
use Rattle.store_log.specs.listed_volumes.Cached.{AreOfVolumes, AreRight}
use Rattle.store_log.specs.listed_volumes.Listed.{known_in}
use Rattle.store_log.specs.listed_volumes.declared.row_cache.RowCache.{RowCache}
use Rattle.shard_store.specs.StoreParts.{IsKept, content_in}
use Rattle.shard_store.specs.Stores.{joined_with}
use Rattle.store_log.proofs.snapshot_steps_proofs.LogCounts.{few_segments}
use Rattle.shard_store.proofs.PointLemmas.{settled_joins}
use Rattle.store_log.specs.listed_volumes.block_buffer.Held.{InMemory}
use Rattle.store_log.proofs.LogStepLemmas.{err_is, brings_none, brings_nothing, brings_nothing_more, err_to}
use Rattle.shard_store.proofs.OpenLemmas.{only_held, volumes_among}
use Rattle.shard_store.proofs.Counts.{counts_for}
use Rattle.shard_store.proofs.store.Store.open.Goals as goal

pub returns-in_err-taken-clause-disk : goal.returns-in_err-taken-clause-disk
returns-in_err-taken-clause-disk g c = brings_none nothing c.from_residual.result (g.D.Disk.state c.args.self.now.disk) (err_is c.from_residual.result Memory c.from_residual.ensures)

pub returns-in-Err-clause-disk : goal.returns-in-Err-clause-disk
returns-in-Err-clause-disk g c =
    let told : Result ⊤ DiskErr = Err c.in-Err.e in
    subst (λ d. Brings nothing told (g.D.Disk.state d) (g.D.Disk.state c.begin_log.new.disk)) (ap (λ s. s.disk) c.self.view_is)
    (brings_nothing nothing told c.in-Err.e (g.D.Disk.state c.self.inside.disk) (g.D.Disk.state c.begin_log.new.disk) refl c.begin_log.ensures.any_moment c.begin_log.ensures.tells
    (counts_for (IsErrOf c.begin_log.result DiskFailed) (IsErrOf told DiskFailed) _ _ (λ f. err_to c.begin_log.result told c.in-Err.e DiskFailed c.in-Err.is refl f) c.begin_log.ensures.faults))

pub invariant_of-self-2 : goal.invariant_of-self-2
invariant_of-self-2 g c =
    let memory = c.in_ok-taken.taken.0 in
    let known = known_in c.in_ok-taken.taken.1.items in
    let loaded = c.args.loaded.now in
    let is = c.in_ok-taken.ensures.held in
    let disk = sym (ap (λ s. s.disk) c.self.view_is) in
    subst (λ (o : Option Opened). IsKept o (g.D.Disk.state c.begin_log.new.disk)) (sym c.replace.ensures.after) (
      c.in-Ok.ensures.kept memory known loaded.tenure loaded.fence (ap (λ (m : InMemory). m.room) is) c.requires.order
          (subst (λ d. EachImage (g.D.Disk.state d) (HoldsKnown memory.points known loaded.tenure loaded.fence)) disk
          (subst (λ (ks : List KnownVolume). EachImage (g.D.Disk.state c.args.self.now.disk) (HoldsKnown memory.points ks loaded.tenure loaded.fence)) (sym c.in_ok-taken.ensures.volumes)
          (subst (λ (m : InMemory). EachImage (g.D.Disk.state c.args.self.now.disk) (HoldsKnown m.points (map known_of loaded.volumes) loaded.tenure loaded.fence)) (sym is)
          (only_held loaded.points (map known_of loaded.volumes) loaded.tenure loaded.fence (g.D.Disk.state c.args.self.now.disk) c.requires.held c.requires.volumes c.requires.only)))),
      c.in-Ok.ensures.counted _ loaded.snapshot (subst (λ d. Told (g.D.Disk.state d) (λ files. (length (numbers files) + c.saturating_sub.result ≡ loaded.next_segment) × IsNewestNumber loaded.snapshot files)) disk
          (λ tells.
          let few = few_segments loaded.next_segment (g.D.Disk.state c.args.self.now.disk).files (c.requires.fresh tells) in
          let count = c.requires.segments tells in
          (omega (arith, few, count, c.saturating_sub.ensures), c.requires.snapshot tells))),
      (subst (λ (x : RowCache). AreOfVolumes known x) (sym c.new.ensures) (λ key some. absurd (let bad = some in cc)), (λ tells. subst (λ (x : RowCache). AreRight known x) (sym c.new.ensures) (λ k m. tt))),
    )

pub returns-clause-content : goal.returns-clause-content
returns-clause-content g c tells =
    let loaded = c.args.loaded.now in
    let known = map known_of loaded.volumes in
    let among = volumes_among loaded.points known loaded.tenure loaded.fence (g.D.Disk.state c.args.self.now.disk).files (c.requires.held tells) (c.requires.volumes tells) in
    ap content_in c.replace.ensures.after ∙ (λ i. joined_with (c.in_ok-taken.ensures.held i).points (c.in_ok-taken.ensures.volumes i)) ∙ settled_joins loaded.points (volume_points known) among

pub returns-clause-disk : goal.returns-clause-disk
returns-clause-disk g c =
    subst (λ d. Brings nothing _ (g.D.Disk.state d) (g.D.Disk.state c.begin_log.new.disk)) (ap (λ s. s.disk) c.self.view_is)
    (brings_nothing_more tt (g.D.Disk.state c.self.inside.disk) (g.D.Disk.state c.begin_log.new.disk) c.begin_log.ensures.any_moment c.begin_log.ensures.tells
    (counts_for (IsErrOf c.begin_log.result DiskFailed) ⊥ _ _ (λ none. absurd none) c.begin_log.ensures.faults))
