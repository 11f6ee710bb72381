use Rattle.std.proofs.Common.{List, sym, subst}
use Rattle.std.specs.Option.{option_copied}
use Rattle.std.proofs.lemmas.Result.{IfOk-weaker}
use Rattle.store_log.specs.first_points.Firsts.{IsPageOf}
use Rattle.store_log.specs.listed_volumes.declared.volume.ListedVolume.{ListedVolume}
use Rattle.store_log.specs.listed_volumes.Listed.{AreHeld, known_in}
use Rattle.store_log.specs.joined_reads.Beside.{AreCachedOn, content_beside}
use Rattle.shard_store.proofs.KnownReads.{held_known}
use Rattle.shard_store.proofs.SnapshotLemmas.{held_within}
use Rattle.shard_store.proofs.opened.Opened.page.Goals as goal

pub page_joined-requires-clause-times : goal.page_joined-requires-clause-times
page_joined-requires-clause-times g c = λ tells.
    let s = c.args.self.now in
    held_within s.held.points (known_in s.volumes.items) s.tenure s.fence (g.D.Disk.state c.args.disk.now) (g.met.D.Disk.lawful c.args.disk.now) c.requires.kept.exact tells

pub page_joined-requires-clause-there : goal.page_joined-requires-clause-there
page_joined-requires-clause-there g c = λ tells.
    let s = c.args.self.now in
    let held = held_known s.held.points (known_in s.volumes.items) s.tenure s.fence (g.D.Disk.state c.args.disk.now) (g.met.D.Disk.lawful c.args.disk.now) c.requires.kept.exact tells in
    subst (λ (vs : List ListedVolume). AreHeld (known_in vs) (g.D.Disk.state c.args.disk.now).files) (sym c.deref.ensures.value) held

pub page_joined-requires-clause-cached : goal.page_joined-requires-clause-cached
page_joined-requires-clause-cached g c =
    let s = c.args.self.now in
    subst (λ (vs : List ListedVolume). AreCachedOn vs s.cache (g.D.Disk.state c.args.disk.now)) (sym c.deref.ensures.value) c.requires.cached

pub returns-clause-page : goal.returns-clause-page
returns-clause-page g c = λ tells.
    let s = c.args.self.now in
    let after = option_copied c.args.after in
    IfOk-weaker c.page_joined.result (IsPageOf (content_beside s.held.points c.deref.result.now) after) (IsPageOf (content_beside s.held.points s.volumes.items) after)
    (λ page h. subst (λ (vs : List ListedVolume). IsPageOf (content_beside s.held.points vs) after page) c.deref.ensures.value h) (c.page_joined.ensures.page tells)

pub returns-clause-cached : goal.returns-clause-cached
returns-clause-cached g c = subst (λ (vs : List ListedVolume). AreCachedOn vs c.page_joined.new.kept (g.D.Disk.state c.page_joined.new.disk)) c.deref.ensures.value c.page_joined.ensures.cached
