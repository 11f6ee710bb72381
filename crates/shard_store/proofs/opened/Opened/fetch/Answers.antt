use Rattle.std.proofs.Common.{List, sym, subst}
use Rattle.store_log.specs.listed_volumes.declared.volume.ListedVolume.{ListedVolume}
use Rattle.store_log.specs.listed_volumes.Listed.{AreHeld, known_in}
use Rattle.store_log.specs.joined_reads.Beside.{AreCachedOn, content_beside}
use Rattle.m3_model.specs.Answers.{IsAnswer}
use Rattle.std.proofs.lemmas.Result.{IfOk-weaker}
use Rattle.shard_store.proofs.KnownReads.{held_known}
use Rattle.shard_store.proofs.opened.Opened.fetch.Goals as goal

pub fetch_joined-requires-clause-there : goal.fetch_joined-requires-clause-there
fetch_joined-requires-clause-there g c = λ tells.
    let s = c.args.self.now in
    let held = held_known s.held.points (known_in s.volumes.items) s.tenure s.fence (g.D.Disk.state c.args.disk.now) (g.met.D.Disk.lawful c.args.disk.now) c.requires.kept.exact tells in
    subst (λ (vs : List ListedVolume). AreHeld (known_in vs) (g.D.Disk.state c.args.disk.now).files) (sym c.deref.ensures.value) held

pub fetch_joined-requires-clause-cached : goal.fetch_joined-requires-clause-cached
fetch_joined-requires-clause-cached g c =
    let s = c.args.self.now in
    subst (λ (vs : List ListedVolume). AreCachedOn vs s.cache (g.D.Disk.state c.args.disk.now)) (sym c.deref.ensures.value) c.requires.cached

pub returns-clause-answer : goal.returns-clause-answer
returns-clause-answer g c = λ tells.
    let s = c.args.self.now in
    IfOk-weaker c.fetch_joined.result (IsAnswer (content_beside s.held.points c.deref.result.now) c.args.pick.now c.args.from c.args.to) (IsAnswer (content_beside s.held.points s.volumes.items) c.args.pick.now c.args.from c.args.to)
    (λ found h. subst (λ (vs : List ListedVolume). IsAnswer (content_beside s.held.points vs) c.args.pick.now c.args.from c.args.to found) c.deref.ensures.value h) (c.fetch_joined.ensures.answer tells)

pub returns-clause-cached : goal.returns-clause-cached
returns-clause-cached g c = subst (λ (vs : List ListedVolume). AreCachedOn vs c.fetch_joined.new.kept (g.D.Disk.state c.fetch_joined.new.disk)) c.deref.ensures.value c.fetch_joined.ensures.cached
