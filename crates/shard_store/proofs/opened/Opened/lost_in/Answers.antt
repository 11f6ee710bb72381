use Rattle.std.proofs.Common.{◌≡◌, ◌∙◌, ◌+◌, List, ap, length, sym, subst}
use Rattle.std.specs.Prelude.{◌==◌, filter, IfSome, not}
use Rattle.m3_model.specs.Contents.{content_of}
use Rattle.m3_model.specs.declared.point.Pick.TheVariants as pick
use Rattle.m3_model.specs.declared.point.Series.{Series}
use Rattle.store_log.specs.listed_volumes.block_buffer.Joins.{joined}
use Rattle.store_log.proofs.listed_volumes_proofs.commit_log_proofs.Leaves.{leaves_none, leaves_as, leaves_then}
use Rattle.store_log.proofs.listed_volumes_proofs.commit_log_proofs.ReadLemmas.{passed_err}
use Rattle.store_log.specs.listed_volumes.fileset_read.declared.file_err.FileErr.TheVariants as unread
use Rattle.store_log.specs.listed_volumes.wire_bytes.Volumes.{count_of}
use Rattle.store_log.specs.listed_volumes.shard_files.FilesHold.{volume_points}
use Rattle.store_log.specs.listed_volumes.Known.{AreOf, AreThere}
use Rattle.store_log.proofs.listed_volumes_proofs.ReadLemmas.{not_fault}
use Rattle.store_log.specs.listed_volumes.Listed.{known_in}
use Rattle.shard_store.specs.Ticks.{has_outlived, keys_in, live_volumes}
use Rattle.shard_store.specs.StoreParts.{content_of_opened}
use Rattle.shard_store.proofs.KnownReads.{of_chosen, there_chosen}
use Rattle.shard_store.proofs.LossLemmas.{counted_out, lost_counted, lost_none, told_left}
use Rattle.shard_store.proofs.opened.Opened.lost_in.Goals as goal

pub returns-in_err-here-clause-leaves : goal.returns-in_err-here-clause-leaves
returns-in_err-here-clause-leaves g c =
    leaves_none _ (g.D.Disk.state c.args.disk.now) (λ f. not_fault c.fetch_held.result c.fetch_held.ensures.err (passed_err c.from_residual.result c.fetch_held.result c.in_err-here.field-0.0 unread.Disk c.in_err-here.was c.from_residual.ensures.1 f))

pub read-requires : goal.read-requires
read-requires g c =
    let s = c.args.self.now in
    there_chosen s.held.points (known_in s.volumes.items) s.tenure s.fence (g.D.Disk.state c.args.disk.now) (g.met.D.Disk.lawful c.args.disk.now) c.requires.kept.exact
    (has_outlived c.args.rules.now) c.args.goes.now c.requires.goes

pub read-requires-2 : goal.read-requires-2
read-requires-2 g c =
    let s = c.args.self.now in
    let a = g.D.Disk.state c.args.disk.now in
    told_left (AreThere c.args.stays.now) _ a (g.D.Disk.state c.read.new.disk) c.read.ensures.leaves
    (there_chosen s.held.points (known_in s.volumes.items) s.tenure s.fence a (g.met.D.Disk.lawful c.args.disk.now) c.requires.kept.exact
    (λ k. not (has_outlived c.args.rules.now k)) c.args.stays.now c.requires.stays)

pub returns-then-is_empty-clause-lost : goal.returns-then-is_empty-clause-lost
returns-then-is_empty-clause-lost g c tells =
    let s = c.args.self.now in
    let rules = c.args.rules.now in
    let ks = known_in s.volumes.items in
    let a = g.D.Disk.state c.args.disk.now in
    let of = of_chosen s.held.points ks s.tenure s.fence a (g.met.D.Disk.lawful c.args.disk.now) c.requires.kept.exact (has_outlived rules) c.args.goes.now c.requires.goes tells in
    lost_none rules ks s.held.points c.args.ns c.args.end c.new.result c.new.ensures c.in_ok-gone.gone (ap (λ (l : List Series). length l == 0) (sym c.as_slice.ensures) ∙ sym c.is_empty.ensures ∙ c.if-is_empty.true)
    (c.in_ok-gone.ensures.answer s.held.points (volume_points (filter (has_outlived rules) ks)) (pick.Match c.args.ns c.new.result) 0 c.args.end c.in_ok-here.ensures.answer (c.in_ok-there.ensures.answer tells (filter (has_outlived rules) ks) of))

pub returns-in_err-left-clause-leaves : goal.returns-in_err-left-clause-leaves
returns-in_err-left-clause-leaves g c =
    let a = g.D.Disk.state c.args.disk.now in
    let b = g.D.Disk.state c.read.new.disk in
    let d = g.D.Disk.state c.read-2.new.disk in
    leaves_then _ _ a b d c.read.ensures.leaves
    (leaves_as _ _ b d (λ f. passed_err c.from_residual-in_err-left.result c.read-2.result c.in_err-left.field-0.0 unread.Disk c.in_err-left.was c.from_residual-in_err-left.ensures.1 f) c.read-2.ensures.leaves)

pub returns-in_err-all-clause-leaves : goal.returns-in_err-all-clause-leaves
returns-in_err-all-clause-leaves g c =
    let a = g.D.Disk.state c.args.disk.now in
    let b = g.D.Disk.state c.read.new.disk in
    let d = g.D.Disk.state c.read-2.new.disk in
    leaves_then _ _ a b d c.read.ensures.leaves
    (leaves_as _ _ b d
    (λ f. absurd (not_fault c.join_both-2.result c.join_both-2.ensures.err (passed_err c.from_residual-in_err-all.result c.join_both-2.result c.in_err-all.field-0.0 unread.Disk c.in_err-all.was c.from_residual-in_err-all.ensures.1 f))) c.read-2.ensures.leaves)

pub returns-clause-lost : goal.returns-clause-lost
returns-clause-lost g c tells =
    let s = c.args.self.now in
    let rules = c.args.rules.now in
    let ks = known_in s.volumes.items in
    let stays = live_volumes rules ks in
    let every = pick.Match c.args.ns c.new.result in
    let a = g.D.Disk.state c.args.disk.now in
    let b = g.D.Disk.state c.read.new.disk in
    let lawful = g.met.D.Disk.lawful c.args.disk.now in
    let of = of_chosen s.held.points ks s.tenure s.fence a lawful c.requires.kept.exact (has_outlived rules) c.args.goes.now c.requires.goes tells in
    let later = c.read.ensures.leaves.proceeds.tells ∙ tells in
    let of_stays = told_left (AreOf c.args.stays.now stays) _ a b c.read.ensures.leaves
    (of_chosen s.held.points ks s.tenure s.fence a lawful c.requires.kept.exact (λ k. not (has_outlived rules k)) c.args.stays.now c.requires.stays) later in
    let gone = c.in_ok-gone.ensures.answer s.held.points (volume_points (filter (has_outlived rules) ks)) every 0 c.args.end c.in_ok-here.ensures.answer (c.in_ok-there.ensures.answer tells (filter (has_outlived rules) ks) of) in
    let left = c.in_ok-left.ensures.answer later stays of_stays in
    let whole = c.in_ok-all.ensures.answer (joined s.held.points (volume_points (filter (has_outlived rules) ks))) (volume_points stays) every 0 c.args.end gone left in
    counted_out {P = λ n. n + keys_in (content_of (volume_points stays)) c.args.ns c.args.end ≡ keys_in (content_of_opened s) c.args.ns c.args.end} c.difference.result c.count.result c.count-counted.result
    (count_of c.in_ok-all.all) (count_of c.in_ok-left.left) c.difference.ensures.ok c.difference.ensures.counted
    (subst (λ (l : List Series). IfSome c.count.result (λ n. n ≡ count_of l)) c.as_slice-3.ensures c.count.ensures)
    (subst (λ (l : List Series). IfSome c.count-counted.result (λ n. n ≡ count_of l)) c.as_slice-2.ensures c.count-counted.ensures)
    (λ n is. lost_counted rules ks s.held.points c.args.ns c.args.end c.new.result c.new.ensures c.in_ok-gone.gone c.in_ok-left.left c.in_ok-all.all n left whole c.in_ok-all.ensures.merge is)

pub returns-clause-leaves : goal.returns-clause-leaves
returns-clause-leaves g c =
    let a = g.D.Disk.state c.args.disk.now in
    let b = g.D.Disk.state c.read.new.disk in
    let d = g.D.Disk.state c.read-2.new.disk in
    leaves_then _ _ a b d c.read.ensures.leaves (leaves_as _ _ b d (λ f. absurd (not_fault c.difference.result c.difference.ensures.err f)) c.read-2.ensures.leaves)
