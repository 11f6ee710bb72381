use Rattle.std.proofs.Common.{◌≡◌, ◌∙◌, List, length, refl, sym, ap, subst, arith}
use Rattle.m3_model.specs.Contents.{Contents}
use Rattle.store_log.specs.listed_volumes.Listed.{AreHeld, known_in}
use Rattle.store_log.specs.listed_volumes.block_buffer.Joins.{joined}
use Rattle.store_log.specs.listed_volumes.declared.volume.ListedVolume.{ListedVolume}
use Rattle.store_log.specs.listed_volumes.fileset_read.declared.file_err.FileErr.TheVariants as failures
use Rattle.store_log.specs.joined_reads.Beside.{AreCachedOn, risen_in}
use Rattle.store_log.specs.listed_volumes.block_buffer.Held.{InMemory}
use Rattle.store_log.specs.listed_volumes.shard_files.FilesHold.{volume_points}
use Rattle.store_log.specs.listed_volumes.wire_bytes.Entries.{ArePoints}
use Rattle.store_log.specs.held_pages.declared.rising.Rise.{Rise}
use Rattle.store_log.specs.held_pages.Rises.{AreOfSeries, points_of}
use Rattle.store_log.specs.Whole.{of_points}
use Rattle.store_log.proofs.LogStepLemmas.{counted_on, err_is, err_to}
use Rattle.store_log.proofs.WholeLemmas.{whole_none}
use Rattle.shard_store.specs.StoreParts.{content_of_opened}
use Rattle.shard_store.proofs.CacheLemmas.{cached_still}
use Rattle.shard_store.proofs.CountedLemmas.{counted_left}
use Rattle.shard_store.proofs.KnownReads.{held_known}
use Rattle.shard_store.proofs.MergeLemmas.{are_points, brings_done, brings_handed, fault_handed, memory_taken, merged_content, none_brings, none_of, rises_are, risen_joins, so_many, taken_brings, unread_brings}
use Rattle.shard_store.proofs.StillLemmas.{opened_left, undamaged_said}
use Rattle.shard_store.proofs.opened.Opened.merge.Goals as goal

pub risen-requires-clause-there : goal.risen-requires-clause-there
risen-requires-clause-there g c = λ tells.
    let s = c.args.self.now in
    let held = held_known s.held.points (known_in s.volumes.items) s.tenure s.fence (g.D.Disk.state c.args.disk.now) (g.met.D.Disk.lawful c.args.disk.now) c.requires.kept.exact tells in
    subst (λ (vs : List ListedVolume). AreHeld (known_in vs) (g.D.Disk.state c.args.disk.now).files) (sym c.deref.ensures.value) held

pub risen-requires-clause-cached : goal.risen-requires-clause-cached
risen-requires-clause-cached g c =
    let s = c.args.self.now in
    subst (λ (vs : List ListedVolume). AreCachedOn vs s.cache (g.D.Disk.state c.args.disk.now)) (sym c.deref.ensures.value) c.requires.cached

-- ---- the points aren't those of a page

pub returns-then-not-are_mergeable-clause-disk : goal.returns-then-not-are_mergeable-clause-disk
returns-then-not-are_mergeable-clause-disk g c =
    let s = c.args.self.now in
    whole_none (of_points (risen_in (content_of_opened s) c.args.points.now)) _ _ (g.D.Disk.state c.args.disk.now) failures.Memory refl (λ f. absurd (cc))

-- ---- reading was refused

pub returns-in_err-found-clause-kept : goal.returns-in_err-found-clause-kept
returns-in_err-found-clause-kept g c = λ fine. opened_left c.args.self.now _ (g.D.Disk.state c.args.disk.now) (g.D.Disk.state c.risen.new.disk) c.risen.ensures.leaves c.requires.kept

pub returns-in_err-found-clause-counted : goal.returns-in_err-found-clause-counted
returns-in_err-found-clause-counted g c = λ fine. counted_left c.args.self.now _ (g.D.Disk.state c.args.disk.now) (g.D.Disk.state c.risen.new.disk) c.risen.ensures.leaves

pub returns-in_err-found-clause-cached : goal.returns-in_err-found-clause-cached
returns-in_err-found-clause-cached g c = subst (λ (vs : List ListedVolume). AreCachedOn vs c.risen.new.kept (g.D.Disk.state c.risen.new.disk)) c.deref.ensures.value c.risen.ensures.cached

pub returns-in_err-found-clause-disk : goal.returns-in_err-found-clause-disk
returns-in_err-found-clause-disk g c =
    let s = c.args.self.now in
    let why = c.in_err-found.field-0.0 in
    let same = err_is c.from_residual.result why c.from_residual.ensures in
    unread_brings (g.D.Disk.state c.args.disk.now) (g.D.Disk.state c.risen.new.disk) _ c.risen.ensures.leaves (of_points (risen_in (content_of_opened s) c.args.points.now)) _ c.from_residual.result why same
    (λ f. err_to c.risen.result c.from_residual.result why failures.Disk c.in_err-found.was same f)

-- ---- nothing rises

pub returns-then-count-eq0-clause-kept : goal.returns-then-count-eq0-clause-kept
returns-then-count-eq0-clause-kept g c = λ fine. opened_left c.args.self.now _ (g.D.Disk.state c.args.disk.now) (g.D.Disk.state c.risen.new.disk) c.risen.ensures.leaves c.requires.kept

pub returns-then-count-eq0-clause-counted : goal.returns-then-count-eq0-clause-counted
returns-then-count-eq0-clause-counted g c = λ fine. counted_left c.args.self.now _ (g.D.Disk.state c.args.disk.now) (g.D.Disk.state c.risen.new.disk) c.risen.ensures.leaves

pub returns-then-count-eq0-clause-cached : goal.returns-then-count-eq0-clause-cached
returns-then-count-eq0-clause-cached g c = subst (λ (vs : List ListedVolume). AreCachedOn vs c.risen.new.kept (g.D.Disk.state c.risen.new.disk)) c.deref.ensures.value c.risen.ensures.cached

pub returns-then-count-eq0-clause-held : goal.returns-then-count-eq0-clause-held
returns-then-count-eq0-clause-held g c = λ tells.
    let s = c.args.self.now in
    let are = rises_are s.volumes.items c.deref.result.now s.held.points c.args.points.now c.in_ok-found.found.items c.deref.ensures.value (c.in_ok-found.ensures.points tells) in
    ap (joined s.held.points) (sym (none_of c.in_ok-found.found.items (risen_in (content_of_opened s) c.args.points.now) (let e = c.in_ok-found.found.ok.0 in let l = c.len-count.ensures in let z = c.if-count-eq0.true in omega arith) are))

pub returns-then-count-eq0-clause-content : goal.returns-then-count-eq0-clause-content
returns-then-count-eq0-clause-content g c = λ tells.
    let s = c.args.self.now in
    let are = rises_are s.volumes.items c.deref.result.now s.held.points c.args.points.now c.in_ok-found.found.items c.deref.ensures.value (c.in_ok-found.ensures.points tells) in
    ap (joined (content_of_opened s)) (sym (none_of c.in_ok-found.found.items (risen_in (content_of_opened s) c.args.points.now) (let e = c.in_ok-found.found.ok.0 in let l = c.len-count.ensures in let z = c.if-count-eq0.true in omega arith) are)) ∙ risen_joins (content_of_opened s) c.args.points.now

pub returns-then-count-eq0-clause-count : goal.returns-then-count-eq0-clause-count
returns-then-count-eq0-clause-count g c = λ tells.
    let s = c.args.self.now in
    let are = rises_are s.volumes.items c.deref.result.now s.held.points c.args.points.now c.in_ok-found.found.items c.deref.ensures.value (c.in_ok-found.ensures.points tells) in
    sym (ap length (none_of c.in_ok-found.found.items (risen_in (content_of_opened s) c.args.points.now) (let e = c.in_ok-found.found.ok.0 in let l = c.len-count.ensures in let z = c.if-count-eq0.true in omega arith) are))

pub returns-then-count-eq0-clause-disk : goal.returns-then-count-eq0-clause-disk
returns-then-count-eq0-clause-disk g c =
    let s = c.args.self.now in
    none_brings (g.D.Disk.state c.args.disk.now) (g.D.Disk.state c.risen.new.disk) _ c.risen.ensures.leaves (risen_in (content_of_opened s) c.args.points.now) _ _ 0 refl (λ f. absurd (cc)) (λ tells.
    none_of c.in_ok-found.found.items (risen_in (content_of_opened s) c.args.points.now) (let e = c.in_ok-found.found.ok.0 in let l = c.len-count.ensures in let z = c.if-count-eq0.true in omega arith) (rises_are s.volumes.items c.deref.result.now s.held.points c.args.points.now c.in_ok-found.found.items c.deref.ensures.value (c.in_ok-found.ensures.points tells)))

-- ---- what rises is taken

pub take_points-requires-clause-points : goal.take_points-requires-clause-points
take_points-requires-clause-points g c =
    let are = (c.are_mergeable.ensures).0 c.if-not-are_mergeable.false in
    subst (λ (l : List Rise). ArePoints (points_of l)) (sym c.as_slice-rises.ensures.value) (are_points c.in_ok-found.found.items (length c.args.points.now) (λ none. c.if-count-eq0.false (let e = c.in_ok-found.found.ok.0 in let l = c.len-count.ensures in omega (arith, none))) c.in_ok-found.ensures.few are.few c.in_ok-found.ensures.bounded)

pub take_points-requires-clause-series : goal.take_points-requires-clause-series
take_points-requires-clause-series g c = subst AreOfSeries (sym c.as_slice-rises.ensures.value) c.in_ok-found.ensures.series

pub take_points-requires-clause-stands : goal.take_points-requires-clause-stands
take_points-requires-clause-stands g c = (opened_left c.args.self.now _ (g.D.Disk.state c.args.disk.now) (g.D.Disk.state c.risen.new.disk) c.risen.ensures.leaves c.requires.kept).stands

pub returns-in_err-take_points-clause-kept : goal.returns-in_err-take_points-clause-kept
returns-in_err-take_points-clause-kept g c = λ fine.
    let s = c.args.self.now in
    let why = c.in_err-take_points.field-0.0 in
    c.take_points.ensures.kept (known_in s.volumes.items) s.tenure s.fence (opened_left s _ (g.D.Disk.state c.args.disk.now) (g.D.Disk.state c.risen.new.disk) c.risen.ensures.leaves c.requires.kept)
    (λ f. fine (fault_handed c.take_points.result c.from_residual-in_err-take_points.result why c.in_err-take_points.was c.from_residual-in_err-take_points.ensures.1 f))

pub returns-in_err-take_points-clause-counted : goal.returns-in_err-take_points-clause-counted
returns-in_err-take_points-clause-counted g c = λ fine has.
    let s = c.args.self.now in
    let b = g.D.Disk.state c.risen.new.disk in
    let why = c.in_err-take_points.field-0.0 in
    counted_on s.log c.take_points.new.log s.counts.missing s.counts.snapshot b (g.D.Disk.state c.take_points.new.disk) c.take_points.ensures.disk.tells
    (λ tells. c.take_points.ensures.counts tells (λ f. fine (fault_handed c.take_points.result c.from_residual-in_err-take_points.result why c.in_err-take_points.was c.from_residual-in_err-take_points.ensures.1 f)))
    (counted_left s _ (g.D.Disk.state c.args.disk.now) b c.risen.ensures.leaves has)

pub returns-in_err-take_points-clause-cached : goal.returns-in_err-take_points-clause-cached
returns-in_err-take_points-clause-cached g c =
    let s = c.args.self.now in
    let ks = known_in s.volumes.items in
    let after = subst (λ (vs : List ListedVolume). AreCachedOn vs c.risen.new.kept (g.D.Disk.state c.risen.new.disk)) c.deref.ensures.value c.risen.ensures.cached in
    cached_still ks ks c.risen.new.kept c.risen.new.kept (g.D.Disk.state c.risen.new.disk) (g.D.Disk.state c.take_points.new.disk) c.take_points.ensures.disk.tells refl refl after

pub returns-in_err-take_points-clause-memory : goal.returns-in_err-take_points-clause-memory
returns-in_err-take_points-clause-memory g c = λ m.
    c.take_points.ensures.memory (memory_taken c.take_points.result c.from_residual-in_err-take_points.result c.in_err-take_points.field-0.0 c.in_err-take_points.was c.from_residual-in_err-take_points.ensures.1 m)

pub returns-in_err-take_points-clause-sound : goal.returns-in_err-take_points-clause-sound
returns-in_err-take_points-clause-sound g c = λ tells. undamaged_said c.from_residual-in_err-take_points.result c.in_err-take_points.field-0.0 c.from_residual-in_err-take_points.ensures.1

pub returns-in_err-take_points-clause-disk : goal.returns-in_err-take_points-clause-disk
returns-in_err-take_points-clause-disk g c =
    brings_handed (of_points (risen_in (content_of_opened c.args.self.now) c.args.points.now)) (g.D.Disk.state c.args.disk.now) (g.D.Disk.state c.take_points.new.disk) c.take_points.result c.from_residual-in_err-take_points.result c.in_err-take_points.field-0.0 c.in_err-take_points.was
    c.from_residual-in_err-take_points.ensures.1 (taken_brings (g.D.Disk.state c.args.disk.now) (g.D.Disk.state c.risen.new.disk) _ c.risen.ensures.leaves (points_of c.as_slice-rises.result.now) (risen_in (content_of_opened c.args.self.now) c.args.points.now) c.take_points.result (g.D.Disk.state c.take_points.new.disk)
    (λ f. let was = c.in_ok-found.was in let bad = f in cc)
    (λ tells. ap points_of c.as_slice-rises.ensures.value ∙ rises_are c.args.self.now.volumes.items c.deref.result.now c.args.self.now.held.points c.args.points.now c.in_ok-found.found.items c.deref.ensures.value (c.in_ok-found.ensures.points tells)) c.take_points.ensures.disk)

pub returns-clause-kept : goal.returns-clause-kept
returns-clause-kept g c = λ fine.
    let s = c.args.self.now in
    c.take_points.ensures.kept (known_in s.volumes.items) s.tenure s.fence (opened_left s _ (g.D.Disk.state c.args.disk.now) (g.D.Disk.state c.risen.new.disk) c.risen.ensures.leaves c.requires.kept) (λ f. let was = c.in_ok-take_points.was in let bad = f in cc)

pub returns-clause-counted : goal.returns-clause-counted
returns-clause-counted g c = λ fine has.
    let s = c.args.self.now in
    let b = g.D.Disk.state c.risen.new.disk in
    counted_on s.log c.take_points.new.log s.counts.missing s.counts.snapshot b (g.D.Disk.state c.take_points.new.disk) c.take_points.ensures.disk.tells (λ tells. c.take_points.ensures.counts tells (λ f. let was = c.in_ok-take_points.was in let bad = f in cc))
    (counted_left s _ (g.D.Disk.state c.args.disk.now) b c.risen.ensures.leaves has)

pub returns-clause-cached : goal.returns-clause-cached
returns-clause-cached g c =
    let s = c.args.self.now in
    let ks = known_in s.volumes.items in
    let after = subst (λ (vs : List ListedVolume). AreCachedOn vs c.risen.new.kept (g.D.Disk.state c.risen.new.disk)) c.deref.ensures.value c.risen.ensures.cached in
    cached_still ks ks c.risen.new.kept c.risen.new.kept (g.D.Disk.state c.risen.new.disk) (g.D.Disk.state c.take_points.new.disk) c.take_points.ensures.disk.tells refl refl after

pub returns-clause-held : goal.returns-clause-held
returns-clause-held g c = λ tells.
    let s = c.args.self.now in
    ap (λ (m : InMemory). m.points) c.in_ok-take_points.ensures.ok
    ∙ ap (joined s.held.points) (ap points_of c.as_slice-rises.ensures.value ∙ rises_are s.volumes.items c.deref.result.now s.held.points c.args.points.now c.in_ok-found.found.items c.deref.ensures.value (c.in_ok-found.ensures.points tells))

pub returns-clause-content : goal.returns-clause-content
returns-clause-content g c = λ tells.
    let s = c.args.self.now in
    let held : c.take_points.new.held.points ≡ joined s.held.points (risen_in (content_of_opened s) c.args.points.now) =
    ap (λ (m : InMemory). m.points) c.in_ok-take_points.ensures.ok
    ∙ ap (joined s.held.points) (ap points_of c.as_slice-rises.ensures.value ∙ rises_are s.volumes.items c.deref.result.now s.held.points c.args.points.now c.in_ok-found.found.items c.deref.ensures.value (c.in_ok-found.ensures.points tells)) in
    ap (λ (m : Contents). joined m (volume_points (known_in s.volumes.items))) held ∙ merged_content s.held.points (volume_points (known_in s.volumes.items)) c.args.points.now

pub returns-clause-count : goal.returns-clause-count
returns-clause-count g c = λ tells.
    let s = c.args.self.now in
    let e = c.in_ok-found.found.ok.0 in
    let l = c.len-count.ensures in
    let n : c.len-count.result ≡ length c.in_ok-found.found.items = omega arith in
    n ∙ so_many c.in_ok-found.found.items (risen_in (content_of_opened s) c.args.points.now) (rises_are s.volumes.items c.deref.result.now s.held.points c.args.points.now c.in_ok-found.found.items c.deref.ensures.value (c.in_ok-found.ensures.points tells))

pub returns-clause-disk : goal.returns-clause-disk
returns-clause-disk g c = brings_done (of_points (risen_in (content_of_opened c.args.self.now) c.args.points.now)) (g.D.Disk.state c.args.disk.now) (g.D.Disk.state c.take_points.new.disk) c.take_points.result tt _ c.in_ok-take_points.was (taken_brings (g.D.Disk.state c.args.disk.now) (g.D.Disk.state c.risen.new.disk) _ c.risen.ensures.leaves (points_of c.as_slice-rises.result.now) (risen_in (content_of_opened c.args.self.now) c.args.points.now) c.take_points.result (g.D.Disk.state c.take_points.new.disk)
    (λ f. let was = c.in_ok-found.was in let bad = f in cc)
    (λ tells. ap points_of c.as_slice-rises.ensures.value ∙ rises_are c.args.self.now.volumes.items c.deref.result.now c.args.self.now.held.points c.args.points.now c.in_ok-found.found.items c.deref.ensures.value (c.in_ok-found.ensures.points tells)) c.take_points.ensures.disk)
