use Rattle.std.proofs.Common.{List, ap, map, refl, sym, subst, ◌∙◌}
use Rattle.std.specs.Prelude.{IsErrOf, filter}
use Rattle.m3_outside.specs.Files.{Files}
use Rattle.m3_outside.specs.declared.disk_err.DiskErr.TheVariants.{Failed as DiskFailed}
use Rattle.store_log.proofs.listed_volumes_proofs.commit_log_proofs.Leaves.{leaves_as}
use Rattle.store_log.proofs.listed_volumes_proofs.commit_log_proofs.ReadLemmas.{passed_err}
use Rattle.store_log.specs.listed_volumes.fileset_read.declared.file_err.FileErr.TheVariants as failures
use Rattle.store_log.specs.listed_volumes.volume_bytes.Heads.{head_of}
use Rattle.store_log.specs.listed_volumes.shard_files.Steps.{next_volume}
use Rattle.store_log.specs.listed_volumes.Known.{is_head_of}
use Rattle.store_log.proofs.listed_volumes_proofs.ReadLemmas.{not_fault}
use Rattle.shard_store.specs.Blocks.{IsOneVolume}
use Rattle.store_log.specs.listed_volumes.Listed.{known_in}
use Rattle.shard_store.specs.StoreParts.{content_of_opened}
use Rattle.store_log.specs.listed_volumes.declared.volume.ListedVolume.{ListedVolume}
use Rattle.shard_store.proofs.CountedLemmas.{counted_left}
use Rattle.shard_store.proofs.RearrangeLemmas.{rearranges_left, rearranges_then, rearranges_for}
use Rattle.shard_store.proofs.StillLemmas.{fault_said, memory_said, opened_left, undamaged_said}
use Rattle.shard_store.proofs.VolumeLists.{some_heads}
use Rattle.shard_store.proofs.CacheLemmas.{cached_still}
use Rattle.shard_store.proofs.opened.Opened.flush_block.Goals as goal

-- ---- the rows weren't read

pub returns-in_err-rows-clause-kept : goal.returns-in_err-rows-clause-kept
returns-in_err-rows-clause-kept g c = λ e. opened_left c.args.self.now _ (g.D.Disk.state c.args.disk.now) (g.D.Disk.state c.rows_of.new.disk) c.rows_of.ensures.leaves c.requires.kept

pub returns-in_err-rows-clause-disk : goal.returns-in_err-rows-clause-disk
returns-in_err-rows-clause-disk g c =
    let s = c.args.self.now in
    rearranges_left s.held.points (known_in s.volumes.items) s.tenure s.fence _ (g.D.Disk.state c.args.disk.now) (g.D.Disk.state c.rows_of.new.disk) c.requires.kept.exact
    (leaves_as _ _ (g.D.Disk.state c.args.disk.now) (g.D.Disk.state c.rows_of.new.disk)
    (λ f. passed_err c.from_residual.result c.rows_of.result c.in_err-rows.field-0.0 failures.Disk c.in_err-rows.was c.from_residual.ensures.1 f) c.rows_of.ensures.leaves)

-- ---- no memory for the list of older volumes

pub returns-in_err-olds-clause-kept : goal.returns-in_err-olds-clause-kept
returns-in_err-olds-clause-kept g c = λ e. opened_left c.args.self.now _ (g.D.Disk.state c.args.disk.now) (g.D.Disk.state c.rows_of.new.disk) c.rows_of.ensures.leaves c.requires.kept

pub returns-in_err-olds-clause-disk : goal.returns-in_err-olds-clause-disk
returns-in_err-olds-clause-disk g c =
    let s = c.args.self.now in
    rearranges_left s.held.points (known_in s.volumes.items) s.tenure s.fence _ (g.D.Disk.state c.args.disk.now) (g.D.Disk.state c.rows_of.new.disk) c.requires.kept.exact
    (leaves_as (IsErrOf c.rows_of.result failures.Disk) _ (g.D.Disk.state c.args.disk.now) (g.D.Disk.state c.rows_of.new.disk)
    (λ f. absurd (not_fault c.older.result c.older.ensures.err (passed_err c.from_residual-in_err-olds.result c.older.result c.in_err-olds.field-0.0 failures.Disk c.in_err-olds.was c.from_residual-in_err-olds.ensures.1 f))) c.rows_of.ensures.leaves)

-- ---- what is written in their place

pub replace_block-requires-clause-kept : goal.replace_block-requires-clause-kept
replace_block-requires-clause-kept g c = opened_left c.args.self.now _ (g.D.Disk.state c.args.disk.now) (g.D.Disk.state c.rows_of.new.disk) c.rows_of.ensures.leaves c.requires.kept

pub replace_block-requires-clause-join : goal.replace_block-requires-clause-join
replace_block-requires-clause-join g c tells = c.in_ok-rows.ensures.join (sym c.rows_of.ensures.leaves.proceeds.tells ∙ tells)

pub replace_block-requires-clause-olds : goal.replace_block-requires-clause-olds
replace_block-requires-clause-olds g c =
    let test = is_head_of c.args.ns c.args.start c.args.size in
    let vs = c.args.self.now.volumes.items in
    ap (map head_of) c.deref-2.ensures.value
    ∙ some_heads test vs (map (λ v. v.head) vs) c.in_ok-olds.olds.items refl (c.in_ok-olds.ensures.ok ∙ ap (λ (l : List ListedVolume). filter (λ h. test (head_of h)) (map (λ v. v.head) l)) c.deref.ensures.value)

-- ---- it wasn't

pub returns-in_err-replace_block-clause-kept : goal.returns-in_err-replace_block-clause-kept
returns-in_err-replace_block-clause-kept g c = λ m.
    c.replace_block.ensures.kept (λ f. memory_said c.from_residual-in_err-replace_block.result c.replace_block.result c.in_err-replace_block.field-0.0 c.in_err-replace_block.was c.from_residual-in_err-replace_block.ensures.1 m f)

pub returns-in_err-replace_block-clause-content : goal.returns-in_err-replace_block-clause-content
returns-in_err-replace_block-clause-content g c tells = c.replace_block.ensures.content (c.rows_of.ensures.leaves.proceeds.tells ∙ tells)

pub returns-in_err-replace_block-clause-sound : goal.returns-in_err-replace_block-clause-sound
returns-in_err-replace_block-clause-sound g c tells = undamaged_said c.from_residual-in_err-replace_block.result c.in_err-replace_block.field-0.0 c.from_residual-in_err-replace_block.ensures.1

pub returns-in_err-replace_block-clause-disk : goal.returns-in_err-replace_block-clause-disk
returns-in_err-replace_block-clause-disk g c =
    let s = c.args.self.now in
    rearranges_then (content_of_opened s) (content_of_opened s) _ (g.D.Disk.state c.args.disk.now) (g.D.Disk.state c.rows_of.new.disk) (g.D.Disk.state c.replace_block.new.disk) (λ tells. refl)
    (rearranges_left s.held.points (known_in s.volumes.items) s.tenure s.fence ⊥ (g.D.Disk.state c.args.disk.now) (g.D.Disk.state c.rows_of.new.disk) c.requires.kept.exact
    (leaves_as _ _ (g.D.Disk.state c.args.disk.now) (g.D.Disk.state c.rows_of.new.disk) (λ none. absurd none) c.rows_of.ensures.leaves))
    (rearranges_for (content_of_opened s) (IsErrOf c.replace_block.result DiskFailed) _ (g.D.Disk.state c.rows_of.new.disk) (g.D.Disk.state c.replace_block.new.disk)
    (λ f. fault_said c.from_residual-in_err-replace_block.result c.replace_block.result c.in_err-replace_block.field-0.0 c.in_err-replace_block.was c.from_residual-in_err-replace_block.ensures.1 f) c.replace_block.ensures.disk)

-- ---- it was

pub returns-clause-one : goal.returns-clause-one
returns-clause-one g c tells =
    let s = c.args.self.now in
    subst (λ (files : Files). IsOneVolume c.args.ns c.args.start c.args.size s.held.points (known_in s.volumes.items) files (known_in c.replace_block.new.self.volumes.items)) (c.rows_of.ensures.leaves.files tells)
    (c.in_ok-replace_block.ensures.one (c.rows_of.ensures.leaves.proceeds.tells ∙ tells))

pub returns-clause-others : goal.returns-clause-others
returns-clause-others g c tells n s apart =
    c.replace_block.ensures.others (c.rows_of.ensures.leaves.proceeds.tells ∙ tells) n s apart ∙ ap (λ (files : Files). next_volume n s files) (c.rows_of.ensures.leaves.files tells)

pub returns-clause-content : goal.returns-clause-content
returns-clause-content g c tells = c.replace_block.ensures.content (c.rows_of.ensures.leaves.proceeds.tells ∙ tells)

pub returns-clause-disk : goal.returns-clause-disk
returns-clause-disk g c =
    let s = c.args.self.now in
    rearranges_then (content_of_opened s) (content_of_opened s) _ (g.D.Disk.state c.args.disk.now) (g.D.Disk.state c.rows_of.new.disk) (g.D.Disk.state c.replace_block.new.disk) (λ tells. refl)
    (rearranges_left s.held.points (known_in s.volumes.items) s.tenure s.fence ⊥ (g.D.Disk.state c.args.disk.now) (g.D.Disk.state c.rows_of.new.disk) c.requires.kept.exact
    (leaves_as _ _ (g.D.Disk.state c.args.disk.now) (g.D.Disk.state c.rows_of.new.disk) (λ none. absurd none) c.rows_of.ensures.leaves))
    (rearranges_for (content_of_opened s) (IsErrOf c.replace_block.result DiskFailed) _ (g.D.Disk.state c.rows_of.new.disk) (g.D.Disk.state c.replace_block.new.disk) (λ f. absurd (let bad = f in cc)) c.replace_block.ensures.disk)

-- ---- what is counted

pub returns-in_err-rows-clause-counted : goal.returns-in_err-rows-clause-counted
returns-in_err-rows-clause-counted g c = counted_left c.args.self.now _ (g.D.Disk.state c.args.disk.now) (g.D.Disk.state c.rows_of.new.disk) c.rows_of.ensures.leaves

pub returns-in_err-olds-clause-counted : goal.returns-in_err-olds-clause-counted
returns-in_err-olds-clause-counted g c = counted_left c.args.self.now _ (g.D.Disk.state c.args.disk.now) (g.D.Disk.state c.rows_of.new.disk) c.rows_of.ensures.leaves

pub returns-in_err-replace_block-clause-counted : goal.returns-in_err-replace_block-clause-counted
returns-in_err-replace_block-clause-counted g c = λ has. c.replace_block.ensures.counted (counted_left c.args.self.now _ (g.D.Disk.state c.args.disk.now) (g.D.Disk.state c.rows_of.new.disk) c.rows_of.ensures.leaves has)

pub returns-clause-counted : goal.returns-clause-counted
returns-clause-counted g c = λ has. c.replace_block.ensures.counted (counted_left c.args.self.now _ (g.D.Disk.state c.args.disk.now) (g.D.Disk.state c.rows_of.new.disk) c.rows_of.ensures.leaves has)

-- ---- what is kept of volumes

pub returns-in_err-rows-clause-cached : goal.returns-in_err-rows-clause-cached
returns-in_err-rows-clause-cached g c = let s = c.args.self.now in cached_still (known_in s.volumes.items) (known_in s.volumes.items) s.cache s.cache (g.D.Disk.state c.args.disk.now) (g.D.Disk.state c.rows_of.new.disk) c.rows_of.ensures.leaves.proceeds.tells refl refl

pub returns-in_err-olds-clause-cached : goal.returns-in_err-olds-clause-cached
returns-in_err-olds-clause-cached g c = let s = c.args.self.now in cached_still (known_in s.volumes.items) (known_in s.volumes.items) s.cache s.cache (g.D.Disk.state c.args.disk.now) (g.D.Disk.state c.rows_of.new.disk) c.rows_of.ensures.leaves.proceeds.tells refl refl

pub returns-in_err-replace_block-clause-cached : goal.returns-in_err-replace_block-clause-cached
returns-in_err-replace_block-clause-cached g c = λ has.
    let s = c.args.self.now in
    c.replace_block.ensures.cached (cached_still (known_in s.volumes.items) (known_in s.volumes.items) s.cache s.cache (g.D.Disk.state c.args.disk.now) (g.D.Disk.state c.rows_of.new.disk) c.rows_of.ensures.leaves.proceeds.tells refl refl has)

pub returns-clause-cached : goal.returns-clause-cached
returns-clause-cached g c = λ has.
    let s = c.args.self.now in
    c.replace_block.ensures.cached (cached_still (known_in s.volumes.items) (known_in s.volumes.items) s.cache s.cache (g.D.Disk.state c.args.disk.now) (g.D.Disk.state c.rows_of.new.disk) c.rows_of.ensures.leaves.proceeds.tells refl refl has)
