use Rattle.std.proofs.Common.{◌∙◌, get_or, sym, subst, arith}
use Rattle.std.specs.Prelude.{IsErrOf, slice_get}
use Rattle.std.proofs.lemmas.List.{get_or_default}
use Rattle.m3_model.specs.Answers.{HasPoint}
use Rattle.m3_model.specs.Contents.{Contents}
use Rattle.store_log.specs.listed_volumes.block_buffer.Blocks.{IsClosedBlocksOf}
use Rattle.store_log.proofs.listed_volumes_proofs.commit_log_proofs.Leaves.{leaves_none}
use Rattle.store_log.proofs.listed_volumes_proofs.commit_log_proofs.ReadLemmas.{passed_err}
use Rattle.store_log.specs.listed_volumes.fileset_read.declared.file_err.FileErr.TheVariants as failures
use Rattle.store_log.proofs.listed_volumes_proofs.ReadLemmas.{not_fault}
use Rattle.shard_store.specs.Flushes.{is_in_one}
use Rattle.store_log.specs.listed_volumes.Listed.{known_in}
use Rattle.shard_store.specs.StoreParts.{content_of_opened}
use Rattle.shard_store.proofs.FlushLoop.{closed_aligned, flushed_all, flushed_few, flushed_of, flushing_ended, flushing_none, flushing_still, next_fresh}
use Rattle.shard_store.proofs.FlushedLemmas.{not_ended}
use Rattle.shard_store.proofs.PointLemmas.{has_fewer}
use Rattle.shard_store.proofs.RearrangeLemmas.{rearranges_left, rearranges_then, rearranges_for}
use Rattle.shard_store.proofs.VolumeLists.{item_in}
use Rattle.shard_store.proofs.opened.Opened.flush.Goals as goal

-- ---- no memory for the list of blocks

pub returns-in_err-blocks-clause-disk : goal.returns-in_err-blocks-clause-disk
returns-in_err-blocks-clause-disk g c =
    let s = c.args.self.now in
    rearranges_left s.held.points (known_in s.volumes.items) s.tenure s.fence _ (g.D.Disk.state c.args.disk.now) (g.D.Disk.state c.args.disk.now) c.requires.kept.exact
    (leaves_none _ (g.D.Disk.state c.args.disk.now) (λ f. not_fault c.blocks_of.result c.blocks_of.ensures.err (passed_err c.from_residual.result c.blocks_of.result c.in_err-blocks.field-0.0 failures.Disk c.in_err-blocks.was c.from_residual.ensures.1 f)))

-- ---- block after block

pub loop-block-init : goal.loop-block-init
loop-block-init g c = flushing_none c.args.rules.now c.as_slice-block-items.result.now c.args.self.now (g.D.Disk.state c.args.disk.now) c.requires.kept

pub loop-block-preserved-in_default : goal.loop-block-preserved-in_default
loop-block-preserved-in_default g c =
    let rules = c.args.rules.now in
    let items = c.as_slice-block-items.result.now in
    let i = c.loop-block.block-index in
    let b = get_or items i (0, 0) in
    flushing_still rules items i b c.loop-block-test.true (get_or_default items i (0, 0) b c.loop-block-test.true) c.loop-block.written c.args.self.now c.loop-block.self (g.D.Disk.state c.args.disk.now) (g.D.Disk.state c.loop-block.disk) c.loop-block.invariant
    (not_ended (slice_get rules.spaces b.0) b.1 rules.now (sym c.flushable.ensures.size ∙ c.in_default.is))

pub loop-block-preserved : goal.loop-block-preserved
loop-block-preserved g c =
    let rules = c.args.rules.now in
    let first = c.args.self.now in
    let items = c.as_slice-block-items.result.now in
    let i = c.loop-block.block-index in
    let lt = c.loop-block-test.true in
    let b = get_or items i (0, 0) in
    let is = get_or_default items i (0, 0) b lt in
    let of = subst (IsClosedBlocksOf rules first.held.points) (sym c.as_slice-block-items.ensures) c.in_ok-blocks.ensures.blocks in
    flushing_ended rules items i b lt is c.loop-block.written first c.loop-block.self (g.D.Disk.state c.args.disk.now) (g.D.Disk.state c.loop-block.disk) c.loop-block.invariant
    c.flush_block.new.self (g.D.Disk.state c.flush_block.new.disk) (next_fresh rules items i b lt is of.ascend) (closed_aligned rules first.held.points items c.requires.sizes of) (item_in items i b lt is)
    c.in-Some.size (sym c.flushable.ensures.size ∙ c.in-Some.is) c.in_ok-flush_block.ensures.kept_ok c.flush_block.ensures.counted c.flush_block.ensures.cached c.flush_block.ensures.numbers c.in_ok-flush_block.ensures.ok c.flush_block.ensures.content c.in_ok-flush_block.ensures.one c.in_ok-flush_block.ensures.others
    (rearranges_for (content_of_opened c.loop-block.self) (IsErrOf c.flush_block.result failures.Disk) ⊥ (g.D.Disk.state c.loop-block.disk) (g.D.Disk.state c.flush_block.new.disk) (λ none. absurd none) c.flush_block.ensures.disk)

pub overflow_add-written : goal.overflow_add-written
overflow_add-written g c =
    let few = flushed_few c.args.rules.now c.as_slice-block-items.result.now c.loop-block.block-index in
    omega (arith, few, c.loop-block.invariant.count, c.loop-block-test.true)

-- ---- one of them failed

pub returns-in_err-flush_block-clause-kept : goal.returns-in_err-flush_block-clause-kept
returns-in_err-flush_block-clause-kept g c = λ m.
    c.flush_block.ensures.kept (passed_err c.from_residual-in_err-flush_block.result c.flush_block.result c.in_err-flush_block.field-0.0 failures.Memory c.in_err-flush_block.was c.from_residual-in_err-flush_block.ensures.1 m)

pub returns-in_err-flush_block-clause-numbers : goal.returns-in_err-flush_block-clause-numbers
returns-in_err-flush_block-clause-numbers g c =
    let so_far = c.loop-block.invariant.numbers in
    (c.flush_block.ensures.numbers.0 ∙ so_far.0, c.flush_block.ensures.numbers.1 ∙ so_far.1)

pub returns-in_err-flush_block-clause-fewer : goal.returns-in_err-flush_block-clause-fewer
returns-in_err-flush_block-clause-fewer g c p h =
    let rules = c.args.rules.now in
    has_fewer c.args.self.now.held.points (is_in_one rules (flushed_of rules c.as_slice-block-items.result.now c.loop-block.block-index)) p (subst (λ (m : Contents). HasPoint m p) c.loop-block.invariant.held (c.flush_block.ensures.fewer p h))

pub returns-in_err-flush_block-clause-content : goal.returns-in_err-flush_block-clause-content
returns-in_err-flush_block-clause-content g c tells = c.flush_block.ensures.content (c.loop-block.invariant.disk.tells ∙ tells) ∙ c.loop-block.invariant.content tells

pub returns-in_err-flush_block-clause-disk : goal.returns-in_err-flush_block-clause-disk
returns-in_err-flush_block-clause-disk g c =
    rearranges_then (content_of_opened c.args.self.now) (content_of_opened c.loop-block.self) _ (g.D.Disk.state c.args.disk.now) (g.D.Disk.state c.loop-block.disk) (g.D.Disk.state c.flush_block.new.disk) c.loop-block.invariant.content c.loop-block.invariant.disk
    (rearranges_for (content_of_opened c.loop-block.self) (IsErrOf c.flush_block.result failures.Disk) _ (g.D.Disk.state c.loop-block.disk) (g.D.Disk.state c.flush_block.new.disk)
    (λ f. passed_err c.from_residual-in_err-flush_block.result c.flush_block.result c.in_err-flush_block.field-0.0 failures.Disk c.in_err-flush_block.was c.from_residual-in_err-flush_block.ensures.1 f) c.flush_block.ensures.disk)

-- ---- all are done

pub returns-clause-kept_ok : goal.returns-clause-kept_ok
returns-clause-kept_ok g c = c.loop-block.invariant.kept

pub returns-clause-ok : goal.returns-clause-ok
returns-clause-ok g c =
    let rules = c.args.rules.now in
    let items = c.as_slice-block-items.result.now in
    let of = subst (IsClosedBlocksOf rules c.args.self.now.held.points) (sym c.as_slice-block-items.ensures) c.in_ok-blocks.ensures.blocks in (
      flushed_of rules items c.loop-block.block-index,
      flushed_all rules c.args.self.now.held.points items c.loop-block.block-index c.loop-block-test.false of,
      c.loop-block.invariant.count,
      c.loop-block.invariant.held,
      c.loop-block.invariant.volumes,
    )

pub returns-clause-numbers : goal.returns-clause-numbers
returns-clause-numbers g c = c.loop-block.invariant.numbers

pub returns-clause-fewer : goal.returns-clause-fewer
returns-clause-fewer g c p h =
    let rules = c.args.rules.now in
    has_fewer c.args.self.now.held.points (is_in_one rules (flushed_of rules c.as_slice-block-items.result.now c.loop-block.block-index)) p (subst (λ (m : Contents). HasPoint m p) c.loop-block.invariant.held h)

pub returns-clause-content : goal.returns-clause-content
returns-clause-content g c = c.loop-block.invariant.content

pub returns-clause-disk : goal.returns-clause-disk
returns-clause-disk g c = rearranges_for (content_of_opened c.args.self.now) ⊥ _ (g.D.Disk.state c.args.disk.now) (g.D.Disk.state c.loop-block.disk) (λ f. absurd (let bad = f in cc)) c.loop-block.invariant.disk

-- ---- what is counted

pub returns-in_err-blocks-clause-counted : goal.returns-in_err-blocks-clause-counted
returns-in_err-blocks-clause-counted g c = λ has. has

pub returns-in_err-flush_block-clause-counted : goal.returns-in_err-flush_block-clause-counted
returns-in_err-flush_block-clause-counted g c = λ has. c.flush_block.ensures.counted (c.loop-block.invariant.counted has)

pub returns-clause-counted : goal.returns-clause-counted
returns-clause-counted g c = c.loop-block.invariant.counted

-- ---- what is kept of volumes

pub returns-in_err-blocks-clause-cached : goal.returns-in_err-blocks-clause-cached
returns-in_err-blocks-clause-cached g c = λ has. has

pub returns-in_err-flush_block-clause-cached : goal.returns-in_err-flush_block-clause-cached
returns-in_err-flush_block-clause-cached g c = λ has. c.flush_block.ensures.cached (c.loop-block.invariant.cached has)

pub returns-clause-cached : goal.returns-clause-cached
returns-clause-cached g c = c.loop-block.invariant.cached
