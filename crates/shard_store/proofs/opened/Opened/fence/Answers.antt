use Rattle.std.proofs.Common.{max, ◌++◌, List, ℕ, ◌∙◌, ap, sym, arith}
use Rattle.store_log.specs.listed_volumes.wire_bytes.Entries.{fence_entry}
use Rattle.m3_outside.specs.declared.disk_err.DiskErr.TheVariants.{Memory, Failed as DiskFailed}
use Rattle.store_log.specs.listed_volumes.shard_files.Gains.{a_fence}
use Rattle.store_log.specs.listed_volumes.shard_files.declared.entries.LogEntry.TheVariants as entry
use Rattle.store_log.specs.listed_volumes.Listed.{known_in}
use Rattle.store_log.proofs.LogStepLemmas.{counted_on}
use Rattle.store_log.proofs.LogStepLemmas.{err_is, memory_else, brings_none, brings_there, brings_as, kept_for, err_to}
use Rattle.shard_store.proofs.opened.Opened.fence.Goals as goal

pub returns-then-version-self-clause-disk : goal.returns-then-version-self-clause-disk
returns-then-version-self-clause-disk g c = brings_there (a_fence c.args.version) tt c.args.self.now.held.points (known_in c.args.self.now.volumes.items) c.args.self.now.tenure c.args.self.now.fence (g.D.Disk.state c.args.disk.now) c.requires.kept.exact (λ p m. m) (omega (arith, c.if-version-self.true)) (omega (arith, c.if-version-self.true, c.requires.kept.order))

pub returns-in_err-put_fence-clause-disk : goal.returns-in_err-put_fence-clause-disk
returns-in_err-put_fence-clause-disk g c = brings_none (a_fence c.args.version) c.from_residual.result (g.D.Disk.state c.args.disk.now) (err_is c.from_residual.result Memory c.from_residual.ensures)

pub log_entry-requires-clause-entry : goal.log_entry-requires-clause-entry
log_entry-requires-clause-entry g c = (entry.Fence c.args.version, record { within = c.ranges.version.fits; is = c.deref.ensures.value ∙ c.in_ok-put_fence.ensures.ok ∙ ap (λ (l : List ℕ). l ++ fence_entry c.args.version) c.clear.ensures.items })

pub returns-in_err-log_entry-clause-disk : goal.returns-in_err-log_entry-clause-disk
returns-in_err-log_entry-clause-disk g c =
    brings_as (a_fence c.args.version) c.log_entry.result c.from_residual-in_err-log_entry.result (g.D.Disk.state c.args.disk.now) (g.D.Disk.state c.log_entry.new.disk)
    (err_is c.from_residual-in_err-log_entry.result c.in_err-log_entry.field-0.0 c.from_residual-in_err-log_entry.ensures ∙ sym c.in_err-log_entry.was)
    (c.log_entry.ensures.brings (entry.Fence c.args.version) (record { within = c.ranges.version.fits; is = c.deref.ensures.value ∙ c.in_ok-put_fence.ensures.ok ∙ ap (λ (l : List ℕ). l ++ fence_entry c.args.version) c.clear.ensures.items }))

pub returns-clause-disk : goal.returns-clause-disk
returns-clause-disk g c =
    brings_as (a_fence c.args.version) c.log_entry.result _ (g.D.Disk.state c.args.disk.now) (g.D.Disk.state c.log_entry.new.disk) (sym c.in_ok-log_entry.was) (c.log_entry.ensures.brings (entry.Fence c.args.version) (record { within = c.ranges.version.fits; is = c.deref.ensures.value ∙ c.in_ok-put_fence.ensures.ok ∙ ap (λ (l : List ℕ). l ++ fence_entry c.args.version) c.clear.ensures.items }))

pub returns-clause-kept : goal.returns-clause-kept
returns-clause-kept g c = λ fine.
    kept_for c.log_entry.new.log _ _ (max c.args.self.now.tenure 0) (max c.args.self.now.fence c.args.version) _ _ (g.D.Disk.state c.log_entry.new.disk) (omega (arith, c.if-version-self.false)) (omega (arith, c.if-version-self.false))
    (c.in_ok-log_entry.ensures.kept (entry.Fence c.args.version) (record { within = c.ranges.version.fits; is = c.deref.ensures.value ∙ c.in_ok-put_fence.ensures.ok ∙ ap (λ (l : List ℕ). l ++ fence_entry c.args.version) c.clear.ensures.items }) c.args.self.now.held (known_in c.args.self.now.volumes.items) c.args.self.now.tenure c.args.self.now.fence c.requires.kept)

pub returns-in_err-log_entry-clause-kept : goal.returns-in_err-log_entry-clause-kept
returns-in_err-log_entry-clause-kept g c = λ fine.
    c.log_entry.ensures.memory c.args.self.now.held (known_in c.args.self.now.volumes.items) c.args.self.now.tenure c.args.self.now.fence c.requires.kept
    (memory_else c.log_entry.result c.from_residual-in_err-log_entry.result c.in_err-log_entry.field-0.0 c.in_err-log_entry.was (err_is c.from_residual-in_err-log_entry.result c.in_err-log_entry.field-0.0 c.from_residual-in_err-log_entry.ensures) fine)

pub returns-then-version-self-clause-counted : goal.returns-then-version-self-clause-counted
returns-then-version-self-clause-counted g c = λ fine has. has

pub returns-in_err-put_fence-clause-counted : goal.returns-in_err-put_fence-clause-counted
returns-in_err-put_fence-clause-counted g c = λ fine has. has

pub returns-in_err-log_entry-clause-counted : goal.returns-in_err-log_entry-clause-counted
returns-in_err-log_entry-clause-counted g c = λ fine.
    let s = c.args.self.now in
    let why = c.in_err-log_entry.field-0.0 in
    counted_on s.log c.log_entry.new.log s.counts.missing s.counts.snapshot (g.D.Disk.state c.args.disk.now) (g.D.Disk.state c.log_entry.new.disk) (returns-in_err-log_entry-clause-disk g c).tells
    (λ tells. c.log_entry.ensures.counts tells (λ f. fine (err_to c.from_residual-in_err-log_entry.result c.log_entry.result why DiskFailed (err_is c.from_residual-in_err-log_entry.result why c.from_residual-in_err-log_entry.ensures) c.in_err-log_entry.was f)))

pub returns-clause-counted : goal.returns-clause-counted
returns-clause-counted g c = λ fine.
    let s = c.args.self.now in
    counted_on s.log c.log_entry.new.log s.counts.missing s.counts.snapshot (g.D.Disk.state c.args.disk.now) (g.D.Disk.state c.log_entry.new.disk) (returns-clause-disk g c).tells
    (λ tells. c.log_entry.ensures.counts tells (λ f. let was = c.in_ok-log_entry.was in let bad = f in cc))
