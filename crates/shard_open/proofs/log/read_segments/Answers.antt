use Rattle.std.proofs.Common.{get_or, refl, subst, ◌∙◌, arith}
use Rattle.snapshot_files.specs.m3_outside.Files.{Files}
use Rattle.snapshot_files.specs.commit_log.Contents.{segment_bytes}
use Rattle.snapshot_files.proofs.commit_log_proofs.Leaves.{leaves_none, leaves_as, leaves_then}
use Rattle.snapshot_files.proofs.commit_log_proofs.ReadLemmas.{passed_err}
use Rattle.snapshot_files.specs.shard_files.Loading.{ReadsEntries, Tells, LogTells}
use Rattle.snapshot_files.specs.shard_files.Damage.{BreaksSegment}
use Rattle.snapshot_files.specs.shard_files.declared.load_err.LoadErr.TheVariants as failures
use Rattle.snapshot_files.proofs.shard_files_proofs.DamageLemmas.{found_none, found_next, found_broken}
use Rattle.snapshot_files.proofs.shard_files_proofs.SegmentStops.{passed_on}
use Rattle.shard_open.proofs.log.read_segments.Goals as goal

pub loop-number-init : goal.loop-number-init
loop-number-init g c = record {
  leaves = leaves_none ⊥ (g.D.Disk.state c.args.disk.now) (λ f. f);
  found = λ t. found_none (g.D.Disk.state c.args.disk.now).files c.args.entries.now.items;
}

pub returns-in_err-read_one-clause-leaves : goal.returns-in_err-read_one-clause-leaves
returns-in_err-read_one-clause-leaves g c =
    leaves_then ⊥ _ (g.D.Disk.state c.args.disk.now) (g.D.Disk.state c.loop-number.disk) (g.D.Disk.state c.read_one.new.disk) c.loop-number.invariant.leaves
    (leaves_as _ _ (g.D.Disk.state c.loop-number.disk) (g.D.Disk.state c.read_one.new.disk)
    (λ f. passed_err c.from_residual.result c.read_one.result c.in_err-read_one.field-0.0 failures.Disk c.in_err-read_one.was c.from_residual.ensures.1 f) c.read_one.ensures.leaves)

pub returns-in_err-read_one-clause-err : goal.returns-in_err-read_one-clause-err
returns-in_err-read_one-clause-err g c = λ t.
    let same = c.loop-number.invariant.leaves.files t in
    let told = c.loop-number.invariant.leaves.proceeds.tells ∙ t in
    let number = get_or c.args.numbers.now c.loop-number.number-index 0 in
    passed_on c.from_residual.result c.in_err-read_one.field-0.0 (Tells (LogTells (g.D.Disk.state c.args.disk.now).files)) c.from_residual.ensures.1
    (found_broken c.args.numbers.now c.loop-number.number-index number (g.D.Disk.state c.args.disk.now).files c.args.entries.now.items c.loop-number.entries.items (c.requires t) (omega arith) refl (c.loop-number.invariant.found t) c.in_err-read_one.field-0.0
    (subst (λ (m : Files). Tells (BreaksSegment m number) c.in_err-read_one.field-0.0) same (c.in_err-read_one.ensures.err told)))

pub loop-number-preserved : goal.loop-number-preserved
loop-number-preserved g c =
    record {
      leaves = leaves_then ⊥ ⊥ (g.D.Disk.state c.args.disk.now) (g.D.Disk.state c.loop-number.disk) (g.D.Disk.state c.read_one.new.disk) c.loop-number.invariant.leaves
          (leaves_as _ ⊥ (g.D.Disk.state c.loop-number.disk) (g.D.Disk.state c.read_one.new.disk) (λ f. absurd f) c.read_one.ensures.leaves);
      found = λ t.
          let same = c.loop-number.invariant.leaves.files t in
          let told = c.loop-number.invariant.leaves.proceeds.tells ∙ t in
          let number = get_or c.args.numbers.now c.loop-number.number-index 0 in
          found_next c.args.numbers.now c.loop-number.number-index number (g.D.Disk.state c.args.disk.now).files c.args.entries.now.items c.loop-number.entries.items c.read_one.new.entries.items (omega arith) refl (c.loop-number.invariant.found t)
          (subst (λ (m : Files). ReadsEntries (segment_bytes number m) c.loop-number.entries.items c.read_one.new.entries.items) same (c.in_ok-read_one.ensures.ok told));
    }
