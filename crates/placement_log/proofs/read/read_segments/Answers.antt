use Rattle.std.proofs.Common.{get_or, refl, subst, ◌∙◌, arith}
use Rattle.m3_outside.specs.Files.{Files}
use Rattle.commit_log.specs.Contents.{segment_bytes}
use Rattle.commit_log.proofs.Leaves.{leaves_none, leaves_as, leaves_then}
use Rattle.commit_log.proofs.ReadLemmas.{passed_err}
use Rattle.placement_log.specs.Damage.{ReadsStates, MayBeBroken, MayBeDamaged}
use Rattle.placement_log.specs.declared.open_err.OpenErr.TheVariants as failures
use Rattle.placement_log.proofs.ReadLemmas.{found_none, found_next, found_broken, passed_on}
use Rattle.placement_log.proofs.read.read_segments.Goals as goal

pub loop-number-init : goal.loop-number-init
loop-number-init g c = record {
  leaves = leaves_none ⊥ (g.D.Disk.state c.args.disk.now) (λ f. f);
  found = λ t. found_none (g.D.Disk.state c.args.disk.now).files c.args.last.now;
  state = λ s. s;
}

pub returns-in_err-read_one-clause-leaves : goal.returns-in_err-read_one-clause-leaves
returns-in_err-read_one-clause-leaves g c =
    leaves_then ⊥ _ (g.D.Disk.state c.args.disk.now) (g.D.Disk.state c.loop-number.disk) (g.D.Disk.state c.read_one.new.disk) c.loop-number.invariant.leaves
    (leaves_as _ _ (g.D.Disk.state c.loop-number.disk) (g.D.Disk.state c.read_one.new.disk)
    (λ f. passed_err c.from_residual.result c.read_one.result c.in_err-read_one.field-0.0 failures.Disk c.in_err-read_one.was c.from_residual.ensures.1 f) c.read_one.ensures.leaves)

pub returns-in_err-read_one-clause-err : goal.returns-in_err-read_one-clause-err
returns-in_err-read_one-clause-err g c = λ t.
    let same = c.loop-number.invariant.leaves.files t in
    let told = c.loop-number.invariant.leaves.proceeds.tells ∙ t in
    let number = get_or c.args.numbers.now c.loop-number.number-index 0 in
    passed_on c.from_residual.result c.in_err-read_one.field-0.0 (MayBeDamaged (g.D.Disk.state c.args.disk.now).files) c.from_residual.ensures.1
    (found_broken c.args.numbers.now c.loop-number.number-index number (g.D.Disk.state c.args.disk.now).files c.args.last.now c.loop-number.last (c.requires t) (omega arith) refl (c.loop-number.invariant.found t) c.in_err-read_one.field-0.0
    (subst (λ (m : Files). MayBeBroken number m c.in_err-read_one.field-0.0) same (c.in_err-read_one.ensures.err told)))

pub loop-number-preserved : goal.loop-number-preserved
loop-number-preserved g c =
    record {
      leaves = leaves_then ⊥ ⊥ (g.D.Disk.state c.args.disk.now) (g.D.Disk.state c.loop-number.disk) (g.D.Disk.state c.read_one.new.disk) c.loop-number.invariant.leaves
          (leaves_as _ ⊥ (g.D.Disk.state c.loop-number.disk) (g.D.Disk.state c.read_one.new.disk) (λ f. absurd f) c.read_one.ensures.leaves);
      found = λ t.
          let same = c.loop-number.invariant.leaves.files t in
          let told = c.loop-number.invariant.leaves.proceeds.tells ∙ t in
          let number = get_or c.args.numbers.now c.loop-number.number-index 0 in
          found_next c.args.numbers.now c.loop-number.number-index number (g.D.Disk.state c.args.disk.now).files c.args.last.now c.loop-number.last c.read_one.new.last (omega arith) refl (c.loop-number.invariant.found t)
          (subst (λ (m : Files). ReadsStates (segment_bytes number m) c.loop-number.last c.read_one.new.last) same (c.in_ok-read_one.ensures.ok told));
      state = λ s. c.read_one.ensures.state (c.loop-number.invariant.state s);
    }
