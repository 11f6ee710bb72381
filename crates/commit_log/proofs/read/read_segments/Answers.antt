use Rattle.std.proofs.Common.{get_or, refl, subst, ◌∙◌, arith}
use Rattle.log_chunks.specs.m3_outside.Files.{Files}
use Rattle.commit_log.specs.Contents.{segment_bytes}
use Rattle.commit_log.specs.Reading.{IsFront, MayBeFirstDamage}
use Rattle.commit_log.specs.declared.log_err.LogErr.TheVariants as errors
use Rattle.commit_log.proofs.Leaves.{leaves_none, leaves_as, leaves_then}
use Rattle.commit_log.proofs.ReadLemmas.{finds_none, finds_next, first_damage, passed_err, passed_fault, passed_on, passed_plain}
use Rattle.commit_log.proofs.read.read_segments.Goals as goal

pub loop-number-init : goal.loop-number-init
loop-number-init g c = record {
  leaves = leaves_none ⊥ (g.D.Disk.state c.args.disk.now) (λ f. f);
  found = λ t. finds_none (g.D.Disk.state c.args.disk.now).files c.args.chunks.now.items;
}

pub returns-in_err-front-clause-leaves : goal.returns-in_err-front-clause-leaves
returns-in_err-front-clause-leaves g c =
    leaves_then ⊥ _ (g.D.Disk.state c.args.disk.now) (g.D.Disk.state c.loop-number.disk) (g.D.Disk.state c.read_front.new.disk) c.loop-number.invariant.leaves
    (leaves_as _ _ (g.D.Disk.state c.loop-number.disk) (g.D.Disk.state c.read_front.new.disk)
    (λ f. passed_fault c.from_residual.result c.read_front.result c.in_err-front.field-0.0 c.in_err-front.was c.from_residual.ensures.1 f) c.read_front.ensures.leaves)

pub returns-in_err-front-clause-err : goal.returns-in_err-front-clause-err
returns-in_err-front-clause-err g c = λ t. passed_plain c.from_residual.result c.in_err-front.field-0.0 c.args.numbers.now (g.D.Disk.state c.args.disk.now).files c.from_residual.ensures.1

pub returns-in_err-read_chunks-clause-leaves : goal.returns-in_err-read_chunks-clause-leaves
returns-in_err-read_chunks-clause-leaves g c =
    leaves_then ⊥ _ (g.D.Disk.state c.args.disk.now) (g.D.Disk.state c.loop-number.disk) (g.D.Disk.state c.read_front.new.disk) c.loop-number.invariant.leaves
    (leaves_as _ _ (g.D.Disk.state c.loop-number.disk) (g.D.Disk.state c.read_front.new.disk)
    (λ f. absurd (c.read_chunks.ensures.no_fault (passed_err c.from_residual-in_err-read_chunks.result c.read_chunks.result c.in_err-read_chunks.field-0.0 errors.Disk c.in_err-read_chunks.was c.from_residual-in_err-read_chunks.ensures.1 f)))
    c.in_ok-front.ensures.leaves)

pub returns-in_err-read_chunks-clause-err : goal.returns-in_err-read_chunks-clause-err
returns-in_err-read_chunks-clause-err g c = λ t.
    let same = c.loop-number.invariant.leaves.files t in
    let told = c.loop-number.invariant.leaves.proceeds.tells ∙ t in
    let number = get_or c.args.numbers.now c.loop-number.number-index 0 in
    let front = subst (λ (m : Files). IsFront c.in_ok-front.front.bytes.items c.in_ok-front.front.is_whole (segment_bytes number m)) same (c.in_ok-front.ensures.ok told) in
    passed_on c.from_residual-in_err-read_chunks.result c.in_err-read_chunks.field-0.0 (MayBeFirstDamage c.args.numbers.now (g.D.Disk.state c.args.disk.now).files) c.from_residual-in_err-read_chunks.ensures.1
    (first_damage c.args.numbers.now c.loop-number.number-index number (g.D.Disk.state c.args.disk.now).files c.args.chunks.now.items c.loop-number.chunks.items (omega arith) refl (c.loop-number.invariant.found t) c.in_err-read_chunks.field-0.0
    (c.in_err-read_chunks.ensures.err (segment_bytes number (g.D.Disk.state c.args.disk.now).files) front))

pub loop-number-preserved : goal.loop-number-preserved
loop-number-preserved g c =
    record {
      leaves = leaves_then ⊥ ⊥ (g.D.Disk.state c.args.disk.now) (g.D.Disk.state c.loop-number.disk) (g.D.Disk.state c.read_front.new.disk) c.loop-number.invariant.leaves
          (leaves_as _ ⊥ (g.D.Disk.state c.loop-number.disk) (g.D.Disk.state c.read_front.new.disk) (λ f. absurd f) c.in_ok-front.ensures.leaves);
      found = λ t.
          let same = c.loop-number.invariant.leaves.files t in
          let told = c.loop-number.invariant.leaves.proceeds.tells ∙ t in
          let number = get_or c.args.numbers.now c.loop-number.number-index 0 in
          let front = subst (λ (m : Files). IsFront c.in_ok-front.front.bytes.items c.in_ok-front.front.is_whole (segment_bytes number m)) same (c.in_ok-front.ensures.ok told) in
          finds_next c.args.numbers.now c.loop-number.number-index number (g.D.Disk.state c.args.disk.now).files c.args.chunks.now.items c.loop-number.chunks.items c.read_chunks.new.chunks.items (omega arith) refl (c.loop-number.invariant.found t)
          (c.in_ok-read_chunks.ensures.ok (segment_bytes number (g.D.Disk.state c.args.disk.now).files) front);
    }
