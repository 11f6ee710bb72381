use Rattle.std.proofs.Common.{ℕ, refl, replicate, sym, ap, ◌∙◌, arith}
use Rattle.std.proofs.lemmas.List.{length-replicate}
use Rattle.std.specs.FinMap.{get}
use Rattle.m3_outside.specs.Files.{Files}
use Rattle.m3_outside.proofs.Names.{get_here}
use Rattle.commit_log.specs.Segment.{segment}
use Rattle.log_tests.proofs.logs.put_segment.Goals as goal

pub write_at-requires-clause-inside : goal.write_at-requires-clause-inside
write_at-requires-clause-inside g c = λ h.
    let made = sym c.in_ok-reserve.ensures.leaves.proceeds.tells ∙ h in
    let before = sym c.in_ok-create.ensures.changes.proceeds.tells ∙ made in
    let whole = length-replicate {A = ℕ} 65536 0 in
    record {
      file = replicate 65536 0;
      there =
          ap (λ (m : Files). get m (segment 1)) (c.in_ok-reserve.ensures.leaves.files made ∙ (c.in_ok-create.ensures.changes.done before refl).files)
          ∙ get_here (g.D.Disk.state c.size.new.self).files (segment 1) (replicate 65536 0);
      within = omega (arith, c.if-bytes-gt64.false, whole);
    }
