use Rattle.std.proofs.Common.{sym, subst, ◌∙◌, arith, length}
use Rattle.m3_outside.specs.Files.{IsInside}
use Rattle.outside_tests.proofs.SizeLemmas.{inside_of_size}
use Rattle.outside_tests.proofs.disks.write.Goals as goal

pub write_at-requires-clause-inside : goal.write_at-requires-clause-inside
write_at-requires-clause-inside g c = λ h.
    let t = sym c.in_ok-size.ensures.leaves.proceeds.tells ∙ h in
    subst (IsInside c.args.name c.from-2.result (length c.args.bytes.now)) (sym (c.in_ok-size.ensures.leaves.files t))
    (inside_of_size (g.D.Disk.state c.reserve.new.self).files c.args.name c.in-Some.size c.from-2.result (length c.args.bytes.now) (sym c.in-Some.is ∙ c.in_ok-size.ensures.size t)
    (omega (arith, c.from-2.ensures, c.from.ensures, c.from-else-from-size.ensures, c.if-from-size.false, c.if-bytes-size.false)))
