use Rattle.std.proofs.Common.{sym, subst, ◌∙◌, arith}
use Rattle.m3_outside.specs.Files.{IsInside}
use Rattle.outside_tests.proofs.SizeLemmas.{inside_of_size}
use Rattle.outside_tests.proofs.disks.read.Goals as goal

pub read-requires : goal.read-requires
read-requires g c = λ h.
    let t = sym c.in_ok-size.ensures.leaves.proceeds.tells ∙ h in
    subst (IsInside c.args.name 0 4) (sym (c.in_ok-size.ensures.leaves.files t))
    (inside_of_size (g.D.Disk.state c.args.disk.now).files c.args.name c.in-Some.size 0 4 (sym c.in-Some.is ∙ c.in_ok-size.ensures.size t) (omega arith))
