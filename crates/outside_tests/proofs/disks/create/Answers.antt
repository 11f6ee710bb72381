use Rattle.std.proofs.Common.{sym, subst, ◌∙◌}
use Rattle.m3_outside.specs.Files.{IsAbsent}
use Rattle.outside_tests.proofs.SizeLemmas.{absent_of}
use Rattle.outside_tests.proofs.disks.create.Goals as goal

pub create-requires : goal.create-requires
create-requires g c = λ h.
    let t = sym c.in_ok-size.ensures.leaves.proceeds.tells ∙ h in
    subst (IsAbsent c.args.name) (sym (c.in_ok-size.ensures.leaves.files t)) (absent_of (g.D.Disk.state c.args.disk.now).files c.args.name c.in_ok-size.field-0 (c.in_ok-size.ensures.size t) c.if-is_some.ensures)
