use Rattle.std.proofs.Common.{sym, subst, ◌∙◌}
use Rattle.m3_outside.specs.Files.{IsPresent}
use Rattle.outside_tests.proofs.SizeLemmas.{present_of}
use Rattle.outside_tests.proofs.disks.remove.Goals as goal

pub remove-requires-clause-present : goal.remove-requires-clause-present
remove-requires-clause-present g c = λ h.
    let t = sym c.in_ok-size.ensures.leaves.proceeds.tells ∙ h in
    subst (IsPresent c.args.name) (sym (c.in_ok-size.ensures.leaves.files t)) (present_of (g.D.Disk.state c.reserve.new.self).files c.args.name c.in-Some.size (sym c.in-Some.is ∙ c.in_ok-size.ensures.size t))
