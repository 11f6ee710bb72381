use Rattle.std.proofs.Common.{ap, sym, subst, ◌∙◌}
use Rattle.commit_log.specs.LogEnd.{NoneFrom}
use Rattle.commit_log.specs.Contents.{next_after}
use Rattle.commit_log.proofs.Numbers.{none_from_after}
use Rattle.commit_log.proofs.read.list_segments.Goals as goal

pub returns-in-Some-clause-fresh : goal.returns-in-Some-clause-fresh
returns-in-Some-clause-fresh g c = λ h.
    let t = sym c.in_ok-numbers.ensures.leaves.proceeds.tells ∙ h in
    subst (NoneFrom c.in-Some.next) (sym (c.in_ok-numbers.ensures.leaves.files t))
    (none_from_after (g.D.Disk.state c.args.disk.now).files c.in-Some.next (c.in-Some.ensures.next ∙ ap next_after (c.deref.ensures.value ∙ c.in_ok-numbers.ensures.ok t)))
