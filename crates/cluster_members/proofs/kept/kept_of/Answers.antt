use Rattle.std.proofs.Common.{sym, subst, inr}
use Rattle.session_writes.proofs.cluster_core_proofs.ListLemmas.{at_in}
use Rattle.cluster_members.specs.Kept.{Uses}
use Rattle.cluster_members.proofs.kept.kept_of.Goals as goal

pub returns-in-Some-version_position-clause-some : goal.returns-in-Some-version_position-clause-some
returns-in-Some-version_position-clause-some c =
    let past = c.args.past.now in
    let found = c.in-Some-version_position.ensures.some in
    (found.0, found.1, subst (λ o. Uses c.args.place.now past o found.0) (sym c.in-Some.is) (inr (at_in past c.in-Some-version_position.position found.0 found.1), found.2))
