use Rattle.std.proofs.Common.{◌∷◌, [], ◌++◌, false, ap, sym, ◌∙◌}
use Rattle.first_cluster.proofs.ListLemmas.{replicate_push}
use Rattle.first_cluster.proofs.plan.none_stopped.Goals as goal

pub loop-preserved : goal.loop-preserved
loop-preserved c = c.in_ok-push.ensures.items ∙ ap (λ xs. xs ++ false ∷ []) c.loop.invariant ∙ sym (replicate_push c.loop.counter false)
