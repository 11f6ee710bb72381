use Rattle.std.proofs.Common.{◌∷◌, [], ◌++◌, false, ap, sym, ◌∙◌, append_assoc, replicate}
use Rattle.first_cluster.proofs.ListLemmas.{replicate_push}
use Rattle.cluster_placements.proofs.flags.with_nodes.Goals as goal

pub loop-preserved : goal.loop-preserved
loop-preserved c =
    c.in_ok-push.ensures.items ∙ ap (λ xs. xs ++ false ∷ []) c.loop.invariant ∙ append_assoc c.args.stopped.now (replicate c.loop.counter false) (false ∷ []) ∙ ap (λ ys. c.args.stopped.now ++ ys) (sym (replicate_push c.loop.counter false))
