use Rattle.std.proofs.Common.{[], ◌∷◌, ◌++◌, sym, ap, ◌∙◌}
use Rattle.std.specs.Prelude.{Result, Ok, Err}
use Rattle.node_calls.specs.transcripts.Sweeps.{Entry, done_in, failed_in}
use Rattle.cluster_upkeep.specs.Findings.{entry_at}
use Rattle.cluster_upkeep.proofs.SweepLemmas.{done_err, done_ok, failed_err, failed_ok}
use Rattle.cluster_upkeep.proofs.findings.Findings.add.Goals as goal

pub returns-in-Ok-clause-done : goal.returns-in-Ok-clause-done
returns-in-Ok-clause-done c entries before =
    c.push_reserved.ensures.items ∙ ap (λ xs. xs ++ (c.args.slot.node, c.args.slot.shard, c.in-Ok.count) ∷ []) before
    ∙ sym (ap (λ said. done_in (entries ++ entry_at c.args.slot said ∷ [])) c.in-Ok.is ∙ done_ok entries c.args.slot c.in-Ok.count)

pub returns-in-Ok-clause-failed : goal.returns-in-Ok-clause-failed
returns-in-Ok-clause-failed c entries before = before ∙ sym (ap (λ said. failed_in (entries ++ entry_at c.args.slot said ∷ [])) c.in-Ok.is ∙ failed_ok entries c.args.slot c.in-Ok.count)

pub returns-in-Err-clause-done : goal.returns-in-Err-clause-done
returns-in-Err-clause-done c entries before = before ∙ sym (ap (λ said. done_in (entries ++ entry_at c.args.slot said ∷ [])) c.in-Err.is ∙ done_err entries c.args.slot c.in-Err.why)

pub returns-in-Err-clause-failed : goal.returns-in-Err-clause-failed
returns-in-Err-clause-failed c entries before =
    c.push_reserved-in-Err.ensures.items ∙ ap (λ xs. xs ++ (c.args.slot.node, c.args.slot.shard, c.in-Err.why) ∷ []) before
    ∙ sym (ap (λ said. failed_in (entries ++ entry_at c.args.slot said ∷ [])) c.in-Err.is ∙ failed_err entries c.args.slot c.in-Err.why)
