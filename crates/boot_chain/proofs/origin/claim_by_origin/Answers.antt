use Rattle.std.proofs.Common.{ap, ◌∙◌}
use Rattle.std.proofs.lemmas.Result.{IfOk-weaker}
use Rattle.boot_chain.specs.Chains.{after_files, after_log, after_peers}
use Rattle.boot_chain.specs.Origins.{claim_of}
use Rattle.boot_chain.specs.declared.origin.Claimant.{Claimant}
use Rattle.boot_chain.proofs.ChainLemmas.{by_origin}
use Rattle.boot_chain.proofs.origin.claim_by_origin.Goals as goal

pub returns : goal.returns
returns c =
    let asked = c.args.asked in
    IfOk-weaker c.run_chain.result _ _ (λ claims h.
    by_origin c.args.origin asked claims (h.files.1 ∙ ap (λ (t : Claimant × Claimant × Claimant × Claimant). claim_of t.0 asked) c.claimants_of-files.ensures)
    (h.log.1 ∙ ap (λ (t : Claimant × Claimant × Claimant × Claimant). claim_of t.1 (after_files asked claims)) c.claimants_of-files.ensures)
    (h.peers.1 ∙ ap (λ (t : Claimant × Claimant × Claimant × Claimant). claim_of t.2 (after_log asked claims)) c.claimants_of-files.ensures)
    (h.fresh.1 ∙ ap (λ (t : Claimant × Claimant × Claimant × Claimant). claim_of t.3 (after_peers asked claims)) c.claimants_of-files.ensures) h.left) c.run_chain.ensures.claimed
