use Rattle.std.proofs.Common.{List, sym, subst}
use Rattle.std.proofs.lemmas.Result.{IfOk-weaker}
use Rattle.boot_chain.specs.Ranges.{IsSublist}
use Rattle.boot_chain.specs.declared.range.Range.{Range}
use Rattle.boot_chain.proofs.PartLemmas.{sublist_whole}
use Rattle.boot_chain.proofs.origin.ClaimantBootstrapper.claim.Goals as goal

pub returns-in-Every-clause-some_of_it : goal.returns-in-Every-clause-some_of_it
returns-in-Every-clause-some_of_it c =
    IfOk-weaker c.copy.result _ _ (λ claimed is. subst (λ (xs : List Range). IsSublist xs c.args.asked.now) (sym is) (sublist_whole c.args.asked.now)) c.copy.ensures
