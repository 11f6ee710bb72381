use Rattle.std.proofs.lemmas.Result.{err_from_is_err_and}
use Rattle.boot_chain.proofs.ChainLemmas.{last_stopped}
use Rattle.boot_chain.proofs.PartLemmas.{all_apart}
use Rattle.boot_chain.proofs.chain.run_chain.Goals as goal

pub returns-in_err-fresh-clause-stopped : goal.returns-in_err-fresh-clause-stopped
returns-in_err-fresh-clause-stopped g c =
    let p = err_from_is_err_and c.from_residual-in_err-fresh.result c.from_residual-in_err-fresh.ensures.1 in
    rw p.1 (last_stopped g.A.Bootstrapper.answers g.B.Bootstrapper.answers g.C.Bootstrapper.answers g.U.Bootstrapper.answers _ _ _ _ _ _ _ _ _ _ c.in_ok-files.ensures.0 c.in_ok-files.ensures.1.1
    c.in_ok-log.ensures.0 c.in_ok-log.ensures.1.1 c.in_ok-peers.ensures.0 c.in_ok-peers.ensures.1.1 c.in_err-fresh.ensures.0)

pub returns-clause-partition : goal.returns-clause-partition
returns-clause-partition g c =
    all_apart _ _ _ _ _ _ _ _ _ c.in_ok-files.ensures.1.0 c.in_ok-files.ensures.1.1 c.in_ok-log.ensures.1.0 c.in_ok-log.ensures.1.1
    c.in_ok-peers.ensures.1.0 c.in_ok-peers.ensures.1.1 c.in_ok-fresh.ensures.1.0 c.in_ok-fresh.ensures.1.1
