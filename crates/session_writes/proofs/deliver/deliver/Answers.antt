use Rattle.std.proofs.Common.{sym, ◌∙◌, subst}
use Rattle.std.specs.List.{All}
use Rattle.m3_model.specs.Members.{IsIn}
use Rattle.session_net.specs.Deliveries.{known}
use Rattle.session_net.proofs.ReadyLemmas.{clock_there, ready_after, calls_after}
use Rattle.session_writes.proofs.LateLemmas.{quiet_deliveries}
use Rattle.session_writes.proofs.LeftLemmas.{IsBoundedLate}
use Rattle.session_writes.proofs.deliver.deliver.Goals as goal

pub put_late-requires-clause-clock : goal.put_late-requires-clause-clock
put_late-requires-clause-clock g c = clock_there (c.args.net.now).replicas.events (c.args.net.now).state.rules c.requires.ready.clock

pub put_late-requires-clause-bounded : goal.put_late-requires-clause-bounded
put_late-requires-clause-bounded g c = subst (All IsBoundedLate) (sym (c.as_slice.ensures ∙ c.in_ok-late.ensures.all)) (c.args.net.now).bounded_late

pub returns-clause-ready : goal.returns-clause-ready
returns-clause-ready g c =
    let net = c.args.net.now in
    let done = c.put_late.ensures in
    ready_after g.D.Disk.state net.state net.replicas c.put_late.new.replicas net.bag c.empty.new.self done.1 c.requires.ready done.3
    (quiet_deliveries net.state.rules (known net.state.rules c.as_slice.result.now) done.0 done.1 done.2) (λ one m. absurd (subst (λ b. IsIn b one) c.in_ok-late.ensures.emptied m))

pub returns-clause-callable : goal.returns-clause-callable
returns-clause-callable g c s was =
    let net = c.args.net.now in
    let done = c.put_late.ensures in
    calls_after g.D.Disk.state s net.replicas c.put_late.new.replicas net.bag c.empty.new.self done.1 was done.3
    (quiet_deliveries net.state.rules (known net.state.rules c.as_slice.result.now) done.0 done.1 done.2) (λ one m. absurd (subst (λ b. IsIn b one) c.in_ok-late.ensures.emptied m))
