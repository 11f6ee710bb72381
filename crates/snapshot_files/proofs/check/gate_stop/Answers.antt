use Rattle.std.proofs.Common.{arith, rules}
use Rattle.fileset_check.proofs.GateLemmas.{gate_shut, gate_cut}
use Rattle.snapshot_files.proofs.check.gate_stop.Goals as goal
use Rattle.snapshot_files.proofs.check.gate_stop.Goals.{then-bytes-eq0-via-then-bytes-eq0, then-bytes-eq0-via-else-bytes-eq0+then-bytes-ne-OPEN}

pub returns-then-bytes-eq0-clause-some : goal.returns-then-bytes-eq0-clause-some
returns-then-bytes-eq0-clause-some c = gate_shut c.args.bytes.now (λ some first.
    elim c.then-bytes-eq0.branch [
      | then-bytes-eq0-via-then-bytes-eq0 w ↦ let t = w.if-bytes-eq0.true in omega (arith, t, some)
      | then-bytes-eq0-via-else-bytes-eq0+then-bytes-ne-OPEN w ↦ w.if-bytes-ne-OPEN.true first
    ])

pub returns-clause-some : goal.returns-clause-some
returns-clause-some c =
    let some = c.if-bytes-eq0.false in
    gate_cut c.args.bytes.now c.min.result (omega (arith, some)) c.if-bytes-ne-OPEN.false c.if-bytes-eq-CHECKPOINT_BYTES.false (search rules)
