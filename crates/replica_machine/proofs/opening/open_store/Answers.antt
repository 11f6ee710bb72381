use Rattle.std.proofs.Common.{sym, subst, Result, Ok, Err}
use Rattle.std.specs.Prelude.{⊤}
use Rattle.m3_outside.specs.declared.disk_err.DiskErr.{DiskErr}
use Rattle.shard_store.specs.shard_files.Gains.{Brings, nothing, a_tenure}
use Rattle.shard_store.proofs.LogStepLemmas.{err_is}
use Rattle.replica_machine.proofs.DiskLemmas.{brings_then, brings_refused}
use Rattle.replica_machine.proofs.opening.open_store.Goals as goal

pub returns-in_err-open-clause-disk : goal.returns-in_err-open-clause-disk
returns-in_err-open-clause-disk g c =
    let why = c.in_err-open.field-0.0 in
    let gain = a_tenure c.args.tenure in
    let old = g.D.Disk.state c.args.store.now.disk in
    let new = g.D.Disk.state c.open.new.self.disk in
    subst (λ (r : Result ⊤ DiskErr). Brings gain r old new) (sym (err_is c.from_residual.result why c.from_residual.ensures)) (brings_refused gain why old new (subst (λ (r : Result ⊤ DiskErr). Brings nothing r old new) c.in_err-open.was c.open.ensures.disk))

pub returns-in-Err-clause-disk : goal.returns-in-Err-clause-disk
returns-in-Err-clause-disk g c =
    let gain = a_tenure c.args.tenure in
    let old = g.D.Disk.state c.args.store.now.disk in
    let said : Result ⊤ DiskErr = Err c.in-Err.why in
    subst (λ store. Brings gain said old (g.D.Disk.state store.disk)) (sym c.close.ensures) (brings_then gain tt said old (g.D.Disk.state c.open.new.self.disk) (g.D.Disk.state c.begin.new.self.disk) c.in_ok-open.ensures.disk c.in-Err.ensures.disk)

pub returns-clause-disk : goal.returns-clause-disk
returns-clause-disk g c =
    brings_then (a_tenure c.args.tenure) tt (Ok tt) (g.D.Disk.state c.args.store.now.disk) (g.D.Disk.state c.open.new.self.disk) (g.D.Disk.state c.begin.new.self.disk) c.in_ok-open.ensures.disk c.in_default.ensures.disk
