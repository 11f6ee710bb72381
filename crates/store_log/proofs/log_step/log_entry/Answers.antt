use Rattle.std.proofs.Common.{◌∙◌, refl, sym, subst}
use Rattle.std.specs.Prelude.{⊤, IsErr, IsErrOf}
use Rattle.m3_outside.specs.Causes.{CountsFaults}
use Rattle.m3_outside.specs.declared.disk_err.DiskErr.TheVariants.{Failed as DiskFailed}
use Rattle.joined_reads.specs.listed_volumes.shard_files.LogSteps.{gain_in}
use Rattle.store_log.proofs.LogStepLemmas.{err_is, err_to, brings_nothing, brings_fault, brings_all, after_nothing, steps_after_nothing}
use Rattle.store_log.proofs.LogStepLemmas.{counts_both, counts_for}
use Rattle.store_log.proofs.log_step.log_entry.Goals as goal

pub returns-in_err-ready_entry-clause-brings : goal.returns-in_err-ready_entry-clause-brings
returns-in_err-ready_entry-clause-brings g c e is =
    let same = err_is c.from_residual.result c.in_err-ready_entry.field-0.0 c.from_residual.ensures in
    brings_nothing (gain_in e) c.from_residual.result c.in_err-ready_entry.field-0.0 (g.D.Disk.state c.args.disk.now) (g.D.Disk.state c.ready_entry.new.disk) same c.ready_entry.ensures.any_moment c.ready_entry.ensures.tells
    (subst (λ r. CountsFaults (IsErrOf r DiskFailed) (g.D.Disk.state c.args.disk.now).faults (g.D.Disk.state c.ready_entry.new.disk).faults) (c.in_err-ready_entry.was ∙ sym same) c.ready_entry.ensures.faults)

pub returns-in_err-append_entry-clause-brings : goal.returns-in_err-append_entry-clause-brings
returns-in_err-append_entry-clause-brings g c e is =
    brings_fault (gain_in e) c.from_residual-in_err-append_entry.result (g.D.Disk.state c.args.disk.now) (g.D.Disk.state c.append_entry.new.disk) (err_is c.from_residual-in_err-append_entry.result DiskFailed c.from_residual-in_err-append_entry.ensures)
    (after_nothing (gain_in e) (g.D.Disk.state c.args.disk.now) (g.D.Disk.state c.ready_entry.new.disk) (g.D.Disk.state c.append_entry.new.disk) c.ready_entry.ensures.any_moment c.ready_entry.ensures.tells (λ tells. c.append_entry.ensures.any_moment e is (c.ready_entry.ensures.tells ∙ tells)))
    (c.append_entry.ensures.tells ∙ c.ready_entry.ensures.tells)
    (counts_for (IsErr c.append_entry.result) ⊤ _ _ (λ u. subst IsErr (sym c.in_err-append_entry.was) refl) (counts_both _ _ _ _ _ c.ready_entry.ensures.faults c.append_entry.ensures.faults))

pub returns-clause-brings : goal.returns-clause-brings
returns-clause-brings g c e is =
    brings_all (gain_in e) tt (g.D.Disk.state c.args.disk.now) (g.D.Disk.state c.append_entry.new.disk)
    (after_nothing (gain_in e) (g.D.Disk.state c.args.disk.now) (g.D.Disk.state c.ready_entry.new.disk) (g.D.Disk.state c.append_entry.new.disk) c.ready_entry.ensures.any_moment c.ready_entry.ensures.tells (λ tells. c.append_entry.ensures.any_moment e is (c.ready_entry.ensures.tells ∙ tells)))
    (λ tells. steps_after_nothing (gain_in e) (g.D.Disk.state c.args.disk.now) (g.D.Disk.state c.ready_entry.new.disk) (g.D.Disk.state c.append_entry.new.disk) c.ready_entry.ensures.any_moment c.ready_entry.ensures.tells tells (c.in_ok-append_entry.ensures.acknowledged e is (c.ready_entry.ensures.tells ∙ tells)))
    (c.append_entry.ensures.tells ∙ c.ready_entry.ensures.tells)
    (counts_for (IsErr c.append_entry.result) ⊥ _ _ (λ none. absurd none) (counts_both _ _ _ _ _ c.ready_entry.ensures.faults c.append_entry.ensures.faults))

pub returns-clause-kept : goal.returns-clause-kept
returns-clause-kept g c e is memory known tenure fence kept = c.in_ok-append_entry.ensures.kept e is memory known tenure fence (c.ready_entry.ensures.kept memory known tenure fence kept)

pub returns-clause-counts : goal.returns-clause-counts
returns-clause-counts g c = λ tells fine missing snapshot has.
    c.in_ok-append_entry.ensures.counts (c.ready_entry.ensures.tells ∙ tells) missing snapshot (c.ready_entry.ensures.counts tells (λ f. let was = c.in_ok-ready_entry.was in let bad = f in cc) missing snapshot has)

pub returns-in_err-ready_entry-clause-counts : goal.returns-in_err-ready_entry-clause-counts
returns-in_err-ready_entry-clause-counts g c = λ tells fine.
    let why = c.in_err-ready_entry.field-0.0 in
    c.ready_entry.ensures.counts tells (λ f. fine (err_to c.from_residual.result c.ready_entry.result why DiskFailed (err_is c.from_residual.result why c.from_residual.ensures) c.in_err-ready_entry.was f))
