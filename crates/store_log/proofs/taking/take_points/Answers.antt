use Rattle.std.proofs.Common.{◌≡◌, ◌∙◌, ℕ, max, None, refl, sym, ap, subst, arith}
use Rattle.std.specs.Prelude.{⊤, IsErr, IsErrOf}
use Rattle.m3_outside.specs.Causes.{CountsFaults}
use Rattle.m3_outside.specs.declared.disk_err.DiskErr.TheVariants.{Memory, Failed as DiskFailed}
use Rattle.joined_reads.specs.held_pages.Rises.{points_of}
use Rattle.joined_reads.specs.listed_volumes.block_buffer.Held.{InMemory}
use Rattle.joined_reads.specs.listed_volumes.block_buffer.Joins.{joined}
use Rattle.joined_reads.specs.listed_volumes.shard_files.Entries.{IsEntry}
use Rattle.joined_reads.specs.listed_volumes.shard_files.declared.entries.LogEntry.TheVariants as entry
use Rattle.store_log.specs.Kept.{IsKeptOn, memory_with}
use Rattle.store_log.specs.Whole.{of_points}
use Rattle.store_log.proofs.LogStepLemmas.{counts_both, counts_for, err_is, err_to, kept_for, steps_after_nothing}
use Rattle.store_log.proofs.WholeLemmas.{whole_after_nothing, whole_all, whole_fault, whole_none, whole_nothing}
use Rattle.store_log.proofs.taking.take_points.Given.{Over}
use Rattle.store_log.proofs.taking.take_points.Goals as goal

pub append_entry-requires-clause-entry : goal.append_entry-requires-clause-entry
append_entry-requires-clause-entry g c = (entry.Points (points_of c.args.rises.now), record { within = c.requires.points; is = c.deref.ensures.value ∙ c.in_ok-spell.ensures.ok })

pub returns-in_err-spell-clause-disk : goal.returns-in_err-spell-clause-disk
returns-in_err-spell-clause-disk g c =
    let same = err_is c.from_residual.result Memory c.from_residual.ensures in
    whole_none (of_points (points_of c.args.rises.now)) _ c.from_residual.result (g.D.Disk.state c.args.disk.now) Memory same (λ f. let bad = sym same ∙ f in cc)

pub returns-in_err-ready_entry-clause-disk : goal.returns-in_err-ready_entry-clause-disk
returns-in_err-ready_entry-clause-disk g c =
    let why = c.in_err-ready_entry.field-0.0 in
    let same = err_is c.from_residual-in_err-ready_entry.result why c.from_residual-in_err-ready_entry.ensures in
    whole_nothing (of_points (points_of c.args.rises.now)) _ c.from_residual-in_err-ready_entry.result (g.D.Disk.state c.args.disk.now) (g.D.Disk.state c.ready_entry.new.disk) why same c.ready_entry.ensures.any_moment c.ready_entry.ensures.tells
    (counts_for _ _ _ _ (λ f. err_to c.ready_entry.result c.from_residual-in_err-ready_entry.result why DiskFailed c.in_err-ready_entry.was same f) c.ready_entry.ensures.faults)

pub returns-in_err-hold_new-clause-disk : goal.returns-in_err-hold_new-clause-disk
returns-in_err-hold_new-clause-disk g c =
    let same = err_is c.from_residual-in_err-hold_new.result Memory c.from_residual-in_err-hold_new.ensures in
    whole_nothing (of_points (points_of c.args.rises.now)) _ c.from_residual-in_err-hold_new.result (g.D.Disk.state c.args.disk.now) (g.D.Disk.state c.ready_entry.new.disk) Memory same c.ready_entry.ensures.any_moment c.ready_entry.ensures.tells
    (counts_for _ _ _ _ (λ f. absurd (let bad = sym same ∙ f in cc)) c.ready_entry.ensures.faults)

pub returns-in_err-append_entry-clause-disk : goal.returns-in_err-append_entry-clause-disk
returns-in_err-append_entry-clause-disk g c =
    let a = g.D.Disk.state c.args.disk.now in
    let b = g.D.Disk.state c.ready_entry.new.disk in
    let d = g.D.Disk.state c.append_entry.new.disk in
    let e = entry.Points (points_of c.args.rises.now) in
    let is : IsEntry c.deref.result.now e = record { within = c.requires.points; is = c.deref.ensures.value ∙ c.in_ok-spell.ensures.ok } in
    let same = err_is c.from_residual-in_err-append_entry.result DiskFailed c.from_residual-in_err-append_entry.ensures in
    whole_fault (of_points (points_of c.args.rises.now)) _ c.from_residual-in_err-append_entry.result a d DiskFailed same same
    (whole_after_nothing (of_points (points_of c.args.rises.now)) a b d c.ready_entry.ensures.any_moment c.ready_entry.ensures.tells (λ tells. c.append_entry.ensures.whole e is (c.ready_entry.ensures.tells ∙ tells))) (c.append_entry.ensures.tells ∙ c.ready_entry.ensures.tells)
    (counts_for (IsErr c.append_entry.result) _ _ _ (λ f. subst IsErr (sym c.in_err-append_entry.was) refl) (counts_both _ _ _ _ _ c.ready_entry.ensures.faults c.append_entry.ensures.faults))

pub returns-clause-disk : goal.returns-clause-disk
returns-clause-disk g c =
    let a = g.D.Disk.state c.args.disk.now in
    let b = g.D.Disk.state c.ready_entry.new.disk in
    let d = g.D.Disk.state c.append_entry.new.disk in
    let gain = of_points (points_of c.args.rises.now) in
    let e = entry.Points (points_of c.args.rises.now) in
    let is : IsEntry c.deref.result.now e = record { within = c.requires.points; is = c.deref.ensures.value ∙ c.in_ok-spell.ensures.ok } in
    whole_all gain _ _ a d tt refl (whole_after_nothing gain a b d c.ready_entry.ensures.any_moment c.ready_entry.ensures.tells (λ tells. c.append_entry.ensures.whole e is (c.ready_entry.ensures.tells ∙ tells)))
    (λ tells. steps_after_nothing gain a b d c.ready_entry.ensures.any_moment c.ready_entry.ensures.tells tells (c.in_ok-append_entry.ensures.acknowledged e is (c.ready_entry.ensures.tells ∙ tells))) (c.append_entry.ensures.tells ∙ c.ready_entry.ensures.tells)
    (counts_for (IsErr c.append_entry.result) _ _ _ (λ f. absurd (cc)) (counts_both _ _ _ _ _ c.ready_entry.ensures.faults c.append_entry.ensures.faults))

pub returns-in_err-spell-clause-kept : goal.returns-in_err-spell-clause-kept
returns-in_err-spell-clause-kept g c = λ known tenure fence has fine. has

pub returns-in_err-ready_entry-clause-kept : goal.returns-in_err-ready_entry-clause-kept
returns-in_err-ready_entry-clause-kept g c = λ known tenure fence has fine. c.ready_entry.ensures.kept c.args.held.now known tenure fence has

pub returns-in_err-hold_new-clause-kept : goal.returns-in_err-hold_new-clause-kept
returns-in_err-hold_new-clause-kept g c = λ known tenure fence has fine.
    subst (λ (m : InMemory). IsKeptOn c.ready_entry.new.log m known tenure fence (g.D.Disk.state c.ready_entry.new.disk)) (sym c.in_err-hold_new.ensures.err) (c.ready_entry.ensures.kept c.args.held.now known tenure fence has)

pub returns-in_err-append_entry-clause-kept : goal.returns-in_err-append_entry-clause-kept
returns-in_err-append_entry-clause-kept g c = λ known tenure fence has fine. absurd (fine (err_is c.from_residual-in_err-append_entry.result DiskFailed c.from_residual-in_err-append_entry.ensures))

-- what is in memory then
now_is : (g : Over) (c : goal.After-raise_all g) → c.raise_all.new.held ≡ record { points = joined c.args.held.now.points (points_of c.args.rises.now); room = None }
now_is g c = c.raise_all.ensures ∙ ap (λ (m : _). let n : InMemory = record { points = m; room = None } in n) c.in_ok-hold_new.ensures.same

pub returns-clause-kept : goal.returns-clause-kept
returns-clause-kept g c = λ known tenure fence has fine.
    let memory = c.args.held.now in
    let e = entry.Points (points_of c.args.rises.now) in
    let is : IsEntry c.deref.result.now e = record { within = c.requires.points; is = c.deref.ensures.value ∙ c.in_ok-spell.ensures.ok } in
    let same : memory_with e memory ≡ c.raise_all.new.held = ap (λ (o : _). let m : InMemory = record { points = joined memory.points (points_of c.args.rises.now); room = o } in m) c.requires.room ∙ sym (now_is g c) in
    subst (λ (m : InMemory). IsKeptOn c.append_entry.new.log m known tenure fence (g.D.Disk.state c.append_entry.new.disk)) same
    (kept_for c.append_entry.new.log _ known (max tenure 0) (max fence 0) tenure fence (g.D.Disk.state c.append_entry.new.disk) (omega arith) (omega arith)
    (c.in_ok-append_entry.ensures.kept e is memory known tenure fence (c.ready_entry.ensures.kept memory known tenure fence has)))

pub returns-clause-ok : goal.returns-clause-ok
returns-clause-ok g c = now_is g c

pub returns-in_err-ready_entry-clause-counts : goal.returns-in_err-ready_entry-clause-counts
returns-in_err-ready_entry-clause-counts g c = λ tells fine.
    let why = c.in_err-ready_entry.field-0.0 in
    c.ready_entry.ensures.counts tells (λ f. fine (err_to c.from_residual-in_err-ready_entry.result c.ready_entry.result why DiskFailed (err_is c.from_residual-in_err-ready_entry.result why c.from_residual-in_err-ready_entry.ensures) c.in_err-ready_entry.was f))

pub returns-in_err-hold_new-clause-counts : goal.returns-in_err-hold_new-clause-counts
returns-in_err-hold_new-clause-counts g c = λ tells fine. c.ready_entry.ensures.counts tells (λ f. let was = c.in_ok-ready_entry.was in let bad = f in cc)

pub returns-in_err-append_entry-clause-counts : goal.returns-in_err-append_entry-clause-counts
returns-in_err-append_entry-clause-counts g c = λ tells fine. absurd (fine (err_is c.from_residual-in_err-append_entry.result DiskFailed c.from_residual-in_err-append_entry.ensures))

pub returns-clause-counts : goal.returns-clause-counts
returns-clause-counts g c = λ tells fine missing snapshot has.
    c.in_ok-append_entry.ensures.counts (c.ready_entry.ensures.tells ∙ tells) missing snapshot (c.ready_entry.ensures.counts tells (λ f. let was = c.in_ok-ready_entry.was in let bad = f in cc) missing snapshot has)
