use Rattle.std.proofs.Common.{◌++◌, [], ◌∷◌, List, ℕ, max, ◌∙◌, ap, sym, refl, subst, arith}
use Rattle.std.specs.Prelude.{⊤, IsErr, IsErrOf}
use Rattle.store_log.specs.listed_volumes.wire_bytes.Entries.{points_entry}
use Rattle.m3_model.specs.Contents.{key_of, raised}
use Rattle.std.specs.Prelude.{Some}
use Rattle.m3_outside.specs.Causes.{CountsFaults}
use Rattle.m3_outside.specs.declared.disk_err.DiskErr.TheVariants.{Memory, Failed as DiskFailed}
use Rattle.store_log.specs.listed_volumes.block_buffer.Held.{InMemory}
use Rattle.store_log.specs.listed_volumes.shard_files.Gains.{a_point}
use Rattle.store_log.specs.listed_volumes.shard_files.declared.entries.LogEntry.TheVariants as entry
use Rattle.shard_store.specs.Stores.{IsKeptOn, joined_with}
use Rattle.store_log.specs.listed_volumes.shard_files.FilesHold.{volume_points}
use Rattle.shard_store.proofs.PointLemmas.{joined_raised}
use Rattle.store_log.specs.listed_volumes.Listed.{known_in}
use Rattle.store_log.proofs.LogStepLemmas.{counted_on}
use Rattle.store_log.proofs.LogStepLemmas.{one_bounded, err_is, brings_none, brings_nothing, brings_fault, brings_all, after_nothing, steps_after_nothing, kept_for, memory_put}
use Rattle.shard_store.proofs.Counts.{counts_both, counts_for}
use Rattle.shard_store.proofs.opened.Opened.put.Goals as goal

pub returns-in_err-put_points-clause-disk : goal.returns-in_err-put_points-clause-disk
returns-in_err-put_points-clause-disk g c = brings_none (a_point c.args.point.now) c.from_residual.result (g.D.Disk.state c.args.disk.now) (err_is c.from_residual.result Memory c.from_residual.ensures)

pub returns-in_err-room-clause-disk : goal.returns-in_err-room-clause-disk
returns-in_err-room-clause-disk g c = brings_none (a_point c.args.point.now) c.from_residual-in_err-room.result (g.D.Disk.state c.args.disk.now) (err_is c.from_residual-in_err-room.result Memory c.from_residual-in_err-room.ensures)

pub returns-in-Err-clause-disk : goal.returns-in-Err-clause-disk
returns-in-Err-clause-disk g c =
    brings_nothing (a_point c.args.point.now) _ c.in-Err.why (g.D.Disk.state c.args.disk.now) (g.D.Disk.state c.ready_entry.new.disk) refl c.ready_entry.ensures.any_moment c.ready_entry.ensures.tells
    (subst (λ r. CountsFaults (IsErrOf r DiskFailed) (g.D.Disk.state c.args.disk.now).faults (g.D.Disk.state c.ready_entry.new.disk).faults) c.in-Err.is c.ready_entry.ensures.faults)

pub append_entry-requires-clause-entry : goal.append_entry-requires-clause-entry
append_entry-requires-clause-entry g c = (entry.Points (c.args.point.now ∷ []), record { within = one_bounded c.args.point.now c.requires.bounded; is = c.deref.ensures.value ∙ c.in_ok-put_points.ensures.ok ∙ ap (λ (l : List ℕ). l ++ points_entry (c.args.point.now ∷ [])) c.clear.ensures.items })

pub returns-in_err-append_entry-clause-disk : goal.returns-in_err-append_entry-clause-disk
returns-in_err-append_entry-clause-disk g c =
    brings_fault (a_point c.args.point.now) c.from_residual-in_err-append_entry.result (g.D.Disk.state c.args.disk.now) (g.D.Disk.state c.append_entry.new.disk) (err_is c.from_residual-in_err-append_entry.result DiskFailed c.from_residual-in_err-append_entry.ensures)
    (after_nothing (a_point c.args.point.now) (g.D.Disk.state c.args.disk.now) (g.D.Disk.state c.ready_entry.new.disk) (g.D.Disk.state c.append_entry.new.disk) c.ready_entry.ensures.any_moment c.ready_entry.ensures.tells (λ tells. c.append_entry.ensures.any_moment (entry.Points (c.args.point.now ∷ [])) (record { within = one_bounded c.args.point.now c.requires.bounded; is = c.deref.ensures.value ∙ c.in_ok-put_points.ensures.ok ∙ ap (λ (l : List ℕ). l ++ points_entry (c.args.point.now ∷ [])) c.clear.ensures.items }) (c.ready_entry.ensures.tells ∙ tells)))
    (c.append_entry.ensures.tells ∙ c.ready_entry.ensures.tells)
    (counts_for (IsErr c.append_entry.result) ⊤ _ _ (λ u. subst IsErr (sym c.in_err-append_entry.was) refl) (counts_both _ _ _ _ _ c.ready_entry.ensures.faults c.append_entry.ensures.faults))

pub returns-clause-disk : goal.returns-clause-disk
returns-clause-disk g c =
    brings_all (a_point c.args.point.now) tt (g.D.Disk.state c.args.disk.now) (g.D.Disk.state c.append_entry.new.disk)
    (after_nothing (a_point c.args.point.now) (g.D.Disk.state c.args.disk.now) (g.D.Disk.state c.ready_entry.new.disk) (g.D.Disk.state c.append_entry.new.disk) c.ready_entry.ensures.any_moment c.ready_entry.ensures.tells (λ tells. c.append_entry.ensures.any_moment (entry.Points (c.args.point.now ∷ [])) (record { within = one_bounded c.args.point.now c.requires.bounded; is = c.deref.ensures.value ∙ c.in_ok-put_points.ensures.ok ∙ ap (λ (l : List ℕ). l ++ points_entry (c.args.point.now ∷ [])) c.clear.ensures.items }) (c.ready_entry.ensures.tells ∙ tells)))
    (λ tells. steps_after_nothing (a_point c.args.point.now) (g.D.Disk.state c.args.disk.now) (g.D.Disk.state c.ready_entry.new.disk) (g.D.Disk.state c.append_entry.new.disk) c.ready_entry.ensures.any_moment c.ready_entry.ensures.tells tells (c.in_ok-append_entry.ensures.acknowledged (entry.Points (c.args.point.now ∷ [])) (record { within = one_bounded c.args.point.now c.requires.bounded; is = c.deref.ensures.value ∙ c.in_ok-put_points.ensures.ok ∙ ap (λ (l : List ℕ). l ++ points_entry (c.args.point.now ∷ [])) c.clear.ensures.items }) (c.ready_entry.ensures.tells ∙ tells)))
    (c.append_entry.ensures.tells ∙ c.ready_entry.ensures.tells)
    (counts_for (IsErr c.append_entry.result) ⊥ _ _ (λ none. absurd none) (counts_both _ _ _ _ _ c.ready_entry.ensures.faults c.append_entry.ensures.faults))

pub returns-clause-kept : goal.returns-clause-kept
returns-clause-kept g c = λ fine.
    let memory = c.args.self.now.held in
    let tenure = c.args.self.now.tenure in
    let fence = c.args.self.now.fence in
    let known = known_in c.args.self.now.volumes.items in
    let is = memory_put memory c.room.new.self c.put.new.self c.args.point.now (Some (key_of c.args.point.now)) c.requires.kept.at_rest c.in_ok-room.ensures.ok c.put.ensures in
    subst (λ (m : InMemory). IsKeptOn c.append_entry.new.log m known tenure fence (g.D.Disk.state c.append_entry.new.disk)) is
    (kept_for c.append_entry.new.log _ known (max tenure 0) (max fence 0) tenure fence (g.D.Disk.state c.append_entry.new.disk) (omega arith) (omega arith)
    (c.in_ok-append_entry.ensures.kept (entry.Points (c.args.point.now ∷ [])) (record { within = one_bounded c.args.point.now c.requires.bounded; is = c.deref.ensures.value ∙ c.in_ok-put_points.ensures.ok ∙ ap (λ (l : List ℕ). l ++ points_entry (c.args.point.now ∷ [])) c.clear.ensures.items }) memory known tenure fence (c.ready_entry.ensures.kept memory known tenure fence c.requires.kept)))

pub returns-clause-content : goal.returns-clause-content
returns-clause-content g c =
    let ks = known_in c.args.self.now.volumes.items in
    let p = c.args.point.now in
    ap (λ (m : InMemory). joined_with m.points ks) c.put.ensures ∙ ap (λ (m : InMemory). joined_with (raised m.points p) ks) c.in_ok-room.ensures.ok ∙ joined_raised c.args.self.now.held.points p (volume_points ks)

pub returns-in_err-put_points-clause-counted : goal.returns-in_err-put_points-clause-counted
returns-in_err-put_points-clause-counted g c = λ fine has. has

pub returns-in_err-room-clause-counted : goal.returns-in_err-room-clause-counted
returns-in_err-room-clause-counted g c = λ fine has. has

pub returns-in-Err-clause-counted : goal.returns-in-Err-clause-counted
returns-in-Err-clause-counted g c = λ fine.
    let s = c.args.self.now in
    counted_on s.log c.ready_entry.new.log s.counts.missing s.counts.snapshot (g.D.Disk.state c.args.disk.now) (g.D.Disk.state c.ready_entry.new.disk) c.ready_entry.ensures.tells (λ tells. c.ready_entry.ensures.counts tells (λ f. fine (sym c.in-Err.is ∙ f)))

pub returns-in_err-append_entry-clause-counted : goal.returns-in_err-append_entry-clause-counted
returns-in_err-append_entry-clause-counted g c = λ fine. absurd (fine (err_is c.from_residual-in_err-append_entry.result DiskFailed c.from_residual-in_err-append_entry.ensures))

pub returns-clause-counted : goal.returns-clause-counted
returns-clause-counted g c = λ fine has.
    let s = c.args.self.now in
    let a = g.D.Disk.state c.args.disk.now in
    let b = g.D.Disk.state c.ready_entry.new.disk in
    counted_on c.ready_entry.new.log c.append_entry.new.log s.counts.missing s.counts.snapshot b (g.D.Disk.state c.append_entry.new.disk) c.append_entry.ensures.tells c.in_ok-append_entry.ensures.counts
    (counted_on s.log c.ready_entry.new.log s.counts.missing s.counts.snapshot a b c.ready_entry.ensures.tells (λ tells. c.ready_entry.ensures.counts tells (λ f. let is = c.in_default.is in let bad = f in cc)) has)
