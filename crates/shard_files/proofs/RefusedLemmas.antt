-- Files that hold nothing, since what counts lacks one of its files.
use Rattle.std.proofs.Common.{◌≡◌, inl, inr, refl, sym, ap, ◌∙◌, true, false, None}
use Rattle.std.specs.FinMap.{get}
use Rattle.commit_log.specs.m3_outside.declared.file_name.FileName.{FileName}
use Rattle.commit_log.specs.m3_outside.Files.{files_without}
use Rattle.commit_log.proofs.m3_outside_proofs.Names.{get_gone, get_stays}
use Rattle.commit_log.specs.wire_bytes.Volumes.{Part, Info, Summaries, Index, Data, Bloom, Digests, Checkpoint}
use Rattle.shard_files.specs.Parts.{is_open, part_name, part_of, kind_of, is_volume_checkpoint, counted_volumes, is_snapshot_checkpoint, snapshot_data, snapshot_checkpoint}
use Rattle.shard_files.specs.StepLaws.{DoneIsStep, ClosedIsUncounted, VolumeNeedsItsFiles, CheckpointGoesFirst, SnapshotNeedsItsData}
use Rattle.shard_files.proofs.CountedLemmas.{counted_open, is_counted}
use Rattle.shard_files.proofs.VolumeSteps.{of_name, same_volume}

pub closed_is_uncounted : ClosedIsUncounted
closed_is_uncounted ns start number files closed m =
    let open_ = counted_open is_volume_checkpoint files (part_name Checkpoint ns start number) m in
    let never : false ≡ true = sym closed ∙ open_ in
    cc

pub volume_needs_its_files : VolumeNeedsItsFiles
volume_needs_its_files ns start number part files open_ gone points tenure fence held =
    let name = part_name Checkpoint ns start number in
    let k = of_name files (counted_volumes files) held.parts.volumes held.holds.volumes name (is_counted is_volume_checkpoint files name refl open_) in
    let there = k.2.holds.parts part in
    let same = same_volume Checkpoint Checkpoint ns start number k.0.head (sym k.2.named) part in
    let none : get files (part_of part k.0.head) ≡ None = ap (get files) same ∙ gone in
    cc

apart_kinds : (part : Part) → (part ≡ Checkpoint → ⊥) → kind_of part ≡ 7 → ⊥
apart_kinds Info apart e = cc
apart_kinds Summaries apart e = cc
apart_kinds Index apart e = cc
apart_kinds Data apart e = cc
apart_kinds Bloom apart e = cc
apart_kinds Digests apart e = cc
apart_kinds Checkpoint apart e = apart refl

pub checkpoint_goes_first : CheckpointGoesFirst
checkpoint_goes_first ns start number part files apart open_ sound =
    let name = part_name part ns start number in
    let stays : get (files_without name files) (part_name Checkpoint ns start number) ≡ get files (part_name Checkpoint ns start number) = get_stays files name (part_name Checkpoint ns start number) (λ e. apart_kinds part apart (sym (ap (λ (q : FileName). q.kind) e))) in
    volume_needs_its_files ns start number part (files_without name files) (ap is_open stays ∙ open_) (get_gone files name) sound.points sound.tenure sound.fence sound.whole.held

pub snapshot_needs_its_data : SnapshotNeedsItsData
snapshot_needs_its_data number files open_ gone sound =
    let name = snapshot_checkpoint number in
    let w = sound.whole.snapshots name (is_counted is_snapshot_checkpoint files name refl open_) in
    let same : w.snapshot.number ≡ number = sym (ap (λ (q : FileName). q.number) w.named) in
    let there = w.holds.body in
    let none : get files (snapshot_data w.snapshot.number) ≡ None = ap (λ n. get files (snapshot_data n)) same ∙ gone in
    cc

-- ---- what is done

pub done_is_step : DoneIsStep
done_is_step = record {
  wrote = λ v rows x y done. (record { others = done.others; either = inr done.holds }, is_counted is_volume_checkpoint y (part_of Checkpoint v) refl (ap is_open (done.holds.parts Checkpoint)));
  wrote_none = λ v rows x y done. (record { others = done.others; either = inl done.closed }, closed_is_uncounted v.ns v.start v.number y done.closed);
  saved = λ s x y done. (record { others = done.others; either = inr done.holds }, is_counted is_snapshot_checkpoint y (snapshot_checkpoint s.number) refl (ap is_open done.holds.checkpoint));
  saved_none = λ s x y done. (record { others = done.others; either = inl done.closed }, λ m. let open_ = counted_open is_snapshot_checkpoint y (snapshot_checkpoint s.number) m in let never : false ≡ true = sym done.closed ∙ open_ in cc);
}
