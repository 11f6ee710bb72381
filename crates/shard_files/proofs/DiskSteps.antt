-- The steps of volumes, snapshots and the log, on a disk.
use Rattle.std.proofs.Common.{◌≡◌, List, sym, subst}
use Rattle.commit_log.specs.m3_outside.declared.file_name.FileName.{FileName}
use Rattle.commit_log.specs.m3_outside.Files.{Files}
use Rattle.commit_log.specs.m3_outside.DiskState.{DiskState, IsLawfulDisk}
use Rattle.commit_log.specs.m3_outside.Removal.{MayTakeAway}
use Rattle.commit_log.proofs.m3_outside_proofs.Moments.{elapses_as}
use Rattle.shard_files.specs.StepLaws.{StepsKeep}
use Rattle.shard_files.proofs.NextLemmas.{taken_by_names}
use Rattle.shard_files.proofs.VolumeSteps.{write_keeps, take_keeps}
use Rattle.shard_files.proofs.SnapshotSteps.{save_keeps, clear_keeps}
use Rattle.shard_files.proofs.CutSteps.{cut_keeps}

-- names taken from one map of files are those of another
take_as : (ms ns : List FileName) (x y : Files) → ms ≡ ns → MayTakeAway ns x y → MayTakeAway ms x y
take_as ms ns x y same takes = subst (λ l. MayTakeAway l x y) (sym same) takes

module _ {D : Type 0} (state : D → DiskState) (lawful : (d : D) → IsLawfulDisk (state d)) where
  pub steps_keep : StepsKeep state
  steps_keep = record {
    written = λ old new kept v rows tells each goes. elapses_as (state old) (state new) (λ x y image step. write_keeps kept v rows x y (each tells x image) step) goes;
    taken = λ old new kept ns start number tells each goes. elapses_as (state old) (state new) (λ x y image step.
        take_keeps kept ns start number x y (each tells x image) (take_as _ _ x y (taken_by_names.volume ns start number (state old).files x ((lawful old).same_names tells x image)) step)) goes;
    saved = λ old new kept s tells each goes. elapses_as (state old) (state new) (λ x y image step. save_keeps kept s x y (each tells x image) step) goes;
    cut = λ old new kept number tells each goes. elapses_as (state old) (state new) (λ x y image step.
        cut_keeps kept number x y (each tells x image) (take_as _ _ x y (taken_by_names.segments number (state old).files x ((lawful old).same_names tells x image)) step)) goes;
    cleared = λ old new kept number tells each goes. elapses_as (state old) (state new) (λ x y image step.
        clear_keeps kept number x y (each tells x image) (take_as _ _ x y (taken_by_names.snapshots number (state old).files x ((lawful old).same_names tells x image)) step)) goes;
  }
