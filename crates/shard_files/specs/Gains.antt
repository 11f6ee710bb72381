-- What a call brings to the files of a replica, wherever a stop falls.
use Rattle.std.specs.Prelude.{◌≡◌, ◌⊎◌, ⊤, ℕ, max, true, List, [], ◌∷◌, Result, OnOk, IsErrOf}
use Rattle.commit_log.specs.m3_model.Members.{IsIn}
use Rattle.commit_log.specs.m3_model.Reads.{Covers}
use Rattle.commit_log.specs.m3_model.declared.point.Point.{Point}
use Rattle.commit_log.specs.m3_outside.Causes.{CountsFaults}
use Rattle.commit_log.specs.m3_outside.Files.{Files}
use Rattle.commit_log.specs.m3_outside.DiskState.{DiskState, StepOf, Elapses}
use Rattle.commit_log.specs.m3_outside.declared.disk_err.DiskErr.{DiskErr}
use Rattle.commit_log.specs.m3_outside.declared.disk_err.DiskErr.TheVariants.{Failed as DiskFailed, Memory as WantOfMemory}
use Rattle.shard_files.specs.Parts.{AreWhole}
use Rattle.shard_files.specs.FilesHold.{FilesHold}

-- what a call brings: points, and a tenure and a fence, 0 for none
pub record Gain : Type 0 where
  pub points : List Point
  pub tenure : ℕ
  pub fence : ℕ

abbrev pub nothing : Gain
nothing = record { points = []; tenure = 0; fence = 0 }

abbrev pub a_point : Point → Gain
a_point p = record { points = p ∷ []; tenure = 0; fence = 0 }

abbrev pub a_fence : ℕ → Gain
a_fence fence = record { points = []; tenure = 0; fence = fence }

-- a tenure is a fence too
abbrev pub a_tenure : ℕ → Gain
a_tenure tenure = record { points = []; tenure = tenure; fence = tenure }

-- No file point is neither from before nor of the gain, and each from before is there.
pub record Grows (before : List Point) (gain : Gain) (points : List Point) : Type 0 where
  pub nothing_else : (p : Point) → IsIn points p → IsIn before p ⊎ IsIn gain.points p
  pub stays : (p : Point) → IsIn before p → IsIn points p

-- the files hold what was there and all of the gain
pub record HoldsAll (before : List Point) (tenure fence : ℕ) (gain : Gain) (files : Files) : Type 0 where
  pub points : List Point
  pub held : FilesHold points (max tenure gain.tenure) (max fence gain.fence) files
  pub grows : Grows before gain points
  pub comes : (p : Point) → IsIn gain.points p → Covers points p

-- the files hold what was there and part of the gain
pub record HoldsPart (before : List Point) (tenure fence : ℕ) (gain : Gain) (files : Files) : Type 0 where
  pub points : List Point
  pub tenure_now : ℕ
  pub fence_now : ℕ
  pub held : FilesHold points tenure_now fence_now files
  pub grows : Grows before gain points
  pub numbers : ((tenure_now ≡ tenure) × (fence_now ≡ fence)) ⊎ ((tenure_now ≡ max tenure gain.tenure) × (fence_now ≡ max fence gain.fence))

-- From files that hold something to files that hold this and all of the gain. Where each snapshot that counts was whole, each is.
pub record Gains (gain : Gain) (old new : Files) : Type 0 where
  pub held : (before : List Point) (tenure fence : ℕ) → FilesHold before tenure fence old → HoldsAll before tenure fence gain new
  pub snapshots : AreWhole old → AreWhole new

-- the same with part of the gain
pub record MayGain (gain : Gain) (old new : Files) : Type 0 where
  pub held : (before : List Point) (tenure fence : ℕ) → FilesHold before tenure fence old → HoldsPart before tenure fence gain new
  pub snapshots : AreWhole old → AreWhole new

-- What a call does to the disk that brings something to its files. A stop at any moment since it began leaves part of it; once it answered Ok, all of
-- it; where memory was wanted, nothing. It failed only where the count of faults rose.
pub record Brings (gain : Gain) (result : Result ⊤ DiskErr) (old new : DiskState) : Type 0 where
  pub any_moment : old.tells ≡ true → Elapses (MayGain gain) old new
  pub acknowledged : old.tells ≡ true → OnOk result ((c : Files) → new.images c → StepOf (Gains gain) old.images c)
  pub unchanged : old.tells ≡ true → IsErrOf result WantOfMemory → (c : Files) → new.images c → StepOf (Gains nothing) old.images c
  pub tells : new.tells ≡ old.tells
  pub faults : CountsFaults (IsErrOf result DiskFailed) old.faults new.faults
