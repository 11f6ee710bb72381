-- What a call brings to the files of a replica as a whole, or not at all, wherever a stop falls.
use Rattle.std.specs.Prelude.{◌≡◌, ◌⊎◌, ℕ, true, List, Result, OnOk, OnErr}
use Rattle.m3_model.specs.declared.point.Point.{Point}
use Rattle.m3_outside.specs.Causes.{CountsFaults}
use Rattle.m3_outside.specs.Files.{Files}
use Rattle.m3_outside.specs.DiskState.{DiskState, StepOf, Elapses}
use Rattle.joined_reads.specs.listed_volumes.shard_files.FilesHold.{FilesHold}
use Rattle.joined_reads.specs.listed_volumes.shard_files.Gains.{Gain, Gains, HoldsAll, nothing}
use Rattle.joined_reads.specs.listed_volumes.shard_files.Parts.{AreWhole}

-- points alone
abbrev pub of_points : List Point → Gain
of_points points = record { points = points; tenure = 0; fence = 0 }

-- From files that hold something to files that hold just this, or this and all of the gain. Where each snapshot that counts was whole, each is.
pub record GainsOrNot (gain : Gain) (old new : Files) : Type 0 where
  pub held : (before : List Point) (tenure fence : ℕ) → FilesHold before tenure fence old → HoldsAll before tenure fence nothing new ⊎ HoldsAll before tenure fence gain new
  pub snapshots : AreWhole old → AreWhole new

-- What a call does to the disk that brings something to its files as a whole. A stop at any moment since it began leaves all of it or nothing; once it
-- answered Ok, all of it; where it was refused but for a fault, nothing. It failed only where the count of faults rose.
pub record BringsWhole {X E : Type 0} (gain : Gain) (failed : Type 0) (result : Result X E) (old new : DiskState) : Type 0 where
  pub any_moment : old.tells ≡ true → Elapses (GainsOrNot gain) old new
  pub acknowledged : old.tells ≡ true → OnOk result ((c : Files) → new.images c → StepOf (Gains gain) old.images c)
  pub unchanged : old.tells ≡ true → OnErr result ((failed → ⊥) → (c : Files) → new.images c → StepOf (Gains nothing) old.images c)
  pub tells : new.tells ≡ old.tells
  pub faults : CountsFaults failed old.faults new.faults
