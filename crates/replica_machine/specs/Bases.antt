-- What stands in files over which a machine was made, until its replica begins.
use Rattle.std.specs.Prelude.{◌≡◌, ◌⊎◌, ⊤, ℕ, ◌≤◌, max, List}
use Rattle.m3_model.specs.Members.{IsIn}
use Rattle.m3_model.specs.declared.point.Point.{Point}
use Rattle.m3_outside.specs.Files.{Files}
use Rattle.m3_outside.specs.DiskState.{StepOf}
use Rattle.shard_store.specs.shard_files.FilesHold.{FilesHold}
use Rattle.shard_store.specs.shard_files.Once.{HaveSamePoints, IsEachOnce}
use Rattle.cluster_core.specs.declared.event.StepCall.{StepCall}
use Rattle.cluster_core.specs.declared.event.StepCall.TheVariants as call
use Rattle.cluster_core.specs.declared.event.StepReply.{StepReply}
use Rattle.cluster_core.specs.declared.event.StepReply.TheVariants as reply

-- The files hold these points and no others. Their tenure and their fence are these, both raised to one of the tenures with which a replica was to begin, or
-- neither to any.
pub record HoldsTried (before : List Point) (tenure fence : ℕ) (tried : List ℕ) (files : Files) : Type 0 where
  pub points : List Point
  pub raised_to : ℕ  -- 0 for none
  pub one_of : (raised_to ≡ 0) ⊎ IsIn tried raised_to
  pub held : FilesHold points (max tenure raised_to) (max fence raised_to) files
  pub same : HaveSamePoints points before

-- from files that hold something to files that hold this, and at most a tenure that was tried
abbrev pub MayHaveTried : List ℕ → Files → Files → Type 0
MayHaveTried tried old new = (before : List Point) (tenure fence : ℕ) → FilesHold before tenure fence old → HoldsTried before tenure fence tried new

-- Files that came from one of these files, where no begin was done since and these tenures were tried.
abbrev pub CameFrom : (Files → Type 0) → List ℕ → Files → Type 0
CameFrom base tried files = StepOf (MayHaveTried tried) base files

-- What a replica begins with that never began: the points of files that came from one of these, each once and in order. The files' tenure isn't above its
-- own, and its fence is theirs, or its tenure where that is higher.
pub record OpensFrom (base : Files → Type 0) (tried : List ℕ) (tenure fence : ℕ) (points : List Point) : Type 0 where
  pub files : Files
  pub came : CameFrom base tried files
  pub all : List Point
  pub tenure_found : ℕ
  pub fence_found : ℕ
  pub held : FilesHold all tenure_found fence_found files
  pub once : IsEachOnce all points
  pub not_higher : tenure_found ≤ tenure
  pub fence_is : fence ≡ max fence_found tenure

-- a replica that never began does so only with that
abbrev pub HasOpening : (Files → Type 0) → List ℕ → StepCall → StepReply → Type 0
HasOpening base tried (call.Begin tenure) (reply.Began fence points) = OpensFrom base tried tenure fence points
HasOpening base tried _ _ = ⊤
