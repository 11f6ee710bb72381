-- How a machine begins a tenure.
use Rattle.std.specs.Prelude.{◌≡◌, ◌⊎◌, ⊤, ℕ, ◌<◌, ◌≤◌, max, true, [], List, Some}
use Rattle.m3_model.specs.Contents.{Contents, content_of}
use Rattle.m3_model.specs.declared.point.Point.{Point}
use Rattle.m3_model.specs.declared.reason.Reason.{Reason}
use Rattle.m3_model.specs.declared.reason.Reason.TheVariants as reason
use Rattle.m3_model.specs.declared.replica.Standing.TheVariants as standing
use Rattle.m3_outside.specs.Files.{Files}
use Rattle.m3_outside.specs.DiskState.{DiskState, Told}
use Rattle.shard_store.specs.block_buffer.Taken.{settled_with}
use Rattle.shard_store.specs.shard_files.Parts.{KnownVolume, VolumesAre}
use Rattle.shard_store.specs.shard_files.FilesHold.{FilesHold, volume_points}
use Rattle.shard_store.specs.shard_files.Once.{HeldOnce}
use Rattle.shard_store.specs.shard_files.Damage.{OfForm, OfDigest}
use Rattle.shard_store.specs.shard_files.declared.load_err.LoadErr.{LoadErr}
use Rattle.shard_store.specs.shard_files.declared.load_err.LoadErr.TheVariants as failures
use Rattle.replica_machine.specs.Damages.{told_of}
use Rattle.replica_machine.specs.Machines.{MachineState, shut_machine}
use Rattle.replica_machine.specs.declared.machine.Began.{Began}

-- these are the points, joined, that are above each of a volume of the files at their key
pub record AreBesideVolumes (points : List Point) (buffered : Contents) (files : Files) : Type 0 where
  pub known : List KnownVolume
  pub are : VolumesAre known files
  pub is : buffered ≡ settled_with (content_of points) (volume_points known)

-- From Boot: open with what the files hold, each point once and in order, of which the tenure isn't higher. Those of them that no volume has are in memory.
pub record BeganFrom {D : Type 0} (state : D → DiskState) (tenure : ℕ) (old new : MachineState D) (began : Began) : Type 0 where
  pub tenure_found : ℕ
  pub fence_found : ℕ
  pub held : Told (state old.disk) (HeldOnce began.points tenure_found fence_found)
  pub not_higher : tenure_found ≤ tenure
  pub fence_is : began.fence ≡ max fence_found tenure
  pub new_is : new ≡ record { standing = standing.Open; tenure = Some tenure; begun = tenure; fence = began.fence; buffered = new.buffered; content = new.content; disk = new.disk; work = old.work }
  pub content : (state old.disk).tells ≡ true → new.content ≡ content_of began.points
  pub buffered : Told (state old.disk) (AreBesideVolumes began.points new.buffered)

-- of an open machine: with the tenure, and a fence not below it
pub record BeganAgain {D : Type 0} (tenure : ℕ) (old new : MachineState D) (began : Began) : Type 0 where
  pub no_points : began.points ≡ []
  pub fence_is : began.fence ≡ max old.fence tenure
  pub new_is : new ≡ record old { tenure = Some tenure; begun = tenure; fence = began.fence; disk = new.disk }

-- the files hold a higher tenure
pub record HoldsHigher (tenure : ℕ) (files : Files) : Type 0 where
  pub points : List Point
  pub held_tenure : ℕ
  pub fence : ℕ
  pub held : FilesHold points held_tenure fence files
  pub higher : tenure < held_tenure

-- a higher tenure was begun, or the files hold one
abbrev pub MayBeUnowned : {D : Type 0} → (D → DiskState) → ℕ → MachineState D → Type 0
MayBeUnowned state tenure m = (tenure < m.begun) ⊎ Told (state m.disk) (HoldsHigher tenure)

-- the refusal of files that couldn't be read: a fault, want of memory, or damage, of which memory may be wanted to tell
abbrev pub MayNotLoad : LoadErr → Reason → Type 0
MayNotLoad failures.Disk why = why ≡ reason.Disk
MayNotLoad failures.Memory why = why ≡ reason.Memory
MayNotLoad (failures.Digest name kept found) why = (why ≡ reason.Memory) ⊎ (why ≡ reason.Corrupt (told_of (OfDigest name kept found)))
MayNotLoad (failures.Form name at) why = (why ≡ reason.Memory) ⊎ (why ≡ reason.Corrupt (told_of (OfForm name at)))

-- a fault or damage closes the machine, and each other refusal leaves it
abbrev pub IsRefused : {D : Type 0} → MachineState D → MachineState D → Reason → Type 0
IsRefused old new reason.Disk = new ≡ shut_machine standing.Down old new.disk
IsRefused old new (reason.Corrupt damage) = new ≡ shut_machine standing.Down old new.disk
IsRefused old new _ = new ≡ record old { disk = new.disk }

-- the reasons for which a begin may be refused
abbrev pub IsBootReason : Reason → Type 0
IsBootReason reason.Down = ⊤
IsBootReason reason.NotOwned = ⊤
IsBootReason reason.Disk = ⊤
IsBootReason (reason.Corrupt damage) = ⊤
IsBootReason reason.Memory = ⊤
IsBootReason _ = ⊥
