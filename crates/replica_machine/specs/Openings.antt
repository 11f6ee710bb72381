-- What a machine's disk holds, and with what its replica first begins, by the disk over which the machine was made. Each image of that disk is sound.
use Rattle.std.specs.Prelude.{◌≡◌, ◌⊎◌, ℕ, ◌≤◌, true, List, [], ◌∷◌, ◌++◌}
use Rattle.std.specs.List.{Any}
use Rattle.m3_model.specs.Members.{IsIn}
use Rattle.m3_model.specs.declared.point.Point.{Point}
use Rattle.m3_outside.specs.Files.{Files}
use Rattle.m3_outside.specs.DiskState.{DiskState, EachImage}
use Rattle.shard_store.specs.shard_files.FilesHold.{FilesHold, IsSound, AreSound}
use Rattle.shard_store.specs.shard_files.Once.{HaveSamePoints, IsEachOnce}
use Rattle.cluster_core.specs.Replicas.{after}
use Rattle.cluster_core.specs.Rows.{LawfulStep}
use Rattle.cluster_core.specs.declared.event.Event.{Event}
use Rattle.cluster_core.specs.declared.event.StepCall.{StepCall}
use Rattle.cluster_core.specs.declared.event.StepCall.TheVariants as call
use Rattle.cluster_core.specs.declared.event.StepReply.{StepReply}
use Rattle.cluster_core.specs.declared.event.StepReply.TheVariants as reply
use Rattle.cluster_core.specs.declared.replica_state.ReplicaState.{ReplicaState}
use Rattle.replica_machine.specs.Bases.{HasOpening}
use Rattle.replica_machine.specs.Machines.{MachineState, IsMachineOf}
use Rattle.replica_machine.specs.Steps.{IsGiven, IsStep}

-- each of these files is sound
abbrev pub AllSound : (Files → Type 0) → Type 0
AllSound base = (c : Files) → base c → IsSound c

-- the number isn't above this one, or above one of these
abbrev pub IsUpTo : ℕ → List ℕ → ℕ → Type 0
IsUpTo base tried n = (n ≤ base) ⊎ Any (λ t. n ≤ t) tried

-- Files that hold the points of one of these files and no others. Their tenure and their fence aren't above its own and the tenures with which a replica
-- was to begin, and not below its own.
pub record HoldAsMade (base : Files → Type 0) (tried : List ℕ) (files : Files) : Type 0 where
  pub before : Files
  pub was : base before
  pub points_before : List Point
  pub tenure_before : ℕ
  pub fence_before : ℕ
  pub held_before : FilesHold points_before tenure_before fence_before before
  pub points : List Point
  pub tenure : ℕ
  pub fence : ℕ
  pub held : FilesHold points tenure fence files
  pub same : HaveSamePoints points points_before
  pub tenure_low : tenure_before ≤ tenure
  pub tenure_up : IsUpTo tenure_before tried tenure
  pub fence_low : fence_before ≤ fence
  pub fence_up : IsUpTo fence_before tried fence

-- until a machine's replica began, each stop leaves such files
abbrev pub StaysAsMade : {D : Type 0} → (D → DiskState) → Type 0
StaysAsMade {D} state =
    (first : D) (r : ReplicaState) (m : MachineState D) → AllSound (state first).images → IsMachineOf state (state first).images r m → r.begun ≡ [] → EachImage (state m.disk) (HoldAsMade (state first).images r.tried)

-- One of these files holds these points, here each once and in order. The fence isn't above its own and the tenures with which the replica was to begin.
pub record BeginsAsMade (base : Files → Type 0) (tried : List ℕ) (fence : ℕ) (points : List Point) : Type 0 where
  pub before : Files
  pub was : base before
  pub points_before : List Point
  pub tenure_before : ℕ
  pub fence_before : ℕ
  pub held_before : FilesHold points_before tenure_before fence_before before
  pub once : IsEachOnce points_before points
  pub fence_up : IsUpTo fence_before tried fence

-- so does a replica that begins and never began
abbrev pub FirstBeginIsAsMade : {D : Type 0} → (D → DiskState) → Type 0
FirstBeginIsAsMade {D} state =
    (first : D) (r : ReplicaState) (tenure fence : ℕ) (points : List Point) (old new : MachineState D) → AllSound (state first).images → (state old.disk).tells ≡ true → IsMachineOf state (state first).images r old → r.begun ≡ []
    → IsStep state old (call.Begin tenure) (reply.Began fence points) new → BeginsAsMade (state first).images (r.tried ++ tenure ∷ []) fence points

-- The files are sound. Their tenure is one of these, or not above that of one of these files.
pub record HasTenureUpTo (base : Files → Type 0) (tenures : List ℕ) (files : Files) : Type 0 where
  pub points : List Point
  pub tenure : ℕ
  pub fence : ℕ
  pub held : FilesHold points tenure fence files
  pub up : Any (λ t. tenure ≤ t) tenures ⊎ ((before : Files) × (points_before : List Point) × (tenure_before : ℕ) × (fence_before : ℕ) × base before × FilesHold points_before tenure_before fence_before before × (tenure ≤ tenure_before))

-- each stop leaves files with a tenure that isn't above that of an image of the disk over which the machine was made and those with which its replica began
-- or was to begin
abbrev pub TenuresAreKnown : {D : Type 0} → (D → DiskState) → Type 0
TenuresAreKnown {D} state =
    (first : D) (r : ReplicaState) (m : MachineState D) → AllSound (state first).images → IsMachineOf state (state first).images r m → EachImage (state m.disk) (HasTenureUpTo (state first).images (r.begun ++ r.tried))

-- where each file that counts was in its grammar when the machine was made, also in an older snapshot, it is so in what each stop leaves
abbrev pub StaysSound : {D : Type 0} → (D → DiskState) → Type 0
StaysSound {D} state = (first : D) (r : ReplicaState) (m : MachineState D) → ((c : Files) → (state first).images c → AreSound c) → IsMachineOf state (state first).images r m → EachImage (state m.disk) AreSound

-- What a step says of a machine by the disk over which it was made holds by whatever files these are: here by a list of them.
pub record StepsOverFiles {D : Type 0} (state : D → DiskState) : Type 0 where
  pub lawful : (all : List Files) (r : ReplicaState) (old new : MachineState D) (c : StepCall) (a : StepReply) → IsStep state old c a new → IsMachineOf state (IsIn all) r old → (past : List Event) (n s : ℕ) → IsGiven past n s c → LawfulStep (state old.disk).tells past n s r c a
  pub follows : (all : List Files) (r : ReplicaState) (old new : MachineState D) (c : StepCall) (a : StepReply) → IsStep state old c a new → IsMachineOf state (IsIn all) r old → IsMachineOf state (IsIn all) (after r c a) new
  pub opens : (all : List Files) (r : ReplicaState) (old new : MachineState D) (c : StepCall) (a : StepReply) → IsStep state old c a new → IsMachineOf state (IsIn all) r old → (state old.disk).tells ≡ true → r.begun ≡ [] → HasOpening (IsIn all) r.tried c a
