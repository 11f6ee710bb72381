-- What the files of a machine's disk hold, once its replica began.
use Rattle.std.specs.Prelude.{◌≡◌, ◌≢◌, ◌⊎◌, ℕ, ◌≤◌, List, []}
use Rattle.std.specs.List.{All}
use Rattle.m3_model.specs.Members.{IsIn}
use Rattle.m3_model.specs.declared.point.Point.{Point}
use Rattle.m3_outside.specs.Files.{Files}
use Rattle.m3_outside.specs.DiskState.{DiskState, EachImage}
use Rattle.shard_store.specs.shard_files.FilesHold.{FilesHold}
use Rattle.cluster_core.specs.declared.replica_state.ReplicaState.{ReplicaState}
use Rattle.replica_machine.specs.Machines.{MachineState, MayHaveTenure, IsMachineOf}

-- the replica's fence, or one in doubt that isn't below it
abbrev pub MayHaveOwnFence : ReplicaState → ℕ → Type 0
MayHaveOwnFence r fence = (fence ≡ r.fence) ⊎ (IsIn r.doubt_fences fence × (r.fence ≤ fence))

-- The files' tenure is one with which the replica began, and none of these is above it, or one in doubt with which it was to begin. Their fence is the
-- replica's, or one in doubt that isn't below it.
pub record HasKnownNumbers (r : ReplicaState) (files : Files) : Type 0 where
  pub points : List Point
  pub tenure : ℕ
  pub fence : ℕ
  pub held : FilesHold points tenure fence files
  pub tenure_known : MayHaveTenure r tenure
  pub none_higher : All (λ begun. begun ≤ tenure) r.begun
  pub fence_known : MayHaveOwnFence r fence

-- so is each image of a machine's disk, once its replica began
abbrev pub NumbersAreKnown : {D : Type 0} → (D → DiskState) → Type 0
NumbersAreKnown {D} state = (first : D) (r : ReplicaState) (m : MachineState D) → IsMachineOf state (state first).images r m → r.begun ≢ [] → EachImage (state m.disk) (HasKnownNumbers r)
