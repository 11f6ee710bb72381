-- A replica over whose disk a call went that brings no point: a flush, a snapshot or a tick.
use Rattle.std.specs.Prelude.{◌≡◌, ⊤, ℕ, true}
use Rattle.m3_model.specs.Answers.{HasPoint}
use Rattle.m3_model.specs.Contents.{Contents}
use Rattle.m3_model.specs.Rules.{HasExpired}
use Rattle.m3_model.specs.declared.point.Point.{Point}
use Rattle.m3_model.specs.declared.reason.Damage.{Damage}
use Rattle.m3_model.specs.declared.reason.Reason.TheVariants as reason
use Rattle.m3_model.specs.declared.replica.Standing.{Standing}
use Rattle.m3_model.specs.declared.replica.Standing.TheVariants as standing
use Rattle.m3_model.specs.declared.rules.Rules.{Rules}
use Rattle.m3_outside.specs.Files.{Files}
use Rattle.m3_outside.specs.DiskState.{DiskState, Told, StepOf}
use Rattle.shard_store.specs.shard_files.Keeps.{Keeps, HoldContent}
use Rattle.cluster_core.specs.Replicas.{Shows, after, down}
use Rattle.cluster_core.specs.declared.event.StepCall.TheVariants as call
use Rattle.cluster_core.specs.declared.event.StepReply.{StepReply}
use Rattle.cluster_core.specs.declared.event.StepReply.TheVariants as reply
use Rattle.cluster_core.specs.declared.replica_state.ReplicaState.{ReplicaState}
use Rattle.replica_machine.specs.Machines.{MachineState, IsHeldBy, IsMachineOf, shut_machine}

-- a tick by these rules keeps of the content each point that hasn't expired
abbrev pub KeepsLive : Rules → Contents → Contents → Type 0
KeepsLive rules content kept = (p : Point) → HasPoint content p → ¬ HasExpired rules p → HasPoint kept p

-- What a tick leaves in a machine: each point that it keeps, and others only that files had which a stop might have left. A key that expired may so fall back
-- to a lower value of a volume that stays.
pub record IsTickedTo (rules : Rules) (content : Contents) (old : DiskState) (left : Contents) : Type 0 where
  pub live : KeepsLive rules content left
  pub there : Told old (λ files. old.images files × HoldContent left files)

-- what a tick answers that was done, or that the disk or damage stopped
abbrev pub IsTick : StepReply → Type 0
IsTick (reply.Count n) = ⊤
IsTick (reply.Refused reason.Disk) = ⊤
IsTick (reply.Refused (reason.Corrupt damage)) = ⊤
IsTick _ = ⊥

-- ---- files

-- files that the replica may begin with are still such where a content that shows it is kept, however it stands then
abbrev pub KeptReplica : Type 0
KeptReplica = (r : ReplicaState) (s : Standing) (content : Contents) (x y : Files) → Shows r content → Keeps content x y → IsHeldBy r x → IsHeldBy (record r { standing = s }) y

-- so they are where a tick by these rules keeps of it what hasn't expired, for what the tick leaves of the replica
abbrev pub TickedReplica : Type 0
TickedReplica = (r : ReplicaState) (rules : Rules) (a : StepReply) (content kept : Contents) (x y : Files) → IsTick a → Shows r content → KeepsLive rules content kept → Keeps kept x y → IsHeldBy r x → IsHeldBy (after r (call.Tick rules) a) y

-- ---- machines

-- each image of the disk now is one from before, of which this content is kept
pub record KeepsImages (kept : Contents) (old new : DiskState) : Type 0 where
  pub tells : new.tells ≡ old.tells
  pub images : old.tells ≡ true → (c : Files) → new.images c → StepOf (Keeps kept) old.images c

-- an open machine, whose content is kept on its disk, is still its replica's, whatever of it is in memory, and closed
pub record KeptMachine {D : Type 0} (state : D → DiskState) : Type 0 where
  pub open_ : (first : D) (r : ReplicaState) (m : MachineState D) (d : D) (buffered content : Contents) → m.standing ≡ standing.Open → KeepsImages m.content (state m.disk) (state d) → ((state m.disk).tells ≡ true → content ≡ m.content)
      → IsMachineOf state (state first).images r m → IsMachineOf state (state first).images r (record m { disk = d; buffered = buffered; content = content })
  pub closed : (first : D) (r : ReplicaState) (m : MachineState D) (d : D) → m.standing ≡ standing.Open → KeepsImages m.content (state m.disk) (state d) → IsMachineOf state (state first).images r m
      → IsMachineOf state (state first).images (down r) (shut_machine standing.Down m d)

-- so is one of which a tick keeps what hasn't expired, for what the tick leaves of the replica: with that content where it was done, and closed where it
-- wasn't
pub record TickedMachine {D : Type 0} (state : D → DiskState) : Type 0 where
  pub done : (first : D) (r : ReplicaState) (m : MachineState D) (d : D) (rules : Rules) (n : ℕ) (kept buffered left : Contents) → m.standing ≡ standing.Open → KeepsLive rules m.content kept → KeepsImages kept (state m.disk) (state d)
      → ((state m.disk).tells ≡ true → IsTickedTo rules m.content (state m.disk) left) → IsMachineOf state (state first).images r m
      → IsMachineOf state (state first).images (after r (call.Tick rules) (reply.Count n)) (record m { disk = d; buffered = buffered; content = left })
  pub failed : (first : D) (r : ReplicaState) (m : MachineState D) (d : D) (rules : Rules) (kept : Contents) → m.standing ≡ standing.Open → KeepsLive rules m.content kept → KeepsImages kept (state m.disk) (state d)
      → IsMachineOf state (state first).images r m → IsMachineOf state (state first).images (after r (call.Tick rules) (reply.Refused reason.Disk)) (shut_machine standing.Down m d)
  pub damaged : (first : D) (r : ReplicaState) (m : MachineState D) (d : D) (rules : Rules) (damage : Damage) (kept : Contents) → m.standing ≡ standing.Open → KeepsLive rules m.content kept → KeepsImages kept (state m.disk) (state d)
      → IsMachineOf state (state first).images r m → IsMachineOf state (state first).images (after r (call.Tick rules) (reply.Refused (reason.Corrupt damage))) (shut_machine standing.Down m d)
