-- A call of a machine as a step of the core.
use Rattle.std.specs.Prelude.{◌≡◌, ◌≢◌, ℕ, ⊤, true, List, [], Result, Ok, Err, OnOk, IfErr, IsErr, IsErrOf}
use Rattle.m3_model.specs.declared.reason.Damage.{Damage}
use Rattle.m3_model.specs.declared.reason.Reason.{Reason}
use Rattle.m3_model.specs.declared.reason.Reason.TheVariants as reason
use Rattle.m3_outside.specs.Causes.{CountsFaults}
use Rattle.m3_outside.specs.Files.{Files, Stays}
use Rattle.m3_outside.specs.DiskState.{DiskState, StepOf, Elapses, Proceeds, Told}
use Rattle.shard_store.specs.shard_files.FilesHold.{IsSound}
use Rattle.shard_store.specs.shard_files.Gains.{Gain, nothing, Gains, MayGain}
use Rattle.cluster_core.specs.Earlier.{HasClock, HasSend, HasTenure, HasPage}
use Rattle.cluster_core.specs.Replicas.{after}
use Rattle.cluster_core.specs.Rows.{LawfulStep}
use Rattle.cluster_core.specs.declared.event.Event.{Event}
use Rattle.cluster_core.specs.declared.event.StepCall.{StepCall}
use Rattle.cluster_core.specs.declared.event.StepCall.TheVariants as call
use Rattle.cluster_core.specs.declared.event.StepReply.{StepReply}
use Rattle.cluster_core.specs.declared.event.StepReply.TheVariants as reply
use Rattle.cluster_core.specs.declared.replica_state.ReplicaState.{ReplicaState}
use Rattle.replica_machine.specs.Bases.{HasOpening}
use Rattle.replica_machine.specs.Machines.{MachineState, IsMachineOf}

-- what a call answers, as the core says it
abbrev pub reply_by : {X : Type 0} → (X → StepReply) → Result X Reason → StepReply
reply_by ok (Ok x) = ok x
reply_by ok (Err why) = reply.Refused why

-- what the call is given stands among these events: its rules, the point of a put, the page of a merge, the tenure of a begin
abbrev pub IsGiven : List Event → ℕ → ℕ → StepCall → Type 0
IsGiven past n s (call.Begin tenure) = HasTenure past n s tenure
IsGiven past n s (call.Put client number rules version point) = HasClock past rules × HasSend past version s point
IsGiven past n s (call.Read client number rules version pick from to) = HasClock past rules
IsGiven past n s (call.Merge page) = HasPage past s page
IsGiven past n s (call.Tick rules) = HasClock past rules
IsGiven past n s (call.Flush rules) = HasClock past rules
IsGiven past n s (call.Digests rules) = HasClock past rules
IsGiven past n s _ = ⊤

-- The answer is a lawful step of each replica that the machine is, whichever disk it was made over, at each slot and after all events that have what the
-- call is given; and the machine is then the one of what the step leaves of the replica. Where the replica began with this step and never before, it
-- has what files hold that came from an image of that disk. It finds damage only where reads give files that aren't sound. Its disk tells what it holds as
-- it did. It answers Disk only where the disk's count of faults rose, and this count never falls.
pub record IsStep {D : Type 0} (state : D → DiskState) (old : MachineState D) (c : StepCall) (a : StepReply) (new : MachineState D) : Type 0 where
  pub lawful : (first : D) (r : ReplicaState) → IsMachineOf state (state first).images r old → (past : List Event) (n s : ℕ) → IsGiven past n s c → LawfulStep (state old.disk).tells past n s r c a
  pub follows : (first : D) (r : ReplicaState) → IsMachineOf state (state first).images r old → IsMachineOf state (state first).images (after r c a) new
  pub opens : (first : D) (r : ReplicaState) → IsMachineOf state (state first).images r old → (state old.disk).tells ≡ true → r.begun ≡ [] → HasOpening (state first).images r.tried c a
  pub sound : (damage : Damage) → a ≡ reply.Refused (reason.Corrupt damage) → Told (state old.disk) (λ files. ¬ IsSound files)
  pub tells : (state new.disk).tells ≡ (state old.disk).tells
  pub faults : CountsFaults (a ≡ reply.Refused reason.Disk) (state old.disk).faults (state new.disk).faults

-- What a call does to the disk that brings something to its files. A stop at any moment since it began leaves part of it; once it answered Ok, all of
-- it; where it was refused for another reason than the disk, nothing. It answered Disk only where the count of faults rose.
pub record BringsTo {X : Type 0} (gain : Gain) (result : Result X Reason) (old new : DiskState) : Type 0 where
  pub any_moment : old.tells ≡ true → Elapses (MayGain gain) old new
  pub acknowledged : old.tells ≡ true → OnOk result ((c : Files) → new.images c → StepOf (Gains gain) old.images c)
  pub unchanged : old.tells ≡ true → IfErr result (λ why. why ≢ reason.Disk → (c : Files) → new.images c → StepOf (Gains nothing) old.images c)
  pub tells : new.tells ≡ old.tells
  pub faults : CountsFaults (IsErrOf result reason.Disk) old.faults new.faults

-- What a restart does to the disk: reads give one of the images, and then the only one. Where it was refused, files and images stay; it answered Disk
-- only where the count of faults rose.
pub record RestartsTo (result : Result ⊤ Reason) (old new : DiskState) : Type 0 where
  pub proceeds : Proceeds Stays (IsErrOf result reason.Disk) old new
  pub image : old.tells ≡ true → OnOk result (old.images new.files)
  pub only : old.tells ≡ true → OnOk result ((c : Files) → new.images c → c ≡ new.files)
  pub refused : old.tells ≡ true → IsErr result → new.files ≡ old.files
