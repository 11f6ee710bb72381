-- Which steps of a replica are lawful, by its state and by what stands earlier. What rests on the contents of the disk is said
-- where disks tell: what a read, a page or a digest shows, with what a replica begins, and whether it is then owned.
use Rattle.std.specs.Prelude.{◌≡◌, ◌≢◌, ◌⊎◌, ◌≤◌, ◌<◌, ℕ, ⊤, List, [], Some, None, Bool, IsTrue}
use Rattle.std.specs.Bool.{OnTrue}
use Rattle.std.specs.List.{All, Any}
use Rattle.m3_model.specs.Members.{IsIn}
use Rattle.m3_model.specs.Reads.{Covers}
use Rattle.m3_model.specs.Rules.{InWindow}
use Rattle.m3_model.specs.declared.point.Point.{Point}
use Rattle.m3_model.specs.declared.reason.Reason.{Reason}
use Rattle.m3_model.specs.declared.reason.Reason.TheVariants as reason
use Rattle.m3_model.specs.declared.replica.Report.{Report}
use Rattle.m3_model.specs.declared.replica.Standing.{Standing}
use Rattle.m3_model.specs.declared.replica.Standing.TheVariants as standing
use Rattle.m3_model.specs.declared.rules.Rules.{Rules}
use Rattle.cluster_core.specs.Answers.{IsFoundBy, IsPage}
use Rattle.cluster_core.specs.Earlier.{HasClock, HasSend, HasTenure, HasPage}
use Rattle.cluster_core.specs.Refusals.{first_refusal, uses_disk, reads_files}
use Rattle.cluster_core.specs.Replicas.{greater, IsGone}
use Rattle.cluster_core.specs.Sums.{IsSummed}
use Rattle.cluster_core.specs.declared.event.Event.{Event}
use Rattle.cluster_core.specs.declared.event.StepCall.{StepCall}
use Rattle.cluster_core.specs.declared.event.StepCall.TheVariants as call
use Rattle.cluster_core.specs.declared.event.StepReply.{StepReply}
use Rattle.cluster_core.specs.declared.event.StepReply.TheVariants as reply
use Rattle.cluster_core.specs.declared.replica_state.ReplicaState.{ReplicaState}

-- open with a tenure
pub record IsOwned (r : ReplicaState) : Type 0 where
  pub open_ : r.standing ≡ standing.Open
  pub tenure : ℕ
  pub owned : r.tenure ≡ Some tenure

-- open with a tenure not above the version
pub record IsOwner (r : ReplicaState) (version : ℕ) : Type 0 where
  pub open_ : r.standing ≡ standing.Open
  pub tenure : ℕ
  pub owned : r.tenure ≡ Some tenure
  pub tenure_low : tenure ≤ version

-- open with a tenure and a fence not above the version
pub record IsServingAt (r : ReplicaState) (version : ℕ) : Type 0 where
  pub owner : IsOwner r version
  pub fence_low : r.fence ≤ version

-- the fence where the replica is open, else 0
abbrev pub open_fence : Standing → ℕ → ℕ
open_fence standing.Open fence = fence
open_fence standing.Boot fence = 0
open_fence standing.Down fence = 0

pub record IsReport (r : ReplicaState) (report : Report) : Type 0 where
  pub standing : report.standing ≡ r.standing
  pub fence : report.fence ≡ open_fence r.standing r.fence

-- ---- what a replica may begin with

-- the fence is the greater of its own and the tenure, or a higher one that was in doubt
abbrev pub MayFence : ReplicaState → ℕ → ℕ → Type 0
MayFence r tenure fence = (fence ≡ greater tenure r.fence) ⊎ Any (λ doubtful. fence ≡ greater doubtful (greater tenure r.fence)) r.doubt_fences

-- from its files it has points that are sure or in doubt, and covers the sure ones that aren't gone
pub record IsLoaded (r : ReplicaState) (tenure fence : ℕ) (points : List Point) : Type 0 where
  pub source : All (λ p. IsIn r.sure p ⊎ IsIn r.doubt p) points
  pub all_there : All (λ p. ¬ IsGone r p → Covers points p) r.sure
  pub fence_is : MayFence r tenure fence

-- an open replica loads nothing, a closed one doesn't begin, and what the first Began of a run loads is free
abbrev pub IsBegan : Standing → List ℕ → ReplicaState → ℕ → ℕ → List Point → Type 0
IsBegan standing.Open begun r tenure fence points = (points ≡ []) × (fence ≡ greater tenure r.fence)
IsBegan standing.Down begun r tenure fence points = ⊥
IsBegan standing.Boot begun r tenure fence points = begun ≢ [] → IsLoaded r tenure fence points

-- no higher tenure was begun
abbrev pub NoneHigher : ReplicaState → ℕ → Type 0
NoneHigher r tenure = All (λ begun. begun ≤ tenure) r.begun

-- a higher tenure was begun, or was to begin when the disk failed, or the files, which nobody has seen yet, may have one
abbrev pub MayBeHigher : ReplicaState → ℕ → Type 0
MayBeHigher r tenure = Any (λ begun. tenure < begun) r.begun ⊎ (Any (λ tried. tenure < tried) r.tried ⊎ (r.begun ≡ []))

-- nothing but memory, the disk and the files stands against the call
abbrev pub IsTakenCall : Bool → ReplicaState → StepCall → Type 0
IsTakenCall tells r (call.Begin tenure) = (first_refusal r (call.Begin tenure) ≡ None) × OnTrue tells (NoneHigher r tenure)
IsTakenCall tells r c = first_refusal r c ≡ None

-- the rules of a tick are those of an earlier Clock
abbrev pub TicksByClock : List Event → StepCall → Type 0
TicksByClock past (call.Tick rules) = HasClock past rules
TicksByClock past _ = ⊤

-- what a put or a merge takes is there to be taken
abbrev pub TakesWhatIsThere : List Event → ℕ → StepCall → Type 0
TakesWhatIsThere past s (call.Put client number rules version point) = HasSend past version s point
TakesWhatIsThere past s (call.Merge page) = HasPage past s page
TakesWhatIsThere past s _ = ⊤

-- the disk fails only in a call that uses it and that nothing else stands against
pub record DiskMayFail (tells : Bool) (past : List Event) (s : ℕ) (r : ReplicaState) (c : StepCall) : Type 0 where
  pub uses : IsTrue (uses_disk c)
  pub taken : IsTakenCall tells r c
  pub clock : TicksByClock past c
  pub there : TakesWhatIsThere past s c

-- damage is found only by a call that reads files and that nothing else stands against
pub record MayFindDamage (tells : Bool) (past : List Event) (r : ReplicaState) (c : StepCall) : Type 0 where
  pub reads : IsTrue (reads_files c)
  pub taken : IsTakenCall tells r c
  pub clock : TicksByClock past c

-- a Begin is refused as not owned where a higher tenure is or may be known; any other call where that is its first reason
abbrev pub MayBeUnowned : Bool → ReplicaState → StepCall → Type 0
MayBeUnowned tells r (call.Begin tenure) = (first_refusal r (call.Begin tenure) ≡ None) × OnTrue tells (MayBeHigher r tenure)
MayBeUnowned tells r c = first_refusal r c ≡ Some reason.NotOwned

-- want of memory may come at any position, and a message that was lost is no replica's answer
abbrev pub ReplicaMayRefuse : Bool → List Event → ℕ → ReplicaState → StepCall → Reason → Type 0
ReplicaMayRefuse tells past s r c reason.Memory = ⊤
ReplicaMayRefuse tells past s r c reason.Cut = ⊥
ReplicaMayRefuse tells past s r c reason.NotOwned = MayBeUnowned tells r c
ReplicaMayRefuse tells past s r c reason.Disk = DiskMayFail tells past s r c
ReplicaMayRefuse tells past s r c (reason.Corrupt damage) = MayFindDamage tells past r c
ReplicaMayRefuse tells past s r c why = first_refusal r c ≡ Some why

-- ---- the rows

pub record MayBegin (tells : Bool) (past : List Event) (n s : ℕ) (r : ReplicaState) (tenure fence : ℕ) (points : List Point) : Type 0 where
  pub not_down : r.standing ≢ standing.Down
  pub fence_high : tenure ≤ fence
  pub given : HasTenure past n s tenure
  pub none_higher : OnTrue tells (NoneHigher r tenure)
  pub began : OnTrue tells (IsBegan r.standing r.begun r tenure fence points)

pub record MayTake (past : List Event) (s : ℕ) (r : ReplicaState) (rules : Rules) (version : ℕ) (point : Point) : Type 0 where
  pub serving : IsServingAt r version
  pub in_window : InWindow rules point
  pub sent : HasSend past version s point
  pub clock : HasClock past rules

-- a step is lawful after these events, by the state of its replica
abbrev pub LawfulStep : Bool → List Event → ℕ → ℕ → ReplicaState → StepCall → StepReply → Type 0
LawfulStep tells past n s r (call.Begin tenure) (reply.Began fence points) = MayBegin tells past n s r tenure fence points
LawfulStep tells past n s r (call.Put client number rules version point) reply.Done = MayTake past s r rules version point
LawfulStep tells past n s r (call.Read client number rules version pick from to) (reply.Found series) = IsServingAt r version × HasClock past rules × OnTrue tells (IsFoundBy r rules pick from to series)
LawfulStep tells past n s r (call.Fence version) reply.Done = IsOwner r version
LawfulStep tells past n s r (call.Page from) (reply.Paged page) = IsOwned r × OnTrue tells (IsPage r (call.Page from) page)
LawfulStep tells past n s r (call.Block ns start size from) (reply.Paged page) = IsOwned r × OnTrue tells (IsPage r (call.Block ns start size from) page)
LawfulStep tells past n s r (call.Merge page) (reply.Count count) = IsOwned r × HasPage past s page
LawfulStep tells past n s r (call.Tick rules) (reply.Count count) = (r.standing ≡ standing.Open) × HasClock past rules
LawfulStep tells past n s r (call.Flush rules) (reply.Count count) = (r.standing ≡ standing.Open) × HasClock past rules
LawfulStep tells past n s r call.Snapshot (reply.Count count) = r.standing ≡ standing.Open
LawfulStep tells past n s r (call.Digests rules) (reply.Sums digests) = IsOwned r × HasClock past rules × OnTrue tells (IsSummed r rules digests)
LawfulStep tells past n s r call.Report (reply.Told report) = IsReport r report
LawfulStep tells past n s r call.End reply.Done = ⊤
LawfulStep tells past n s r call.Stop reply.Done = ⊤
LawfulStep tells past n s r call.Restart reply.Done = ⊤
LawfulStep tells past n s r c (reply.Refused why) = ReplicaMayRefuse tells past s r c why
LawfulStep tells past n s r _ _ = ⊥
