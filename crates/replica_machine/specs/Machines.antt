-- A machine as its contracts see it, what it refuses, and the replica of the core that it is.
use Rattle.std.specs.Prelude.{◌≡◌, ◌≢◌, ◌⊎◌, ⊤, ℕ, ◌≤◌, max, List, [], Option, Some, None, Result, Ok, Err, Bool, true, false, refl, IsErrOf}
use Rattle.std.specs.Coded.{Coded, code_by, coded×, coded_ℕ, coded_bool, coded_option}
use Rattle.std.specs.FinMap as finite
use Rattle.std.specs.List.{All, Any}
use Rattle.std.specs.Option.{option_or}
use Rattle.m3_model.specs.Answers.{IsWanted}
use Rattle.m3_model.specs.Contents.{Contents, contents_code}
use Rattle.m3_model.specs.Members.{IsIn}
use Rattle.m3_model.specs.Reads.{Covers, IsOrdered, points_in, space_picked}
use Rattle.m3_model.specs.Rules.{IsLive}
use Rattle.m3_model.specs.declared.point.Pick.{Pick}
use Rattle.m3_model.specs.declared.point.Point.{Point}
use Rattle.m3_model.specs.declared.point.Series.{Series}
use Rattle.m3_model.specs.declared.reason.Reason.{Reason}
use Rattle.m3_model.specs.declared.reason.Reason.TheVariants as reason
use Rattle.m3_model.specs.declared.replica.Standing.{Standing}
use Rattle.m3_model.specs.declared.replica.Standing.TheVariants as standing
use Rattle.m3_model.specs.declared.rules.Rules.{Rules}
use Rattle.m3_outside.specs.Files.{Files}
use Rattle.m3_outside.specs.DiskState.{DiskState, EachImage}
use Rattle.m3_outside.specs.declared.disk_err.DiskErr.{DiskErr}
use Rattle.m3_outside.specs.declared.disk_err.DiskErr.TheVariants as refused
use Rattle.shard_store.specs.shard_files.Parts.{AreWhole}
use Rattle.shard_store.specs.shard_files.FilesHold.{FilesHold}
use Rattle.shard_store.specs.Stores.{StoreState, closed_over}
use Rattle.cluster_core.specs.Refusals.{shut, unowned, untenured, outdated, first_refusal}
use Rattle.cluster_core.specs.Replicas.{Shows, IsGone, fresh}
use Rattle.cluster_core.specs.declared.event.StepCall.{StepCall}
use Rattle.cluster_core.specs.declared.replica_state.ReplicaState.{ReplicaState}
use Rattle.replica_machine.specs.declared.work.Work.{Work}
use Rattle.replica_machine.specs.Bases.{CameFrom}
use Rattle.replica_machine.specs.Works.{no_work}

-- ---- a machine

-- What a machine is: how it stands, the version that gave it its shard, the greatest with which it began, and its disk; and, while it is open, the
-- version below which it refuses, the points that it has in memory, and its content, which is these joined with the points of its volumes. Also what it has
-- done since it was made.
pub record MachineState (D : Type 0) : Type 0 where
  pub standing : Standing
  pub tenure : Option ℕ
  pub begun : ℕ
  pub fence : ℕ
  pub buffered : Contents
  pub content : Contents
  pub disk : D
  pub work : Work

abbrev pub standing_bits : Standing → Option Bool
standing_bits standing.Down = None
standing_bits standing.Boot = Some false
standing_bits standing.Open = Some true

abbrev pub standing_by_bits : Option Bool → Standing
standing_by_bits None = standing.Down
standing_by_bits (Some false) = standing.Boot
standing_by_bits (Some true) = standing.Open

abbrev pub standing_by_own_bits : (s : Standing) → standing_by_bits (standing_bits s) ≡ s
standing_by_own_bits standing.Down = refl
standing_by_own_bits standing.Boot = refl
standing_by_own_bits standing.Open = refl

abbrev pub standing_code : Coded Standing
standing_code = code_by (Option Bool) (coded_option coded_bool) standing_bits standing_by_bits standing_by_own_bits

abbrev pub work_code : Coded Work
work_code =
    code_by (ℕ × (ℕ × (ℕ × ℕ))) (coded× coded_ℕ (coded× coded_ℕ (coded× coded_ℕ coded_ℕ)))
    (λ w. (w.ticks, (w.flushes, (w.snapshots, w.sum)))) (λ p. record { ticks = p.0; flushes = p.1.0; snapshots = p.1.1.0; sum = p.1.1.1 }) (λ _. refl)

abbrev pub machine_code : {D : Type 0} → Coded D → Coded (MachineState D)
machine_code {D} disk_code =
    code_by (Standing × (Option ℕ × (ℕ × (ℕ × (Contents × (Contents × (D × Work))))))) (coded× standing_code (coded× (coded_option coded_ℕ) (coded× coded_ℕ (coded× coded_ℕ (coded× contents_code (coded× contents_code (coded× disk_code work_code)))))))
    (λ m. (m.standing, (m.tenure, (m.begun, (m.fence, (m.buffered, (m.content, (m.disk, m.work))))))))
    (λ p. record { standing = p.0; tenure = p.1.0; begun = p.1.1.0; fence = p.1.1.1.0; buffered = p.1.1.1.1.0; content = p.1.1.1.1.1.0; disk = p.1.1.1.1.1.1.0; work = p.1.1.1.1.1.1.1 }) (λ _. refl)

-- the machine's store is open exactly where the machine is, and else has nothing in memory
abbrev pub IsStoreOf : {D : Type 0} → Standing → StoreState D → Type 0
IsStoreOf standing.Down s = s ≡ closed_over s.disk
IsStoreOf standing.Boot s = s ≡ closed_over s.disk
IsStoreOf standing.Open s = s.open_ ≡ true

-- over a disk from which nothing was read yet, and without work
abbrev pub first_machine : {D : Type 0} → D → MachineState D
first_machine disk = record { standing = standing.Boot; tenure = None; begun = 0; fence = 0; buffered = finite.empty; content = finite.empty; disk = disk; work = no_work }

-- without points in memory
abbrev pub shut_machine : {D : Type 0} → Standing → MachineState D → D → MachineState D
shut_machine s m disk = record { standing = s; tenure = m.tenure; begun = m.begun; fence = 0; buffered = finite.empty; content = finite.empty; disk = disk; work = m.work }

-- ---- what it answers for its disk, what it refuses, and what it finds

abbrev pub reason_of : DiskErr → Reason
reason_of refused.Failed = reason.Disk
reason_of refused.Memory = reason.Memory

-- a fault closes the machine
abbrev pub left_by : {D : Type 0} → DiskErr → MachineState D → MachineState D
left_by refused.Failed m = shut_machine standing.Down m m.disk
left_by refused.Memory m = m

abbrev pub settled_answer : {X : Type 0} → Result X DiskErr → Result X Reason
settled_answer (Ok x) = Ok x
settled_answer (Err why) = Err (reason_of why)

abbrev pub settled : {D : Type 0} → Result ⊤ DiskErr → MachineState D → MachineState D
settled (Ok u) m = m
settled (Err why) m = left_by why m

-- the replica that stands like the machine, of which nothing else is said
abbrev pub standing_like : {D : Type 0} → MachineState D → ReplicaState
standing_like m = record fresh { standing = m.standing; tenure = m.tenure; fence = m.fence }

-- the first reason that stands against the call
abbrev pub refusal : {D : Type 0} → MachineState D → StepCall → Option Reason
refusal m c = first_refusal (standing_like m) c

-- why a write or a read of this version is refused, whatever the write's time
abbrev pub unserved : {D : Type 0} → MachineState D → ℕ → Option Reason
unserved m version = option_or (shut m.standing) (option_or (unowned m.tenure version) (outdated m.fence version))

-- why a call that asks for the shard alone is refused
abbrev pub unheld : {D : Type 0} → MachineState D → Option Reason
unheld m = option_or (shut m.standing) (untenured m.tenure)

-- want of memory, or a fault of the disk
abbrev pub IsOwn : Reason → Type 0
IsOwn why = (why ≡ reason.Memory) ⊎ (why ≡ reason.Disk)

-- a call is refused for the reason that stands against it; where none does, only want of memory or a fault refuses it
abbrev pub IsRefusedFor : {X : Type 0} → Option Reason → Result X Reason → Type 0
IsRefusedFor (Some why) result = IsErrOf result why
IsRefusedFor None (Ok x) = ⊤
IsRefusedFor None (Err why) = IsOwn why

-- the series hold exactly the live points of the content that match the pick and lie in the range, in order
pub record IsLiveAnswer (c : Contents) (rules : Rules) (pick : Pick) (from to : ℕ) (series : List Series) : Type 0 where
  pub ordered : IsOrdered series
  pub nothing_else : (p : Point) → IsIn (points_in (space_picked pick) series) p → IsWanted c pick from to p × IsLive rules p
  pub whole : (p : Point) → IsWanted c pick from to p → IsLive rules p → IsIn (points_in (space_picked pick) series) p

-- ---- the replica that it is

-- the tenure of files: one with which the replica began, or one with which it was to begin when the disk failed, as long as that is in doubt
abbrev pub MayHaveTenure : ReplicaState → ℕ → Type 0
MayHaveTenure r tenure = IsIn r.begun tenure ⊎ (IsIn r.tried tenure × IsIn r.doubt_fences tenure)

-- Files that the replica may begin with. Their points are sure or in doubt, and cover the sure ones that aren't gone. Their tenure is one with which
-- it began, or one in doubt with which it was to begin, and none with which it began is above it. Their fence is the replica's or one in doubt, and not
-- below their tenure.
pub record IsHeldBy (r : ReplicaState) (files : Files) : Type 0 where
  pub points : List Point
  pub tenure : ℕ
  pub fence : ℕ
  pub held : FilesHold points tenure fence files
  pub source : All (λ p. IsIn r.sure p ⊎ IsIn r.doubt p) points
  pub all_there : All (λ p. ¬ IsGone r p → Covers points p) r.sure
  pub none_higher : All (λ begun. begun ≤ tenure) r.begun
  pub known : MayHaveTenure r tenure
  pub fence_is : (fence ≡ max tenure r.fence) ⊎ Any (λ doubtful. fence ≡ max doubtful (max tenure r.fence)) r.doubt_fences

-- an open machine has the tenure and the fence of the replica, which began and of which nothing is in doubt, and where the disk tells a content that
-- shows it
pub record HasAllOf {D : Type 0} (state : D → DiskState) (r : ReplicaState) (m : MachineState D) : Type 0 where
  pub begun : r.begun ≢ []
  pub tenure : m.tenure ≡ r.tenure
  pub fence : m.fence ≡ r.fence
  pub sure : r.doubt ≡ []
  pub sure_fences : r.doubt_fences ≡ []
  pub shows : (state m.disk).tells ≡ true → Shows r m.content

-- the machine's greatest tenure is the greatest with which the replica began, and 0 where it hasn't
pub record IsGreatest (begun : ℕ) (all : List ℕ) : Type 0 where
  pub none_higher : All (λ one. one ≤ begun) all
  pub one_of : (begun ≡ 0) ⊎ IsIn all begun

-- The machine is the replica's, and was made over one of these files: it stands as the replica does, has all that the replica has where it is open, and each
-- stop leaves files that the replica may begin with, once it began. Until then each stop leaves files that came from one of those over which the machine
-- was made. No tenure with which the replica began is above its fence. Where in each of those over which it was made each snapshot that counts was whole,
-- each stop leaves such files.
pub record IsMachineOf {D : Type 0} (state : D → DiskState) (base : Files → Type 0) (r : ReplicaState) (m : MachineState D) : Type 0 where
  pub stands : m.standing ≡ r.standing
  pub begun : IsGreatest m.begun r.begun
  pub below : All (λ begun. begun ≤ r.fence) r.begun
  pub empty : r.begun ≡ [] → r.sure ≡ []
  pub open_ : m.standing ≡ standing.Open → HasAllOf state r m
  pub files : r.begun ≢ [] → EachImage (state m.disk) (IsHeldBy r)
  pub unbegun : r.begun ≡ [] → EachImage (state m.disk) (CameFrom base r.tried)
  pub snapshots : ((c : Files) → base c → AreWhole c) → EachImage (state m.disk) AreWhole
