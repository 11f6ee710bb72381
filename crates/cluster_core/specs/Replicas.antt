-- The state of one replica, folded over its own steps, and the contents that show it.
use Rattle.std.specs.Prelude.{◌≡◌, ℕ, ℤ, List, [], ◌∷◌, ◌++◌, Some, None, ◌&&◌, if◌then◌else◌, nat_eq, nat_le, fold}
use Rattle.std.specs.List.{Any}
use Rattle.std.specs.FinMap as map
use Rattle.m3_model.specs.Contents.{Contents, Holds, point_at}
use Rattle.m3_model.specs.Members.{IsIn}
use Rattle.m3_model.specs.Rules.{HasExpired}
use Rattle.m3_model.specs.declared.point.Key.{Key}
use Rattle.m3_model.specs.declared.point.Point.{Point}
use Rattle.m3_model.specs.declared.reason.Reason.TheVariants as reason
use Rattle.m3_model.specs.declared.replica.Standing.TheVariants as standing
use Rattle.cluster_core.specs.declared.event.Event.{Event}
use Rattle.cluster_core.specs.declared.event.Event.TheVariants as event
use Rattle.cluster_core.specs.declared.event.StepCall.{StepCall}
use Rattle.cluster_core.specs.declared.event.StepCall.TheVariants as call
use Rattle.cluster_core.specs.declared.event.StepReply.{StepReply}
use Rattle.cluster_core.specs.declared.event.StepReply.TheVariants as reply
use Rattle.cluster_core.specs.declared.replica_state.ReplicaState.{ReplicaState}

-- before its first step: at Boot, with nothing
abbrev pub fresh : ReplicaState
fresh = record { standing = standing.Boot; tenure = None; fence = 0; sure = []; doubt = []; doubt_fences = []; ticks = []; begun = []; tried = [] }

-- closed until a restart
abbrev pub down : ReplicaState → ReplicaState
down r = record r { standing = standing.Down }

abbrev pub greater : ℕ → ℕ → ℕ
greater m n = if nat_le m n then n else m

-- what a step leaves: what was done is sure, and what the disk failed in is in doubt
abbrev pub after : ReplicaState → StepCall → StepReply → ReplicaState
after r (call.Begin tenure) (reply.Began fence points) =
    record r { standing = standing.Open; tenure = Some tenure; fence = fence; sure = r.sure ++ points; doubt = []; doubt_fences = []; begun = r.begun ++ tenure ∷ [] }
after r (call.Put client number rules version point) reply.Done = record r { sure = r.sure ++ point ∷ [] }
after r (call.Merge page) (reply.Count n) = record r { sure = r.sure ++ page.points }
after r (call.Fence version) reply.Done = record r { fence = greater r.fence version }
after r (call.Tick rules) (reply.Count n) = record r { ticks = r.ticks ++ rules ∷ [] }
after r call.End reply.Done = record r { tenure = None }
after r call.Stop reply.Done = down r
after r call.Restart reply.Done = record r { standing = standing.Boot }
after r (call.Begin tenure) (reply.Refused reason.Disk) = record r { standing = standing.Down; doubt_fences = r.doubt_fences ++ tenure ∷ []; tried = r.tried ++ tenure ∷ [] }
after r (call.Put client number rules version point) (reply.Refused reason.Disk) = record r { standing = standing.Down; doubt = r.doubt ++ point ∷ [] }
after r (call.Merge page) (reply.Refused reason.Disk) = record r { standing = standing.Down; doubt = r.doubt ++ page.points }
after r (call.Fence version) (reply.Refused reason.Disk) = record r { standing = standing.Down; doubt_fences = r.doubt_fences ++ version ∷ [] }
after r (call.Tick rules) (reply.Refused reason.Disk) = record r { standing = standing.Down; ticks = r.ticks ++ rules ∷ [] }
after r (call.Tick rules) (reply.Refused (reason.Corrupt damage)) = record r { standing = standing.Down; ticks = r.ticks ++ rules ∷ [] }
after r _ (reply.Refused reason.Disk) = down r
after r _ (reply.Refused (reason.Corrupt damage)) = down r
after r _ _ = r

-- what an event leaves of the replica of this node and shard
abbrev pub step_of : ℕ → ℕ → ReplicaState → Event → ReplicaState
step_of n s r (event.Step node shard c a) = if nat_eq node n && nat_eq shard s then after r c a else r
step_of n s r _ = r

-- the replica of a node and a shard after these events
abbrev pub replica : ℕ → ℕ → List Event → ReplicaState
replica n s events = fold (step_of n s) fresh events

-- a tick may have dropped the point's key: it had expired by the tick's rules
abbrev pub IsGone : ReplicaState → Point → Type 0
IsGone r p = Any (λ rules. HasExpired rules p) r.ticks

-- the replica may hold just this: sure points, and of each key that isn't gone the greatest sure value
pub record Shows (r : ReplicaState) (content : Contents) : Type 0 where
  pub sure : (k : Key) (v : ℤ) → map.get content k ≡ Some v → IsIn r.sure (point_at k v)
  pub all : (p : Point) → IsIn r.sure p → ¬ IsGone r p → Holds content p
