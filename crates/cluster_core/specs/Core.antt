-- What reads of a legal list keep, whatever is lost, late, repeated, fenced, moved or restarted.
use Rattle.std.specs.Prelude.{◌≡◌, ◌⊎◌, ◌≤◌, ◌<◌, ℕ, List, [], ◌∷◌, length, take, Some}
use Rattle.m3_model.specs.Levels.{majority}
use Rattle.m3_model.specs.Members.{IsIn}
use Rattle.m3_model.specs.Reads.{Matches, InRange, points_in, space_picked, Covers}
use Rattle.m3_model.specs.Rules.{HasExpired}
use Rattle.m3_model.specs.declared.placement.Placement.{Placement}
use Rattle.m3_model.specs.declared.point.Page.{Page}
use Rattle.m3_model.specs.declared.point.Pick.{Pick}
use Rattle.m3_model.specs.declared.point.Point.{Point}
use Rattle.m3_model.specs.declared.point.Series.{Series}
use Rattle.m3_model.specs.declared.rules.Rules.{Rules}
use Rattle.placement_core.specs.Majorities.{IsMajority}
use Rattle.placement_core.specs.Shards.{Shard, holders}
use Rattle.cluster_core.specs.Earlier.{last_place}
use Rattle.cluster_core.specs.Lists.{At}
use Rattle.cluster_core.specs.Replicas.{replica}
use Rattle.cluster_core.specs.declared.event.Event.{Event}
use Rattle.cluster_core.specs.declared.event.Event.TheVariants as event
use Rattle.cluster_core.specs.declared.event.StepCall.{StepCall}
use Rattle.cluster_core.specs.declared.event.StepCall.TheVariants as call
use Rattle.cluster_core.specs.declared.event.StepReply.TheVariants as reply
use Rattle.cluster_core.specs.declared.replica_state.ReplicaState.{ReplicaState}

-- ---- openings

-- the points of each replica when the run opens, by node and shard
abbrev pub Opening : Type 0
Opening = ℕ → ℕ → List Point

-- what a replica first begins with are the points that the opening gives it
abbrev pub AgreesWith : List Event → Opening → Type 0
AgreesWith events opening =
    (i n s tenure fence : ℕ) (points : List Point) → At events i (event.Step n s (call.Begin tenure) (reply.Began fence points)) → (replica n s (take i events)).begun ≡ [] → points ≡ opening n s

-- of each listed point, given with its shard, each majority of the shard's holders has a node whose opening covers it
abbrev pub KeptByOpening : Opening → Placement → List (Point × ℕ) → Type 0
KeptByOpening opening first given =
    (x : Point × ℕ) → IsIn given x → (shard : Shard) × At first.shards x.1 shard × ((members : List ℕ) → IsMajority first.rf (holders shard) members → (n : ℕ) × IsIn members n × Covers (opening n x.1) x.0)

-- ---- what is to be kept

-- an Ack of a majority before this position has the point, sent to the shard
pub record IsAckedBefore (rf : ℕ) (events : List Event) (before s : ℕ) (p : Point) : Type 0 where
  pub position : ℕ
  pub send : ℕ
  pub version : ℕ
  pub nodes : List ℕ
  pub early : position < before
  pub acked : At events position (event.Ack send nodes)
  pub sent : At events send (event.Send version s p)
  pub enough : majority rf ≤ length nodes

-- the opening keeps the point of the shard, or a majority took it before this position
abbrev pub IsSecured : ℕ → List (Point × ℕ) → List Event → ℕ → ℕ → Point → Type 0
IsSecured rf given events before s p = IsIn given (p, s) ⊎ IsAckedBefore rf events before s p

-- no Clock before this position has expired the point
abbrev pub IsLiveUpTo : List Event → ℕ → Point → Type 0
IsLiveUpTo events before p = (j : ℕ) (rules : Rules) → j < before → At events j (event.Clock rules) → ¬ HasExpired rules p

-- the point was sent to the shard before this position, or the opening has it in the shard
abbrev pub WasWritten : List Event → Opening → ℕ → ℕ → Point → Type 0
WasWritten events opening before s p = ((j v : ℕ) × (j < before) × At events j (event.Send v s p)) ⊎ ((n : ℕ) × IsIn (opening n s) p)

-- the sure points of a replica or, where it hasn't begun, those of the opening
abbrev pub held_by : List Point → ReplicaState → List ℕ → List Point
held_by opened r [] = opened
held_by opened r (tenure ∷ begun) = r.sure

abbrev pub held : Opening → List Event → ℕ → ℕ → List Point
held opening events n s = held_by (opening n s) (replica n s events) (replica n s events).begun

-- ---- what is kept

-- the read of this shard that began at one position and was done at another
pub record IsReadBetween (events : List Event) (start done : ℕ) (nodes : List ℕ) (series : List Series) (s : ℕ) (pick : Pick) (from to : ℕ) : Type 0 where
  pub version : ℕ
  pub rules : Rules
  pub is_done : At events done (event.FetchDone start nodes series)
  pub started : At events start (event.FetchStart version s rules pick from to)

pub record KeepsAll (events : List Event) (rf : ℕ) (opening : Opening) (given : List (Point × ℕ)) : Type 0 where
  -- a fetch that a majority answered has, or surpasses, each live point that it asks for and that was secured before it began
  pub read : (start done : ℕ) (nodes : List ℕ) (series : List Series) (s : ℕ) (pick : Pick) (from to : ℕ) → IsReadBetween events start done nodes series s pick from to → majority rf ≤ length nodes
      → (p : Point) → Matches pick p → InRange from to p → IsLiveUpTo events done p → IsSecured rf given events start s p → Covers (points_in (space_picked pick) series) p
  -- each point of a fetch was written
  pub written : (start done : ℕ) (nodes : List ℕ) (series : List Series) (s : ℕ) (pick : Pick) (from to : ℕ) → IsReadBetween events start done nodes series s pick from to
      → (p : Point) → IsIn (points_in (space_picked pick) series) p → WasWritten events opening done s p
  -- and so was each point of a page
  pub paged : (i n s : ℕ) (c : StepCall) (page : Page) → At events i (event.Step n s c (reply.Paged page)) → (p : Point) → IsIn page.points p → WasWritten events opening i s p
  -- at every time each majority of a shard's holders has a node that holds each live secured point, or surpasses it
  pub stands : (i : ℕ) (place : Placement) → i ≤ length events → last_place (take i events) ≡ Some place → (s : ℕ) (shard : Shard) → At place.shards s shard
      → (p : Point) → IsLiveUpTo events i p → IsSecured rf given events i s p
      → (members : List ℕ) → IsMajority rf (holders shard) members → (n : ℕ) × IsIn members n × Covers (held opening (take i events) n s) p

-- so for each opening with which the list agrees, and for all points that this opening keeps
abbrev pub ListKeepsPoints : List Event → Type 0
ListKeepsPoints events =
    (first : Placement) (done : List (ℕ × ℕ)) → At events 0 (event.Place first done) → (opening : Opening) → AgreesWith events opening
    → (given : List (Point × ℕ)) → KeptByOpening opening first given → KeepsAll events first.rf opening given
