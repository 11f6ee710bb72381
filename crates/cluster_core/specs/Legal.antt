-- Which lists of events are legal: each event is lawful after those before it.
use Rattle.std.specs.Prelude.{◌≡◌, ◌≤◌, ℕ, zero, suc, ⊤, List, [], ◌∷◌, take, drop, Some, Bool, true}
use Rattle.std.specs.List.{All, Any}
use Rattle.m3_model.specs.Reads.{space_picked}
use Rattle.m3_model.specs.declared.placement.Assignment.{Assignment}
use Rattle.m3_model.specs.declared.placement.Placement.{Placement}
use Rattle.m3_model.specs.declared.placement.ShardState.TheVariants.{Initializing}
use Rattle.m3_model.specs.declared.point.Pick.{Pick}
use Rattle.m3_model.specs.declared.point.Series.{Series}
use Rattle.m3_model.specs.declared.rules.Rules.{Rules}
use Rattle.placement_core.specs.Lawful.{IsLawful}
use Rattle.placement_core.specs.Shards.{Shard}
use Rattle.placement_core.specs.Steps.{IsStep}
use Rattle.cluster_core.specs.Answers.{IsJoin}
use Rattle.cluster_core.specs.Asks.{WasAsked, StepWasAsked}
use Rattle.cluster_core.specs.Earlier.{HasClock, HasShard, AreCounted, HasPut, GaveAnswer, last_place, last_clock}
use Rattle.cluster_core.specs.Joins.{HasJoined}
use Rattle.cluster_core.specs.Lists.{At, IsPrefix, IsDistinct}
use Rattle.cluster_core.specs.Replicas.{replica}
use Rattle.cluster_core.specs.Rows.{LawfulStep}
use Rattle.cluster_core.specs.declared.event.Event.{Event}
use Rattle.cluster_core.specs.declared.event.Event.TheVariants as event

-- the moment doesn't go back, and namespaces stay at their positions
pub record IsNextClock (past : List Event) (rules : Rules) : Type 0 where
  pub last : Rules
  pub last_is : last_clock past ≡ Some last
  pub not_lower : last.now ≤ rules.now
  pub grows : IsPrefix last.spaces rules.spaces

-- where the node joins the shard by this assignment, it has merged what a majority of the former replicas had
abbrev pub JoinedThere : List Event → ℕ → Shard → ℕ → ℕ → Assignment → Type 0
JoinedThere past rf shard s y a = a.node ≡ y → a.state ≡ Initializing → HasJoined past rf shard s y a.tenure

abbrev pub JoinedAt : List Event → Placement → ℕ → ℕ → Type 0
JoinedAt past place s y = (shard : Shard) → At place.shards s shard → All (JoinedThere past place.rf shard s y) shard

-- a step from the last placement, in which each replica that turns Available has joined
pub record IsNextPlace (past : List Event) (placement : Placement) (done : List (ℕ × ℕ)) : Type 0 where
  pub last : Placement
  pub last_is : last_place past ≡ Some last
  pub step : IsStep last placement done
  pub joined : All (λ d. JoinedAt past last d.0 d.1) done

-- different nodes that count for the shard of the Send, each of which took its point
abbrev pub AcksSend : List Event → List ℕ → Event → Type 0
AcksSend past nodes (event.Send version s point) = IsDistinct nodes × AreCounted past version s nodes × All (λ n. HasPut past n s version point) nodes
AcksSend past nodes _ = ⊥

-- the Ack of the Send at this position
abbrev pub IsAck : List Event → ℕ → List ℕ → Type 0
IsAck past send nodes = (sent : Event) × At past send sent × AcksSend past nodes sent

-- one answer of each node to the FetchStart, given in these events
abbrev pub EachAnswered : List Event → Event → List ℕ → List (List Series) → Type 0
EachAnswered since fetch [] [] = ⊤
EachAnswered since fetch (n ∷ nodes) (answer ∷ answers) = Any (GaveAnswer n fetch answer) since × EachAnswered since fetch nodes answers
EachAnswered since fetch [] (answer ∷ answers) = ⊥
EachAnswered since fetch (n ∷ nodes) [] = ⊥

-- the series are the join of an answer of each node since then
pub record IsJoined (since : List Event) (fetch : Event) (pick : Pick) (nodes : List ℕ) (series : List Series) : Type 0 where
  pub answers : List (List Series)
  pub answered : EachAnswered since fetch nodes answers
  pub joined : IsJoin (space_picked pick) answers series

-- different nodes that count for the shard of the FetchStart, with the join of an answer of each since then
abbrev pub EndsFetch : List Event → List Event → List ℕ → List Series → Event → Type 0
EndsFetch past since nodes series (event.FetchStart version s rules pick from to) =
    IsDistinct nodes × AreCounted past version s nodes × IsJoined since (event.FetchStart version s rules pick from to) pick nodes series
EndsFetch past since nodes series _ = ⊥

-- the end of the fetch that started at this position
abbrev pub IsFetched : List Event → ℕ → List ℕ → List Series → Type 0
IsFetched past start nodes series = (fetch : Event) × At past start fetch × EndsFetch past (drop (suc start) past) nodes series fetch

-- the events past the first two
abbrev pub Lawful : Bool → List Event → Event → Type 0
Lawful tells past (event.Ask asked) = ⊤
Lawful tells past (event.Clock rules) = WasAsked past (event.Clock rules) × IsNextClock past rules
Lawful tells past (event.Place placement done) = WasAsked past (event.Place placement done) × IsNextPlace past placement done
Lawful tells past (event.Send version s point) = HasShard past version s
Lawful tells past (event.Ack send nodes) = IsAck past send nodes
Lawful tells past (event.FetchStart version s rules pick from to) = HasShard past version s × HasClock past rules
Lawful tells past (event.FetchDone start nodes series) = IsFetched past start nodes series
Lawful tells past (event.Step n s c a) = StepWasAsked past (event.Step n s c a) × LawfulStep tells past n s (replica n s past) c a

-- the opening placement, which ends no move
abbrev pub IsOpeningPlace : Event → Type 0
IsOpeningPlace (event.Place placement done) = IsLawful placement × (done ≡ [])
IsOpeningPlace _ = ⊥

-- the opening moment and namespaces
abbrev pub IsSecond : Event → Type 0
IsSecond (event.Clock rules) = ⊤
IsSecond _ = ⊥

-- an event is lawful at its position
abbrev pub LawfulAt : Bool → ℕ → List Event → Event → Type 0
LawfulAt tells zero past e = IsOpeningPlace e
LawfulAt tells (suc zero) past e = IsSecond e
LawfulAt tells (suc (suc i)) past e = Lawful tells past e

-- each event is lawful after those before it; where disks don't tell, but for what rests on their contents
abbrev pub Legal : Bool → List Event → Type 0
Legal tells events = (i : ℕ) (e : Event) → At events i e → LawfulAt tells i (take i events) e

-- A list that is legal where the disks tell is legal over any disks.
abbrev pub LegalOverAny : Type 0
LegalOverAny = (tells : Bool) (events : List Event) → Legal true events → Legal tells events
