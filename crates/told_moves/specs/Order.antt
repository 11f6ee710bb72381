-- How a cluster that serves its lines one after the other makes its list, beside what tells of its turns; and what a run finds on its disks.
use Rattle.std.specs.Prelude.{◌≡◌, ◌⊎◌, ℕ, ⊤, List, [], take, Option, Some, true, false}
use Rattle.m3_model.specs.declared.act.Act.{Act}
use Rattle.m3_model.specs.declared.act.Act.TheVariants as act
use Rattle.m3_model.specs.declared.placement.Placement.{Placement}
use Rattle.m3_model.specs.declared.point.Point.{Point}
use Rattle.m3_model.specs.declared.rules.MetaState.{MetaState}
use Rattle.m3_model.specs.declared.turn.Turn.{Turn}
use Rattle.placement_core.specs.Lawful.{IsLawful}
use Rattle.cluster_core.specs.Earlier.{last_place}
use Rattle.cluster_core.specs.Lists.{At}
use Rattle.cluster_core.specs.Replicas.{replica}
use Rattle.cluster_core.specs.declared.event.Event.{Event}
use Rattle.cluster_core.specs.declared.event.Event.TheVariants as event
use Rattle.cluster_core.specs.declared.event.StepCall.TheVariants as call
use Rattle.cluster_core.specs.declared.event.StepReply.{StepReply}
use Rattle.cluster_core.specs.declared.event.StepReply.TheVariants as reply
use Rattle.transcripts.specs.Moves.{IsLeftFence}
use Rattle.transcripts.specs.Placements.{has_replica, printed}
use Rattle.transcripts.specs.Record.{TurnPosition, IsTurnPosition}
use Rattle.told_by.specs.Openings.{sets_seed}
use Rattle.told_by.specs.Told.{ToldBy}
use Rattle.told_causes.specs.Boot.{ArePlacesInOrder}

-- the act makes the first placement
abbrev pub IsInitAct : Act → Type 0
IsInitAct (act.Init rf shards seed nodes) = ⊤
IsInitAct _ = ⊥

-- Places are in order; an `init` that prints a placement is answered ok; each Place is a lawful placement; a tenure ends
-- where the placement that stands has no replica of the slot
pub record IsInOrder (start : Option MetaState) (turns : List Turn) (events : List Event) (told : ToldBy start turns events) : Type 0 where
  pub places : ArePlacesInOrder start turns events told
  pub inits : (q : TurnPosition) → IsTurnPosition turns q → IsInitAct q.turn.act → (place : Placement) → printed q.turn.answer ≡ Some place → sets_seed q.turn.act q.turn.answer ≡ true
  pub lawful : (i : ℕ) (place : Placement) (done : List (ℕ × ℕ)) → At events i (event.Place place done) → IsLawful place
  pub ends : (i node shard : ℕ) (a : StepReply) → At events i (event.Step node shard call.End a) → (place : Placement) → last_place (take i events) ≡ Some place → has_replica (Some place) shard node ≡ false

-- the fence with which a slot first begins is its tenure, or isn't above the version that the run found
pub record OpensWithin (start : Option MetaState) (events : List Event) : Type 0 where
  pub fenced : (i node shard tenure fence : ℕ) (points : List Point) → At events i (event.Step node shard (call.Begin tenure) (reply.Began fence points)) → (replica node shard (take i events)).begun ≡ [] → (fence ≡ tenure) ⊎ IsLeftFence start fence
