-- What a list tells of writes: each that was sent has its Send, and each that was acknowledged its Ack.
use Rattle.transcripts.specs.Placements.{seed_at}
use Rattle.std.specs.Prelude.{◌≡◌, ℕ, List, length, Option, Some, true}
use Rattle.m3_model.specs.Hash.{shard_of}
use Rattle.transcripts.specs.Calls.{Call, call_of}
use Rattle.transcripts.specs.Placements.{MayUse}
use Rattle.transcripts.specs.Points.{point_of, was_sent}
use Rattle.transcripts.specs.Record.{TurnPosition}
use Rattle.transcripts.specs.Rules.{rules_at}
use Rattle.m3_model.specs.declared.act.Act.{Act}
use Rattle.m3_model.specs.declared.act.Act.TheVariants as act
use Rattle.m3_model.specs.declared.answer.Answer.{Answer}
use Rattle.m3_model.specs.declared.answer.Answer.TheVariants as answer
use Rattle.m3_model.specs.declared.placement.Placement.{Placement}
use Rattle.m3_model.specs.declared.point.Point.{Point}
use Rattle.m3_model.specs.declared.rules.MetaState.{MetaState}
use Rattle.cluster_core.specs.Lists.{At}
use Rattle.cluster_core.specs.declared.event.Event.{Event}
use Rattle.cluster_core.specs.declared.event.Event.TheVariants as event

-- a placement that a call of this version may use, and that is a Place of the list
pub record Uses (start : Option MetaState) (events : List Event) (p : TurnPosition) (version : Option ℕ) (place : Placement) : Type 0 where
  pub may_use : MayUse start p version place
  pub place_at : ℕ
  pub done : List (ℕ × ℕ)
  pub there : At events place_at (event.Place place done)

-- the Send is the turn's: it is a write that was sent, of this point, to the shard of its identifier, at the version of a placement that it may use
pub record IsSendOf (start : Option MetaState) (events : List Event) (p : TurnPosition) (version s : ℕ) (point : Point) : Type 0 where
  pub call : Call
  pub of_act : call_of p.turn.act ≡ Some call
  pub of_point : point_of (rules_at start p).spaces p.turn.act ≡ Some point
  pub sent : was_sent p.turn.answer ≡ true
  pub place : Placement
  pub uses : Uses start events p call.version place
  pub version_is : version ≡ place.version
  pub shard_is : s ≡ shard_of point.id (seed_at start p) (length place.shards)

-- the turn's own Send stands at this position
pub record IsSendAt (Mine : ℕ → Type 0) (events : List Event) (makers : ℕ → TurnPosition) (p : TurnPosition) (send : ℕ) : Type 0 where
  pub version : ℕ
  pub s : ℕ
  pub point : Point
  pub there : At events send (event.Send version s point)
  pub mine : Mine send
  pub own : makers send ≡ p

-- the turn has a Send of its own
pub record HasSend (Mine : ℕ → Type 0) (events : List Event) (makers : ℕ → TurnPosition) (p : TurnPosition) : Type 0 where
  pub send : ℕ
  pub sent : IsSendAt Mine events makers p send

-- the turn has an Ack of its own by these nodes, of a Send of its own
pub record HasAck (Mine : ℕ → Type 0) (events : List Event) (makers : ℕ → TurnPosition) (p : TurnPosition) (nodes : List ℕ) : Type 0 where
  pub send : ℕ
  pub sent : IsSendAt Mine events makers p send
  pub ack : ℕ
  pub acked : At events ack (event.Ack send nodes)
  pub mine : Mine ack
  pub own : makers ack ≡ p

-- a write that replicas were asked to take, and too few did
abbrev pub IsUnmetWrite : Act → Answer → Type 0
IsUnmetWrite (act.Write ns id t v level version) (answer.Consistency got needed reasons shard) = Unit {0}
IsUnmetWrite _ _ = ⊥

pub record TellsWrites (start : Option MetaState) (Here : TurnPosition → Type 0) (Mine : ℕ → Type 0) (events : List Event) (makers : ℕ → TurnPosition) : Type 0 where
  -- a write that was answered ok has its Ack, with the nodes that the answer names
  pub acked : (p : TurnPosition) → Here p → (nodes : List ℕ) → p.turn.answer ≡ answer.Acks nodes → HasAck Mine events makers p nodes
  -- one that too few took has its Send
  pub sent : (p : TurnPosition) → Here p → IsUnmetWrite p.turn.act p.turn.answer → HasSend Mine events makers p
  -- each Send is that of its maker, and each Ack is of its maker's Send
  pub each_send : (i version s : ℕ) (point : Point) → Mine i → At events i (event.Send version s point) → IsSendOf start events (makers i) version s point
  pub each_ack : (i send : ℕ) (nodes : List ℕ) → Mine i → At events i (event.Ack send nodes) → IsSendAt Mine events makers (makers i) send
