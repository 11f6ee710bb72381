-- What a bootstrap does with each replica of its node: it begins it and, where it joins its shard, streams from former replicas, by name, until a majority streamed
-- whole.
use Rattle.std.specs.Prelude.{◌≡◌, ◌≢◌, ◌↔◌, ◌⊎◌, ◌<◌, ◌≤◌, ℕ, ⊤, List, [], ◌∷◌, ◌++◌, length, map, filter, Option, MatchOption, option_map, is_none, Bool}
use Rattle.std.specs.List.{filter_map, flat_map}
use Rattle.m3_model.specs.Ascends.{Ascends}
use Rattle.m3_model.specs.Levels.{majority}
use Rattle.m3_model.specs.Members.{IsIn}
use Rattle.m3_model.specs.declared.placement.Assignment.{Assignment}
use Rattle.m3_model.specs.declared.placement.Placement.{Placement}
use Rattle.m3_model.specs.declared.placement.ShardState.TheVariants.{Initializing}
use Rattle.m3_model.specs.declared.point.Point.{Point}
use Rattle.m3_model.specs.declared.reason.Reason.{Reason}
use Rattle.m3_model.specs.declared.reason.Reason.TheVariants as reason
use Rattle.placement_core.specs.Lawful.{IsJoiningFrom}
use Rattle.placement_core.specs.NodeNames.{IsNamedBelow}
use Rattle.placement_core.specs.Shards.{Shard, former}
use Rattle.cluster_core.specs.Joins.{HasStreamed}
use Rattle.cluster_core.specs.Lists.{At}
use Rattle.cluster_core.specs.declared.event.Event.{Event}
use Rattle.cluster_core.specs.declared.event.StepCall.TheVariants as call
use Rattle.cluster_core.specs.declared.event.StepReply.TheVariants as reply
use Rattle.peer_streams.specs.Streams.{IsBroken, IsMergeRefused, IsPartOfStream, IsRefusedCall, IsWhole, replied}

-- ---- former replicas

-- A former replica that was asked: why it didn't stream whole, if it didn't, and what that added.
pub record AskedPeer : Type 0 where
  pub node : ℕ
  pub why : Option Reason
  pub added : List Event

-- it streamed whole
abbrev pub is_streamed : AskedPeer → Bool
is_streamed p = is_none p.why

-- those that did
abbrev pub streamed_of : List AskedPeer → List ℕ
streamed_of peers = map (λ p. p.node) (filter is_streamed peers)

-- the others, each with its reason
abbrev pub reasons_of : List AskedPeer → List (ℕ × Reason)
reasons_of peers = filter_map (λ p. option_map (λ why. (p.node, why)) p.why) peers

abbrev pub HasAnswered : ℕ → ℕ → ℕ → AskedPeer → Type 0
HasAnswered s y tenure p = MatchOption p.why (IsWhole s p.node y tenure p.added) (λ why. IsBroken s p.node y tenure why p.added)

-- These are asked, one after the other: the former replicas by name, from the first on, and these are left. Each is asked only where no majority streamed whole before.
pub record AreAsked (place : Placement) (s : ℕ) (shard : Shard) (y tenure : ℕ) (peers : List AskedPeer) (left : List ℕ) : Type 0 where
  pub by_name : Ascends (IsNamedBelow place) (map (λ p. p.node) peers ++ left)
  pub are_former : (q : ℕ) → IsIn (map (λ p. p.node) peers ++ left) q ↔ IsIn (former shard) q
  pub each : (p : AskedPeer) → IsIn peers p → HasAnswered s y tenure p
  pub no_more : (before after : List AskedPeer) (p : AskedPeer) → peers ≡ before ++ p ∷ after → length (streamed_of before) < majority place.rf

-- ---- replicas of the node

-- What came of a replica of the node: the node from which it takes over and those that it merged, where it joined; and what that added.
pub record Join : Type 0 where
  pub source : ℕ
  pub peers : List ℕ

pub record Opened : Type 0 where
  pub shard : ℕ
  pub joined : Option Join
  pub added : List Event

-- the placement gives the node the shard by this assignment
pub record IsGiven (place : Placement) (y s : ℕ) (a : Assignment) : Type 0 where
  pub shard : Shard
  pub there : At place.shards s shard
  pub among : IsIn shard a
  pub to_node : a.node ≡ y

-- a replica that refuses so is passed over
abbrev pub IsPassing : Reason → Type 0
IsPassing reason.Down = ⊤
IsPassing reason.Boot = ⊤
IsPassing reason.NotOwned = ⊤
IsPassing _ = ⊥

-- and one that refuses so ends the bootstrap
abbrev pub IsEnding : Reason → Type 0
IsEnding reason.Disk = ⊤
IsEnding (reason.Corrupt damage) = ⊤
IsEnding reason.Memory = ⊤
IsEnding _ = ⊥

-- the begin is refused, as the replica is down or doesn't own the tenure
abbrev pub IsUnbegun : Reason → Type 0
IsUnbegun reason.Down = ⊤
IsUnbegun reason.NotOwned = ⊤
IsUnbegun _ = ⊥

-- the replica begins with its tenure
abbrev pub begun_with : ℕ → ℕ → ℕ → ℕ → List Point → List Event
begun_with y s tenure fence points = replied y s (call.Begin tenure) (reply.Began fence points)

-- It streamed from these, one after the other, and then refused to merge what a further one gave.
pub record IsBrokenOff (place : Placement) (s : ℕ) (shard : Shard) (y tenure : ℕ) (why : Reason) (events : List Event) : Type 0 where
  pub peers : List AskedPeer
  pub left : List ℕ
  pub peer : ℕ
  pub asked : AreAsked place s shard y tenure peers (peer ∷ left)
  pub fewer : length (streamed_of peers) < majority place.rf
  pub last : List Event
  pub refused : IsMergeRefused s peer y tenure why last
  pub are : events ≡ flat_map (λ p. p.added) peers ++ last

-- It joined: a majority of the former replicas streamed whole.
pub record HasJoinedBy (place : Placement) (s y : ℕ) (j : Join) (events : List Event) : Type 0 where
  pub joining : Assignment
  pub given : IsGiven place y s joining
  pub joins : IsJoiningFrom j.source joining
  pub fence : ℕ
  pub points : List Point
  pub peers : List AskedPeer
  pub left : List ℕ
  pub asked : AreAsked place s given.shard y joining.tenure peers left
  pub enough : majority place.rf ≤ length (streamed_of peers)
  pub names : j.peers ≡ streamed_of peers
  pub are : events ≡ begun_with y s joining.tenure fence points ++ flat_map (λ p. p.added) peers

-- Its begin is refused, as the replica is down or doesn't own the tenure.
pub record IsPassedOver (y s tenure : ℕ) (events : List Event) : Type 0 where
  pub why : Reason
  pub unbegun : IsUnbegun why
  pub are : events ≡ replied y s (call.Begin tenure) (reply.Refused why)

-- It begins, and joins no shard.
pub record IsBegunAlone (y s : ℕ) (own : Assignment) (events : List Event) : Type 0 where
  pub stays : own.state ≢ Initializing
  pub fence : ℕ
  pub points : List Point
  pub are : events ≡ begun_with y s own.tenure fence points

-- It begins, and refuses to merge while it streams.
pub record BreaksOff (place : Placement) (s y : ℕ) (own : Assignment) (given : IsGiven place y s own) (why : Reason) (events : List Event) : Type 0 where
  pub joins : own.state ≡ Initializing
  pub fence : ℕ
  pub points : List Point
  pub streamed : List Event
  pub broken : IsBrokenOff place s given.shard y own.tenure why streamed
  pub are : events ≡ begun_with y s own.tenure fence points ++ streamed

-- It doesn't join: it is no joining one, or is passed over, before it begins or while it streams.
pub record StaysAsItWas (place : Placement) (s y : ℕ) (events : List Event) : Type 0 where
  pub own : Assignment
  pub given : IsGiven place y s own
  pub so : IsPassedOver y s own.tenure events ⊎ (IsBegunAlone y s own events ⊎ ((why : Reason) × IsPassing why × BreaksOff place s y own given why events))

abbrev pub IsOpened : Placement → ℕ → Opened → Type 0
IsOpened place y o = MatchOption o.joined (StaysAsItWas place o.shard y o.added) (λ j. HasJoinedBy place o.shard y j o.added)

-- ---- replicas that end it

-- The replica refuses its begin, or to merge, so that the bootstrap ends.
pub record IsHeldUp (place : Placement) (s y : ℕ) (why : Reason) (events : List Event) : Type 0 where
  pub own : Assignment
  pub given : IsGiven place y s own
  pub ends : IsEnding why
  pub so : IsRefusedCall y s (call.Begin own.tenure) why events ⊎ BreaksOff place s y own given why events

-- All former replicas of the joining one were asked, and fewer than a majority streamed whole.
pub record MissesPeers (place : Placement) (s y : ℕ) (peers : List AskedPeer) (events : List Event) : Type 0 where
  pub joining : Assignment
  pub given : IsGiven place y s joining
  pub is_joining : joining.state ≡ Initializing
  pub fence : ℕ
  pub points : List Point
  pub asked : AreAsked place s given.shard y joining.tenure peers []
  pub fewer : length (streamed_of peers) < majority place.rf
  pub are : events ≡ begun_with y s joining.tenure fence points ++ flat_map (λ p. p.added) peers

-- It streamed from these, one after the other, and perhaps a part of what the next one has: then memory was wanted, or the list lacked room.
pub record StopsShort (place : Placement) (s y : ℕ) (events : List Event) : Type 0 where
  pub joining : Assignment
  pub given : IsGiven place y s joining
  pub is_joining : joining.state ≡ Initializing
  pub fence : ℕ
  pub points : List Point
  pub peers : List AskedPeer
  pub left : List ℕ
  pub asked : AreAsked place s given.shard y joining.tenure peers left
  pub last : List Event
  pub part : (last ≡ []) ⊎ ((q : ℕ) × (later : List ℕ) × (left ≡ q ∷ later) × IsPartOfStream s q y joining.tenure last)
  pub are : events ≡ begun_with y s joining.tenure fence points ++ (flat_map (λ p. p.added) peers ++ last)

-- ---- what a whole stream is

-- Behind the begin of the joining replica, a former one that streamed whole is one that it has streamed.
abbrev pub WholeStreamsJoin : Type 0
WholeStreamsJoin =
    (s q y tenure fence : ℕ) (points : List Point) (front before own rest : List Event) → IsWhole s q y tenure own → HasStreamed s y tenure q (front ++ (begun_with y s tenure fence points ++ (before ++ (own ++ rest))))
