-- What moves of shards leave of replicas: nodes that don't own them yet, or any more, and fences.
use Rattle.std.specs.Prelude.{◌≡◌, ℕ, suc, ◌≤◌, ◌<◌, List, [], ◌∷◌, ◌++◌, length, take, Option, Some, Bool, true, false, ◌⊎◌, ◌&&◌, is_some, IsTrue, slice_get}
use Rattle.std.specs.List.{list_any}
use Rattle.m3_model.specs.Members.{IsIn}
use Rattle.m3_model.specs.declared.act.Act.{Act}
use Rattle.m3_model.specs.declared.act.Act.TheVariants as act
use Rattle.m3_model.specs.declared.placement.Assignment.{Assignment}
use Rattle.m3_model.specs.declared.placement.Placement.{Placement}
use Rattle.m3_model.specs.declared.rules.MetaState.{MetaState}
use Rattle.m3_model.specs.declared.turn.Turn.{Turn}
use Rattle.placement_core.specs.Shards.{shard_at}
use Rattle.transcripts.specs.Fates.{OfNode}
use Rattle.transcripts.specs.Placements.{MayStand, has_replica, placement_after, placement_at, start_placement}
use Rattle.transcripts.specs.Record.{InnerTurn, TurnPosition, inner_turns}
use Rattle.transcripts.specs.Waiting.{Replica, is_assigned, is_begun_by, is_covering, is_member}

-- the placement gives the node the shard with a tenure of this kind
pub record HasAssignment (place : Placement) (shard node : ℕ) (Kind : ℕ → Type 0) : Type 0 where
  pub assignment : Assignment
  pub among : IsIn (shard_at place shard) assignment
  pub of_node : assignment.node ≡ node
  pub kind : Kind assignment.tenure

-- ---- nodes that don't own the shard

-- in a placement that may stand the node has no replica of the shard, or has it with a tenure above the version
pub record OwnsNot (start : Option MetaState) (p : TurnPosition) (shard node version : ℕ) : Type 0 where
  pub place : Placement
  pub may_stand : MayStand start p place
  pub not_owned : (has_replica (Some place) shard node ≡ false) ⊎ HasAssignment place shard node (λ tenure. version < tenure)

-- the placement that stands after so many lines
abbrev pub placement_by : Option MetaState → List Turn → ℕ → Option Placement
placement_by start turns lines = placement_after (start_placement start) (inner_turns (take lines turns))

-- a bootstrap of these turns that covers the replica was answered ok; the replica is a member of the one placement and of the other
abbrev pub is_begun_in : Replica → Option Placement → Option Placement → List InnerTurn → Bool
is_begun_in x before next turns = list_any (λ turn. is_begun_by x (is_member x before && is_member x next) turn.act turn.answer) turns

-- a line after the first placement assigned the replica, and where the disks tell what they hold no bootstrap that covers it was answered ok since
pub record IsNew (tells : Bool) (x : Replica) (start : Option MetaState) (p : TurnPosition) : Type 0 where
  pub lines : ℕ
  pub earlier : lines < length p.lines
  pub assigned : is_assigned x (placement_by start p.lines lines) (placement_by start p.lines (suc lines)) ≡ true
  pub not_since : tells ≡ true → (k : ℕ) (line : Turn) → lines < k → slice_get p.lines k ≡ Some line → is_begun_in x (placement_by start p.lines k) (placement_by start p.lines (suc k)) (inner_turns (line ∷ [])) ≡ false
  pub not_beside : tells ≡ true → is_begun_in x (placement_by start p.lines (length p.lines)) (placement_after (placement_by start p.lines (length p.lines)) (p.earlier ++ p.beside)) p.earlier ≡ false

-- the node doesn't own the shard at the version of the placement that the call uses
abbrev pub IsUnowned : Bool → Option MetaState → TurnPosition → Placement → ℕ → ℕ → Type 0
IsUnowned tells start p used shard node = OwnsNot start p shard node used.version ⊎ OfNode used node (λ name. IsNew tells (record { shard = shard; node = node; name = name }) start p)

-- ---- fences

-- the act asks for a bootstrap of the shard on the node of this name
abbrev pub IsBootstrapFor : ℕ → List ℕ → Act → Type 0
IsBootstrapFor shard name (act.Bootstrap node asked) = (node ≡ name) × IsTrue (is_covering shard asked)
IsBootstrapFor shard name _ = ⊥

-- in one of these lines the turn was taken, and the placement stood at the line's beginning or at its end
pub record IsTakenIn (start : Option MetaState) (lines : List Turn) (place : Placement) (turn : InnerTurn) : Type 0 where
  pub number : ℕ
  pub line : Turn
  pub stands : slice_get lines number ≡ Some line
  pub taken : IsIn (inner_turns (line ∷ [])) turn
  pub stood : (placement_by start lines number ≡ Some place) ⊎ (placement_by start lines (suc number) ≡ Some place)

-- the turn was taken before this one or beside it: in an earlier line so, or in its own line, at whose beginning the placement stood
abbrev pub IsTakenBy : Option MetaState → TurnPosition → Placement → InnerTurn → Type 0
IsTakenBy start p place turn = IsTakenIn start p.lines place turn ⊎ (IsIn (p.earlier ++ p.beside) turn × (placement_at start p ≡ Some place))

-- a placement assigns the shard with the fence as tenure, and a bootstrap of that node and shard was taken with it, before the turn or beside it
pub record IsOfMove (start : Option MetaState) (p : TurnPosition) (shard fence : ℕ) : Type 0 where
  pub place : Placement
  pub node : ℕ
  pub assigned : HasAssignment place shard node (λ tenure. tenure ≡ fence)
  pub turn : InnerTurn
  pub taken : IsTakenBy start p place turn
  pub asks : OfNode place node (λ name. IsBootstrapFor shard name turn.act)

-- an earlier run may have left the fence: it isn't above the version that this one found
pub record IsLeftFence (start : Option MetaState) (fence : ℕ) : Type 0 where
  pub state : MetaState
  pub found : start ≡ Some state
  pub not_above : fence ≤ state.place.version

-- a fence above the version of the placement that the call uses, and not above one that may stand: that of a move of the shard whose bootstrap was asked, or
-- one that an earlier run left
pub record IsFencedAbove (start : Option MetaState) (p : TurnPosition) (used : Placement) (shard fence : ℕ) : Type 0 where
  pub above : used.version < fence
  pub place : Placement
  pub may_stand : MayStand start p place
  pub not_above : fence ≤ place.version
  pub cause : IsLeftFence start fence ⊎ IsOfMove start p shard fence
