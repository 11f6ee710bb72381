-- What upkeep and `status` answer: one entry of each member of a placement that stands.
use Rattle.std.specs.Prelude.{◌≡◌, ◌<◌, ◌⊎◌, ◌↔◌, ℕ, List, map, Bool, Option, Result, option_map}
use Rattle.std.specs.List.{Any, filter_map}
use Rattle.std.specs.Result.{result_ok, result_err}
use Rattle.m3_model.specs.Ascends.{Ascends}
use Rattle.m3_model.specs.Members.{IsIn}
use Rattle.m3_model.specs.declared.answer.StatusLine.{StatusLine}
use Rattle.m3_model.specs.declared.placement.Placement.{Placement}
use Rattle.m3_model.specs.declared.reason.Reason.{Reason}
use Rattle.m3_model.specs.declared.reason.Reason.TheVariants as reason
use Rattle.m3_model.specs.declared.rules.MetaState.{MetaState}
use Rattle.placement_core.specs.NodeNames.{IsNamedBelow}
use Rattle.placement_core.specs.Shards.{nodes_of, shard_at}
use Rattle.transcripts.specs.Fates.{IsRunningAt}
use Rattle.transcripts.specs.Faults.{Fault}
use Rattle.transcripts.specs.Placements.{MayStand}
use Rattle.transcripts.specs.Reasons.{MayFail}
use Rattle.transcripts.specs.Record.{TurnPosition}
use Rattle.transcripts.specs.Rules.{rules_at}
use Rattle.transcripts.specs.Waiting.{IsBegunFor}

-- ---- the members of a placement

-- a node's replica of a shard is before another: of a lower shard, or of the same one and by the node's name
abbrev pub IsSlotBelow : Placement → ℕ × ℕ → ℕ × ℕ → Type 0
IsSlotBelow place a b = (a.1 < b.1) ⊎ ((a.1 ≡ b.1) × IsNamedBelow place a.0 b.0)

-- these are the nodes with their shards, each once, by shard and then by name
pub record AreAllMembers (place : Placement) (slots : List (ℕ × ℕ)) : Type 0 where
  pub each : (node shard : ℕ) → IsIn slots (node, shard) ↔ IsIn (nodes_of (shard_at place shard)) node
  pub in_order : Ascends (IsSlotBelow place) slots

-- ---- upkeep

-- What came of an upkeep call at a node's replica of a shard: how much was done, or why it was refused.
pub record Entry : Type 0 where
  pub node : ℕ
  pub shard : ℕ
  pub said : Result ℕ Reason

-- the node with the shard
abbrev pub slot_of : Entry → ℕ × ℕ
slot_of e = (e.node, e.shard)

-- those that did it
abbrev pub done_in : List Entry → List (ℕ × ℕ × ℕ)
done_in entries = filter_map (λ e. option_map (λ n. (e.node, e.shard, n)) (result_ok e.said)) entries

-- and those that refused
abbrev pub failed_in : List Entry → List (ℕ × ℕ × Reason)
failed_in entries = filter_map (λ e. option_map (λ why. (e.node, e.shard, why)) (result_err e.said)) entries

-- each member of a placement that stands did it or refused
pub record IsSweptOver (start : Option MetaState) (p : TurnPosition) (done : List (ℕ × ℕ × ℕ)) (failed : List (ℕ × ℕ × Reason)) : Type 0 where
  pub place : Placement
  pub stands : MayStand start p place
  pub entries : List Entry
  pub members : AreAllMembers place (map slot_of entries)
  pub done_are : done ≡ done_in entries
  pub failed_are : failed ≡ failed_in entries

-- Why the replica of a node for a shard may refuse upkeep: it knows no version, so that neither its tenure nor its fence is a reason.
abbrev pub MayNotKeepUp : Bool → List Fault → Option MetaState → TurnPosition → Placement → ℕ → ℕ → Reason → Type 0
MayNotKeepUp tells faults start p place shard node reason.NotOwned = ⊥
MayNotKeepUp tells faults start p place shard node (reason.Stale fence) = ⊥
MayNotKeepUp tells faults start p place shard node why = MayFail tells faults start p place shard node why

-- and the nodes of those that did it run, none of these lies idle, and those that refused have their causes
pub record IsSwept (tells : Bool) (faults : List Fault) (start : Option MetaState) (p : TurnPosition) (done : List (ℕ × ℕ × ℕ)) (failed : List (ℕ × ℕ × Reason)) : Type 0 where
  pub over : IsSweptOver start p done failed
  pub running : (x : ℕ × ℕ × ℕ) → IsIn done x → IsRunningAt p over.place x.0
  pub begun : (x : ℕ × ℕ × ℕ) → IsIn done x → IsBegunFor start p over.place x.1 x.0
  pub refused : (x : ℕ × ℕ × Reason) → IsIn failed x → MayNotKeepUp tells faults start p over.place x.1 x.0 x.2

-- ---- status

-- A `status` has the moment, the version of a placement that stands, and one line of each of its members, with the state in which it has its shard.
pub record IsStatus (start : Option MetaState) (p : TurnPosition) (now : ℕ) (lines : List StatusLine) (version : ℕ) : Type 0 where
  pub place : Placement
  pub stands : MayStand start p place
  pub now_is : now ≡ (rules_at start p).now
  pub version_is : version ≡ place.version
  pub members : AreAllMembers place (map (λ line. (line.node, line.shard)) lines)
  pub states : (line : StatusLine) → IsIn lines line → Any (λ a. (a.node ≡ line.node) × (a.state ≡ line.state)) (shard_at place line.shard)
