-- Whether a call got as many answers as its level needs; M3DB's page "Consistency Levels".
use Rattle.std.specs.Prelude.{◌≡◌, ℕ, ◌+◌, ◌≤◌, ◌<◌, List, length, map, count_by, Option, Some, None, Bool, true, false}
use Rattle.m3_model.specs.Ascends.{Ascends}
use Rattle.m3_model.specs.Members.{IsIn}
use Rattle.m3_model.specs.Levels.{majority, needed_write, needed_read}
use Rattle.m3_model.specs.declared.act.ReadLevel.{ReadLevel}
use Rattle.m3_model.specs.declared.act.ReadLevel.TheVariants as read
use Rattle.m3_model.specs.declared.act.WriteLevel.{WriteLevel}
use Rattle.m3_model.specs.declared.placement.Placement.{Placement}
use Rattle.m3_model.specs.declared.reason.Reason.{Reason}
use Rattle.m3_model.specs.declared.rules.MetaState.{MetaState}
use Rattle.placement_core.specs.NodeNames.{IsNamedBelow}
use Rattle.transcripts.specs.Calls.{Call, call_of, AsksShard}
use Rattle.transcripts.specs.Fates.{reaches}
use Rattle.transcripts.specs.Faults.{Fault}
use Rattle.transcripts.specs.Placements.{MayUse, counted_nodes, IsCounted}
use Rattle.transcripts.specs.Reasons.{MayRefuse, MayServe, TakesPoint}
use Rattle.transcripts.specs.Record.{TurnPosition}
use Rattle.transcripts.specs.Rules.{rules_at}
use Rattle.transcripts.specs.Waiting.{IsBegunFor}

-- how many of the replicas that a level needs these counted nodes are: each is one
abbrev pub units_of : List ℕ → ℕ
units_of nodes = length nodes

-- so many of the counted replicas of a shard answered, where these others have reasons
abbrev pub AreAnswers : Placement → ℕ → ℕ → List (ℕ × Reason) → Type 0
AreAnswers place shard got reasons = got + length reasons ≡ length (counted_nodes place shard)

-- how many counted replicas of a shard the messages of the call reach
abbrev pub reached_of : TurnPosition → Placement → ℕ → ℕ
reached_of p place shard = count_by (reaches p place) (counted_nodes place shard)

-- ---- enough

-- the nodes that took a write: counted ones of the identifier's shard, each once, by name, and as many as the level needs; none whose replica lies idle
pub record IsAcked (start : Option MetaState) (p : TurnPosition) (id : List ℕ) (level : WriteLevel) (version : Option ℕ) (acks : List ℕ) : Type 0 where
  pub place : Placement
  pub may_use : MayUse start p version place
  pub counted : (shard : ℕ) → AsksShard start p place (Some id) shard → (node : ℕ) → IsIn acks node → IsCounted place shard node
  pub by_name : Ascends (IsNamedBelow place) acks
  pub reached : (node : ℕ) → IsIn acks node → reaches p place node ≡ true
  pub begun : (shard : ℕ) → AsksShard start p place (Some id) shard → (node : ℕ) → IsIn acks node → IsBegunFor start p place shard node
  pub enough : needed_write level place.rf ≤ units_of acks
  pub takes : TakesPoint (rules_at start p) p.turn.act

-- ---- too few

-- some counted replicas of a shard that didn't answer, each once with its reason, by name; all that no message reaches are among them
pub record AreSilent (tells : Bool) (faults : List Fault) (start : Option MetaState) (p : TurnPosition) (place : Placement) (shard : ℕ) (reasons : List (ℕ × Reason)) : Type 0 where
  pub counted : (r : ℕ × Reason) → IsIn reasons r → IsCounted place shard r.0
  pub by_name : Ascends (λ a b. IsNamedBelow place a.0 b.0) reasons
  pub unreached : (node : ℕ) → IsCounted place shard node → reaches p place node ≡ false → IsIn (map (λ r. r.0) reasons) node
  pub refused : (r : ℕ × Reason) → IsIn reasons r → MayRefuse tells faults start p place shard r.0 r.1

-- fewer replicas of a shard answered than the level needs, and the others have their reasons; the messages reach enough of each lower shard that is asked
pub record MissesLevel (tells : Bool) (faults : List Fault) (start : Option MetaState) (p : TurnPosition) (got needed : ℕ) (reasons : List (ℕ × Reason)) (shard : ℕ) : Type 0 where
  pub call : Call
  pub of_act : call_of p.turn.act ≡ Some call
  pub place : Placement
  pub may_use : MayUse start p call.version place
  pub asked : AsksShard start p place call.id shard
  pub first : (lower : ℕ) → lower < shard → AsksShard start p place call.id lower → needed ≤ reached_of p place lower
  pub needed_is : needed ≡ call.needed place.rf
  pub fewer : got < needed
  pub others : AreAnswers place shard got reasons
  pub silent : AreSilent tells faults start p place shard reasons
  pub served : 0 < got → MayServe (rules_at start p) p.turn.act

-- ---- short

-- some replicas of a shard answered, but fewer than a majority, and the others have their reasons
pub record IsShort (tells : Bool) (faults : List Fault) (start : Option MetaState) (p : TurnPosition) (place : Placement) (shard : ℕ) : Type 0 where
  pub reasons : List (ℕ × Reason)
  pub silent : AreSilent tells faults start p place shard reasons
  pub got : ℕ
  pub others : AreAnswers place shard got reasons
  pub some : 0 < got
  pub fewer : got < majority place.rf

-- a read is answered where its messages reach enough replicas of each shard that it asks; only an unstrict one may be short, which fewer than a majority of
-- some shard answered, and one that isn't short reaches a majority of each
pub record IsFoundFor (tells : Bool) (faults : List Fault) (start : Option MetaState) (p : TurnPosition) (id : Option (List ℕ)) (level : ReadLevel) (version : Option ℕ) (short : Bool) : Type 0 where
  pub place : Placement
  pub may_use : MayUse start p version place
  pub enough : (shard : ℕ) → AsksShard start p place id shard → needed_read level place.rf ≤ reached_of p place shard
  pub may_be_short : short ≡ true → (level ≡ read.Unstrict) × ((shard : ℕ) × AsksShard start p place id shard × IsShort tells faults start p place shard)
  pub not_short : short ≡ false → level ≡ read.Unstrict → (shard : ℕ) → AsksShard start p place id shard → majority place.rf ≤ reached_of p place shard
