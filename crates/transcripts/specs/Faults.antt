-- Faults of disks and damages of files in a run, and the replicas that they close.
use Rattle.std.specs.Prelude.{◌≡◌, ℕ, suc, ◌≤◌, ◌<◌, ⊤, List, [], ◌∷◌, length, take, drop, Option, Bool, true, false, IsTrue}
use Rattle.std.specs.List.{list_any}
use Rattle.std.specs.Cmp.Lexicographic.{pointwise}
use Rattle.std.specs.Prelude.{nat_eq}
use Rattle.m3_model.specs.Members.{IsIn}
use Rattle.m3_model.specs.declared.act.Act.{Act}
use Rattle.m3_model.specs.declared.act.Act.TheVariants as act
use Rattle.m3_model.specs.declared.answer.Answer.{Answer}
use Rattle.m3_model.specs.declared.answer.Answer.TheVariants as answer
use Rattle.m3_model.specs.declared.placement.Placement.{Placement}
use Rattle.m3_model.specs.declared.rules.MetaState.{MetaState}
use Rattle.transcripts.specs.Fates.{OfNode}
use Rattle.transcripts.specs.Placements.{HadReplica}
use Rattle.transcripts.specs.Record.{InnerTurn, TurnPosition, inner_turns}

-- The disk of a slot couldn't be taken, by a fault of the disks as a whole; the slot's own disk failed; or bytes of its files were found damaged.
pub data FaultKind : Type 0 where
  Taking : FaultKind
  Failing : FaultKind
  Damaged : FaultKind

-- A fault or a damage at the slot of a node and a shard, in a line of the run.
pub record Fault : Type 0 where
  pub line : ℕ  -- so many lines with a turn stand before it
  pub node : ℕ
  pub shard : ℕ
  pub kind : FaultKind

-- no two of them are alike
abbrev pub AreDifferent : List Fault → Type 0
AreDifferent [] = ⊤
AreDifferent (fault ∷ faults) = ¬ IsIn faults fault × AreDifferent faults

-- a fault of this kind came at the slot in this very line
abbrev pub CameAt : FaultKind → List Fault → TurnPosition → ℕ → ℕ → Type 0
CameAt kind faults p shard node = IsIn faults (record { line = length p.lines; node = node; shard = shard; kind = kind })

-- the disk of the slot couldn't be taken
abbrev pub IsUntaken : List Fault → TurnPosition → ℕ → ℕ → Type 0
IsUntaken = CameAt Taking

-- the disk of the slot failed
abbrev pub HasFailed : List Fault → TurnPosition → ℕ → ℕ → Type 0
HasFailed = CameAt Failing

-- the files of the slot were found damaged
abbrev pub IsDamaged : List Fault → TurnPosition → ℕ → ℕ → Type 0
IsDamaged = CameAt Damaged

-- the kind of a fault that came while a disk was taken
abbrev pub is_taking : FaultKind → Bool
is_taking Taking = true
is_taking _ = false

-- the kind of a fault of a slot's own disk
abbrev pub is_failing : FaultKind → Bool
is_failing Failing = true
is_failing _ = false

-- a disk that fails, or files that are damaged, close the replica over them; a disk that couldn't be taken has none
abbrev pub closes : FaultKind → Bool
closes Taking = false
closes Failing = true
closes Damaged = true

-- the node was restarted
abbrev pub is_restart : List ℕ → InnerTurn → Bool
is_restart name turn = restarts turn.act turn.answer
  where
    restarts : Act → Answer → Bool
    restarts (act.Restart node pick) answer.Done = pointwise nat_eq name node
    restarts _ _ = false

-- a fault or damage closed the replica in this line, or in an earlier one by whose end the slot had one, and its node wasn't restarted since
pub record IsClosedByFault (faults : List Fault) (start : Option MetaState) (p : TurnPosition) (place : Placement) (shard node : ℕ) : Type 0 where
  pub fault : Fault
  pub among : IsIn faults fault
  pub of_node : fault.node ≡ node
  pub of_shard : fault.shard ≡ shard
  pub closing : IsTrue (closes fault.kind)
  pub not_later : fault.line ≤ length p.lines
  pub was_there : fault.line < length p.lines → HadReplica start (inner_turns (take (suc fault.line) p.lines)) shard node
  pub not_restarted : OfNode place node (λ name. list_any (is_restart name) (inner_turns (drop (suc fault.line) p.lines)) ≡ false)
