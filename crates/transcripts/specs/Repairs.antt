-- What a repair answers: of each shard, which of its counted replicas took part to the end, and why the others refused.
use Rattle.std.specs.Prelude.{◌≡◌, ◌<◌, ◌≤◌, ◌⊎◌, ◌↔◌, ℕ, List, length, map, Option, Bool}
use Rattle.m3_model.specs.Ascends.{Ascends}
use Rattle.m3_model.specs.Members.{IsIn}
use Rattle.m3_model.specs.declared.answer.RepairLine.{RepairLine}
use Rattle.m3_model.specs.declared.placement.Placement.{Placement}
use Rattle.m3_model.specs.declared.reason.Reason.{Reason}
use Rattle.m3_model.specs.declared.reason.Reason.TheVariants as reason
use Rattle.m3_model.specs.declared.rules.MetaState.{MetaState}
use Rattle.placement_core.specs.NodeNames.{IsNamedBelow}
use Rattle.transcripts.specs.Fates.{IsRunningAt}
use Rattle.transcripts.specs.Faults.{Fault}
use Rattle.transcripts.specs.Placements.{IsCounted, MayStand}
use Rattle.transcripts.specs.Record.{TurnPosition}
use Rattle.transcripts.specs.Sweeps.{MayNotKeepUp}

-- a digest of 32 bytes
abbrev pub IsDigest : List ℕ → Type 0
IsDigest digest = length digest ≡ 32

-- the replica of the reason is closed, or waits for a bootstrap: it took no part from the beginning
abbrev pub IsAway : Reason → Type 0
IsAway why = (why ≡ reason.Down) ⊎ (why ≡ reason.Boot)

-- Each counted replica of a shard either took part to the end, which only one whose node runs does, or refused for a cause; these and those stand by name. Where
-- only replicas refused that took no part from the beginning, the digests of the others are equal.
pub record IsRepairedIn (tells : Bool) (faults : List Fault) (start : Option MetaState) (p : TurnPosition) (place : Placement) (line : RepairLine) : Type 0 where
  pub counted : (node : ℕ) → IsCounted place line.shard node ↔ (IsIn (map (λ d. d.0) line.digests) node ⊎ IsIn (map (λ r. r.0) line.failed) node)
  pub either : (d : ℕ × List ℕ) (r : ℕ × Reason) → IsIn line.digests d → IsIn line.failed r → ¬ (d.0 ≡ r.0)
  pub digests_by_name : Ascends (λ a b. IsNamedBelow place a.0 b.0) line.digests
  pub failed_by_name : Ascends (λ a b. IsNamedBelow place a.0 b.0) line.failed
  pub digested : (d : ℕ × List ℕ) → IsIn line.digests d → IsRunningAt p place d.0 × IsDigest d.1
  pub refused : (r : ℕ × Reason) → IsIn line.failed r → MayNotKeepUp tells faults start p place line.shard r.0 r.1
  pub equal : ((r : ℕ × Reason) → IsIn line.failed r → IsAway r.1) → (d e : ℕ × List ℕ) → IsIn line.digests d → IsIn line.digests e → d.1 ≡ e.1

-- a repair has one line of each shard of a placement that stands, by its number
pub record IsRepaired (tells : Bool) (faults : List Fault) (start : Option MetaState) (p : TurnPosition) (lines : List RepairLine) : Type 0 where
  pub place : Placement
  pub stands : MayStand start p place
  pub by_shard : Ascends (λ a b. a.shard < b.shard) lines
  pub all : length lines ≡ length place.shards
  pub within : (line : RepairLine) → IsIn lines line → line.shard < length place.shards
  pub each : (line : RepairLine) → IsIn lines line → IsRepairedIn tells faults start p place line
