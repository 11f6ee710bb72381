-- The state that the turns of a run leave, and what is left of it on the meta disk.
use Rattle.std.specs.Prelude.{◌≡◌, ◌⊎◌, ℕ, List, Option, Some, None}
use Rattle.std.specs.Option.{option_map_or}
use Rattle.m3_model.specs.declared.rules.MetaState.{MetaState}
use Rattle.m3_model.specs.declared.turn.Request.{Request}
use Rattle.m3_model.specs.declared.turn.Turn.{Turn}
use Rattle.m3_outside.specs.DiskState.{DiskState, EachImage, Told}
use Rattle.m3_outside.specs.Depots.{Depot}
use Rattle.m3_outside.specs.Files.{Files}
use Rattle.m3_outside.specs.Slots.{Held, Here}
use Rattle.transcripts.specs.Caused.{versions_after}
use Rattle.transcripts.specs.Fates.{is_stopped}
use Rattle.transcripts.specs.Placements.{seed_after, start_placement}
use Rattle.transcripts.specs.Record.{inner_turns}
use Rattle.transcripts.specs.Refusals.{kept_versions}
use Rattle.transcripts.specs.Rules.{rules_after, start_rules}
use Rattle.placement_log.specs.MetaHolds.{MetaHolds}
use Rattle.saved_cluster.specs.Openings.{IsMetaDisk}
use Rattle.saved_cluster.specs.States.{IsOnRunning, RequestLeadsTo}
use Rattle.m3_program.specs.Exchanges.{known_place}

-- ---- states

-- the seed of a state; where there is none it is 0
abbrev pub seed_of : Option MetaState → ℕ
seed_of state = option_map_or (λ s. s.seed) state 0

-- The turns of a run that found the first of these states, if it found one, leave the last: its placement, its moment and namespaces, and its seed.
pub record LeaveState (start : Option MetaState) (turns : List Turn) (last : Option MetaState) : Type 0 where
  pub place : known_place start turns ≡ start_placement last
  pub rules : rules_after (start_rules start) (inner_turns turns) ≡ start_rules last
  pub seed : seed_after start (inner_turns turns) ≡ seed_of last

-- how many versions are kept after the turns of a run that found the first of these states
abbrev pub kept_by : Option MetaState → List Turn → Option MetaState → ℕ
kept_by start turns state = kept_versions (start_placement state) (versions_after start (inner_turns turns))

-- The request leads from the state that the turns left to the next one, by as many versions as they left to be kept, and the node of a bootstrap isn't one that they
-- stopped: so a request that is due to be refused leads to none.
pub record LeadsUnanswered (start : Option MetaState) (turns : List Turn) (state : Option MetaState) (request : Request) (next : MetaState) : Type 0 where
  pub kept : ℕ
  pub leads : RequestLeadsTo state kept request next
  pub kept_is : kept ≡ kept_by start turns state
  pub running : IsOnRunning (is_stopped (inner_turns turns)) request

-- a request that got no reply, if there is one, leads to this state from the one that the turns left
abbrev pub MayLead : Option MetaState → List Turn → Option MetaState → Option Request → Option MetaState → Type 0
MayLead start turns state None last = ⊥
MayLead start turns state (Some request) last = (next : MetaState) × (last ≡ Some next) × LeadsUnanswered start turns state request next

-- It is the state that the turns leave, or the one to which the request leads from there that got no reply.
pub record MayBeLast (start : Option MetaState) (turns : List Turn) (unanswered : Option Request) (last : Option MetaState) : Type 0 where
  pub state : Option MetaState
  pub leave : LeaveState start turns state
  pub is : (last ≡ state) ⊎ MayLead start turns state unanswered last

-- ---- the meta disk

-- what it held when the run began: this state as the last one, or none
pub record IsFound {D : Type 0} (disk_state : D → DiskState) (first : Depot D) (start : Option MetaState) : Type 0 where
  pub disk : D
  pub is_meta : IsMetaDisk disk_state first disk
  pub last : Told (disk_state disk) (MetaHolds start)

-- files hold such a state as the last one
pub record HoldsLast (start : Option MetaState) (turns : List Turn) (unanswered : Option Request) (files : Files) : Type 0 where
  pub last : Option MetaState
  pub may : MayBeLast start turns unanswered last
  pub holds : MetaHolds last files

-- so does all that a stop leaves
abbrev pub StopsLeave : DiskState → Option MetaState → List Turn → Option Request → Type 0
StopsLeave d start turns unanswered = EachImage d (HoldsLast start turns unanswered)

-- the disk is back in its slot, and this is what stops leave of it
pub record LeavesMeta {D : Type 0} (disk_state : D → DiskState) (held : Held D) (start : Option MetaState) (turns : List Turn) (unanswered : Option Request) : Type 0 where
  pub disk : D
  pub back : held ≡ Here disk
  pub leaves : StopsLeave (disk_state disk) start turns unanswered
