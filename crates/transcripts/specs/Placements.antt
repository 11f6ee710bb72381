-- The placements that replies print; M3DB's page "Placement".
use Rattle.std.specs.Prelude.{◌≡◌, ℕ, List, [], ◌∷◌, ◌++◌, Option, Some, None, Bool, false, if◌then◌else◌, fold, nat_lt, nat_eq, IsTrue}
use Rattle.std.specs.List.{filter_map, list_any}
use Rattle.std.specs.Option.{option_map_or}
use Rattle.m3_model.specs.Members.{IsIn}
use Rattle.m3_model.specs.declared.placement.Placement.{Placement}
use Rattle.m3_model.specs.declared.rules.MetaState.{MetaState}
use Rattle.m3_model.specs.declared.act.Act.{Act}
use Rattle.m3_model.specs.declared.act.Act.TheVariants as act
use Rattle.m3_model.specs.declared.answer.Answer.{Answer}
use Rattle.m3_model.specs.declared.answer.Answer.TheVariants as answer
use Rattle.placement_core.specs.Shards.{shard_at, counted, nodes_of}
use Rattle.transcripts.specs.Record.{InnerTurn, TurnPosition, IsAfter, inner_turns}

-- the placement that an answer prints
abbrev pub printed : Answer → Option Placement
printed (answer.Placed placement version) = Some placement
printed (answer.Available available placement version) = Some placement
printed _ = None

-- the placement at the start of a run
abbrev pub start_placement : Option MetaState → Option Placement
start_placement None = None
start_placement (Some state) = Some state.place

-- all placements from the start on
abbrev pub placements : Option MetaState → List InnerTurn → List Placement
placements None turns = filter_map (λ turn. printed turn.answer) turns
placements (Some state) turns = state.place ∷ filter_map (λ turn. printed turn.answer) turns

-- of two placements the one with the greater version
abbrev pub newer : Placement → Option Placement → Placement
newer next None = next
newer next (Some place) = if nat_lt next.version place.version then place else next

-- the placement that stands after one more was printed, if one was
abbrev pub later_placement : Option Placement → Option Placement → Option Placement
later_placement None place = place
later_placement (Some next) place = Some (newer next place)

-- the placement that the turns leave: of those printed, and the one before them, the one with the greatest version
abbrev pub placement_after : Option Placement → List InnerTurn → Option Placement
placement_after place turns = fold (λ p turn. later_placement (printed turn.answer) p) place turns

-- the placement before the line of a turn
abbrev pub placement_at : Option MetaState → TurnPosition → Option Placement
placement_at start p = placement_after (start_placement start) (inner_turns p.lines)

-- a request without a version may use this placement: one that stood between the beginning and the end of its line
abbrev pub MayStand : Option MetaState → TurnPosition → Placement → Type 0
MayStand start p place = (turns : List InnerTurn) × IsAfter p turns × (placement_after (start_placement start) turns ≡ Some place)

-- a request that gives a version uses the kept placement of that version, and else one that stood during its line
abbrev pub MayUse : Option MetaState → TurnPosition → Option ℕ → Placement → Type 0
MayUse start p None place = MayStand start p place
MayUse start p (Some version) place = IsIn (placements start (inner_turns p.lines ++ (p.earlier ++ p.beside))) place × (place.version ≡ version)

-- how many replicas a shard has; no step changes it
abbrev pub replicas_of : Option Placement → ℕ
replicas_of place = option_map_or (λ p. p.rf) place 0

-- the seed of a hash stands from `init` on
abbrev pub seed_by : Act → Answer → ℕ → ℕ
seed_by (act.Init rf shards seed nodes) (answer.Placed placement version) before = seed
seed_by _ _ before = before

abbrev pub seed_after : Option MetaState → List InnerTurn → ℕ
seed_after start turns = fold (λ seed turn. seed_by turn.act turn.answer seed) (option_map_or (λ state. state.seed) start 0) turns

-- the seed at a position of a run
abbrev pub seed_at : Option MetaState → TurnPosition → ℕ
seed_at start p = seed_after start (inner_turns p.lines)

-- the nodes of a shard whose answers count for its reads and writes
abbrev pub counted_nodes : Placement → ℕ → List ℕ
counted_nodes place shard = counted (shard_at place shard)

-- the node has the shard, and counts for reads and writes of it
abbrev pub IsCounted : Placement → ℕ → ℕ → Type 0
IsCounted place shard node = IsIn (counted_nodes place shard) node

-- the node has a replica of the shard, whether it counts or moves
abbrev pub has_replica : Option Placement → ℕ → ℕ → Bool
has_replica place shard node = option_map_or (λ p. list_any (nat_eq node) (nodes_of (shard_at p shard))) place false

-- the slot had a replica: some placement that was found, or printed in these turns, has one
pub record HadReplica (start : Option MetaState) (turns : List InnerTurn) (shard node : ℕ) : Type 0 where
  pub place : Placement
  pub known : IsIn (placements start turns) place
  pub member : IsTrue (has_replica (Some place) shard node)
