-- Why a bootstrap ends no move: too few former replicas of a shard streamed whole, or no version is left.
use Rattle.std.specs.Prelude.{◌≡◌, ◌⊎◌, ◌+◌, ◌<◌, ◌≤◌, ℕ, ⊤, List, [], ◌∷◌, length, map, Option, Some, Bool, IsTrue}
use Rattle.m3_model.specs.Ascends.{Ascends}
use Rattle.m3_model.specs.Levels.{majority}
use Rattle.m3_model.specs.Members.{IsIn}
use Rattle.m3_model.specs.declared.limits.TheConstants.{MOST_VERSIONS}
use Rattle.m3_model.specs.declared.placement.Assignment.{Assignment}
use Rattle.m3_model.specs.declared.placement.Placement.{Placement}
use Rattle.m3_model.specs.declared.placement.ShardState.TheVariants.{Initializing}
use Rattle.m3_model.specs.declared.reason.Reason.{Reason}
use Rattle.m3_model.specs.declared.reason.Reason.TheVariants as reason
use Rattle.m3_model.specs.declared.rules.MetaState.{MetaState}
use Rattle.placement_core.specs.NodeNames.{IsNamedBelow}
use Rattle.placement_core.specs.Shards.{former, shard_at}
use Rattle.transcripts.specs.Fates.{IsRunningAt, OfNode}
use Rattle.transcripts.specs.Faults.{Fault}
use Rattle.transcripts.specs.Joined.{ArePeers}
use Rattle.transcripts.specs.Moves.{IsNew, OwnsNot}
use Rattle.transcripts.specs.Placements.{MayStand, placement_after, placements, start_placement}
use Rattle.transcripts.specs.Reasons.{MayFail}
use Rattle.transcripts.specs.Record.{InnerTurn, IsAfter, TurnPosition}
use Rattle.transcripts.specs.Refusals.{kept_versions}
use Rattle.transcripts.specs.Waiting.{IsBegunFor, Replica, is_covering}

-- a node joins the shard in the placement, with this tenure
pub record IsJoinedWith (place : Placement) (shard tenure : ℕ) : Type 0 where
  pub joining : Assignment
  pub among : IsIn (shard_at place shard) joining
  pub is_joining : joining.state ≡ Initializing
  pub tenure_is : joining.tenure ≡ tenure

-- the node of this name joins the shard in the placement, and it is asked for
pub record IsJoinedBy (place : Placement) (name : List ℕ) (asked : Option ℕ) (shard : ℕ) : Type 0 where
  pub node : ℕ
  pub named : OfNode place node (λ own. own ≡ name)
  pub covers : IsTrue (is_covering shard asked)
  pub joining : Assignment
  pub among : IsIn (shard_at place shard) joining
  pub of_node : joining.node ≡ node
  pub is_joining : joining.state ≡ Initializing

-- ---- too few that streamed

-- the node doesn't own the shard at the version at which a move of it began that may go on
pub record IsUnownedForMove (tells : Bool) (start : Option MetaState) (p : TurnPosition) (place : Placement) (shard node : ℕ) : Type 0 where
  pub tenure : ℕ
  pub moving : Placement
  pub stands : MayStand start p moving
  pub joins : IsJoinedWith moving shard tenure
  pub unowned : OwnsNot start p shard node tenure ⊎ OfNode place node (λ name. IsNew tells (record { shard = shard; node = node; name = name }) start p)

-- Why a former replica may refuse its fence or a page: it has no version but that of the move, and what fences and moments refuse is none of its reasons.
abbrev pub MayBreak : Bool → List Fault → Option MetaState → TurnPosition → Placement → ℕ → ℕ → Reason → Type 0
MayBreak tells faults start p place shard node reason.NotOwned = IsUnownedForMove tells start p place shard node
MayBreak tells faults start p place shard node (reason.Stale fence) = ⊥
MayBreak tells faults start p place shard node why = MayFail tells faults start p place shard node why

-- fewer than a majority of the former replicas of a shard that the node joins streamed whole, and each of the others has a reason, by name
pub record MissesMajority (start : Option MetaState) (p : TurnPosition) (name : List ℕ) (asked : Option ℕ) (got needed : ℕ) (reasons : List (ℕ × Reason)) (shard : ℕ) : Type 0 where
  pub place : Placement
  pub stands : MayStand start p place
  pub joins : IsJoinedBy place name asked shard
  pub needed_is : needed ≡ majority place.rf
  pub fewer : got < needed
  pub others : got + length reasons ≡ length (former (shard_at place shard))
  pub of_former : (r : ℕ × Reason) → IsIn reasons r → IsIn (former (shard_at place shard)) r.0
  pub by_name : Ascends (λ a b. IsNamedBelow place a.0 b.0) reasons

-- and each reason has its cause; whoever has none runs, and its replica doesn't lie idle
pub record IsUnjoined (tells : Bool) (faults : List Fault) (start : Option MetaState) (p : TurnPosition) (name : List ℕ) (asked : Option ℕ) (got needed : ℕ) (reasons : List (ℕ × Reason)) (shard : ℕ) : Type 0 where
  pub misses : MissesMajority start p name asked got needed reasons shard
  pub streamed : (node : ℕ) → IsIn (former (shard_at misses.place shard)) node → ¬ IsIn (map (λ r. r.0) reasons) node → IsRunningAt p misses.place node × IsBegunFor start p misses.place shard node
  pub refused : (r : ℕ × Reason) → IsIn reasons r → MayBreak tells faults start p misses.place shard r.0 r.1

-- ---- no version left

-- the node joins a shard that is asked for, as many versions are kept as may be, and so many former replicas run and don't lie idle that its move could end
pub record LacksVersion (start : Option MetaState) (p : TurnPosition) (name : List ℕ) (asked : Option ℕ) (limit : ℕ) : Type 0 where
  pub turns : List InnerTurn
  pub after : IsAfter p turns
  pub place : Placement
  pub stands : placement_after (start_placement start) turns ≡ Some place
  pub shard : ℕ
  pub joins : IsJoinedBy place name asked shard
  pub peers : List ℕ
  pub are_peers : ArePeers start p place shard (shard_at place shard) peers
  pub limit_is : limit ≡ MOST_VERSIONS
  pub reached : MOST_VERSIONS ≤ kept_versions (Some place) (map (λ kept. kept.version) (placements start turns))

-- and where shards turned available fewer were kept, of these turns and the placement that they left
abbrev pub HadVersion : Option MetaState → List InnerTurn → Placement → List (ℕ × List ℕ) → Type 0
HadVersion start turns place [] = ⊤
HadVersion start turns place (x ∷ available) = kept_versions (Some place) (map (λ kept. kept.version) (placements start turns)) < MOST_VERSIONS
