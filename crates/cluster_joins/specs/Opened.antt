-- How the bootstrap of a node that runs goes on from its open replicas.
use Rattle.std.specs.Prelude.{◌≡◌, ◌≢◌, ℕ, ⊤, ◌<◌, ◌≤◌, ◌+◌, ◌*◌, List, [], length, vec_len}
use Rattle.std.specs.Vec.{vec_capacity}
use Rattle.m3_model.specs.declared.answer.Answer.{Answer}
use Rattle.m3_model.specs.declared.answer.Answer.TheVariants as answer
use Rattle.m3_model.specs.declared.limits.TheConstants.{MOST_VERSIONS}
use Rattle.m3_model.specs.declared.placement.Placement.{Placement}
use Rattle.m3_model.specs.declared.reason.Reason.TheVariants as reason
use Rattle.m3_outside.specs.declared.disk.Disk.{Ghosts}
use Rattle.placement_core.specs.Lawful.{IsLawful}
use Rattle.placement_core.specs.Steps.{IsDoneList, IsStep}
use Rattle.placement_plan.specs.Plans.{IsAvailable}
use Rattle.node_calls.specs.cluster_members.declared.members.Members.{Members}
use Rattle.node_calls.specs.replica_exchange.MachineCalls.{HasRoom}
use Rattle.cluster_placements.specs.Steps.{kept_in}
use Rattle.node_joins.specs.Joined.{JoinedOf}
use Rattle.node_joins.specs.declared.open_err.OpenErr.{OpenErr}
use Rattle.node_joins.specs.declared.open_err.OpenErr.TheVariants as open_err
use Rattle.cluster_joins.specs.Boots.{LacksRoom}
use Rattle.cluster_joins.specs.Marks.{IsMarkingOf, done_of}
use Rattle.cluster_joins.specs.declared.marking.Booting.{Booting}
use Rattle.cluster_joins.specs.declared.marking.Booting.TheVariants as booting
use Rattle.cluster_joins.specs.declared.marking.Marking.{Marking}

-- what is answered where not all were opened: a fault, damage, too few peers, want of room, or else want of memory
abbrev pub ended_answer : List ℕ → OpenErr → Answer
ended_answer name (open_err.Refused shard reason.Disk) = answer.Disk name shard
ended_answer name (open_err.Refused shard (reason.Corrupt damage)) = answer.Corrupt name shard damage
ended_answer name (open_err.Peers shard needed got reasons) = answer.Peers got needed reasons shard
ended_answer name open_err.Full = answer.Full
ended_answer name _ = answer.Memory

-- what is answered where no shard was joined: the placement that stands; or memory was wanted
abbrev pub IsUnmoved : Placement → Answer → Type 0
IsUnmoved place (answer.Available available shown version) = (available ≡ []) × (shown ≡ place) × (version ≡ place.version)
IsUnmoved place answer.Memory = ⊤
IsUnmoved place _ = ⊥

-- all is as it was
pub record KeepsAll {D : Type 0} {G : Ghosts D} (old new : Members D G) : Type 0 where
  pub net : new.net ≡ old.net
  pub past : new.past.items ≡ old.past.items
  pub slots : new.slots.items ≡ old.slots.items
  pub stopped : new.stopped.items ≡ old.stopped.items

-- Shards were joined, no more versions are kept than may be, and there is room for their placement.
pub record IsPrepared {D : Type 0} {G : Ghosts D} (old : Members D G) (y : ℕ) (joined : List JoinedOf) (marking : Marking) (new : Members D G) : Type 0 where
  pub some : joined ≢ []
  pub few_past : kept_in old < MOST_VERSIONS
  pub next : IsAvailable old.net.state.place (done_of y joined) marking.next
  pub lawful : IsLawful marking.next
  pub step : IsDoneList (length old.net.state.place.shards) (done_of y joined) → IsStep old.net.state.place marking.next (done_of y joined)
  pub parts : IsMarkingOf y joined marking
  pub past_room : vec_len new.past < vec_capacity new.past
  pub room : HasRoom (2 + 2 * length (marking.marked).sources.items) new.net.replicas.events

-- nothing is to be marked, and this is answered: no shard was joined; as many versions are kept as may be; or memory or room is wanted
abbrev pub IsNotToMark : {D : Type 0} {G : Ghosts D} → Members D G → List JoinedOf → Answer → Type 0
IsNotToMark old joined (answer.Available available shown version) = (joined ≡ []) × IsUnmoved old.net.state.place (answer.Available available shown version)
IsNotToMark old joined (answer.Limit limit) = (joined ≢ []) × (limit ≡ MOST_VERSIONS) × (MOST_VERSIONS ≤ kept_in old)
IsNotToMark old joined answer.Memory = ⊤
IsNotToMark old joined answer.Full = LacksRoom old
IsNotToMark old joined _ = ⊥

-- either, and the cluster is as it was
abbrev pub MayMark : {D : Type 0} {G : Ghosts D} → Members D G → ℕ → List JoinedOf → Booting → Members D G → Type 0
MayMark old y joined (booting.Answered answered) new = IsNotToMark old joined answered × KeepsAll old new
MayMark old y joined (booting.Joined marking) new = IsPrepared old y joined marking new × KeepsAll old new

-- what is to be marked, for which there is room; or that there is none
abbrev pub HasRoomFor : {D : Type 0} {G : Ghosts D} → Members D G → Marking → Booting → Members D G → Type 0
HasRoomFor old marking (booting.Answered answer.Memory) new = KeepsAll old new
HasRoomFor old marking (booting.Answered answer.Full) new = LacksRoom old × KeepsAll old new
HasRoomFor old marking (booting.Answered _) new = ⊥
HasRoomFor old marking (booting.Joined given) new = (given ≡ marking) × (vec_len new.past < vec_capacity new.past) × HasRoom (2 + 2 * length (marking.marked).sources.items) new.net.replicas.events × KeepsAll old new
