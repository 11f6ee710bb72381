-- What the line of a bootstrap is answered, and what it leaves.
use Rattle.std.specs.Prelude.{◌≡◌, ◌≢◌, ◌⊎◌, ℕ, ◌<◌, ◌+◌, ◌*◌, List, [], ◌∷◌, ◌++◌, Option, Some, true, ⊤}
use Rattle.std.specs.List.{flat_map}
use Rattle.m3_model.specs.declared.answer.Answer.{Answer}
use Rattle.m3_model.specs.declared.answer.Answer.TheVariants as answer
use Rattle.m3_model.specs.declared.limits.TheConstants.{MOST_SHARDS, MOST_VERSIONS}
use Rattle.m3_model.specs.declared.placement.Placement.{Placement}
use Rattle.m3_model.specs.declared.reason.Reason.TheVariants as reason
use Rattle.m3_outside.specs.DiskState.{DiskState}
use Rattle.m3_outside.specs.declared.disk.Disk.{Ghosts}
use Rattle.placement_core.specs.Lawful.{IsLawful}
use Rattle.placement_plan.specs.Plans.{IsAvailable}
use Rattle.peer_streams.specs.Joins.{AskedPeer, Opened}
use Rattle.cluster_core.specs.declared.event.Event.{Event}
use Rattle.node_calls.specs.cluster_members.Names.{node_named}
use Rattle.node_calls.specs.cluster_members.declared.members.Members.{Members}
use Rattle.node_calls.specs.replica_exchange.MachineCalls.{HasRoom}
use Rattle.node_calls.specs.replica_machine.Damages.{IsFileDamage}
use Rattle.node_calls.specs.session_net.Runs.{Ran}
use Rattle.node_calls.specs.Nodes.{HasShard, IsNode, IsNoShard, IsNowhere, KeepsButBoots, MayBoot}
use Rattle.cluster_placements.specs.Steps.{end_at, kept_in}
use Rattle.node_joins.specs.Unowned.{AreUnowned}
use Rattle.told_joins.specs.Lines.{AddsHeldUp, AddsJoins, AddsMissed, AddsPart, AddsUnmarked, AreOpened, added_by, done_by, ends_by, joined_of, missed_answer}
use Rattle.cluster_joins.specs.Marks.{IsMarked, MayBeMarked}
use Rattle.cluster_joins.specs.declared.marking.Booting.{Booting}
use Rattle.cluster_joins.specs.declared.marking.Booting.TheVariants as booting
use Rattle.cluster_joins.specs.declared.marking.Marked.{Marked}
use Rattle.cluster_joins.specs.declared.marking.Marking.{Marking}

-- ---- answers

-- the placement that stood is kept where another one stands
abbrev pub stood_before : List (ℕ × List ℕ) → Placement → List Placement
stood_before [] place = []
stood_before (x ∷ joined) place = place ∷ []

-- All shards that are asked for were opened. Where some were joined one placement ends their moves and stands, the one before it is kept, and the tenures of the nodes end from which the node took over.
pub record IsOpenedUp {D : Type 0} {G : Ghosts D} (state : D → DiskState) (old : Members D G) (name : List ℕ) (asked : Option ℕ) (available : List (ℕ × List ℕ)) (next : Placement) (new : Members D G) : Type 0 where
  pub may : MayBoot old name asked
  pub opened : List Opened
  pub more : List Event
  pub adds : AddsJoins old.net.state.place may.runs.node asked opened next more
  pub unowned : AreUnowned state old.net.replicas.members old.net.replicas.events more
  pub room : (joined_of opened ≡ []) ⊎ (kept_in old < MOST_VERSIONS)
  pub available_is : available ≡ joined_of opened
  pub ran : Ran state old.net.replicas more new.net.replicas
  pub state_is : new.net.state ≡ record old.net.state { place = next }
  pub past : new.past.items ≡ old.past.items ++ stood_before (joined_of opened) old.net.state.place
  pub fates : new.net.fates ≡ old.net.fates
  pub bag : new.net.bag ≡ old.net.bag
  pub slots : new.slots.items ≡ old.slots.items
  pub stopped : new.stopped.items ≡ old.stopped.items

-- it ended before it came to a placement, and added this; all but the replicas is as it was
pub record IsEndedBy {D : Type 0} {G : Ghosts D} (state : D → DiskState) (old : Members D G) (name : List ℕ) (asked : Option ℕ) (Adds : Placement → ℕ → Option ℕ → List Event → Type 0) (new : Members D G) : Type 0 where
  pub may : MayBoot old name asked
  pub more : List Event
  pub adds : Adds old.net.state.place may.runs.node asked more
  pub unowned : AreUnowned state old.net.replicas.members old.net.replicas.events more
  pub ran : Ran state old.net.replicas more new.net.replicas
  pub keeps : KeepsButBoots old new

-- the list lacks room for what the bootstrap adds next, which is at most a Place and the ends of the tenures of all shards
abbrev pub LacksRoom : {D : Type 0} {G : Ghosts D} → Members D G → Type 0
LacksRoom m = ¬ HasRoom (2 + 2 * MOST_SHARDS) m.net.replicas.events

-- what the line of a bootstrap is answered, and what it leaves
abbrev pub IsBooted : {D : Type 0} {G : Ghosts D} → (D → DiskState) → Members D G → List ℕ → Option ℕ → Answer → Members D G → Type 0
IsBooted state old name asked (answer.Available available place version) new = (version ≡ place.version) × IsOpenedUp state old name asked available place new
IsBooted state old name asked (answer.Peers got needed reasons shard) new =
    (peers : List AskedPeer) × (answer.Peers got needed reasons shard ≡ missed_answer old.net.state.place shard peers) × IsEndedBy state old name asked (λ place y only. AddsMissed place y only shard peers) new
IsBooted state old name asked (answer.Disk node shard) new = (node ≡ name) × IsEndedBy state old name asked (λ place y only. AddsHeldUp place y only shard reason.Disk) new
IsBooted state old name asked (answer.Corrupt node shard damage) new = (node ≡ name) × IsFileDamage damage × IsEndedBy state old name asked (λ place y only. AddsHeldUp place y only shard (reason.Corrupt damage)) new
IsBooted state old name asked answer.Memory new = (new ≡ old) ⊎ (((shard : ℕ) × IsEndedBy state old name asked (λ place y only. AddsHeldUp place y only shard reason.Memory) new) ⊎ IsEndedBy state old name asked AddsPart new)
IsBooted state old name asked answer.Full new = LacksRoom new × IsEndedBy state old name asked AddsPart new
IsBooted state old name asked (answer.Limit limit) new = (limit ≡ MOST_VERSIONS) × IsEndedBy state old name asked (λ place y only. AddsUnmarked place y only (kept_in old)) new
IsBooted state old name asked (answer.Unknown unknown) new = ((IsNowhere old name × (unknown ≡ name)) ⊎ ((node : ℕ) × (node_named name old.net.state.place.instances ≡ Some node) × IsNoShard old asked unknown)) × (new ≡ old)
IsBooted state old name asked (answer.State node) new = IsNode old name true × HasShard old asked × (node ≡ name) × (new ≡ old)
IsBooted state old name asked _ new = ⊥

-- ---- in two parts

-- All shards that are asked for were opened, some of them were joined, and nothing is marked yet: this is to be marked, in the placement in which their moves are over.
pub record IsToMark {D : Type 0} {G : Ghosts D} (state : D → DiskState) (old : Members D G) (name : List ℕ) (asked : Option ℕ) (marking : Marking) (new : Members D G) : Type 0 where
  pub may : MayBoot old name asked
  pub opened : List Opened
  pub all : AreOpened old.net.state.place may.runs.node asked opened []
  pub some : joined_of opened ≢ []
  pub unowned : AreUnowned state old.net.replicas.members old.net.replicas.events (added_by opened)
  pub room : kept_in old < MOST_VERSIONS
  pub available : IsAvailable old.net.state.place (done_by may.runs.node (joined_of opened)) marking.next
  pub lawful : IsLawful marking.next
  pub printed_is : (marking.marked).printed ≡ marking.next
  pub done_is : marking.done ≡ done_by may.runs.node (joined_of opened)
  pub joined_are : (marking.marked).joined ≡ joined_of opened
  pub sources_are : flat_map end_at (marking.marked).sources.items ≡ ends_by opened
  pub ran : Ran state old.net.replicas (added_by opened) new.net.replicas
  pub keeps : KeepsButBoots old new

-- the line is answered, or this is to be marked
abbrev pub IsBooting : {D : Type 0} {G : Ghosts D} → (D → DiskState) → Members D G → List ℕ → Option ℕ → Booting → Members D G → Type 0
IsBooting state old name asked (booting.Answered answered) new = IsBooted state old name asked answered new
IsBooting state old name asked (booting.Joined marking) new = IsToMark state old name asked marking new × MayBeMarked new marking

-- where nothing is marked although something is to be, as memory is wanted before, the line may be answered so
abbrev pub MayBeLeft : {D : Type 0} {G : Ghosts D} → (D → DiskState) → Members D G → List ℕ → Option ℕ → Booting → Members D G → Type 0
MayBeLeft state old name asked (booting.Answered answered) new = ⊤
MayBeLeft state old name asked (booting.Joined marking) new = IsBooted state old name asked answer.Memory new

-- where the shards were marked that were to be, so the line is answered, whichever cluster it began on
abbrev pub EndsBooted : {D : Type 0} {G : Ghosts D} → (D → DiskState) → Members D G → Marked → Answer → Members D G → Type 0
EndsBooted {D} {G} state old marked answered new =
    (first was : Members D G) (name : List ℕ) (asked : Option ℕ) (marking : Marking) → IsToMark state first name asked marking was → IsMarked state was marking marked old → IsBooted state first name asked answered new
