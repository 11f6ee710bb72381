-- The bootstrap of a node of a cluster in parts: its replicas are opened, then the shards are marked that it joined, and then the tenures of the nodes end from which it took over.
use Rattle.std.specs.Prelude.{◌≡◌, ℕ, List, Option, Some}
use Rattle.m3_model.specs.declared.act.Act.TheVariants as act
use Rattle.m3_model.specs.declared.answer.Answer.{Answer}
use Rattle.m3_model.specs.declared.answer.Answer.TheVariants as answer
use Rattle.m3_model.specs.declared.rules.MetaState.{MetaState}
use Rattle.m3_outside.specs.DiskState.{DiskState}
use Rattle.m3_outside.specs.declared.disk.Disk.{Ghosts}
use Rattle.line_tracks.specs.cluster_members.declared.members.Members.{Members}
use Rattle.line_tracks.specs.cluster_joins.Boots.{IsToMark}
use Rattle.line_tracks.specs.cluster_joins.Marks.{HasEnded, IsMarked, MayBeMarked, MayEnd}
use Rattle.line_tracks.specs.cluster_joins.declared.marking.Booting.{Booting}
use Rattle.line_tracks.specs.cluster_joins.declared.marking.Booting.TheVariants as booting
use Rattle.line_tracks.specs.cluster_joins.declared.marking.Marked.{Marked}
use Rattle.line_tracks.specs.cluster_joins.declared.marking.Marking.{Marking}
use Rattle.served_cluster.specs.Acts.{Answers}
use Rattle.served_cluster.specs.Owned.{StillServes}
use Rattle.served_cluster.specs.Plans.{state_of}
use Rattle.served_cluster.specs.declared.cluster.Cluster.{Cluster}

-- from a cluster that stands it goes so to one that stands, and the numbers of calls stay
pub record Goes {D : Type 0} {G : Ghosts D} (old new : Cluster D G) (Step : Members D G → Members D G → Type 0) : Type 0 where
  pub was : Members D G
  pub is : Members D G
  pub stood : old.members ≡ Some was
  pub stands : new.members ≡ Some is
  pub step : Step was is
  pub calls : new.calls ≡ old.calls

-- a cluster stands of which this holds
abbrev pub StandsWith : {D : Type 0} {G : Ghosts D} → Cluster D G → (Members D G → Type 0) → Type 0
StandsWith {D} {G} c Holds = (m : Members D G) × (c.members ≡ Some m) × Holds m

-- the node joined shards, and this may be marked of them
abbrev pub HasJoined : {D : Type 0} {G : Ghosts D} → (D → DiskState) → Cluster D G → List ℕ → Option ℕ → Marking → Cluster D G → Type 0
HasJoined state old name asked marking new = Goes old new (λ m g. IsToMark state m name asked marking g × MayBeMarked g marking)

-- The line is answered, and the placement stays; or this is to be marked. Where that is given up, the line may be answered so for want of memory.
abbrev pub OpensNode : {D : Type 0} {G : Ghosts D} → (D → DiskState) → Cluster D G → List ℕ → Option ℕ → Booting → Cluster D G → Type 0
OpensNode state old name asked (booting.Answered b) new = Answers state old (act.Bootstrap name asked) b new
OpensNode state old name asked (booting.Joined marking) new = HasJoined state old name asked marking new × Answers state old (act.Bootstrap name asked) answer.Memory new

-- it may be marked
abbrev pub MayMark : {D : Type 0} {G : Ghosts D} → Cluster D G → Marking → Type 0
MayMark c marking = StandsWith c (λ m. MayBeMarked m marking)

-- it is marked
abbrev pub HasMarked : {D : Type 0} {G : Ghosts D} → (D → DiskState) → Cluster D G → Marking → Marked → Cluster D G → Type 0
HasMarked state old marking marked new = Goes old new (λ m g. IsMarked state m marking marked g × MayEnd g marked)

-- the tenures of the sources may end
abbrev pub MayEndSources : {D : Type 0} {G : Ghosts D} → Cluster D G → Marked → Type 0
MayEndSources c marked = StandsWith c (λ m. MayEnd m marked)

-- The tenures of the sources ended, and what is marked is answered: so is the line by which it was joined.
pub record EndsSources {D : Type 0} {G : Ghosts D} (state : D → DiskState) (old : Cluster D G) (marked : Marked) (answered : Answer) (new : Cluster D G) : Type 0 where
  pub ended : Goes old new (λ m g. HasEnded state m marked answered g)
  pub answers : (first was : Cluster D G) (name : List ℕ) (asked : Option ℕ) (marking : Marking) → HasJoined state first name asked marking was → HasMarked state was marking marked old → Answers state first (act.Bootstrap name asked) answered new
  pub stays : state_of new ≡ state_of old
  pub still : StillServes old new

-- the state with the placement in which the moves are over
abbrev pub by_marking : Marking → MetaState → MetaState
by_marking marking state = record state { place = marking.next }
