-- What a cluster answers an act, and what that leaves of it.
use Rattle.std.specs.Prelude.{◌≡◌, ◌+◌, ℕ, List, Bool, true, false, replicate}
use Rattle.m3_model.specs.declared.limits.TheConstants.{MOST_CLIENTS}
use Rattle.m3_model.specs.declared.act.Act.{Act}
use Rattle.m3_model.specs.declared.act.Act.TheVariants as act
use Rattle.m3_model.specs.declared.answer.Answer.{Answer}
use Rattle.m3_model.specs.declared.turn.Reply.{Reply}
use Rattle.m3_model.specs.declared.turn.Reply.TheVariants as reply
use Rattle.m3_model.specs.declared.turn.Request.{Request}
use Rattle.m3_model.specs.declared.turn.Request.TheVariants as request
use Rattle.m3_outside.specs.Depots.{Depot}
use Rattle.m3_outside.specs.DiskState.{DiskState}
use Rattle.m3_outside.specs.declared.disk.Disk.{Ghosts}
use Rattle.line_tracks.specs.tracks.Numbers.{numbers_by}
use Rattle.line_tracks.specs.tracks.Acts.{Does, IsServedBy, OnMembers, next_call}
use Rattle.served_cluster.specs.declared.cluster.Cluster.{Cluster}

-- the numbers of the next calls where none was made: those of the lines outside `par`, and of each client
abbrev pub first_numbers : List ℕ
first_numbers = replicate (MOST_CLIENTS + 1) 0

-- the act makes a cluster
abbrev pub is_init : Act → Bool
is_init (act.Init rf shards seed nodes) = true
is_init _ = false

-- the act sets fates
abbrev pub sets_fates : Act → Bool
sets_fates (act.Fates list) = true
sets_fates _ = false

-- the act stops or restarts a node, delivers late messages, or goes over all replicas
abbrev pub tends_nodes : Act → Bool
tends_nodes act.Deliver = true
tends_nodes (act.Stop node) = true
tends_nodes (act.Restart node pick) = true
tends_nodes act.Tick = true
tends_nodes act.Flush = true
tends_nodes act.Snapshot = true
tends_nodes act.Status = true
tends_nodes _ = false

-- what an act that makes no placement is answered, and what it leaves
pub record Answers {D : Type 0} {G : Ghosts D} (state : D → DiskState) (old : Cluster D G) (a : Act) (answered : Answer) (new : Cluster D G) : Type 0 where
  pub members : OnMembers old.members (λ m g. Does state (next_call old.calls) m a answered g) answered new.members
  pub calls : new.calls ≡ numbers_by a answered old.calls

-- the same of any act, and what it leaves of the disks that the cluster doesn't have
pub record Serves {D : Type 0} {G : Ghosts D} (state : D → DiskState) (depot : Depot D) (old : Cluster D G) (a : Act) (answered : Answer) (after : Depot D) (new : Cluster D G) : Type 0 where
  pub members : IsServedBy state old.calls depot old.members a answered after new.members
  pub calls : new.calls ≡ numbers_by a answered old.calls

-- the same of a request; those of several clients aren't served
abbrev pub ServesRequest : {D : Type 0} {G : Ghosts D} → (D → DiskState) → Depot D → Cluster D G → Request → Reply → Depot D → Cluster D G → Type 0
ServesRequest state depot old (request.One a) (reply.One b) after new = Serves state depot old a b after new
ServesRequest state depot old _ _ after new = ⊥
