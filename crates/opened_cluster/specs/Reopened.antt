-- A cluster that goes on with a state that was saved.
use Rattle.std.specs.Prelude.{◌≡◌, [], length, replicate, false}
use Rattle.std.specs.FinMap.{empty}
use Rattle.m3_model.specs.declared.placement.Placement.{Placement}
use Rattle.m3_model.specs.declared.rules.MetaState.{MetaState}
use Rattle.m3_outside.specs.Depots.{Depot}
use Rattle.m3_outside.specs.DiskState.{DiskState}
use Rattle.m3_outside.specs.declared.disk.Disk.{Ghosts}
use Rattle.net_plan.specs.Fates.{fates_of}
use Rattle.line_tracks.specs.cluster_members.declared.members.Members.{Members}
use Rattle.line_tracks.specs.first_cluster.First.{opening_of}
use Rattle.line_tracks.specs.first_cluster.Slots.{slots_of}
use Rattle.cluster_placements.specs.Lending.{HaveGained}
use Rattle.opened_cluster.specs.declared.plan.Plan.{Plan}

-- what it needs beside its state: the slots of the placement, by shard; each node runs, and nothing is late
pub record IsPlan (place : Placement) (plan : Plan) : Type 0 where
  pub slots : plan.slots.items ≡ slots_of place
  pub stopped : plan.stopped.items ≡ replicate (length place.instances) false
  pub bag : plan.bag ≡ []

-- The cluster has this state, and no placement but the state's is kept; its slots are those of the placement, by shard; each node runs, and nothing is lost or
-- late.
pub record StandsAnew {D : Type 0} {G : Ghosts D} (state : MetaState) (m : Members D G) : Type 0 where
  pub state_is : m.net.state ≡ state
  pub fates : m.net.fates ≡ fates_of []
  pub bag : m.net.bag ≡ []
  pub past : m.past.items ≡ []
  pub slots : m.slots.items ≡ slots_of state.place
  pub stopped : m.stopped.items ≡ replicate (length state.place.instances) false

-- So it stands, with a replica over the disk of each slot of the placement, which didn't begin; two events alone are in the list, which they open by the
-- placement and by the rules. The disks of all other slots are where they were.
pub record IsReopened {D : Type 0} {G : Ghosts D} (disk_state : D → DiskState) (state : MetaState) (old new : Depot D) (m : Members D G) : Type 0 where
  pub anew : StandsAnew state m
  pub gained : HaveGained disk_state (slots_of state.place) old empty new m.net.replicas.members
  pub events : m.net.replicas.events ≡ opening_of state
