-- Acts that change the state of a cluster that stands, in parts: what they are to make, and what is made.
use Rattle.std.specs.Prelude.{◌≡◌, Option, Some, None, Bool, true, false, option_map}
use Rattle.m3_model.specs.declared.act.Act.{Act}
use Rattle.m3_model.specs.declared.act.Act.TheVariants as act
use Rattle.m3_model.specs.declared.answer.Answer.{Answer}
use Rattle.m3_model.specs.declared.answer.Answer.TheVariants as answer
use Rattle.m3_model.specs.declared.rules.MetaState.{MetaState}
use Rattle.m3_outside.specs.Depots.{Depot}
use Rattle.m3_outside.specs.DiskState.{DiskState}
use Rattle.m3_outside.specs.declared.disk.Disk.{Ghosts}
use Rattle.placement_acts.specs.Acts.{LeadsNowhere, is_step_act}
use Rattle.line_tracks.specs.cluster_members.Steps.{IsMovePlanned, IsMoved, IsSpaceAdded, IsSpacePlanned, RefusesMove, RefusesSpace}
use Rattle.line_tracks.specs.cluster_members.declared.members.Members.{Members}
use Rattle.line_tracks.specs.cluster_placements.Steps.{IsChange, IsChanged, kept_in}
use Rattle.served_cluster.specs.declared.cluster.Cluster.{Cluster}
use Rattle.served_cluster.specs.declared.plan.Plan.{Plan}
use Rattle.served_cluster.specs.declared.plan.Plan.TheVariants as plan

-- the state of a cluster, and none before `init`
abbrev pub state_of : {D : Type 0} {G : Ghosts D} → Cluster D G → Option MetaState
state_of c = option_map (λ m. m.net.state) c.members

-- the act changes the state of a cluster that stands, where it isn't refused
abbrev pub changes_state : Act → Bool
changes_state (act.Namespace name block past future retention) = true
changes_state (act.Now now) = true
changes_state a = is_step_act a

-- the act is to make this of these members
abbrev pub IsPlannedOn : {D : Type 0} {G : Ghosts D} → Members D G → Act → Plan → Type 0
IsPlannedOn m (act.Namespace name block past future retention) (plan.Rules rules) = IsSpacePlanned m (record { name = name; block = block; past = past; future = future; retention = retention }) rules
IsPlannedOn m (act.Now now) (plan.Rules rules) = IsMovePlanned m now rules
IsPlannedOn m a (plan.Next change) = (is_step_act a ≡ true) × IsChange m (kept_in m) a change
IsPlannedOn m _ _ = ⊥

-- it is refused so, before anything changes
abbrev pub RefusesOn : {D : Type 0} {G : Ghosts D} → Members D G → Act → Answer → Type 0
RefusesOn m (act.Namespace name block past future retention) b = RefusesSpace m (record { name = name; block = block; past = past; future = future; retention = retention }) b
RefusesOn m (act.Now now) b = RefusesMove m now b
RefusesOn m a b = LeadsNowhere (Some m.net.state.place) (kept_in m) a b

-- what was planned for the act is answered so, and leaves this
abbrev pub MakesOn : {D : Type 0} {G : Ghosts D} → (D → DiskState) → Depot D → Members D G → Act → Answer → Depot D → Members D G → Type 0
MakesOn state depot m (act.Namespace name block past future retention) b after g = IsSpaceAdded state m (record { name = name; block = block; past = past; future = future; retention = retention }) b g × (after ≡ depot)
MakesOn state depot m (act.Now now) b after g = IsMoved state m now b g × (after ≡ depot)
MakesOn state depot m a b after g = IsChanged state (kept_in m) a depot m b after g

-- of a cluster, which stands
abbrev pub IsPlannedBy : {D : Type 0} {G : Ghosts D} → Cluster D G → Act → Plan → Type 0
IsPlannedBy {D} {G} c a made = (m : Members D G) × (c.members ≡ Some m) × IsPlannedOn m a made

-- the state that the plan leaves of this one
abbrev pub by_plan : Plan → MetaState → MetaState
by_plan (plan.Rules rules) state = record state { rules = rules }
by_plan (plan.Next change) state = record state { place = change.next }

-- the state that stands where the plan was made, and else the one before
abbrev pub state_after : Bool → Plan → MetaState → MetaState
state_after true made state = by_plan made state
state_after false made state = state

-- the answer prints a placement that was made
abbrev pub is_placed : Answer → Bool
is_placed (answer.Placed place version) = true
is_placed _ = false
