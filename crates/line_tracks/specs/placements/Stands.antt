-- A cluster that stands: a line may make a placement from it, and it stands after it.
use Rattle.std.specs.Prelude.{◌≡◌, ℕ, List, [], ◌∷◌, ◌++◌, Option, true}
use Rattle.m3_model.specs.declared.act.Act.{Act}
use Rattle.m3_model.specs.declared.answer.Answer.{Answer}
use Rattle.m3_model.specs.declared.rules.MetaState.{MetaState}
use Rattle.m3_model.specs.declared.turn.Turn.{Turn}
use Rattle.m3_outside.specs.Depots.{Depot}
use Rattle.m3_outside.specs.DiskState.{DiskState}
use Rattle.m3_outside.specs.declared.disk.Disk.{Ghosts}
use Rattle.told_runs.specs.placement_acts.Acts.{is_step_act}
use Rattle.told_runs.specs.told_by.Told.{ToldBy}
use Rattle.transcripts.specs.Record.{line_of}
use Rattle.node_calls.specs.cluster_members.declared.members.Members.{Members}
use Rattle.line_tracks.specs.acts.Stands.{ClusterStands}
use Rattle.cluster_placements.specs.Steps.{IsChanged, MayChange, kept_in}
use Rattle.line_tracks.specs.placements.Serves.{MayComeNext}

-- Where the list tells of the turns, after which the cluster stands, a line may make a placement.
abbrev pub ComesNext : {D : Type 0} {G : Ghosts D} → Members D G → Type 0
ComesNext m =
    (start : Option MetaState) (turns : List Turn) → ToldBy start turns m.net.replicas.events → ClusterStands start turns m → MayComeNext start turns (kept_in m) m

-- After such a line the cluster stands, whatever it was answered.
abbrev pub ChangesStand : {D : Type 0} {G : Ghosts D} → (D → DiskState) → Members D G → Type 0
ChangesStand {D} {G} state old =
    (start : Option MetaState) (turns : List Turn) (kept : ℕ) (a : Act) (depot : Depot D) (answered : Answer) (after : Depot D) (new : Members D G)
    → ClusterStands start turns old → is_step_act a ≡ true → MayChange new after.held → IsChanged state kept a depot old answered after new
    → ClusterStands start (turns ++ line_of a answered ∷ []) new
