-- A cluster that stands stands after the line of a bootstrap.
use Rattle.std.specs.Prelude.{ℕ, List, [], ◌∷◌, ◌++◌, Option}
use Rattle.m3_model.specs.declared.act.Act.TheVariants as act
use Rattle.m3_model.specs.declared.answer.Answer.{Answer}
use Rattle.m3_model.specs.declared.rules.MetaState.{MetaState}
use Rattle.m3_model.specs.declared.turn.Turn.{Turn}
use Rattle.m3_outside.specs.DiskState.{DiskState}
use Rattle.m3_outside.specs.declared.disk.Disk.{Ghosts}
use Rattle.node_calls.specs.session_net.Ready.{IsReady}
use Rattle.transcripts.specs.Record.{line_of}
use Rattle.node_calls.specs.cluster_members.declared.members.Members.{Members}
use Rattle.line_tracks.specs.acts.Stands.{ClusterStands}
use Rattle.cluster_joins.specs.Boots.{IsBooted}

-- So it does, whatever it was answered, where calls may be made from what it left.
abbrev pub BootsStand : {D : Type 0} {G : Ghosts D} → (D → DiskState) → Members D G → Type 0
BootsStand {D} {G} state old =
    (start : Option MetaState) (turns : List Turn) (name : List ℕ) (asked : Option ℕ) (answered : Answer) (new : Members D G)
    → ClusterStands start turns old → IsReady new.net.state new.net.replicas new.net.bag → IsBooted state old name asked answered new
    → ClusterStands start (turns ++ line_of (act.Bootstrap name asked) answered ∷ []) new
