-- A run that is told and served stays so by the line of a bootstrap.
use Rattle.std.specs.Prelude.{◌≡◌, ℕ, List, [], ◌∷◌, ◌++◌, Option, Bool, true}
use Rattle.m3_model.specs.declared.act.Act.TheVariants as act
use Rattle.m3_model.specs.declared.answer.Answer.{Answer}
use Rattle.m3_model.specs.declared.rules.MetaState.{MetaState}
use Rattle.m3_model.specs.declared.turn.Request.{Request}
use Rattle.m3_model.specs.declared.turn.Turn.{Turn}
use Rattle.m3_outside.specs.DiskState.{DiskState}
use Rattle.m3_outside.specs.declared.disk.Disk.{Ghosts}
use Rattle.cluster_core.specs.Legal.{Legal}
use Rattle.told_runs.specs.Lines.{IsToldAndServed, delivered_on}
use Rattle.transcripts.specs.Deliveries.{LateMessage}
use Rattle.transcripts.specs.Faults.{Fault}
use Rattle.transcripts.specs.Record.{Record, TurnPosition, line_of}
use Rattle.line_tracks.specs.calls.Left.{WereDelivered}
use Rattle.node_calls.specs.cluster_members.declared.members.Members.{Members}
use Rattle.line_tracks.specs.acts.Opens.{MayOpenSlots}
use Rattle.line_tracks.specs.acts.Stands.{ClusterStands}
use Rattle.cluster_joins.specs.Boots.{IsBooted}
use Rattle.life_ends.specs.Runs.{OpensAsLeft}

-- So it does, whatever the bootstrap is answered; it delivers no late message.
abbrev pub BootsServe : {D : Type 0} {G : Ghosts D} → (D → DiskState) → Members D G → Type 0
BootsServe {D} {G} state old =
    (tells : Bool) (past : List Record) (start : Option MetaState) (turns : List Turn) (unanswered later : Option Request) (taking : List Fault) (was : TurnPosition → List LateMessage)
    (name : List ℕ) (asked : Option ℕ) (answered : Answer) (new : Members D G)
    → IsToldAndServed tells taking was past start turns unanswered old.net.replicas.events → WereDelivered turns was → ClusterStands start turns old → MayOpenSlots state tells start old.net.replicas
    → Legal tells new.net.replicas.events → (tells ≡ true → OpensAsLeft past start new.net.replicas.events) → IsBooted state old name asked answered new
    → IsToldAndServed tells taking (delivered_on turns was (λ p. [])) past start (turns ++ line_of (act.Bootstrap name asked) answered ∷ []) later new.net.replicas.events
