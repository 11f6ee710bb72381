-- A run that is told and served stays so by a line that makes a placement, or is to make one and doesn't.
use Rattle.std.specs.Prelude.{◌≡◌, ◌≤◌, ◌<◌, ℕ, List, [], ◌∷◌, ◌++◌, length, Option, Some, None, Bool, true}
use Rattle.std.specs.FinMap.{get}
use Rattle.m3_model.specs.declared.act.Act.{Act}
use Rattle.m3_model.specs.declared.answer.Answer.{Answer}
use Rattle.m3_model.specs.declared.rules.MetaState.{MetaState}
use Rattle.m3_model.specs.declared.turn.Request.{Request}
use Rattle.m3_model.specs.declared.turn.Turn.{Turn}
use Rattle.m3_outside.specs.Causes.{RoseBy}
use Rattle.m3_outside.specs.Depots.{Depot}
use Rattle.m3_outside.specs.DiskState.{DiskState}
use Rattle.m3_outside.specs.declared.disk.Disk.{Ghosts}
use Rattle.placement_core.specs.Lawful.{IsLawful}
use Rattle.told_runs.specs.placement_acts.Acts.{is_step_act}
use Rattle.cluster_core.specs.Legal.{Legal}
use Rattle.cluster_core.specs.declared.event.Event.{Event}
use Rattle.node_calls.specs.replica_exchange.declared.slot.Slot.{Slot}
use Rattle.told_runs.specs.Lines.{IsToldAndServed, delivered_on}
use Rattle.transcripts.specs.Caused.{kept_after}
use Rattle.transcripts.specs.Deliveries.{LateMessage}
use Rattle.transcripts.specs.Faults.{Fault}
use Rattle.transcripts.specs.Placements.{HadReplica, placement_after, start_placement}
use Rattle.transcripts.specs.Record.{Record, TurnPosition, inner_turns, line_of}
use Rattle.line_tracks.specs.calls.Left.{WereDelivered}
use Rattle.node_calls.specs.cluster_members.declared.members.Members.{Members}
use Rattle.cluster_placements.specs.Steps.{IsChanged}

-- Before the line the placement that the turns left stands, and is lawful; so many versions are kept; and a slot without a replica had none in any placement.
pub record MayComeNext {D : Type 0} {G : Ghosts D} (start : Option MetaState) (turns : List Turn) (kept : ℕ) (old : Members D G) : Type 0 where
  pub opened : 0 < length old.net.replicas.events
  pub left : placement_after (start_placement start) (inner_turns turns) ≡ Some old.net.state.place
  pub lawful : IsLawful old.net.state.place
  pub kept_is : kept ≡ kept_after start (inner_turns turns) old.net.state.place
  pub had_none : (s : Slot) → get old.net.replicas.members s ≡ None → ¬ HadReplica start (inner_turns turns) s.shard s.node

-- After it the run is told and served with the line, which delivers nothing; and as many disks couldn't be taken in it as the count of all faults rose at least.
pub record IsServedOn (tells : Bool) (taking : List Fault) (was : TurnPosition → List LateMessage) (past : List Record) (start : Option MetaState) (turns : List Turn) (later : Option Request) (a : Act) (answered : Answer) (before now : ℕ) (events : List Event) : Type 0 where
  pub untaken : List Fault
  pub served : IsToldAndServed tells (untaken ++ taking) (delivered_on turns was (λ p. [])) past start (turns ++ line_of a answered ∷ []) later events
  pub rose : RoseBy (length untaken) before now

-- So it is, whatever the line of an act that asks for a step is answered.
abbrev pub ChangesServe : {D : Type 0} {G : Ghosts D} → (D → DiskState) → Members D G → Type 0
ChangesServe {D} {G} state old =
    (tells : Bool) (past : List Record) (start : Option MetaState) (turns : List Turn) (unanswered later : Option Request) (taking : List Fault) (was : TurnPosition → List LateMessage)
    (kept : ℕ) (a : Act) (depot : Depot D) (answered : Answer) (after : Depot D) (new : Members D G)
    → IsToldAndServed tells taking was past start turns unanswered old.net.replicas.events → WereDelivered turns was → is_step_act a ≡ true → MayComeNext start turns kept old → Legal tells new.net.replicas.events → depot.faults ≤ after.faults
    → IsChanged state kept a depot old answered after new
    → IsServedOn tells taking was past start turns later a answered depot.faults after.faults new.net.replicas.events
