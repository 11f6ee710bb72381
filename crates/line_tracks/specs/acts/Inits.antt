-- What `init` leaves of the list of events tells of its line.
use Rattle.std.specs.Prelude.{◌≡◌, ℕ, List, [], ◌∷◌, ◌++◌, length, None, Bool, true}
use Rattle.m3_model.specs.declared.act.Act.{Act}
use Rattle.m3_model.specs.declared.act.Act.TheVariants as act
use Rattle.m3_model.specs.declared.answer.Answer.{Answer}
use Rattle.m3_model.specs.declared.answer.Answer.TheVariants as answer
use Rattle.m3_model.specs.declared.turn.Turn.{Turn}
use Rattle.m3_outside.specs.Depots.{Depot, TellAll}
use Rattle.m3_outside.specs.DiskState.{DiskState}
use Rattle.m3_outside.specs.declared.disk.Disk.{Ghosts}
use Rattle.told_runs.specs.placement_plan.First.{RefusesInitial}
use Rattle.told_runs.specs.placement_plan.declared.plan_err.PlaceErr.TheVariants as refused
use Rattle.cluster_core.specs.declared.event.Event.{Event}
use Rattle.node_calls.specs.cluster_members.declared.members.Members.{Members}
use Rattle.first_cluster.specs.Bare.{AreBare}
use Rattle.first_cluster.specs.First.{IsFirst, IsDiskUntaken}
use Rattle.told_runs.specs.told_by.Lines.{InitLine, PlainLine}
use Rattle.told_runs.specs.Lines.{ServesOne, delivered_on}
use Rattle.transcripts.specs.Deliveries.{LateMessage}
use Rattle.transcripts.specs.Faults.{Fault, Taking}
use Rattle.transcripts.specs.Record.{Record, TurnPosition, line_of}
use Rattle.line_tracks.specs.calls.Laws.{Kind}
use Rattle.line_tracks.specs.calls.Left.{WereDelivered}
use Rattle.line_tracks.specs.acts.Stands.{NoneStands, ClusterStands}

-- Where a run that found nothing had no events, these tell of a turn's line, and serve it, with these disks that couldn't be taken. It delivers nothing.
pub record LeavesAnew (Line : Kind) (tells : Bool) (untaken : List Fault) (turns : List Turn) (a : Act) (b : Answer) (more : List Event) : Type 0 where
  pub line : Line None turns [] a b more
  pub serves : (was : TurnPosition → List LateMessage) (past : List Record) → WereDelivered turns was → ServesOne tells untaken [] was past None turns [] a b more
  pub delivered : (was : TurnPosition → List LateMessage) → WereDelivered turns was → WereDelivered (turns ++ line_of a b ∷ []) (delivered_on turns was (λ p. []))

-- so do the events of a first cluster of the `init` that made it; the disks are bare where they tell
abbrev pub FirstTells : {D : Type 0} {G : Ghosts D} → (D → DiskState) → Members D G → Type 0
FirstTells {D} {G} state m =
    (tells : Bool) (turns : List Turn) (rf shards seed : ℕ) (nodes : List (List ℕ × List ℕ)) (old new : Depot D)
    → (tells ≡ true → TellAll state) → (tells ≡ true → AreBare state old.held) → NoneStands turns → IsFirst state rf shards seed nodes old new m
    → LeavesAnew InitLine tells [] turns (act.Init rf shards seed nodes) (answer.Placed m.net.state.place m.net.state.place.version) m.net.replicas.events

-- and the cluster stands after the line
abbrev pub FirstStands : {D : Type 0} {G : Ghosts D} → (D → DiskState) → Members D G → Type 0
FirstStands {D} {G} state m =
    (turns : List Turn) (rf shards seed : ℕ) (nodes : List (List ℕ × List ℕ)) (old new : Depot D) → NoneStands turns → IsFirst state rf shards seed nodes old new m
    → ClusterStands None (turns ++ line_of (act.Init rf shards seed nodes) (answer.Placed m.net.state.place m.net.state.place.version) ∷ []) m

-- the fault by which the disk of the slot couldn't be taken in the next line
abbrev pub untaken_at : List Turn → ℕ → ℕ → Fault
untaken_at turns node shard = record { line = length turns; node = node; shard = shard; kind = Taking }

-- No events tell of an `init` that couldn't take a disk, and serve it.
abbrev pub UntakenTells : Type 0 → Type 0
UntakenTells D =
    (tells : Bool) (turns : List Turn) (rf shards seed : ℕ) (nodes : List (List ℕ × List ℕ)) (name : List ℕ) (shard : ℕ) (old new : Depot D) → NoneStands turns → (untaken : IsDiskUntaken rf shards seed nodes name shard old new)
    → LeavesAnew PlainLine tells (untaken_at turns untaken.node shard ∷ []) turns (act.Init rf shards seed nodes) (answer.Disk name shard) []

-- No events tell of an `init` whose nodes are in fewer isolation groups than a shard has replicas, and serve it.
abbrev pub LackingGroupsTell : Type 0
LackingGroupsTell =
    (tells : Bool) (turns : List Turn) (rf shards seed : ℕ) (nodes : List (List ℕ × List ℕ)) (shard : ℕ) → NoneStands turns → RefusesInitial rf nodes (refused.Group shard)
    → LeavesAnew PlainLine tells [] turns (act.Init rf shards seed nodes) (answer.Group shard) []
