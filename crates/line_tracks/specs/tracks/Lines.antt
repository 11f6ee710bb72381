-- Each line that a cluster answers is tracked with the turns before it.
use Rattle.std.specs.Prelude.{◌≡◌, ℕ, ℤ, ⊤, List, [], ◌∷◌, ◌++◌, Option, Some, None, Bool, true}
use Rattle.served_acts.specs.NotYet.{IsServedAct}
use Rattle.m3_model.specs.declared.act.Act.{Act}
use Rattle.m3_model.specs.declared.act.Act.TheVariants as act
use Rattle.m3_model.specs.declared.act.Fate.{Fate}
use Rattle.m3_model.specs.declared.act.ReadLevel.{ReadLevel}
use Rattle.m3_model.specs.declared.act.WriteLevel.{WriteLevel}
use Rattle.m3_model.specs.declared.answer.Answer.{Answer}
use Rattle.m3_model.specs.declared.answer.Answer.TheVariants as answer
use Rattle.m3_model.specs.declared.point.Matcher.{Matcher}
use Rattle.m3_model.specs.declared.turn.Turn.{Turn}
use Rattle.m3_model.specs.declared.rules.MetaState.{MetaState}
use Rattle.m3_outside.specs.Depots.{Depot}
use Rattle.m3_outside.specs.DiskState.{DiskState}
use Rattle.m3_outside.specs.declared.disk.Disk.{Ghosts}
use Rattle.told_runs.specs.placement_acts.Acts.{is_step_act}
use Rattle.cluster_core.specs.Legal.{Legal}
use Rattle.node_calls.specs.replica_calls.Calls.{AreMembersOf}
use Rattle.node_calls.specs.session_net.Ready.{IsReady}
use Rattle.transcripts.specs.Record.{Record, line_of}
use Rattle.told_runs.specs.told_moves.Order.{IsInitAct}
use Rattle.node_calls.specs.cluster_members.declared.members.Members.{Members}
use Rattle.cluster_placements.specs.Steps.{MayChange}
use Rattle.line_tracks.specs.tracks.Numbers.{numbers_by}
use Rattle.line_tracks.specs.tracks.Tracks.{Tracks}
use Rattle.line_tracks.specs.tracks.Acts.{Does, IsInitAnswer, IsServedBy, IsStepAnswer, next_call}

-- ---- a cluster that stands

-- the turns before the line are tracked, and each replica is what the list says
pub record MayGoOn {D : Type 0} {G : Ghosts D} (state : D → DiskState) (tells : Bool) (past : List Record) (start : Option MetaState) (first now : Depot D) (turns : List Turn) (calls : List ℕ) (m : Members D G) : Type 0 where
  pub tracks : Tracks state tells past start first now turns (Some m) calls
  pub members : AreMembersOf state m.net.replicas

-- what an act leaves: the list is legal, and calls may be made
pub record IsLeft {D : Type 0} {G : Ghosts D} (tells : Bool) (g : Members D G) : Type 0 where
  pub legal : Legal tells g.net.replicas.events
  pub ready : IsReady g.net.state g.net.replicas g.net.bag

-- The line of an act, whatever it is answered.
abbrev pub IsTrackedLine : {D : Type 0} {G : Ghosts D} → (D → DiskState) → Members D G → Act → Type 0
IsTrackedLine {D} {G} state m a =
    (tells : Bool) (past : List Record) (start : Option MetaState) (first now : Depot D) (turns : List Turn) (calls : List ℕ) (b : Answer) (g : Members D G)
    → MayGoOn state tells past start first now turns calls m → IsLeft tells g → Does state (next_call calls) m a b g
    → Tracks state tells past start first now (turns ++ line_of a b ∷ []) (Some g) (numbers_by a b calls)

-- ---- acts of it

-- calls of clients
abbrev pub WritesAreTracked : {D : Type 0} {G : Ghosts D} → (D → DiskState) → Members D G → Type 0
WritesAreTracked state m = (ns id : List ℕ) (t : ℕ) (v : ℤ) (level : WriteLevel) (version : Option ℕ) → IsTrackedLine state m (act.Write ns id t v level version)

abbrev pub FetchesAreTracked : {D : Type 0} {G : Ghosts D} → (D → DiskState) → Members D G → Type 0
FetchesAreTracked state m = (ns id : List ℕ) (from to : ℕ) (level : ReadLevel) (version : Option ℕ) → IsTrackedLine state m (act.Fetch ns id from to level version)

abbrev pub MatchesAreTracked : {D : Type 0} {G : Ghosts D} → (D → DiskState) → Members D G → Type 0
MatchesAreTracked state m = (ns : List ℕ) (wanted : List Matcher) (from to : ℕ) (level : ReadLevel) (version : Option ℕ) → IsTrackedLine state m (act.Match ns wanted from to level version)

-- rules, fates and deliveries
abbrev pub NamespacesAreTracked : {D : Type 0} {G : Ghosts D} → (D → DiskState) → Members D G → Type 0
NamespacesAreTracked state m = (name : List ℕ) (block past future retention : ℕ) → IsTrackedLine state m (act.Namespace name block past future retention)

abbrev pub MomentsAreTracked : {D : Type 0} {G : Ghosts D} → (D → DiskState) → Members D G → Type 0
MomentsAreTracked state m = (now : ℕ) → IsTrackedLine state m (act.Now now)

abbrev pub FatesAreTracked : {D : Type 0} {G : Ghosts D} → (D → DiskState) → Members D G → Type 0
FatesAreTracked state m = (list : List (ℕ × ℕ × List ℕ × Fate)) → IsTrackedLine state m (act.Fates list)

abbrev pub DeliveriesAreTracked : {D : Type 0} {G : Ghosts D} → (D → DiskState) → Members D G → Type 0
DeliveriesAreTracked state m = IsTrackedLine state m act.Deliver

-- nodes
abbrev pub StopsAreTracked : {D : Type 0} {G : Ghosts D} → (D → DiskState) → Members D G → Type 0
StopsAreTracked state m = (name : List ℕ) → IsTrackedLine state m (act.Stop name)

abbrev pub RestartsAreTracked : {D : Type 0} {G : Ghosts D} → (D → DiskState) → Members D G → Type 0
RestartsAreTracked state m = (name : List ℕ) (pick : ℕ) → IsTrackedLine state m (act.Restart name pick)

abbrev pub BootstrapsAreTracked : {D : Type 0} {G : Ghosts D} → (D → DiskState) → Members D G → Type 0
BootstrapsAreTracked state m = (name : List ℕ) (asked : Option ℕ) → IsTrackedLine state m (act.Bootstrap name asked)

-- upkeep, and how the replicas stand
abbrev pub TicksAreTracked : {D : Type 0} {G : Ghosts D} → (D → DiskState) → Members D G → Type 0
TicksAreTracked state m = IsTrackedLine state m act.Tick

abbrev pub FlushesAreTracked : {D : Type 0} {G : Ghosts D} → (D → DiskState) → Members D G → Type 0
FlushesAreTracked state m = IsTrackedLine state m act.Flush

abbrev pub SnapshotsAreTracked : {D : Type 0} {G : Ghosts D} → (D → DiskState) → Members D G → Type 0
SnapshotsAreTracked state m = IsTrackedLine state m act.Snapshot

abbrev pub StatusIsTracked : {D : Type 0} {G : Ghosts D} → (D → DiskState) → Members D G → Type 0
StatusIsTracked state m = IsTrackedLine state m act.Status

-- what is known where one stands, before and after
abbrev pub EachMember : {D : Type 0} {G : Ghosts D} → Option (Members D G) → (Members D G → Type 0) → Type 0
EachMember None Holds = ⊤
EachMember (Some m) Holds = Holds m

-- ---- before a cluster stands, and `init`

-- where none stands, each other act is out of order
abbrev pub OrdersAreTracked : {D : Type 0} {G : Ghosts D} → (D → DiskState) → Option (Members D G) → Type 0
OrdersAreTracked {D} state none =
    (tells : Bool) (past : List Record) (start : Option MetaState) (first now : Depot D) (turns : List Turn) (calls : List ℕ) (a : Act) → none ≡ None → ¬ IsInitAct a → Tracks state tells past start first now turns none calls
    → Tracks state tells past start first now (turns ++ line_of a answer.Order ∷ []) none (numbers_by a answer.Order calls)

-- an `init`, by which a cluster was made or none; what it made is left so
abbrev pub InitsAreTracked : {D : Type 0} {G : Ghosts D} → (D → DiskState) → Option (Members D G) → Type 0
InitsAreTracked {D} {G} state old =
    (tells : Bool) (past : List Record) (start : Option MetaState) (first before after : Depot D) (turns : List Turn) (calls : List ℕ) (rf shards seed : ℕ) (nodes : List (List ℕ × List ℕ)) (b : Answer) (new : Option (Members D G))
    → Tracks state tells past start first before turns old calls → ((m : Members D G) → new ≡ Some m → IsLeft tells m) → IsInitAnswer state before old rf shards seed nodes b after new
    → Tracks state tells past start first after (turns ++ line_of (act.Init rf shards seed nodes) b ∷ []) new (numbers_by (act.Init rf shards seed nodes) b calls)

-- ---- lines that make a placement

-- Such a line, whatever it is answered; and what is left of the cluster has what the next one needs.
abbrev pub StepsAreTracked : {D : Type 0} {G : Ghosts D} → (D → DiskState) → Option (Members D G) → Type 0
StepsAreTracked {D} {G} state old =
    (tells : Bool) (past : List Record) (start : Option MetaState) (first before after : Depot D) (turns : List Turn) (calls : List ℕ) (a : Act) (b : Answer) (new : Option (Members D G))
    → is_step_act a ≡ true → Tracks state tells past start first before turns old calls → EachMember new (λ m. IsLeft tells m) → EachMember new (λ m. MayChange m after.held) → IsStepAnswer state before old a b after new
    → Tracks state tells past start first after (turns ++ line_of a b ∷ []) new (numbers_by a b calls)

-- ---- all acts

-- The line of an act that is served, whatever it is answered.
abbrev pub LinesAreTracked : {D : Type 0} {G : Ghosts D} → (D → DiskState) → Option (Members D G) → Type 0
LinesAreTracked {D} {G} state old =
    (tells : Bool) (past : List Record) (start : Option MetaState) (first before after : Depot D) (turns : List Turn) (calls : List ℕ) (a : Act) (b : Answer) (new : Option (Members D G))
    → IsServedAct a → Tracks state tells past start first before turns old calls → EachMember old (λ m. AreMembersOf state m.net.replicas) → EachMember new (λ m. IsLeft tells m)
    → EachMember new (λ m. MayChange m after.held) → IsServedBy state calls before old a b after new → Tracks state tells past start first after (turns ++ line_of a b ∷ []) new (numbers_by a b calls)
