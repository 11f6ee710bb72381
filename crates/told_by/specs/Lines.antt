-- Lines outside `par`, one after the other: which events each kind of line adds. Between a turn's own events stand Asks and steps of replicas.
use Rattle.transcripts.specs.Record.{line_of}
use Rattle.std.specs.Prelude.{◌≡◌, ◌⊎◌, ◌≤◌, ◌<◌, ◌+◌, ℕ, suc, ⊤, List, [], ◌∷◌, ◌++◌, length, take, Option, Some, None, true, false}
use Rattle.m3_model.specs.Levels.{majority}
use Rattle.m3_model.specs.Members.{IsIn}
use Rattle.m3_model.specs.Reads.{Found, found_of, space_picked}
use Rattle.transcripts.specs.Placements.{printed}
use Rattle.transcripts.specs.Record.{TurnPosition, IsTurnPosition}
use Rattle.transcripts.specs.Rules.{rules_at, start_rules}
use Rattle.m3_model.specs.declared.act.Act.{Act}
use Rattle.m3_model.specs.declared.act.ReadLevel.TheVariants.{Unstrict}
use Rattle.m3_model.specs.declared.answer.Answer.{Answer}
use Rattle.m3_model.specs.declared.answer.Answer.TheVariants as answer
use Rattle.m3_model.specs.declared.placement.Placement.{Placement}
use Rattle.m3_model.specs.declared.point.Point.{Point}
use Rattle.m3_model.specs.declared.rules.MetaState.{MetaState}
use Rattle.m3_model.specs.declared.turn.Turn.{Turn}
use Rattle.cluster_core.specs.Lists.{At}
use Rattle.cluster_core.specs.declared.event.Event.{Event}
use Rattle.cluster_core.specs.declared.event.Event.TheVariants as event
use Rattle.cluster_core.specs.declared.event.StepCall.TheVariants as call
use Rattle.cluster_core.specs.declared.event.StepReply.{StepReply}
use Rattle.told_by.specs.Clocks.{rules_left, sets_rules}
use Rattle.told_by.specs.Hears.{HearsBy, InStretch}
use Rattle.told_by.specs.Makes.{EndsRestart, MayMake}
use Rattle.told_by.specs.Openings.{sets_seed}
use Rattle.told_by.specs.Placements.{EndsPrinted, HasPlace, PrintsPeers}
use Rattle.told_by.specs.Reads.{Asking, IsAskedBy, AreTogether, Fetched, IsAskingOf}
use Rattle.told_by.specs.Spans.{From}
use Rattle.told_by.specs.Writes.{IsSendOf, IsUnmetWrite}

-- the position of its turn
abbrev pub position_after : List Turn → Act → Answer → TurnPosition
position_after turns a b = record { lines = turns; line = line_of a b; client = 0; earlier = []; beside = []; turn = record { act = a; answer = b } }

-- an Ask, or a step of a replica
abbrev pub IsAskOrStep : Event → Type 0
IsAskOrStep (event.Ask asked) = ⊤
IsAskOrStep (event.Step n s c a) = ⊤
IsAskOrStep _ = ⊥

abbrev pub AreSteps : List Event → Type 0
AreSteps events = (e : Event) → IsIn events e → IsAskOrStep e

-- its turn may make each event that the line adds, and hears in them what its answer says
pub record MakesAndHears (start : Option MetaState) (turns : List Turn) (events : List Event) (a : Act) (b : Answer) (more : List Event) : Type 0 where
  pub makes : (i : ℕ) (e : Event) → length events ≤ i → 2 ≤ i → At (events ++ more) i e → MayMake start (take i (events ++ more)) (position_after turns a b) e
  pub restarts : (i n s : ℕ) (r : StepReply) → length events ≤ i → 2 ≤ i → At (events ++ more) i (event.Step n s call.Restart r)
      → EndsRestart (From (length events)) (events ++ more) (λ _. position_after turns a b) (position_after turns a b) i n s
  pub hears : HearsBy start events (InStretch (events ++ more) (length events) (length (events ++ more))) (position_after turns a b) a b

-- ---- lines that neither write nor read, and that set nothing

-- the answer to neither a write nor a read, and to nothing that sets the rules or the seed
pub record IsPlain (a : Act) (b : Answer) : Type 0 where
  pub no_acks : (nodes : List ℕ) → b ≡ answer.Acks nodes → ⊥
  pub not_unmet : ¬ IsUnmetWrite a b
  pub no_found : found_of b ≡ None
  pub no_rules : sets_rules a b ≡ false
  pub no_seed : sets_seed a b ≡ false

-- what the answer prints is a Place, and not before one that was printed
pub record PrintsPlace (turns : List Turn) (events : List Event) (b : Answer) : Type 0 where
  pub is_place : (place : Placement) → printed b ≡ Some place → HasPlace events (length events) place
  pub not_earlier : (p : TurnPosition) → IsTurnPosition turns p → (was is : Placement) → printed p.turn.answer ≡ Some was → printed b ≡ Some is → was.version ≤ is.version

-- an Ask, a step, or a Place of which the turn prints whom each joining node merged
abbrev pub MayChange : TurnPosition → List Event → Event → Type 0
MayChange p past (event.Place placement done) = (d : ℕ × ℕ) → IsIn done d → PrintsPeers placement past p d.0 d.1
MayChange p past e = IsAskOrStep e

pub record PlainLine (start : Option MetaState) (turns : List Turn) (events : List Event) (a : Act) (b : Answer) (more : List Event) : Type 0 where
  pub makes : MakesAndHears start turns events a b more
  pub plain : IsPlain a b
  pub opened : (0 < length events) ⊎ (more ≡ [])
  pub adds : (i : ℕ) (e : Event) → At more i e → MayChange (position_after turns a b) (events ++ take i more) e
  pub prints : PrintsPlace turns (events ++ more) b
  pub ends : EndsPrinted (From (length events)) (events ++ more) (λ _. position_after turns a b) (position_after turns a b)

-- ---- `now` and `namespace`

pub record ClockLine (start : Option MetaState) (turns : List Turn) (events : List Event) (a : Act) (b : Answer) (more : List Event) : Type 0 where
  pub makes : MakesAndHears start turns events a b more
  pub sets : sets_rules a b ≡ true
  pub opened : 2 ≤ length events
  pub asks : List Event
  pub steps : AreSteps asks
  pub adds : more ≡ asks ++ event.Clock (rules_left start (position_after turns a b)) ∷ []

-- ---- `init`

pub record InitLine (start : Option MetaState) (turns : List Turn) (events : List Event) (a : Act) (b : Answer) (more : List Event) : Type 0 where
  pub makes : MakesAndHears start turns events a b more
  pub found_nothing : start ≡ None
  pub opens : events ≡ []
  pub sets : sets_seed a b ≡ true
  pub place : Placement
  pub version : ℕ
  pub answered : b ≡ answer.Placed place version
  pub begins : List Event
  pub steps : AreSteps begins
  pub adds : more ≡ event.Place place [] ∷ event.Clock (start_rules None) ∷ begins
  pub not_earlier : (p : TurnPosition) → IsTurnPosition turns p → printed p.turn.answer ≡ None

-- ---- writes

-- the Ack of the Send at this position, where the write was answered ok
abbrev pub ack_by : ℕ → Answer → List Event
ack_by send (answer.Acks nodes) = event.Ack send nodes ∷ []
ack_by send _ = []

pub record WriteLine (start : Option MetaState) (turns : List Turn) (events : List Event) (a : Act) (b : Answer) (more : List Event) : Type 0 where
  pub makes : MakesAndHears start turns events a b more
  pub version : ℕ
  pub s : ℕ
  pub point : Point
  pub sends : IsSendOf start events (position_after turns a b) version s point
  pub no_found : found_of b ≡ None
  pub no_rules : sets_rules a b ≡ false
  pub no_place : printed b ≡ None
  pub opened : 0 < length events
  pub puts : List Event
  pub steps : AreSteps puts
  pub adds : more ≡ event.Send version s point ∷ (puts ++ ack_by (length events) b)

-- ---- reads

-- the FetchStart of a shard
abbrev pub start_of : Option MetaState → TurnPosition → Asking → ℕ → Event
start_of start p a s = event.FetchStart a.place.version s (rules_at start p) a.read.pick a.read.from a.read.to

-- a fetch that began and didn't end
pub record IsCutShort (start : Option MetaState) (p : TurnPosition) (a : Asking) (more : List Event) : Type 0 where
  pub s : ℕ
  pub asked : IsAskedBy start p a s
  pub reads : List Event
  pub steps : AreSteps reads
  pub adds : more ≡ start_of start p a s ∷ reads

-- the fetch of one shard, from its FetchStart at this position to its FetchDone, and what follows
pub record IsShardFetched (start : Option MetaState) (p : TurnPosition) (a : Asking) (position s : ℕ) (f : Fetched) (more rest : List Event) : Type 0 where
  pub asked : IsAskedBy start p a s
  pub reads : List Event
  pub steps : AreSteps reads
  pub adds : more ≡ start_of start p a s ∷ (reads ++ event.FetchDone position f.nodes f.series ∷ rest)
  pub began_is : f.began ≡ position
  pub ended_is : f.ended ≡ position + (1 + length reads)

-- fetches of these shards, one after the other, the last of which may be cut short
abbrev pub AreFetched : Option MetaState → TurnPosition → Asking → (ℕ → Fetched) → ℕ → List ℕ → List Event → Type 0
AreFetched start p a fetches position [] more = AreSteps more ⊎ IsCutShort start p a more
AreFetched start p a fetches position (s ∷ shards) more =
    (rest : List Event) × IsShardFetched start p a position s (fetches s) more rest × AreFetched start p a fetches (suc (fetches s).ended) shards rest

-- the same, each with its end: what a loop over the shards has added so far
abbrev pub AreWhole : Option MetaState → TurnPosition → Asking → (ℕ → Fetched) → ℕ → List ℕ → List Event → Type 0
AreWhole start p a fetches position [] more = more ≡ []
AreWhole start p a fetches position (s ∷ shards) more = (rest : List Event) × IsShardFetched start p a position s (fetches s) more rest × AreWhole start p a fetches (suc (fetches s).ended) shards rest

-- an answered read has a fetch of each shard that it asks, of as many nodes as it needs, and their series together
pub record Finds (start : Option MetaState) (p : TurnPosition) (a : Asking) (fetches : ℕ → Fetched) (shards : List ℕ) (found : Found) : Type 0 where
  pub all : (s : ℕ) → IsAskedBy start p a s → IsIn shards s
  pub enough : (s : ℕ) → IsAskedBy start p a s → a.call.needed a.place.rf ≤ length (fetches s).nodes
  pub together : AreTogether (space_picked a.read.pick) (IsAskedBy start p a) fetches found.series
  pub is_short : found.short ≡ true → (a.read.level ≡ Unstrict) × (s : ℕ) × IsAskedBy start p a s × (length (fetches s).nodes < majority a.place.rf)
  pub not_short : found.short ≡ false → a.read.level ≡ Unstrict → (s : ℕ) → IsAskedBy start p a s → majority a.place.rf ≤ length (fetches s).nodes

pub record ReadLine (start : Option MetaState) (turns : List Turn) (events : List Event) (a : Act) (b : Answer) (more : List Event) : Type 0 where
  pub makes : MakesAndHears start turns events a b more
  pub asking : Asking
  pub of_turn : IsAskingOf start events (position_after turns a b) asking
  pub no_acks : (nodes : List ℕ) → b ≡ answer.Acks nodes → ⊥
  pub not_unmet : ¬ IsUnmetWrite a b
  pub no_rules : sets_rules a b ≡ false
  pub no_seed : sets_seed a b ≡ false
  pub no_place : printed b ≡ None
  pub opened : 0 < length events
  pub fetches : ℕ → Fetched
  pub shards : List ℕ
  pub adds : AreFetched start (position_after turns a b) asking fetches (length events) shards more
  pub finds : (found : Found) → found_of b ≡ Some found → Finds start (position_after turns a b) asking fetches shards found
