-- Who makes which events, and lists of events with their makers: the lists that a book of events may have.
use Rattle.std.specs.Prelude.{◌≡◌, ℕ, ◌+◌, ◌*◌, List, [], ◌∷◌, ◌++◌, length, map, Bool}
use Rattle.m3_model.specs.declared.limits.TheConstants.{MOST_NODES, MOST_SHARDS}
use Rattle.event_book.specs.Names.{Name}
use Rattle.event_book.specs.Lists.{made_by}
use Rattle.event_book.specs.Seats.{Shown}
use Rattle.event_book.specs.Calls.{MayAdd}
use Rattle.event_book.specs.declared.view.Made.{Made}
use Rattle.cluster_core.specs.Legal.{Legal, LawfulAt}
use Rattle.cluster_core.specs.Lists.{At}
use Rattle.cluster_core.specs.Replicas.{replica}
use Rattle.cluster_core.specs.declared.event.Event.{Event}
use Rattle.cluster_core.specs.declared.event.Event.TheVariants as event

-- the events of such a list
abbrev pub entries : List (Made Event) → List Event
entries log = map (λ m. m.entry) log

-- the seat of a replica is the first seat's split of this number; there are 16 nodes and 64 shards
abbrev pub replica_seat : ℕ → ℕ → ℕ
replica_seat n s = MOST_SHARDS * n + s

-- the client seat is the first seat's next split
abbrev pub client_seat : ℕ
client_seat = MOST_NODES * MOST_SHARDS

-- the first seat makes Places and Clocks, a replica's seat its steps, and the client seat and those below it all else
abbrev pub IsMaker : Event → Name → Type 0
IsMaker (event.Place placement done) by = by ≡ []
IsMaker (event.Clock rules) by = by ≡ []
IsMaker (event.Step n s c a) by = by ≡ replica_seat n s ∷ []
IsMaker e by = (rest : Name) × (by ≡ client_seat ∷ rest)

-- a legal list of events, each made by one who may; where disks don't tell, legal but for what rests on their contents
pub record IsLawfulLog (tells : Bool) (log : List (Made Event)) : Type 0 where
  pub legal : Legal tells (entries log)
  pub makers : (i : ℕ) (m : Made Event) → At log i m → IsMaker m.entry m.by

-- an event that is lawful after what its maker has seen is lawful after each longer lawful list in which the maker made no more
abbrev pub StaysLawful : Type 0
StaysLawful =
    (tells : Bool) (seen more : List (Made Event)) (m : Made Event) → IsLawfulLog tells (seen ++ m ∷ []) → IsLawfulLog tells (seen ++ more)
    → made_by m.by (seen ++ more) ≡ made_by m.by seen → IsLawfulLog tells ((seen ++ more) ++ m ∷ [])

-- the state of a replica follows from what its own seat made
abbrev pub FollowsFromItsSeat : Type 0
FollowsFromItsSeat = (tells : Bool) (n s : ℕ) (log : List (Made Event)) → IsLawfulLog tells log → replica n s (entries log) ≡ replica n s (made_by (replica_seat n s ∷ []) log)

-- a seat may add each event of which it may be the maker and which is lawful after what it has seen
abbrev pub AddsWhatIsLawful : Type 0
AddsWhatIsLawful =
    (tells : Bool) (s : Shown Event) (e : Event) → LawfulAt tells (length (entries s.seen)) (entries s.seen) e → IsMaker e s.name → MayAdd IsLawfulLog tells s e

-- the empty list is lawful
pub starts_lawful : (tells : Bool) → IsLawfulLog tells []
starts_lawful tells = record { legal = λ i e there. absurd (none i e there); makers = λ i m there. absurd (none i m there) }
  where
    none : {X : Type 0} (i : ℕ) (x : X) → At [] i x → ⊥
    none i x e = cc
