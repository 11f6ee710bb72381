-- What the line of a bootstrap adds to the list: shard by shard, then the placement in which its moves are over, and the ends of the sources' tenures.
use Rattle.std.specs.Prelude.{◌≡◌, ◌↔◌, ◌⊎◌, ◌<◌, ◌*◌, ◌+◌, ◌≤◌, ℕ, List, [], ◌∷◌, ◌++◌, length, map, Option, Some, Bool, true, false, IsTrue, option_map}
use Rattle.std.specs.List.{filter_map, flat_map}
use Rattle.std.specs.Option.{option_map_or}
use Rattle.m3_model.specs.Ascends.{Ascends}
use Rattle.m3_model.specs.Levels.{majority}
use Rattle.m3_model.specs.Members.{IsIn}
use Rattle.m3_model.specs.declared.answer.Answer.{Answer}
use Rattle.m3_model.specs.declared.answer.Answer.TheVariants as answer
use Rattle.m3_model.specs.declared.limits.TheConstants.{MOST_REQUEST_EVENTS, MOST_VERSIONS}
use Rattle.m3_model.specs.declared.placement.Placement.{Placement}
use Rattle.m3_model.specs.declared.reason.Damage.{Damage}
use Rattle.m3_model.specs.declared.reason.Reason.{Reason}
use Rattle.m3_model.specs.declared.reason.Reason.TheVariants as reason
use Rattle.m3_model.specs.declared.rules.MetaState.{MetaState}
use Rattle.m3_model.specs.declared.turn.Turn.{Turn}
use Rattle.placement_core.specs.Lawful.{IsLawful}
use Rattle.placement_core.specs.NodeNames.{is_listed}
use Rattle.placement_core.specs.Shards.{nodes_of, shard_at}
use Rattle.placement_plan.specs.Plans.{IsAvailable}
use Rattle.cluster_core.specs.Legal.{Legal}
use Rattle.cluster_core.specs.declared.event.Asked.TheVariants as asked
use Rattle.cluster_core.specs.declared.event.Event.{Event}
use Rattle.cluster_core.specs.declared.event.Event.TheVariants as event
use Rattle.cluster_core.specs.declared.event.StepCall.TheVariants as call
use Rattle.cluster_core.specs.declared.event.StepReply.TheVariants as reply
use Rattle.transcripts.specs.Fates.{OfNode, is_stopped}
use Rattle.transcripts.specs.Placements.{placement_after, start_placement}
use Rattle.transcripts.specs.Reasons.{IsShown}
use Rattle.transcripts.specs.Record.{Record, inner_turns}
use Rattle.transcripts.specs.Waiting.{is_covering}
use Rattle.told_runs.specs.Bounds.{writes_taken}
use Rattle.told_runs.specs.Lines.{OpensNext}
use Rattle.peer_streams.specs.Joins.{AskedPeer, IsHeldUp, IsOpened, MissesPeers, Opened, StopsShort, reasons_of, streamed_of}
use Rattle.peer_streams.specs.Streams.{replied}

-- ---- what it meets

-- The node has this name in the placement that stands after these lines, is listed there and isn't stopped; and the shard is there, if one is asked for.
pub record MeetsBoot (start : Option MetaState) (turns : List Turn) (place : Placement) (name : List ℕ) (only : Option ℕ) (y : ℕ) : Type 0 where
  pub stands : placement_after (start_placement start) (inner_turns turns) ≡ Some place
  pub named : OfNode place y (λ own. own ≡ name)
  pub listed : is_listed name place ≡ true
  pub runs : is_stopped (inner_turns turns) name ≡ false
  pub has_shard : (s : ℕ) → only ≡ Some s → s < length place.shards

-- ---- shard by shard

-- the shards that the node has and that are asked for, by number: each of these was opened, and these are left
pub record AreOpened (place : Placement) (y : ℕ) (only : Option ℕ) (opened : List Opened) (left : List ℕ) : Type 0 where
  pub by_number : Ascends (λ a b. a < b) (map (λ o. o.shard) opened ++ left)
  pub are : (s : ℕ) → IsIn (map (λ o. o.shard) opened ++ left) s ↔ (IsTrue (is_covering s only) × IsIn (nodes_of (shard_at place s)) y)
  pub each : (o : Opened) → IsIn opened o → IsOpened place y o

abbrev pub added_by : List Opened → List Event
added_by opened = flat_map (λ o. o.added) opened

-- the shards that were joined, each with whom the node merged
abbrev pub joined_of : List Opened → List (ℕ × List ℕ)
joined_of opened = filter_map (λ o. option_map (λ j. (o.shard, j.peers)) o.joined) opened

-- each with the node
abbrev pub done_by : ℕ → List (ℕ × List ℕ) → List (ℕ × ℕ)
done_by y available = map (λ x. (x.0, y)) available

-- ---- the placement

-- the tenures of those end from which the node took over
abbrev pub source_ends : Opened → List Event
source_ends o = option_map_or (λ j. replied j.source o.shard call.End reply.Done) o.joined []

abbrev pub ends_by : List Opened → List Event
ends_by opened = flat_map source_ends opened

-- where shards were joined, one Place ends all their moves, and then the tenures of their sources end
abbrev pub marks : ℕ → List Opened → List (ℕ × List ℕ) → Placement → List Event
marks y opened [] next = []
marks y opened (x ∷ available) next = event.Ask (asked.Place next (done_by y (x ∷ available))) ∷ event.Place next (done_by y (x ∷ available)) ∷ ends_by opened

-- the placement that stands then
abbrev pub Leaves : Placement → ℕ → List (ℕ × List ℕ) → Placement → Type 0
Leaves place y [] next = next ≡ place
Leaves place y (x ∷ available) next = IsAvailable place (done_by y (x ∷ available)) next × IsLawful next

-- All shards were opened, and the line adds this; it leads to the placement.
pub record AddsJoins (place : Placement) (y : ℕ) (only : Option ℕ) (opened : List Opened) (next : Placement) (more : List Event) : Type 0 where
  pub all : AreOpened place y only opened []
  pub leaves : Leaves place y (joined_of opened) next
  pub adds : more ≡ added_by opened ++ marks y opened (joined_of opened) next

-- ---- a shard that ends it

-- The shards below this one were opened, and it was held up or missed its peers; nothing more is added.
pub record AddsHeldUp (place : Placement) (y : ℕ) (only : Option ℕ) (s : ℕ) (why : Reason) (more : List Event) : Type 0 where
  pub opened : List Opened
  pub left : List ℕ
  pub before : AreOpened place y only opened (s ∷ left)
  pub last : List Event
  pub held : IsHeldUp place s y why last
  pub adds : more ≡ added_by opened ++ last

pub record AddsMissed (place : Placement) (y : ℕ) (only : Option ℕ) (s : ℕ) (peers : List AskedPeer) (more : List Event) : Type 0 where
  pub opened : List Opened
  pub left : List ℕ
  pub before : AreOpened place y only opened (s ∷ left)
  pub last : List Event
  pub misses : MissesPeers place s y peers last
  pub shown : (q : ℕ) (damage : Damage) → IsIn (reasons_of peers) (q, reason.Corrupt damage) → IsShown damage
  pub adds : more ≡ added_by opened ++ last

-- All shards were opened, some of them were joined, and nothing more is added, as too many versions are kept.
pub record AddsUnmarked (place : Placement) (y : ℕ) (only : Option ℕ) (kept : ℕ) (more : List Event) : Type 0 where
  pub opened : List Opened
  pub all : AreOpened place y only opened []
  pub joined : ℕ × List ℕ
  pub among : IsIn (joined_of opened) joined
  pub reached : MOST_VERSIONS ≤ kept
  pub adds : more ≡ added_by opened

-- Some shards were opened, and then nothing more, or a part of what the next one asks for.
pub record AddsPart (place : Placement) (y : ℕ) (only : Option ℕ) (more : List Event) : Type 0 where
  pub opened : List Opened
  pub left : List ℕ
  pub before : AreOpened place y only opened left
  pub last : List Event
  pub part : (last ≡ []) ⊎ ((s : ℕ) × (later : List ℕ) × (left ≡ s ∷ later) × StopsShort place s y last)
  pub adds : more ≡ added_by opened ++ last

-- what is answered where a replica of the node holds it up: a fault, damage that is shown, or else want of memory
abbrev pub AnswersHeldUp : List ℕ → ℕ → Reason → Answer → Type 0
AnswersHeldUp name s reason.Disk b = b ≡ answer.Disk name s
AnswersHeldUp name s (reason.Corrupt damage) b = (b ≡ answer.Corrupt name s damage) × IsShown damage
AnswersHeldUp name s why b = b ≡ answer.Memory

-- what is answered where too few former replicas streamed whole
abbrev pub missed_answer : Placement → ℕ → List AskedPeer → Answer
missed_answer place s peers = answer.Peers (length (streamed_of peers)) (majority place.rf) (reasons_of peers) s

-- ---- the list

-- The longer list is legal; and where the disks tell, the replicas that begin for the first time hold no more than earlier runs left, and few events are added.
pub record MayAdd (tells : Bool) (past : List Record) (start : Option MetaState) (turns : List Turn) (events : List Event) (line : Turn) (more : List Event) : Type 0 where
  pub legal : Legal tells (events ++ more)
  pub opens : tells ≡ true → OpensNext start events more
  pub few : tells ≡ true → length more ≤ MOST_REQUEST_EVENTS * (writes_taken past (turns ++ line ∷ []) + 1)
