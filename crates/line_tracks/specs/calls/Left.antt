-- What the turns of a run leave of the fields by which calls of clients go. No machine is in it.
use Rattle.std.specs.Prelude.{◌≡◌, ◌≢◌, ◌<◌, ℕ, ⊤, List, [], ◌∷◌, length, Option, Some, None, Bool, false, slice_get}
use Rattle.std.specs.FinMap as finite
use Rattle.m3_model.specs.Ascends.{Ascends}
use Rattle.m3_model.specs.Members.{IsIn}
use Rattle.m3_model.specs.declared.act.Act.TheVariants as act
use Rattle.m3_model.specs.declared.answer.Answer.TheVariants as answer
use Rattle.m3_model.specs.declared.placement.Instance.{Instance}
use Rattle.m3_model.specs.declared.placement.Placement.{Placement}
use Rattle.m3_model.specs.declared.rules.MetaState.{MetaState}
use Rattle.m3_model.specs.declared.turn.Turn.{Turn}
use Rattle.m3_outside.specs.declared.disk.Disk.{Ghosts}
use Rattle.net_plan.specs.Fates.{FateMap, fate_of}
use Rattle.net_plan.specs.declared.late_write.LateWrite.{LateWrite}
use Rattle.session_net.specs.replica_exchange.declared.call_id.CallId.{CallId}
use Rattle.session_net.specs.replica_exchange.declared.slot.Slot.{Slot}
use Rattle.session_net.specs.Calls.{Tracked}
use Rattle.session_net.specs.declared.net.Net.{Net}
use Rattle.told_runs.specs.told_by.Lines.{position_after}
use Rattle.told_runs.specs.transcripts.Deliveries.{LateMessage, IsLateBefore, IsLateMessage, delivers_nothing, shard_of_message}
use Rattle.told_runs.specs.transcripts.Fates.{call_number, fate_in, is_stopped, numbering_after}
use Rattle.told_runs.specs.transcripts.Placements.{placement_after, placements, seed_after, start_placement}
use Rattle.told_runs.specs.transcripts.Record.{TurnPosition, IsTurnPosition, inner_turns}
use Rattle.told_runs.specs.transcripts.Rules.{rules_after, start_rules}

-- the call is client 0's next
abbrev pub IsNextCall : List Turn → CallId → Type 0
IsNextCall turns id = (id.client ≡ 0) × (id.number ≡ (numbering_after 0 turns).calls)

-- a call that gives this version, or none, may use the placement after these turns: the one of the version, or the one that stands
abbrev pub MayUseAfter : Option MetaState → List Turn → Option ℕ → Placement → Type 0
MayUseAfter start turns None place = placement_after (start_placement start) (inner_turns turns) ≡ Some place
MayUseAfter start turns (Some version) place = IsIn (placements start (inner_turns turns)) place × (place.version ≡ version)

-- the position of a delivery in the next line, whatever it answers
abbrev pub next_delivery : List Turn → TurnPosition
next_delivery turns = position_after turns act.Deliver answer.Memory

-- the late write is this message of the turns, and wasn't delivered yet
pub record IsHeldBack (start : Option MetaState) (turns : List Turn) (message : LateMessage) (late : LateWrite) : Type 0 where
  pub made : IsTurnPosition turns message.position
  pub is_late : IsLateMessage start (next_delivery turns) message
  pub client : late.client ≡ message.position.client
  pub number : late.number ≡ call_number message.position
  pub node : late.node ≡ message.node
  pub shard : late.shard ≡ shard_of_message start message
  pub version : late.version ≡ message.used.version
  pub point : late.point ≡ message.point

-- each late write is a message, at its position
abbrev pub AreHeldBack : Option MetaState → List Turn → List LateMessage → List LateWrite → Type 0
AreHeldBack start turns [] [] = ⊤
AreHeldBack start turns (message ∷ messages) (late ∷ bag) = IsHeldBack start turns message late × AreHeldBack start turns messages bag
AreHeldBack start turns _ _ = ⊥

-- these messages are held back, in the order in which they were made late
pub record HoldsBack (start : Option MetaState) (turns : List Turn) (bag : List LateWrite) : Type 0 where
  pub messages : List LateMessage
  pub in_order : Ascends IsLateBefore messages
  pub held : AreHeldBack start turns messages bag

-- messages to the nodes of the placement fare as the turns' fates say
abbrev pub FareAsSet : List Turn → Placement → FateMap → Type 0
FareAsSet turns place fates = (client call node : ℕ) (own : Instance) → slice_get place.instances node ≡ Some own → fate_of fates (record { client = client; call = call; node = node }) ≡ fate_in (numbering_after 0 turns).fates client call own.name

-- The rules, the placement, the seed, the fates and the late writes are what the turns left.
pub record NetIsLeftBy {D : Type 0} {G : Ghosts D} (start : Option MetaState) (turns : List Turn) (net : Net D G) : Type 0 where
  pub rules : rules_after (start_rules start) (inner_turns turns) ≡ net.state.rules
  pub place : placement_after (start_placement start) (inner_turns turns) ≡ Some net.state.place
  pub seed : seed_after start (inner_turns turns) ≡ net.state.seed
  pub fates : FareAsSet turns net.state.place net.fates
  pub late : HoldsBack start turns net.bag

-- A call that gives this version, or none, may go by these fields: the placement is one that it may use, and the others are what the turns left.
pub record NetIsUsable {D : Type 0} {G : Ghosts D} (start : Option MetaState) (turns : List Turn) (version : Option ℕ) (net : Net D G) : Type 0 where
  pub rules : rules_after (start_rules start) (inner_turns turns) ≡ net.state.rules
  pub place : MayUseAfter start turns version net.state.place
  pub seed : seed_after start (inner_turns turns) ≡ net.state.seed
  pub fates : FareAsSet turns net.state.place net.fates
  pub late : HoldsBack start turns net.bag

-- ---- nodes and slots

-- the flag of each node of the placement tells whether the turns left it stopped
abbrev pub AreStoppedBy : List Turn → Placement → List Bool → Type 0
AreStoppedBy turns place flags = (node : ℕ) (own : Instance) → slice_get place.instances node ≡ Some own → slice_get flags node ≡ Some (is_stopped (inner_turns turns) own.name)

-- these are the slots that have a replica
pub record AreSlots {D : Type 0} (slots : List Slot) (replicas : Tracked D) : Type 0 where
  pub there : (s : Slot) → IsIn slots s → finite.get replicas.members s ≢ None
  pub all : (s : Slot) → finite.get replicas.members s ≢ None → IsIn slots s

-- ---- what was delivered

-- Each message that a turn delivered was made late in an earlier line, and the turn's own line delivers.
abbrev pub WereDelivered : List Turn → (TurnPosition → List LateMessage) → Type 0
WereDelivered turns was = (q : TurnPosition) → IsTurnPosition turns q → (m : LateMessage) → IsIn (was q) m → (length m.position.lines < length q.lines) × (delivers_nothing q.line ≡ false)
