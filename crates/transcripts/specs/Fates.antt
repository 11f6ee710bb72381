-- What becomes of the messages of calls, and which nodes are stopped.
use Rattle.std.specs.Prelude.{◌≡◌, ℕ, ◌+◌, List, [], ◌∷◌, Option, Some, None, Bool, true, false, not, ◌&&◌, if◌then◌else◌, nat_eq, slice_get, slice_index_or, count_by, map, fold, IsTrue}
use Rattle.std.specs.Option.{option_map_or}
use Rattle.std.specs.Cmp.Lexicographic.{pointwise}
use Rattle.transcripts.specs.Record.{InnerTurn, TurnPosition, inner_turns}
use Rattle.m3_model.specs.Calls.{is_call}
use Rattle.m3_model.specs.Delivery.{is_cut}
use Rattle.m3_model.specs.declared.act.Act.{Act}
use Rattle.m3_model.specs.declared.act.Act.TheVariants as act
use Rattle.m3_model.specs.declared.act.Fate.{Fate}
use Rattle.m3_model.specs.declared.act.Fate.TheVariants as fate
use Rattle.m3_model.specs.declared.answer.Answer.{Answer}
use Rattle.m3_model.specs.declared.answer.Answer.TheVariants as answer
use Rattle.m3_model.specs.declared.placement.Instance.{Instance}
use Rattle.m3_model.specs.declared.placement.Placement.{Placement}
use Rattle.m3_model.specs.declared.turn.Request.{Request}
use Rattle.m3_model.specs.declared.turn.Request.TheVariants as request
use Rattle.m3_model.specs.declared.turn.Reply.{Reply}
use Rattle.m3_model.specs.declared.turn.Reply.TheVariants as reply
use Rattle.m3_model.specs.declared.turn.Turn.{Turn}

-- ---- calls and their numbers

-- how many of these acts are calls, refused ones included
abbrev pub calls_in : List Act → ℕ
calls_in acts = count_by is_call acts

-- what each client asks for in a line, whatever is answered: client 0 in a line outside `par`, and in such a line the others
abbrev pub client_lists : Request → List (List Act)
client_lists (request.One one) = (one ∷ []) ∷ []
client_lists (request.Par clients workers) = [] ∷ clients

-- what this client asks for in a line
abbrev pub client_acts : ℕ → Request → List Act
client_acts client asked = slice_index_or (client_lists asked) client []

-- The fates that stand, and how many calls a client has made since they stand.
pub record Numbering : Type 0 where
  pub fates : List (ℕ × ℕ × List ℕ × Fate)
  pub calls : ℕ

-- the fates that an accepted line of them sets
abbrev pub fates_set : Request → Reply → Option (List (ℕ × ℕ × List ℕ × Fate))
fates_set (request.One (act.Fates list)) (reply.One answer.Done) = Some list
fates_set _ _ = None

-- accepted fates replace all earlier ones and begin all numberings anew; any other line adds its calls
abbrev pub numbering_by : Option (List (ℕ × ℕ × List ℕ × Fate)) → ℕ → Numbering → Numbering
numbering_by (Some list) calls before = record { fates = list; calls = 0 }
numbering_by None calls before = record before { calls = before.calls + calls }

abbrev pub numbering_after : ℕ → List Turn → Numbering
numbering_after client lines = fold (λ before line. numbering_by (fates_set line.request line.reply) (calls_in (client_acts client line.request)) before) (record { fates = []; calls = 0 }) lines

-- the number of a call among its client's
abbrev pub call_number : TurnPosition → ℕ
call_number p = (numbering_after p.client p.lines).calls + calls_in (map (λ turn. turn.act) p.earlier)

-- ---- fates

-- the item is of this call of the client to the node of this name
abbrev pub is_fate_of : ℕ → ℕ → List ℕ → ℕ × ℕ × List ℕ × Fate → Bool
is_fate_of client call name item = (nat_eq item.0 client && nat_eq item.1 call) && pointwise nat_eq item.2 name

-- the fate that is listed for the messages of a call to a node; else they are delivered
abbrev pub fate_in : List (ℕ × ℕ × List ℕ × Fate) → ℕ → ℕ → List ℕ → Fate
fate_in [] client call name = fate.Deliver
fate_in (item ∷ list) client call name = if is_fate_of client call name item then item.3 else fate_in list client call name

-- the fate of the messages of the call at this position to the node of this name
abbrev pub fate_at : TurnPosition → List ℕ → Fate
fate_at p name = fate_in (numbering_after p.client p.lines).fates p.client (call_number p) name

-- ---- stops

-- whether a node is stopped, after an act with its answer
abbrev pub stopped_by : List ℕ → Act → Answer → Bool → Bool
stopped_by name (act.Stop node) answer.Done before = if pointwise nat_eq name node then true else before
stopped_by name (act.Restart node pick) answer.Done before = if pointwise nat_eq name node then false else before
stopped_by name _ _ before = before

-- the node of this name is stopped after these turns of a run
abbrev pub is_stopped : List InnerTurn → List ℕ → Bool
is_stopped turns name = fold (λ before turn. stopped_by name turn.act turn.answer before) false turns

-- ---- of nodes by number

-- a fact of the name of a node of the placement
pub record OfNode (place : Placement) (node : ℕ) (Holds : List ℕ → Type 0) : Type 0 where
  pub instance_ : Instance
  pub stands : slice_get place.instances node ≡ Some instance_
  pub holds : Holds instance_.name

-- the turn is a call, and its messages to the node are lost or late
abbrev pub IsCutAt : TurnPosition → Placement → ℕ → Type 0
IsCutAt p place node = IsTrue (is_call p.turn.act) × OfNode place node (λ name. is_cut (fate_at p name) ≡ true)

-- the node is stopped
abbrev pub IsStoppedAt : TurnPosition → Placement → ℕ → Type 0
IsStoppedAt p place node = OfNode place node (λ name. is_stopped (inner_turns p.lines) name ≡ true)

-- the node runs
abbrev pub IsRunningAt : TurnPosition → Placement → ℕ → Type 0
IsRunningAt p place node = OfNode place node (λ name. is_stopped (inner_turns p.lines) name ≡ false)

-- messages of the call to the node are delivered, and it isn't stopped
abbrev pub is_reached : TurnPosition → List ℕ → Bool
is_reached p name = not (is_cut (fate_at p name)) && not (is_stopped (inner_turns p.lines) name)

-- the same, of a node by its number
abbrev pub reaches : TurnPosition → Placement → ℕ → Bool
reaches p place node = option_map_or (λ i. is_reached p i.name) (slice_get place.instances node) false
