-- What runs did: their turns, and what stands before and beside one of them.
use Rattle.std.specs.Prelude.{◌≡◌, ℕ, suc, List, [], ◌∷◌, ◌++◌, length, map, Option, Some, None, ⊤, ◌⊎◌}
use Rattle.std.specs.List.{flat_map}
use Rattle.m3_model.specs.Members.{IsIn}
use Rattle.m3_model.specs.declared.rules.MetaState.{MetaState}
use Rattle.m3_model.specs.declared.act.Act.{Act}
use Rattle.m3_model.specs.declared.answer.Answer.{Answer}
use Rattle.m3_model.specs.declared.answer.Answer.TheVariants as answer
use Rattle.m3_model.specs.declared.turn.Request.{Request}
use Rattle.m3_model.specs.declared.turn.Request.TheVariants as request
use Rattle.m3_model.specs.declared.turn.Reply.{Reply}
use Rattle.m3_model.specs.declared.turn.Reply.TheVariants as reply
use Rattle.m3_model.specs.declared.turn.Turn.{Turn}

-- ---- turns

-- An act with its answer: the one of a line, or one of the many of a `par` line.
pub record InnerTurn : Type 0 where
  pub act : Act
  pub answer : Answer

-- acts with the answers at their positions
abbrev pub answered : List Act → List Answer → List InnerTurn
answered [] answers = []
answered (a ∷ acts) [] = []
answered (a ∷ acts) (b ∷ answers) = record { act = a; answer = b } ∷ answered acts answers

-- lists of acts with the lists of answers at their positions
abbrev pub answered_lists : List (List Act) → List (List Answer) → List (List InnerTurn)
answered_lists [] answers = []
answered_lists (a ∷ acts) [] = []
answered_lists (a ∷ acts) (b ∷ answers) = answered a b ∷ answered_lists acts answers

-- a request with its reply: one list for each client and for each worker
abbrev pub lists_by : Request → Reply → List (List InnerTurn)
lists_by (request.One act) (reply.One answer) = (record { act = act; answer = answer } ∷ []) ∷ []
lists_by (request.One act) (reply.Par clients workers) = []
lists_by (request.Par clients workers) (reply.One answer) = []
lists_by (request.Par clients workers) (reply.Par for_clients for_workers) = answered_lists clients for_clients ++ answered_lists workers for_workers

-- a `par` line as a whole may be refused where no `init` stands, or for want of memory
abbrev pub RefusesLists : Answer → Type 0
RefusesLists answer.Order = ⊤
RefusesLists answer.Memory = ⊤
RefusesLists _ = ⊥

-- a reply has the shape of its request: one answer to one act; to lists of acts as many lists of as many answers, or one refusal of them all
abbrev pub IsAnsweredBy : Request → Reply → Type 0
IsAnsweredBy (request.One act) (reply.One answer) = ⊤
IsAnsweredBy (request.One act) (reply.Par for_clients for_workers) = ⊥
IsAnsweredBy (request.Par clients workers) (reply.One answer) = RefusesLists answer
IsAnsweredBy (request.Par clients workers) (reply.Par for_clients for_workers) = (map length for_clients ≡ map length clients) × (map length for_workers ≡ map length workers)

-- a line outside `par`
abbrev pub line_of : Act → Answer → Turn
line_of a b = record { request = request.One a; reply = reply.One b }

-- the lists of a line
abbrev pub lists_of : Turn → List (List InnerTurn)
lists_of turn = lists_by turn.request turn.reply

-- lists one after the other
abbrev pub joined : {X : Type 0} → List (List X) → List X
joined lists = flat_map (λ list. list) lists

-- all inner turns of these lines
abbrev pub inner_turns : List Turn → List InnerTurn
inner_turns turns = flat_map (λ turn. joined (lists_of turn)) turns

-- all acts of a request, if there is one
abbrev pub acts_of : Option Request → List Act
acts_of None = []
acts_of (Some (request.One act)) = act ∷ []
acts_of (Some (request.Par clients workers)) = joined clients ++ joined workers

-- ---- runs

-- A run: what the meta disk held at its start, its turns in order, and a request that was taken and got no reply.
pub record Record : Type 0 where
  pub start : Option MetaState
  pub turns : List Turn
  pub unanswered : Option Request

-- The runs on the same disks, one after the other.
pub record Life : Type 0 where
  pub past : List Record
  pub present : Record

-- ---- positions of turns

-- An inner turn of the present run, with what stands before and beside it.
pub record TurnPosition : Type 0 where
  pub lines : List Turn  -- the earlier lines of the run
  pub line : Turn  -- its own line
  pub client : ℕ  -- whose list it is in: 0 outside `par`, and in it one more than the list's position
  pub earlier : List InnerTurn  -- earlier in its own list
  pub beside : List InnerTurn  -- in the other lists of its own line
  pub turn : InnerTurn

-- who makes the turns of the list at this position of a line; workers' lists come after those of the clients
abbrev pub client_at : Request → ℕ → ℕ
client_at (request.One a) position = 0
client_at (request.Par clients workers) position = suc position

-- the turn stands so in its own line
pub record IsInLine (p : TurnPosition) : Type 0 where
  pub front : List (List InnerTurn)
  pub later : List InnerTurn
  pub back : List (List InnerTurn)
  pub in_line : lists_of p.line ≡ front ++ (p.earlier ++ p.turn ∷ later) ∷ back
  pub others : p.beside ≡ joined front ++ joined back
  pub client_is : p.client ≡ client_at p.line.request (length front)

-- a position of an inner turn in the turns of a run
pub record IsTurnPosition (turns : List Turn) (p : TurnPosition) : Type 0 where
  pub after : List Turn
  pub in_run : turns ≡ p.lines ++ p.line ∷ after
  pub stands : IsInLine p

-- a position of an inner turn in the line that comes after these
pub record IsLastTurnPosition (turns : List Turn) (line : Turn) (p : TurnPosition) : Type 0 where
  pub lines_are : p.lines ≡ turns
  pub line_is : p.line ≡ line
  pub stands : IsInLine p

-- ---- before

-- all that earlier runs, earlier lines and its own list did before an inner turn
abbrev pub turns_before : List Record → TurnPosition → List InnerTurn
turns_before past p = flat_map (λ run. inner_turns run.turns) past ++ (inner_turns p.lines ++ p.earlier)

-- one inner turn is before another
abbrev pub IsBefore : List Record → InnerTurn → TurnPosition → Type 0
IsBefore past turn p = IsIn (turns_before past p) turn

-- the first are some of the others, in their order
abbrev pub AreSomeOf : {X : Type 0} → List X → List X → Type 0
AreSomeOf [] ys = ⊤
AreSomeOf (x ∷ xs) [] = ⊥
AreSomeOf (x ∷ xs) (y ∷ ys) = ((x ≡ y) × AreSomeOf xs ys) ⊎ AreSomeOf (x ∷ xs) ys

-- the turns of its run after which a turn may have been answered: all that are before it, and some of those in the other lists of its line
pub record IsAfter (p : TurnPosition) (turns : List InnerTurn) : Type 0 where
  pub others : List InnerTurn
  pub some_of : AreSomeOf others p.beside
  pub are : turns ≡ inner_turns p.lines ++ (p.earlier ++ others)
