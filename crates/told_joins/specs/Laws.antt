-- A run that is told and served stays so by the line of a bootstrap, whether it ends moves or not.
use Rattle.std.specs.Prelude.{◌≡◌, ◌⊎◌, ℕ, List, [], ◌∷◌, ◌++◌, ◌<◌, length, take, Option, Bool}
use Rattle.m3_model.specs.Members.{IsIn}
use Rattle.m3_model.specs.declared.act.Act.TheVariants as act
use Rattle.m3_model.specs.declared.answer.Answer.{Answer}
use Rattle.m3_model.specs.declared.answer.Answer.TheVariants as answer
use Rattle.m3_model.specs.declared.limits.TheConstants.{MOST_VERSIONS}
use Rattle.m3_model.specs.declared.placement.Assignment.{Assignment}
use Rattle.m3_model.specs.declared.placement.Placement.{Placement}
use Rattle.m3_model.specs.declared.placement.ShardState.TheVariants.{Initializing}
use Rattle.m3_model.specs.declared.reason.Reason.{Reason}
use Rattle.m3_model.specs.declared.rules.MetaState.{MetaState}
use Rattle.m3_model.specs.declared.turn.Request.{Request}
use Rattle.m3_model.specs.declared.turn.Turn.{Turn}
use Rattle.placement_core.specs.Lawful.{IsLawful}
use Rattle.placement_core.specs.Majorities.{IsMajority}
use Rattle.placement_core.specs.Shards.{Shard, former}
use Rattle.cluster_core.specs.Joins.{HasStreamed}
use Rattle.cluster_core.specs.Lists.{At}
use Rattle.cluster_core.specs.declared.event.Event.{Event}
use Rattle.cluster_core.specs.declared.event.Event.TheVariants as event
use Rattle.cluster_core.specs.declared.event.StepCall.TheVariants as call
use Rattle.cluster_core.specs.declared.event.StepReply.{StepReply}
use Rattle.transcripts.specs.Caused.{kept_after}
use Rattle.transcripts.specs.Deliveries.{LateMessage}
use Rattle.transcripts.specs.Faults.{Fault}
use Rattle.transcripts.specs.Record.{Record, TurnPosition, inner_turns, line_of}
use Rattle.told_runs.specs.Answers.{MayLackRoom}
use Rattle.told_runs.specs.Lines.{IsToldAndServed, delivered_on}
use Rattle.peer_streams.specs.Joins.{AskedPeer, Opened}
use Rattle.told_joins.specs.Lines.{AddsHeldUp, AddsJoins, AddsMissed, AddsPart, AddsUnmarked, AnswersHeldUp, MayAdd, MeetsBoot, joined_of, missed_answer}

-- a bootstrap that is answered so, and what it adds, leave a told run told and served
abbrev pub StaysServed : Bool → (Placement → ℕ → Option ℕ → List ℕ → Answer → ℕ → List Event → List Event → Type 0) → Type 0
StaysServed tells Adds =
    (past : List Record) (start : Option MetaState) (turns : List Turn) (unanswered later : Option Request) (events : List Event) (taking : List Fault) (was : TurnPosition → List LateMessage)
    → IsToldAndServed tells taking was past start turns unanswered events
    → (place : Placement) (name : List ℕ) (only : Option ℕ) (y : ℕ) (b : Answer) (more : List Event) → MeetsBoot start turns place name only y
    → MayAdd tells past start turns events (line_of (act.Bootstrap name only) b) more → Adds place y only name b (kept_after start (inner_turns turns) place) events more
    → IsToldAndServed tells taking (delivered_on turns was (λ p. [])) past start (turns ++ line_of (act.Bootstrap name only) b ∷ []) later (events ++ more)

-- It is answered ok: the shards that it joined are printed, each with whom it merged, and the placement that stands then, for which a version was left.
pub record IsJoinLine (place : Placement) (y : ℕ) (only : Option ℕ) (name : List ℕ) (b : Answer) (kept : ℕ) (events more : List Event) : Type 0 where
  pub opened : List Opened
  pub next : Placement
  pub adds : AddsJoins place y only opened next more
  pub room : (joined_of opened ≡ []) ⊎ (kept < MOST_VERSIONS)
  pub answers : b ≡ answer.Available (joined_of opened) next next.version

abbrev pub JoinsServe : Bool → Type 0
JoinsServe tells = StaysServed tells IsJoinLine

-- A replica of the node holds it up: its disk failed, its files are damaged, or memory was wanted.
pub record IsHeldUpLine (place : Placement) (y : ℕ) (only : Option ℕ) (name : List ℕ) (b : Answer) (kept : ℕ) (events more : List Event) : Type 0 where
  pub shard : ℕ
  pub why : Reason
  pub adds : AddsHeldUp place y only shard why more
  pub answers : AnswersHeldUp name shard why b

abbrev pub HeldUpJoinsServe : Bool → Type 0
HeldUpJoinsServe tells = StaysServed tells IsHeldUpLine

-- Memory was wanted, or the list may have lacked room, before it came to a placement.
pub record IsPartLine (place : Placement) (y : ℕ) (only : Option ℕ) (name : List ℕ) (b : Answer) (kept : ℕ) (events more : List Event) : Type 0 where
  pub adds : AddsPart place y only more
  pub answers : (b ≡ answer.Memory) ⊎ ((b ≡ answer.Full) × MayLackRoom (length (events ++ more)))

abbrev pub PartJoinsServe : Bool → Type 0
PartJoinsServe tells = StaysServed tells IsPartLine

-- Fewer than a majority of the former replicas of a shard streamed whole.
pub record IsMissedLine (place : Placement) (y : ℕ) (only : Option ℕ) (name : List ℕ) (b : Answer) (kept : ℕ) (events more : List Event) : Type 0 where
  pub shard : ℕ
  pub peers : List AskedPeer
  pub adds : AddsMissed place y only shard peers more
  pub answers : b ≡ missed_answer place shard peers

abbrev pub MissedJoinsServe : Bool → Type 0
MissedJoinsServe tells = StaysServed tells IsMissedLine

-- As many versions are kept as may be, so that nothing is marked.
pub record IsUnmarkedLine (place : Placement) (y : ℕ) (only : Option ℕ) (name : List ℕ) (b : Answer) (kept : ℕ) (events more : List Event) : Type 0 where
  pub adds : AddsUnmarked place y only kept more
  pub answers : b ≡ answer.Limit MOST_VERSIONS

abbrev pub UnmarkedJoinsServe : Bool → Type 0
UnmarkedJoinsServe tells = StaysServed tells IsUnmarkedLine

-- ---- what it says of each shard that is printed

-- The node joins the shard. A majority of its former replicas are printed, each of which it has streamed since it began with its tenure: the former one was fenced,
-- and then gave pages that cover it. Behind that one Place ends the move, and no tenure ends before it.
pub record IsWholeJoin (place : Placement) (y : ℕ) (next : Placement) (more : List Event) (x : ℕ × List ℕ) : Type 0 where
  pub shard : Shard
  pub there : At place.shards x.0 shard
  pub joining : Assignment
  pub joins : IsIn shard joining
  pub to_node : joining.node ≡ y
  pub is_joining : joining.state ≡ Initializing
  pub enough : IsMajority place.rf (former shard) x.1
  pub place_at : ℕ
  pub done : List (ℕ × ℕ)
  pub placed : At more place_at (event.Place next done)
  pub ended : IsIn done (x.0, y)
  pub streamed : (q : ℕ) → IsIn x.1 q → HasStreamed x.0 y joining.tenure q (take place_at more)
  pub ends_behind : (i n s : ℕ) (a : StepReply) → At more i (event.Step n s call.End a) → place_at < i

abbrev pub JoinsAreWhole : Type 0
JoinsAreWhole =
    (place : Placement) → IsLawful place → (y : ℕ) (only : Option ℕ) (opened : List Opened) (next : Placement) (more : List Event) → AddsJoins place y only opened next more → (x : ℕ × List ℕ) → IsIn (joined_of opened) x → IsWholeJoin place y next more x
