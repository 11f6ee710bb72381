-- Replicas that wait for a bootstrap.
use Rattle.std.specs.Prelude.{◌≡◌, ℕ, List, [], ◌∷◌, ◌++◌, Option, Bool, true, false, not, ◌&&◌, ◌||◌, is_none, is_some, nat_eq, fold}
use Rattle.std.specs.Option.{option_map_or}
use Rattle.std.specs.Cmp.Lexicographic.{pointwise}
use Rattle.m3_model.specs.declared.act.Act.{Act}
use Rattle.m3_model.specs.declared.act.Act.TheVariants as act
use Rattle.m3_model.specs.declared.answer.Answer.{Answer}
use Rattle.m3_model.specs.declared.answer.Answer.TheVariants as answer
use Rattle.m3_model.specs.declared.placement.Placement.{Placement}
use Rattle.m3_model.specs.declared.rules.MetaState.{MetaState}
use Rattle.m3_model.specs.declared.turn.Turn.{Turn}
use Rattle.transcripts.specs.Fates.{OfNode}
use Rattle.transcripts.specs.Placements.{has_replica, placement_after, printed, start_placement}
use Rattle.transcripts.specs.Record.{InnerTurn, TurnPosition, inner_turns}

-- the bootstrap is of this shard: of all of its node's, or of this one
abbrev pub is_covering : ℕ → Option ℕ → Bool
is_covering shard asked = option_map_or (nat_eq shard) asked true

-- The replica of a node, which has this name, for a shard.
pub record Replica : Type 0 where
  pub shard : ℕ
  pub node : ℕ
  pub name : List ℕ

-- The placement that stands, and whether a replica waits for a bootstrap.
pub record Waiting : Type 0 where
  pub place : Option Placement
  pub waits : Bool

-- a bootstrap that covers the replica was answered ok; it counts where the replica is a member from the beginning to the end of that line
abbrev pub is_begun_by : Replica → Bool → Act → Answer → Bool
is_begun_by x stays (act.Bootstrap node asked) (answer.Available available place version) = stays && (pointwise nat_eq x.name node && is_covering x.shard asked)
is_begun_by x stays _ _ = false

-- whether the replica waits after an act with its answer: a restart of its node has it wait, a bootstrap that covers it ends that
abbrev pub waits_by : Replica → Bool → Act → Answer → Bool → Bool
waits_by x stays (act.Restart node pick) answer.Done before = pointwise nat_eq x.name node || before
waits_by x stays (act.Bootstrap node asked) (answer.Available available place version) before = not (is_begun_by x stays (act.Bootstrap node asked) (answer.Available available place version)) && before
waits_by x stays _ _ before = before

-- the same after several
abbrev pub waits_after : Replica → Bool → List InnerTurn → Bool → Bool
waits_after x stays turns before = fold (λ waits turn. waits_by x stays turn.act turn.answer waits) before turns

-- the replica is a member in this placement
abbrev pub is_member : Replica → Option Placement → Bool
is_member x place = has_replica place x.shard x.node

-- a placement line other than `init` assigned it: it is a member after the line, and wasn't before
abbrev pub is_assigned : Replica → Option Placement → Option Placement → Bool
is_assigned x place next = (is_some place && not (is_member x place)) && is_member x next

-- how it stands after a line
abbrev pub waiting_by : Replica → Waiting → Turn → Waiting
waiting_by x before line =
    let turns = inner_turns (line ∷ []) in
    let next = placement_after before.place turns in
    record { place = next; waits = is_assigned x before.place next || waits_after x (is_member x before.place && is_member x next) turns before.waits }

-- how it stands after these lines; one that was a member when the run opened waits
abbrev pub waiting_after : Replica → Option MetaState → List Turn → Waiting
waiting_after x start lines = fold (waiting_by x) (record { place = start_placement start; waits = is_member x (start_placement start) }) lines

-- the replica waits for a bootstrap at this turn
abbrev pub waits_at : Replica → Option MetaState → TurnPosition → Bool
waits_at x start p =
    let before = waiting_after x start p.lines in
    waits_after x (is_member x before.place && is_member x (placement_after before.place (p.earlier ++ p.beside))) p.earlier before.waits

-- the same of a node by its number
abbrev pub WaitsForBoot : Option MetaState → TurnPosition → Placement → ℕ → ℕ → Type 0
WaitsForBoot start p place shard node = OfNode place node (λ name. waits_at (record { shard = shard; node = node; name = name }) start p ≡ true)

-- ---- replicas for which no bootstrap was asked

-- whether the replica lies idle after an act with its answer: after a restart of its node, until a bootstrap that covers it is asked, whatever that is answered; an
-- `init` that prints a placement begins all replicas
abbrev pub idles_by : Replica → Act → Answer → Bool → Bool
idles_by x (act.Init rf shards seed nodes) b before = is_none (printed b) && before
idles_by x (act.Restart node pick) answer.Done before = pointwise nat_eq x.name node || before
idles_by x (act.Bootstrap node asked) b before = not (pointwise nat_eq x.name node && is_covering x.shard asked) && before
idles_by x _ _ before = before

-- the replica lies idle by the end of these turns; one that was a member when the run opened begins so
abbrev pub idles_after : Replica → Option MetaState → List InnerTurn → Bool
idles_after x start turns = fold (λ idles turn. idles_by x turn.act turn.answer idles) (is_member x (start_placement start)) turns

-- a bootstrap of the replica was asked before the turn or beside it, where one is wanted
abbrev pub IsBegunFor : Option MetaState → TurnPosition → Placement → ℕ → ℕ → Type 0
IsBegunFor start p place shard node = OfNode place node (λ name. idles_after (record { shard = shard; node = node; name = name }) start (inner_turns p.lines ++ (p.earlier ++ p.beside)) ≡ false)
