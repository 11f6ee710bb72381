-- The turns of which the worked transcripts are made: mostly one cluster of three nodes, one namespace, one series.
use Rattle.std.specs.Prelude.{ℕ, ℤ, List, [], ◌∷◌, ◌++◌, map, None, Bool, false, codes}
use Rattle.transcripts.specs.Record.{Life, TurnPosition}
use Rattle.placement_plan.specs.First.{first_instances}
use Rattle.m3_model.specs.declared.placement.Assignment.{Assignment}
use Rattle.m3_model.specs.declared.placement.Placement.{Placement}
use Rattle.m3_model.specs.declared.placement.ShardState.TheVariants.{Available}
use Rattle.m3_model.specs.declared.point.Series.{Series}
use Rattle.m3_model.specs.declared.point.Matcher.{Matcher}
use Rattle.m3_model.specs.declared.reason.Reason.{Reason}
use Rattle.m3_model.specs.declared.rules.Space.{Space}
use Rattle.m3_model.specs.declared.act.Act.{Act}
use Rattle.m3_model.specs.declared.act.Act.TheVariants as act
use Rattle.m3_model.specs.declared.act.ReadLevel.TheVariants as read_level
use Rattle.m3_model.specs.declared.act.WriteLevel.TheVariants as write_level
use Rattle.m3_model.specs.declared.answer.Answer.{Answer}
use Rattle.m3_model.specs.declared.answer.Answer.TheVariants as answer
use Rattle.m3_model.specs.declared.turn.Request.TheVariants as request
use Rattle.m3_model.specs.declared.turn.Reply.TheVariants as reply
use Rattle.m3_model.specs.declared.turn.Turn.{Turn}

-- a line outside `par`
abbrev pub line : Act → Answer → Turn
line a b = record { request = request.One a; reply = reply.One b }

-- three nodes, each in a group of its own
abbrev pub nodes : List (List ℕ × List ℕ)
nodes = (codes "a", codes "g1") ∷ (codes "b", codes "g2") ∷ (codes "c", codes "g3") ∷ []

-- a node has the shard from the first placement on
abbrev pub assigned : ℕ → Assignment
assigned node = record { node = node; tenure = 1; state = Available; source = None }

-- the first placement of the three nodes, with these assignments of the only shard
abbrev pub placed : List Assignment → Placement
placed assignments = record { version = 1; rf = 3; instances = first_instances nodes; shards = assignments ∷ [] }

-- all three nodes have the only shard
abbrev pub place : Placement
place = placed (assigned 0 ∷ assigned 1 ∷ assigned 2 ∷ [])

-- an `init` of three replicas of one shard with seed 0, with its answer
abbrev pub init : Answer → Turn
init b = line (act.Init 3 1 0 nodes) b

-- an `init` that made the first placement
abbrev pub made : Turn
made = init (answer.Placed place 1)

-- two nodes
abbrev pub two_nodes : List (List ℕ × List ℕ)
two_nodes = (codes "a", codes "g1") ∷ (codes "b", codes "g2") ∷ []

-- the first placement of two shards with one replica each: node 0 has shard 0, and node 1 has shard 1
abbrev pub place_of_two : Placement
place_of_two = record { version = 1; rf = 1; instances = first_instances two_nodes; shards = (assigned 0 ∷ []) ∷ (assigned 1 ∷ []) ∷ [] }

-- a request for a namespace of this name with block 200, past 100, future 50 and retention 500
abbrev pub namespace_of : List ℕ → Act
namespace_of name = act.Namespace name 200 100 50 500

-- the namespace `m` was made
abbrev pub named : Turn
named = line (namespace_of (codes "m")) answer.Done

-- that namespace
abbrev pub space : Space
space = record { name = codes "m"; block = 200; past = 100; future = 50; retention = 500 }

-- a namespace `n` with a narrow window: past 10 and future 20
abbrev pub narrow : Space
narrow = record { name = codes "n"; block = 200; past = 10; future = 20; retention = 500 }

-- the moment moves on
abbrev pub moved : ℕ → Turn
moved now = line (act.Now now) answer.Done

-- the cluster and the namespace `m` were made, the moment moved to this one, and then these turns
abbrev pub begun : ℕ → List Turn → List Turn
begun now turns = made ∷ named ∷ moved now ∷ turns

-- one request at a moment, with its answer
abbrev pub at_moment : ℕ → Act → Answer → List Turn
at_moment now a b = begun now (line a b ∷ [])

-- eight names
abbrev pub eight_names : List (List ℕ)
eight_names = codes "m" ∷ codes "m2" ∷ codes "m3" ∷ codes "m4" ∷ codes "m5" ∷ codes "m6" ∷ codes "m7" ∷ codes "m8" ∷ []

-- the cluster and eight namespaces were made
abbrev pub eight_made : List Turn
eight_made = made ∷ map (λ name. line (namespace_of name) answer.Done) eight_names

-- one request after eight namespaces were made, with its answer
abbrev pub with_eight : Act → Answer → List Turn
with_eight a b = eight_made ++ line a b ∷ []

-- the cluster of two shards and the namespace `m` were made
abbrev pub two_made : List Turn
two_made = line (act.Init 1 2 0 two_nodes) (answer.Placed place_of_two 1) ∷ named ∷ []

-- one request of that cluster, with its answer
abbrev pub with_two_shards : Act → Answer → List Turn
with_two_shards a b = two_made ++ line a b ∷ []

-- a write into this namespace of a point of `hello` at level majority
abbrev pub write_in : List ℕ → ℕ → ℤ → Act
write_in ns t v = act.Write ns (codes "hello") t v write_level.Majority None

-- a write into `m`
abbrev pub write : ℕ → ℤ → Act
write t v = write_in (codes "m") t v

-- the answer that these nodes took a write
abbrev pub acks : List ℕ → Answer
acks taken = answer.Acks taken

-- a write into this namespace that all three nodes took
abbrev pub wrote_in : List ℕ → ℕ → ℤ → Turn
wrote_in ns t v = line (write_in ns t v) (acks (0 ∷ 1 ∷ 2 ∷ []))

-- a write into `m` that all three nodes took
abbrev pub wrote : ℕ → ℤ → Turn
wrote t v = wrote_in (codes "m") t v

-- the answer that only so many nodes did as asked, where two were needed, with the reasons of the others
abbrev pub unmet : ℕ → List (ℕ × Reason) → Answer
unmet got reasons = answer.Consistency got 2 reasons 0

-- all three nodes, each with this reason
abbrev pub by_each : Reason → List (ℕ × Reason)
by_each why = (0, why) ∷ (1, why) ∷ (2, why) ∷ []

-- a write into this namespace that each node refused for this reason
abbrev pub refused_in : List ℕ → ℕ → ℤ → Reason → Turn
refused_in ns t v why = line (write_in ns t v) (unmet 0 (by_each why))

-- a write into `m` that each node refused for this reason
abbrev pub refused : ℕ → ℤ → Reason → Turn
refused t v why = refused_in (codes "m") t v why

-- a fetch of `hello` from this namespace at level majority
abbrev pub fetch_in : List ℕ → ℕ → ℕ → Act
fetch_in ns from to = act.Fetch ns (codes "hello") from to read_level.Majority None

-- a fetch from `m`
abbrev pub fetch : ℕ → ℕ → Act
fetch from to = fetch_in (codes "m") from to

-- a match in `m`
abbrev pub matching : List Matcher → ℕ → ℕ → Act
matching wanted from to = act.Match (codes "m") wanted from to read_level.Majority None

-- the tag `zone` has the value `q`, or hasn't
abbrev pub zone_is : Bool → List Matcher
zone_is equal = record { name = codes "zone"; equal = equal; value = codes "q" } ∷ []

-- one series of these points, or none where there are none
abbrev pub series_of : List (ℕ × ℤ) → List Series
series_of [] = []
series_of (p ∷ ps) = record { id = codes "hello"; points = p ∷ ps } ∷ []

-- the answer that these series were found
abbrev pub found : List Series → Answer
found series = answer.Found series false

-- a fetch of `hello` that found these points
abbrev pub read : ℕ → ℕ → List (ℕ × ℤ) → Turn
read from to points = line (fetch from to) (found (series_of points))

-- a life of one run that began with nothing and answered each request
abbrev pub life_of : List Turn → Life
life_of turns = record { past = []; present = record { start = None; turns = turns; unanswered = None } }

-- the position of an act outside `par`
abbrev pub position_after : List Turn → Act → Answer → TurnPosition
position_after lines a b = record { lines = lines; line = line a b; client = 0; earlier = []; beside = []; turn = record { act = a; answer = b } }
