-- A short run with the list that tells of it: one node, one shard, a namespace, a write and a read.
use Rattle.transcripts.specs.Record.{line_of}
use Rattle.std.specs.Prelude.{ℕ, pos, List, [], ◌∷◌, ◌++◌, None, true, false}
use Rattle.m3_model.specs.declared.act.Act.{Act}
use Rattle.m3_model.specs.declared.act.Act.TheVariants as act
use Rattle.m3_model.specs.declared.act.ReadLevel.TheVariants as level
use Rattle.m3_model.specs.declared.act.WriteLevel.TheVariants as taking
use Rattle.m3_model.specs.declared.answer.Answer.{Answer}
use Rattle.m3_model.specs.declared.answer.Answer.TheVariants as answer
use Rattle.m3_model.specs.declared.placement.Placement.{Placement}
use Rattle.m3_model.specs.declared.placement.ShardState.TheVariants.{Available}
use Rattle.m3_model.specs.declared.point.Pick.TheVariants as pick
use Rattle.m3_model.specs.declared.point.Point.{Point}
use Rattle.m3_model.specs.declared.point.Series.{Series}
use Rattle.m3_model.specs.declared.rules.Rules.{Rules}
use Rattle.m3_model.specs.declared.turn.Turn.{Turn}
use Rattle.cluster_core.specs.declared.event.Asked.TheVariants as asked
use Rattle.cluster_core.specs.declared.event.StepCall.{StepCall}
use Rattle.cluster_core.specs.declared.event.StepCall.TheVariants as call
use Rattle.cluster_core.specs.declared.event.StepReply.TheVariants as reply
use Rattle.cluster_core.specs.declared.event.Event.{Event}
use Rattle.cluster_core.specs.declared.event.Event.TheVariants as event
use Rattle.cluster_core.specs.Legal.{Legal}
use Rattle.told_by.specs.Told.{ToldBy}

abbrev pub name : List ℕ
name = 97 ∷ []

abbrev pub place : Placement
place = record { version = 1; rf = 1; instances = record { name = name; group = name; listed = true; drained = false } ∷ []; shards = (record { node = 0; tenure = 1; state = Available; source = None } ∷ []) ∷ [] }

abbrev pub begun : Act
begun = act.Init 1 1 0 ((name, name) ∷ [])

abbrev pub placed : Answer
placed = answer.Placed place 1

abbrev pub spaced : Act
spaced = act.Namespace name 10 5 5 20

abbrev pub written : Act
written = act.Write name name 3 (pos 7) taking.Majority None

abbrev pub fetched : Act
fetched = act.Fetch name name 0 10 level.Majority None

abbrev pub series : List Series
series = record { id = name; points = (3, pos 7) ∷ [] } ∷ []

abbrev pub turns : List Turn
turns = line_of begun placed ∷ line_of spaced answer.Done ∷ line_of written (answer.Acks (0 ∷ [])) ∷ line_of fetched (answer.Found series false) ∷ []

abbrev pub rules : Rules
rules = record { now = 0; spaces = record { name = name; block = 10; past = 5; future = 5; retention = 20 } ∷ [] }

abbrev pub point : Point
point = record { ns = 0; id = name; t = 3; v = pos 7 }

-- the events of the four lines: what the turn makes, what it asks for, and what the replica answers
abbrev pub begin : StepCall
begin = call.Begin 1

abbrev pub put : StepCall
put = call.Put 0 0 rules 1 point

abbrev pub read : StepCall
read = call.Read 0 1 rules 1 (pick.One 0 name) 0 10

abbrev pub of_init : List Event
of_init = event.Place place [] ∷ event.Clock (record { now = 0; spaces = [] }) ∷ event.Ask (asked.Step 0 0 begin) ∷ event.Step 0 0 begin (reply.Began 1 []) ∷ []

abbrev pub of_space : List Event
of_space = event.Ask (asked.Clock rules) ∷ event.Clock rules ∷ []

abbrev pub of_write : List Event
of_write = event.Send 1 0 point ∷ event.Ask (asked.Step 0 0 put) ∷ event.Step 0 0 put reply.Done ∷ event.Ack 6 (0 ∷ []) ∷ []

abbrev pub of_read : List Event
of_read = event.FetchStart 1 0 rules (pick.One 0 name) 0 10 ∷ event.Ask (asked.Step 0 0 read) ∷ event.Step 0 0 read (reply.Found series) ∷ event.FetchDone 10 (0 ∷ []) series ∷ []

abbrev pub events : List Event
events = (((of_init) ++ of_space) ++ of_write) ++ of_read

-- the list tells of the run
abbrev pub SampleIsTold : Type 0
SampleIsTold = ToldBy None turns events

-- and is legal
abbrev pub SampleIsLegal : Type 0
SampleIsLegal = Legal true events
