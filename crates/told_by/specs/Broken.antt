-- Lists that don't tell of the short run, each broken in one place.
use Rattle.std.specs.Prelude.{◌≡◌, ℕ, List, [], ◌∷◌, ◌++◌, Some, None, true, false}
use Rattle.m3_model.specs.Members.{IsIn}
use Rattle.m3_model.specs.declared.act.Act.{Act}
use Rattle.m3_model.specs.declared.act.Act.TheVariants as act
use Rattle.m3_model.specs.declared.answer.Answer.{Answer}
use Rattle.m3_model.specs.declared.answer.Answer.TheVariants as answer
use Rattle.m3_model.specs.declared.placement.Assignment.{Assignment}
use Rattle.m3_model.specs.declared.placement.Placement.{Placement}
use Rattle.m3_model.specs.declared.placement.ShardState.TheVariants.{Available, Initializing, Leaving}
use Rattle.m3_model.specs.declared.point.Pick.TheVariants as pick
use Rattle.m3_model.specs.declared.rules.MetaState.{MetaState}
use Rattle.m3_model.specs.declared.rules.Rules.{Rules}
use Rattle.m3_model.specs.declared.turn.Reply.TheVariants as replies
use Rattle.m3_model.specs.declared.turn.Request.TheVariants as request
use Rattle.m3_model.specs.declared.turn.Turn.{Turn}
use Rattle.transcripts.specs.Record.{line_of}
use Rattle.cluster_core.specs.Lists.{At}
use Rattle.cluster_core.specs.declared.event.Asked.TheVariants as asked
use Rattle.cluster_core.specs.declared.event.Event.{Event}
use Rattle.cluster_core.specs.declared.event.Event.TheVariants as event
use Rattle.cluster_core.specs.declared.event.StepCall.{StepCall}
use Rattle.cluster_core.specs.declared.event.StepCall.TheVariants as call
use Rattle.cluster_core.specs.declared.event.StepReply.TheVariants as reply
use Rattle.told_by.specs.Sample.{begun, fetched, name, of_init, of_space, of_write, place, placed, point, read, rules, series, spaced, written}
use Rattle.told_by.specs.Told.{ToldBy}

-- the run up to its namespace, and up to its write
abbrev pub two : List Turn
two = line_of begun placed ∷ line_of spaced answer.Done ∷ []

abbrev pub three : List Turn
three = line_of begun placed ∷ line_of spaced answer.Done ∷ line_of written (answer.Acks (0 ∷ [])) ∷ []

-- a Send that no turn made
abbrev pub SendOfNobody : Type 0
SendOfNobody = ToldBy None two ((of_init ++ of_space) ++ event.Send 1 0 point ∷ []) → ⊥

-- a Send that is missing, though its write was acknowledged
abbrev pub LostSend : Type 0
LostSend = ToldBy None three (of_init ++ of_space) → ⊥

-- a replica that was stopped by no line
abbrev pub StopWithoutLine : Type 0
StopWithoutLine = ToldBy None two ((of_init ++ of_space) ++ event.Step 0 0 call.Stop reply.Done ∷ []) → ⊥

-- a placement that was printed and never stood
abbrev pub other_place : Placement
other_place = record place { version = 9 }

abbrev pub PrintedUnplaced : Type 0
PrintedUnplaced = ToldBy None (line_of begun (answer.Placed other_place 9) ∷ []) of_init → ⊥

-- a placement that stood, though the turn that made it prints none
abbrev pub later_place : Placement
later_place = record place { version = 2 }

abbrev pub unprinted : List Turn
unprinted = line_of begun placed ∷ line_of (act.Add name name) answer.Memory ∷ []

abbrev pub PlacedUnprinted : Type 0
PlacedUnprinted = ToldBy None unprinted (of_init ++ event.Ask (asked.Place later_place []) ∷ event.Place later_place [] ∷ []) → ⊥

-- an Ack that counts the put of another client's call
abbrev pub other_put : StepCall
other_put = call.Put 5 0 rules 1 point

abbrev pub other_write : List Event
other_write = event.Send 1 0 point ∷ event.Ask (asked.Step 0 0 other_put) ∷ event.Step 0 0 other_put reply.Done ∷ event.Ack 6 (0 ∷ []) ∷ []

abbrev pub AckOfOtherPut : Type 0
AckOfOtherPut = ToldBy None three ((of_init ++ of_space) ++ other_write) → ⊥

-- an Ask of nobody: a replica is asked to take a point that no write sent
abbrev pub AskOfNobody : Type 0
AskOfNobody = ToldBy None two ((of_init ++ of_space) ++ event.Ask (asked.Step 0 0 other_put) ∷ []) → ⊥

-- a read within which the moment was set, though the line that set it comes after the read's
abbrev pub later_rules : Rules
later_rules = record rules { now = 1 }

abbrev pub five : List Turn
five =
    line_of begun placed ∷ line_of spaced answer.Done ∷ line_of written (answer.Acks (0 ∷ [])) ∷ line_of fetched (answer.Found series false) ∷ line_of (act.Now 1) answer.Done ∷ []

abbrev pub clocked_read : List Event
clocked_read =
    event.FetchStart 1 0 rules (pick.One 0 name) 0 10
    ∷ event.Ask (asked.Clock later_rules)
    ∷ event.Clock later_rules
    ∷ event.Ask (asked.Step 0 0 read)
    ∷ event.Step 0 0 read (reply.Found series)
    ∷ event.FetchDone 10 (0 ∷ []) series
    ∷ []

abbrev pub clocked : List Event
clocked = ((of_init ++ of_space) ++ of_write) ++ clocked_read

abbrev pub MomentWithinRead : Type 0
MomentWithinRead = ToldBy None five clocked → ⊥

-- ---- a move that ends

-- one replica leaves, and another joins
abbrev pub other_name : List ℕ
other_name = 98 ∷ []

abbrev pub joined_by : Assignment
joined_by = record { node = 1; tenure = 2; state = Initializing; source = Some 0 }

abbrev pub moving : Placement
moving = record {
  version = 2;
  rf = 1;
  instances = record { name = name; group = name; listed = true; drained = false } ∷ record { name = other_name; group = other_name; listed = true; drained = false } ∷ [];
  shards = (record { node = 0; tenure = 1; state = Leaving; source = None } ∷ joined_by ∷ []) ∷ [];
}

-- the joining replica is Available, and the other one is gone
abbrev pub moved : Placement
moved = record moving { version = 3; shards = (record { node = 1; tenure = 2; state = Available; source = None } ∷ []) ∷ [] }

abbrev pub found_moving : MetaState
found_moving = record { rules = rules; seed = 0; place = moving }

-- the replica began, and nobody streamed to it
abbrev pub unstreamed : List Event
unstreamed =
    event.Place moving []
    ∷ event.Clock rules
    ∷ event.Ask (asked.Step 1 0 (call.Begin 2))
    ∷ event.Step 1 0 (call.Begin 2) (reply.Began 2 [])
    ∷ event.Ask (asked.Place moved ((0, 1) ∷ []))
    ∷ event.Place moved ((0, 1) ∷ [])
    ∷ []

-- a bootstrap, and that it ended the move
abbrev pub joining : Act
joining = act.Bootstrap other_name None

abbrev pub joined : Answer
joined = answer.Available ((0, 0 ∷ []) ∷ []) moved 3

-- a bootstrap that prints a peer which wasn't streamed
abbrev pub UnstreamedPeer : Type 0
UnstreamedPeer = ToldBy (Some found_moving) (line_of joining joined ∷ []) unstreamed → ⊥

-- two workers of one `par` line that both print the shard
abbrev pub both_join : List Turn
both_join = record { request = request.Par [] ((joining ∷ []) ∷ (joining ∷ []) ∷ []); reply = replies.Par [] ((joined ∷ []) ∷ (joined ∷ []) ∷ []) } ∷ []

-- the list ends a move of the shard once at most
abbrev pub EndsOnce : List Event → ℕ → Type 0
EndsOnce events s =
    (i j : ℕ) (p q : Placement) (dp dq : List (ℕ × ℕ)) (n m : ℕ) → At events i (event.Place p dp) → At events j (event.Place q dq) → IsIn dp (s, n) → IsIn dq (s, m) → i ≡ j

abbrev pub MovePrintedTwice : Type 0
MovePrintedTwice = (events : List Event) → EndsOnce events 0 → ToldBy (Some found_moving) both_join events → ⊥
