-- Transcripts in which one shard of two moves from b to a, and back. What is said here doesn't look at which nodes are listed or drained, so these flags stay.
use Rattle.std.specs.Prelude.{ℕ, List, [], ◌∷◌, ◌++◌, Bool, Option, Some, None, true, pos, codes}
use Rattle.m3_model.specs.declared.act.Act.TheVariants as act
use Rattle.m3_model.specs.declared.answer.Answer.{Answer}
use Rattle.m3_model.specs.declared.answer.Answer.TheVariants as answer
use Rattle.m3_model.specs.declared.placement.Assignment.{Assignment}
use Rattle.m3_model.specs.declared.placement.Placement.{Placement}
use Rattle.m3_model.specs.declared.placement.ShardState.TheVariants.{Initializing, Available, Leaving}
use Rattle.m3_model.specs.declared.reason.Reason.{Reason}
use Rattle.m3_model.specs.declared.reason.Reason.TheVariants as reason
use Rattle.m3_model.specs.declared.rules.MetaState.{MetaState}
use Rattle.m3_model.specs.declared.turn.Reply.TheVariants as replies
use Rattle.m3_model.specs.declared.turn.Request.TheVariants as request
use Rattle.m3_model.specs.declared.turn.Turn.{Turn}
use Rattle.transcripts.specs.Faults.{Fault, Failing}
use Rattle.transcripts.specs.Reasons.{MayRefuse}
use Rattle.transcripts.specs.Record.{InnerTurn, Life, TurnPosition}
use Rattle.model_laws.specs.Building.{assigned, line, position_after, place_of_two, space, two_made}
use Rattle.fault_laws.specs.Versions.{write_at}

-- ---- placements

-- the two shards at this version: a has shard 0, and shard 1 stands so
abbrev pub at_step : ℕ → List Assignment → Placement
at_step version assignments = record place_of_two { version = version; shards = (assigned 0 ∷ []) ∷ assignments ∷ [] }

-- a node has the shard since this version
abbrev pub holding : ℕ → ℕ → Assignment
holding node tenure = record { node = node; tenure = tenure; state = Available; source = None }

-- a node gives it away
abbrev pub leaving : ℕ → ℕ → Assignment
leaving node tenure = record { node = node; tenure = tenure; state = Leaving; source = None }

-- a node is to take it over from this one
abbrev pub joining : ℕ → ℕ → ℕ → Assignment
joining node tenure from = record { node = node; tenure = tenure; state = Initializing; source = Some from }

-- b is to give its shard to a
abbrev pub b_to_a : Placement
b_to_a = at_step 2 (leaving 1 1 ∷ joining 0 2 1 ∷ [])

-- a has it
abbrev pub on_a : Placement
on_a = at_step 3 (holding 0 2 ∷ [])

-- a is to give it back
abbrev pub a_to_b : Placement
a_to_b = at_step 4 (leaving 0 2 ∷ joining 1 4 0 ∷ [])

-- b has it again
abbrev pub on_b : Placement
on_b = at_step 5 (holding 1 4 ∷ [])

-- ---- lines

-- a bootstrap of this node, of one shard or of all of its own, with its answer
abbrev pub bootstrap : List ℕ → Option ℕ → Answer → Turn
bootstrap node shard b = line (act.Bootstrap node shard) b

-- a restart of this node with its answer
abbrev pub restart : List ℕ → Answer → Turn
restart node b = line (act.Restart node 0) b

-- b was drained, and its shard is to go to a
abbrev pub b_drained : Turn
b_drained = line (act.Drain (codes "b")) (answer.Placed b_to_a 2)

-- the answer of the bootstrap with which a takes it over
abbrev pub a_took : Answer
a_took = answer.Available ((1, 1 ∷ []) ∷ []) on_a 3

-- that bootstrap
abbrev pub a_joined : Turn
a_joined = bootstrap (codes "a") None a_took

-- the same as a turn
abbrev pub a_joins : InnerTurn
a_joins = record { act = act.Bootstrap (codes "a") None; answer = a_took }

-- one that wanted memory
abbrev pub a_refused : Turn
a_refused = bootstrap (codes "a") None answer.Memory

-- the move was cancelled
abbrev pub cancelled : Placement
cancelled = at_step 3 (holding 1 1 ∷ [])

-- by this line
abbrev pub a_cancelled : Turn
a_cancelled = line (act.Cancel (codes "a")) (answer.Placed cancelled 3)

-- a bootstrap of a before its move began, and one after it was cancelled
abbrev pub asked_before : List Turn
asked_before = two_made ++ bootstrap (codes "a") None (answer.Available [] place_of_two 1) ∷ b_drained ∷ []

abbrev pub asked_after : List Turn
asked_after = two_made ++ b_drained ∷ a_cancelled ∷ bootstrap (codes "a") None (answer.Available [] cancelled 3) ∷ []

-- b was added again, and its shard is to come back
abbrev pub b_added : Turn
b_added = line (act.Add (codes "b") (codes "g2")) (answer.Placed a_to_b 4)

-- the answer of the bootstrap with which b takes it back
abbrev pub b_took : Answer
b_took = answer.Available ((1, 0 ∷ []) ∷ []) on_b 5

-- that bootstrap
abbrev pub b_joined : Turn
b_joined = bootstrap (codes "b") None b_took

-- the same as a turn
abbrev pub b_joins : InnerTurn
b_joins = record { act = act.Bootstrap (codes "b") None; answer = b_took }

-- the shard moved to a
abbrev pub moved_to_a : List Turn
moved_to_a = two_made ++ b_drained ∷ a_joined ∷ []

-- and is to come back
abbrev pub coming_back : List Turn
coming_back = two_made ++ b_drained ∷ a_joined ∷ b_added ∷ []

-- and came back
abbrev pub came_back : List Turn
came_back = two_made ++ b_drained ∷ a_joined ∷ b_added ∷ b_joined ∷ []

-- it is to come back, and bootstraps were answered ok, but none that covers b's replica of it since: one of b before it came, one of b's other shard and one of a
abbrev pub coming_back_uncovered : List Turn
coming_back_uncovered =
    two_made
    ++ bootstrap (codes "b") None (answer.Available [] place_of_two 1)
    ∷ b_drained
    ∷ a_joined
    ∷ b_added
    ∷ bootstrap (codes "b") (Some 0) (answer.Available [] a_to_b 4)
    ∷ bootstrap (codes "a") None (answer.Available [] a_to_b 4)
    ∷ []

-- the disk of this node's slot of shard 1 fails in the line that so many stand before
abbrev pub fails_at : ℕ → ℕ → Fault
fails_at lines node = record { line = lines; node = node; shard = 1; kind = Failing }

-- ---- refusals

-- where a write at the version of this placement stands that a node of shard 1 refused for this reason
abbrev pub call_at : List Turn → Placement → ℕ → Reason → TurnPosition
call_at lines used node why = position_after lines (write_at used.version 10 (pos 5)) (answer.Consistency 0 1 ((node, why) ∷ []) 1)

-- the node may refuse it
abbrev pub MayRefuseAfter : Bool → List Fault → List Turn → Placement → ℕ → Reason → Type 0
MayRefuseAfter tells faults lines used node why = MayRefuse tells faults None (call_at lines used node why) used 1 node why

-- the same where these turns are earlier in its list
abbrev pub MayRefuseBehind : Bool → List Fault → List Turn → List InnerTurn → Placement → ℕ → Reason → Type 0
MayRefuseBehind tells faults lines earlier used node why = MayRefuse tells faults None (record (call_at lines used node why) { earlier = earlier }) used 1 node why

-- and where they are in other lists of its line
abbrev pub MayRefuseBeside : Bool → List Fault → List Turn → List InnerTurn → Placement → ℕ → Reason → Type 0
MayRefuseBeside tells faults lines beside used node why = MayRefuse tells faults None (record (call_at lines used node why) { beside = beside }) used 1 node why

-- ---- runs

-- what the meta disk holds of a cluster with this placement
abbrev pub held : Placement → MetaState
held place = record { rules = record { now = 100; spaces = space ∷ [] }; seed = 0; place = place }

-- a run that begins so
abbrev pub reopened_with : Placement → List Turn → Life
reopened_with place turns = record { past = []; present = record { start = Some (held place); turns = turns; unanswered = None } }

-- a run that begins while b is to give its shard to a
abbrev pub reopened_moving : List Turn → Life
reopened_moving turns = reopened_with b_to_a turns

-- both shards stand so, at this version
abbrev pub at_both : ℕ → List Assignment → List Assignment → Placement
at_both version first second = record place_of_two { version = version; shards = first ∷ second ∷ [] }

-- b is to give both shards to a
abbrev pub both_to_a : Placement
both_to_a = at_both 2 (leaving 1 1 ∷ joining 0 2 1 ∷ []) (leaving 1 1 ∷ joining 0 2 1 ∷ [])

-- a has both
abbrev pub both_on_a : Placement
both_on_a = at_both 3 (holding 0 2 ∷ []) (holding 0 2 ∷ [])

-- a has the first one
abbrev pub first_on_a : Placement
first_on_a = at_both 3 (holding 0 2 ∷ []) (leaving 1 1 ∷ joining 0 2 1 ∷ [])

-- a run that begins while b is to give both to a, in which a bootstrap of a prints these shards and this placement
abbrev pub both_moving : Option ℕ → List (ℕ × List ℕ) → Placement → Life
both_moving shard available place = reopened_with both_to_a (bootstrap (codes "a") shard (answer.Available available place 3) ∷ [])

-- the bootstraps of two workers beside each other print this placement, and no shard
abbrev pub both_print : Placement → Turn
both_print place = record {
  request = request.Par [] ((act.Bootstrap (codes "a") None ∷ []) ∷ (act.Bootstrap (codes "b") None ∷ []) ∷ []);
  reply = replies.Par [] ((answer.Available [] place 3 ∷ []) ∷ (answer.Available [] place 3 ∷ []) ∷ []);
}

-- two workers bootstrap a, which takes the shard over, and b, which has none of it then
abbrev pub both_joined : Turn
both_joined = record {
  request = request.Par [] ((act.Bootstrap (codes "a") None ∷ []) ∷ (act.Bootstrap (codes "b") None ∷ []) ∷ []);
  reply = replies.Par [] ((a_took ∷ []) ∷ (answer.Available [] on_a 3 ∷ []) ∷ []);
}

-- in a run that begins while b is to give its shard to a, b may say after this line that it waits for a bootstrap, to a write at the version before
abbrev pub MayWaitAfter : Turn → Type 0
MayWaitAfter next = MayRefuse true [] (Some (held b_to_a)) (call_at (next ∷ []) b_to_a 1 reason.Boot) b_to_a 1 1 reason.Boot

-- a bootstrap of a, as a turn, that prints the placement in which a is to have the shard
abbrev pub a_prints_move : InnerTurn
a_prints_move = record { act = act.Bootstrap (codes "a") None; answer = answer.Available [] b_to_a 2 }
