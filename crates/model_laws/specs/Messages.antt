-- Transcripts with fates of messages and stopped nodes: some whose answers have their causes, and some that are broken in one way.
use Rattle.std.specs.Prelude.{ℕ, List, [], ◌∷◌, ◌++◌, Option, None, true, false, pos, codes}
use Rattle.transcripts.specs.Record.{TurnPosition}
use Rattle.m3_model.specs.declared.answer.Answer.{Answer}
use Rattle.m3_model.specs.declared.reason.Reason.{Reason}
use Rattle.m3_model.specs.declared.turn.Request.TheVariants as request
use Rattle.m3_model.specs.declared.turn.Reply.TheVariants as reply
use Rattle.m3_model.specs.declared.act.Act.{Act}
use Rattle.m3_model.specs.declared.act.Act.TheVariants as act
use Rattle.m3_model.specs.declared.act.Fate.{Fate}
use Rattle.m3_model.specs.declared.act.Fate.TheVariants.{Lose, Late}
use Rattle.m3_model.specs.declared.act.ReadLevel.TheVariants as read_level
use Rattle.m3_model.specs.declared.answer.Answer.TheVariants as answer
use Rattle.m3_model.specs.declared.reason.Reason.TheVariants as reason
use Rattle.m3_model.specs.declared.turn.Turn.{Turn}
use Rattle.model_laws.specs.Building.{made, named, moved, begun, at_moment, wrote, read, line, write, fetch, acks, unmet, by_each, series_of, position_after}

-- an accepted list of fates
abbrev pub fated : List (ℕ × ℕ × List ℕ × Fate) → Turn
fated list = line (act.Fates list) answer.Done

-- a node that was stopped
abbrev pub stopped : List ℕ → Turn
stopped node = line (act.Stop node) answer.Done

-- a fetch of `hello` from `m` that one answer is enough for
abbrev pub unstrict : ℕ → ℕ → Act
unstrict from to = act.Fetch (codes "m") (codes "hello") from to read_level.Unstrict None

-- ---- accepted

-- the first write reaches a and b, the second a alone, and a fetch finds it all the same
abbrev pub lost_messages : List Turn
lost_messages =
    begun 100 (
    fated ((0, 0, codes "c", Lose) ∷ (0, 1, codes "b", Lose) ∷ (0, 1, codes "c", Lose) ∷ [])
    ∷ line (write 100 (pos 5)) (acks (0 ∷ 1 ∷ []))
    ∷ line (write 100 (pos 6)) (unmet 1 ((1, reason.Cut) ∷ (2, reason.Cut) ∷ []))
    ∷ read 0 200 ((100, pos 6) ∷ [])
    ∷ [])

-- after b and c were stopped a is enough for an unstrict fetch, which is short, and too few for a majority
abbrev pub stopped_nodes : List Turn
stopped_nodes =
    begun 100 (
    wrote 100 (pos 5)
    ∷ stopped (codes "b")
    ∷ stopped (codes "c")
    ∷ line (unstrict 0 200) (answer.Found (series_of ((100, pos 5) ∷ [])) true)
    ∷ line (fetch 0 200) (unmet 1 ((1, reason.Down) ∷ (2, reason.Down) ∷ []))
    ∷ [])

-- the first call's message to b is late, and the second's to c
abbrev pub b_then_c_late : Turn
b_then_c_late = fated ((0, 0, codes "b", Late) ∷ (0, 1, codes "c", Late) ∷ [])

-- the first write reached the others
abbrev pub without_b : Turn
without_b = line (write 100 (pos 5)) (acks (0 ∷ 2 ∷ []))

-- the second too
abbrev pub without_c : Turn
without_c = line (write 110 (pos 6)) (acks (0 ∷ 1 ∷ []))

-- both late messages are delivered at once, and nothing is left
abbrev pub late_messages : List Turn
late_messages =
    begun 100 (
    b_then_c_late
    ∷ without_b
    ∷ without_c
    ∷ line act.Deliver (answer.Outcomes ((1, 0, None) ∷ (2, 0, None) ∷ []))
    ∷ line act.Deliver (answer.Outcomes [])
    ∷ [])

-- ---- refused

-- a write whose message to c is lost, which c took
abbrev pub lost_and_acked : List Turn
lost_and_acked = begun 100 (fated ((0, 0, codes "c", Lose) ∷ []) ∷ wrote 100 (pos 5) ∷ [])

-- a write that a stopped node took
abbrev pub stopped_and_acked : List Turn
stopped_and_acked = begun 100 (stopped (codes "c") ∷ wrote 100 (pos 5) ∷ [])

-- nodes that are down, though none was stopped
abbrev pub down_unstopped : List Turn
down_unstopped = at_moment 100 (write 100 (pos 5)) (unmet 0 (by_each reason.Down))

-- a first call that is cut by the fate of the second
abbrev pub cut_by_other_fate : List Turn
cut_by_other_fate = begun 100 (fated ((0, 1, codes "c", Lose) ∷ []) ∷ line (write 100 (pos 5)) (unmet 1 ((1, reason.Memory) ∷ (2, reason.Cut) ∷ [])) ∷ [])

-- a call of client 0 that is cut by a fate of client 3
abbrev pub cut_by_other_client : List Turn
cut_by_other_client = begun 100 (fated ((3, 0, codes "c", Lose) ∷ []) ∷ line (write 100 (pos 5)) (unmet 1 ((1, reason.Memory) ∷ (2, reason.Cut) ∷ [])) ∷ [])

-- an unstrict fetch that only one node was reached by, and that isn't short
abbrev pub not_short_enough : List Turn
not_short_enough = begun 100 (stopped (codes "b") ∷ stopped (codes "c") ∷ line (unstrict 0 200) (answer.Found [] false) ∷ [])

-- a stopped node that is stopped again
abbrev pub stopped_again : List Turn
stopped_again = begun 100 (stopped (codes "c") ∷ stopped (codes "c") ∷ [])

-- one late message that is delivered twice at once
abbrev pub delivered_twice : List Turn
delivered_twice =
    begun 100 (
    b_then_c_late
    ∷ without_b
    ∷ line act.Deliver (answer.Outcomes ((1, 0, None) ∷ (1, 0, None) ∷ []))
    ∷ [])

-- the fate of a node that isn't there
abbrev pub fate_of_nobody : List Turn
fate_of_nobody = begun 100 (fated ((0, 0, codes "x", Lose) ∷ []) ∷ [])

-- ---- late messages, beside each other and of nobody

-- the late message to b came, and nothing else
abbrev pub b_came : List (ℕ × ℕ × Option Reason)
b_came = (1, 0, None) ∷ []

-- a message to b is late, the write reaches the others, and then this line
abbrev pub then_b_late : Turn → List Turn
then_b_late next = begun 100 (b_then_c_late ∷ without_b ∷ next ∷ [])

-- two workers deliver side by side, and this comes of it
abbrev pub delivered_beside : List (ℕ × ℕ × Option Reason) → List (ℕ × ℕ × Option Reason) → Turn
delivered_beside first second = record {
  request = request.Par [] ((act.Deliver ∷ []) ∷ (act.Deliver ∷ []) ∷ []);
  reply = reply.Par [] ((answer.Outcomes first ∷ []) ∷ (answer.Outcomes second ∷ []) ∷ []);
}

-- one worker delivers twice, and this comes of it
abbrev pub delivered_again : List (ℕ × ℕ × Option Reason) → List (ℕ × ℕ × Option Reason) → Turn
delivered_again first second = record { request = request.Par [] ((act.Deliver ∷ act.Deliver ∷ []) ∷ []); reply = reply.Par [] ((answer.Outcomes first ∷ answer.Outcomes second ∷ []) ∷ []) }

-- a delivery with what came of it
abbrev pub delivered : List (ℕ × ℕ × Option Reason) → Turn
delivered outcomes = line act.Deliver (answer.Outcomes outcomes)

-- a message to b, though none was late
abbrev pub delivered_of_nobody : List Turn
delivered_of_nobody = begun 100 (wrote 100 (pos 5) ∷ delivered b_came ∷ [])

-- the late message in two lines
abbrev pub delivered_in_two_lines : List Turn
delivered_in_two_lines = begun 100 (b_then_c_late ∷ without_b ∷ delivered b_came ∷ delivered b_came ∷ [])

-- b was stopped before its late message came, of which this came
abbrev pub delivered_to_stopped : Option Reason → List Turn
delivered_to_stopped came = begun 100 (b_then_c_late ∷ without_b ∷ stopped (codes "b") ∷ delivered ((1, 0, came) ∷ []) ∷ [])

-- b was stopped and restarted before its late message came, and takes it though no bootstrap of it was asked
abbrev pub delivered_to_idle : List Turn
delivered_to_idle = begun 100 (b_then_c_late ∷ without_b ∷ stopped (codes "b") ∷ line (act.Restart (codes "b") 0) answer.Done ∷ delivered b_came ∷ [])

-- ---- calls

-- the messages of the first call to c are lost
abbrev pub c_lost : List Turn
c_lost = begun 100 (fated ((0, 0, codes "c", Lose) ∷ []) ∷ [])

-- and then this act
abbrev pub after_c_lost : Act → Answer → TurnPosition
after_c_lost a b = position_after c_lost a b

-- a tick that c was cut off from
abbrev pub tick_cut : List Turn
tick_cut = begun 100 (fated ((0, 0, codes "c", Lose) ∷ []) ∷ line act.Tick (unmet 1 ((1, reason.Memory) ∷ (2, reason.Cut) ∷ [])) ∷ [])

-- ---- a write that wasn't sent

-- before the namespace is there
abbrev pub refused_as_unknown : List Turn
refused_as_unknown = made ∷ b_then_c_late ∷ line (write 100 (pos 5)) (answer.Unknown (codes "m")) ∷ named ∷ moved 100 ∷ []

-- and its message to b comes
abbrev pub unknown_came : List Turn
unknown_came = refused_as_unknown ++ delivered b_came ∷ []
