-- The points of writes: which were sent, and which a majority acknowledged.
use Rattle.std.specs.Prelude.{ℕ, List, ◌++◌, length, Option, None, option_map, Bool, true, false, if◌then◌else◌, nat_le}
use Rattle.std.specs.List.{flat_map, filter_map}
use Rattle.m3_model.specs.Levels.{majority}
use Rattle.transcripts.specs.Record.{InnerTurn, Record, TurnPosition, acts_of, inner_turns, turns_before}
use Rattle.m3_model.specs.Rules.{namespace_position}
use Rattle.transcripts.specs.Rules.{rules_at}
use Rattle.transcripts.specs.Placements.{placement_after, replicas_of, start_placement}
use Rattle.m3_model.specs.declared.point.Point.{Point}
use Rattle.m3_model.specs.declared.rules.Space.{Space}
use Rattle.m3_model.specs.declared.rules.MetaState.{MetaState}
use Rattle.m3_model.specs.declared.act.Act.{Act}
use Rattle.m3_model.specs.declared.act.Act.TheVariants as act
use Rattle.m3_model.specs.declared.answer.Answer.{Answer}
use Rattle.m3_model.specs.declared.answer.Answer.TheVariants as answer

-- the point of a write whose namespace is there
abbrev pub point_of : List Space → Act → Option Point
point_of spaces (act.Write ns id t v level version) = option_map (λ k. record { ns = k; id = id; t = t; v = v }) (namespace_position ns spaces)
point_of spaces _ = None

-- a write that was refused for its position among the lines or for a name wasn't sent
abbrev pub was_sent : Answer → Bool
was_sent answer.Order = false
was_sent (answer.Unknown name) = false
was_sent _ = true

-- the point that a turn sent
abbrev pub sent_point : List Space → InnerTurn → Option Point
sent_point spaces turn = if was_sent turn.answer then point_of spaces turn.act else None

-- at least a majority acknowledged the write
abbrev pub was_acked : ℕ → Answer → Bool
was_acked rf (answer.Acks acks) = nat_le (majority rf) (length acks)
was_acked rf _ = false

-- the point that a majority acknowledged in a turn
abbrev pub acked_point : ℕ → List Space → InnerTurn → Option Point
acked_point rf spaces turn = if was_acked rf turn.answer then point_of spaces turn.act else None

-- the number of replicas of a shard at a position of a run
abbrev pub rf_at : Option MetaState → TurnPosition → ℕ
rf_at start p = replicas_of (placement_after (start_placement start) (inner_turns p.lines))

-- the points of all writes that were sent before a turn or beside it, or that an earlier run took and didn't answer
abbrev pub sent_at : List Record → Option MetaState → TurnPosition → List Point
sent_at past start p =
    let spaces = (rules_at start p).spaces in
    filter_map (sent_point spaces) (turns_before past p ++ p.beside) ++ filter_map (point_of spaces) (flat_map (λ run. acts_of run.unanswered) past)

-- the points of the writes before a turn that a majority acknowledged
abbrev pub acked_at : List Record → Option MetaState → TurnPosition → List Point
acked_at past start p = filter_map (acked_point (rf_at start p) (rules_at start p).spaces) (turns_before past p)
