-- Late messages that are delivered once, twice, or of nobody.
use Rattle.std.proofs.Common.{◌≡◌, ◌≢◌, ◌∙◌, ℕ, suc, Bool, true, false, List, [], ◌∷◌, ◌++◌, length, map, drop, refl, sym, subst, inl, inr, arith}
use Rattle.std.specs.Prelude.{Option, Some, None, pos, codes, IsTrue}
use Rattle.std.proofs.lemmas.Option.{same_Some}
use Rattle.transcripts.specs.Caused.{Caused, CausedAt, IsDueBy}
use Rattle.transcripts.specs.Deliveries.{LateMessage, IsLateMessage, IsLateBefore, IsDelivered, IsOutcomeOf, IsSamePosition, delivers_nothing}
use Rattle.transcripts.specs.Levels.{IsAcked}
use Rattle.transcripts.specs.Calls.{Call, call_of}
use Rattle.transcripts.specs.Fates.{fate_at, OfNode, is_stopped}
use Rattle.transcripts.specs.Faults.{Fault}
use Rattle.transcripts.specs.Placements.{MayUse, placement_after, placements}
use Rattle.transcripts.specs.Points.{point_of, was_sent}
use Rattle.transcripts.specs.Record.{Life, InnerTurn, TurnPosition, IsTurnPosition, inner_turns}
use Rattle.transcripts.specs.Rules.{rules_at}
use Rattle.transcripts.specs.Reasons.{MayRefuse}
use Rattle.transcripts.specs.Refusals.{refusal_by}
use Rattle.transcripts.specs.Waiting.{IsBegunFor, idles_after}
use Rattle.m3_model.specs.Calls.{is_call}
use Rattle.m3_model.specs.declared.rules.MetaState.{MetaState}
use Rattle.m3_model.specs.Hash.{murmur3}
use Rattle.m3_model.specs.Levels.{needed_write}
use Rattle.m3_model.specs.Members.{IsIn}
use Rattle.m3_model.specs.declared.act.Act.TheVariants as act
use Rattle.m3_model.specs.declared.act.Fate.TheVariants as fate
use Rattle.m3_model.specs.declared.act.WriteLevel.TheVariants as write_level
use Rattle.m3_model.specs.declared.answer.Answer.{Answer}
use Rattle.m3_model.specs.declared.answer.Answer.TheVariants as answer
use Rattle.m3_model.specs.declared.point.Point.{Point}
use Rattle.m3_model.specs.declared.placement.Placement.{Placement}
use Rattle.m3_model.specs.declared.reason.Reason.{Reason}
use Rattle.m3_model.specs.declared.reason.Reason.TheVariants as reason
use Rattle.m3_model.specs.declared.turn.Turn.{Turn}
use Rattle.model_laws.specs.Building.{begun, line, wrote, write, acks, unmet, place, space, life_of}
use Rattle.model_laws.specs.Messages.{b_came, b_then_c_late, without_b, then_b_late, stopped, delivered, delivered_beside, delivered_again, delivered_of_nobody, delivered_in_two_lines, delivered_to_idle, delivered_to_stopped, after_c_lost, c_lost, refused_as_unknown, tick_cut, unknown_came}
use Rattle.model_laws.proofs.EachLemmas.{ascends_by, ◌also◌}
use Rattle.model_laws.proofs.PositionLemmas.{EachInRun, EachInLine, each_in_line, only_used, position_after, position_after-stands, position_in, each_position, only, due, due_beside, due_after}
use Rattle.model_laws.proofs.SampleLemmas.{call_with}
use Rattle.model_laws.proofs.CausedLives.{begun_delivering, counted_0, counted_2, below_0_2}
use Rattle.fault_laws.proofs.MessageLives.{to_b, of_node, stood, in_window_near, taken_when, takes_near}
use Rattle.fault_laws.proofs.BrokenFaults.{holds_of}

-- the lines before the delivery
abbrev before : List Turn
before = begun 100 (b_then_c_late ∷ without_b ∷ [])

-- ---- accepted

-- the message to b at any position after these lines
b_late : (line : Turn) (client : ℕ) (earlier beside : List InnerTurn) (turn : InnerTurn) → IsLateMessage None (record { lines = before; line = line; client = client; earlier = earlier; beside = beside; turn = turn }) to_b
unfolding murmur3
b_late line client earlier beside turn = record {
  made = inl (position_after-stands (begun 100 (b_then_c_late ∷ [])) (write 100 (pos 5)) (acks (0 ∷ 2 ∷ [])) []);
  of_act = refl;
  was_sent = refl;
  call = call_with (needed_write write_level.Majority);
  of_call = refl;
  may_use = stood _ place refl;
  member = refl;
  late = of_node _ 1 _ refl refl;
  not_yet = λ line none. absurd none;
}

-- b takes it there
b_delivered : (line : Turn) (client : ℕ) (earlier beside : List InnerTurn) (turn : InnerTurn) → IsBegunFor None (record { lines = before; line = line; client = client; earlier = earlier; beside = beside; turn = turn }) place 0 1
    → IsDelivered true [] None (record { lines = before; line = line; client = client; earlier = earlier; beside = beside; turn = turn }) (to_b ∷ []) b_came
unfolding murmur3
b_delivered line client earlier beside turn wakes = record {
  in_order = ascends_by IsLateBefore (to_b ∷ []) (tt also tt);
  each = (record { message = b_late line client earlier beside turn; node_is = refl; shard_is = refl; came = (in_window_near 100 (pos 5) (omega arith) (omega arith), of_node _ 1 _ refl refl, wakes) }, tt);
}

none_delivered : (p : TurnPosition) → IsDelivered true [] None p [] []
none_delivered p = record { in_order = tt; each = tt }

-- the write that b's message is of
without_b_taken : IsAcked None (position_after (begun 100 (b_then_c_late ∷ [])) (write 100 (pos 5)) (acks (0 ∷ 2 ∷ []))) (codes "hello") write_level.Majority None (0 ∷ 2 ∷ [])
without_b_taken = taken_when _ (0 ∷ 2 ∷ []) refl refl (counted_0 also counted_2 also tt) ((below_0_2 also tt) also tt also tt) (refl also refl also tt) (λ shard. of_node _ 0 _ refl refl also of_node _ 2 _ refl refl also tt) (omega arith) (takes_near 100 (pos 5) (omega arith) (omega arith))

pub beside-caused : Caused true (life_of (then_b_late (delivered_beside b_came []))) []
beside-caused =
    begun_delivering [] 100 _ 5 1 0 (to_b ∷ []) tt refl (
    only (due true [] [] _ _ _ tt)
    also only (due true [] [] _ _ _ without_b_taken)
    also (
    (due_beside true [] (to_b ∷ []) _ (b_delivered _ _ _ _ _ (of_node _ 1 _ refl refl)) also tt)
    also (due_beside true [] [] _ (none_delivered _) also tt)
    also tt)
    also tt)

pub again-caused : Caused true (life_of (then_b_late (delivered_again b_came []))) []
again-caused =
    begun_delivering [] 100 _ 5 1 0 (to_b ∷ []) tt refl (
    only (due true [] [] _ _ _ tt)
    also only (due true [] [] _ _ _ without_b_taken)
    also (
    (due_beside true [] (to_b ∷ []) _ (b_delivered _ _ _ _ _ (of_node _ 1 _ refl refl)) also due_beside true [] [] _ (none_delivered _) also tt)
    also tt)
    also tt)

pub once-caused : Caused true (life_of (then_b_late (delivered b_came))) []
once-caused =
    begun_delivering [] 100 _ 5 0 0 (to_b ∷ []) tt refl (
    only (due true [] [] _ _ _ tt)
    also only (due true [] [] _ _ _ without_b_taken)
    also only (due true [] (to_b ∷ []) _ _ _ (b_delivered _ _ _ _ _ (of_node _ 1 _ refl refl)))
    also tt)

-- the lines before the delivery, where b was stopped
abbrev before_stopped : List Turn
before_stopped = begun 100 (b_then_c_late ∷ without_b ∷ stopped (codes "b") ∷ [])

b_late_stopped : IsLateMessage None (position_after before_stopped act.Deliver (answer.Outcomes ((1, 0, Some reason.Down) ∷ []))) to_b
unfolding murmur3
b_late_stopped = record {
  made = inl (position_after-stands (begun 100 (b_then_c_late ∷ [])) (write 100 (pos 5)) (acks (0 ∷ 2 ∷ [])) (stopped (codes "b") ∷ []));
  of_act = refl;
  was_sent = refl;
  call = call_with (needed_write write_level.Majority);
  of_call = refl;
  may_use = stood _ place refl;
  member = refl;
  late = of_node _ 1 _ refl refl;
  not_yet = λ line there. elim there as (λ _. IsTrue (delivers_nothing line)) [ inl e ↦ subst (λ l. IsTrue (delivers_nothing l)) e refl | inr none ↦ absurd none ];
}

b_down : IsDelivered true [] None (position_after before_stopped act.Deliver (answer.Outcomes ((1, 0, Some reason.Down) ∷ []))) (to_b ∷ []) ((1, 0, Some reason.Down) ∷ [])
unfolding murmur3
b_down = record {
  in_order = ascends_by IsLateBefore (to_b ∷ []) (tt also tt);
  each = (record { message = b_late_stopped; node_is = refl; shard_is = refl; came = inl (of_node _ 1 _ refl refl) }, tt);
}

pub down-caused : Caused true (life_of (delivered_to_stopped (Some reason.Down))) []
down-caused =
    begun_delivering [] 100 _ 6 0 0 (to_b ∷ []) tt refl (
    only (due true [] [] _ _ _ tt)
    also only (due true [] [] _ _ _ without_b_taken)
    also only (due true [] [] _ _ _ tt)
    also only (due true [] (to_b ∷ []) _ _ _ b_down)
    also tt)

-- ---- refused

-- what a delivery answers is what came of the messages, at any position
came_of : {tells : Bool} {faults : List Fault} {messages : List LateMessage} (lines : List Turn) (line : Turn) (client : ℕ) (earlier beside : List InnerTurn) (outcomes : List (ℕ × ℕ × Option Reason))
    → CausedAt tells faults [] None messages (record { lines = lines; line = line; client = client; earlier = earlier; beside = beside; turn = record { act = act.Deliver; answer = answer.Outcomes outcomes } })
    → IsDelivered tells faults None (record { lines = lines; line = line; client = client; earlier = earlier; beside = beside; turn = record { act = act.Deliver; answer = answer.Outcomes outcomes } }) messages outcomes
came_of {tells} {faults} {messages} lines line client earlier beside outcomes here =
    elim here as (λ _. IsDelivered tells faults None p messages outcomes) [
      | inl e ↦ cc
      | inr told ↦ elim told as (λ _. IsDelivered tells faults None p messages outcomes) [
        | inl full ↦ let bad = full.0 in cc
        | inr is_due ↦ by_place (placement_after None is_due.0) (map (λ place. place.version) (placements None is_due.0)) is_due.2
      ]
    ]
  where
    p : TurnPosition
    p = record { lines = lines; line = line; client = client; earlier = earlier; beside = beside; turn = record { act = act.Deliver; answer = answer.Outcomes outcomes } }

    by_place : (o : Option Placement) (versions : List ℕ) → IsDueBy tells faults None messages p (refusal_by o versions (rules_at None p) (is_stopped (inner_turns lines)) act.Deliver) → IsDelivered tells faults None p messages outcomes
    by_place None versions e = cc
    by_place (Some x) versions d = d

-- the message of which the one outcome came
one_message : {tells : Bool} {faults : List Fault} (p : TurnPosition) (messages : List LateMessage) (came : Option Reason) → IsDelivered tells faults None p messages ((1, 0, came) ∷ []) → (m : LateMessage) × IsIn messages m × IsOutcomeOf tells faults None p m (1, 0, came)
one_message p [] came told = absurd told.each
one_message p (m ∷ []) came told = (m, inl refl, told.each.0)
one_message p (m ∷ _ ∷ _) came told = absurd told.each.1

-- a turn that writes nothing
abbrev NoPoint : TurnPosition → Type 0
NoPoint q = (point : Point) → point_of (space ∷ []) q.turn.act ≡ Some point → ⊥

-- what holds of each write before the delivery holds of the write of its message
of_message : (P : TurnPosition → Type 0) (p : TurnPosition) (m : LateMessage) → (rules_at None p).spaces ≡ space ∷ [] → EachInRun (λ q. (point : Point) → point_of (space ∷ []) q.turn.act ≡ Some point → P q) p.lines → EachInLine NoPoint p.lines p.line
    → IsLateMessage None p m → P m.position
of_message P p m spaces writes nothing late =
    let of_act : point_of (space ∷ []) m.position.turn.act ≡ Some m.point = subst (λ s. point_of s m.position.turn.act ≡ Some m.point) spaces late.of_act in
    elim late.made as (λ _. P m.position) [
      | inl earlier ↦ each_position (λ q. (point : Point) → point_of (space ∷ []) q.turn.act ≡ Some point → P q) p.lines writes m.position earlier m.point of_act
      | inr beside ↦ absurd (each_in_line NoPoint m.position (subst (λ lines. EachInLine NoPoint lines m.position.line) (sym beside.lines_are) (subst (λ line. EachInLine NoPoint p.lines line) (sym beside.line_is) nothing)) beside.stands m.point of_act)
    ]

-- the write that made b's message late
abbrev IsFourth : TurnPosition → Type 0
IsFourth q = (length q.lines ≡ 4) × (q.client ≡ 0) × (length q.earlier ≡ 0)

fourth_alone : EachInRun (λ q. (point : Point) → point_of (space ∷ []) q.turn.act ≡ Some point → IsFourth q) before
fourth_alone = only (λ point e. cc) also only (λ point e. cc) also only (λ point e. cc) also only (λ point e. cc) also only (λ point e. (refl, refl, refl)) also tt

-- it isn't delivered at two positions of one line
not_at_two : (faults : List Fault) (life : Life) (caused : Caused true life faults) (p q : TurnPosition) → IsTurnPosition life.present.turns p → IsTurnPosition life.present.turns q → (IsSamePosition p q → ⊥)
    → ((m : LateMessage) → IsLateMessage None p m → IsFourth m.position) → ((m : LateMessage) → IsLateMessage None q m → IsFourth m.position)
    → IsDelivered true faults None p (caused.delivered p) b_came → IsDelivered true faults None q (caused.delivered q) b_came → ⊥
not_at_two faults life caused p q of_p of_q apart by_p by_q told_p told_q =
    let a = one_message p (caused.delivered p) None told_p in
    let b = one_message q (caused.delivered q) None told_q in
    let a_at = by_p a.0 a.2.message in
    let b_at = by_q b.0 b.2.message in
    apart (caused.once p q of_p of_q a.0 b.0 a.1 b.1 ((a_at.0 ∙ sym b_at.0, a_at.1 ∙ sym b_at.1, a_at.2 ∙ sym b_at.2), sym a.2.node_is ∙ b.2.node_is))

-- where the two workers deliver
abbrev first_worker : TurnPosition
first_worker = position_in before (delivered_beside b_came b_came) [] ((record { act = act.Deliver; answer = answer.Outcomes b_came } ∷ []) ∷ []) [] (record { act = act.Deliver; answer = answer.Outcomes b_came })

abbrev second_worker : TurnPosition
second_worker = position_in before (delivered_beside b_came b_came) ((record { act = act.Deliver; answer = answer.Outcomes b_came } ∷ []) ∷ []) [] [] (record { act = act.Deliver; answer = answer.Outcomes b_came })

first_stands : IsTurnPosition (then_b_late (delivered_beside b_came b_came)) first_worker
first_stands = record { after = []; in_run = refl; stands = record { front = []; later = []; back = _; in_line = refl; others = refl; client_is = refl } }

second_stands : IsTurnPosition (then_b_late (delivered_beside b_came b_came)) second_worker
second_stands = record { after = []; in_run = refl; stands = record { front = (record { act = act.Deliver; answer = answer.Outcomes b_came } ∷ []) ∷ []; later = []; back = []; in_line = refl; others = refl; client_is = refl } }

workers_apart : IsSamePosition first_worker second_worker → ⊥
workers_apart same = let bad : 1 ≡ 2 = same.1 in omega (arith, bad)

no_points_beside : EachInLine NoPoint before (delivered_beside b_came b_came)
no_points_beside = ((λ point e. cc) also tt) also ((λ point e. cc) also tt) also tt

pub beside-refused : (faults : List Fault) → ¬ Caused true (life_of (then_b_late (delivered_beside b_came b_came))) faults
beside-refused faults caused =
    not_at_two faults (life_of (then_b_late (delivered_beside b_came b_came))) caused first_worker second_worker first_stands second_stands workers_apart
    (λ m. of_message IsFourth first_worker m refl fourth_alone no_points_beside) (λ m. of_message IsFourth second_worker m refl fourth_alone no_points_beside)
    (came_of _ _ _ _ _ b_came (caused.each first_worker first_stands)) (came_of _ _ _ _ _ b_came (caused.each second_worker second_stands))

-- where the one worker delivers, and delivers again
abbrev at_first : TurnPosition
at_first = position_in before (delivered_again b_came b_came) [] [] [] (record { act = act.Deliver; answer = answer.Outcomes b_came })

abbrev at_second : TurnPosition
at_second = position_in before (delivered_again b_came b_came) [] [] (record { act = act.Deliver; answer = answer.Outcomes b_came } ∷ []) (record { act = act.Deliver; answer = answer.Outcomes b_came })

at_first-stands : IsTurnPosition (then_b_late (delivered_again b_came b_came)) at_first
at_first-stands = record { after = []; in_run = refl; stands = record { front = []; later = _; back = []; in_line = refl; others = refl; client_is = refl } }

at_second-stands : IsTurnPosition (then_b_late (delivered_again b_came b_came)) at_second
at_second-stands = record { after = []; in_run = refl; stands = record { front = []; later = []; back = []; in_line = refl; others = refl; client_is = refl } }

not_again : IsSamePosition at_first at_second → ⊥
not_again same = let bad : 0 ≡ 1 = same.2 in omega (arith, bad)

no_points_again : EachInLine NoPoint before (delivered_again b_came b_came)
no_points_again = ((λ point e. cc) also (λ point e. cc) also tt) also tt

pub again-refused : (faults : List Fault) → ¬ Caused true (life_of (then_b_late (delivered_again b_came b_came))) faults
again-refused faults caused =
    not_at_two faults (life_of (then_b_late (delivered_again b_came b_came))) caused at_first at_second at_first-stands at_second-stands not_again
    (λ m. of_message IsFourth at_first m refl fourth_alone no_points_again) (λ m. of_message IsFourth at_second m refl fourth_alone no_points_again)
    (came_of _ _ _ _ _ b_came (caused.each at_first at_first-stands)) (came_of _ _ _ _ _ b_came (caused.each at_second at_second-stands))

-- a later line doesn't deliver it again
abbrev once_more : List Turn
once_more = begun 100 (b_then_c_late ∷ without_b ∷ delivered b_came ∷ [])

pub two_lines-refused : (faults : List Fault) → ¬ Caused true (life_of delivered_in_two_lines) faults
two_lines-refused faults caused =
    let p = position_after once_more act.Deliver (answer.Outcomes b_came) in
    let told : IsDelivered true faults None p (caused.delivered p) b_came = due_after once_more act.Deliver (answer.Outcomes b_came) [] (λ e. cc) (λ e. cc) caused in
    let m = one_message p (caused.delivered p) None told in
    let at = of_message IsFourth p m.0 refl (only (λ point e. cc) also only (λ point e. cc) also only (λ point e. cc) also only (λ point e. cc) also only (λ point e. (refl, refl, refl)) also only (λ point e. cc) also tt) (only (λ point e. cc)) m.2.message in
    let not_yet : IsIn (drop 5 once_more) (delivered b_came) → IsTrue (delivers_nothing (delivered b_came)) = subst (λ n. IsIn (drop (suc n) once_more) (delivered b_came) → IsTrue (delivers_nothing (delivered b_came))) at.0 (m.2.message.not_yet (delivered b_came)) in
    let bad : false ≡ true = not_yet (inl refl) in
    cc

-- nothing is late of a write whose messages all come
abbrev after_write : List Turn
after_write = begun 100 (wrote 100 (pos 5) ∷ [])

deliver_late : fate.Deliver ≢ fate.Late
deliver_late e = cc

pub nobody-refused : (faults : List Fault) → ¬ Caused true (life_of delivered_of_nobody) faults
nobody-refused faults caused =
    let p = position_after after_write act.Deliver (answer.Outcomes b_came) in
    let told : IsDelivered true faults None p (caused.delivered p) b_came = due_after after_write act.Deliver (answer.Outcomes b_came) [] (λ e. cc) (λ e. cc) caused in
    let m = one_message p (caused.delivered p) None told in
    let comes = of_message (λ q. (name : List ℕ) → fate_at q name ≡ fate.Deliver) p m.0 refl (only (λ point e. cc) also only (λ point e. cc) also only (λ point e. cc) also only (λ point e name. refl) also tt) (only (λ point e. cc)) m.2.message in
    deliver_late (sym (comes m.2.message.late.instance_.name) ∙ m.2.message.late.holds)

-- a write that was refused for a name makes no message late
pub unknown-refused : (faults : List Fault) → ¬ Caused true (life_of unknown_came) faults
unknown-refused faults caused =
    let p = position_after refused_as_unknown act.Deliver (answer.Outcomes b_came) in
    let told : IsDelivered true faults None p (caused.delivered p) b_came = due_after refused_as_unknown act.Deliver (answer.Outcomes b_came) [] (λ e. cc) (λ e. cc) caused in
    let m = one_message p (caused.delivered p) None told in
    let none : was_sent m.0.position.turn.answer ≡ false = of_message (λ q. was_sent q.turn.answer ≡ false) p m.0 refl (only (λ point e. cc) also only (λ point e. cc) also only (λ point e. refl) also only (λ point e. cc) also only (λ point e. cc) also tt) (only (λ point e. cc)) m.2.message in
    let bad : false ≡ true = sym none ∙ m.2.message.was_sent in
    cc

-- the placement that the late message's write used
used_by : (p : TurnPosition) (m : LateMessage) → (rules_at None p).spaces ≡ space ∷ [] → EachInRun (λ q. (point : Point) → point_of (space ∷ []) q.turn.act ≡ Some point → (call : Call) → call_of q.turn.act ≡ Some call → MayUse None q call.version m.used → place ≡ m.used) p.lines → EachInLine NoPoint p.lines p.line
    → IsLateMessage None p m → place ≡ m.used
used_by p m spaces writes nothing late = of_message (λ q. (call : Call) → call_of q.turn.act ≡ Some call → MayUse None q call.version m.used → place ≡ m.used) p m spaces writes nothing late late.call late.of_call late.may_use

-- the write whose message to b is late used the placement that stands
by_write : (used : Placement) (call : Call) → call_of (write 100 (pos 5)) ≡ Some call → MayUse None (position_after (begun 100 (b_then_c_late ∷ [])) (write 100 (pos 5)) (acks (0 ∷ 2 ∷ []))) call.version used → place ≡ used
by_write used call is may =
    only_used (begun 100 (b_then_c_late ∷ [])) (write 100 (pos 5)) (acks (0 ∷ 2 ∷ [])) place used refl
    (subst (λ (c : Call). MayUse None (position_after (begun 100 (b_then_c_late ∷ [])) (write 100 (pos 5)) (acks (0 ∷ 2 ∷ []))) c.version used) (sym (same_Some (call_with (needed_write write_level.Majority)) call is)) may)

pub stopped-refused : (faults : List Fault) → ¬ Caused true (life_of (delivered_to_stopped None)) faults
stopped-refused faults caused =
    let p = position_after before_stopped act.Deliver (answer.Outcomes b_came) in
    let told : IsDelivered true faults None p (caused.delivered p) b_came = due_after before_stopped act.Deliver (answer.Outcomes b_came) [] (λ e. cc) (λ e. cc) caused in
    let m = one_message p (caused.delivered p) None told in
    let same = used_by p m.0 refl (only (λ point e. cc) also only (λ point e. cc) also only (λ point e. cc) also only (λ point e. cc)
    also only (λ point e call is may. by_write m.0.used call is may) also only (λ point e. cc) also tt) (only (λ point e. cc)) m.2.message in
    let runs : OfNode place 1 (λ name. is_stopped (inner_turns before_stopped) name ≡ false) = subst (λ n. OfNode place n (λ name. is_stopped (inner_turns before_stopped) name ≡ false)) (sym m.2.node_is) (subst (λ x. OfNode x m.0.node (λ name. is_stopped (inner_turns before_stopped) name ≡ false)) (sym same) m.2.came.1) in
    let bad : true ≡ false = holds_of (λ name. is_stopped (inner_turns before_stopped) name ≡ false) 1 _ refl runs in
    cc

-- the lines before the delivery, where b was restarted
abbrev before_idle : List Turn
before_idle = begun 100 (b_then_c_late ∷ without_b ∷ stopped (codes "b") ∷ line (act.Restart (codes "b") 0) answer.Done ∷ [])

pub idle_late-refused : (faults : List Fault) → ¬ Caused true (life_of delivered_to_idle) faults
idle_late-refused faults caused =
    let p = position_after before_idle act.Deliver (answer.Outcomes b_came) in
    let told : IsDelivered true faults None p (caused.delivered p) b_came = due_after before_idle act.Deliver (answer.Outcomes b_came) [] (λ e. cc) (λ e. cc) caused in
    let m = one_message p (caused.delivered p) None told in
    let same = used_by p m.0 refl (only (λ point e. cc) also only (λ point e. cc) also only (λ point e. cc) also only (λ point e. cc)
    also only (λ point e call is may. by_write m.0.used call is may) also only (λ point e. cc) also only (λ point e. cc) also tt) (only (λ point e. cc)) m.2.message in
    let wakes : IsBegunFor None p place 0 1 = subst (IsBegunFor None p place 0) (sym m.2.node_is) (subst (λ x. IsBegunFor None p x 0 m.0.node) (sym same) m.2.came.2) in
    let bad : true ≡ false = holds_of (λ name. idles_after (record { shard = 0; node = 1; name = name }) None (inner_turns before_idle ++ []) ≡ false) 1 _ refl wakes in
    cc

-- ---- messages of calls

pub call-cut : (b : Answer) → MayRefuse true [] None (after_c_lost (write 100 (pos 5)) b) place 0 2 reason.Cut
call-cut b = (refl, of_node _ 2 _ refl refl)

pub no_call-uncut : (tells : Bool) (faults : List Fault) (start : Option MetaState) (p : TurnPosition) (used : Placement) (shard node : ℕ) → is_call p.turn.act ≡ false → ¬ MayRefuse tells faults start p used shard node reason.Cut
no_call-uncut tells faults start p used shard node none may = let bad : false ≡ true = sym none ∙ may.0 in cc

pub tick-uncut : (b : Answer) (faults : List Fault) → ¬ MayRefuse true faults None (after_c_lost act.Tick b) place 0 2 reason.Cut
tick-uncut b faults = no_call-uncut true faults None (after_c_lost act.Tick b) place 0 2 refl

pub tick_cut-refused : (faults : List Fault) → ¬ Caused true (life_of tick_cut) faults
tick_cut-refused faults caused = due_after c_lost act.Tick (unmet 1 ((1, reason.Memory) ∷ (2, reason.Cut) ∷ [])) [] (λ e. cc) (λ e. cc) caused
