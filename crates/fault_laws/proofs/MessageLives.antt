-- Why each answer has its cause where messages are lost or late and nodes are stopped.
use Rattle.std.proofs.Common.{◌≡◌, ◌<◌, ◌≤◌, ◌+◌, ℕ, ℤ, Bool, true, false, List, [], ◌∷◌, ◌++◌, length, refl, sym, subst, inl, inr, arith}
use Rattle.std.specs.Prelude.{Some, None, map, pos, codes, slice_get, IsTrue}
use Rattle.transcripts.specs.Caused.{Caused}
use Rattle.transcripts.specs.Calls.{call_of, AsksShard}
use Rattle.transcripts.specs.Waiting.{IsBegunFor}
use Rattle.transcripts.specs.Levels.{IsAcked, AreSilent, MissesLevel, IsShort, IsFoundFor, reached_of}
use Rattle.transcripts.specs.Reasons.{MayRefuse, MayServe, TakesPoint}
use Rattle.m3_model.specs.declared.placement.Placement.{Placement}
use Rattle.transcripts.specs.Deliveries.{LateMessage, IsLateMessage, IsLateBefore, IsDelivered, delivers_nothing}
use Rattle.transcripts.specs.Placements.{MayStand, placement_after, IsCounted, seed_at}
use Rattle.placement_core.specs.NodeNames.{IsNamedBelow}
use Rattle.transcripts.specs.Fates.{reaches, OfNode}
use Rattle.m3_model.specs.Hash.{murmur3, shard_of}
use Rattle.transcripts.specs.Faults.{Fault}
use Rattle.m3_model.specs.Levels.{needed_write, needed_read}
use Rattle.m3_model.specs.Members.{IsIn}
use Rattle.transcripts.specs.Record.{TurnPosition, inner_turns}
use Rattle.transcripts.specs.Rules.{rules_at}
use Rattle.m3_model.specs.Rules.{InWindow}
use Rattle.m3_model.specs.declared.act.Act.TheVariants as act
use Rattle.m3_model.specs.declared.act.ReadLevel.{ReadLevel}
use Rattle.m3_model.specs.declared.act.ReadLevel.TheVariants as read_level
use Rattle.m3_model.specs.declared.act.WriteLevel.{WriteLevel}
use Rattle.m3_model.specs.declared.answer.Answer.TheVariants as answer
use Rattle.m3_model.specs.declared.placement.Instance.{Instance}
use Rattle.m3_model.specs.declared.act.WriteLevel.TheVariants as write_level
use Rattle.m3_model.specs.declared.reason.Reason.{Reason}
use Rattle.m3_model.specs.declared.reason.Reason.TheVariants as reason
use Rattle.model_laws.specs.Building.{begun, life_of, wrote, write, acks, series_of, place, space}
use Rattle.model_laws.specs.Messages.{stopped, unstrict, b_then_c_late, without_b, without_c, lost_messages, stopped_nodes, late_messages}
use Rattle.model_laws.proofs.EachLemmas.{Each, EachPair, each_in, ascends_by, ◌also◌}
use Rattle.model_laws.proofs.PositionLemmas.{position_after, position_after-stands, only, due}
use Rattle.model_laws.proofs.SampleLemmas.{rules_when, call_with, hello}
use Rattle.model_laws.proofs.CausedLives.{begun_caused, begun_delivering, takes_by, counted_0, counted_1, counted_2, below_0_1, below_0_2, below_1_2}

-- a fact of a node that is known
pub of_node : (Holds : List ℕ → Type 0) (node : ℕ) (one : Instance) → slice_get place.instances node ≡ Some one → Holds one.name → OfNode place node Holds
of_node Holds node one stood holds = record { instance_ = one; stands = stood; holds = holds }

-- a placement that stands after all that is before a turn is one that stands
pub stood : (p : TurnPosition) (x : Placement) → placement_after None (inner_turns p.lines ++ (p.earlier ++ [])) ≡ Some x → MayStand None p x
stood p x stands = (inner_turns p.lines ++ (p.earlier ++ []), record { others = []; some_of = tt; are = refl }, stands)

-- the only shard is that of `hello`
pub hello_shard : (p : TurnPosition) → seed_at None p ≡ 0 → (shard : ℕ) → AsksShard None p place (Some (codes "hello")) shard → shard ≡ 0
unfolding murmur3
hello_shard p seed_is shard asked = subst (λ seed. shard ≡ shard_of (codes "hello") seed 1) seed_is asked

asks_hello : (p : TurnPosition) → seed_at None p ≡ 0 → AsksShard None p place (Some (codes "hello")) 0
unfolding murmur3
asks_hello p seed_is = subst (λ seed. 0 ≡ shard_of (codes "hello") seed 1) (sym seed_is) refl

-- some counted replicas didn't answer, each of which has its reason
pub silent_when : {tells : Bool} {faults : List Fault} (p : TurnPosition) (reasons : List (ℕ × Reason)) → Each (λ r. IsCounted place 0 r.0) reasons → EachPair (λ r s. IsNamedBelow place r.0 s.0) reasons
    → Each (λ node. reaches p place node ≡ false → IsIn (map (λ r. r.0) reasons) node) (0 ∷ 1 ∷ 2 ∷ []) → Each (λ r. MayRefuse tells faults None p place 0 r.0 r.1) reasons → AreSilent tells faults None p place 0 reasons
silent_when {tells = tells} {faults = faults} p reasons counted by_name unreached refused = record {
  counted = each_in (λ r. IsCounted place 0 r.0) reasons counted;
  by_name = ascends_by (λ r s. IsNamedBelow place r.0 s.0) reasons by_name;
  unreached = λ node counts. each_in (λ n. reaches p place n ≡ false → IsIn (map (λ r. r.0) reasons) n) (0 ∷ 1 ∷ 2 ∷ []) unreached node counts;
  refused = each_in (λ r. MayRefuse tells faults None p place 0 r.0 r.1) reasons refused;
}

-- a read of `hello` at a position from which it reaches so many replicas
pub found_when : {faults : List Fault} (p : TurnPosition) (level : ReadLevel) (short : Bool) (n : ℕ) → placement_after None (inner_turns p.lines ++ (p.earlier ++ [])) ≡ Some place → seed_at None p ≡ 0 → reached_of p place 0 ≡ n → needed_read level 3 ≤ n
    → (short ≡ true → (level ≡ read_level.Unstrict) × IsShort true faults None p place 0) → (short ≡ false → level ≡ read_level.Unstrict → 2 ≤ n) → IsFoundFor true faults None p (Some (codes "hello")) level None short
found_when {faults = faults} p level short n place_is seed_is reached enough may_be_short not_short = record {
  place = place;
  may_use = stood p place place_is;
  enough = λ shard asked. subst (λ k. needed_read level 3 ≤ reached_of p place k) (sym (hello_shard p seed_is shard asked)) (subst (λ m. needed_read level 3 ≤ m) (sym reached) enough);
  may_be_short = λ is. let both = may_be_short is in (both.0, (0, asks_hello p seed_is, both.1));
  not_short = λ whole is shard asked. subst (λ k. 2 ≤ reached_of p place k) (sym (hello_shard p seed_is shard asked)) (subst (λ m. 2 ≤ m) (sym reached) (not_short whole is));
}

-- a call of `hello` at a position from which fewer than the replicas that it needs did as it asked
pub unmet_when : {tells : Bool} {faults : List Fault} {n : ℕ} (p : TurnPosition) (needed : ℕ → ℕ) (got : ℕ) (reasons : List (ℕ × Reason)) → placement_after None (inner_turns p.lines ++ (p.earlier ++ [])) ≡ Some place → seed_at None p ≡ 0 → call_of p.turn.act ≡ Some (call_with needed) → needed 3 ≡ n
    → got < n → got + length reasons ≡ 3 → Each (λ r. IsCounted place 0 r.0) reasons → EachPair (λ r s. IsNamedBelow place r.0 s.0) reasons → Each (λ node. reaches p place node ≡ false → IsIn (map (λ r. r.0) reasons) node) (0 ∷ 1 ∷ 2 ∷ [])
    → Each (λ r. MayRefuse tells faults None p place 0 r.0 r.1) reasons → (0 < got → MayServe (rules_at None p) p.turn.act) → MissesLevel tells faults None p got n reasons 0
unmet_when p needed got reasons place_is seed_is is needs fewer others counted by_name unreached refused served = record {
  call = call_with needed;
  of_act = is;
  place = place;
  may_use = stood p place place_is;
  asked = asks_hello p seed_is;
  first = λ lower below too. absurd (omega (arith, below));
  needed_is = sym needs;
  fewer = fewer;
  others = others;
  silent = silent_when p reasons counted by_name unreached refused;
  served = served;
}

-- a write of `hello` that these nodes took, each of which it reached
pub taken_when : {level : WriteLevel} (p : TurnPosition) (taken : List ℕ) → placement_after None (inner_turns p.lines ++ (p.earlier ++ [])) ≡ Some place → seed_at None p ≡ 0 → Each (IsCounted place 0) taken → EachPair (IsNamedBelow place) taken → Each (λ node. reaches p place node ≡ true) taken → ((shard : ℕ) → Each (IsBegunFor None p place shard) taken) → needed_write level 3 ≤ length taken
    → TakesPoint (rules_at None p) p.turn.act → IsAcked None p (codes "hello") level None taken
taken_when p taken place_is seed_is counted by_name reached begun enough takes = record {
  place = place;
  may_use = stood p place place_is;
  counted = λ shard asked. subst (λ k. (node : ℕ) → IsIn taken node → IsCounted place k node) (sym (hello_shard p seed_is shard asked)) (each_in (IsCounted place 0) taken counted);
  by_name = ascends_by (IsNamedBelow place) taken by_name;
  reached = each_in (λ node. reaches p place node ≡ true) taken reached;
  begun = λ shard asked. each_in (IsBegunFor None p place shard) taken (begun shard);
  enough = enough;
  takes = takes;
}

-- a write of `hello` at 100 or a little later is one that is taken at 100
pub takes_near : (t : ℕ) (v : ℤ) → 0 < t → t < 150 → TakesPoint (rules_when 100) (write t v)
takes_near t v above below = takes_by (rules_when 100) _ 0 space t v refl refl (omega (arith, above)) (omega (arith, below))

pub lost_messages-caused : Caused true (life_of lost_messages) []
lost_messages-caused =
    begun_caused 100 _ refl (
    only (due true [] [] _ _ _ tt)
    also only (due true [] [] _ _ _ (taken_when _ (0 ∷ 1 ∷ []) refl refl (counted_0 also counted_1 also tt) ((below_0_1 also tt) also tt also tt) (refl also refl also tt) (λ shard. of_node _ 0 _ refl refl also of_node _ 1 _ refl refl also tt) (omega arith) (takes_near 100 (pos 5) (omega arith) (omega arith))))
    also only (due true [] [] _ _ _ (unmet_when _ _ 1 _ refl refl refl refl (omega arith) refl (counted_1 also counted_2 also tt) ((below_1_2 also tt) also tt also tt)
    ((λ quiet. cc) also (λ quiet. inl refl) also (λ quiet. inr (inl refl)) also tt)
    ((refl, of_node _ 1 _ refl refl) also (refl, of_node _ 2 _ refl refl) also tt)
    (λ some. takes_near 100 (pos 6) (omega arith) (omega arith))))
    also only (due true [] [] _ _ _ (found_when _ read_level.Majority false 3 refl refl refl (omega arith) (λ e. cc) (λ e f. cc)))
    also tt)

-- two of the three are stopped, and so one answers
two_down : IsShort true [] None (position_after (begun 100 (wrote 100 (pos 5) ∷ stopped (codes "b") ∷ stopped (codes "c") ∷ [])) (unstrict 0 200) (answer.Found (series_of ((100, pos 5) ∷ [])) true)) place 0
two_down = record {
  reasons = (1, reason.Down) ∷ (2, reason.Down) ∷ [];
  silent = silent_when _ _ (counted_1 also counted_2 also tt) ((below_1_2 also tt) also tt also tt) ((λ quiet. cc) also (λ quiet. inl refl) also (λ quiet. inr (inl refl)) also tt)
      (inl (of_node _ 1 _ refl refl) also inl (of_node _ 2 _ refl refl) also tt);
  got = 1;
  others = refl;
  some = omega arith;
  fewer = omega arith;
}

pub stopped_nodes-caused : Caused true (life_of stopped_nodes) []
stopped_nodes-caused =
    begun_caused 100 _ refl (
    only (due true [] [] _ _ _ (taken_when _ (0 ∷ 1 ∷ 2 ∷ []) refl refl (counted_0 also counted_1 also counted_2 also tt) ((below_0_1 also below_0_2 also tt) also (below_1_2 also tt) also tt also tt) (refl also refl also refl also tt) (λ shard. of_node _ 0 _ refl refl also of_node _ 1 _ refl refl also of_node _ 2 _ refl refl also tt) (omega arith) (takes_near 100 (pos 5) (omega arith) (omega arith))))
    also only (due true [] [] _ _ _ tt)
    also only (due true [] [] _ _ _ tt)
    also only (due true [] [] _ _ _ (found_when _ read_level.Unstrict true 1 refl refl refl (omega arith) (λ e. (refl, two_down)) (λ e f. cc)))
    also only (due true [] [] _ _ _ (unmet_when _ _ 1 _ refl refl refl refl (omega arith) refl (counted_1 also counted_2 also tt) ((below_1_2 also tt) also tt also tt)
    ((λ quiet. cc) also (λ quiet. inl refl) also (λ quiet. inr (inl refl)) also tt)
    (inl (of_node _ 1 _ refl refl) also inl (of_node _ 2 _ refl refl) also tt)
    (λ some. tt)))
    also tt)

-- the late message to b, and the one to c
abbrev pub to_b : LateMessage
to_b = record { position = position_after (begun 100 (b_then_c_late ∷ [])) (write 100 (pos 5)) (acks (0 ∷ 2 ∷ [])); used = place; node = 1; point = hello 100 (pos 5) }

abbrev to_c : LateMessage
to_c = record { position = position_after (begun 100 (b_then_c_late ∷ without_b ∷ [])) (write 110 (pos 6)) (acks (0 ∷ 1 ∷ [])); used = place; node = 2; point = hello 110 (pos 6) }

-- where both are delivered
abbrev delivery : TurnPosition
delivery = position_after (begun 100 (b_then_c_late ∷ without_b ∷ without_c ∷ [])) act.Deliver (answer.Outcomes ((1, 0, None) ∷ (2, 0, None) ∷ []))

-- a point of `hello` near 100 is inside the window
pub in_window_near : (t : ℕ) (v : ℤ) → 0 < t → t < 150 → InWindow (rules_when 100) (hello t v)
in_window_near t v above below = record { space = space; stands = refl; not_past = omega (arith, above); not_future = omega (arith, below) }

to_b-late : IsLateMessage None delivery to_b
unfolding murmur3
to_b-late = record {
  made = inl (position_after-stands (begun 100 (b_then_c_late ∷ [])) (write 100 (pos 5)) (acks (0 ∷ 2 ∷ [])) (without_c ∷ []));
  of_act = refl;
  was_sent = refl;
  call = call_with (needed_write write_level.Majority);
  of_call = refl;
  may_use = stood _ place refl;
  member = refl;
  late = of_node _ 1 _ refl refl;
  not_yet = each_in (λ line. IsTrue (delivers_nothing line)) (without_c ∷ []) (refl also tt);
}

to_c-late : IsLateMessage None delivery to_c
unfolding murmur3
to_c-late = record {
  made = inl (position_after-stands (begun 100 (b_then_c_late ∷ without_b ∷ [])) (write 110 (pos 6)) (acks (0 ∷ 1 ∷ [])) []);
  of_act = refl;
  was_sent = refl;
  call = call_with (needed_write write_level.Majority);
  of_call = refl;
  may_use = stood _ place refl;
  member = refl;
  late = of_node _ 2 _ refl refl;
  not_yet = λ line none. absurd none;
}

both_delivered : IsDelivered true [] None delivery (to_b ∷ to_c ∷ []) ((1, 0, None) ∷ (2, 0, None) ∷ [])
unfolding murmur3
both_delivered = record {
  in_order = ascends_by IsLateBefore (to_b ∷ to_c ∷ []) ((inl (omega arith) also tt) also tt also tt);
  each = (
    record { message = to_b-late; node_is = refl; shard_is = refl; came = (in_window_near 100 (pos 5) (omega arith) (omega arith), of_node _ 1 _ refl refl, of_node _ 1 _ refl refl) },
    (record { message = to_c-late; node_is = refl; shard_is = refl; came = (in_window_near 110 (pos 6) (omega arith) (omega arith), of_node _ 2 _ refl refl, of_node _ 2 _ refl refl) }, tt),
  );
}

pub late_messages-caused : Caused true (life_of late_messages) []
late_messages-caused =
    begun_delivering [] 100 _ 6 0 0 (to_b ∷ to_c ∷ []) tt refl (
    only (due true [] [] _ _ _ tt)
    also only (due true [] [] _ _ _ (taken_when _ (0 ∷ 2 ∷ []) refl refl (counted_0 also counted_2 also tt) ((below_0_2 also tt) also tt also tt) (refl also refl also tt) (λ shard. of_node _ 0 _ refl refl also of_node _ 2 _ refl refl also tt) (omega arith) (takes_near 100 (pos 5) (omega arith) (omega arith))))
    also only (due true [] [] _ _ _ (taken_when _ (0 ∷ 1 ∷ []) refl refl (counted_0 also counted_1 also tt) ((below_0_1 also tt) also tt also tt) (refl also refl also tt) (λ shard. of_node _ 0 _ refl refl also of_node _ 1 _ refl refl also tt) (omega arith) (takes_near 110 (pos 6) (omega arith) (omega arith))))
    also only (due true [] (to_b ∷ to_c ∷ []) _ _ _ both_delivered)
    also only (due true [] [] _ _ _ (record { in_order = tt; each = tt }))
    also tt)
