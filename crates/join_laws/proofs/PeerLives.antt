-- Bootstraps that end no move since too few former replicas streamed whole, and ticks of a node that is to join.
use Rattle.std.proofs.Common.{◌≡◌, ◌≢◌, ◌∙◌, ◌<◌, ◌+◌, ◌++◌, ℕ, zero, suc, Bool, true, false, List, [], ◌∷◌, length, map, Some, None, refl, ap, subst, sym, inl, inr, arith}
use Rattle.std.specs.Prelude.{◌⊎◌, Option, Ok, Err, Result, IsTrue, codes}
use Rattle.std.specs.declared.cmp.Ordering.TheVariants.{Less, Equal, Greater}
use Rattle.m3_model.specs.Ascends.{Ascends}
use Rattle.m3_model.specs.Levels.{majority}
use Rattle.m3_model.specs.Members.{IsIn}
use Rattle.m3_model.specs.declared.act.Act.{Act}
use Rattle.m3_model.specs.declared.act.Act.TheVariants as act
use Rattle.m3_model.specs.declared.answer.Answer.{Answer}
use Rattle.m3_model.specs.declared.answer.Answer.TheVariants as answer
use Rattle.m3_model.specs.declared.placement.Assignment.{Assignment}
use Rattle.m3_model.specs.declared.placement.Placement.{Placement}
use Rattle.m3_model.specs.declared.placement.ShardState.TheVariants.{Initializing, Available, Leaving}
use Rattle.m3_model.specs.declared.reason.Reason.{Reason}
use Rattle.m3_model.specs.declared.reason.Reason.TheVariants as reason
use Rattle.m3_model.specs.declared.turn.Turn.{Turn}
use Rattle.placement_core.specs.NodeNames.{IsNamedBelow}
use Rattle.placement_core.specs.Shards.{former, nodes_of, shard_at}
use Rattle.transcripts.specs.Caused.{Caused, IsDueBy, refusal_after}
use Rattle.transcripts.specs.Fates.{IsRunningAt, OfNode, is_stopped}
use Rattle.transcripts.specs.Faults.{Fault}
use Rattle.transcripts.specs.Moves.{HasAssignment, IsNew, OwnsNot, placement_by}
use Rattle.transcripts.specs.Peers.{IsJoinedBy, IsJoinedWith, IsUnjoined, IsUnownedForMove, MayBreak, MissesMajority}
use Rattle.transcripts.specs.Placements.{has_replica, placement_after}
use Rattle.transcripts.specs.Record.{TurnPosition, inner_turns}
use Rattle.transcripts.specs.Sweeps.{AreAllMembers, Entry, IsSlotBelow, IsSwept, MayNotKeepUp}
use Rattle.transcripts.specs.Waiting.{IsBegunFor, idles_after, is_assigned, waits_at}
use Rattle.model_laws.specs.Building.{assigned, life_of, line, place, position_after}
use Rattle.model_laws.proofs.CausedLives.{first_placement}
use Rattle.model_laws.proofs.EachLemmas.{◌also◌, ascends_by, each_in, texts_differ}
use Rattle.model_laws.proofs.PositionLemmas.{after_all, caused_by_positions, due, due_after, due_from, due_here, only, only_used, position_after-stands, stands_then, used_from}
use Rattle.move_laws.specs.Moving.{both_to_a, held, joining}
use Rattle.move_laws.proofs.MovingLemmas.{of_name}
use Rattle.join_laws.specs.Limits.{boots_d}
use Rattle.join_laws.specs.Replaced.{a_to_d, all_stopped, b_idle, boot, both_stopped, few, first_missed, forgetful, idle_misses, misses, moving_to_d, refuses_tick}
use Rattle.join_laws.proofs.NameLemmas.{names_below}
use Rattle.join_laws.proofs.PlanLemmas.{replaces_a}

-- where d's bootstrap stands, with this answer
abbrev here : Answer → TurnPosition
here b = position_after moving_to_d boots_d b

-- d is joining the only shard
unfoldable pub d_is_joining : IsJoinedBy a_to_d (codes "d") None 0
d_is_joining = record { node = 3; named = record { instance_ = _; stands = refl; holds = refl }; covers = refl; joining = joining 3 2 0; among = inr (inr (inr (inl refl))); of_node = refl; is_joining = refl }

-- the node runs, and its replica of the only shard was begun
abbrev Streams : TurnPosition → ℕ → Type 0
Streams p node = IsRunningAt p a_to_d node × IsBegunFor None p a_to_d 0 node

-- b and c stand by name
b_and_c : (one other : ℕ × Reason) → IsNamedBelow a_to_d one.0 other.0 → Ascends (λ (r s : ℕ × Reason). IsNamedBelow a_to_d r.0 s.0) (one ∷ other ∷ [])
b_and_c one other below = ascends_by (λ (r s : ℕ × Reason). IsNamedBelow a_to_d r.0 s.0) (one ∷ other ∷ []) ((below also tt) also tt also tt)

below_1_2 : IsNamedBelow a_to_d 1 2
below_1_2 = record { one = _; other = _; of_one = refl; of_other = refl; below = refl }

-- ---- accepted

pub down-caused : Caused true (life_of (both_stopped ++ boot (codes "d") (few 1 2 ((1, reason.Down) ∷ (2, reason.Down) ∷ [])) ∷ [])) []
down-caused =
    caused_by_positions true [] (life_of (both_stopped ++ boot (codes "d") b ∷ [])) tt refl (
    only (due true [] [] _ _ _ (first_placement, refl))
    also only (due true [] [] _ _ _ tt)
    also only (due true [] [] _ _ _ tt)
    also only (due true [] [] _ _ _ (refl, replaces_a, refl))
    also only (due true [] [] both_stopped boots_d b (record {
      misses = record {
        place = a_to_d;
        stands = (inner_turns both_stopped, after_all both_stopped _ _, refl);
        joins = d_is_joining;
        needed_is = refl;
        fewer = omega arith;
        others = refl;
        of_former = each_in (λ (r : ℕ × Reason). IsIn (former (shard_at a_to_d 0)) r.0) reasons (inr (inl refl) also inr (inr (inl refl)) also tt);
        by_name = b_and_c (1, reason.Down) (2, reason.Down) below_1_2;
      };
      streamed = each_in (λ node. ¬ IsIn (1 ∷ 2 ∷ []) node → Streams at node) (0 ∷ 1 ∷ 2 ∷ []) ((λ unnamed. (record { instance_ = _; stands = refl; holds = refl }, record { instance_ = _; stands = refl; holds = refl })) also (λ unnamed. absurd (unnamed (inl refl))) also (λ unnamed. absurd (unnamed (inr (inl refl)))) also tt);
      refused = each_in (λ (r : ℕ × Reason). MayBreak true [] None at a_to_d 0 r.0 r.1) reasons (inl (record { instance_ = _; stands = refl; holds = refl }) also inl (record { instance_ = _; stands = refl; holds = refl }) also tt);
    }))
    also tt)
  where
    reasons : List (ℕ × Reason)
    reasons = (1, reason.Down) ∷ (2, reason.Down) ∷ []

    b : Answer
    b = few 1 2 reasons

    at : TurnPosition
    at = position_after both_stopped boots_d b

-- each of the three may have streamed
all_stream : (b : Answer) (node : ℕ) → IsIn (former (shard_at a_to_d 0)) node → Streams (here b) node
all_stream b = each_in (Streams (here b)) (0 ∷ 1 ∷ 2 ∷ []) ((record { instance_ = _; stands = refl; holds = refl }, record { instance_ = _; stands = refl; holds = refl }) also (record { instance_ = _; stands = refl; holds = refl }, record { instance_ = _; stands = refl; holds = refl }) also (record { instance_ = _; stands = refl; holds = refl }, record { instance_ = _; stands = refl; holds = refl }) also tt)

pub memory-caused : Caused true (life_of (misses (few 1 2 (forgetful 1 ∷ forgetful 2 ∷ [])))) []
memory-caused =
    caused_by_positions true [] (life_of (misses b)) tt refl (
    only (due true [] [] _ _ _ (first_placement, refl))
    also only (due true [] [] _ _ _ (refl, replaces_a, refl))
    also only (due true [] [] moving_to_d boots_d b (record {
      misses = record {
        place = a_to_d;
        stands = (inner_turns moving_to_d, after_all moving_to_d _ _, refl);
        joins = d_is_joining;
        needed_is = refl;
        fewer = omega arith;
        others = refl;
        of_former = each_in (λ (r : ℕ × Reason). IsIn (former (shard_at a_to_d 0)) r.0) reasons (inr (inl refl) also inr (inr (inl refl)) also tt);
        by_name = b_and_c (forgetful 1) (forgetful 2) below_1_2;
      };
      streamed = λ node among unnamed. all_stream b node among;
      refused = each_in (λ (r : ℕ × Reason). MayBreak true [] None (here b) a_to_d 0 r.0 r.1) reasons (tt also tt also tt);
    }))
    also tt)
  where
    reasons : List (ℕ × Reason)
    reasons = forgetful 1 ∷ forgetful 2 ∷ []

    b : Answer
    b = few 1 2 reasons

pub idle-caused : Caused true (life_of (idle_misses (few 1 2 ((1, reason.Boot) ∷ forgetful 2 ∷ [])))) []
idle-caused =
    caused_by_positions true [] (life_of (idle_misses b)) tt refl (
    only (due true [] [] _ _ _ (first_placement, refl))
    also only (due true [] [] _ _ _ tt)
    also only (due true [] [] _ _ _ tt)
    also only (due true [] [] _ _ _ (refl, replaces_a, refl))
    also only (due true [] [] b_idle boots_d b (record {
      misses = record {
        place = a_to_d;
        stands = (inner_turns b_idle, after_all b_idle _ _, refl);
        joins = d_is_joining;
        needed_is = refl;
        fewer = omega arith;
        others = refl;
        of_former = each_in (λ (r : ℕ × Reason). IsIn (former (shard_at a_to_d 0)) r.0) reasons (inr (inl refl) also inr (inr (inl refl)) also tt);
        by_name = b_and_c (1, reason.Boot) (forgetful 2) below_1_2;
      };
      streamed = each_in (λ node. ¬ IsIn (1 ∷ 2 ∷ []) node → Streams at node) (0 ∷ 1 ∷ 2 ∷ []) ((λ unnamed. (record { instance_ = _; stands = refl; holds = refl }, record { instance_ = _; stands = refl; holds = refl })) also (λ unnamed. absurd (unnamed (inl refl))) also (λ unnamed. absurd (unnamed (inr (inl refl)))) also tt);
      refused = each_in (λ (r : ℕ × Reason). MayBreak true [] None at a_to_d 0 r.0 r.1) reasons ((λ told. record { instance_ = _; stands = refl; holds = refl }) also tt also tt);
    }))
    also tt)
  where
    reasons : List (ℕ × Reason)
    reasons = (1, reason.Boot) ∷ forgetful 2 ∷ []

    b : Answer
    b = few 1 2 reasons

    at : TurnPosition
    at = position_after b_idle boots_d b

-- where the bootstrap of two shards stands
abbrev alone : List ℕ → Option ℕ → TurnPosition
alone name asked = position_after [] (act.Bootstrap name asked) (answer.Peers 0 1 (forgetful 1 ∷ []) 0)

pub first-caused : Caused true (first_missed (codes "a") (Some 0)) []
first-caused =
    caused_by_positions true [] (first_missed (codes "a") (Some 0)) tt refl (
    only (due_from true [] [] (Some (held both_to_a)) [] [] _ _ (record {
      misses = record {
        place = both_to_a;
        stands = ([], after_all [] _ _, refl);
        joins = record { node = 0; named = record { instance_ = _; stands = refl; holds = refl }; covers = refl; joining = joining 0 2 1; among = inr (inl refl); of_node = refl; is_joining = refl };
        needed_is = refl;
        fewer = omega arith;
        others = refl;
        of_former = each_in (λ (r : ℕ × Reason). IsIn (former (shard_at both_to_a 0)) r.0) (forgetful 1 ∷ []) (inl refl also tt);
        by_name = ascends_by (λ (r s : ℕ × Reason). IsNamedBelow both_to_a r.0 s.0) (forgetful 1 ∷ []) (tt also tt);
      };
      streamed = λ node among unnamed. absurd (unnamed among);
      refused = each_in (λ (r : ℕ × Reason). MayBreak true [] (Some (held both_to_a)) (alone (codes "a") (Some 0)) both_to_a 0 r.0 r.1) (forgetful 1 ∷ []) (tt also tt);
    }))
    also tt)

-- ---- refused

-- what is due of d's bootstrap: over the placement that stands
record MissesThere (lines : List Turn) (faults : List Fault) (got needed : ℕ) (reasons : List (ℕ × Reason)) : Type 0 where
  misses : MissesMajority None (position_after lines boots_d (few got needed reasons)) (codes "d") None got needed reasons 0
  same : a_to_d ≡ misses.place
  streamed : (node : ℕ) → IsIn (former (shard_at a_to_d 0)) node → ¬ IsIn (map (λ (r : ℕ × Reason). r.0) reasons) node → Streams (position_after lines boots_d (few got needed reasons)) node
  refused : (r : ℕ × Reason) → IsIn reasons r → MayBreak true faults None (position_after lines boots_d (few got needed reasons)) a_to_d 0 r.0 r.1

there : {faults : List Fault} (lines : List Turn) (got needed : ℕ) (reasons : List (ℕ × Reason)) → placement_after None (inner_turns lines) ≡ Some a_to_d
    → IsUnjoined true faults None (position_after lines boots_d (few got needed reasons)) (codes "d") None got needed reasons 0 → MissesThere lines faults got needed reasons
there {faults} lines got needed reasons stood due =
    let p = position_after lines boots_d (few got needed reasons) in
    let same : a_to_d ≡ due.misses.place = only_used lines boots_d (few got needed reasons) a_to_d due.misses.place stood due.misses.stands in
    record {
      misses = due.misses;
      same = same;
      streamed = subst (λ q. (node : ℕ) → IsIn (former (shard_at q 0)) node → ¬ IsIn (map (λ (r : ℕ × Reason). r.0) reasons) node → IsRunningAt p q node × IsBegunFor None p q 0 node) (sym same) due.streamed;
      refused = λ r among. subst (λ q. MayBreak true faults None p q 0 r.0 r.1) (sym same) (due.refused r among);
    }

missed : {faults : List Fault} (got needed : ℕ) (reasons : List (ℕ × Reason)) → Caused true (life_of (misses (few got needed reasons))) faults → MissesThere moving_to_d faults got needed reasons
missed got needed reasons caused = there moving_to_d got needed reasons refl (due_after moving_to_d boots_d (few got needed reasons) [] (λ e. cc) (λ e. cc) caused)

pub stopped-refused : (faults : List Fault) → ¬ Caused true (life_of (all_stopped ++ boot (codes "d") (few 1 2 ((0, reason.Down) ∷ (1, reason.Down) ∷ [])) ∷ [])) faults
stopped-refused faults caused =
    let reasons : List (ℕ × Reason) = (0, reason.Down) ∷ (1, reason.Down) ∷ [] in
    let m = there {faults = faults} all_stopped 1 2 reasons refl (due_after all_stopped boots_d (few 1 2 reasons) [] (λ e. cc) (λ e. cc) caused) in
    let unnamed : ¬ IsIn (0 ∷ 1 ∷ []) 2 = λ named. each_in (λ n. n ≢ 2) (0 ∷ 1 ∷ []) ((λ e. omega (arith, e)) also (λ e. omega (arith, e)) also tt) 2 named refl in
    let bad : true ≡ false = of_name a_to_d (λ name. is_stopped (inner_turns all_stopped) name ≡ false) 2 _ refl (m.streamed 2 (inr (inr (inl refl))) unnamed).0 in
    cc

pub idle-refused : (faults : List Fault) → ¬ Caused true (life_of (idle_misses (few 1 2 (forgetful 0 ∷ forgetful 2 ∷ [])))) faults
idle-refused faults caused =
    let reasons : List (ℕ × Reason) = forgetful 0 ∷ forgetful 2 ∷ [] in
    let m = there {faults = faults} b_idle 1 2 reasons refl (due_after b_idle boots_d (few 1 2 reasons) [] (λ e. cc) (λ e. cc) caused) in
    let unnamed : ¬ IsIn (0 ∷ 2 ∷ []) 1 = λ named. each_in (λ n. n ≢ 1) (0 ∷ 2 ∷ []) ((λ e. omega (arith, e)) also (λ e. omega (arith, e)) also tt) 1 named refl in
    let bad : true ≡ false = of_name a_to_d (λ name. idles_after (record { shard = 0; node = 1; name = name }) None (inner_turns b_idle ++ []) ≡ false) 1 _ refl (m.streamed 1 (inr (inl refl)) unnamed).1 in
    cc

pub needed-refused : (faults : List Fault) → ¬ Caused true (life_of (misses (few 2 3 (forgetful 2 ∷ [])))) faults
needed-refused faults caused =
    let m = missed {faults = faults} 2 3 (forgetful 2 ∷ []) caused in
    let bad : 3 ≡ 2 = m.misses.needed_is ∙ ap (λ (q : Placement). majority q.rf) (sym m.same) in
    omega (arith, bad)

pub enough-refused : (faults : List Fault) → ¬ Caused true (life_of (misses (few 2 2 (forgetful 2 ∷ [])))) faults
enough-refused faults caused = let bad : 2 < 2 = (missed {faults = faults} 2 2 (forgetful 2 ∷ []) caused).misses.fewer in omega (arith, bad)

pub left_out-refused : (faults : List Fault) → ¬ Caused true (life_of (misses (few 0 2 (forgetful 1 ∷ forgetful 2 ∷ [])))) faults
left_out-refused faults caused =
    let m = missed {faults = faults} 0 2 (forgetful 1 ∷ forgetful 2 ∷ []) caused in
    let bad : 2 ≡ 3 = m.misses.others ∙ ap (λ (q : Placement). length (former (shard_at q 0))) (sym m.same) in
    omega (arith, bad)

pub stranger-refused : (faults : List Fault) → ¬ Caused true (life_of (misses (few 1 2 (forgetful 1 ∷ forgetful 3 ∷ [])))) faults
stranger-refused faults caused =
    let m = missed {faults = faults} 1 2 (forgetful 1 ∷ forgetful 3 ∷ []) caused in
    each_in (λ n. n ≢ 3) (0 ∷ 1 ∷ 2 ∷ []) ((λ e. omega (arith, e)) also (λ e. omega (arith, e)) also (λ e. omega (arith, e)) also tt) 3
    (subst (λ q. IsIn (former (shard_at q 0)) 3) (sym m.same) (m.misses.of_former (forgetful 3) (inr (inl refl)))) refl

-- the reasons that are given stand by name
named : {faults : List Fault} (one other : ℕ × Reason) → Caused true (life_of (misses (few 1 2 (one ∷ other ∷ [])))) faults → IsNamedBelow a_to_d one.0 other.0
named {faults} one other caused =
    let m = missed {faults = faults} 1 2 (one ∷ other ∷ []) caused in
    subst (λ q. IsNamedBelow q one.0 other.0) (sym m.same) (m.misses.by_name.0 other (inl refl))

pub twice-refused : (faults : List Fault) → ¬ Caused true (life_of (misses (few 1 2 (forgetful 1 ∷ forgetful 1 ∷ [])))) faults
twice-refused faults caused = let below : Equal ≡ Less = names_below a_to_d 1 1 _ _ refl refl (named {faults = faults} (forgetful 1) (forgetful 1) caused) in cc

pub order-refused : (faults : List Fault) → ¬ Caused true (life_of (misses (few 1 2 (forgetful 2 ∷ forgetful 1 ∷ [])))) faults
order-refused faults caused = let below : Greater ≡ Less = names_below a_to_d 2 1 _ _ refl refl (named {faults = faults} (forgetful 2) (forgetful 1) caused) in cc

-- ---- of another move

-- what is due of the only line of that run
alone_due : (faults : List Fault) (name : List ℕ) (asked : Option ℕ) → refusal_after (Some (held both_to_a)) (alone name asked) [] ≡ None → Caused true (first_missed name asked) faults → IsJoinedBy both_to_a name asked 0
alone_due faults name asked free caused =
    let start = Some (held both_to_a) in
    let b = answer.Peers 0 1 (forgetful 1 ∷ []) 0 in
    let p = alone name asked in
    let here_due = due_here true faults [] start (caused.delivered p) [] (act.Bootstrap name asked) b (λ e. cc) (λ e. cc) (caused.each p (position_after-stands [] (act.Bootstrap name asked) b [])) in
    let told : IsUnjoined true faults start p name asked 0 1 (forgetful 1 ∷ []) 0 = subst (IsDueBy true faults start (caused.delivered p) p) free here_due in
    subst (λ q. IsJoinedBy q name asked 0) (sym (used_from start [] (act.Bootstrap name asked) b both_to_a told.misses.place refl told.misses.stands)) told.misses.joins

pub uncovered-refused : (faults : List Fault) → ¬ Caused true (first_missed (codes "a") (Some 1)) faults
uncovered-refused faults caused = let bad : false ≡ true = (alone_due faults (codes "a") (Some 1) refl caused).covers in cc

pub other_node-refused : (faults : List Fault) → ¬ Caused true (first_missed (codes "b") (Some 0)) faults
other_node-refused faults caused =
    let joins = alone_due faults (codes "b") (Some 0) refl caused in
    let is_a : joins.node ≡ 0 = sym joins.of_node ∙ each_in (λ (a : Assignment). a.state ≡ Initializing → a.node ≡ 0) (shard_at both_to_a 0) ((λ e. absurd (leaving_not e)) also (λ e. refl) also tt) joins.joining joins.among joins.is_joining in
    texts_differ (codes "a") (codes "b") refl refl (of_name both_to_a (λ own. own ≡ codes "b") 0 _ refl (subst (λ n. OfNode both_to_a n (λ own. own ≡ codes "b")) is_a joins.named))
  where
    leaving_not : Leaving ≢ Initializing
    leaving_not e = cc

-- ---- reasons

-- why b may have refused
b_may : {faults : List Fault} (why : Reason) → Caused true (life_of (misses (few 1 2 ((1, why) ∷ forgetful 2 ∷ [])))) faults → MayBreak true faults None (here (few 1 2 ((1, why) ∷ forgetful 2 ∷ []))) a_to_d 0 1 why
b_may {faults} why caused = (missed {faults = faults} 1 2 ((1, why) ∷ forgetful 2 ∷ []) caused).refused (1, why) (inl refl)

pub past-refused : (faults : List Fault) → ¬ Caused true (life_of (misses (few 1 2 ((1, reason.Past) ∷ forgetful 2 ∷ [])))) faults
past-refused faults caused = b_may {faults = faults} reason.Past caused

pub cut-refused : (faults : List Fault) → ¬ Caused true (life_of (misses (few 1 2 ((1, reason.Cut) ∷ forgetful 2 ∷ [])))) faults
cut-refused faults caused = b_may {faults = faults} reason.Cut caused

pub stale-refused : (faults : List Fault) (fence : ℕ) → ¬ Caused true (life_of (misses (few 1 2 ((1, reason.Stale fence) ∷ forgetful 2 ∷ [])))) faults
stale-refused faults fence caused = b_may {faults = faults} (reason.Stale fence) caused

pub boot-refused : (faults : List Fault) → ¬ Caused true (life_of (misses (few 1 2 ((1, reason.Boot) ∷ forgetful 2 ∷ [])))) faults
boot-refused faults caused =
    let p = here (few 1 2 ((1, reason.Boot) ∷ forgetful 2 ∷ [])) in
    let bad : false ≡ true = of_name a_to_d (λ name. waits_at (record { shard = 0; node = 1; name = name }) None p ≡ true) 1 _ refl (b_may {faults = faults} reason.Boot caused refl) in
    cc

pub notowned-refused : (faults : List Fault) → ¬ Caused true (life_of (misses (few 1 2 ((1, reason.NotOwned) ∷ forgetful 2 ∷ [])))) faults
notowned-refused faults caused =
    let b = few 1 2 ((1, reason.NotOwned) ∷ forgetful 2 ∷ []) in
    let move : IsUnownedForMove true None (here b) a_to_d 0 1 = b_may {faults = faults} reason.NotOwned caused in
    let moving : a_to_d ≡ move.moving = only_used moving_to_d boots_d b a_to_d move.moving refl move.stands in
    let tenure : move.tenure ≡ 2 = of_move move.tenure (subst (λ q. IsJoinedWith q 0 move.tenure) (sym moving) move.joins) in
    elim move.unowned as (λ _. ⊥) [
      | inl not ↦ owns b move.tenure tenure not
      | inr new ↦ not_new b new.instance_.name new.holds
    ]
  where
    leaving_not : Leaving ≢ Initializing
    leaving_not e = cc

    available_not : Available ≢ Initializing
    available_not e = cc

    of_move : (tenure : ℕ) → IsJoinedWith a_to_d 0 tenure → tenure ≡ 2
    of_move tenure joins = sym joins.tenure_is ∙ each_in (λ (a : Assignment). a.state ≡ Initializing → a.tenure ≡ 2) (shard_at a_to_d 0) ((λ e. absurd (leaving_not e)) also (λ e. absurd (available_not e)) also (λ e. absurd (available_not e)) also (λ e. refl) also tt) joins.joining joins.among joins.is_joining

    -- b has the shard with tenure 1
    owns : (b : Answer) (tenure : ℕ) → tenure ≡ 2 → OwnsNot None (here b) 0 1 tenure → ⊥
    owns b tenure is not =
        let same : a_to_d ≡ not.place = only_used moving_to_d boots_d b a_to_d not.place refl not.may_stand in
        elim (subst (λ q. (has_replica (Some q) 0 1 ≡ false) ⊎ HasAssignment q 0 1 (λ own. tenure < own)) (sym same) not.not_owned) as (λ _. ⊥) [
          | inl away ↦ let bad : true ≡ false = away in cc
          | inr has ↦
              let low : has.assignment.node ≡ 1 → has.assignment.tenure ≡ 1 =
              each_in (λ (a : Assignment). a.node ≡ 1 → a.tenure ≡ 1) (shard_at a_to_d 0) ((λ e. absurd (omega (arith, e))) also (λ e. refl) also (λ e. absurd (omega (arith, e))) also (λ e. absurd (omega (arith, e))) also tt) has.assignment has.among in
              omega (arith, low has.of_node, has.kind, is)
        ]

    -- no line assigned it anew
    not_new : (b : Answer) (name : List ℕ) → IsNew true (record { shard = 0; node = 1; name = name }) None (here b) → ⊥
    not_new b name new = by new.lines new.earlier new.assigned
      where
        by : (lines : ℕ) → lines < 2 → is_assigned (record { shard = 0; node = 1; name = name }) (placement_by None moving_to_d lines) (placement_by None moving_to_d (suc lines)) ≡ true → ⊥
        by zero less given = let bad : false ≡ true = given in cc
        by (suc zero) less given = let bad : false ≡ true = given in cc
        by (suc (suc lines)) less given = omega (arith, less)

-- ---- ticks of a node that is to join

abbrev swept : Reason → Answer
swept why = answer.Swept ((0, 0, 0) ∷ (1, 0, 0) ∷ (2, 0, 0) ∷ []) ((3, 0, why) ∷ [])

abbrev ticks : Reason → TurnPosition
ticks why = position_after moving_to_d act.Tick (swept why)

abbrev four : List (ℕ × ℕ)
four = (0, 0) ∷ (1, 0) ∷ (2, 0) ∷ (3, 0) ∷ []

named_below : (a b : ℕ) → IsNamedBelow a_to_d a b → IsSlotBelow a_to_d (a, 0) (b, 0)
named_below a b below = inr (refl, below)

all_four : AreAllMembers a_to_d four
all_four = record {
  each = λ node shard. (to node shard, back node shard);
  in_order = ascends_by (IsSlotBelow a_to_d) four (
      (named_below 0 1 (record { one = _; other = _; of_one = refl; of_other = refl; below = refl }) also named_below 0 2 (record { one = _; other = _; of_one = refl; of_other = refl; below = refl }) also named_below 0 3 (record { one = _; other = _; of_one = refl; of_other = refl; below = refl }) also tt)
      also (named_below 1 2 below_1_2 also named_below 1 3 (record { one = _; other = _; of_one = refl; of_other = refl; below = refl }) also tt)
      also (named_below 2 3 (record { one = _; other = _; of_one = refl; of_other = refl; below = refl }) also tt)
      also tt
      also tt);
}
  where
    to : (node shard : ℕ) → IsIn four (node, shard) → IsIn (nodes_of (shard_at a_to_d shard)) node
    to node shard m = each_in (λ (x : ℕ × ℕ). IsIn (nodes_of (shard_at a_to_d x.1)) x.0) four (inl refl also inr (inl refl) also inr (inr (inl refl)) also inr (inr (inr (inl refl))) also tt) (node, shard) m

    back : (node shard : ℕ) → IsIn (nodes_of (shard_at a_to_d shard)) node → IsIn four (node, shard)
    back node zero m = each_in (λ (n : ℕ). IsIn four (n, 0)) (0 ∷ 1 ∷ 2 ∷ 3 ∷ []) (inl refl also inr (inl refl) also inr (inr (inl refl)) also inr (inr (inr (inl refl))) also tt) node m
    back node (suc shard) m = absurd m

abbrev entry : ℕ → Result ℕ Reason → Entry
entry node said = record { node = node; shard = 0; said = said }

pub tick_boot-caused : Caused true (life_of (refuses_tick reason.Boot)) []
tick_boot-caused =
    caused_by_positions true [] (life_of (refuses_tick reason.Boot)) tt refl (
    only (due true [] [] _ _ _ (first_placement, refl))
    also only (due true [] [] _ _ _ (refl, replaces_a, refl))
    also only (due true [] [] moving_to_d act.Tick (swept reason.Boot) (record {
      over = record {
        place = a_to_d;
        stands = stands_then moving_to_d act.Tick (swept reason.Boot) a_to_d refl;
        entries = entry 0 (Ok 0) ∷ entry 1 (Ok 0) ∷ entry 2 (Ok 0) ∷ entry 3 (Err reason.Boot) ∷ [];
        members = all_four;
        done_are = refl;
        failed_are = refl;
      };
      running = each_in (λ (x : ℕ × ℕ × ℕ). IsRunningAt (ticks reason.Boot) a_to_d x.0) ((0, 0, 0) ∷ (1, 0, 0) ∷ (2, 0, 0) ∷ []) (record { instance_ = _; stands = refl; holds = refl } also record { instance_ = _; stands = refl; holds = refl } also record { instance_ = _; stands = refl; holds = refl } also tt);
      begun = each_in (λ (x : ℕ × ℕ × ℕ). IsBegunFor None (ticks reason.Boot) a_to_d x.1 x.0) ((0, 0, 0) ∷ (1, 0, 0) ∷ (2, 0, 0) ∷ []) (record { instance_ = _; stands = refl; holds = refl } also record { instance_ = _; stands = refl; holds = refl } also record { instance_ = _; stands = refl; holds = refl } also tt);
      refused = each_in (λ (x : ℕ × ℕ × Reason). MayNotKeepUp true [] None (ticks reason.Boot) a_to_d x.1 x.0 x.2) ((3, 0, reason.Boot) ∷ []) ((λ told. record { instance_ = _; stands = refl; holds = refl }) also tt);
    }))
    also tt)

-- why d may have refused
d_may : {faults : List Fault} (why : Reason) → Caused true (life_of (refuses_tick why)) faults → (place : Placement) × MayNotKeepUp true faults None (ticks why) place 0 3 why
d_may {faults} why caused =
    let due : IsSwept true faults None (ticks why) ((0, 0, 0) ∷ (1, 0, 0) ∷ (2, 0, 0) ∷ []) ((3, 0, why) ∷ []) = due_after moving_to_d act.Tick (swept why) [] (λ e. cc) (λ e. cc) caused in
    (due.over.place, due.refused (3, 0, why) (inl refl))

pub tick_owner-refused : (faults : List Fault) → ¬ Caused true (life_of (refuses_tick reason.NotOwned)) faults
tick_owner-refused faults caused = (d_may {faults = faults} reason.NotOwned caused).1

pub tick_fence-refused : (faults : List Fault) (fence : ℕ) → ¬ Caused true (life_of (refuses_tick (reason.Stale fence))) faults
tick_fence-refused faults fence caused = (d_may {faults = faults} (reason.Stale fence) caused).1
