-- Placements by their versions.
use Rattle.std.proofs.Common.{◌≡◌, ◌≢◌, ◌<◌, ◌∙◌, ℕ, List, [], ◌∷◌, true, false, refl, sym, subst, ap, inl, inr, arith}
use Rattle.std.specs.Prelude.{Some, None, pos, codes, decimal}
use Rattle.m3_model.specs.Hash.{murmur3}
use Rattle.m3_model.specs.Levels.{needed_write}
use Rattle.m3_model.specs.Members.{IsIn}
use Rattle.m3_model.specs.declared.act.Act.{Act}
use Rattle.m3_model.specs.declared.act.Act.TheVariants as act
use Rattle.m3_model.specs.declared.act.WriteLevel.TheVariants as write_level
use Rattle.m3_model.specs.declared.answer.Answer.{Answer}
use Rattle.m3_model.specs.declared.answer.Answer.TheVariants as answer
use Rattle.m3_model.specs.declared.placement.Assignment.{Assignment}
use Rattle.m3_model.specs.declared.placement.Placement.{Placement}
use Rattle.m3_model.specs.declared.reason.Reason.TheVariants as reason
use Rattle.m3_model.specs.declared.turn.Turn.{Turn}
use Rattle.std.specs.Ordering.{is_gt}
use Rattle.std.proofs.lemmas.Option.{same_Some}
use Rattle.placement_plan.specs.Choices.{taking_cmp}
use Rattle.placement_plan.specs.First.{IsInitial, IsPlaced, first_instances}
use Rattle.placement_plan.specs.Nodes.{load}
use Rattle.transcripts.specs.Caused.{Caused, IsBootstrapped, IsDueBy, refusal_after}
use Rattle.transcripts.specs.Faults.{Fault}
use Rattle.transcripts.specs.Fates.{reaches}
use Rattle.transcripts.specs.Levels.{IsAcked, MissesLevel}
use Rattle.transcripts.specs.Placements.{MayUse, IsCounted}
use Rattle.transcripts.specs.Reasons.{MayRefuse}
use Rattle.transcripts.specs.Waiting.{IsBegunFor, waiting_after}
use Rattle.placement_core.specs.NodeNames.{IsNamedBelow}
use Rattle.model_laws.specs.Building.{begun, at_moment, life_of, line, acks, place, two_nodes, assigned}
use Rattle.fault_laws.specs.Faulty.{write_all, all_but_c}
use Rattle.fault_laws.specs.Versions.{at_version, held_2, reopened, c_left, waits_from_start, waits_after_boot, write_at, two_on}
use Rattle.model_laws.proofs.EachLemmas.{each_in, ascends_by, ◌also◌}
use Rattle.model_laws.proofs.PositionLemmas.{position_after, position_after-stands, after_all, only, due, due_from, due_here, due_after, used_from, caused_by_positions}
use Rattle.model_laws.proofs.SampleLemmas.{call_with, of_shard}
use Rattle.model_laws.proofs.CausedLives.{at_moment-caused, first_placement_of_two, counted_0, counted_1, counted_2, below_0_1, below_0_2, below_1_2}
use Rattle.fault_laws.proofs.FaultLives.{takes_all}
use Rattle.fault_laws.proofs.MessageLives.{hello_shard, of_node}
use Rattle.fault_laws.proofs.BrokenFaults.{holds_of}

-- what is due of the first line of a run that begins with version 2
first_due : {faults : List Fault} (a : Act) (b : Answer) (after : List Turn) → b ≢ answer.Memory → b ≢ answer.Full → (caused : Caused true (reopened (line a b ∷ after)) faults)
    → IsDueBy true faults (Some held_2) (caused.delivered (position_after [] a b)) (position_after [] a b) (refusal_after (Some held_2) (position_after [] a b) [])
first_due {faults} a b after not_memory not_full caused = due_here true faults [] (Some held_2) (caused.delivered (position_after [] a b)) [] a b not_memory not_full (caused.each (position_after [] a b) (position_after-stands [] a b after))

abbrev boot_c : Act
boot_c = act.Bootstrap (codes "c") None

pub stays-caused : Caused true (reopened (c_left 2 2 ∷ [])) []
stays-caused = caused_by_positions true [] (reopened (c_left 2 2 ∷ [])) tt refl (only (due_from true [] [] (Some held_2) [] [] _ _ record { before = at_version 2; stands = ([], after_all [] _ _, refl); made = inl refl; room = tt; left = refl; version_is = refl }) also tt)

-- what a bootstrap leaves
left_is : (faults : List Fault) (version told : ℕ) → Caused true (reopened (c_left version told ∷ [])) faults → (at_version 2 ≡ at_version version) × (told ≡ version)
left_is faults version told caused =
    let b = answer.Available [] (at_version version) told in
    let left : IsBootstrapped (Some held_2) (position_after [] boot_c b) (codes "c") None [] (at_version version) told = first_due boot_c b [] (λ e. cc) (λ e. cc) caused in
    (used_from (Some held_2) [] boot_c b (at_version 2) left.before refl left.stands ∙ sym left.left, left.version_is)

pub back-refused : (faults : List Fault) → ¬ Caused true (reopened (c_left 1 1 ∷ [])) faults
back-refused faults caused = let bad : 2 ≡ 1 = ap (λ (x : Placement). x.version) (left_is faults 1 1 caused).0 in omega (arith, bad)

pub onward-refused : (faults : List Fault) → ¬ Caused true (reopened (c_left 3 3 ∷ [])) faults
onward-refused faults caused = let bad : 2 ≡ 3 = ap (λ (x : Placement). x.version) (left_is faults 3 3 caused).0 in omega (arith, bad)

pub told-refused : (faults : List Fault) → ¬ Caused true (reopened (c_left 2 1 ∷ [])) faults
told-refused faults caused = let bad : 1 ≡ 2 = (left_is faults 2 1 caused).1 in omega (arith, bad)

-- ---- versions of calls

printed_taken : IsAcked None (position_after (begun 100 []) (write_at 1 100 (pos 5)) (acks (0 ∷ 1 ∷ 2 ∷ []))) (codes "hello") write_level.Majority (Some 1) (0 ∷ 1 ∷ 2 ∷ [])
printed_taken = record {
  place = place;
  may_use = (inl refl, refl);
  counted = λ shard asked. subst (λ k. (node : ℕ) → IsIn (0 ∷ 1 ∷ 2 ∷ []) node → IsCounted place k node) (sym (hello_shard (position_after (begun 100 []) (write_at 1 100 (pos 5)) (acks (0 ∷ 1 ∷ 2 ∷ []))) refl shard asked)) (each_in (IsCounted place 0) (0 ∷ 1 ∷ 2 ∷ []) (counted_0 also counted_1 also counted_2 also tt));
  by_name = ascends_by (IsNamedBelow place) (0 ∷ 1 ∷ 2 ∷ []) ((below_0_1 also below_0_2 also tt) also (below_1_2 also tt) also tt also tt);
  reached = each_in (λ node. reaches (position_after (begun 100 []) (write_at 1 100 (pos 5)) (acks (0 ∷ 1 ∷ 2 ∷ []))) place node ≡ true) (0 ∷ 1 ∷ 2 ∷ []) (refl also refl also refl also tt);
  begun = λ shard asked. each_in (IsBegunFor None (position_after (begun 100 []) (write_at 1 100 (pos 5)) (acks (0 ∷ 1 ∷ 2 ∷ []))) place shard) (0 ∷ 1 ∷ 2 ∷ []) (of_node _ 0 _ refl refl also of_node _ 1 _ refl refl also of_node _ 2 _ refl refl also tt);
  enough = omega arith;
  takes = record { point = takes_all.point; of_act = takes_all.of_act; in_window = takes_all.in_window };
}

pub printed-caused : Caused true (life_of (at_moment 100 (write_at 1 100 (pos 5)) (acks (0 ∷ 1 ∷ 2 ∷ [])))) []
printed-caused = at_moment-caused 100 _ _ (due true [] [] _ _ _ printed_taken)

pub unprinted-refused : (faults : List Fault) → ¬ Caused true (life_of (at_moment 100 (write_at 7 100 (pos 5)) (acks (0 ∷ 1 ∷ 2 ∷ [])))) faults
unprinted-refused faults caused =
    let bad : acks (0 ∷ 1 ∷ 2 ∷ []) ≡ answer.Unknown (decimal 7) = due_after (begun 100 []) (write_at 7 100 (pos 5)) (acks (0 ∷ 1 ∷ 2 ∷ [])) [] (λ e. cc) (λ e. cc) caused in
    cc

-- ---- first placements

pub least-caused : Caused true (life_of (two_on 0 1)) []
least-caused = caused_by_positions true [] (life_of (two_on 0 1)) tt refl (only (due true [] [] _ _ _ (first_placement_of_two, refl)) also tt)

-- the placement of two shards on these nodes
abbrev on : ℕ → ℕ → Placement
on first second = record { version = 1; rf = 1; instances = first_instances two_nodes; shards = (assigned first ∷ []) ∷ (assigned second ∷ []) ∷ [] }

initial_on : (faults : List Fault) (first second : ℕ) → Caused true (life_of (two_on first second)) faults → IsInitial 1 2 two_nodes (on first second)
initial_on faults first second caused = (due_after [] (act.Init 1 2 0 two_nodes) (answer.Placed (on first second) 1) [] (λ e. cc) (λ e. cc) caused).0

-- a replica on a node is nowhere less loaded than there
least_of : (load_at : ℕ → ℕ) (node other : ℕ) → other < 2 → IsPlaced (first_instances two_nodes) load_at [] (assigned node) → is_gt (taking_cmp (first_instances two_nodes) load_at node other) ≡ false
least_of load_at node other within placed =
    let same : node ≡ placed.0 = ap (λ (a : Assignment). a.node) placed.2 in
    subst (λ n. is_gt (taking_cmp (first_instances two_nodes) load_at n other) ≡ false) (sym same) (placed.1.least other (record { within = within; free = λ a none. absurd none }))

pub both-refused : (faults : List Fault) → ¬ Caused true (life_of (two_on 0 0)) faults
both-refused faults caused =
    let second = (initial_on faults 0 0 caused).each 1 (assigned 0 ∷ []) refl in
    let bad : true ≡ false = least_of (λ n. load n ((assigned 0 ∷ []) ∷ [] ∷ [])) 0 1 (omega arith) (second.each 0 (assigned 0) refl) in
    cc

pub later_name-refused : (faults : List Fault) → ¬ Caused true (life_of (two_on 1 0)) faults
later_name-refused faults caused =
    let first = (initial_on faults 1 0 caused).each 0 (assigned 1 ∷ []) refl in
    let bad : true ≡ false = least_of (λ n. load n ([] ∷ [])) 1 0 (omega arith) (first.each 0 (assigned 1) refl) in
    cc

-- ---- waiting from the start

-- c alone didn't take the write, since it waits for a bootstrap
c_waits : MissesLevel true [] (Some held_2) (position_after [] (write_all 100 (pos 5)) (all_but_c reason.Boot)) 2 3 ((2, reason.Boot) ∷ []) 0
unfolding murmur3
c_waits = record {
  call = call_with (needed_write write_level.All);
  of_act = refl;
  place = at_version 2;
  may_use = ([], after_all [] _ _, refl);
  asked = refl;
  first = λ lower below too. absurd (omega (arith, below));
  needed_is = refl;
  fewer = omega arith;
  others = refl;
  silent = record {
    counted = each_in (λ r. IsCounted (at_version 2) 0 r.0) ((2, reason.Boot) ∷ []) (inr (inr (inl refl)) also tt);
    by_name = ascends_by (λ r s. IsNamedBelow (at_version 2) r.0 s.0) ((2, reason.Boot) ∷ []) (tt also tt);
    unreached = each_in (λ n. reaches (position_after [] (write_all 100 (pos 5)) (all_but_c reason.Boot)) (at_version 2) n ≡ false → IsIn (2 ∷ []) n) (0 ∷ 1 ∷ 2 ∷ []) ((λ quiet. cc) also (λ quiet. cc) also (λ quiet. inl refl) also tt);
    refused = each_in (λ r. MayRefuse true [] (Some held_2) (position_after [] (write_all 100 (pos 5)) (all_but_c reason.Boot)) (at_version 2) 0 r.0 r.1) ((2, reason.Boot) ∷ []) ((λ told. record { instance_ = _; stands = refl; holds = refl }) also tt);
  };
  served = λ some. takes_all;
}

pub opened-caused : Caused true waits_from_start []
opened-caused = caused_by_positions true [] waits_from_start tt refl (only (due_from true [] [] (Some held_2) [] [] _ _ c_waits) also tt)

pub booted-refused : (faults : List Fault) → ¬ Caused true waits_after_boot faults
booted-refused faults caused =
    let lines = c_left 2 2 ∷ [] in
    let a = write_all 100 (pos 5) in
    let b = all_but_c reason.Boot in
    let missed : MissesLevel true faults (Some held_2) (position_after lines a b) 2 3 ((2, reason.Boot) ∷ []) 0 = due_here true faults [] (Some held_2) (caused.delivered (position_after lines a b)) lines a b (λ e. cc) (λ e. cc) (caused.each (position_after lines a b) (position_after-stands lines a b [])) in
    let call = call_with (needed_write write_level.All) in
    let known : call ≡ missed.call = same_Some call missed.call missed.of_act in
    let same : at_version 2 ≡ missed.place = used_from (Some held_2) lines a b (at_version 2) missed.place refl (subst (λ c. MayUse (Some held_2) (position_after lines a b) c.version missed.place) (sym known) missed.may_use) in
    let waits = subst (λ x. MayRefuse true faults (Some held_2) (position_after lines a b) x 0 2 reason.Boot) (sym same) (missed.silent.refused (2, reason.Boot) (inl refl)) refl in
    let bad : false ≡ true = holds_of (λ name. (waiting_after (of_shard 2 name) (Some held_2) lines).waits ≡ true) 2 _ refl (record { instance_ = waits.instance_; stands = waits.stands; holds = waits.holds }) in
    cc
