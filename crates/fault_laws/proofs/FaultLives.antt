-- Why each answer has its cause where disks fail, nodes are restarted and replicas bootstrap.
use Rattle.std.proofs.Common.{ℕ, ◌≡◌, ◌∙◌, true, false, List, [], ◌∷◌, ◌++◌, refl, sym, ap, inl, inr, arith}
use Rattle.std.proofs.lemmas.Fmt.{decimal_digit}
use Rattle.std.specs.Prelude.{Option, Some, None, pos, codes}
use Rattle.transcripts.specs.Caused.{Caused, IsCalled, IsBootstrapped}
use Rattle.transcripts.specs.Calls.{call_of}
use Rattle.transcripts.specs.Waiting.{IsBegunFor}
use Rattle.transcripts.specs.Levels.{IsAcked, MissesLevel}
use Rattle.transcripts.specs.Reasons.{MayRefuse, MayServe, TakesPoint}
use Rattle.transcripts.specs.Placements.{placement_after, placement_at, placements, seed_at, HadReplica}
use Rattle.transcripts.specs.Faults.{Fault}
use Rattle.transcripts.specs.Fates.{reaches}
use Rattle.m3_model.specs.Levels.{needed_write}
use Rattle.m3_model.specs.Members.{IsIn}
use Rattle.transcripts.specs.Record.{InnerTurn, TurnPosition, inner_turns}
use Rattle.transcripts.specs.Rules.{rules_at}
use Rattle.m3_model.specs.declared.act.ReadLevel.TheVariants as read_level
use Rattle.m3_model.specs.declared.act.WriteLevel.TheVariants as write_level
use Rattle.m3_model.specs.declared.answer.Answer.TheVariants as answer
use Rattle.m3_model.specs.declared.reason.Damage.TheVariants as damaged
use Rattle.m3_model.specs.declared.reason.Reason.{Reason}
use Rattle.model_laws.specs.Building.{life_of, place}
use Rattle.fault_laws.specs.Faulty.{fails, untaken, write_all, stopped_and_back, failed_and_back, restart_failed, init_failed, boot_of_another, shard_missing, damages, damaged_boot, asked_and_acked}
use Rattle.model_laws.proofs.EachLemmas.{◌also◌, Each}
use Rattle.model_laws.proofs.PositionLemmas.{caused_by_positions, only, due}
use Rattle.model_laws.proofs.SampleLemmas.{rules_when, call_with}
use Rattle.model_laws.proofs.CausedLives.{begun_caused_over, first_placement, counted_0, counted_1, counted_2, below_0_1, below_0_2, below_1_2}
use Rattle.fault_laws.proofs.MessageLives.{stood, of_node, found_when, unmet_when, taken_when, takes_near}

pub takes_all : TakesPoint (rules_when 100) (write_all 100 (pos 5))
takes_all = let near = takes_near 100 (pos 5) (omega arith) (omega arith) in record { point = near.point; of_act = near.of_act; in_window = near.in_window }

-- c alone didn't take a write that all have to take, and has its reason
pub c_missed : {faults : List Fault} (p : TurnPosition) (why : Reason) → placement_after None (inner_turns p.lines ++ (p.earlier ++ [])) ≡ Some place → seed_at None p ≡ 0 → call_of p.turn.act ≡ Some (call_with (needed_write write_level.All))
    → reaches p place 0 ≡ true → reaches p place 1 ≡ true → MayServe (rules_at None p) p.turn.act → MayRefuse true faults None p place 0 2 why → MissesLevel true faults None p 2 3 ((2, why) ∷ []) 0
c_missed p why place_is seed_is is of_a of_b serves may =
    unmet_when p (needed_write write_level.All) 2 ((2, why) ∷ []) place_is seed_is is refl (omega arith) refl (counted_2 also tt) (tt also tt)
    ((λ quiet. let bad : true ≡ false = sym of_a ∙ quiet in cc) also (λ quiet. let bad : true ≡ false = sym of_b ∙ quiet in cc) also (λ quiet. inl refl) also tt) (may also tt) (λ some. serves)

-- all three took it
all_took : (p : TurnPosition) → placement_after None (inner_turns p.lines ++ (p.earlier ++ [])) ≡ Some place → seed_at None p ≡ 0 → reaches p place 0 ≡ true → reaches p place 1 ≡ true → reaches p place 2 ≡ true → ((shard : ℕ) → Each (IsBegunFor None p place shard) (0 ∷ 1 ∷ 2 ∷ [])) → TakesPoint (rules_at None p) p.turn.act
    → IsAcked None p (codes "hello") write_level.All None (0 ∷ 1 ∷ 2 ∷ [])
all_took p place_is seed_is of_a of_b of_c begun takes =
    taken_when p (0 ∷ 1 ∷ 2 ∷ []) place_is seed_is (counted_0 also counted_1 also counted_2 also tt) ((below_0_1 also below_0_2 also tt) also (below_1_2 also tt) also tt also tt) (of_a also of_b also of_c also tt) begun (omega arith) takes

-- c had a replica of the only shard
pub c_had : {turns : List InnerTurn} → IsIn (placements None turns) place → HadReplica None turns 0 2
c_had known = record { place = place; known = known; member = refl }

-- c is the node of that name
c_called : (p : TurnPosition) → placement_after None (inner_turns p.lines ++ (p.earlier ++ [])) ≡ Some place → IsCalled None p (codes "c") 2
c_called p place_is = record { place = place; stands = stood p place place_is; named = of_node _ 2 _ refl refl }

-- a bootstrap that turns nothing available leaves the placement
bootstrapped : (p : TurnPosition) (name : List ℕ) (asked : Option ℕ) → placement_after None (inner_turns p.lines ++ (p.earlier ++ [])) ≡ Some place → placement_at None p ≡ Some place → IsBootstrapped None p name asked [] place 1
bootstrapped p name asked place_is before_is = record { before = place; stands = stood p place place_is; made = inl before_is; room = tt; left = refl; version_is = refl }

pub stopped_and_back-caused : Caused true (life_of stopped_and_back) []
stopped_and_back-caused =
    begun_caused_over [] 100 _ tt refl (
    only (due true [] [] _ _ _ tt)
    also only (due true [] [] _ _ _ (c_missed _ _ refl refl refl refl refl takes_all (inl (of_node _ 2 _ refl refl))))
    also only (due true [] [] _ _ _ (found_when _ read_level.Majority false 2 refl refl refl (omega arith) (λ e. cc) (λ e f. cc)))
    also only (due true [] [] _ _ _ tt)
    also only (due true [] [] _ _ _ (c_missed _ _ refl refl refl refl refl takes_all (λ told. of_node _ 2 _ refl refl)))
    also only (due true [] [] _ _ _ (bootstrapped _ _ _ refl refl))
    also only (due true [] [] _ _ _ (all_took _ refl refl refl refl refl (λ shard. of_node _ 0 _ refl refl also of_node _ 1 _ refl refl also of_node _ 2 _ refl refl also tt) takes_all))
    also tt)

pub failed_and_back-caused : Caused true (life_of failed_and_back) (fails 3 2 ∷ [])
failed_and_back-caused =
    begun_caused_over _ 100 _ ((λ none. none), tt) refl (
    only (due true (fails 3 2 ∷ []) [] _ _ _ (c_missed _ _ refl refl refl refl refl takes_all (inl refl)))
    also only (due true (fails 3 2 ∷ []) [] _ _ _ (c_missed _ _ refl refl refl refl refl takes_all (inr (record { fault = fails 3 2; among = inl refl; of_node = refl; of_shard = refl; closing = refl; not_later = omega arith; was_there = λ before. c_had (inl refl); not_restarted = of_node _ 2 _ refl refl }))))
    also only (due true (fails 3 2 ∷ []) [] _ _ _ tt)
    also only (due true (fails 3 2 ∷ []) [] _ _ _ tt)
    also only (due true (fails 3 2 ∷ []) [] _ _ _ (c_missed _ _ refl refl refl refl refl takes_all (λ told. of_node _ 2 _ refl refl)))
    also only (due true (fails 3 2 ∷ []) [] _ _ _ (bootstrapped _ _ _ refl refl))
    also only (due true (fails 3 2 ∷ []) [] _ _ _ (all_took _ refl refl refl refl refl (λ shard. of_node _ 0 _ refl refl also of_node _ 1 _ refl refl also of_node _ 2 _ refl refl also tt) takes_all))
    also tt)

pub restart_failed-caused : Caused true (life_of restart_failed) (fails 4 2 ∷ [])
restart_failed-caused =
    begun_caused_over _ 100 _ ((λ none. none), tt) refl (
    only (due true (fails 4 2 ∷ []) [] _ _ _ tt)
    also only (due true (fails 4 2 ∷ []) [] _ _ _ (refl, (2, c_called _ refl, c_had (inl refl), inl refl)))
    also only (due true (fails 4 2 ∷ []) [] _ _ _ refl)
    also only (due true (fails 4 2 ∷ []) [] _ _ _ (c_missed _ _ refl refl refl refl refl takes_all (inl (of_node _ 2 _ refl refl))))
    also only (due true (fails 4 2 ∷ []) [] _ _ _ tt)
    also tt)

pub damaged_boot-caused : (file : List ℕ) (at : ℕ) → Caused true (life_of (damaged_boot (damaged.Form file at))) (damages 5 2 ∷ [])
damaged_boot-caused file at =
    begun_caused_over _ 100 _ ((λ none. none), tt) refl (
    only (due true (damages 5 2 ∷ []) [] _ _ _ tt)
    also only (due true (damages 5 2 ∷ []) [] _ _ _ tt)
    also only (due true (damages 5 2 ∷ []) [] _ _ _ (refl, refl, (2, c_called _ refl, refl, inl refl), tt))
    also only (due true (damages 5 2 ∷ []) [] _ _ _ (c_missed _ _ refl refl refl refl refl takes_all (inr (record { fault = damages 5 2; among = inl refl; of_node = refl; of_shard = refl; closing = refl; not_later = omega arith; was_there = λ before. c_had (inl refl); not_restarted = of_node _ 2 _ refl refl }))))
    also tt)

pub init_failed-caused : Caused true (life_of init_failed) (untaken 0 1 ∷ [])
init_failed-caused =
    caused_by_positions true _ (life_of init_failed) ((λ none. none), tt) refl (
    only (due true (untaken 0 1 ∷ []) [] _ _ _ (place, first_placement, record { node = 1; named = of_node _ 1 _ refl refl; member = refl; is_new = λ had. had.known; untaken = inl refl }))
    also only (due true (untaken 0 1 ∷ []) [] _ _ _ refl)
    also only (due true (untaken 0 1 ∷ []) [] _ _ _ (first_placement, refl))
    also tt)

pub shard_missing-caused : Caused true (life_of shard_missing) []
shard_missing-caused =
    begun_caused_over [] 100 _ tt refl (
    only (due true [] [] _ _ _ (ap (λ name. answer.Unknown name) (sym (decimal_digit 1 (omega arith)))))
    also only (due true [] [] _ _ _ refl)
    also tt)

pub boot_of_another-caused : Caused true (life_of boot_of_another) []
boot_of_another-caused =
    begun_caused_over [] 100 _ tt refl (
    only (due true [] [] _ _ _ tt)
    also only (due true [] [] _ _ _ tt)
    also only (due true [] [] _ _ _ (bootstrapped _ _ _ refl refl))
    also only (due true [] [] _ _ _ (c_missed _ _ refl refl refl refl refl takes_all (λ told. of_node _ 2 _ refl refl)))
    also tt)

pub asked-caused : Caused true (life_of asked_and_acked) []
asked-caused =
    begun_caused_over [] 100 _ tt refl (
    only (due true [] [] _ _ _ tt)
    also only (due true [] [] _ _ _ tt)
    also only (inl refl)
    also only (due true [] [] _ _ _ (all_took _ refl refl refl refl refl (λ shard. of_node _ 0 _ refl refl also of_node _ 1 _ refl refl also of_node _ 2 _ refl refl also tt) takes_all))
    also tt)
