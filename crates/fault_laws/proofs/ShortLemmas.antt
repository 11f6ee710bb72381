-- Why a short read has its reasons.
use Rattle.std.proofs.Common.{◌≡◌, ◌≢◌, ◌≤◌, ◌<◌, ◌+◌, ℕ, List, [], ◌∷◌, length, true, false, refl, sym, subst, arith}
use Rattle.std.specs.Prelude.{Some, None, pos, codes}
use Rattle.m3_model.specs.Levels.{majority}
use Rattle.m3_model.specs.Members.{IsIn}
use Rattle.m3_model.specs.declared.act.Act.TheVariants as act
use Rattle.m3_model.specs.declared.act.ReadLevel.{ReadLevel}
use Rattle.m3_model.specs.declared.act.ReadLevel.TheVariants as read_level
use Rattle.m3_model.specs.declared.answer.Answer.TheVariants as answer
use Rattle.m3_model.specs.declared.reason.Reason.{Reason}
use Rattle.m3_model.specs.declared.reason.Reason.TheVariants as reason
use Rattle.transcripts.specs.Caused.{Caused}
use Rattle.transcripts.specs.Calls.{AsksShard}
use Rattle.transcripts.specs.Faults.{Fault}
use Rattle.m3_model.specs.declared.placement.Placement.{Placement}
use Rattle.transcripts.specs.Levels.{IsShort, IsFoundFor}
use Rattle.model_laws.specs.Building.{two_made, place_of_two, begun, life_of, place, wrote}
use Rattle.model_laws.specs.Messages.{unstrict}
use Rattle.model_laws.specs.Uncaused.{answered_by_nobody, unstrict_found, unstrict_position, short_at}
use Rattle.model_laws.proofs.EachLemmas.{◌also◌}
use Rattle.model_laws.proofs.PositionLemmas.{position_after, only, due, due_after, only_used}
use Rattle.model_laws.proofs.SampleLemmas.{rules_when, StandsAt, stands, WindowRefuses}
use Rattle.model_laws.proofs.CausedLives.{begun_caused, counted_0, counted_1, counted_2, below_0_1, below_0_2, below_1_2}
use Rattle.fault_laws.proofs.MessageLives.{found_when, of_node, taken_when, takes_near, hello_shard}
use Rattle.model_laws.proofs.UncausedLives.{window_refuses}

pub whole-caused : Caused true (life_of (unstrict_found ((100, pos 5) ∷ []) false)) []
whole-caused =
    begun_caused 100 _ refl (
    only (due true [] [] _ _ _ (taken_when _ (0 ∷ 1 ∷ 2 ∷ []) refl refl (counted_0 also counted_1 also counted_2 also tt) ((below_0_1 also below_0_2 also tt) also (below_1_2 also tt) also tt also tt) (refl also refl also refl also tt) (λ shard. of_node _ 0 _ refl refl also of_node _ 1 _ refl refl also of_node _ 2 _ refl refl also tt) (omega arith) (takes_near 100 (pos 5) (omega arith) (omega arith))))
    also only (due true [] [] _ _ _ (found_when _ read_level.Unstrict false 3 refl refl refl (omega arith) (λ e. cc) (λ e f. omega arith)))
    also tt)

pub all_answered : (short : IsShort true [] None (unstrict_position true) place 0) → short.reasons ≢ []
all_answered short none =
    let all : short.got + 0 ≡ 3 = subst (λ rs. short.got + length rs ≡ 3) none short.others in
    let few : short.got < 2 = short.fewer in
    omega (arith, all, few)

-- the only reason that nothing shows is want of memory
only_memory : (why : Reason) → WindowRefuses (rules_when 100) (unstrict 0 200) why → why ≡ reason.Memory
only_memory reason.Past may = let none = may.of_act in cc
only_memory reason.Future may = let none = may.of_act in cc
only_memory reason.Memory may = refl
only_memory _ may = absurd may

abbrev HiddenMemory : Type 0
HiddenMemory = (reasons : List (ℕ × Reason)) × (2 ≤ length reasons) × ((r : ℕ × Reason) → IsIn reasons r → r.1 ≡ reason.Memory)

of_short : (shard : ℕ) → shard ≡ 0 → IsShort true [] None (unstrict_position true) place shard → HiddenMemory
of_short shard zero_is short =
    let lines = begun 100 (wrote 100 (pos 5) ∷ []) in
    let here : IsShort true [] None (unstrict_position true) place 0 = subst (λ k. IsShort true [] None (unstrict_position true) place k) zero_is short in
    let all : here.got + length here.reasons ≡ 3 = here.others in
    let few : here.got < 2 = here.fewer in
    let stood : StandsAt lines (rules_when 100) = stands refl refl refl refl refl (λ name. refl) (λ name. refl also refl also refl also tt) (λ x. refl) in
    (here.reasons, omega (arith, all, few), λ r m. only_memory r.1 (window_refuses lines (rules_when 100) (unstrict 0 200) (answer.Found [] true) r.0 r.1 stood (here.silent.counted r m) (here.silent.refused r m)))

pub hidden_memory : Caused true (life_of (unstrict_found [] true)) [] → HiddenMemory
hidden_memory caused =
    let lines = begun 100 (wrote 100 (pos 5) ∷ []) in
    let found : IsFoundFor true [] None (unstrict_position true) (Some (codes "hello")) read_level.Unstrict None true = due_after lines (unstrict 0 200) (answer.Found [] true) [] (λ e. cc) (λ e. cc) caused in
    let same : place ≡ found.place = only_used lines (unstrict 0 200) (answer.Found [] true) place found.place refl found.may_use in
    let short = (found.may_be_short refl).1 in
    let asked : AsksShard None (unstrict_position true) place (Some (codes "hello")) short.0 = subst (λ x. AsksShard None (unstrict_position true) x (Some (codes "hello")) short.0) (sym same) short.1 in
    of_short short.0 (hello_shard (unstrict_position true) refl short.0 asked) (subst (λ x. IsShort true [] None (unstrict_position true) x short.0) (sym same) short.2)

pub other_level-refused : (level : ReadLevel) → level ≢ read_level.Unstrict → ¬ Caused true (life_of (short_at level)) []
other_level-refused level other caused =
    let found : IsFoundFor true [] None (position_after (begun 100 []) (act.Fetch (codes "m") (codes "hello") 0 200 level None) (answer.Found [] true)) (Some (codes "hello")) level None true =
    due_after (begun 100 []) (act.Fetch (codes "m") (codes "hello") 0 200 level None) (answer.Found [] true) [] (λ e. cc) (λ e. cc) caused in
    other (found.may_be_short refl).0

pub nobody-refused : (faults : List Fault) → ¬ Caused true (life_of answered_by_nobody) faults
nobody-refused faults caused =
    let p = position_after two_made (unstrict 0 200) (answer.Found [] true) in
    let found : IsFoundFor true faults None p (Some (codes "hello")) read_level.Unstrict None true = due_after two_made (unstrict 0 200) (answer.Found [] true) [] (λ e. cc) (λ e. cc) caused in
    let same : place_of_two ≡ found.place = only_used two_made (unstrict 0 200) (answer.Found [] true) place_of_two found.place refl found.may_use in
    let short = (found.may_be_short refl).1.2 in
    let few : short.got < 1 = subst (λ (x : Placement). short.got < majority x.rf) (sym same) short.fewer in
    let some : 0 < short.got = short.some in
    omega (arith, few, some)
