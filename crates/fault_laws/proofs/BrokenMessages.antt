-- Why answers without a cause are refused where messages are lost or late and nodes are stopped.
use Rattle.std.proofs.Common.{◌≡◌, ◌≤◌, ◌<◌, ◌∙◌, ℕ, Bool, true, false, List, [], ◌∷◌, length, refl, sym, subst, inl, inr, arith}
use Rattle.std.specs.Prelude.{Option, Some, None, pos, codes}
use Rattle.std.specs.declared.cmp.Ordering.TheVariants.{Less, Equal}
use Rattle.std.proofs.lemmas.Option.{same_Some}
use Rattle.transcripts.specs.Caused.{Caused}
use Rattle.transcripts.specs.Placements.{MayUse}
use Rattle.transcripts.specs.Calls.{Call, call_of}
use Rattle.transcripts.proofs.PositionLemmas.{only_in_line}
use Rattle.transcripts.specs.Levels.{IsAcked, MissesLevel, IsFoundFor, reached_of}
use Rattle.transcripts.specs.Deliveries.{IsDelivered, LateMessage, IsBeside, IsLateMessage, IsLateBefore, AreOutcomes}
use Rattle.placement_core.specs.NodeNames.{IsNamedBelow}
use Rattle.transcripts.specs.Fates.{reaches}
use Rattle.m3_model.specs.Hash.{murmur3, shard_of}
use Rattle.m3_model.specs.Levels.{majority, needed_write}
use Rattle.transcripts.specs.Points.{point_of}
use Rattle.m3_model.specs.Ascends.{Ascends}
use Rattle.transcripts.specs.Record.{TurnPosition, IsTurnPosition}
use Rattle.transcripts.specs.Rules.{rules_at}
use Rattle.m3_model.specs.declared.act.Act.TheVariants as act
use Rattle.m3_model.specs.declared.act.Fate.TheVariants.{Lose}
use Rattle.m3_model.specs.declared.act.ReadLevel.TheVariants as read_level
use Rattle.m3_model.specs.declared.act.WriteLevel.TheVariants as write_level
use Rattle.m3_model.specs.declared.answer.Answer.TheVariants as answer
use Rattle.m3_model.specs.declared.placement.Placement.{Placement}
use Rattle.m3_model.specs.declared.point.Point.{Point}
use Rattle.m3_model.specs.declared.reason.Reason.{Reason}
use Rattle.m3_model.specs.declared.reason.Reason.TheVariants as reason
use Rattle.m3_model.specs.declared.turn.Turn.{Turn}
use Rattle.model_laws.specs.Building.{begun, write, acks, unmet, by_each, place, life_of}
use Rattle.model_laws.specs.Messages.{fated, stopped, unstrict, b_then_c_late, without_b, lost_and_acked, stopped_and_acked, down_unstopped, cut_by_other_fate, cut_by_other_client, not_short_enough, stopped_again, delivered_twice, fate_of_nobody}
use Rattle.model_laws.proofs.EachLemmas.{◌also◌}
use Rattle.model_laws.proofs.PositionLemmas.{position_after, each_position, only, due_after, only_used}
use Rattle.model_laws.proofs.SampleLemmas.{call_with}
use Rattle.model_laws.proofs.UncausedLives.{due_at, names_below}

pub lost_and_acked-refused : {tells : Bool} → ¬ Caused tells (life_of lost_and_acked) []
lost_and_acked-refused caused =
    let lines = begun 100 (fated ((0, 0, codes "c", Lose) ∷ []) ∷ []) in
    let taken = acks (0 ∷ 1 ∷ 2 ∷ []) in
    let due : IsAcked None (position_after lines (write 100 (pos 5)) taken) (codes "hello") write_level.Majority None (0 ∷ 1 ∷ 2 ∷ []) = due_after lines (write 100 (pos 5)) taken [] (λ e. cc) (λ e. cc) caused in
    let same : place ≡ due.place = only_used lines (write 100 (pos 5)) taken place due.place refl due.may_use in
    let bad : false ≡ true = subst (λ x. reaches (position_after lines (write 100 (pos 5)) taken) x 2 ≡ true) (sym same) (due.reached 2 (inr (inr (inl refl)))) in
    cc

pub stopped_and_acked-refused : {tells : Bool} → ¬ Caused tells (life_of stopped_and_acked) []
stopped_and_acked-refused caused =
    let lines = begun 100 (stopped (codes "c") ∷ []) in
    let taken = acks (0 ∷ 1 ∷ 2 ∷ []) in
    let due : IsAcked None (position_after lines (write 100 (pos 5)) taken) (codes "hello") write_level.Majority None (0 ∷ 1 ∷ 2 ∷ []) = due_after lines (write 100 (pos 5)) taken [] (λ e. cc) (λ e. cc) caused in
    let same : place ≡ due.place = only_used lines (write 100 (pos 5)) taken place due.place refl due.may_use in
    let bad : false ≡ true = subst (λ x. reaches (position_after lines (write 100 (pos 5)) taken) x 2 ≡ true) (sym same) (due.reached 2 (inr (inr (inl refl)))) in
    cc

pub down_unstopped-refused : ¬ Caused true (life_of down_unstopped) []
down_unstopped-refused caused =
    let due : MissesLevel true [] None (position_after (begun 100 []) (write 100 (pos 5)) (unmet 0 (by_each reason.Down))) 0 2 (by_each reason.Down) 0 = due_at 100 (write 100 (pos 5)) (unmet 0 (by_each reason.Down)) (λ e. cc) (λ e. cc) caused in
    elim (due.silent.refused (0, reason.Down) (inl refl)) as (λ _. ⊥) [ inl one ↦ let bad : false ≡ true = one.holds in cc | inr closed ↦ closed.among ]

pub cut_by_other_fate-refused : ¬ Caused true (life_of cut_by_other_fate) []
cut_by_other_fate-refused caused =
    let lines = begun 100 (fated ((0, 1, codes "c", Lose) ∷ []) ∷ []) in
    let reasons : List (ℕ × Reason) = (1, reason.Memory) ∷ (2, reason.Cut) ∷ [] in
    let due : MissesLevel true [] None (position_after lines (write 100 (pos 5)) (unmet 1 reasons)) 1 2 reasons 0 = due_after lines (write 100 (pos 5)) (unmet 1 reasons) [] (λ e. cc) (λ e. cc) caused in
    let bad : false ≡ true = (due.silent.refused (2, reason.Cut) (inr (inl refl))).1.holds in
    cc

pub cut_by_other_client-refused : ¬ Caused true (life_of cut_by_other_client) []
cut_by_other_client-refused caused =
    let lines = begun 100 (fated ((3, 0, codes "c", Lose) ∷ []) ∷ []) in
    let reasons : List (ℕ × Reason) = (1, reason.Memory) ∷ (2, reason.Cut) ∷ [] in
    let due : MissesLevel true [] None (position_after lines (write 100 (pos 5)) (unmet 1 reasons)) 1 2 reasons 0 = due_after lines (write 100 (pos 5)) (unmet 1 reasons) [] (λ e. cc) (λ e. cc) caused in
    let bad : false ≡ true = (due.silent.refused (2, reason.Cut) (inr (inl refl))).1.holds in
    cc

pub not_short_enough-refused : ¬ Caused true (life_of not_short_enough) []
unfolding murmur3
not_short_enough-refused caused =
    let lines = begun 100 (stopped (codes "b") ∷ stopped (codes "c") ∷ []) in
    let whole = answer.Found [] false in
    let p = position_after lines (unstrict 0 200) whole in
    let due : IsFoundFor true [] None p (Some (codes "hello")) read_level.Unstrict None false = due_after lines (unstrict 0 200) whole [] (λ e. cc) (λ e. cc) caused in
    let same : place ≡ due.place = only_used lines (unstrict 0 200) whole place due.place refl due.may_use in
    let enough : (x : Placement) → place ≡ x → ((shard : ℕ) → shard ≡ shard_of (codes "hello") 0 (length x.shards) → majority x.rf ≤ reached_of p x shard) → 2 ≤ reached_of p place 0 =
    λ x e each. subst (λ y. ((shard : ℕ) → shard ≡ shard_of (codes "hello") 0 (length y.shards) → majority y.rf ≤ reached_of p y shard) → 2 ≤ reached_of p place 0) e (λ all. all 0 refl) each in
    let bad : 2 ≤ 1 = enough due.place same (due.not_short refl refl) in
    omega arith

pub stopped_again-refused : ¬ Caused true (life_of stopped_again) []
stopped_again-refused caused =
    let due : answer.Done ≡ answer.State (codes "c") = due_after (begun 100 (stopped (codes "c") ∷ [])) (act.Stop (codes "c")) answer.Done [] (λ e. cc) (λ e. cc) caused in
    cc

pub fate_of_nobody-refused : ¬ Caused true (life_of fate_of_nobody) []
fate_of_nobody-refused caused =
    let due : answer.Done ≡ answer.Unknown (codes "x") = due_after (begun 100 []) (act.Fates ((0, 0, codes "x", Lose) ∷ [])) answer.Done [] (λ e. cc) (λ e. cc) caused in
    cc

-- what a delivery did after the first write, and what it answers for doing it twice
abbrev lines_before : List Turn
lines_before = begun 100 (b_then_c_late ∷ without_b ∷ [])

abbrev twice : List (ℕ × ℕ × Option Reason)
twice = (1, 0, None) ∷ (1, 0, None) ∷ []

abbrev delivery : TurnPosition
delivery = position_after lines_before act.Deliver (answer.Outcomes twice)

-- the only write before stands after four lines
only_write : (q : TurnPosition) → IsTurnPosition lines_before q → (point : Point) → point_of (rules_at None delivery).spaces q.turn.act ≡ Some point → length q.lines ≡ 4
only_write q at = each_position (λ x. (point : Point) → point_of (rules_at None delivery).spaces x.turn.act ≡ Some point → length x.lines ≡ 4) lines_before (
    only (λ point e. cc) also only (λ point e. cc) also only (λ point e. cc) also only (λ point e. cc) also only (λ point e. refl) also tt) q at

-- the delivery stands in another line than that write
not_beside : (q : TurnPosition) → ¬ IsBeside delivery q
not_beside q beside =
    let only = only_in_line act.Deliver (answer.Outcomes twice) q beside.line_is beside.stands in
    elim beside.not_later as (λ _. ⊥) [ inl other ↦ other only.client_is | inr less ↦ absurd (omega (arith, less)) ]

-- where a late message of it was made
made_by : (m : LateMessage) → IsLateMessage None delivery m → IsTurnPosition lines_before m.position
made_by m late = elim late.made as (λ _. IsTurnPosition lines_before m.position) [ inl before ↦ before | inr beside ↦ absurd (not_beside m.position beside) ]

-- the write outside `par` is its client's, and nothing is earlier in its list
alone : (q : TurnPosition) → IsTurnPosition lines_before q → (q.client ≡ 0) × (q.earlier ≡ [])
alone = each_position (λ q. (q.client ≡ 0) × (q.earlier ≡ [])) lines_before (only (refl, refl) also only (refl, refl) also only (refl, refl) also only (refl, refl) also only (refl, refl) also tt)

-- the placement that it used
used_by : (m : LateMessage) → IsLateMessage None delivery m → place ≡ m.used
used_by m late = each_position (λ q. (point : Point) → point_of (rules_at None delivery).spaces q.turn.act ≡ Some point → (call : Call) → call_of q.turn.act ≡ Some call → MayUse None q call.version m.used → place ≡ m.used) lines_before (
    only (λ point e. cc) also only (λ point e. cc) also only (λ point e. cc) also only (λ point e. cc)
    also only (λ point e call is may. only_used (begun 100 (b_then_c_late ∷ [])) (write 100 (pos 5)) (acks (0 ∷ 2 ∷ [])) place m.used refl (subst (λ (c : Call). MayUse None (position_after (begun 100 (b_then_c_late ∷ [])) (write 100 (pos 5)) (acks (0 ∷ 2 ∷ []))) c.version m.used) (sym (same_Some (call_with (needed_write write_level.Majority)) call is)) may))
    also tt) m.position (made_by m late) m.point late.of_act late.call late.of_call late.may_use

-- two messages of that write to the same node aren't one before the other
not_before : (a b : LateMessage) → IsLateMessage None delivery a → IsLateMessage None delivery b → a.node ≡ 1 → b.node ≡ 1 → ¬ IsLateBefore a b
not_before a b of_a of_b a_is b_is before =
    let four : length a.position.lines ≡ 4 = only_write a.position (made_by a of_a) a.point of_a.of_act in
    let as_many : length b.position.lines ≡ 4 = only_write b.position (made_by b of_b) b.point of_b.of_act in
    let a_alone = alone a.position (made_by a of_a) in
    let b_alone = alone b.position (made_by b of_b) in
    elim before as (λ _. ⊥) [
      | inl less ↦ absurd (omega (arith, less, four, as_many))
      | inr within ↦ elim within.1 as (λ _. ⊥) [
        | inl other ↦ other (a_alone.0 ∙ sym b_alone.0)
        | inr later ↦ elim later as (λ _. ⊥) [
          | inl less ↦ let bad : 0 < 0 = subst (λ xs. length xs < 0) a_alone.1 (subst (λ xs. length a.position.earlier < length xs) b_alone.1 less) in absurd (omega (arith, bad))
          | inr named ↦
              let below : IsNamedBelow place 1 1 = subst (λ x. IsNamedBelow x 1 1) (sym (used_by a of_a)) (subst (λ n. IsNamedBelow a.used n 1) a_is (subst (λ n. IsNamedBelow a.used a.node n) b_is named.1)) in
              let clash : Equal ≡ Less = names_below 1 1 _ _ refl refl below in
              cc
        ]
      ]
    ]

-- no two messages in order have these outcomes
not_twice : (messages : List LateMessage) → Ascends IsLateBefore messages → AreOutcomes true [] None delivery messages twice → ⊥
not_twice [] in_order each = absurd each
not_twice (a ∷ []) in_order each = absurd each.1
not_twice (a ∷ b ∷ []) in_order each = not_before a b each.0.message each.1.0.message (sym each.0.node_is) (sym each.1.0.node_is) (in_order.0 b (inl refl))
not_twice (a ∷ b ∷ _ ∷ _) in_order each = absurd each.1.1

pub delivered_twice-refused : ¬ Caused true (life_of delivered_twice) []
delivered_twice-refused caused =
    let due : IsDelivered true [] None delivery (caused.delivered delivery) twice = due_after lines_before act.Deliver (answer.Outcomes twice) [] (λ e. cc) (λ e. cc) caused in
    not_twice (caused.delivered delivery) due.in_order due.each
