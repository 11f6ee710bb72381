-- Which nodes don't own a shard that moves.
use Rattle.std.proofs.Common.{ℕ, suc, ◌≡◌, ◌<◌, ◌∙◌, Bool, true, false, List, [], ◌∷◌, ◌++◌, refl, sym, subst, inl, inr, arith}
use Rattle.std.specs.Prelude.{Some, None, pos, codes, slice_get}
use Rattle.std.proofs.lemmas.Option.{same_Some}
use Rattle.m3_model.specs.Levels.{needed_write}
use Rattle.m3_model.specs.Members.{IsIn}
use Rattle.m3_model.specs.declared.act.WriteLevel.TheVariants as write_level
use Rattle.m3_model.specs.declared.placement.Assignment.{Assignment}
use Rattle.m3_model.specs.declared.placement.Placement.{Placement}
use Rattle.m3_model.specs.declared.reason.Reason.TheVariants as reason
use Rattle.m3_model.specs.declared.turn.Turn.{Turn}
use Rattle.placement_core.specs.Shards.{shard_at}
use Rattle.transcripts.specs.Caused.{Caused}
use Rattle.transcripts.specs.Faults.{Fault}
use Rattle.transcripts.specs.Levels.{MissesLevel}
use Rattle.transcripts.specs.Moves.{HasAssignment, IsNew, OwnsNot, is_begun_in, placement_by}
use Rattle.transcripts.specs.Placements.{MayStand, MayUse, has_replica, placements}
use Rattle.transcripts.specs.Reasons.{MayRefuse}
use Rattle.transcripts.specs.Record.{TurnPosition, inner_turns}
use Rattle.transcripts.specs.Waiting.{is_assigned, is_member}
use Rattle.model_laws.specs.Building.{begun, life_of, place, place_of_two, two_made, write, unmet, by_each}
use Rattle.model_laws.specs.Uncaused.{write_answered}
use Rattle.model_laws.proofs.EachLemmas.{◌also◌, each_in}
use Rattle.model_laws.proofs.PositionLemmas.{position_after, due_after, only_used, stands_then}
use Rattle.model_laws.proofs.SampleLemmas.{call_with, rules_when, stands}
use Rattle.model_laws.proofs.OwnerLemmas.{never_assigned, none_unowned}
use Rattle.model_laws.proofs.CausedLives.{counted_0, EachAt, each_at}
use Rattle.move_laws.specs.Moving.{b_to_a, on_a, a_to_b, on_b, joining, holding, b_drained, a_joins, b_joined, b_joins, moved_to_a, coming_back, coming_back_uncovered, came_back, call_at, MayRefuseAfter, MayRefuseBehind, MayRefuseBeside}
use Rattle.move_laws.proofs.MovingLemmas.{below_or, of_b, of_name, only_behind}

pub one_placement-refused : (tells : Bool) (faults : List Fault) → ¬ Caused tells (life_of (write_answered (unmet 0 (by_each reason.NotOwned)))) faults
one_placement-refused tells faults caused =
    let lines = begun 100 [] in
    let a = write 100 (pos 5) in
    let b = unmet 0 (by_each reason.NotOwned) in
    let p = position_after lines a b in
    let call = call_with (needed_write write_level.Majority) in
    let missed : MissesLevel tells faults None p 0 2 (by_each reason.NotOwned) 0 = due_after lines a b [] (λ e. cc) (λ e. cc) caused in
    let known : call ≡ missed.call = same_Some call missed.call missed.of_act in
    let same : place ≡ missed.place = only_used lines a b place missed.place refl (subst (λ c. MayUse None p c.version missed.place) (sym known) missed.may_use) in
    none_unowned lines (rules_when 100) a b 0 (stands refl refl refl refl refl (λ name. refl) (λ name. refl also refl also refl also tt) (λ x. refl)) counted_0
    (subst (λ x. MayRefuse tells faults None p x 0 0 reason.NotOwned) (sym same) (missed.silent.refused (0, reason.NotOwned) (inl refl)))

-- ---- taken away

pub away-caused : (tells : Bool) → MayRefuseAfter tells [] moved_to_a place_of_two 1 reason.NotOwned
away-caused tells = inl (record { place = on_a; may_stand = stands_then _ _ _ _ refl; not_owned = inl refl })

pub taken_beside-caused : (tells : Bool) → MayRefuseBeside tells [] (two_made ++ b_drained ∷ []) (a_joins ∷ []) place_of_two 1 reason.NotOwned
taken_beside-caused tells =
    let lines = two_made ++ b_drained ∷ [] in
    inl (record { place = on_a; may_stand = (inner_turns lines ++ ([] ++ a_joins ∷ []), record { others = a_joins ∷ []; some_of = inl (refl, tt); are = refl }, refl); not_owned = inl refl })

-- where this placement alone may stand, and gives the node the shard at or below the version, the node owns it
owned_in : (q : Placement) (node version : ℕ) (p : TurnPosition) → ((used : Placement) → MayStand None p used → q ≡ used) → has_replica (Some q) 1 node ≡ true
    → ((a : Assignment) → IsIn (shard_at q 1) a → a.node ≡ node → version < a.tenure → ⊥) → ¬ OwnsNot None p 1 node version
owned_in q node version p only has low may =
    let same : q ≡ may.place = only may.place may.may_stand in
    elim may.not_owned as (λ _. ⊥) [
      | inl away ↦ let bad : true ≡ false = sym has ∙ subst (λ x. has_replica (Some x) 1 node ≡ false) (sym same) away in cc
      | inr above ↦ (
          let given : HasAssignment q 1 node (λ tenure. version < tenure) = subst (λ x. HasAssignment x 1 node (λ tenure. version < tenure)) (sym same) above in
          low given.assignment given.among given.of_node given.kind)
    ]

pub leaving-refused : (tells : Bool) (faults : List Fault) → ¬ MayRefuseAfter tells faults (two_made ++ b_drained ∷ []) place_of_two 1 reason.NotOwned
leaving-refused tells faults may =
    let lines = two_made ++ b_drained ∷ [] in
    let p = call_at lines place_of_two 1 reason.NotOwned in
    elim may as (λ _. ⊥) [
      | inl not ↦ owned_in b_to_a 1 1 p (λ used stood. only_used lines p.turn.act p.turn.answer b_to_a used refl stood) refl
          (each_in (λ (a : Assignment). a.node ≡ 1 → 1 < a.tenure → ⊥) (shard_at b_to_a 1) ((λ is above. omega (arith, above)) also (λ is above. omega (arith, is)) also tt)) not
      | inr new ↦ (
          let x = of_b new.instance_.name in
          let member : (q : Placement) → IsIn (placements None (inner_turns lines)) q → is_member x (Some q) ≡ true = each_in (λ q. is_member x (Some q) ≡ true) (place_of_two ∷ b_to_a ∷ []) (refl also refl also tt) in
          let bad : false ≡ true = sym (never_assigned x None lines member new.holds.lines (placement_by None lines (suc new.holds.lines))) ∙ new.holds.assigned in
          cc)
    ]

pub joining-caused : (tells : Bool) → MayRefuseAfter tells [] (two_made ++ b_drained ∷ []) place_of_two 0 reason.NotOwned
joining-caused tells =
    inl (record { place = b_to_a; may_stand = stands_then _ _ _ _ refl; not_owned = inr (record { assignment = joining 0 2 1; among = inr (inl refl); of_node = refl; kind = omega arith }) })

pub returned-caused : (tells : Bool) → MayRefuseAfter tells [] came_back place_of_two 1 reason.NotOwned
returned-caused tells = inl (record { place = on_b; may_stand = stands_then _ _ _ _ refl; not_owned = inr (record { assignment = holding 1 4; among = inl refl; of_node = refl; kind = omega arith }) })

-- ---- given anew

-- in no line from this one on was a bootstrap of b's replica answered ok
abbrev NoneSince : List Turn → ℕ → Type 0
NoneSince lines since = (k : ℕ) (line : Turn) → since < k → slice_get lines k ≡ Some line → is_begun_in (of_b (codes "b")) (placement_by None lines k) (placement_by None lines (suc k)) (inner_turns (line ∷ [])) ≡ false

-- the same, line by line
none_since : (lines : List Turn) (since : ℕ) → EachAt (λ k line. since < k → is_begun_in (of_b (codes "b")) (placement_by None lines k) (placement_by None lines (suc k)) (inner_turns (line ∷ [])) ≡ false) lines → NoneSince lines since
none_since lines since each k line after stands =
    each_at (λ n l. since < n → is_begun_in (of_b (codes "b")) (placement_by None lines n) (placement_by None lines (suc n)) (inner_turns (l ∷ [])) ≡ false) lines each k line stands after

none_in_coming : NoneSince coming_back 4
none_in_coming =
    none_since coming_back 4 (
    (λ after. absurd (omega (arith, after)))
    also (λ after. absurd (omega (arith, after)))
    also (λ after. absurd (omega (arith, after)))
    also (λ after. absurd (omega (arith, after)))
    also (λ after. absurd (omega (arith, after)))
    also tt)

pub given-caused : (tells : Bool) → MayRefuseAfter tells [] coming_back a_to_b 1 reason.NotOwned
given-caused tells =
    inr (record {
      instance_ = _;
      stands = refl;
      holds = record { lines = 4; earlier = omega arith; assigned = refl; not_since = λ told k line after stands. none_in_coming k line after stands; not_beside = λ told. refl };
    })

none_covering : NoneSince coming_back_uncovered 5
none_covering =
    none_since coming_back_uncovered 5 (
    (λ after. absurd (omega (arith, after)))
    also (λ after. absurd (omega (arith, after)))
    also (λ after. absurd (omega (arith, after)))
    also (λ after. absurd (omega (arith, after)))
    also (λ after. absurd (omega (arith, after)))
    also (λ after. absurd (omega (arith, after)))
    also (λ after. refl)
    also (λ after. refl)
    also tt)

pub uncovered-caused : (tells : Bool) → MayRefuseAfter tells [] coming_back_uncovered a_to_b 1 reason.NotOwned
uncovered-caused tells =
    inr (record {
      instance_ = _;
      stands = refl;
      holds = record { lines = 5; earlier = omega arith; assigned = refl; not_since = λ told k line after stands. none_covering k line after stands; not_beside = λ told. refl };
    })

-- b took its shard back after the line that gave it anew
not_new : ¬ IsNew true (of_b (codes "b")) None (call_at came_back on_b 1 reason.NotOwned)
not_new new =
    elim (below_or 5 new.lines new.earlier) as (λ _. ⊥) [
      | inl before ↦ let bad : true ≡ false = new.not_since refl 5 b_joined before refl in cc
      | inr last ↦ let bad : false ≡ true = subst (λ k. is_assigned (of_b (codes "b")) (placement_by None came_back k) (placement_by None came_back (suc k)) ≡ true) last new.assigned in cc
    ]

-- on_b gives it the shard at 4
on_b-low : (a : Assignment) → IsIn (shard_at on_b 1) a → a.node ≡ 1 → 5 < a.tenure → ⊥
on_b-low = each_in (λ (a : Assignment). a.node ≡ 1 → 5 < a.tenure → ⊥) (shard_at on_b 1) ((λ is above. omega (arith, above)) also tt)

pub joined-refused : (faults : List Fault) → ¬ MayRefuseAfter true faults came_back on_b 1 reason.NotOwned
joined-refused faults may =
    let p = call_at came_back on_b 1 reason.NotOwned in
    elim may as (λ _. ⊥) [
      | inl not ↦ owned_in on_b 1 5 p (λ used stood. only_used came_back p.turn.act p.turn.answer on_b used refl stood) refl on_b-low not
      | inr new ↦ not_new (of_name on_b (λ name. IsNew true (of_b name) None p) 1 _ refl new)
    ]

pub untold-caused : MayRefuseAfter false [] came_back on_b 1 reason.NotOwned
untold-caused = inr (record { instance_ = _; stands = refl; holds = record { lines = 4; earlier = omega arith; assigned = refl; not_since = λ told. cc; not_beside = λ told. cc } })

pub earlier-refused : (faults : List Fault) → ¬ MayRefuseBehind true faults coming_back (b_joins ∷ []) on_b 1 reason.NotOwned
earlier-refused faults may =
    let p : TurnPosition = record (call_at coming_back on_b 1 reason.NotOwned) { earlier = b_joins ∷ [] } in
    elim may as (λ _. ⊥) [
      | inl not ↦ owned_in on_b 1 5 p (λ used stood. only_behind p on_b used refl refl stood) refl on_b-low not
      | inr new ↦ let bad : true ≡ false = (of_name on_b (λ name. IsNew true (of_b name) None p) 1 _ refl new).not_beside refl in cc
    ]

pub beside-caused : (tells : Bool) → MayRefuseBeside tells [] coming_back (b_joins ∷ []) a_to_b 1 reason.NotOwned
beside-caused tells =
    inr (record {
      instance_ = _;
      stands = refl;
      holds = record { lines = 4; earlier = omega arith; assigned = refl; not_since = λ told k line after stands. none_in_coming k line after stands; not_beside = λ told. refl };
    })
