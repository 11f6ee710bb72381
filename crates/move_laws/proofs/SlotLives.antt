-- Which slots had a replica of a shard that moves.
use Rattle.std.proofs.Common.{ℕ, zero, suc, ◌≡◌, ◌≢◌, ◌<◌, ◌∙◌, true, false, List, [], ◌∷◌, ◌++◌, take, refl, sym, ap, subst, inl, inr, arith}
use Rattle.std.specs.Prelude.{Some, None, codes, IsTrue}
use Rattle.m3_model.specs.Limits.{IsInit, IsNamed}
use Rattle.m3_model.specs.declared.act.Act.{Act}
use Rattle.m3_model.specs.declared.act.Act.TheVariants as act
use Rattle.m3_model.specs.declared.answer.Answer.{Answer}
use Rattle.m3_model.specs.declared.answer.Answer.TheVariants as answer
use Rattle.m3_model.specs.declared.reason.Damage.{Damage}
use Rattle.m3_model.specs.declared.reason.Reason.TheVariants as reason
use Rattle.transcripts.specs.Caused.{Caused, InFiles, IsCalled, IsDueBy, IsUnmade, OnDisk, refusal_after}
use Rattle.transcripts.specs.Fates.{OfNode, is_stopped}
use Rattle.transcripts.specs.Faults.{Fault}
use Rattle.transcripts.specs.Placements.{HadReplica, has_replica}
use Rattle.transcripts.specs.Record.{inner_turns}
use Rattle.model_laws.specs.Building.{life_of, line, place_of_two, two_made, two_nodes}
use Rattle.model_laws.specs.Messages.{stopped}
use Rattle.model_laws.proofs.CausedLives.{first_placement_of_two}
use Rattle.model_laws.proofs.EachLemmas.{◌also◌, ascends_by, each_in, texts_differ}
use Rattle.model_laws.proofs.PositionLemmas.{position_after, position_after-stands, after_all, caused_by_positions, due_after, due_from, due_here, only, only_used, used_from}
use Rattle.move_laws.specs.Moving.{b_to_a, on_a, on_b, a_joined, bootstrap, restart, came_back, fails_at, held, moved_to_a, reopened_moving, MayRefuseAfter}
use Rattle.move_laws.specs.Planned.{init_answered}
use Rattle.placement_lines.proofs.PlanLemmas.{one_start}
use Rattle.move_laws.proofs.MovingLemmas.{of_name}
use Rattle.move_laws.proofs.BootLives.{ends}

-- ---- disks

-- at first the second shard isn't a's
not_of_a : (node : ℕ) → OfNode place_of_two node (λ own. own ≡ codes "a") → ¬ IsTrue (has_replica (Some place_of_two) 1 node)
not_of_a zero named has = let bad : false ≡ true = has in cc
not_of_a (suc zero) named has = texts_differ (codes "b") (codes "a") refl refl (of_name place_of_two (λ own. own ≡ codes "a") 1 _ refl named)
not_of_a (suc (suc n)) named has = let bad : None ≡ Some named.instance_ = named.stands in cc

pub restarted-refused : (faults : List Fault) → ¬ Caused true (life_of (two_made ++ stopped (codes "a") ∷ restart (codes "a") (answer.Disk (codes "a") 1) ∷ [])) faults
restarted-refused faults caused =
    let lines = two_made ++ stopped (codes "a") ∷ [] in
    let a = act.Restart (codes "a") 0 in
    let b = answer.Disk (codes "a") 1 in
    let due : OnDisk faults None (position_after lines a b) (HadReplica None (inner_turns lines) 1) (codes "a") 1 = (due_after lines a b [] (λ e. cc) (λ e. cc) caused).1 in
    let same : place_of_two ≡ due.1.place = only_used lines a b place_of_two due.1.place refl due.1.stands in
    let named : OfNode place_of_two due.0 (λ own. own ≡ codes "a") = subst (λ q. OfNode q due.0 (λ own. own ≡ codes "a")) (sym same) due.1.named in
    not_of_a due.0 named (each_in (λ q. IsTrue (has_replica (Some q) 1 due.0) → IsTrue (has_replica (Some place_of_two) 1 due.0)) (place_of_two ∷ []) ((λ has. has) also tt) due.2.place due.2.known due.2.member)

pub bootstrapped-refused : (faults : List Fault) → ¬ Caused true (life_of (two_made ++ bootstrap (codes "a") None (answer.Disk (codes "a") 1) ∷ [])) faults
bootstrapped-refused faults caused =
    let a = act.Bootstrap (codes "a") None in
    let b = answer.Disk (codes "a") 1 in
    let due : OnDisk faults None (position_after two_made a b) (λ node. IsTrue (has_replica (Some place_of_two) 1 node)) (codes "a") 1 = (due_after two_made a b [] (λ e. cc) (λ e. cc) caused).2 in
    let same : place_of_two ≡ due.1.place = only_used two_made a b place_of_two due.1.place refl due.1.stands in
    not_of_a due.0 (subst (λ q. OfNode q due.0 (λ own. own ≡ codes "a")) (sym same) due.1.named) due.2

-- what `init` asks for keeps to the limits
two_asked : IsInit 1 2 0 two_nodes
two_asked = record {
  some_replicas = omega arith;
  few_replicas = omega arith;
  some_shards = omega arith;
  few_shards = omega arith;
  seed_fits = omega arith;
  some_nodes = omega arith;
  few_nodes = omega arith;
  named = each_in IsNamed two_nodes ((refl, refl) also (refl, refl) also tt);
  distinct = ascends_by (λ (a b : List ℕ × List ℕ). a.0 ≢ b.0) two_nodes ((texts_differ (codes "a") (codes "b") refl refl also tt) also tt also tt);
}

pub made-refused : (faults : List Fault) → ¬ Caused true (init_answered 1 2 (answer.Disk (codes "a") 1)) faults
made-refused faults caused =
    let due : IsUnmade faults None (position_after [] (act.Init 1 2 0 two_nodes) (answer.Disk (codes "a") 1)) 1 2 two_nodes (codes "a") 1 = due_after [] (act.Init 1 2 0 two_nodes) (answer.Disk (codes "a") 1) [] (λ e. cc) (λ e. cc) caused in
    let same : place_of_two ≡ due.0 = one_start 1 2 two_nodes place_of_two due.0 two_asked first_placement_of_two due.1 in
    not_of_a due.2.node (subst (λ q. OfNode q due.2.node (λ own. own ≡ codes "a")) (sym same) due.2.named) (subst (λ q. IsTrue (has_replica (Some q) 1 due.2.node)) (sym same) due.2.member)

pub ended-caused : Caused true (reopened_moving (a_joined ∷ stopped (codes "b") ∷ restart (codes "b") (answer.Disk (codes "b") 1) ∷ [])) (fails_at 2 1 ∷ [])
ended-caused =
    caused_by_positions true (fails_at 2 1 ∷ []) (reopened_moving (a_joined ∷ stopped (codes "b") ∷ restart (codes "b") (answer.Disk (codes "b") 1) ∷ [])) ((λ none. none), tt) refl (
    only (due_from true (fails_at 2 1 ∷ []) [] (Some (held b_to_a)) [] _ _ _ (record { before = b_to_a; stands = ([], after_all [] _ _, refl); made = inl refl; room = omega arith; left = ends None refl; version_is = refl }))
    also only (due_from true (fails_at 2 1 ∷ []) [] (Some (held b_to_a)) [] _ _ _ tt)
    also only (due_from true (fails_at 2 1 ∷ []) [] (Some (held b_to_a)) [] _ _ _ (refl, (1, record { place = on_a; stands = (_, after_all (a_joined ∷ stopped (codes "b") ∷ []) _ _, refl); named = record { instance_ = _; stands = refl; holds = refl } }, record { place = b_to_a; known = inl refl; member = refl }, inl refl)))
    also tt)

-- once a took the second shard over it isn't b's
not_of_b : (node : ℕ) → OfNode on_a node (λ own. own ≡ codes "b") → ¬ IsTrue (has_replica (Some on_a) 1 node)
not_of_b zero named has = texts_differ (codes "a") (codes "b") refl refl (of_name on_a (λ own. own ≡ codes "b") 0 _ refl named)
not_of_b (suc zero) named has = let bad : false ≡ true = has in cc
not_of_b (suc (suc n)) named has = let bad : None ≡ Some named.instance_ = named.stands in cc

-- what is due of a line after a took it over
joined_due : (faults : List Fault) (a : Act) (b : Answer) → b ≢ answer.Memory → b ≢ answer.Full → (caused : Caused true (reopened_moving (a_joined ∷ line a b ∷ [])) faults)
    → IsDueBy true faults (Some (held b_to_a)) (caused.delivered (position_after (a_joined ∷ []) a b)) (position_after (a_joined ∷ []) a b) (refusal_after (Some (held b_to_a)) (position_after (a_joined ∷ []) a b) (inner_turns (a_joined ∷ [])))
joined_due faults a b not_memory not_full caused =
    let p = position_after (a_joined ∷ []) a b in
    due_here true faults [] (Some (held b_to_a)) (caused.delivered p) (a_joined ∷ []) a b not_memory not_full (caused.each p (position_after-stands (a_joined ∷ []) a b []))

-- of whom a node's name is then
called : (a : Act) (b : Answer) (node : ℕ) → IsCalled (Some (held b_to_a)) (position_after (a_joined ∷ []) a b) (codes "b") node → OfNode on_a node (λ own. own ≡ codes "b")
called a b node is = subst (λ q. OfNode q node (λ own. own ≡ codes "b")) (sym (used_from (Some (held b_to_a)) (a_joined ∷ []) a b on_a is.place refl is.stands)) is.named

pub ended_bootstrap-refused : (faults : List Fault) → ¬ Caused true (reopened_moving (a_joined ∷ bootstrap (codes "b") None (answer.Disk (codes "b") 1) ∷ [])) faults
ended_bootstrap-refused faults caused =
    let a = act.Bootstrap (codes "b") None in
    let b = answer.Disk (codes "b") 1 in
    let due : OnDisk faults (Some (held b_to_a)) (position_after (a_joined ∷ []) a b) (λ node. IsTrue (has_replica (Some on_a) 1 node)) (codes "b") 1 = (joined_due faults a b (λ e. cc) (λ e. cc) caused).2 in
    not_of_b due.0 (called a b due.0 due.1) due.2

pub ended_damage-refused : (faults : List Fault) (damage : Damage) → ¬ Caused true (reopened_moving (a_joined ∷ bootstrap (codes "b") None (answer.Corrupt (codes "b") 1 damage) ∷ [])) faults
ended_damage-refused faults damage caused =
    let a = act.Bootstrap (codes "b") None in
    let b = answer.Corrupt (codes "b") 1 damage in
    let due : InFiles faults (Some (held b_to_a)) (position_after (a_joined ∷ []) a b) (λ node. IsTrue (has_replica (Some on_a) 1 node)) (codes "b") 1 = (joined_due faults a b (λ e. cc) (λ e. cc) caused).2 in
    not_of_b due.0 (called a b due.0 due.1) due.2

-- ---- closed by a fault

pub came_back-caused : MayRefuseAfter true (fails_at 3 1 ∷ []) came_back on_b 1 reason.Down
came_back-caused =
    inr (record {
      fault = fails_at 3 1;
      among = inl refl;
      of_node = refl;
      of_shard = refl;
      closing = refl;
      not_later = omega arith;
      was_there = λ before. record { place = place_of_two; known = inl refl; member = refl };
      not_restarted = record { instance_ = _; stands = refl; holds = refl };
    })

pub given-caused : MayRefuseAfter true (fails_at 2 0 ∷ []) moved_to_a on_a 0 reason.Down
given-caused =
    inr (record {
      fault = fails_at 2 0;
      among = inl refl;
      of_node = refl;
      of_shard = refl;
      closing = refl;
      not_later = omega arith;
      was_there = λ before. record { place = b_to_a; known = inr (inl refl); member = refl };
      not_restarted = record { instance_ = _; stands = refl; holds = refl };
    })

pub before-refused : ¬ MayRefuseAfter true (fails_at 1 0 ∷ []) moved_to_a on_a 0 reason.Down
before-refused may =
    elim may as (λ _. ⊥) [
      | inl stops ↦ let bad : false ≡ true = of_name on_a (λ name. is_stopped (inner_turns moved_to_a) name ≡ true) 0 _ refl stops in cc
      | inr closed ↦ elim closed.among as (λ _. ⊥) [
        | inl e ↦
            let had : HadReplica None (inner_turns (take 2 moved_to_a)) 1 0 = subst (λ (f : Fault). f.line < 4 → HadReplica None (inner_turns (take (suc f.line) moved_to_a)) 1 0) (sym e) closed.was_there (omega arith) in
            let bad : false ≡ true = each_in (λ q. IsTrue (has_replica (Some q) 1 0) → false ≡ true) (place_of_two ∷ []) ((λ has. has) also tt) had.place had.known had.member in
            cc
        | inr none ↦ absurd none
      ]
    ]

pub other_shard-refused : ¬ MayRefuseAfter true (record (fails_at 3 1) { shard = 0 } ∷ []) came_back on_b 1 reason.Down
other_shard-refused may =
    elim may as (λ _. ⊥) [
      | inl stops ↦ let bad : false ≡ true = of_name on_b (λ name. is_stopped (inner_turns came_back) name ≡ true) 1 _ refl stops in cc
      | inr closed ↦ elim closed.among as (λ _. ⊥) [
        | inl e ↦ let bad : 0 ≡ 1 = ap (λ (f : Fault). f.shard) e ∙ closed.of_shard in omega (arith, bad)
        | inr none ↦ absurd none
      ]
    ]
