-- What a bootstrap prints.
use Rattle.std.proofs.Common.{ℕ, zero, suc, ◌≡◌, ◌≢◌, ◌<◌, ◌∙◌, true, false, List, [], ◌∷◌, length, refl, sym, subst, ap, inl, inr, arith}
use Rattle.std.specs.Prelude.{Option, Some, None, codes, slice_get, IsTrue}
use Rattle.std.proofs.lemmas.Option.{same_Some}
use Rattle.m3_model.specs.Members.{IsIn}
use Rattle.m3_model.specs.declared.act.Act.TheVariants as act
use Rattle.m3_model.specs.declared.answer.Answer.{Answer}
use Rattle.m3_model.specs.declared.answer.Answer.TheVariants as answer
use Rattle.m3_model.specs.declared.placement.Assignment.{Assignment}
use Rattle.m3_model.specs.declared.placement.Instance.{Instance}
use Rattle.m3_model.specs.declared.placement.Placement.{Placement}
use Rattle.m3_model.specs.declared.placement.ShardState.TheVariants.{Initializing, Available, Leaving}
use Rattle.placement_core.specs.Shards.{Shard, shard_at}
use Rattle.placement_core.specs.Steps.{Ends}
use Rattle.placement_plan.specs.First.{first_instances}
use Rattle.placement_plan.specs.Plans.{EndsAsNamed, IsAvailable, IsJoiningPair}
use Rattle.transcripts.specs.Caused.{Caused, CausedAt, EndsInto, EndsMoves, IsBootstrapped, IsDueBy, IsLeftBy, refusal_after}
use Rattle.transcripts.specs.Fates.{OfNode}
use Rattle.transcripts.specs.Faults.{Fault}
use Rattle.transcripts.specs.Record.{AreSomeOf, InnerTurn, TurnPosition}
use Rattle.transcripts.specs.Waiting.{is_covering, waiting_after}
use Rattle.model_laws.specs.Building.{begun, life_of, nodes, place}
use Rattle.fault_laws.specs.Faulty.{bootstrap_c}
use Rattle.model_laws.proofs.EachLemmas.{◌also◌, each_in, ascends_by, texts_differ}
use Rattle.model_laws.proofs.PositionLemmas.{position_after, position_after-stands, after_all, caused_by_positions, due_after, due_from, due_here, only, only_used, used_from}
use Rattle.move_laws.specs.Moving.{MayWaitAfter, both_joined, both_moving, both_on_a, both_to_a, first_on_a, held, holding, leaving, reopened_with, b_to_a, on_a, joining, a_took, a_joined, both_print, bootstrap, reopened_moving}
use Rattle.move_laws.proofs.MovingLemmas.{of_b, of_name}

-- ---- accepted

-- the first placement's shards, and how they stand once a has the second
ends_there : (k : ℕ) (a b : Shard) → slice_get b_to_a.shards k ≡ Some a → slice_get on_a.shards k ≡ Some b → EndsAsNamed ((1, 0) ∷ []) k a b
ends_there zero a b is next = same_Some b a (sym next ∙ is)
ends_there (suc zero) a b is next =
    subst (λ (s : Shard). EndsAsNamed ((1, 0) ∷ []) 1 s b) (same_Some (shard_at b_to_a 1) a is)
    (joining 0 2 1, inr (inl refl), record { node = refl; from = 1; joins = (refl, refl); next_is = same_Some b (shard_at on_a 1) (sym next) })
ends_there (suc (suc k)) a b is next = cc

turned_available : IsAvailable b_to_a ((1, 0) ∷ []) on_a
turned_available = record { follows = record { version = refl; version_fits = omega arith; rf = refl; shards = record { count = refl; each = ends_there } }; instances = refl }

pub ends : (asked : Option ℕ) → IsTrue (is_covering 1 asked) → EndsMoves b_to_a (codes "a") asked ((1, 1 ∷ []) ∷ []) on_a
ends asked covers = record {
  node = 0;
  named = record { instance_ = _; stands = refl; holds = refl };
  by_shard = ascends_by (λ (x y : ℕ × List ℕ). x.0 < y.0) ((1, 1 ∷ []) ∷ []) (tt also tt);
  covered = each_in (λ (x : ℕ × List ℕ). IsTrue (is_covering x.0 asked)) ((1, 1 ∷ []) ∷ []) (covers also tt);
  joining = each_in (IsJoiningPair b_to_a.shards) ((1, 0) ∷ []) (record { shard = shard_at b_to_a 1; stands = refl; joins = (1, (joining 0 2 1, inr (inl refl), refl, (refl, refl))) } also tt);
  next = turned_available;
}

-- a bootstrap that is the only line of a run which found this placement
opened : (from : Placement) (name : List ℕ) (asked : Option ℕ) (b : Answer) → IsDueBy true [] (Some (held from)) [] (position_after [] (act.Bootstrap name asked) b) (refusal_after (Some (held from)) (position_after [] (act.Bootstrap name asked) b) [])
    → Caused true (reopened_with from (bootstrap name asked b ∷ [])) []
opened from name asked b here = caused_by_positions true [] (reopened_with from (bootstrap name asked b ∷ [])) tt refl (only (due_from true [] [] (Some (held from)) [] [] _ _ here) also tt)

pub ended-caused : Caused true (reopened_moving (a_joined ∷ [])) []
ended-caused = opened b_to_a (codes "a") None a_took (record { before = b_to_a; stands = ([], after_all [] _ _, refl); made = inl refl; room = omega arith; left = ends None refl; version_is = refl })

pub passed_over-caused : Caused true (reopened_moving (bootstrap (codes "a") None (answer.Available [] b_to_a 2) ∷ [])) []
passed_over-caused = opened b_to_a (codes "a") None (answer.Available [] b_to_a 2) (record { before = b_to_a; stands = ([], after_all [] _ _, refl); made = inl refl; room = tt; left = refl; version_is = refl })

pub of_shard-caused : Caused true (reopened_moving (bootstrap (codes "a") (Some 1) a_took ∷ [])) []
of_shard-caused = opened b_to_a (codes "a") (Some 1) a_took (record { before = b_to_a; stands = ([], after_all [] _ _, refl); made = inl refl; room = omega arith; left = ends (Some 1) refl; version_is = refl })

-- ---- refused

-- what such a bootstrap leaves
left_of : (from : Placement) (faults : List Fault) (name : List ℕ) (asked : Option ℕ) (available : List (ℕ × List ℕ)) (q : Placement) (version : ℕ)
    → refusal_after (Some (held from)) (position_after [] (act.Bootstrap name asked) (answer.Available available q version)) [] ≡ None
    → Caused true (reopened_with from (bootstrap name asked (answer.Available available q version) ∷ [])) faults → IsLeftBy from name asked available q
left_of from faults name asked available q version none caused =
    let a = act.Bootstrap name asked in
    let b = answer.Available available q version in
    let p = position_after [] a b in
    let due = due_here true faults [] (Some (held from)) (caused.delivered p) [] a b (λ e. cc) (λ e. cc) (caused.each p (position_after-stands [] a b [])) in
    let told : IsBootstrapped (Some (held from)) p name asked available q version = subst (IsDueBy true faults (Some (held from)) (caused.delivered p) p) none due in
    subst (λ x. IsLeftBy x name asked available q) (sym (used_from (Some (held from)) [] a b from told.before refl told.stands)) told.left

not_joining : Available ≢ Initializing
not_joining e = cc

not_left : Leaving ≢ Initializing
not_left e = cc

-- nobody is joining the first shard
first_stays : (node : ℕ) → ¬ IsJoiningPair b_to_a.shards (0, node)
first_stays node pair =
    let joins = pair.joins.1 in
    each_in (λ (a : Assignment). a.state ≢ Initializing) (shard_at b_to_a 0) (not_joining also tt) joins.0 (subst (λ (s : Shard). IsIn s joins.0) (sym (same_Some (shard_at b_to_a 0) pair.shard pair.stands)) joins.1) joins.3.0

-- a is joining the second
a_joins_second : (node : ℕ) → IsJoiningPair b_to_a.shards (1, node) → 0 ≡ node
a_joins_second node pair =
    let joins = pair.joins.1 in
    each_in (λ (a : Assignment). a.state ≡ Initializing → a.node ≡ node → 0 ≡ node) (shard_at b_to_a 1) ((λ state is. absurd (not_left state)) also (λ state is. is) also tt) joins.0
    (subst (λ (s : Shard). IsIn s joins.0) (sym (same_Some (shard_at b_to_a 1) pair.shard pair.stands)) joins.1) joins.3.0 joins.2

pub uncovered-refused : (faults : List Fault) → ¬ Caused true (reopened_moving (bootstrap (codes "a") (Some 0) a_took ∷ [])) faults
uncovered-refused faults caused = let bad : false ≡ true = (left_of b_to_a faults (codes "a") (Some 0) ((1, 1 ∷ []) ∷ []) on_a 3 refl caused).covered (1, 1 ∷ []) (inl refl) in cc

pub other_node-refused : (faults : List Fault) → ¬ Caused true (reopened_moving (bootstrap (codes "b") None a_took ∷ [])) faults
other_node-refused faults caused =
    let moves = left_of b_to_a faults (codes "b") None ((1, 1 ∷ []) ∷ []) on_a 3 refl caused in
    let node : 0 ≡ moves.node = a_joins_second moves.node (moves.joining (1, moves.node) (inl refl)) in
    let same : codes "a" ≡ codes "b" = of_name b_to_a (λ own. own ≡ codes "b") 0 _ refl (subst (λ n. OfNode b_to_a n (λ own. own ≡ codes "b")) (sym node) moves.named) in
    texts_differ (codes "a") (codes "b") refl refl same

pub still-refused : (faults : List Fault) (peers : List ℕ) → ¬ Caused true (life_of (begun 100 (bootstrap_c (answer.Available ((0, peers) ∷ []) place 1) ∷ []))) faults
still-refused faults peers caused =
    let a = act.Bootstrap (codes "c") None in
    let b = answer.Available ((0, peers) ∷ []) place 1 in
    let told : IsBootstrapped None (position_after (begun 100 []) a b) (codes "c") None ((0, peers) ∷ []) place 1 = due_after (begun 100 []) a b [] (λ e. cc) (λ e. cc) caused in
    let same : place ≡ told.before = only_used (begun 100 []) a b place told.before refl told.stands in
    let moves : EndsMoves place (codes "c") None ((0, peers) ∷ []) place = subst (λ x. EndsMoves x (codes "c") None ((0, peers) ∷ []) place) (sym same) told.left in
    let bad : 1 ≡ 2 = moves.next.follows.version in
    omega (arith, bad)

pub beside-refused : (faults : List Fault) (peers : List ℕ) → ¬ Caused true (reopened_moving (bootstrap (codes "a") None (answer.Available ((0, peers) ∷ (1, 1 ∷ []) ∷ []) on_a 3) ∷ [])) faults
beside-refused faults peers caused =
    let moves = left_of b_to_a faults (codes "a") None ((0, peers) ∷ (1, 1 ∷ []) ∷ []) on_a 3 refl caused in
    first_stays moves.node (moves.joining (0, moves.node) (inl refl))

pub stays-refused : (faults : List Fault) (peers : List ℕ) → ¬ Caused true (reopened_moving (bootstrap (codes "a") None (answer.Available ((1, peers) ∷ []) b_to_a 2) ∷ [])) faults
stays-refused faults peers caused = let bad : 2 ≡ 3 = (left_of b_to_a faults (codes "a") None ((1, peers) ∷ []) b_to_a 2 refl caused).next.follows.version in omega (arith, bad)

pub unprinted-refused : (faults : List Fault) → ¬ Caused true (reopened_moving (bootstrap (codes "a") None (answer.Available [] on_a 3) ∷ [])) faults
unprinted-refused faults caused = let bad : 3 ≡ 2 = ap (λ (q : Placement). q.version) (left_of b_to_a faults (codes "a") None [] on_a 3 refl caused) in omega (arith, bad)

pub twice-refused : (faults : List Fault) (peers others : List ℕ) → ¬ Caused true (reopened_moving (bootstrap (codes "a") None (answer.Available ((1, peers) ∷ (1, others) ∷ []) on_a 3) ∷ [])) faults
twice-refused faults peers others caused = let bad : 1 < 1 = (left_of b_to_a faults (codes "a") None ((1, peers) ∷ (1, others) ∷ []) on_a 3 refl caused).by_shard.0 (1, others) (inl refl) in omega (arith, bad)

pub order-refused : (faults : List Fault) (peers others : List ℕ) → ¬ Caused true (reopened_moving (bootstrap (codes "a") None (answer.Available ((1, peers) ∷ (0, others) ∷ []) on_a 3) ∷ [])) faults
order-refused faults peers others caused = let bad : 1 < 0 = (left_of b_to_a faults (codes "a") None ((1, peers) ∷ (0, others) ∷ []) on_a 3 refl caused).by_shard.0 (0, others) (inl refl) in omega (arith, bad)

pub missing-refused : (faults : List Fault) (peers others : List ℕ) → ¬ Caused true (reopened_moving (bootstrap (codes "a") None (answer.Available ((1, peers) ∷ (2, others) ∷ []) on_a 3) ∷ [])) faults
missing-refused faults peers others caused =
    let moves = left_of b_to_a faults (codes "a") None ((1, peers) ∷ (2, others) ∷ []) on_a 3 refl caused in
    let pair = moves.joining (2, moves.node) (inr (inl refl)) in
    let bad : None ≡ Some pair.shard = pair.stands in
    cc

pub other_names-refused : (faults : List Fault) → ¬ Caused true (reopened_moving (bootstrap (codes "a") None (answer.Available ((1, 1 ∷ []) ∷ []) (record on_a { instances = first_instances nodes }) 3) ∷ [])) faults
other_names-refused faults caused =
    let bad : 3 ≡ 2 = ap (λ (is : List Instance). length is) (left_of b_to_a faults (codes "a") None ((1, 1 ∷ []) ∷ []) (record on_a { instances = first_instances nodes }) 3 refl caused).next.instances in
    omega (arith, bad)

-- ---- two moves

-- how a shard stands once a has it
second_ends : (b : Shard) → Some (holding 0 2 ∷ []) ≡ Some b → Ends (leaving 1 1 ∷ joining 0 2 1 ∷ []) b 0
second_ends b next = (joining 0 2 1, inr (inl refl), record { node = refl; from = 1; joins = (refl, refl); next_is = same_Some b (holding 0 2 ∷ []) (sym next) })

both_end : (k : ℕ) (a b : Shard) → slice_get both_to_a.shards k ≡ Some a → slice_get both_on_a.shards k ≡ Some b → EndsAsNamed ((0, 0) ∷ (1, 0) ∷ []) k a b
both_end zero a b is next = subst (λ (s : Shard). Ends s b 0) (same_Some (shard_at both_to_a 0) a is) (second_ends b next)
both_end (suc zero) a b is next = subst (λ (s : Shard). Ends s b 0) (same_Some (shard_at both_to_a 1) a is) (second_ends b next)
both_end (suc (suc k)) a b is next = cc

first_ends : (k : ℕ) (a b : Shard) → slice_get both_to_a.shards k ≡ Some a → slice_get first_on_a.shards k ≡ Some b → EndsAsNamed ((0, 0) ∷ []) k a b
first_ends zero a b is next = subst (λ (s : Shard). Ends s b 0) (same_Some (shard_at both_to_a 0) a is) (second_ends b next)
first_ends (suc zero) a b is next = same_Some b a (sym next ∙ is)
first_ends (suc (suc k)) a b is next = cc

-- a is joining each of them
joining_both : (k : ℕ) → slice_get both_to_a.shards k ≡ Some (leaving 1 1 ∷ joining 0 2 1 ∷ []) → IsJoiningPair both_to_a.shards (k, 0)
joining_both k stands = record { shard = leaving 1 1 ∷ joining 0 2 1 ∷ []; stands = stands; joins = (1, (joining 0 2 1, inr (inl refl), refl, (refl, refl))) }

pub both-caused : Caused true (both_moving None ((0, 1 ∷ []) ∷ (1, 1 ∷ []) ∷ []) both_on_a) []
both-caused =
    let available : List (ℕ × List ℕ) = (0, 1 ∷ []) ∷ (1, 1 ∷ []) ∷ [] in
    opened both_to_a (codes "a") None (answer.Available available both_on_a 3) (record {
      before = both_to_a;
      stands = ([], after_all [] _ _, refl);
      made = inl refl;
      room = omega arith;
      left = record {
        node = 0;
        named = record { instance_ = _; stands = refl; holds = refl };
        by_shard = ascends_by (λ (x y : ℕ × List ℕ). x.0 < y.0) available ((omega arith also tt) also tt also tt);
        covered = each_in (λ (x : ℕ × List ℕ). IsTrue (is_covering x.0 None)) available (refl also refl also tt);
        joining = each_in (IsJoiningPair both_to_a.shards) ((0, 0) ∷ (1, 0) ∷ []) (joining_both 0 refl also joining_both 1 refl also tt);
        next = record { follows = record { version = refl; version_fits = omega arith; rf = refl; shards = record { count = refl; each = both_end } }; instances = refl };
      };
      version_is = refl;
    })

pub first-caused : Caused true (both_moving (Some 0) ((0, 1 ∷ []) ∷ []) first_on_a) []
first-caused =
    let available : List (ℕ × List ℕ) = (0, 1 ∷ []) ∷ [] in
    opened both_to_a (codes "a") (Some 0) (answer.Available available first_on_a 3) (record {
      before = both_to_a;
      stands = ([], after_all [] _ _, refl);
      made = inl refl;
      room = omega arith;
      left = record {
        node = 0;
        named = record { instance_ = _; stands = refl; holds = refl };
        by_shard = ascends_by (λ (x y : ℕ × List ℕ). x.0 < y.0) available (tt also tt);
        covered = each_in (λ (x : ℕ × List ℕ). IsTrue (is_covering x.0 (Some 0))) available (refl also tt);
        joining = each_in (IsJoiningPair both_to_a.shards) ((0, 0) ∷ []) (joining_both 0 refl also tt);
        next = record { follows = record { version = refl; version_fits = omega arith; rf = refl; shards = record { count = refl; each = first_ends } }; instances = refl };
      };
      version_is = refl;
    })

pub both_order-refused : (faults : List Fault) → ¬ Caused true (both_moving None ((1, 1 ∷ []) ∷ (0, 1 ∷ []) ∷ []) both_on_a) faults
both_order-refused faults caused = let bad : 1 < 0 = (left_of both_to_a faults (codes "a") None ((1, 1 ∷ []) ∷ (0, 1 ∷ []) ∷ []) both_on_a 3 refl caused).by_shard.0 (0, 1 ∷ []) (inl refl) in omega (arith, bad)

pub left_out-refused : (faults : List Fault) → ¬ Caused true (both_moving None ((0, 1 ∷ []) ∷ []) both_on_a) faults
left_out-refused faults caused =
    let kept : holding 0 2 ∷ [] ≡ leaving 1 1 ∷ joining 0 2 1 ∷ [] = (left_of both_to_a faults (codes "a") None ((0, 1 ∷ []) ∷ []) both_on_a 3 refl caused).next.follows.shards.each 1 (leaving 1 1 ∷ joining 0 2 1 ∷ []) (holding 0 2 ∷ []) refl refl in
    let bad : 1 ≡ 2 = ap (λ (s : Shard). length s) kept in
    omega (arith, bad)

-- ---- beside each other

abbrev first_boot : InnerTurn
first_boot = record { act = act.Bootstrap (codes "a") None; answer = answer.Available [] on_a 3 }

abbrev second_boot : InnerTurn
second_boot = record { act = act.Bootstrap (codes "b") None; answer = answer.Available [] on_a 3 }

abbrev first_worker : TurnPosition
first_worker = record { lines = []; line = both_print on_a; client = 1; earlier = []; beside = second_boot ∷ []; turn = first_boot }

pub nobody-refused : (faults : List Fault) → ¬ Caused true (reopened_moving (both_print on_a ∷ [])) faults
nobody-refused faults caused = by_answer (caused.each first_worker (record { after = []; in_run = refl; stands = record { front = []; later = []; back = (second_boot ∷ []) ∷ []; in_line = refl; others = refl; client_is = refl } }))
  where
    by_boot : IsBootstrapped (Some (held b_to_a)) first_worker (codes "a") None [] on_a 3 → ⊥
    by_boot told = elim told.made as (λ _. ⊥) [
      | inl base ↦ let same : b_to_a ≡ told.before = same_Some b_to_a told.before base in omega (arith, ap (λ (q : Placement). q.version) (same ∙ sym told.left))
      | inr t ↦ elim t.1 as (λ _. ⊥) [ inl same ↦ subst (λ (u : InnerTurn). EndsInto u.answer told.before) (sym same) t.2 | inr none ↦ none ]
    ]

    by_due : (others turns : List InnerTurn) → AreSomeOf others (second_boot ∷ []) → turns ≡ others → IsDueBy true faults (Some (held b_to_a)) (caused.delivered first_worker) first_worker (refusal_after (Some (held b_to_a)) first_worker turns) → ⊥
    by_due [] turns some are due = by_boot (subst (λ ts. IsDueBy true faults (Some (held b_to_a)) (caused.delivered first_worker) first_worker (refusal_after (Some (held b_to_a)) first_worker ts)) are due)
    by_due (x ∷ []) turns (inl own) are due =
        by_boot (subst (λ (y : InnerTurn). IsDueBy true faults (Some (held b_to_a)) (caused.delivered first_worker) first_worker (refusal_after (Some (held b_to_a)) first_worker (y ∷ []))) own.0
        (subst (λ ts. IsDueBy true faults (Some (held b_to_a)) (caused.delivered first_worker) first_worker (refusal_after (Some (held b_to_a)) first_worker ts)) are due))
    by_due (x ∷ []) turns (inr none) are due = absurd none
    by_due (x ∷ (y ∷ others)) turns (inl own) are due = absurd own.1
    by_due (x ∷ (y ∷ others)) turns (inr none) are due = absurd none

    by_answer : CausedAt true faults [] (Some (held b_to_a)) (caused.delivered first_worker) first_worker → ⊥
    by_answer (inl memory) = cc
    by_answer (inr (inl full)) = let bad = full.0 in cc
    by_answer (inr (inr due)) = by_due (due.1).others due.0 (due.1).some_of (due.1).are due.2

-- ---- waiting

pub left-waits : MayWaitAfter both_joined
left-waits told = record { instance_ = _; stands = refl; holds = refl }

pub stayed-refused : ¬ MayWaitAfter (both_print b_to_a)
stayed-refused may =
    let waits = may refl in
    let bad : false ≡ true = of_name b_to_a (λ name. (waiting_after (of_b name) (Some (held b_to_a)) (both_print b_to_a ∷ [])).waits ≡ true) 1 _ refl (record { instance_ = waits.instance_; stands = waits.stands; holds = waits.holds }) in
    cc
