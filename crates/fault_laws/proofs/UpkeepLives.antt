-- Upkeep of the three nodes: what is its answer, and what isn't.
use Rattle.std.proofs.Common.{◌≡◌, ◌≢◌, ◌<◌, ℕ, zero, suc, true, false, List, [], ◌∷◌, ◌++◌, map, refl, sym, ap, ◌∙◌, subst, inl, inr, arith}
use Rattle.std.specs.Prelude.{◌⊎◌, ◌↔◌, Option, Some, None, Result, Ok, Err, codes, option_map}
use Rattle.std.specs.List.{Any}
use Rattle.std.specs.Result.{result_ok, result_err}
use Rattle.m3_model.specs.Members.{IsIn}
use Rattle.m3_model.specs.declared.act.Act.TheVariants as act
use Rattle.m3_model.specs.declared.answer.Answer.{Answer}
use Rattle.m3_model.specs.declared.answer.Answer.TheVariants as answer
use Rattle.m3_model.specs.declared.answer.StatusLine.{StatusLine}
use Rattle.m3_model.specs.declared.placement.Assignment.{Assignment}
use Rattle.m3_model.specs.declared.placement.Placement.{Placement}
use Rattle.m3_model.specs.declared.placement.ShardState.TheVariants.{Available, Leaving}
use Rattle.m3_model.specs.declared.reason.Reason.{Reason}
use Rattle.m3_model.specs.declared.reason.Reason.TheVariants as reason
use Rattle.m3_model.specs.declared.turn.Turn.{Turn}
use Rattle.m3_model.proofs.MemberLemmas.{IsIn-map, filter_map-IsIn}
use Rattle.placement_core.specs.Shards.{nodes_of, shard_at}
use Rattle.placement_core.proofs.ListLemmas.{Any-from_IsIn, IsIn-from_Any}
use Rattle.transcripts.specs.Caused.{Caused}
use Rattle.transcripts.specs.Fates.{IsRunningAt, is_stopped}
use Rattle.transcripts.specs.Faults.{Fault}
use Rattle.transcripts.specs.Record.{TurnPosition, inner_turns}
use Rattle.transcripts.specs.Sweeps.{AreAllMembers, Entry, IsSlotBelow, IsStatus, IsSwept, IsSweptOver, MayNotKeepUp, done_in, failed_in, slot_of}
use Rattle.transcripts.proofs.SweepLemmas.{done_entry, entry_slot}
use Rattle.model_laws.specs.Building.{begun, life_of, place, position_after}
use Rattle.transcripts.specs.Waiting.{IsBegunFor, idles_after}
use Rattle.fault_laws.specs.Faulty.{c_restarted, fails}
use Rattle.fault_laws.specs.Upkeep.{a_leaving, idle_ticked, open_line, status_at, status_leaving, stopped_ticked, ticked}
use Rattle.model_laws.specs.Messages.{stopped}
use Rattle.model_laws.proofs.EachLemmas.{◌also◌, each_in}
use Rattle.model_laws.proofs.PositionLemmas.{due, due_after, only, only_used, stands_then}
use Rattle.fault_laws.proofs.BrokenFaults.{holds_of}
use Rattle.fault_laws.proofs.MessageLives.{of_node}
use Rattle.model_laws.proofs.CausedLives.{at_moment-caused, begun_caused_over, below_0_1, below_0_2, below_1_2}

abbrev before : List Turn
before = begun 100 []

abbrev here : Answer → TurnPosition
here b = position_after before act.Tick b

-- the three nodes with the only shard
abbrev three : List (ℕ × ℕ)
three = (0, 0) ∷ (1, 0) ∷ (2, 0) ∷ []

all_three : AreAllMembers place three
all_three = record {
  each = λ node shard. (to node shard, back node shard);
  in_order = (
    λ y m. elim m as (λ _. IsSlotBelow place (0, 0) y) [ inl is ↦ subst (λ (z : ℕ × ℕ). IsSlotBelow place (0, 0) z) is (inr (refl, below_0_1)) | inr n ↦ elim n as (λ _. IsSlotBelow place (0, 0) y) [ inl is ↦ subst (λ (z : ℕ × ℕ). IsSlotBelow place (0, 0) z) is (inr (refl, below_0_2)) | inr none ↦ absurd none ] ],
    (λ y m. elim m as (λ _. IsSlotBelow place (1, 0) y) [ inl is ↦ subst (λ (z : ℕ × ℕ). IsSlotBelow place (1, 0) z) is (inr (refl, below_1_2)) | inr none ↦ absurd none ], (λ y m. absurd m, tt)),
  );
}
  where
    to : (node shard : ℕ) → IsIn three (node, shard) → IsIn (nodes_of (shard_at place shard)) node
    to node shard (inl is) = subst (λ (x : ℕ × ℕ). IsIn (nodes_of (shard_at place x.1)) x.0) is (inl refl)
    to node shard (inr (inl is)) = subst (λ (x : ℕ × ℕ). IsIn (nodes_of (shard_at place x.1)) x.0) is (inr (inl refl))
    to node shard (inr (inr (inl is))) = subst (λ (x : ℕ × ℕ). IsIn (nodes_of (shard_at place x.1)) x.0) is (inr (inr (inl refl)))
    to node shard (inr (inr (inr none))) = absurd none

    back : (node shard : ℕ) → IsIn (nodes_of (shard_at place shard)) node → IsIn three (node, shard)
    back node zero (inl is) = inl (ap (λ n. (n, 0)) is)
    back node zero (inr (inl is)) = inr (inl (ap (λ n. (n, 0)) is))
    back node zero (inr (inr (inl is))) = inr (inr (inl (ap (λ n. (n, 0)) is)))
    back node zero (inr (inr (inr none))) = absurd none
    back node (suc shard) m = absurd m

-- these entries are of the placement that stands
abbrev over : (entries : List Entry) → map slot_of entries ≡ three → IsSweptOver None (here (answer.Swept (done_in entries) (failed_in entries))) (done_in entries) (failed_in entries)
over entries same = record {
  place = place;
  stands = stands_then before act.Tick (answer.Swept (done_in entries) (failed_in entries)) place refl;
  entries = entries;
  members = subst (AreAllMembers place) (sym same) all_three;
  done_are = refl;
  failed_are = refl;
}

abbrev entry : ℕ → Result ℕ Reason → Entry
entry node said = record { node = node; shard = 0; said = said }

-- each of the three nodes runs
runs : (b : Answer) → (x : ℕ × ℕ × ℕ) → IsIn {X = ℕ × ℕ × ℕ} ((0, 0, 0) ∷ (1, 0, 4) ∷ (2, 0, 0) ∷ []) x → IsRunningAt (here b) place x.0
runs b = each_in (λ (x : ℕ × ℕ × ℕ). IsRunningAt (here b) place x.0) ((0, 0, 0) ∷ (1, 0, 4) ∷ (2, 0, 0) ∷ []) (of_node _ 0 _ refl refl also of_node _ 1 _ refl refl also of_node _ 2 _ refl refl also tt)

-- and none of them was restarted
begun_all : (b : Answer) → (x : ℕ × ℕ × ℕ) → IsIn {X = ℕ × ℕ × ℕ} ((0, 0, 0) ∷ (1, 0, 4) ∷ (2, 0, 0) ∷ []) x → IsBegunFor None (here b) place x.1 x.0
begun_all b = each_in (λ (x : ℕ × ℕ × ℕ). IsBegunFor None (here b) place x.1 x.0) ((0, 0, 0) ∷ (1, 0, 4) ∷ (2, 0, 0) ∷ []) (of_node _ 0 _ refl refl also of_node _ 1 _ refl refl also of_node _ 2 _ refl refl also tt)

pub all-caused : Caused true (life_of (ticked ((0, 0, 0) ∷ (1, 0, 4) ∷ (2, 0, 0) ∷ []) [])) []
all-caused = at_moment-caused 100 act.Tick (answer.Swept ((0, 0, 0) ∷ (1, 0, 4) ∷ (2, 0, 0) ∷ []) []) (due true [] [] _ _ _ (record { over = over (entry 0 (Ok 0) ∷ entry 1 (Ok 4) ∷ entry 2 (Ok 0) ∷ []) refl; running = runs (answer.Swept ((0, 0, 0) ∷ (1, 0, 4) ∷ (2, 0, 0) ∷ []) []); begun = begun_all (answer.Swept ((0, 0, 0) ∷ (1, 0, 4) ∷ (2, 0, 0) ∷ []) []); refused = λ x m. absurd m }))

-- ---- what isn't

-- a member is listed among those that did it or those that refused
listed : (entries : List Entry) (node shard : ℕ) → IsIn (map slot_of entries) (node, shard) → ((n : ℕ) × IsIn (done_in entries) (node, shard, n)) ⊎ ((why : Reason) × IsIn (failed_in entries) (node, shard, why))
listed entries node shard m = let found = IsIn-map slot_of entries (node, shard) m in by found.0 (found.0).said refl found.1 found.2
  where
    by : (e : Entry) (said : Result ℕ Reason) → e.said ≡ said → IsIn entries e → slot_of e ≡ (node, shard) → ((n : ℕ) × IsIn (done_in entries) (node, shard, n)) ⊎ ((why : Reason) × IsIn (failed_in entries) (node, shard, why))
    by e (Ok n) is among same =
        inl (n, filter_map-IsIn (λ (x : Entry). option_map (λ k. (x.node, x.shard, k)) (result_ok x.said)) entries e (node, shard, n) among (ap (λ r. option_map (λ k. (e.node, e.shard, k)) (result_ok r)) is ∙ ap (λ (y : ℕ × ℕ). Some (y.0, y.1, n)) same))
    by e (Err why) is among same =
        inr (why, filter_map-IsIn (λ (x : Entry). option_map (λ k. (x.node, x.shard, k)) (result_err x.said)) entries e (node, shard, why) among (ap (λ r. option_map (λ k. (e.node, e.shard, k)) (result_err r)) is ∙ ap (λ (y : ℕ × ℕ). Some (y.0, y.1, why)) same))

-- a sweep that is caused is over the placement of the three nodes
told : {faults : List Fault} (done : List (ℕ × ℕ × ℕ)) (failed : List (ℕ × ℕ × Reason)) → (caused : Caused true (life_of (ticked done failed)) faults) → IsSwept true faults None (here (answer.Swept done failed)) done failed
told done failed caused = due_after before act.Tick (answer.Swept done failed) [] (λ e. cc) (λ e. cc) caused

same_place : {faults : List Fault} (done : List (ℕ × ℕ × ℕ)) (failed : List (ℕ × ℕ × Reason)) → (swept : IsSwept true faults None (here (answer.Swept done failed)) done failed) → place ≡ swept.over.place
same_place done failed swept = only_used before act.Tick (answer.Swept done failed) place swept.over.place refl swept.over.stands

pub left_out-refused : (faults : List Fault) → ¬ Caused true (life_of (ticked ((0, 0, 0) ∷ (1, 0, 4) ∷ []) [])) faults
left_out-refused faults caused =
    let swept = told ((0, 0, 0) ∷ (1, 0, 4) ∷ []) [] caused in
    let there : IsIn (nodes_of (shard_at swept.over.place 0)) 2 = subst (λ (p : Placement). IsIn (nodes_of (shard_at p 0)) 2) (same_place ((0, 0, 0) ∷ (1, 0, 4) ∷ []) [] swept) (inr (inr (inl refl))) in
    elim (listed swept.over.entries 2 0 ((swept.over.members.each 2 0).1 there)) as (λ _. ⊥) [
      | inl done ↦ not_done done.0 (subst (λ (xs : List (ℕ × ℕ × ℕ)). IsIn {X = ℕ × ℕ × ℕ} xs (2, 0, done.0)) (sym swept.over.done_are) done.1)
      | inr failed ↦ subst (λ (xs : List (ℕ × ℕ × Reason)). IsIn {X = ℕ × ℕ × Reason} xs (2, 0, failed.0)) (sym swept.over.failed_are) failed.1
    ]
  where
    not_done : (n : ℕ) → IsIn {X = ℕ × ℕ × ℕ} ((0, 0, 0) ∷ (1, 0, 4) ∷ []) (2, 0, n) → ⊥
    not_done n (inl is) = let bad : 0 ≡ 2 = ap (λ (x : ℕ × ℕ × ℕ). x.0) is in omega (arith, bad)
    not_done n (inr (inl is)) = let bad : 1 ≡ 2 = ap (λ (x : ℕ × ℕ × ℕ). x.0) is in omega (arith, bad)
    not_done n (inr (inr none)) = none

pub other-refused : (faults : List Fault) → ¬ Caused true (life_of (ticked ((0, 0, 0) ∷ (1, 0, 4) ∷ (2, 0, 0) ∷ (3, 0, 0) ∷ []) [])) faults
other-refused faults caused =
    let done : List (ℕ × ℕ × ℕ) = (0, 0, 0) ∷ (1, 0, 4) ∷ (2, 0, 0) ∷ (3, 0, 0) ∷ [] in
    let swept = told done [] caused in
    let e = done_entry swept.over.entries (3, 0, 0) (subst (λ xs. IsIn xs (3, 0, 0)) swept.over.done_are (inr (inr (inr (inl refl))))) in
    let there = (swept.over.members.each 3 0).0 (entry_slot swept.over.entries e.entry 3 0 e.among e.node_is e.shard_is) in
    not_there (subst (λ (p : Placement). IsIn (nodes_of (shard_at p 0)) 3) (sym (same_place done [] swept)) there)
  where
    not_there : IsIn (nodes_of (shard_at place 0)) 3 → ⊥
    not_there (inl is) = omega (arith, is)
    not_there (inr (inl is)) = omega (arith, is)
    not_there (inr (inr (inl is))) = omega (arith, is)
    not_there (inr (inr (inr none))) = none

-- ---- reasons

pub failed-caused : Caused true (life_of (ticked ((0, 0, 0) ∷ (1, 0, 4) ∷ []) ((2, 0, reason.Disk) ∷ []))) (fails 3 2 ∷ [])
failed-caused = begun_caused_over (fails 3 2 ∷ []) 100 _ ((λ m. m), tt) refl (only (due true (fails 3 2 ∷ []) [] _ _ _ (record { over = over (entry 0 (Ok 0) ∷ entry 1 (Ok 4) ∷ entry 2 (Err reason.Disk) ∷ []) refl; running = λ x m. runs (answer.Swept ((0, 0, 0) ∷ (1, 0, 4) ∷ []) ((2, 0, reason.Disk) ∷ [])) x (two_of x m); begun = λ x m. begun_all (answer.Swept ((0, 0, 0) ∷ (1, 0, 4) ∷ []) ((2, 0, reason.Disk) ∷ [])) x (two_of x m); refused = refused })) also tt)
  where
    two_of : (x : ℕ × ℕ × ℕ) → IsIn {X = ℕ × ℕ × ℕ} ((0, 0, 0) ∷ (1, 0, 4) ∷ []) x → IsIn {X = ℕ × ℕ × ℕ} ((0, 0, 0) ∷ (1, 0, 4) ∷ (2, 0, 0) ∷ []) x
    two_of x (inl is) = inl is
    two_of x (inr (inl is)) = inr (inl is)
    two_of x (inr (inr none)) = absurd none

    refused : (x : ℕ × ℕ × Reason) → IsIn {X = ℕ × ℕ × Reason} ((2, 0, reason.Disk) ∷ []) x → MayNotKeepUp true (fails 3 2 ∷ []) None (here (answer.Swept ((0, 0, 0) ∷ (1, 0, 4) ∷ []) ((2, 0, reason.Disk) ∷ []))) place x.1 x.0 x.2
    refused x (inl is) = subst (λ (y : ℕ × ℕ × Reason). MayNotKeepUp true (fails 3 2 ∷ []) None (here (answer.Swept ((0, 0, 0) ∷ (1, 0, 4) ∷ []) ((2, 0, reason.Disk) ∷ []))) place y.1 y.0 y.2) is (inl refl)
    refused x (inr none) = absurd none

pub other_line-refused : ¬ Caused true (life_of (ticked ((0, 0, 0) ∷ (1, 0, 4) ∷ []) ((2, 0, reason.Disk) ∷ []))) (fails 2 2 ∷ [])
other_line-refused caused = by ((told ((0, 0, 0) ∷ (1, 0, 4) ∷ []) ((2, 0, reason.Disk) ∷ []) caused).refused (2, 0, reason.Disk) (inl refl))
  where
    by : IsIn (fails 2 2 ∷ []) (fails 3 2) → ⊥
    by (inl is) = let bad : 2 ≡ 3 = ap (λ (f : Fault). f.line) is in omega (arith, bad)
    by (inr none) = none

pub cut-refused : (faults : List Fault) → ¬ Caused true (life_of (ticked ((0, 0, 0) ∷ (1, 0, 4) ∷ []) ((2, 0, reason.Cut) ∷ []))) faults
cut-refused faults caused = (told ((0, 0, 0) ∷ (1, 0, 4) ∷ []) ((2, 0, reason.Cut) ∷ []) caused).refused (2, 0, reason.Cut) (inl refl)

-- ---- a stopped node

abbrev c_stopped : List Turn
c_stopped = begun 100 (stopped (codes "c") ∷ [])

abbrev then : List (ℕ × ℕ × ℕ) → List (ℕ × ℕ × Reason) → TurnPosition
then done failed = position_after c_stopped act.Tick (answer.Swept done failed)

pub stopped_down-caused : Caused true (life_of (stopped_ticked ((0, 0, 0) ∷ (1, 0, 4) ∷ []) ((2, 0, reason.Down) ∷ []))) []
stopped_down-caused =
    begun_caused_over [] 100 _ tt refl (
    only (due true [] [] _ _ _ tt)
    also only (due true [] [] c_stopped act.Tick (answer.Swept ((0, 0, 0) ∷ (1, 0, 4) ∷ []) ((2, 0, reason.Down) ∷ [])) (record {
      over = record {
        place = place;
        stands = stands_then c_stopped act.Tick (answer.Swept ((0, 0, 0) ∷ (1, 0, 4) ∷ []) ((2, 0, reason.Down) ∷ [])) place refl;
        entries = entry 0 (Ok 0) ∷ entry 1 (Ok 4) ∷ entry 2 (Err reason.Down) ∷ [];
        members = all_three;
        done_are = refl;
        failed_are = refl;
      };
      running = each_in (λ (x : ℕ × ℕ × ℕ). IsRunningAt (then ((0, 0, 0) ∷ (1, 0, 4) ∷ []) ((2, 0, reason.Down) ∷ [])) place x.0) ((0, 0, 0) ∷ (1, 0, 4) ∷ []) (of_node _ 0 _ refl refl also of_node _ 1 _ refl refl also tt);
      begun = each_in (λ (x : ℕ × ℕ × ℕ). IsBegunFor None (then ((0, 0, 0) ∷ (1, 0, 4) ∷ []) ((2, 0, reason.Down) ∷ [])) place x.1 x.0) ((0, 0, 0) ∷ (1, 0, 4) ∷ []) (of_node _ 0 _ refl refl also of_node _ 1 _ refl refl also tt);
      refused = each_in (λ (x : ℕ × ℕ × Reason). MayNotKeepUp true [] None (then ((0, 0, 0) ∷ (1, 0, 4) ∷ []) ((2, 0, reason.Down) ∷ [])) place x.1 x.0 x.2) ((2, 0, reason.Down) ∷ []) (inl (of_node _ 2 _ refl refl) also tt);
    }))
    also tt)

pub stopped-refused : (faults : List Fault) → ¬ Caused true (life_of (stopped_ticked ((0, 0, 0) ∷ (1, 0, 4) ∷ (2, 0, 0) ∷ []) [])) faults
stopped-refused faults caused =
    let done : List (ℕ × ℕ × ℕ) = (0, 0, 0) ∷ (1, 0, 4) ∷ (2, 0, 0) ∷ [] in
    let swept : IsSwept true faults None (then done []) done [] = due_after c_stopped act.Tick (answer.Swept done []) [] (λ e. cc) (λ e. cc) caused in
    let same : place ≡ swept.over.place = only_used c_stopped act.Tick (answer.Swept done []) place swept.over.place refl swept.over.stands in
    let runs_then : IsRunningAt (then done []) place 2 = subst (λ q. IsRunningAt (then done []) q 2) (sym same) (swept.running (2, 0, 0) (inr (inr (inl refl)))) in
    let bad : true ≡ false = holds_of (λ name. is_stopped (inner_turns c_stopped) name ≡ false) 2 _ refl runs_then in
    cc

-- ---- an idle replica

abbrev c_idle : List Turn
c_idle = begun 100 (stopped (codes "c") ∷ c_restarted ∷ [])

pub idle-refused : (faults : List Fault) → ¬ Caused true (life_of (idle_ticked ((0, 0, 0) ∷ (1, 0, 4) ∷ (2, 0, 0) ∷ []) [])) faults
idle-refused faults caused =
    let done : List (ℕ × ℕ × ℕ) = (0, 0, 0) ∷ (1, 0, 4) ∷ (2, 0, 0) ∷ [] in
    let swept : IsSwept true faults None (position_after c_idle act.Tick (answer.Swept done [])) done [] = due_after c_idle act.Tick (answer.Swept done []) [] (λ e. cc) (λ e. cc) caused in
    let same : place ≡ swept.over.place = only_used c_idle act.Tick (answer.Swept done []) place swept.over.place refl swept.over.stands in
    let begun_then : IsBegunFor None (position_after c_idle act.Tick (answer.Swept done [])) place 0 2 = subst (λ q. IsBegunFor None (position_after c_idle act.Tick (answer.Swept done [])) q 0 2) (sym same) (swept.begun (2, 0, 0) (inr (inr (inl refl)))) in
    let bad : true ≡ false = holds_of (λ name. idles_after (record { shard = 0; node = 2; name = name }) None (inner_turns c_idle ++ []) ≡ false) 2 _ refl begun_then in
    cc

-- ---- status

abbrev lines : List StatusLine
lines = open_line 0 ∷ open_line 1 ∷ open_line 2 ∷ []

-- the node of the line has the shard in the state that it says
abbrev HasState : StatusLine → Type 0
HasState line = Any (λ a. (a.node ≡ line.node) × (a.state ≡ line.state)) (shard_at place line.shard)

pub now-caused : Caused true (life_of (status_at 100 1)) []
now-caused = at_moment-caused 100 act.Status (answer.Status 100 lines 1) (due true [] [] _ _ _ (record {
  place = place;
  stands = stands_then before act.Status (answer.Status 100 lines 1) place refl;
  now_is = refl;
  version_is = refl;
  members = all_three;
  states = states;
}))
  where
    states : (line : StatusLine) → IsIn lines line → HasState line
    states line (inl is) = subst HasState is (Any-from_IsIn (λ a. (a.node ≡ 0) × (a.state ≡ (open_line 0).state)) (shard_at place 0) _ (inl refl) (refl, refl))
    states line (inr (inl is)) = subst HasState is (Any-from_IsIn (λ a. (a.node ≡ 1) × (a.state ≡ (open_line 1).state)) (shard_at place 0) _ (inr (inl refl)) (refl, refl))
    states line (inr (inr (inl is))) = subst HasState is (Any-from_IsIn (λ a. (a.node ≡ 2) × (a.state ≡ (open_line 2).state)) (shard_at place 0) _ (inr (inr (inl refl))) (refl, refl))
    states line (inr (inr (inr none))) = absurd none

status_told : {faults : List Fault} (now version : ℕ) → Caused true (life_of (status_at now version)) faults → IsStatus None (position_after before act.Status (answer.Status now lines version)) now lines version
status_told now version caused = due_after before act.Status (answer.Status now lines version) [] (λ e. cc) (λ e. cc) caused

pub other_moment-refused : (faults : List Fault) → ¬ Caused true (life_of (status_at 99 1)) faults
other_moment-refused faults caused = let bad : 99 ≡ 100 = (status_told 99 1 caused).now_is in omega (arith, bad)

pub other_version-refused : (faults : List Fault) → ¬ Caused true (life_of (status_at 100 2)) faults
other_version-refused faults caused =
    let status = status_told 100 2 caused in
    let same = only_used before act.Status (answer.Status 100 lines 2) place status.place refl status.stands in
    let bad : 2 ≡ 1 = status.version_is ∙ ap (λ (p : Placement). p.version) (sym same) in
    omega (arith, bad)

pub other_state-refused : (faults : List Fault) → ¬ Caused true (life_of status_leaving) faults
other_state-refused faults caused =
    let said : List StatusLine = a_leaving ∷ open_line 1 ∷ open_line 2 ∷ [] in
    let status : IsStatus None (position_after before act.Status (answer.Status 100 said 1)) 100 said 1 = due_after before act.Status (answer.Status 100 said 1) [] (λ e. cc) (λ e. cc) caused in
    let same = only_used before act.Status (answer.Status 100 said 1) place status.place refl status.stands in
    let found = IsIn-from_Any (λ (a : Assignment). (a.node ≡ 0) × (a.state ≡ Leaving)) (shard_at place 0) (subst (λ (q : Placement). Any (λ a. (a.node ≡ 0) × (a.state ≡ Leaving)) (shard_at q 0)) (sym same) (status.states a_leaving (inl refl))) in
    each_in (λ (a : Assignment). a.state ≢ Leaving) (shard_at place 0) (available_not also available_not also available_not also tt) found.0 found.1 found.2.1
  where
    available_not : Available ≢ Leaving
    available_not e = cc
