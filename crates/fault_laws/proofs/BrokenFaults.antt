-- Why the broken transcripts with faults, restarts and bootstraps are refused.
use Rattle.std.proofs.Common.{◌≡◌, ◌≢◌, ◌∙◌, ℕ, suc, true, false, List, [], ◌∷◌, ◌++◌, length, nat_eq, refl, sym, subst, ap, inl, inr, arith}
use Rattle.std.specs.Prelude.{Some, None, pos, codes, slice_get, slice_index_or, drop, decimal, IsTrue}
use Rattle.std.specs.List.{list_any}
use Rattle.std.proofs.lemmas.Option.{same_Some}
use Rattle.transcripts.specs.Caused.{Caused, IsUnmade, OnDisk, InFiles}
use Rattle.transcripts.specs.Levels.{IsAcked, MissesLevel}
use Rattle.transcripts.specs.Reasons.{MayRefuse, IsShown}
use Rattle.transcripts.specs.Placements.{MayUse, placement_after, has_replica, HadReplica, seed_at}
use Rattle.transcripts.specs.Faults.{Fault, is_restart, Failing, Damaged}
use Rattle.transcripts.specs.Waiting.{IsBegunFor, idles_after, waiting_after}
use Rattle.transcripts.specs.Fates.{OfNode, is_stopped}
use Rattle.m3_model.specs.Hash.{shard_of}
use Rattle.m3_model.specs.Levels.{needed_write}
use Rattle.transcripts.specs.Record.{Life, inner_turns}
use Rattle.m3_model.specs.declared.act.Act.TheVariants as act
use Rattle.m3_model.specs.declared.act.WriteLevel.TheVariants as write_level
use Rattle.m3_model.specs.declared.answer.Answer.TheVariants as answer
use Rattle.m3_model.specs.declared.placement.Instance.{Instance}
use Rattle.m3_model.specs.declared.placement.Placement.{Placement}
use Rattle.placement_core.specs.Shards.{Shard, nodes_of}
use Rattle.placement_plan.specs.First.{first_instances}
use Rattle.m3_model.specs.declared.reason.Damage as damage_of
use Rattle.m3_model.specs.declared.reason.Damage.TheVariants as damaged
use Rattle.m3_model.specs.declared.reason.Reason.{Reason}
use Rattle.m3_model.specs.declared.reason.Reason.TheVariants as reason
use Rattle.m3_model.specs.declared.turn.Turn.{Turn}
use Rattle.model_laws.specs.Building.{acks, begun, life_of, line, nodes, place}
use Rattle.model_laws.specs.Messages.{stopped}
use Rattle.fault_laws.specs.Faulty.{fails, untaken, write_all, all_but_c, without_c, c_restarted, c_bootstrapped, down_restarted, boot_bootstrapped, boot_covered, disk_at_once, corrupt_at_once, restart_failed, init_failed, bootstrapped_stopped, bootstrapped_missing, restarted_running, damaged_boot, back_again, no_shard_restarted, no_shard_made, idle_acked, other_asked}
use Rattle.model_laws.proofs.EachLemmas.{texts_differ}
use Rattle.model_laws.proofs.PositionLemmas.{position_after, due_after, only_used}
use Rattle.model_laws.proofs.SampleLemmas.{call_with, of_shard}

-- what is so of the name of a node that is known
pub holds_of : (Holds : List ℕ → Type 0) (node : ℕ) (one : Instance) → slice_get place.instances node ≡ Some one → OfNode place node Holds → Holds one.name
holds_of Holds node one stood fact = subst (λ (i : Instance). Holds i.name) (same_Some fact.instance_ one (sym fact.stands ∙ stood)) fact.holds

-- why c may have refused the write that all have to take
pub c_may : {faults : List Fault} (lines : List Turn) (why : Reason) → placement_after None (inner_turns lines) ≡ Some place → MissesLevel true faults None (position_after lines (write_all 100 (pos 5)) (all_but_c why)) 2 3 ((2, why) ∷ []) 0
    → MayRefuse true faults None (position_after lines (write_all 100 (pos 5)) (all_but_c why)) place 0 2 why
c_may {faults = faults} lines why stood due =
    let p = position_after lines (write_all 100 (pos 5)) (all_but_c why) in
    let known : call_with (needed_write write_level.All) ≡ due.call = same_Some (call_with (needed_write write_level.All)) due.call due.of_act in
    let used : MayUse None p None due.place = subst (λ call. MayUse None p call.version due.place) (sym known) due.may_use in
    let same : place ≡ due.place = only_used lines (write_all 100 (pos 5)) (all_but_c why) place due.place stood used in
    subst (λ x. MayRefuse true faults None p x 0 2 why) (sym same) (due.silent.refused (2, why) (inl refl))

pub down_restarted-refused : ¬ Caused true (life_of down_restarted) (fails 3 2 ∷ [])
down_restarted-refused caused =
    let lines = begun 100 (without_c reason.Disk ∷ stopped (codes "c") ∷ c_restarted ∷ []) in
    elim (c_may lines reason.Down refl (due_after lines (write_all 100 (pos 5)) (all_but_c reason.Down) [] (λ e. cc) (λ e. cc) caused)) as (λ _. ⊥) [
      | inl stops ↦ let bad : false ≡ true = holds_of (λ name. is_stopped (inner_turns lines) name ≡ true) 2 _ refl stops in cc
      | inr closed ↦ elim closed.among as (λ _. ⊥) [
        | inl e ↦
            let bad : true ≡ false = holds_of (λ name. list_any (is_restart name) (inner_turns (drop 4 lines)) ≡ false) 2 _ refl
            (subst (λ (f : Fault). OfNode place 2 (λ name. list_any (is_restart name) (inner_turns (drop (suc f.line) lines)) ≡ false)) (sym e) closed.not_restarted) in
            cc
        | inr none ↦ absurd none
      ]
    ]

pub boot_bootstrapped-refused : (faults : List Fault) → ¬ Caused true (life_of boot_bootstrapped) faults
boot_bootstrapped-refused faults caused =
    let lines = begun 100 (stopped (codes "c") ∷ c_restarted ∷ c_bootstrapped ∷ []) in
    let bad : false ≡ true = holds_of (λ name. (waiting_after (of_shard 2 name) None lines).waits ≡ true) 2 _ refl (c_may lines reason.Boot refl (due_after lines (write_all 100 (pos 5)) (all_but_c reason.Boot) [] (λ e. cc) (λ e. cc) caused) refl) in
    cc

pub boot_covered-refused : (faults : List Fault) → ¬ Caused true (life_of boot_covered) faults
boot_covered-refused faults caused =
    let lines = begun 100 (stopped (codes "c") ∷ c_restarted ∷ line (act.Bootstrap (codes "c") (Some 0)) (answer.Available [] place 1) ∷ []) in
    let bad : false ≡ true = holds_of (λ name. (waiting_after (of_shard 2 name) None lines).waits ≡ true) 2 _ refl (c_may lines reason.Boot refl (due_after lines (write_all 100 (pos 5)) (all_but_c reason.Boot) [] (λ e. cc) (λ e. cc) caused) refl) in
    cc

-- the fault of c in line 3 is the one that is listed
pub is_listed : (fault : Fault) → Caused true (life_of disk_at_once) (fault ∷ []) → fault ≡ fails 3 2
is_listed fault caused =
    let lines = begun 100 [] in
    elim (c_may lines reason.Disk refl (due_after lines (write_all 100 (pos 5)) (all_but_c reason.Disk) [] (λ e. cc) (λ e. cc) caused)) as (λ _. fault ≡ fails 3 2) [ inl e ↦ e | inr none ↦ absurd none ]

pub other_node-refused : ¬ Caused true (life_of disk_at_once) (fails 3 1 ∷ [])
other_node-refused caused = let bad : 1 ≡ 2 = ap (λ (f : Fault). f.node) (is_listed (fails 3 1) caused) in omega (arith, bad)

pub other_line-refused : ¬ Caused true (life_of disk_at_once) (fails 2 2 ∷ [])
other_line-refused caused = let bad : 2 ≡ 3 = ap (λ (f : Fault). f.line) (is_listed (fails 2 2) caused) in omega (arith, bad)

-- the failed restart's fault is that of c in line 4
pub other_restart-refused : ¬ Caused true (life_of restart_failed) (fails 3 2 ∷ [])
other_restart-refused caused =
    let lines = begun 100 (stopped (codes "c") ∷ []) in
    let due : OnDisk (fails 3 2 ∷ []) None (position_after lines (act.Restart (codes "c") 0) (answer.Disk (codes "c") 0)) (HadReplica None (inner_turns lines) 0) (codes "c") 0 = (due_after lines (act.Restart (codes "c") 0) (answer.Disk (codes "c") 0) _ (λ e. cc) (λ e. cc) caused).1 in
    elim due.3 as (λ _. ⊥) [ inl e ↦ let bad : 3 ≡ 4 = ap (λ (f : Fault). f.line) e in omega (arith, bad) | inr none ↦ absurd none ]

-- the failed init's fault is that of the node that it names
pub other_init-refused : ¬ Caused true (life_of init_failed) (untaken 0 0 ∷ [])
other_init-refused caused =
    let due : IsUnmade (untaken 0 0 ∷ []) None (position_after [] (act.Init 3 1 0 nodes) (answer.Disk (codes "b") 0)) 3 1 nodes (codes "b") 0 = due_after [] (act.Init 3 1 0 nodes) (answer.Disk (codes "b") 0) _ (λ e. cc) (λ e. cc) caused in
    elim due.2.untaken as (λ _. ⊥) [ inl e ↦ not_b due.1.instances (subst (λ node. OfNode due.0 node (λ own. own ≡ codes "b")) (sym (ap (λ (f : Fault). f.node) e)) due.2.named) | inr none ↦ absurd none ]
  where
    not_b : {planned : Placement} → planned.instances ≡ first_instances nodes → OfNode planned 0 (λ own. own ≡ codes "b") → ⊥
    not_b is named =
        let a : Some (record { name = codes "a"; group = codes "g1"; listed = true; drained = false }) ≡ Some named.instance_ = subst (λ l. slice_get l 0 ≡ Some named.instance_) is named.stands in
        texts_differ (codes "a") (codes "b") refl refl (ap (λ (i : Instance). i.name) (same_Some _ named.instance_ a) ∙ named.holds)

-- a failed disk is no damage
not_damage : Failing ≢ Damaged
not_damage e = cc

pub corrupt-refused : (damage : damage_of.Damage) → ¬ Caused true (life_of (corrupt_at_once damage)) (fails 3 2 ∷ [])
corrupt-refused damage caused =
    let lines = begun 100 [] in
    elim (c_may lines (reason.Corrupt damage) refl (due_after lines (write_all 100 (pos 5)) (all_but_c (reason.Corrupt damage)) [] (λ e. cc) (λ e. cc) caused)).0 as (λ _. ⊥) [
      | inl e ↦ not_damage (ap (λ (f : Fault). f.kind) e)
      | inr none ↦ absurd none
    ]

pub equal_digests-refused : (file digest : List ℕ) (faults : List Fault) → ¬ Caused true (life_of (damaged_boot (damaged.Digest file digest digest))) faults
equal_digests-refused file digest faults caused =
    let b = answer.Corrupt (codes "c") 0 (damaged.Digest file digest digest) in
    let due : (codes "c" ≡ codes "c") × IsTrue true × InFiles faults None (position_after back_again (act.Bootstrap (codes "c") None) b) (λ node. IsTrue (has_replica (placement_after None (inner_turns back_again)) 0 node)) (codes "c") 0 × IsShown (damaged.Digest file digest digest) =
    due_after back_again (act.Bootstrap (codes "c") None) b _ (λ e. cc) (λ e. cc) caused in
    due.3 refl

pub no_shard_restarted-refused : (faults : List Fault) → ¬ Caused true (life_of no_shard_restarted) faults
no_shard_restarted-refused faults caused =
    let lines = begun 100 (stopped (codes "c") ∷ []) in
    let due : OnDisk faults None (position_after lines (act.Restart (codes "c") 0) (answer.Disk (codes "c") 1)) (HadReplica None (inner_turns lines) 1) (codes "c") 1 = (due_after lines (act.Restart (codes "c") 0) (answer.Disk (codes "c") 1) _ (λ e. cc) (λ e. cc) caused).1 in
    elim due.2.known as (λ _. ⊥) [
      | inl same ↦ let bad : has_replica (Some place) 1 due.0 ≡ true = subst (λ x. has_replica (Some x) 1 due.0 ≡ true) (sym same) due.2.member in cc
      | inr none ↦ absurd none
    ]

-- a placement of one shard has no second one
none_behind : (shards : List Shard) → length shards ≡ 1 → slice_index_or shards 1 [] ≡ []
none_behind [] e = refl
none_behind (shard ∷ []) e = refl
none_behind (shard ∷ other ∷ shards) e = absurd (omega (arith, e))

pub no_shard_made-refused : (faults : List Fault) → ¬ Caused true (life_of no_shard_made) faults
no_shard_made-refused faults caused =
    let due : IsUnmade faults None (position_after [] (act.Init 3 1 0 nodes) (answer.Disk (codes "b") 1)) 3 1 nodes (codes "b") 1 = due_after [] (act.Init 3 1 0 nodes) (answer.Disk (codes "b") 1) _ (λ e. cc) (λ e. cc) caused in
    let bad : false ≡ true = subst (λ shard. list_any (nat_eq due.2.node) (nodes_of shard) ≡ true) (none_behind due.0.shards due.1.count) due.2.member in
    cc

pub twice-refused : (life : Life) (fault : Fault) → ¬ Caused true life (fault ∷ fault ∷ [])
twice-refused life fault caused = caused.different.0 (inl refl)

pub bootstrapped_stopped-refused : (faults : List Fault) → ¬ Caused true (life_of bootstrapped_stopped) faults
bootstrapped_stopped-refused faults caused =
    let due : answer.Available [] place 1 ≡ answer.State (codes "c") = due_after (begun 100 (stopped (codes "c") ∷ [])) (act.Bootstrap (codes "c") None) (answer.Available [] place 1) [] (λ e. cc) (λ e. cc) caused in
    cc

pub bootstrapped_missing-refused : (faults : List Fault) → ¬ Caused true (life_of bootstrapped_missing) faults
bootstrapped_missing-refused faults caused =
    let due : answer.Available [] place 1 ≡ answer.Unknown (decimal 1) = due_after (begun 100 []) (act.Bootstrap (codes "c") (Some 1)) (answer.Available [] place 1) [] (λ e. cc) (λ e. cc) caused in
    cc

pub restarted_running-refused : (faults : List Fault) → ¬ Caused true (life_of restarted_running) faults
restarted_running-refused faults caused =
    let due : answer.Done ≡ answer.State (codes "c") = due_after (begun 100 []) (act.Restart (codes "c") 0) answer.Done [] (λ e. cc) (λ e. cc) caused in
    cc

-- c is one of the three that took the write after these lines: of its replica no bootstrap is wanted
c_begun : (lines : List Turn) → placement_after None (inner_turns lines) ≡ Some place → IsAcked None (position_after lines (write_all 100 (pos 5)) (acks (0 ∷ 1 ∷ 2 ∷ []))) (codes "hello") write_level.All None (0 ∷ 1 ∷ 2 ∷ [])
    → (shard : ℕ) × IsBegunFor None (position_after lines (write_all 100 (pos 5)) (acks (0 ∷ 1 ∷ 2 ∷ []))) place shard 2
c_begun lines stood due =
    let p = position_after lines (write_all 100 (pos 5)) (acks (0 ∷ 1 ∷ 2 ∷ [])) in
    let same : place ≡ due.place = only_used lines (write_all 100 (pos 5)) (acks (0 ∷ 1 ∷ 2 ∷ [])) place due.place stood due.may_use in
    let shard = shard_of (codes "hello") (seed_at None p) (length due.place.shards) in
    (shard, subst (λ q. IsBegunFor None p q shard 2) (sym same) (due.begun shard refl 2 (inr (inr (inl refl)))))

pub idle-refused : (faults : List Fault) → ¬ Caused true (life_of idle_acked) faults
idle-refused faults caused =
    let lines = begun 100 (stopped (codes "c") ∷ c_restarted ∷ []) in
    let is = c_begun lines refl (due_after lines (write_all 100 (pos 5)) (acks (0 ∷ 1 ∷ 2 ∷ [])) [] (λ e. cc) (λ e. cc) caused) in
    let bad : true ≡ false = holds_of (λ name. idles_after (record { shard = is.0; node = 2; name = name }) None (inner_turns lines ++ []) ≡ false) 2 _ refl is.1 in
    cc

pub other_asked-refused : (faults : List Fault) → ¬ Caused true (life_of other_asked) faults
other_asked-refused faults caused =
    let lines = begun 100 (c_bootstrapped ∷ stopped (codes "c") ∷ c_restarted ∷ line (act.Bootstrap (codes "b") None) (answer.Available [] place 1) ∷ []) in
    let is = c_begun lines refl (due_after lines (write_all 100 (pos 5)) (acks (0 ∷ 1 ∷ 2 ∷ [])) [] (λ e. cc) (λ e. cc) caused) in
    let bad : true ≡ false = holds_of (λ name. idles_after (record { shard = is.0; node = 2; name = name }) None (inner_turns lines ++ []) ≡ false) 2 _ refl is.1 in
    cc
