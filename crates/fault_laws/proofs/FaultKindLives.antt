-- What each kind of fault excuses.
use Rattle.std.proofs.Common.{◌≡◌, ◌≢◌, ◌<◌, ◌≤◌, ◌∙◌, ℕ, suc, Bool, true, false, List, [], ◌∷◌, take, refl, sym, subst, ap, inl, inr, arith}
use Rattle.std.specs.Prelude.{None, pos, codes, IsTrue, ◌⊎◌}
use Rattle.m3_model.specs.Members.{IsIn}
use Rattle.m3_model.specs.Levels.{needed_write}
use Rattle.transcripts.specs.Caused.{Caused, OnDisk}
use Rattle.transcripts.specs.Faults.{Fault, FaultKind, Taking, Failing, IsClosedByFault, closes}
use Rattle.transcripts.specs.Faults as faults_of
use Rattle.transcripts.specs.Fates.{is_stopped}
use Rattle.transcripts.specs.Levels.{MissesLevel}
use Rattle.transcripts.specs.Placements.{HadReplica}
use Rattle.transcripts.specs.Record.{inner_turns}
use Rattle.m3_model.specs.declared.act.Act.TheVariants as act
use Rattle.m3_model.specs.declared.act.WriteLevel.TheVariants as write_level
use Rattle.m3_model.specs.declared.answer.Answer.TheVariants as answer
use Rattle.m3_model.specs.declared.reason.Reason.TheVariants as reason
use Rattle.m3_model.specs.declared.turn.Turn.{Turn}
use Rattle.model_laws.specs.Building.{begun, life_of, init, made, named, moved, nodes, place, write, unmet}
use Rattle.model_laws.specs.Messages.{stopped}
use Rattle.fault_laws.specs.Faulty.{fails, untaken, damages, write_all, all_but_c, two_failed, c_down, made_then_down, disk_at_once, init_failed, restart_failed}
use Rattle.model_laws.proofs.EachLemmas.{◌also◌}
use Rattle.model_laws.proofs.PositionLemmas.{caused_by_positions, position_after, due, due_after, only}
use Rattle.model_laws.proofs.CausedLives.{begun_caused_over, first_moment_after, first_placement, counted_0, counted_2, below_0_2}
use Rattle.fault_laws.proofs.MessageLives.{of_node, unmet_when, takes_near}
use Rattle.fault_laws.proofs.FaultLives.{c_had, c_missed, takes_all}
use Rattle.fault_laws.proofs.BrokenFaults.{c_may, holds_of, is_listed}

-- ---- one fault for two

other_nodes : fails 3 0 ≢ fails 3 2
other_nodes e = let bad : 0 ≡ 2 = ap (λ (f : Fault). f.node) e in omega (arith, bad)

pub two-caused : Caused true (life_of two_failed) (fails 3 0 ∷ fails 3 2 ∷ [])
two-caused =
    begun_caused_over _ 100 _ ((λ h. elim h as (λ _. ⊥) [ inl e ↦ other_nodes (sym e) | inr none ↦ none ]), ((λ none. none), tt)) refl (
    only (due true (fails 3 0 ∷ fails 3 2 ∷ []) [] _ _ _ (unmet_when _ (needed_write write_level.Majority) 1 _ refl refl refl refl (omega arith) refl (counted_0 also counted_2 also tt) ((below_0_2 also tt) also tt also tt)
    ((λ quiet. inl refl) also (λ quiet. let bad : true ≡ false = quiet in cc) also (λ quiet. inr (inl refl)) also tt) (inl refl also inr (inl refl) also tt) (λ some. takes_near 100 (pos 5) (omega arith) (omega arith))))
    also tt)

pub two-both : {tells : Bool} (faults : List Fault) → Caused tells (life_of two_failed) faults → IsIn faults (fails 3 0) × IsIn faults (fails 3 2)
two-both {tells} faults caused =
    let b = unmet 1 ((0, reason.Disk) ∷ (2, reason.Disk) ∷ []) in
    let missed : MissesLevel tells faults None (position_after (begun 100 []) (write 100 (pos 5)) b) 1 2 ((0, reason.Disk) ∷ (2, reason.Disk) ∷ []) 0 = due_after (begun 100 []) (write 100 (pos 5)) b [] (λ e. cc) (λ e. cc) caused in
    (missed.silent.refused (0, reason.Disk) (inl refl), missed.silent.refused (2, reason.Disk) (inr (inl refl)))

pub one-refused : {tells : Bool} (fault : Fault) → ¬ Caused tells (life_of two_failed) (fault ∷ [])
one-refused fault caused =
    let both = two-both (fault ∷ []) caused in
    elim both.0 as (λ _. ⊥) [ inr none ↦ none | inl first ↦ elim both.1 as (λ _. ⊥) [ inr none ↦ none | inl second ↦ other_nodes (sym first ∙ second) ] ]

-- the kinds are three
taking_fails : Taking ≢ Failing
taking_fails e = cc

damage_fails : faults_of.Damaged ≢ Failing
damage_fails e = cc

pub taking-refused : (line : ℕ) → ¬ Caused true (life_of two_failed) (untaken line 2 ∷ fails 3 0 ∷ [])
taking-refused line caused =
    elim (two-both (untaken line 2 ∷ fails 3 0 ∷ []) caused).1 as (λ _. ⊥) [
      | inl e ↦ taking_fails (ap (λ (f : Fault). f.kind) e)
      | inr more ↦ elim more as (λ _. ⊥) [ inl e ↦ other_nodes e | inr none ↦ none ]
    ]

-- ---- closed

closed_by : (fault : Fault) (lines : ℕ) → Caused true (life_of c_down) (fault ∷ []) → IsClosedByFault (fault ∷ []) None (position_after (begun 100 []) (write_all 100 (pos 5)) (all_but_c reason.Down)) place 0 2
closed_by fault lines caused =
    elim (c_may (begun 100 []) reason.Down refl (due_after (begun 100 []) (write_all 100 (pos 5)) (all_but_c reason.Down) [] (λ e. cc) (λ e. cc) caused)) as (λ _. IsClosedByFault (fault ∷ []) None (position_after (begun 100 []) (write_all 100 (pos 5)) (all_but_c reason.Down)) place 0 2) [
      | inl stops ↦ let bad : false ≡ true = holds_of (λ name. is_stopped (inner_turns (begun 100 [])) name ≡ true) 2 _ refl stops in cc
      | inr closed ↦ closed
    ]

-- the only fault is the one that closed it
closing : (fault : Fault) (P : Fault → Type 0) → Caused true (life_of c_down) (fault ∷ []) → ((f : Fault) → IsTrue (closes f.kind) → f.node ≡ 2 → f.line ≤ 3 → P f) → P fault
closing fault P caused all =
    let closed = closed_by fault 3 caused in
    elim closed.among as (λ _. P fault) [ inl e ↦ subst P (sym e) (all closed.fault closed.closing closed.of_node closed.not_later) | inr none ↦ absurd none ]

pub untaken-refused : (line : ℕ) → ¬ Caused true (life_of c_down) (untaken line 2 ∷ [])
untaken-refused line caused = let shuts : false ≡ true = closing (untaken line 2) (λ f. IsTrue (closes f.kind)) caused (λ f shut of_node not_later. shut) in cc

pub other-refused : (line : ℕ) → ¬ Caused true (life_of c_down) (fails line 1 ∷ [])
other-refused line caused = let bad : 1 ≡ 2 = closing (fails line 1) (λ f. f.node ≡ 2) caused (λ f shut of_node not_later. of_node) in omega (arith, bad)

pub later-refused : ¬ Caused true (life_of c_down) (fails 4 2 ∷ [])
later-refused caused = let bad : 4 ≤ 3 = closing (fails 4 2) (λ f. f.line ≤ 3) caused (λ f shut of_node not_later. not_later) in omega (arith, bad)

pub at_once-caused : Caused true (life_of c_down) (fails 3 2 ∷ [])
at_once-caused =
    begun_caused_over _ 100 _ ((λ none. none), tt) refl (
    only (due true (fails 3 2 ∷ []) [] _ _ _ (c_missed _ _ refl refl refl refl refl takes_all (inr (record { fault = fails 3 2; among = inl refl; of_node = refl; of_shard = refl; closing = refl; not_later = omega arith; was_there = λ before. c_had (inl refl); not_restarted = of_node _ 2 _ refl refl }))))
    also tt)

pub earlier-caused : Caused true (life_of c_down) (fails 1 2 ∷ [])
earlier-caused =
    begun_caused_over _ 100 _ ((λ none. none), tt) refl (
    only (due true (fails 1 2 ∷ []) [] _ _ _ (c_missed _ _ refl refl refl refl refl takes_all (inr (record { fault = fails 1 2; among = inl refl; of_node = refl; of_shard = refl; closing = refl; not_later = omega arith; was_there = λ before. c_had (inl refl); not_restarted = of_node _ 2 _ refl refl }))))
    also tt)

pub damaged-caused : Caused true (life_of c_down) (damages 1 2 ∷ [])
damaged-caused =
    begun_caused_over _ 100 _ ((λ none. none), tt) refl (
    only (due true (damages 1 2 ∷ []) [] _ _ _ (c_missed _ _ refl refl refl refl refl takes_all (inr (record { fault = damages 1 2; among = inl refl; of_node = refl; of_shard = refl; closing = refl; not_later = omega arith; was_there = λ before. c_had (inl refl); not_restarted = of_node _ 2 _ refl refl }))))
    also tt)

-- ---- before the cluster was made

-- the lines before the write
abbrev made_second : List Turn
made_second = init (answer.Disk (codes "c") 0) ∷ made ∷ named ∷ moved 100 ∷ []

pub after-caused : Caused true (life_of made_then_down) (untaken 0 2 ∷ fails 1 2 ∷ [])
after-caused =
    let faults : List Fault = untaken 0 2 ∷ fails 1 2 ∷ [] in
    caused_by_positions true faults (life_of made_then_down) ((λ h. elim h as (λ _. ⊥) [ inl e ↦ taking_fails (sym (ap (λ (f : Fault). f.kind) e)) | inr none ↦ none ]), ((λ none. none), tt)) refl (
    only (due true faults [] _ _ _ (place, first_placement, record { node = 2; named = of_node _ 2 _ refl refl; member = refl; is_new = λ had. had.known; untaken = inl refl }))
    also only (due true faults [] _ _ _ (first_placement, refl))
    also only (due true faults [] _ _ _ tt)
    also only (first_moment_after faults [] (init (answer.Disk (codes "c") 0) ∷ made ∷ named ∷ []) 100 refl)
    also only (due true faults [] _ _ _ (c_missed _ _ refl refl refl refl refl takes_all (inr (record { fault = fails 1 2; among = inr (inl refl); of_node = refl; of_shard = refl; closing = refl; not_later = omega arith; was_there = λ before. c_had (inl refl); not_restarted = of_node _ 2 _ refl refl }))))
    also tt)

-- a fault that closes c isn't that of the first line
not_before : (faults : List Fault) (fault : Fault) → (fault ≡ fails 0 2) ⊎ (fault ≡ untaken 0 2) → IsTrue (closes fault.kind) → (fault.line < 4 → HadReplica None (inner_turns (take (suc fault.line) made_second)) 0 2) → ⊥
not_before faults fault known shuts was_there =
    elim known as (λ _. ⊥) [
      | inl e ↦ let had : HadReplica None (inner_turns (take 1 made_second)) 0 2 = subst (λ (f : Fault). f.line < 4 → HadReplica None (inner_turns (take (suc f.line) made_second)) 0 2) e was_there (omega arith) in had.known
      | inr e ↦ let bad : false ≡ true = subst (λ (f : Fault). IsTrue (closes f.kind)) e shuts in cc
    ]

pub before-refused : ¬ Caused true (life_of made_then_down) (untaken 0 2 ∷ fails 0 2 ∷ [])
before-refused caused =
    elim (c_may made_second reason.Down refl (due_after made_second (write_all 100 (pos 5)) (all_but_c reason.Down) [] (λ e. cc) (λ e. cc) caused)) as (λ _. ⊥) [
      | inl stops ↦ let bad : false ≡ true = holds_of (λ name. is_stopped (inner_turns made_second) name ≡ true) 2 _ refl stops in cc
      | inr closed ↦ elim closed.among as (λ _. ⊥) [
        | inl e ↦ not_before [] closed.fault (inr (sym e)) closed.closing closed.was_there
        | inr more ↦ elim more as (λ _. ⊥) [ inl e ↦ not_before [] closed.fault (inl (sym e)) closed.closing closed.was_there | inr none ↦ none ]
      ]
    ]

-- ---- other kinds

pub untaken_write-refused : ¬ Caused true (life_of disk_at_once) (untaken 3 2 ∷ [])
untaken_write-refused caused = taking_fails (ap (λ (f : Fault). f.kind) (is_listed (untaken 3 2) caused))

pub damaged_write-refused : ¬ Caused true (life_of disk_at_once) (damages 3 2 ∷ [])
damaged_write-refused caused = damage_fails (ap (λ (f : Fault). f.kind) (is_listed (damages 3 2) caused))

pub untaken_restart-refused : ¬ Caused true (life_of restart_failed) (untaken 4 2 ∷ [])
untaken_restart-refused caused =
    let lines = begun 100 (stopped (codes "c") ∷ []) in
    let on_disk : OnDisk (untaken 4 2 ∷ []) None (position_after lines (act.Restart (codes "c") 0) (answer.Disk (codes "c") 0)) (HadReplica None (inner_turns lines) 0) (codes "c") 0 = (due_after lines (act.Restart (codes "c") 0) (answer.Disk (codes "c") 0) _ (λ e. cc) (λ e. cc) caused).1 in
    elim on_disk.3 as (λ _. ⊥) [ inl e ↦ taking_fails (ap (λ (f : Fault). f.kind) e) | inr none ↦ absurd none ]

pub failed_init-refused : ¬ Caused true (life_of init_failed) (fails 0 1 ∷ [])
failed_init-refused caused =
    elim (due_after [] (act.Init 3 1 0 nodes) (answer.Disk (codes "b") 0) _ (λ e. cc) (λ e. cc) caused).2.untaken as (λ _. ⊥) [ inl e ↦ taking_fails (sym (ap (λ (f : Fault). f.kind) e)) | inr none ↦ absurd none ]
