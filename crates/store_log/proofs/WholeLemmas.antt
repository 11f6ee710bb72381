-- What comes to files as a whole, or not at all.
use Rattle.std.proofs.Common.{◌≡◌, ◌⊎◌, inl, inr, ⊎_elim, ℕ, ◌+◌, max, true, List, [], ◌∷◌, ◌++◌, refl, sym, ap, subst, ◌∙◌, arith, Result, Ok, Err}
use Rattle.std.specs.Prelude.{OnOk, OnErr}
use Rattle.std.specs.FinMap.{get}
use Rattle.m3_model.specs.Members.{IsIn}
use Rattle.m3_model.specs.declared.point.Point.{Point}
use Rattle.m3_outside.specs.Causes.{CountsFaults}
use Rattle.m3_outside.specs.DiskCalls.{LeavesFiles}
use Rattle.m3_outside.specs.DiskState.{DiskState, Elapses, IsLawfulDisk, StepOf}
use Rattle.m3_outside.specs.Files.{Files}
use Rattle.m3_outside.specs.declared.file_name.FileName.{FileName}
use Rattle.m3_outside.proofs.Moments.{elapses_as, elapses_then, step_as}
use Rattle.joined_reads.specs.listed_volumes.commit_log.LogEnd.{LogEnd, LogEndStands, NoneAbove}
use Rattle.joined_reads.specs.listed_volumes.commit_log.Segment.{MayAdd, segment}
use Rattle.joined_reads.specs.listed_volumes.shard_files.Entries.{IsEntry}
use Rattle.joined_reads.specs.listed_volumes.shard_files.FilesHold.{FilesHold}
use Rattle.joined_reads.specs.listed_volumes.shard_files.Gains.{Gain, Gains, Grows, HoldsAll, MayGain, nothing}
use Rattle.joined_reads.specs.listed_volumes.shard_files.HeldEntries.{HoldsEntries}
use Rattle.joined_reads.specs.listed_volumes.shard_files.LogSteps.{gain_in}
use Rattle.joined_reads.specs.listed_volumes.shard_files.declared.entries.LogEntry.{LogEntry}
use Rattle.joined_reads.proofs.listed_volumes_proofs.shard_files_proofs.FilesHoldLemmas.{append_keeps_others, more_log, nothing_log}
use Rattle.joined_reads.proofs.listed_volumes_proofs.shard_files_proofs.GainLemmas.{all_is_part, gains_nothing, nothing_is_part, nothing_then_all}
use Rattle.joined_reads.proofs.listed_volumes_proofs.shard_files_proofs.HeldLemmas.{may_add_entry}
use Rattle.store_log.specs.Whole.{BringsWhole, GainsOrNot, of_points}
use Rattle.store_log.proofs.LogStepLemmas.{above_all, counts_both, counts_for, counts_same, elapses_same}

-- an entry that may have been added
pub entry_or_not : (e : LogEntry) (bytes : List ℕ) (number : ℕ) (x y : Files) → IsEntry bytes e → NoneAbove number x → MayAdd (segment number) bytes x y → GainsOrNot (gain_in e) x y
entry_or_not e bytes number x y is above may = record {
  held = λ before tenure fence held.
      ⊎_elim (λ (log : HoldsEntries held.parts.entries y). inl (nothing_log x y same before tenure fence held log)) (λ (log : HoldsEntries (held.parts.entries ++ e ∷ []) y). inr (more_log x y same before tenure fence held e log))
      (may_add_entry held.parts.entries e number x y is.within held.holds.log above (subst (λ (b : List ℕ). MayAdd (segment number) b x y) is.is may));
  snapshots = append_keeps_others.snapshots number bytes x y may;
}
  where
    same : (q : FileName) → (q.kind ≡ 0 → ⊥) → get y q ≡ get x q
    same q apart = may.others q (λ e. apart (ap (λ (n : FileName). n.kind) e))

module _ (log : LogEnd) (old new : DiskState) (lawful : IsLawfulDisk old) (stands : LogEndStands log old) (bytes : List ℕ) (e : LogEntry) (is : IsEntry bytes e) where
  pub append_whole : old.tells ≡ true → Elapses (MayAdd (segment log.number) bytes) old new → Elapses (GainsOrNot (gain_in e)) old new
  append_whole tells goes = elapses_as old new (λ x y image may. entry_or_not e bytes log.number x y is (above_all log old lawful stands tells x image) may) goes

-- ---- one after another

grows_then : (ps qs rs : List Point) (gain : Gain) → Grows ps nothing qs → Grows qs gain rs → Grows ps gain rs
grows_then ps qs rs gain one two = record {
  nothing_else = λ p m. ⊎_elim (λ (q : IsIn qs p). ⊎_elim (λ (r : IsIn ps p). inl r) (λ (none : ⊥). absurd none) (one.nothing_else p q)) (λ (g : IsIn gain.points p). inr g) (two.nothing_else p m);
  stays = λ p m. two.stays p (one.stays p m);
}

holds_then : (gain : Gain) (before : List Point) (tenure fence : ℕ) (y z : Files) (first : HoldsAll before tenure fence nothing y) → HoldsAll first.points (max tenure 0) (max fence 0) gain z → HoldsAll before tenure fence gain z
holds_then gain before tenure fence y z first last =
    let t : max (max tenure 0) gain.tenure ≡ max tenure gain.tenure = omega arith in
    let f : max (max fence 0) gain.fence ≡ max fence gain.fence = omega arith in
    record {
      points = last.points;
      held = subst (λ (n : ℕ). FilesHold last.points n (max fence gain.fence) z) t (subst (λ (n : ℕ). FilesHold last.points (max (max tenure 0) gain.tenure) n z) f last.held);
      grows = grows_then before first.points last.points gain first.grows last.grows;
      comes = last.comes;
    }

module _ (gain : Gain) (x y : Files) where
  pub nothing_is_whole : Gains nothing x y → GainsOrNot gain x y
  nothing_is_whole gains = record { held = λ before tenure fence held. inl (gains.held before tenure fence held); snapshots = gains.snapshots }

  pub all_is_whole : Gains gain x y → GainsOrNot gain x y
  all_is_whole gains = record { held = λ before tenure fence held. inr (gains.held before tenure fence held); snapshots = gains.snapshots }

  pub whole_is_part : GainsOrNot gain x y → MayGain gain x y
  whole_is_part whole = record {
    held = λ before tenure fence held.
        ⊎_elim (λ (none : HoldsAll before tenure fence nothing y).
        record {
          points = none.points;
          tenure_now = max tenure 0;
          fence_now = max fence 0;
          held = none.held;
          grows = record { nothing_else = λ p m. ⊎_elim (λ (q : IsIn before p). inl q) (λ (no : ⊥). absurd no) (none.grows.nothing_else p m); stays = none.grows.stays };
          numbers = inl (omega arith, omega arith);
        })
        (λ (all : HoldsAll before tenure fence gain y).
        record { points = all.points; tenure_now = max tenure gain.tenure; fence_now = max fence gain.fence; held = all.held; grows = all.grows; numbers = inr (refl, refl) })
        (whole.held before tenure fence held);
    snapshots = whole.snapshots;
  }

  pub nothing_then_whole : (z : Files) → Gains nothing x y → GainsOrNot gain y z → GainsOrNot gain x z
  nothing_then_whole z one two = record {
    held = λ before tenure fence held.
        let first = one.held before tenure fence held in
        ⊎_elim (λ (none : HoldsAll first.points (max tenure 0) (max fence 0) nothing z). inl (holds_then nothing before tenure fence y z first none)) (λ (all : HoldsAll first.points (max tenure 0) (max fence 0) gain z). inr (holds_then gain before tenure fence y z first all))
        (two.held first.points (max tenure 0) (max fence 0) first.held);
    snapshots = λ all. two.snapshots (one.snapshots all);
  }

-- ---- calls

module _ (gain : Gain) (a b c : DiskState) (one : a.tells ≡ true → Elapses (Gains nothing) a b) (same : b.tells ≡ a.tells) where
  pub whole_after_nothing : (a.tells ≡ true → Elapses (GainsOrNot gain) b c) → a.tells ≡ true → Elapses (GainsOrNot gain) a c
  whole_after_nothing two tells = elapses_then a b c (λ x y image gains. nothing_is_whole gain x y gains) (λ x y z image gains image1 may. nothing_then_whole gain x y z gains may) (one tells) (two tells)

  all_after_nothing : (two : Gain) → a.tells ≡ true → ((z : Files) → c.images z → StepOf (Gains two) b.images z) → (z : Files) → c.images z → StepOf (Gains two) a.images z
  all_after_nothing two tells steps z image =
      let last = steps z image in
      let first = (one tells).images last.before last.was in
      record { before = first.before; was = first.was; stepped = nothing_then_all two first.before last.before z first.stepped last.stepped }

  -- first a call that brings nothing and doesn't fail
  pub whole_after : {X E : Type 0} (F : Type 0) (r : Result X E) → CountsFaults ⊥ a.faults b.faults → BringsWhole gain F r b c → BringsWhole gain F r a c
  whole_after {X} {E} F r fine brings = record {
    any_moment = whole_after_nothing (λ tells. brings.any_moment (same ∙ tells));
    acknowledged = λ tells. ok r (all_after_nothing gain tells) (brings.acknowledged (same ∙ tells));
    unchanged = λ tells. err r (λ to fine. all_after_nothing nothing tells (to fine)) (brings.unchanged (same ∙ tells));
    tells = brings.tells ∙ same;
    faults = counts_both ⊥ F a.faults b.faults c.faults fine brings.faults;
  }
    where
      ok : {P Q : Type 0} (r : Result X E) → (P → Q) → OnOk r P → OnOk r Q
      ok (Ok x) to p = to p
      ok (Err e) to p = tt

      err : {P Q : Type 0} (r : Result X E) → (P → Q) → OnErr r P → OnErr r Q
      err (Ok x) to p = tt
      err (Err e) to p = to p

module _ {X E : Type 0} (gain : Gain) (F : Type 0) (r : Result X E) (a b : DiskState) where
  -- one that was refused, and brought nothing
  pub whole_nothing : (e : E) → r ≡ Err e → (a.tells ≡ true → Elapses (Gains nothing) a b) → b.tells ≡ a.tells → CountsFaults F a.faults b.faults → BringsWhole gain F r a b
  whole_nothing e is one same faults = record {
    any_moment = λ tells. elapses_as a b (λ x y image gains. nothing_is_whole gain x y gains) (one tells);
    acknowledged = λ tells. subst (λ (q : Result X E). OnOk q ((c : Files) → b.images c → StepOf (Gains gain) a.images c)) (sym is) tt;
    unchanged = λ tells. subst (λ (q : Result X E). OnErr q ((F → ⊥) → (c : Files) → b.images c → StepOf (Gains nothing) a.images c)) (sym is) (λ fine. (one tells).images);
    tells = same;
    faults = faults;
  }

  -- one that failed
  pub whole_fault : (e : E) → r ≡ Err e → F → (a.tells ≡ true → Elapses (GainsOrNot gain) a b) → b.tells ≡ a.tells → CountsFaults F a.faults b.faults → BringsWhole gain F r a b
  whole_fault e is failed goes same faults = record {
    any_moment = goes;
    acknowledged = λ tells. subst (λ (q : Result X E). OnOk q ((c : Files) → b.images c → StepOf (Gains gain) a.images c)) (sym is) tt;
    unchanged = λ tells. subst (λ (q : Result X E). OnErr q ((F → ⊥) → (c : Files) → b.images c → StepOf (Gains nothing) a.images c)) (sym is) (λ fine. absurd (fine failed));
    tells = same;
    faults = faults;
  }

  -- one that was done
  pub whole_all : (x : X) → r ≡ Ok x → (a.tells ≡ true → Elapses (GainsOrNot gain) a b) → (a.tells ≡ true → (z : Files) → b.images z → StepOf (Gains gain) a.images z) → b.tells ≡ a.tells → CountsFaults F a.faults b.faults → BringsWhole gain F r a b
  whole_all x is goes steps same faults = record {
    any_moment = goes;
    acknowledged = λ tells. subst (λ (q : Result X E). OnOk q ((c : Files) → b.images c → StepOf (Gains gain) a.images c)) (sym is) (steps tells);
    unchanged = λ tells. subst (λ (q : Result X E). OnErr q ((F → ⊥) → (c : Files) → b.images c → StepOf (Gains nothing) a.images c)) (sym is) tt;
    tells = same;
    faults = faults;
  }

-- one that made no call of the disk
pub whole_none : {X E : Type 0} (gain : Gain) (F : Type 0) (r : Result X E) (a : DiskState) (e : E) → r ≡ Err e → (F → ⊥) → BringsWhole gain F r a a
whole_none gain F r a e is fine = whole_nothing gain F r a a e is (λ tells. elapses_same (Gains nothing) a (λ x image. gains_nothing x)) refl (counts_same F a.faults fine)

-- points that are others by name alone
pub whole_same : {X E : Type 0} (ps qs : List Point) (F : Type 0) (r : Result X E) (a b : DiskState) → (a.tells ≡ true → ps ≡ qs) → BringsWhole (of_points ps) F r a b → BringsWhole (of_points qs) F r a b
whole_same ps qs F r a b same brings = record {
  any_moment = λ tells. subst (λ (l : List Point). Elapses (GainsOrNot (of_points l)) a b) (same tells) (brings.any_moment tells);
  acknowledged = λ tells. subst (λ (l : List Point). OnOk r ((c : Files) → b.images c → StepOf (Gains (of_points l)) a.images c)) (same tells) (brings.acknowledged tells);
  unchanged = brings.unchanged;
  tells = brings.tells;
  faults = brings.faults;
}

-- what a reader leaves it doesn't bring to
pub nothing_read : (F : Type 0) (a b : DiskState) → LeavesFiles F a b → a.tells ≡ true → Elapses (Gains nothing) a b
nothing_read F a b leaves tells = elapses_as a b (λ x y image same. subst (Gains nothing x) (sym same) (gains_nothing x)) (leaves.proceeds.told tells)

-- the answer that is handed on
module _ {X E Y G : Type 0} (gain : Gain) (F H : Type 0) (a b : DiskState) where
  pub whole_ok : (x : X) (y : Y) → (H → F) → BringsWhole {E = E} gain F (Ok x) a b → BringsWhole {E = G} gain H (Ok y) a b
  whole_ok x y to brings = record { any_moment = brings.any_moment; acknowledged = brings.acknowledged; unchanged = λ tells. tt; tells = brings.tells; faults = counts_for F H a.faults b.faults to brings.faults }

  pub whole_err : (e : E) (g : G) → (H → F) → (F → H) → BringsWhole {X = X} gain F (Err e) a b → BringsWhole {X = Y} gain H (Err g) a b
  whole_err e g to back brings = record {
    any_moment = brings.any_moment;
    acknowledged = λ tells. tt;
    unchanged = λ tells fine. brings.unchanged tells (λ f. fine (back f));
    tells = brings.tells;
    faults = counts_for F H a.faults b.faults to brings.faults;
  }
