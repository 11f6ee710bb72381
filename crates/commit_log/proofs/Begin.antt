-- A segment that is made, and calls that leave files as they are.
use Rattle.std.proofs.Common.{◌≡◌, inl, inr, ⊎_elim, ℕ, ◌+◌, ◌<◌, [], replicate, refl, sym, ap, subst, ◌∙◌, arith, true, Some, Ok, Err}
use Rattle.std.specs.Prelude.{⊤}
use Rattle.std.specs.FinMap.{get}
use Rattle.log_chunks.specs.m3_outside.declared.file_name.FileName.{FileName}
use Rattle.log_chunks.specs.m3_outside.declared.disk_err.DiskErr.{DiskErr}
use Rattle.log_chunks.specs.m3_outside.declared.disk_err.DiskErr.TheVariants.{Memory, Failed as DiskFailed}
use Rattle.log_chunks.specs.m3_outside.Files.{Files, Stays, files_with_zeros}
use Rattle.log_chunks.specs.m3_outside.DiskState.{DiskState, Elapses, Becomes, Told}
use Rattle.log_chunks.specs.m3_outside.DiskCalls.{Creates, LeavesFiles}
use Rattle.log_chunks.proofs.m3_outside_proofs.Names.{get_here, get_apart}
use Rattle.log_chunks.proofs.m3_outside_proofs.Moments.{elapses_as, elapses_then, becomes_both, becomes_stays}
use Rattle.commit_log.specs.Segment.{segment, IsAtRest}
use Rattle.commit_log.specs.LogEnd.{LogEnd, NoneFrom, NoneAbove, LogEndStands, MayBeginSegment, BeganOrNot}

module _ (number : ℕ) (name : FileName) (named : name ≡ segment number) (a b : DiskState) where
  apart : (n : ℕ) → number < n → segment n ≡ name → ⊥
  apart n lt e = let same : n ≡ number = ap (λ (m : FileName). m.number) (e ∙ named) in omega arith

  zeros_above : (x y : Files) → NoneFrom number x → y ≡ files_with_zeros name 65536 x → NoneAbove number y
  zeros_above x y none e = λ n lt. ap (λ (m : Files). get m (segment n)) e ∙ get_apart x name (replicate 65536 0) (segment n) (apart n lt) ∙ none n (omega arith)

  same_above : (x y : Files) → NoneFrom number x → y ≡ x → NoneAbove number y
  same_above x y none e = λ n lt. ap (λ (m : Files). get m (segment n)) e ∙ none n (omega arith)

  has_zeros : (x y : Files) → y ≡ files_with_zeros name 65536 x → get y (segment number) ≡ Some (replicate 65536 0)
  has_zeros x y e = ap (get y) (sym named) ∙ ap (λ (m : Files). get m name) e ∙ get_here x name (replicate 65536 0)

  pub begun_stands : (u : ⊤) → Creates name 65536 (Ok u) a b → Told a (NoneFrom number) → LogEndStands (record { number = number; at = 0; clean = true }) b
  begun_stands u creates none =
      let back : b.tells ≡ true → a.tells ≡ true = λ h. sym creates.changes.proceeds.tells ∙ h in
      record {
        kept = λ clean. record {
          rest = λ h. record { chunks = []; offset = refl; there = has_zeros a.files b.files (creates.changes.done (back h) refl).files };
          synced = λ h c image.
              let done = creates.changes.done (back h) refl in
              let step = done.images c image in
              has_zeros step.before c step.stepped ∙ sym (has_zeros a.files b.files done.files);
        };
        above = λ h. zeros_above a.files b.files (none (back h)) (creates.changes.done (back h) refl).files;
        within = omega arith;
      }

  pub failed_above : (e : DiskErr) → Creates name 65536 (Err e) a b → Told a (NoneFrom number) → Told b (NoneAbove number)
  failed_above Memory creates none = λ h.
      let t = sym creates.changes.proceeds.tells ∙ h in
      same_above a.files b.files (none t) (creates.changes.undone t refl).files
  failed_above DiskFailed creates none = λ h.
      let t = sym creates.changes.proceeds.tells ∙ h in
      ⊎_elim (λ (kept : Becomes (λ (files : Files). files) a b). same_above a.files b.files (none t) kept.files)
      (λ (done : Becomes (files_with_zeros name 65536) a b). zeros_above a.files b.files (none t) done.files) (creates.changes.done_or_not t refl)

-- no segment above is none from the next number on
pub none_from_next : (number next : ℕ) (files : Files) → next ≡ number + 1 → NoneAbove number files → NoneFrom next files
none_from_next number next files e none = λ n le. none n (omega arith)

-- a call that leaves the files leaves the log's end
pub stands_stays : (log : LogEnd) (failed : Type 0) (a b : DiskState) → LeavesFiles failed a b → LogEndStands log a → LogEndStands log b
stands_stays log failed a b leaves st =
    let back : b.tells ≡ true → a.tells ≡ true = λ h. sym leaves.proceeds.tells ∙ h in
    record {
      kept = λ clean. let k = st.kept clean in record {
        rest = λ h. subst (IsAtRest log.number log.at) (sym (leaves.files (back h))) (k.rest (back h));
        synced = λ h c image.
            let step = (leaves.proceeds.told (back h)).images c image in
            ap (λ (m : Files). get m (segment log.number)) step.stepped ∙ k.synced (back h) step.before step.was ∙ sym (ap (λ (m : Files). get m (segment log.number)) (leaves.files (back h)));
      };
      above = λ h. subst (NoneAbove log.number) (sym (leaves.files (back h))) (st.above (back h));
      within = st.within;
    }

-- nothing changed, and then a segment is there or not
pub stays_then_began : (number : ℕ) (failed : Type 0) (a b c : DiskState) → LeavesFiles failed a b → a.tells ≡ true → BeganOrNot number b c → BeganOrNot number a c
stays_then_began number failed a b c leaves t one =
    let same = becomes_stays failed a b leaves t in
    ⊎_elim (λ (kept : Becomes (λ (files : Files). files) b c). inl (becomes_both (λ files. files) (λ files. files) (λ files. files) a b c (λ x y e. e) same kept))
    (λ (done : Becomes (files_with_zeros (segment number) 65536) b c). inr (becomes_both (λ files. files) (files_with_zeros (segment number) 65536) (files_with_zeros (segment number) 65536) a b c (λ x y e. ap (files_with_zeros (segment number) 65536) e) same done)) one

-- nothing happened
pub elapses_none : (number : ℕ) (a : DiskState) → Elapses (MayBeginSegment number) a a
elapses_none number a = record {
  later = omega arith;
  images = λ c image. record { before = c; was = image; stepped = inl refl };
  nothing_else = λ t c le left. inl left;
  keeps = λ t c le left. left;
}

-- nothing changed, and then a segment may have begun
pub stays_then_begun : (number : ℕ) (a b c : DiskState) → Elapses Stays a b → Elapses (MayBeginSegment number) b c → Elapses (MayBeginSegment number) a c
stays_then_begun number a b c one two = elapses_then a b c (λ x y image same. inl same) (λ x y z image same image1 step. subst (λ (w : Files). MayBeginSegment number w z) same step) one two

pub stays_begun : (number : ℕ) (a b : DiskState) → Elapses Stays a b → Elapses (MayBeginSegment number) a b
stays_begun number a b one = elapses_as a b (λ x y image same. inl same) one
