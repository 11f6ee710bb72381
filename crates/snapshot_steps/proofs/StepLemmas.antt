-- Steps of a snapshot on a disk, by what is in memory.
use Rattle.std.proofs.Common.{◌≡◌, inl, ⊎_elim, ℕ, ◌<◌, ◌≤◌, List, [], ◌∷◌, ◌++◌, map, refl, sym, ap, subst, ◌∙◌, arith, rules, Bool, true, false, not, Some, None, Option, Result, Ok, Err}
use Rattle.std.specs.Prelude.{filter, nat_lt, OnOk, IsErr, IsErrAnd, IsErrOf}
use Rattle.std.specs.FinMap.{get}
use Rattle.std.proofs.lemmas.Bool.{ltb-false}
use Rattle.std.proofs.Math.Nat.{eq-or-lt_of_le}
use Rattle.m3_model.specs.Contents.{Contents}
use Rattle.m3_model.specs.Members.{IsIn}
use Rattle.m3_model.proofs.MemberLemmas.{map-IsIn, IsIn-map}
use Rattle.m3_model.proofs.Lists.{IsIn-filter, IsIn-filter_passes, filter-IsIn}
use Rattle.m3_model.proofs.Ascending.{Ascends-filter}
use Rattle.snapshot_files.specs.m3_outside.declared.disk_err.DiskErr.{DiskErr}
use Rattle.snapshot_files.specs.m3_outside.declared.disk_err.DiskErr.TheVariants.{Memory, Failed as DiskFailed}
use Rattle.snapshot_files.specs.m3_outside.declared.file_name.FileName.{FileName}
use Rattle.snapshot_files.specs.m3_outside.DiskState.{DiskState, Told, EachImage, StepOf, Elapses, Becomes, IsLawfulDisk}
use Rattle.snapshot_files.specs.m3_outside.DiskCalls.{LeavesFiles}
use Rattle.snapshot_files.specs.m3_outside.Files.{Files, IsAbsent, IsPresent}
use Rattle.snapshot_files.specs.m3_outside.Removal.{without_files, MayTakeAway, HasTakenAway}
use Rattle.snapshot_files.proofs.m3_outside_proofs.Moments.{step_as, elapses_as, elapses_then}
use Rattle.snapshot_files.proofs.m3_outside_proofs.Removal.{none_stays, gone_none, left_same}
use Rattle.snapshot_files.specs.commit_log.Contents.{next_after, numbers}
use Rattle.snapshot_files.specs.commit_log.Cutting.{numbers_below, numbers_from, segments_below}
use Rattle.snapshot_files.specs.commit_log.LogEnd.{LogEnd, NoneFrom, NoneAbove, MayBeginSegment, LogEndStands}
use Rattle.snapshot_files.specs.commit_log.Segment.{segment}
use Rattle.snapshot_files.proofs.commit_log_proofs.Numbers.{in_there, there_in, ascend, same_members}
use Rattle.snapshot_files.specs.wire_bytes.Snapshots.{Snapshot}
use Rattle.snapshot_files.specs.shard_files.Parts.{KnownVolume, counted_snapshots, snapshot_checkpoint}
use Rattle.snapshot_files.specs.shard_files.Keeps.{Keeps}
use Rattle.snapshot_files.specs.shard_files.Steps.{OthersStay, IsOfSnapshot, next_snapshot, MaySave, Saved, SavedNone, is_snapshot_file, snapshots_below}
use Rattle.snapshot_files.specs.shard_files.FileLaws.{SameKinds}
use Rattle.snapshot_files.proofs.shard_files_proofs.CutSteps.{cut_keeps}
use Rattle.snapshot_files.proofs.shard_files_proofs.KeepLemmas.{keeps_then}
use Rattle.snapshot_files.proofs.shard_files_proofs.NextLemmas.{next_snapshot_is_new, one_keys, taken_by_names}
use Rattle.snapshot_files.proofs.shard_files_proofs.PartLemmas.{same_numbers}
use Rattle.snapshot_files.proofs.shard_files_proofs.SnapshotSteps.{save_keeps, clear_keeps}
use Rattle.snapshot_files.specs.Snaps.{IsNew}
use Rattle.volume_steps.specs.Known.{HoldsKnown, HaveContent}
use Rattle.volume_steps.proofs.DiskLemmas.{kept_as, stands_through}
use Rattle.volume_steps.proofs.LogLemmas.{begun_known}
use Rattle.volume_steps.proofs.RemovalLemmas.{left_moment, left_known}
use Rattle.snapshot_steps.specs.Saved.{AreIn, HoldsSaved}
use Rattle.snapshot_steps.proofs.FilesLemmas.{begun_keeps, may_be_saved, saved_known, unsaved_known, may_be_cut, cut_saved, may_be_cleared, cleared_saved, cleared_alone, low_stays}

-- one step after another
pub then_keeps : (kept : Contents) (a b c : DiskState) → Elapses (Keeps kept) a b → Elapses (Keeps kept) b c → Elapses (Keeps kept) a c
then_keeps kept a b c one two = elapses_then a b c (λ x y image keeps. keeps) (λ x y z image first image1 last. keeps_then kept x y z first last) one two

-- ---- a segment that begins

module _ (number : ℕ) (b c : DiskState) (lawful : IsLawfulDisk b) (none : Told b (NoneFrom number)) where
  none_in : b.tells ≡ true → (x : Files) → b.images x → NoneFrom number x
  none_in tells x image n le = (lawful.same_names tells x image (segment n)).0 (none tells n le)

  pub begin_moment : (kept memory : Contents) (known : List KnownVolume) (tenure fence : ℕ) → EachImage b (HoldsKnown memory known tenure fence) → HaveContent memory known kept → b.tells ≡ true → Elapses (MayBeginSegment number) b c → Elapses (Keeps kept) b c
  begin_moment kept memory known tenure fence each have tells goes = elapses_as b c (λ x y image may. begun_keeps memory known tenure fence x y (each tells x image) kept have number (none_in tells x image) may) goes

  pub begin_known : (memory : Contents) (known : List KnownVolume) (tenure fence : ℕ) → c.tells ≡ b.tells → (b.tells ≡ true → Elapses (MayBeginSegment number) b c) → EachImage b (HoldsKnown memory known tenure fence) → EachImage c (HoldsKnown memory known tenure fence)
  begin_known memory known tenure fence same goes each = kept_as b c same (λ told x y image may has. begun_known number memory known tenure fence x y (none_in told x image) may has) (λ told. (goes told).images) each

-- ---- a snapshot that is saved

-- other files than those of snapshots stay
saved_low : (number : ℕ) (x y : Files) → OthersStay (IsOfSnapshot number) x y → SameKinds 0 0 x y
saved_low number x y others q low high = others q (λ own. ⊎_elim (λ e. let kind = ap (λ (n : FileName). n.kind) e in omega (arith, kind, high)) (λ e. let kind = ap (λ (n : FileName). n.kind) e in omega (arith, kind, high)) own)

pub save_segments : (s : Snapshot) (x y : Files) → MaySave s x y → numbers y ≡ numbers x
save_segments s x y may = same_numbers x y (saved_low s.number x y may.others)

pub save_stands : (s : Snapshot) (log : LogEnd) (a b : DiskState) → b.tells ≡ a.tells → (a.tells ≡ true → MaySave s a.files b.files) → (a.tells ≡ true → Elapses (MaySave s) a b) → LogEndStands log a → LogEndStands log b
save_stands s log a b same files goes st = stands_through log a b same (λ tells. saved_low s.number a.files b.files (files tells).others) (λ tells c image. step_as (λ x y was may. saved_low s.number x y may.others) c ((goes tells).images c image)) st

-- no file of the next snapshot is there, and none that counts is above it
pub next_is_new : (number : ℕ) (a b : DiskState) → (F : Type 0) → LeavesFiles F a b → (a.tells ≡ true → number ≡ next_snapshot a.files) → Told b (IsNew number)
next_is_new number a b F leaves is tells =
    let told = sym leaves.proceeds.tells ∙ tells in
    subst (λ (k : ℕ). IsNew k b.files) (sym (is told ∙ ap next_snapshot (sym (leaves.files told)))) (next_snapshot_is_new.absent b.files)

module _ (s : Snapshot) (F : Type 0) (a b c : DiskState) (lawful : IsLawfulDisk b) (leaves : LeavesFiles F a b) (is : a.tells ≡ true → s.number ≡ next_snapshot a.files) where
  absent_in : b.tells ≡ true → (x : Files) → b.images x → (name : FileName) → IsOfSnapshot s.number name → IsAbsent name x
  absent_in tells x image name own = (lawful.same_names tells x image name).0 (next_is_new s.number a b F leaves is tells name own)

  below_in : b.tells ≡ true → (x : Files) → b.images x → (name : FileName) → IsIn (counted_snapshots x) name → name.number < s.number
  below_in tells x image name m =
      let told = sym leaves.proceeds.tells ∙ tells in
      let same : next_snapshot x ≡ s.number = ap (λ (l : List FileName). next_after (map (λ (q : FileName). q.number) (filter (is_snapshot_file 8) l ++ filter (is_snapshot_file 9) l))) (one_keys b.files x (lawful.same_names tells x image)) ∙ ap next_snapshot (leaves.files told) ∙ sym (is told) in
      subst (λ (k : ℕ). name.number < k) same (next_snapshot_is_new.above x name m)

  module _ (memory : Contents) (known : List KnownVolume) (points : AreIn memory s.points) where
    pub save_moment : (kept : Contents) → EachImage a (HoldsKnown memory known s.tenure s.fence) → HaveContent memory known kept → a.tells ≡ true → Elapses (MaySave s) b c → Elapses (Keeps kept) a c
    save_moment kept each have tells goes =
        let told = leaves.proceeds.tells ∙ tells in
        let held = left_known F a b leaves each in
        then_keeps kept a b c (left_moment F a b leaves kept memory known s.tenure s.fence each have tells)
        (elapses_as b c (λ x y image may. save_keeps kept s x y (may_be_saved memory known s.tenure s.fence x y (held told x image) s (absent_in told x image) (below_in told x image) points refl refl kept have) may) goes)

    pub save_known : c.tells ≡ b.tells → EachImage a (HoldsKnown memory known s.tenure s.fence) → (b.tells ≡ true → (z : Files) → c.images z → StepOf (Saved s) b.images z) → EachImage c (HoldsSaved s memory known s.tenure s.fence)
    save_known same each steps = kept_as b c same (λ told x y image saved has. saved_known memory known s.tenure s.fence x y has s (absent_in told x image) (below_in told x image) points refl refl saved) steps (left_known F a b leaves each)

  pub save_none : (memory : Contents) (known : List KnownVolume) (tenure fence : ℕ) → c.tells ≡ b.tells → EachImage a (HoldsKnown memory known tenure fence) → (b.tells ≡ true → (z : Files) → c.images z → StepOf (SavedNone s.number) b.images z)
      → EachImage c (HoldsKnown memory known tenure fence)
  save_none memory known tenure fence same each steps = kept_as b c same (λ told x y image none has. unsaved_known x y s.number (absent_in told x image) none memory known tenure fence has) steps (left_known F a b leaves each)

-- ---- a log that is cut

module _ (number : ℕ) (old new : DiskState) (lawful : IsLawfulDisk old) where
  cut_as : old.tells ≡ true → (x y : Files) → old.images x → MayTakeAway (segments_below number old.files) x y → MayTakeAway (segments_below number x) x y
  cut_as tells x y image step = subst (λ l. MayTakeAway l x y) (sym (taken_by_names.segments number old.files x (lawful.same_names tells x image))) step

  pub cut_moment : (s : Snapshot) (kept memory : Contents) (known : List KnownVolume) (tenure fence : ℕ) → EachImage old (HoldsSaved s memory known tenure fence) → HaveContent memory known kept → old.tells ≡ true
      → Elapses (MayTakeAway (segments_below number old.files)) old new → Elapses (Keeps kept) old new
  cut_moment s kept memory known tenure fence each have tells goes = elapses_as old new (λ x y image step. cut_keeps kept number x y (may_be_cut s memory known tenure fence x y (each tells x image) kept have) (cut_as tells x y image step)) goes

  pub cut_each : (s : Snapshot) (memory : Contents) (known : List KnownVolume) (tenure fence : ℕ) → new.tells ≡ old.tells → (old.tells ≡ true → Elapses (MayTakeAway (segments_below number old.files)) old new) → EachImage old (HoldsSaved s memory known tenure fence)
      → EachImage new (HoldsSaved s memory known tenure fence)
  cut_each s memory known tenure fence same goes each = kept_as old new same (λ told x y image step has. cut_saved s memory known tenure fence x y has number (cut_as told x y image step)) (λ told. (goes told).images) each

-- the segments that are left
cut_numbers : (number : ℕ) (x y : Files) → y ≡ without_files (segments_below number x) x → numbers y ≡ numbers_from number x
cut_numbers number x y is = same_members (numbers y) (numbers_from number x) (ascend y) (Ascends-filter (λ (a b : ℕ). a < b) (λ n. not (nat_lt n number)) (numbers x) (ascend x)) to back
  where
    named : (m n : ℕ) → segment m ≡ segment n → m ≡ n
    named m n e = ap (λ (q : FileName). q.number) e

    -- those below the number are gone
    not_left : (n : ℕ) (file : List ℕ) → IsIn (numbers x) n → get y (segment n) ≡ Some file → (b : Bool) → nat_lt n number ≡ b → not b ≡ true
    not_left n file m there false e = refl
    not_left n file m there true e =
        let none : get y (segment n) ≡ None = ap (λ (z : Files). get z (segment n)) is ∙ gone_none (segments_below number x) x (segment n) (map-IsIn segment (numbers_below number x) n (filter-IsIn (λ k. nat_lt k number) (numbers x) n m e)) in
        absurd (let never : Some file ≡ None = sym there ∙ none in cc)

    same : (n : ℕ) → not (nat_lt n number) ≡ true → get y (segment n) ≡ get x (segment n)
    same n test = ap (λ (z : Files). get z (segment n)) is ∙ left_same (segments_below number x) x (segment n) (λ g.
        let k = IsIn-map segment (numbers_below number x) (segment n) g in
        let low : nat_lt n number ≡ true = ap (λ j. nat_lt j number) (sym (named k.0 n k.2)) ∙ IsIn-filter_passes (λ j. nat_lt j number) (numbers x) k.0 k.1 in
        let never : not true ≡ true = ap not (sym low) ∙ test in
        cc)

    stayed : (n : ℕ) (file : List ℕ) → get y (segment n) ≡ Some file → (o : Option (List ℕ)) → get x (segment n) ≡ o → IsIn (numbers x) n
    stayed n file there (Some old) e = there_in x n old e
    stayed n file there None e = let none : get y (segment n) ≡ None = ap (λ (z : Files). get z (segment n)) is ∙ none_stays (segments_below number x) x (segment n) e in absurd (let never : Some file ≡ None = sym there ∙ none in cc)

    to : (n : ℕ) → IsIn (numbers y) n → IsIn (numbers_from number x) n
    to n m =
        let f = in_there y n m in
        let old = stayed n f.0 f.1 (get x (segment n)) refl in
        filter-IsIn (λ k. not (nat_lt k number)) (numbers x) n old (not_left n f.0 old f.1 (nat_lt n number) refl)

    back : (n : ℕ) → IsIn (numbers_from number x) n → IsIn (numbers y) n
    back n m =
        let f = in_there x n (IsIn-filter (λ k. not (nat_lt k number)) (numbers x) n m) in
        there_in y n f.0 (same n (IsIn-filter_passes (λ k. not (nat_lt k number)) (numbers x) n m) ∙ f.1)

pub cut_segments : {E : Type 0} (number : ℕ) (old new : DiskState) (r : Result E DiskErr) → OnOk r (Becomes (without_files (segments_below number old.files)) old new) → OnOk r (numbers new.files ≡ numbers_from number old.files)
cut_segments number old new (Ok u) done = cut_numbers number old.files new.files done.files
cut_segments number old new (Err e) done = tt

-- of segments from the last on there is one
pub only_last : (number : ℕ) (x : Files) → IsPresent (segment number) x → NoneAbove number x → numbers_from number x ≡ number ∷ []
only_last number x there none = same_members (numbers_from number x) (number ∷ []) (Ascends-filter (λ (a b : ℕ). a < b) (λ n. not (nat_lt n number)) (numbers x) (ascend x)) ((λ n m. absurd m), tt)
    (λ n m. inl (by n (IsIn-filter (λ k. not (nat_lt k number)) (numbers x) n m) (IsIn-filter_passes (λ k. not (nat_lt k number)) (numbers x) n m) (nat_lt n number) refl))
    (λ n m. ⊎_elim (λ (e : number ≡ n). subst (IsIn (numbers_from number x)) e (filter-IsIn (λ k. not (nat_lt k number)) (numbers x) number (there_in x number there.file there.there) (not_low number))) (λ (no : ⊥). absurd no) m)
  where
    not_low : (n : ℕ) → not (nat_lt n n) ≡ true
    not_low n = search rules

    by : (n : ℕ) → IsIn (numbers x) n → not (nat_lt n number) ≡ true → (b : Bool) → nat_lt n number ≡ b → number ≡ n
    by n m test true e = absurd (let never : not true ≡ true = ap not (sym e) ∙ test in cc)
    by n m test false e =
        ⊎_elim (λ (same : number ≡ n). same) (λ (lt : number < n).
        let f = in_there x n m in
        let gone = none n lt in
        absurd (let never : Some f.0 ≡ None = sym f.1 ∙ gone in cc)) (eq-or-lt_of_le (ltb-false n number e))

-- ---- older snapshots that are taken away

module _ (number : ℕ) (old new : DiskState) (lawful : IsLawfulDisk old) where
  clear_as : old.tells ≡ true → (x y : Files) → old.images x → MayTakeAway (snapshots_below number old.files) x y → MayTakeAway (snapshots_below number x) x y
  clear_as tells x y image step = subst (λ l. MayTakeAway l x y) (sym (taken_by_names.snapshots number old.files x (lawful.same_names tells x image))) step

  pub clear_moment : (s : Snapshot) (kept memory : Contents) (known : List KnownVolume) (tenure fence : ℕ) → number ≤ s.number → EachImage old (HoldsSaved s memory known tenure fence) → HaveContent memory known kept → old.tells ≡ true
      → Elapses (MayTakeAway (snapshots_below number old.files)) old new → Elapses (Keeps kept) old new
  clear_moment s kept memory known tenure fence le each have tells goes =
      elapses_as old new (λ x y image step. clear_keeps kept number x y (may_be_cleared s memory known tenure fence x y (each tells x image) number le kept have) (clear_as tells x y image step)) goes

  pub clear_each : (s : Snapshot) (memory : Contents) (known : List KnownVolume) (tenure fence : ℕ) → number ≤ s.number → new.tells ≡ old.tells → (old.tells ≡ true → Elapses (MayTakeAway (snapshots_below number old.files)) old new)
      → EachImage old (HoldsSaved s memory known tenure fence) → EachImage new (HoldsSaved s memory known tenure fence)
  clear_each s memory known tenure fence le same goes each = kept_as old new same (λ told x y image step has.
      let takes = clear_as told x y image step in
      cleared_saved s memory known tenure fence x y has number le takes.gone takes.left takes.split takes.taken) (λ told. (goes told).images) each

  pub clear_alone : {E : Type 0} (s : Snapshot) (memory : Contents) (known : List KnownVolume) (tenure fence : ℕ) → number ≡ s.number → new.tells ≡ old.tells → (r : Result E DiskErr) → (old.tells ≡ true → OnOk r (Becomes (without_files (snapshots_below number old.files)) old new))
      → EachImage old (HoldsSaved s memory known tenure fence) → OnOk r (EachImage new (λ files. counted_snapshots files ≡ snapshot_checkpoint s.number ∷ []))
  clear_alone s memory known tenure fence is same (Err e) done each = tt
  clear_alone s memory known tenure fence is same (Ok u) done each = kept_as old new same (λ told x y image step has.
      cleared_alone s memory known tenure fence x y has old.files (lawful.same_names told x image) (step ∙ ap (λ (n : ℕ). without_files (snapshots_below n old.files) x) is)) (λ told. (done told).images) each

  clear_low : (x y : Files) → MayTakeAway (snapshots_below number old.files) x y → SameKinds 0 0 x y
  clear_low x y takes q low high = low_stays number old.files x y takes.gone takes.left takes.split takes.taken q (omega (arith, high))

  clear_files : HasTakenAway (snapshots_below number old.files) old new → MayTakeAway (snapshots_below number old.files) old.files new.files
  clear_files has = record { gone = has.gone; left = has.left; split = has.split; taken = has.taken.files }

  pub clear_segments : HasTakenAway (snapshots_below number old.files) old new → numbers new.files ≡ numbers old.files
  clear_segments has = same_numbers old.files new.files (clear_low old.files new.files (clear_files has))

  pub clear_stands : (log : LogEnd) → new.tells ≡ old.tells → (old.tells ≡ true → HasTakenAway (snapshots_below number old.files) old new) → (old.tells ≡ true → Elapses (MayTakeAway (snapshots_below number old.files)) old new) → LogEndStands log old → LogEndStands log new
  clear_stands log same files goes st = stands_through log old new same (λ tells. clear_low old.files new.files (clear_files (files tells))) (λ tells c image. step_as (λ x y was may. clear_low x y may) c ((goes tells).images c image)) st

-- ---- answers that are handed on

-- the one error that there is
pub err_is : {X E : Type 0} (r : Result X E) (e : E) → IsErr r × IsErrAnd r (λ x. x ≡ e) → r ≡ Err e
err_is (Ok x) e is = let no = is.0 in absurd (cc)
err_is (Err x) e is = ap Err is.1

-- the same error, handed on
pub err_to : {X Y E : Type 0} (r : Result X E) (q : Result Y E) (e d : E) → r ≡ Err e → q ≡ Err e → IsErrOf q d → IsErrOf r d
err_to {X} {Y} {E} r q e d was same f = was ∙ ap Err (err_same e d (sym same ∙ f))
  where
    err_same : (e d : E) → (let x : Result Y E = Err e in let y : Result Y E = Err d in x ≡ y) → e ≡ d
    err_same e d is = cc

-- the log's end stands where nothing changes
pub same_stands : (log : LogEnd) (b c : DiskState) → c.tells ≡ b.tells → (b.tells ≡ true → Becomes (λ files. files) b c) → LogEndStands log b → LogEndStands log c
same_stands log b c same becomes st =
    stands_through log b c same (λ tells q low high. ap (λ (z : Files). get z q) (becomes tells).files) (λ tells d image. step_as (λ x y was e q low high. ap (λ (z : Files). get z q) e) d ((becomes tells).images d image)) st

-- a fresh end has the segment's number
pub number_of : (first : ℕ) (log : LogEnd) → log ≡ record { number = first; at = 0; clean = true } → log.number ≡ first
number_of first log is = ap (λ (l : LogEnd). l.number) is

pub at_least : (first : ℕ) (log : LogEnd) → log ≡ record { number = first; at = 0; clean = true } → first ≤ log.number
at_least first log is = let same = number_of first log is in omega (arith, same)

-- an error that is no fault is want of memory
pub wanted_else : {X Y : Type 0} (r : Result X DiskErr) (q : Result Y DiskErr) (e : DiskErr) → r ≡ Err e → q ≡ Err e → (IsErrOf q DiskFailed → ⊥) → IsErrOf r Memory
wanted_else r q Memory was same fine = was
wanted_else r q DiskFailed was same fine = absurd (fine same)
