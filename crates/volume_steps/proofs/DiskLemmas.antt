-- Steps of volumes on a disk, by what is in memory.
use Rattle.std.proofs.Common.{◌≡◌, inl, inr, ℕ, List, [], ◌∷◌, ◌++◌, refl, sym, ap, subst, ◌∙◌, arith, rules, true, ◌&&◌, Some, None, Option, Result, Ok, Err}
use Rattle.std.specs.Prelude.{is_some, nat_le, ◌==◌, IfOk, OnOk}
use Rattle.std.specs.FinMap.{get}
use Rattle.std.proofs.lemmas.List.{append-nil}
use Rattle.m3_model.specs.Contents.{Contents}
use Rattle.m3_model.specs.Members.{IsIn}
use Rattle.m3_model.specs.declared.point.Series.{Series}
use Rattle.m3_model.proofs.MemberLemmas.{IsIn-map, IsIn-append_left}
use Rattle.m3_model.proofs.Lists.{IsIn-filter, filter-IsIn}
use Rattle.shard_files.specs.m3_outside.declared.disk_err.DiskErr.{DiskErr}
use Rattle.shard_files.specs.m3_outside.declared.file_name.FileName.{FileName}
use Rattle.shard_files.specs.m3_outside.DiskState.{DiskState, EachImage, StepOf, Elapses, Becomes, IsLawfulDisk, HaveSameNames}
use Rattle.shard_files.specs.m3_outside.Files.{Files, IsAbsent}
use Rattle.shard_files.specs.m3_outside.Removal.{without_files, MayTakeAway, HasTakenAway}
use Rattle.shard_files.proofs.m3_outside_proofs.Moments.{step_as, elapses_as}
use Rattle.shard_files.proofs.m3_outside_proofs.Removal.{none_stays, gone_none, left_same}
use Rattle.shard_files.specs.commit_log.Contents.{numbers}
use Rattle.shard_files.specs.commit_log.LogEnd.{LogEnd, LogEndStands}
use Rattle.shard_files.specs.commit_log.Segment.{segment}
use Rattle.shard_files.specs.wire_bytes.Volumes.{VolumeHead, Part, Info, Summaries, Index, Data, Bloom, Digests, Checkpoint}
use Rattle.shard_files.specs.Parts.{KnownVolume, kind_of, part_name, part_of}
use Rattle.shard_files.specs.Keeps.{Keeps}
use Rattle.shard_files.specs.Steps.{OthersStay, is_part, IsPartOf, next_volume, volume_after, MayWrite, Wrote, WroteNone, files_of_volume, parts_there}
use Rattle.shard_files.specs.FileLaws.{SameKinds}
use Rattle.shard_files.proofs.NextLemmas.{next_volume_is_new, taken_by_names}
use Rattle.shard_files.proofs.PartLemmas.{same_numbers}
use Rattle.shard_files.proofs.VolumeSteps.{of_known, log_stays, snapshots_stay, write_keeps, take_keeps}
use Rattle.volume_steps.specs.Known.{HoldsKnown, HaveContent, HaveRows}
use Rattle.volume_steps.specs.KnownLists.{volume_of, with_volume, without_volume}
use Rattle.volume_steps.specs.Laws.{KnownAreThere}
use Rattle.volume_steps.proofs.KnownLemmas.{are_known, may_be_written, may_be_taken, with_known, closed_known, written_known, removed_known}

-- what each image keeps, a step on
pub kept_as : {step : Files → Files → Type 0} {P Q : Files → Type 0} (old new : DiskState) → new.tells ≡ old.tells → (old.tells ≡ true → (x y : Files) → old.images x → step x y → P x → Q y)
    → (old.tells ≡ true → (c : Files) → new.images c → StepOf step old.images c) → EachImage old P → EachImage new Q
kept_as old new same keeps steps each tells c image =
    let told = sym same ∙ tells in
    let step = steps told c image in
    keeps told step.before c step.was step.stepped (each told step.before step.was)

-- the log's end stands where no segment changes, neither in reads nor in an image
pub stands_through : (log : LogEnd) (old new : DiskState) → new.tells ≡ old.tells → (old.tells ≡ true → SameKinds 0 0 old.files new.files)
    → (old.tells ≡ true → (c : Files) → new.images c → StepOf (SameKinds 0 0) old.images c) → LogEndStands log old → LogEndStands log new
stands_through log old new same files images st = record {
  kept = λ clean.
      let kept = st.kept clean in
      record {
        rest = λ tells.
            let rest = kept.rest (sym same ∙ tells) in
            record { chunks = rest.chunks; offset = rest.offset; there = segment_same (sym same ∙ tells) log.number ∙ rest.there };
        synced = λ tells c image.
            let step = images (sym same ∙ tells) c image in
            step.stepped (segment log.number) (omega arith) (omega arith) ∙ kept.synced (sym same ∙ tells) step.before step.was ∙ sym (segment_same (sym same ∙ tells) log.number);
      };
  above = λ tells n lt. segment_same (sym same ∙ tells) n ∙ st.above (sym same ∙ tells) n lt;
  within = st.within;
}
  where
    segment_same : old.tells ≡ true → (n : ℕ) → get new.files (segment n) ≡ get old.files (segment n)
    segment_same tells n = files tells (segment n) (omega arith) (omega arith)

-- a known volume is there in what reads give
pub known_are_there : {D : Type 0} (state : D → DiskState) → ((d : D) → IsLawfulDisk (state d)) → KnownAreThere state
known_are_there state lawful d memory known tenure fence each k m tells =
    let files = (state d).files in
    let has = each tells files ((lawful d).read_is_image tells) in
    (of_known files _ known (are_known memory known tenure fence files has) k m).2.holds

-- ---- a volume that is written

-- its own files and no others change
wrote_stay : (v : VolumeHead) (x y : Files) → OthersStay (IsPartOf v) x y → (q : FileName) → ((part : Part) → q ≡ part_name part v.ns v.start v.number → ⊥) → get y q ≡ get x q
wrote_stay v x y others q apart = others q (λ own. apart own.part own.is)

module _ (old new : DiskState) (lawful : IsLawfulDisk old) (same : new.tells ≡ old.tells) (ns start size : ℕ) (rows : List Series) where
  abbrev v : VolumeHead
  v = volume_after 1 ns start size old.files

  -- no image has a file of it
  absent : old.tells ≡ true → (x : Files) → old.images x → (part : Part) → IsAbsent (part_of part v) x
  absent tells x image part = (lawful.same_names tells x image (part_of part v)).0 (next_volume_is_new 1 ns start size old.files part)

  pub write_moment : (kept memory : Contents) (known : List KnownVolume) (tenure fence : ℕ) → EachImage old (HoldsKnown memory known tenure fence) → HaveContent memory known kept → HaveRows memory known ns rows
      → old.tells ≡ true → Elapses (MayWrite v rows) old new → Elapses (Keeps kept) old new
  write_moment kept memory known tenure fence each have from tells goes =
      elapses_as old new (λ x y image step. write_keeps kept v rows x y (may_be_written memory known tenure fence x (each tells x image) kept v rows (absent tells x image) have from) step) goes

  pub wrote_known : (memory : Contents) (known : List KnownVolume) (tenure fence : ℕ) → EachImage old (HoldsKnown memory known tenure fence) → (r : Result ℕ DiskErr) → (old.tells ≡ true → IfOk r (λ n. n ≡ next_volume ns start old.files))
      → (old.tells ≡ true → OnOk r ((c : Files) → new.images c → StepOf (Wrote v rows) old.images c)) → IfOk r (λ n. EachImage new (HoldsKnown memory (with_volume (volume_of ns start size n rows) known) tenure fence))
  wrote_known memory known tenure fence each (Err e) number acknowledged = tt
  wrote_known memory known tenure fence each (Ok n) number acknowledged = λ tells.
      let told = sym same ∙ tells in
      subst (λ (k : ℕ). (c : Files) → new.images c → HoldsKnown memory (with_volume (volume_of ns start size k rows) known) tenure fence c) (sym (number told))
      (λ c image.
      let step = acknowledged told c image in
      let x = step.before in
      let has = each told x step.was in
      let stay = wrote_stay v x c step.stepped.others in
      let k : KnownVolume = record { head = v; rows = rows } in
      with_known memory known tenure fence x has (with_volume k known) c (log_stays ns start v.number x c stay) (snapshots_stay ns start v.number x c stay)
      (written_known ns start v.number x c stay known k (record { named = refl; holds = step.stepped.holds }) (absent told x step.was Checkpoint) (are_known memory known tenure fence x has)))

  pub wrote_none : (memory : Contents) (known : List KnownVolume) (tenure fence : ℕ) → EachImage old (HoldsKnown memory known tenure fence)
      → (old.tells ≡ true → (c : Files) → new.images c → StepOf (WroteNone v) old.images c) → EachImage new (HoldsKnown memory known tenure fence)
  wrote_none memory known tenure fence each steps = kept_as old new same (λ told x y image step has.
      let stay = wrote_stay v x y step.others in
      with_known memory known tenure fence x has known y (log_stays ns start v.number x y stay) (snapshots_stay ns start v.number x y stay)
      (closed_known ns start v.number x y stay known (absent told x image Checkpoint) step.closed (are_known memory known tenure fence x has))) steps each

  same_log : (x y : Files) → OthersStay (IsPartOf v) x y → SameKinds 0 0 x y
  same_log x y others = log_stays ns start v.number x y (wrote_stay v x y others)

  pub write_segments : MayWrite v rows old.files new.files → numbers new.files ≡ numbers old.files
  write_segments may = same_numbers old.files new.files (same_log old.files new.files may.others)

  pub write_stands : (log : LogEnd) → (old.tells ≡ true → MayWrite v rows old.files new.files) → (old.tells ≡ true → Elapses (MayWrite v rows) old new) → LogEndStands log old → LogEndStands log new
  write_stands log files goes st = stands_through log old new same (λ tells. same_log old.files new.files (files tells).others) (λ tells c image. step_as (λ x y was may. same_log x y may.others) c ((goes tells).images c image)) st

-- ---- a volume that is taken away

kind_within : (part : Part) → (nat_le 1 (kind_of part) && nat_le (kind_of part) 7) ≡ true
kind_within Info = refl
kind_within Summaries = refl
kind_within Index = refl
kind_within Data = refl
kind_within Bloom = refl
kind_within Digests = refl
kind_within Checkpoint = refl

eq_itself : (n : ℕ) → (n == n) ≡ true
eq_itself n = search rules

pub is_its_part : (part : Part) (ns start n : ℕ) → is_part ns start (part_name part ns start n) ≡ true
is_its_part part ns start n = ap (λ b. b && ((ns == ns) && (start == start))) (kind_within part) ∙ ap (λ b. b && (start == start)) (eq_itself ns) ∙ eq_itself start

module _ (ns start number : ℕ) where
  -- each file of the volume is one of those
  listed : (part : Part) → IsIn (files_of_volume ns start number) (part_name part ns start number)
  listed Checkpoint = inl refl
  listed Info = inr (inl refl)
  listed Summaries = inr (inr (inl refl))
  listed Index = inr (inr (inr (inl refl)))
  listed Data = inr (inr (inr (inr (inl refl))))
  listed Bloom = inr (inr (inr (inr (inr (inl refl)))))
  listed Digests = inr (inr (inr (inr (inr (inr (inl refl))))))

  -- a name that is taken away is that of one of its files
  pub there_part : (f : Files) (q : FileName) → IsIn (parts_there ns start number f) q → (part : Part) × (part_name part ns start number ≡ q)
  there_part f q m =
      let e = IsIn-map (λ part. part_name part ns start number) (Checkpoint ∷ Info ∷ Summaries ∷ Index ∷ Data ∷ Bloom ∷ Digests ∷ []) q (IsIn-filter (λ name. is_some (get f name)) (files_of_volume ns start number) q m) in
      (e.0, e.2)

  -- where all that are there are taken away, none is left
  pub all_gone : (f x : Files) → HaveSameNames f x → (part : Part) → IsAbsent (part_name part ns start number) (without_files (parts_there ns start number f) x)
  all_gone f x names part = by (get f name) refl
    where
      name : FileName
      name = part_name part ns start number

      by : (o : Option (List ℕ)) → get f (part_name part ns start number) ≡ o → IsAbsent (part_name part ns start number) (without_files (parts_there ns start number f) x)
      by None e = none_stays (parts_there ns start number f) x (part_name part ns start number) ((names (part_name part ns start number)).0 e)
      by (Some file) e = gone_none (parts_there ns start number f) x (part_name part ns start number) (filter-IsIn (λ n. is_some (get f n)) (files_of_volume ns start number) (part_name part ns start number) (listed part) (ap is_some e))

  -- files are untouched that aren't the volume's
  pub untouched : (f x y : Files) (gone left : List FileName) → parts_there ns start number f ≡ gone ++ left → y ≡ without_files gone x → (q : FileName) → ((part : Part) → q ≡ part_name part ns start number → ⊥) → get y q ≡ get x q
  untouched f x y gone left split is q apart = ap (λ (z : Files). get z q) is ∙ left_same gone x q (λ m.
      let e = there_part f q (subst (λ l. IsIn l q) (sym split) (IsIn-append_left gone left q m)) in
      apart e.0 (sym e.1))

  module _ (old new : DiskState) (lawful : IsLawfulDisk old) (same : new.tells ≡ old.tells) where
    abbrev names : List FileName
    names = parts_there ns start number old.files

    pub remove_moment : (kept memory : Contents) (known : List KnownVolume) (tenure fence : ℕ) → EachImage old (HoldsKnown memory known tenure fence) → HaveContent memory (without_volume ns start number known) kept
        → old.tells ≡ true → Elapses (MayTakeAway names) old new → Elapses (Keeps kept) old new
    remove_moment kept memory known tenure fence each have tells goes = elapses_as old new (λ x y image step.
        take_keeps kept ns start number x y (may_be_taken memory known tenure fence x (each tells x image) kept ns start number have)
        (subst (λ l. MayTakeAway l x y) (sym (taken_by_names.volume ns start number old.files x (lawful.same_names tells x image))) step)) goes

    may_stay : (x y : Files) → MayTakeAway names x y → (q : FileName) → ((part : Part) → q ≡ part_name part ns start number → ⊥) → get y q ≡ get x q
    may_stay x y may = untouched old.files x y may.gone may.left may.split may.taken

    pub removed_all : {E : Type 0} (u : Result E DiskErr) (memory : Contents) (known : List KnownVolume) (tenure fence : ℕ) → EachImage old (HoldsKnown memory known tenure fence) → (old.tells ≡ true → OnOk u (Becomes (without_files names) old new))
        → OnOk u (EachImage new (HoldsKnown memory (without_volume ns start number known) tenure fence))
    removed_all (Err e) memory known tenure fence each done = tt
    removed_all (Ok u) memory known tenure fence each done = kept_as old new same (λ told x y image step has.
        let stay = untouched old.files x y names [] (sym (append-nil names)) step in
        with_known memory known tenure fence x has (without_volume ns start number known) y (log_stays ns start number x y stay) (snapshots_stay ns start number x y stay)
        (removed_known ns start number x y stay known (ap (λ (z : Files). get z (part_name Checkpoint ns start number)) step ∙ all_gone old.files x (lawful.same_names told x image) Checkpoint) (are_known memory known tenure fence x has)))
        (λ told. (done told).images) each

    pub remove_gone : {E : Type 0} (u : Result E DiskErr) → OnOk u (Becomes (without_files names) old new) → OnOk u ((part : Part) → IsAbsent (part_name part ns start number) new.files)
    remove_gone (Err e) done = tt
    remove_gone (Ok u) done = λ part. ap (λ (z : Files). get z (part_name part ns start number)) done.files ∙ all_gone old.files old.files (λ n. ((λ a. a), (λ a. a))) part

    taken_stay : HasTakenAway names old new → (q : FileName) → ((part : Part) → q ≡ part_name part ns start number → ⊥) → get new.files q ≡ get old.files q
    taken_stay has = untouched old.files old.files new.files has.gone has.left has.split has.taken.files

    pub remove_others : HasTakenAway names old new → OthersStay (λ name. (is_part ns start name ≡ true) × (name.number ≡ number)) old.files new.files
    remove_others has q apart = taken_stay has q (λ part e. apart (ap (is_part ns start) e ∙ is_its_part part ns start number, ap (λ (n : FileName). n.number) e))

    pub remove_segments : HasTakenAway names old new → numbers new.files ≡ numbers old.files
    remove_segments has = same_numbers old.files new.files (log_stays ns start number old.files new.files (taken_stay has))

    pub remove_stands : (log : LogEnd) → (old.tells ≡ true → HasTakenAway names old new) → (old.tells ≡ true → Elapses (MayTakeAway names) old new) → LogEndStands log old → LogEndStands log new
    remove_stands log files goes st = stands_through log old new same (λ tells. log_stays ns start number old.files new.files (taken_stay (files tells)))
        (λ tells c image. step_as (λ x y was may. log_stays ns start number x y (may_stay x y may)) c ((goes tells).images c image)) st
