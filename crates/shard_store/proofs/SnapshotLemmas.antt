-- The points of a snapshot, and what stands when it was taken.
use Rattle.std.proofs.Common.{◌≡◌, ◌⊎◌, inl, inr, ⊎_elim, ℕ, suc, zero, ◌+◌, ◌-◌, ◌<◌, ◌≤◌, List, [], ◌∷◌, ◌++◌, length, replicate, refl, sym, ap, subst, ◌∙◌, arith, Option, Some, None, true, Result, Ok, Err}
use Rattle.std.specs.Prelude.{⊤, OnOk, IfOk, IsErr, IsErrAnd, IsErrOf}
use Rattle.std.proofs.lemmas.List.{length-replicate}
use Rattle.std.proofs.Math.Nat.{eq-or-lt_of_le}
use Rattle.m3_model.specs.Answers.{HasPoint}
use Rattle.m3_model.specs.Contents.{Contents}
use Rattle.m3_model.specs.Members.{IsIn}
use Rattle.m3_model.specs.declared.limits.TheConstants.{MOST_NAMESPACES, SEGMENT_BYTES, TIME_END}
use Rattle.m3_model.specs.declared.point.Matcher.{Matcher}
use Rattle.m3_model.specs.declared.point.Pick.TheVariants as pick
use Rattle.m3_model.specs.declared.point.Point.{Point}
use Rattle.m3_model.specs.declared.point.Series.{Series}
use Rattle.m3_model.proofs.MemberLemmas.{IsIn-append_left, IsIn-append_right, IsIn-append_cases}
use Rattle.m3_outside.specs.Files.{Files}
use Rattle.m3_outside.specs.DiskState.{DiskState, EachImage, IsLawfulDisk}
use Rattle.m3_outside.specs.declared.disk_err.DiskErr.{DiskErr}
use Rattle.m3_outside.specs.declared.disk_err.DiskErr.TheVariants.{Memory, Failed as DiskFailed}
use Rattle.store_log.specs.listed_volumes.commit_log.Contents.{numbers, numbers_of}
use Rattle.store_log.specs.listed_volumes.commit_log.LogEnd.{LogEnd, LogEndStands}
use Rattle.store_log.specs.listed_volumes.commit_log.Segment.{segment, HasChunks, ReadsChunks, written}
use Rattle.store_log.specs.listed_volumes.series_slots.Ranges.{IsRangeOf}
use Rattle.store_log.specs.listed_volumes.wire_bytes.Entries.{AllBounded, IsBounded}
use Rattle.store_log.specs.listed_volumes.wire_bytes.Snapshots.{Snapshot}
use Rattle.store_log.specs.listed_volumes.wire_bytes.Volumes.{points_of_rows}
use Rattle.store_log.specs.listed_volumes.shard_files.declared.entries.LogEntry.{LogEntry}
use Rattle.store_log.specs.listed_volumes.shard_files.declared.entries.LogEntry.TheVariants as entry
use Rattle.store_log.specs.listed_volumes.shard_files.Entries.{IsWithin, AreWithin}
use Rattle.store_log.specs.listed_volumes.shard_files.HeldEntries.{points_in, points_of}
use Rattle.store_log.specs.listed_volumes.shard_files.Parts.{KnownVolume, NewestIs, counted_snapshots, snapshot_checkpoint}
use Rattle.store_log.specs.listed_volumes.shard_files.FilesHold.{points_in_newest}
use Rattle.store_log.proofs.listed_volumes_proofs.shard_files_proofs.NextLemmas.{one_keys}
use Rattle.store_log.specs.snapshot_steps.volume_steps.Known.{HoldsKnown}
use Rattle.store_log.specs.snapshot_steps.Saved.{AreIn, HoldsSaved, snapshot_of}
use Rattle.store_log.specs.held_pages.Walks.{EndsInTime}
use Rattle.shard_store.specs.OneSnapshot.{AddsSpace, AreBelow, HasOneSnapshot}
use Rattle.store_log.proofs.LogStepLemmas.{err_is}

-- ---- points of all namespaces

pub none_below : (memory : Contents) → AreBelow 0 memory []
none_below memory p = ((λ m. absurd m), (λ h. let lt = h.1.0 in omega (arith, lt)))

pub one_more_space : (ns : ℕ) (memory : Contents) (old new : List Point) → AreBelow ns memory old → AddsSpace ns memory old new → AreBelow (ns + 1) memory new
one_more_space ns memory old new below adds p = (
  (λ m. ⊎_elim
      (λ (here : IsIn old p). let h = (below p).0 here in let lt = h.1.0 in (h.0, (omega (arith, lt), h.1.1)))
      (λ (there : IsIn (points_of_rows ns adds.rows) p). let h = adds.are.nothing_else p there in let is = h.1 in (h.0, (omega (arith, is), h.2.1)))
      (IsIn-append_cases old (points_of_rows ns adds.rows) p (subst (λ (l : List Point). IsIn l p) adds.new_is m))),
  (λ h. let lt = h.1.0 in subst (λ (l : List Point). IsIn l p) (sym adds.new_is)
      (⊎_elim
      (λ (less : p.ns < ns). IsIn-append_left old (points_of_rows ns adds.rows) p ((below p).1 (h.0, (less, h.1.1))))
      (λ (same : p.ns ≡ ns). IsIn-append_right old (points_of_rows ns adds.rows) p (adds.are.whole p h.0 same (omega arith, h.1.1)))
      (last p.ns ns lt))),
)
  where
    last : (a b : ℕ) → a < b + 1 → (a < b) ⊎ (a ≡ b)
    last a b lt = by (eq-or-lt_of_le (let le : a ≤ b = omega (arith, lt) in le))
      where
        by : (a ≡ b) ⊎ (a < b) → (a < b) ⊎ (a ≡ b)
        by (inl e) = inr e
        by (inr l) = inl l

pub adds_space : {E : Type 0} (r : Result ⊤ E) (ns : ℕ) (memory : Contents) (old new : List Point) (rows shown : List Series) → ((wanted : List Matcher) → IsRangeOf memory (pick.Match ns wanted) 0 TIME_END rows) → shown ≡ rows
    → OnOk r (new ≡ old ++ points_of_rows ns shown) → OnOk r (AddsSpace ns memory old new)
adds_space (Ok u) ns memory old new rows shown are same new_is = record { rows = rows; are = are []; new_is = new_is ∙ ap (λ (l : List Series). old ++ points_of_rows ns l) same }
adds_space (Err e) ns memory old new rows shown are same new_is = tt

-- ---- what is in memory lies within the bounds of points

listed_bounded : (ps : List Point) → AllBounded ps → (p : Point) → IsIn ps p → IsBounded p
listed_bounded [] all p m = absurd m
listed_bounded (q ∷ ps) all p (inl same) = subst IsBounded same all.0
listed_bounded (q ∷ ps) all p (inr rest) = listed_bounded ps all.1 p rest

entry_bounded : (e : LogEntry) → IsWithin e → (p : Point) → IsIn (points_in e) p → IsBounded p
entry_bounded (entry.Points ps) within p m = listed_bounded ps within.bounded p m
entry_bounded (entry.Fence n) within p m = absurd m
entry_bounded (entry.Tenure n) within p m = absurd m

entries_bounded : (es : List LogEntry) → AreWithin es → (p : Point) → IsIn (points_of es) p → IsBounded p
entries_bounded [] within p m = absurd m
entries_bounded (e ∷ es) within p m = ⊎_elim (λ (here : IsIn (points_in e) p). entry_bounded e within.0 p here) (λ (later : IsIn (points_of es) p). entries_bounded es within.1 p later) (IsIn-append_cases (points_in e) (points_of es) p m)

newest_bounded : (s : Option Snapshot) (files : Files) → NewestIs s files → (p : Point) → IsIn (points_in_newest s) p → IsBounded p
newest_bounded None files is p m = absurd m
newest_bounded (Some s) files is p m = listed_bounded s.points is.holds.values.bounded p m

-- each point in memory stands in the newest snapshot or in the log, so it is within its bounds
pub memory_bounded : (memory : Contents) (known : List KnownVolume) (tenure fence : ℕ) (files : Files) → HoldsKnown memory known tenure fence files → (p : Point) → HasPoint memory p → IsBounded p
memory_bounded memory known tenure fence files has p m =
    let parts = has.held.parts in
    ⊎_elim (λ (saved : IsIn (points_in_newest parts.newest) p). newest_bounded parts.newest files has.held.holds.newest p saved)
    (λ (logged : IsIn (points_of parts.entries) p). entries_bounded parts.entries has.held.holds.log.within p logged) (IsIn-append_cases (points_in_newest parts.newest) (points_of parts.entries) p (has.there p m))

module _ (memory : Contents) (known : List KnownVolume) (tenure fence : ℕ) (d : DiskState) (lawful : IsLawfulDisk d) (each : EachImage d (HoldsKnown memory known tenure fence)) where
  pub are_in : (points : List Point) → AreBelow MOST_NAMESPACES memory points → d.tells ≡ true → AreIn memory points
  are_in points below tells p = ((λ m. ((below p).0 m).0), (λ m. let b = memory_bounded memory known tenure fence d.files (each tells d.files (lawful.read_is_image tells)) p m in (below p).1 (m, (b.namespace, b.time))))

  -- the times of its points are before the end of all
  pub held_within : d.tells ≡ true → EndsInTime memory
  held_within tells k v m = (memory_bounded memory known tenure fence d.files (each tells d.files (lawful.read_is_image tells)) (record { ns = k.ns; id = k.id; t = k.t; v = v }) m).time

-- ---- what stands then

empty_of : {X : Type 0} (xs : List X) → length xs ≡ 0 → xs ≡ []
empty_of [] e = refl
empty_of (x ∷ xs) e = absurd (omega (arith, e))

-- zeros are no chunk
zeros_end : (n : ℕ) → ReadsChunks [] (replicate n 0)
zeros_end n = ends n (replicate n 0) refl
  where
    ends : (n : ℕ) (l : List ℕ) → l ≡ replicate n 0 → ReadsChunks [] l
    ends n [] e = tt
    ends zero (x ∷ l) e = absurd (cc)
    ends (suc n) (x ∷ l) e = inl (λ one. absurd (cc))

-- the files after a snapshot
module _ (d : DiskState) (lawful : IsLawfulDisk d) (log : LogEnd) (stands : LogEndStands log d) (at : log.at ≡ 0) (clean : log.clean ≡ true) (tells : d.tells ≡ true) (c : Files) (image : d.images c) where
  no_chunks : HasChunks (segment log.number) [] c
  no_chunks =
      let kept = stands.kept clean in
      let rest = kept.rest tells in
      let offset : length (written rest.chunks) ≡ 0 = rest.offset ∙ at in
      let zeros = replicate (SEGMENT_BYTES - log.at) 0 in
      record {
        file = zeros;
        there = kept.synced tells c image ∙ rest.there ∙ ap (λ (b : List ℕ). Some (b ++ zeros)) (empty_of (written rest.chunks) offset);
        size = length-replicate (SEGMENT_BYTES - log.at) 0 ∙ ap (λ (n : ℕ). SEGMENT_BYTES - n) at;
        reads = zeros_end (SEGMENT_BYTES - log.at);
      }

  one_segment : numbers d.files ≡ log.number ∷ [] → numbers c ≡ log.number ∷ []
  one_segment is = ap numbers_of (one_keys d.files c (lawful.same_names tells c image)) ∙ is

  pub has_one : (number first : ℕ) (memory : Contents) (known : List KnownVolume) (tenure fence : ℕ) (points : List Point) → AreIn memory points → HoldsSaved (snapshot_of number tenure fence log.number points) memory known tenure fence c
      → counted_snapshots c ≡ snapshot_checkpoint number ∷ [] → numbers d.files ≡ log.number ∷ [] → log.number ≡ first → HasOneSnapshot number first memory tenure fence c
  has_one number first memory known tenure fence points are saved alone only is = subst (λ (n : ℕ). HasOneSnapshot number n memory tenure fence c) is (record {
    snapshot = snapshot_of number tenure fence log.number points;
    number_is = refl;
    alone = alone;
    whole = (subst (λ (s : Option Snapshot). NewestIs s c) saved.newest saved.holds.held.holds.newest).holds;
    points = are;
    tenure_is = refl;
    fence_is = refl;
    first_is = refl;
    segments = one_segment only;
    no_chunks = no_chunks;
  })

-- a snapshot of these points that was taken, or not
module _ (memory : Contents) (known : List KnownVolume) (tenure fence : ℕ) (points : List Point) (old new : DiskState) (same : new.tells ≡ old.tells) (are : old.tells ≡ true → AreIn memory points) (log : LogEnd) where
  pub each_after : (r : Result ℕ DiskErr) → (IsErrOf r DiskFailed → ⊥) → (AreIn memory points → IfOk r (λ n. EachImage new (HoldsSaved (snapshot_of n tenure fence log.number points) memory known tenure fence)))
      → (AreIn memory points → IsErrOf r Memory → EachImage new (HoldsKnown memory known tenure fence)) → EachImage new (HoldsKnown memory known tenure fence)
  each_after (Ok n) fine saved wanted tells c image = (saved (are (sym same ∙ tells)) tells c image).holds
  each_after (Err Memory) fine saved wanted tells c image = wanted (are (sym same ∙ tells)) refl tells c image
  each_after (Err DiskFailed) fine saved wanted tells c image = absurd (fine refl)

  pub one_after : (r : Result ℕ DiskErr) (first : ℕ) → IsLawfulDisk new → (AreIn memory points → IfOk r (λ n. EachImage new (HoldsSaved (snapshot_of n tenure fence log.number points) memory known tenure fence)))
      → (AreIn memory points → IfOk r (λ n. EachImage new (λ files. counted_snapshots files ≡ snapshot_checkpoint n ∷ []))) → OnOk r ((log.at ≡ 0) × (log.clean ≡ true)) → (old.tells ≡ true → OnOk r (numbers new.files ≡ log.number ∷ []))
      → (old.tells ≡ true → OnOk r (log.number ≡ first)) → OnOk r (LogEndStands log new) → IfOk r (λ n. EachImage new (HasOneSnapshot n first memory tenure fence))
  one_after (Ok n) first lawful saved alone end segments number stands = λ tells c image.
      let told = sym same ∙ tells in
      let in_points = are told in
      has_one new lawful log stands end.0 end.1 tells c image n first memory known tenure fence points in_points (saved in_points tells c image) (alone in_points tells c image) (segments told) (number told)
  one_after (Err e) first lawful saved alone end segments number stands = tt

pub stands_after : (r : Result ℕ DiskErr) (log : LogEnd) (d : DiskState) → (IsErrOf r DiskFailed → ⊥) → OnOk r (LogEndStands log d) → (IsErrOf r Memory → LogEndStands log d) → LogEndStands log d
stands_after (Ok n) log d fine ok wanted = ok
stands_after (Err Memory) log d fine ok wanted = wanted refl
stands_after (Err DiskFailed) log d fine ok wanted = absurd (fine refl)

-- want of memory that is handed on is no fault
pub no_fault : {X : Type 0} (r : Result X DiskErr) (e : DiskErr) → IsErr r × IsErrAnd r (λ x. x ≡ e) → e ≡ Memory → IsErrOf r DiskFailed → ⊥
no_fault {X} r e is memory f = both r e (err_is r e is) memory f
  where
    both : (r : Result X DiskErr) (y : DiskErr) → r ≡ Err y → y ≡ Memory → r ≡ Err DiskFailed → ⊥
    both r y a b f = cc
