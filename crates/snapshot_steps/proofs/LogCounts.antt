-- What becomes of a log's segments, counted, and of the newest snapshot, where the log goes on.
use Rattle.std.proofs.Common.{◌≡◌, ◌⊎◌, inl, inr, ⊎_elim, ℕ, ◌+◌, ◌<◌, ◌≤◌, List, [], ◌∷◌, ◌++◌, length, replicate, refl, sym, ap, subst, ◌∙◌, arith, length-append, Bool, true, false, Some, Option, Result, Ok, Err}
use Rattle.std.specs.Prelude.{OnOk, IsErrOf, nat_lt}
use Rattle.std.specs.FinMap.{get}
use Rattle.std.proofs.lemmas.Bool.{ltb-true, ltb-false}
use Rattle.m3_model.specs.Ascends.{Ascends}
use Rattle.m3_model.specs.Contents.{Contents}
use Rattle.m3_model.specs.Members.{IsIn}
use Rattle.m3_model.specs.declared.limits.TheConstants.{NUMBER_END}
use Rattle.m3_model.proofs.MemberLemmas.{IsIn-append_left, IsIn-append_cases, IsIn-push}
use Rattle.snapshot_files.specs.m3_outside.declared.disk_err.DiskErr.{DiskErr}
use Rattle.snapshot_files.specs.m3_outside.declared.disk_err.DiskErr.TheVariants.{Memory, Failed as DiskFailed}
use Rattle.snapshot_files.specs.m3_outside.declared.file_name.FileName.{FileName}
use Rattle.snapshot_files.specs.m3_outside.DiskState.{DiskState}
use Rattle.snapshot_files.specs.m3_outside.Files.{Files, files_with_zeros}
use Rattle.snapshot_files.proofs.m3_outside_proofs.Names.{get_here, get_apart, name_is}
use Rattle.snapshot_files.specs.commit_log.Contents.{next_after, numbers}
use Rattle.snapshot_files.specs.commit_log.LogEnd.{LogEnd, NoneFrom, LogEndStands, BeganOrNot}
use Rattle.snapshot_files.specs.commit_log.Segment.{segment}
use Rattle.snapshot_files.proofs.commit_log_proofs.Numbers.{in_there, there_in, absent_not_in, ascend, none_from_after, same_members}
use Rattle.snapshot_files.specs.wire_bytes.Snapshots.{Snapshot}
use Rattle.snapshot_files.specs.shard_files.FileLaws.{SameKinds}
use Rattle.snapshot_files.specs.shard_files.Parts.{IsNewestNumber, KnownVolume, NewestIs}
use Rattle.snapshot_files.proofs.shard_files_proofs.PartLemmas.{newest_as}
use Rattle.snapshot_steps.specs.Counts.{AreCounted, StayCounted}
use Rattle.snapshot_steps.specs.Saved.{HoldsSaved}

-- ascending numbers from one on and below another are no more than lie between
few_between : (low high : ℕ) (ns : List ℕ) → Ascends (λ a b. a < b) ns → low ≤ high → ((n : ℕ) → IsIn ns n → (low ≤ n) × (n < high)) → length ns + low ≤ high
few_between low high [] up le each = omega (arith, le)
few_between low high (n ∷ ns) up le each =
    let here = each n (inl refl) in
    let from = here.0 in
    let to = here.1 in
    let later = few_between (n + 1) high ns up.1 (omega (arith, to)) (λ k m. ((let lt = up.0 k m in omega (arith, lt)), (each k (inr m)).1)) in
    omega (arith, later, from)

-- so segments below a number are no more than it
pub few_segments : (number : ℕ) (x : Files) → NoneFrom number x → length (numbers x) ≤ number
few_segments number x none =
    let few = few_between 0 number (numbers x) (ascend x) (omega arith) (λ n m. (omega arith, below number x none n m)) in
    omega (arith, few)
  where
    below : (number : ℕ) (x : Files) (none : NoneFrom number x) (n : ℕ) → IsIn (numbers x) n → n < number
    below number x none n m = by (nat_lt n number) refl
      where
        by : (b : Bool) → nat_lt n number ≡ b → n < number
        by true e = ltb-true n number e
        by false e = absurd (absent_not_in x n (none n (ltb-false n number e)) m)

-- ---- the newest snapshot, by its number

pub newest_by : (x y : Files) → ((o : Option Snapshot) → NewestIs o x → NewestIs o y) → (n : ℕ) → IsNewestNumber n x → IsNewestNumber n y
newest_by x y to n is = record { newest = is.newest; is = to is.newest is.is; number_is = is.number_is }

-- where the files of snapshots are the same, so is the newest
pub same_newest : (x y : Files) → SameKinds 8 9 x y → (n : ℕ) → IsNewestNumber n x → IsNewestNumber n y
same_newest x y same = newest_by x y (λ o is. newest_as x y same o is)

pub saved_newest : (s : Snapshot) (memory : Contents) (known : List KnownVolume) (tenure fence : ℕ) (x : Files) → HoldsSaved s memory known tenure fence x → IsNewestNumber s.number x
saved_newest s memory known tenure fence x has = record { newest = Some s; is = subst (λ o. NewestIs o x) has.newest has.holds.held.holds.newest; number_is = refl }

-- ---- the same segments

pub counted_alike : (log : LogEnd) (missing old_snapshot new_snapshot : ℕ) (x y : Files) → numbers y ≡ numbers x → IsNewestNumber new_snapshot y → AreCounted log missing old_snapshot x → AreCounted log missing new_snapshot y
counted_alike log missing old_snapshot new_snapshot x y same newest has = record {
  limit = has.limit;
  last = ap next_after same ∙ has.last;
  segments = ap (λ (l : List ℕ). length l + missing) same ∙ has.segments;
  newest = newest;
}

-- one segment, and nothing below it
pub counted_one : (log : LogEnd) (first snapshot : ℕ) (y : Files) → log.number ≡ first → log.number < NUMBER_END → numbers y ≡ first ∷ [] → IsNewestNumber snapshot y → AreCounted log first snapshot y
counted_one log first snapshot y is limit one newest =
    let last : next_after (numbers y) ≡ next_after (first ∷ []) = ap next_after one in
    let long : length (numbers y) ≡ 1 = ap length one in
    record { limit = limit; last = last ∙ omega (arith, is); segments = omega (arith, long, is); newest = newest }

-- ---- a segment that is made above all others

module _ (number : ℕ) (x y : Files) (none : NoneFrom number x) (is : y ≡ files_with_zeros (segment number) 65536 x) where
  others : (q : FileName) → (q ≡ segment number → ⊥) → get y q ≡ get x q
  others q apart = ap (λ (m : Files). get m q) is ∙ get_apart x (segment number) (replicate 65536 0) q apart

  there : get y (segment number) ≡ Some (replicate 65536 0)
  there = ap (λ (m : Files). get m (segment number)) is ∙ get_here x (segment number) (replicate 65536 0)

  below : (n : ℕ) → IsIn (numbers x) n → n < number
  below n m = by (nat_lt n number) refl
    where
      by : (b : Bool) → nat_lt n number ≡ b → n < number
      by true e = ltb-true n number e
      by false e = absurd (absent_not_in x n (none n (ltb-false n number e)) m)

  apart : (n : ℕ) → (n ≡ number → ⊥) → segment n ≡ segment number → ⊥
  apart n differ e = differ (ap (λ (q : FileName). q.number) e)

  push : (ns : List ℕ) → Ascends (λ a b. a < b) ns → ((n : ℕ) → IsIn ns n → n < number) → Ascends (λ a b. a < b) (ns ++ number ∷ [])
  push [] up low = ((λ k m. absurd m), tt)
  push (n ∷ ns) up low = (
    (λ k m. ⊎_elim (λ (r : IsIn ns k). up.0 k r) (λ (r : IsIn (number ∷ []) k). ⊎_elim (λ (same : number ≡ k). let lt = low n (inl refl) in omega (arith, lt, same)) (λ (no : ⊥). absurd no) r) (IsIn-append_cases ns (number ∷ []) k m)),
    push ns up.1 (λ k m. low k (inr m)),
  )

  next_push : (ns : List ℕ) → ((n : ℕ) → IsIn ns n → n < number) → next_after (ns ++ number ∷ []) ≡ number + 1
  next_push [] low = omega arith
  next_push (n ∷ ns) low = let later = next_push ns (λ k m. low k (inr m)) in let lt = low n (inl refl) in omega (arith, later, lt)

  one_more : numbers y ≡ numbers x ++ number ∷ []
  one_more = same_members (numbers y) (numbers x ++ number ∷ []) (ascend y) (push (numbers x) (ascend x) below) to back
    where
      to : (n : ℕ) → IsIn (numbers y) n → IsIn (numbers x ++ number ∷ []) n
      to n m =
          ⊎_elim (λ (same : segment n ≡ segment number). subst (λ k. IsIn (numbers x ++ number ∷ []) k) (sym (ap (λ (q : FileName). q.number) same)) (IsIn-push (numbers x) number))
          (λ (differ : segment n ≡ segment number → ⊥). let f = in_there y n m in IsIn-append_left (numbers x) (number ∷ []) n (there_in x n f.0 (sym (others (segment n) differ) ∙ f.1))) (name_is (segment n) (segment number))

      back : (n : ℕ) → IsIn (numbers x ++ number ∷ []) n → IsIn (numbers y) n
      back n m =
          ⊎_elim (λ (r : IsIn (numbers x) n). let f = in_there x n r in let b = below n r in there_in y n f.0 (others (segment n) (apart n (λ e. omega (arith, b, e))) ∙ f.1))
          (λ (r : IsIn (number ∷ []) n). ⊎_elim (λ (same : number ≡ n). subst (λ k. IsIn (numbers y) k) same (there_in y number (replicate 65536 0) there)) (λ (no : ⊥). absurd no) r) (IsIn-append_cases (numbers x) (number ∷ []) n m)

  -- the log ends in it
  pub counted_made : (end : LogEnd) (missing snapshot : ℕ) → end.number ≡ number → end.number < NUMBER_END → length (numbers x) + missing ≡ number → IsNewestNumber snapshot x → AreCounted end missing snapshot y
  counted_made end missing snapshot here limit segments newest =
      let long : length (numbers y) ≡ length (numbers x) + 1 = ap length one_more ∙ length-append (numbers x) (number ∷ []) in
      let last : next_after (numbers y) ≡ number + 1 = ap next_after one_more ∙ next_push (numbers x) below in
      record {
        limit = limit;
        last = omega (arith, last, here);
        segments = omega (arith, long, segments, here);
        newest = same_newest x y (λ q low high. others q (λ e. let kind = ap (λ (n : FileName). n.kind) e in omega (arith, kind, low))) snapshot newest;
      }

-- the segment that begins where the log's next one is to be
pub counted_next : (log end : LogEnd) (first : ℕ) (x y : Files) → first ≡ next_after (numbers x) → y ≡ files_with_zeros (segment first) 65536 x → end.number ≡ first → first < NUMBER_END → StayCounted log end x y
counted_next log end first x y next made here limit missing snapshot has =
    let last = has.last in
    let segments = has.segments in
    counted_made first x y (none_from_after x first next) made end missing snapshot here (subst (λ (n : ℕ). n < NUMBER_END) (sym here) limit) (omega (arith, next, last, segments)) has.newest

-- room was made for an entry, or memory was wanted
module _ (log end : LogEnd) (old new : DiskState) (tells : old.tells ≡ true) (same : new.tells ≡ old.tells) (limit : log.number < NUMBER_END → end.number < NUMBER_END) (stood : LogEndStands log old) (stands : LogEndStands end new) where
  moved_counts : (end ≡ log) ⊎ (end ≡ record { number = log.number + 1; at = 0; clean = true }) → BeganOrNot (log.number + 1) old new → StayCounted log end old.files new.files
  moved_counts (inl still) (inl none) missing snapshot has = subst (λ (e : LogEnd). AreCounted e missing snapshot new.files) (sym still) (subst (λ (f : Files). AreCounted log missing snapshot f) (sym none.files) has)
  moved_counts (inl still) (inr made) missing snapshot has =
      let number = ap (λ (e : LogEnd). e.number) still in
      let gone = stands.above (same ∙ tells) (log.number + 1) (omega (arith, number)) in
      let here = there (log.number + 1) old.files new.files (λ n le. stood.above tells n (omega (arith, le))) made.files in
      absurd (cc)
  moved_counts (inr fresh) (inl none) missing snapshot has =
      let number = ap (λ (e : LogEnd). e.number) fresh in
      let clean = ap (λ (e : LogEnd). e.clean) fresh in
      let here = ((stands.kept clean).rest (same ∙ tells)).there in
      let gone = ap (λ (f : Files). get f (segment end.number)) none.files ∙ stood.above tells end.number (omega (arith, number)) in
      absurd (cc)
  moved_counts (inr fresh) (inr made) missing snapshot has =
      counted_made (log.number + 1) old.files new.files (λ n le. stood.above tells n (omega (arith, le))) made.files end missing snapshot (ap (λ (e : LogEnd). e.number) fresh) (limit has.limit) has.segments has.newest

  pub ready_counts : {X : Type 0} (r : Result X DiskErr) → (IsErrOf r DiskFailed → ⊥) → OnOk r ((end ≡ log) ⊎ (end ≡ record { number = log.number + 1; at = 0; clean = true })) → (IsErrOf r Memory → end ≡ log) → BeganOrNot (log.number + 1) old new
      → StayCounted log end old.files new.files
  ready_counts (Ok x) fine fresh wanted began = moved_counts fresh began
  ready_counts (Err Memory) fine fresh wanted began = moved_counts (inl (wanted refl)) began
  ready_counts (Err DiskFailed) fine fresh wanted began = absurd (fine refl)

-- an entry was added
module _ (log end : LogEnd) (old new : DiskState) (tells : old.tells ≡ true) (same : new.tells ≡ old.tells) (stood : LogEndStands log old) (stands : LogEndStands end new) where
  pub added_counts : log.clean ≡ true → end.clean ≡ true → end.number ≡ log.number → ((q : FileName) → (q ≡ segment log.number → ⊥) → get new.files q ≡ get old.files q) → StayCounted log end old.files new.files
  added_counts was is number others_stay missing snapshot has =
      let kept = counted_alike log missing snapshot snapshot old.files new.files same_segments
      (same_newest old.files new.files (λ q low high. others_stay q (λ e. let kind = ap (λ (n : FileName). n.kind) e in omega (arith, kind, low))) snapshot has.newest) has in
      record { limit = subst (λ (n : ℕ). n < NUMBER_END) (sym number) kept.limit; last = kept.last ∙ ap (λ (n : ℕ). n + 1) (sym number); segments = kept.segments ∙ ap (λ (n : ℕ). n + 1) (sym number); newest = kept.newest }
    where
      listed : (a b : DiskState) (n : ℕ) → ((q : FileName) → (q ≡ segment log.number → ⊥) → get b.files q ≡ get a.files q) → IsIn (numbers b.files) log.number → IsIn (numbers a.files) n → IsIn (numbers b.files) n
      listed a b n stay own m =
          ⊎_elim (λ (e : segment n ≡ segment log.number). subst (IsIn (numbers b.files)) (sym (ap (λ (q : FileName). q.number) e)) own)
          (λ (differ : segment n ≡ segment log.number → ⊥). let f = in_there a.files n m in there_in b.files n f.0 (stay (segment n) differ ∙ f.1)) (name_is (segment n) (segment log.number))

      own_old : IsIn (numbers old.files) log.number
      own_old = there_in old.files log.number _ ((stood.kept was).rest tells).there

      own_new : IsIn (numbers new.files) log.number
      own_new = subst (IsIn (numbers new.files)) number (there_in new.files end.number _ ((stands.kept is).rest (same ∙ tells)).there)

      same_segments : numbers new.files ≡ numbers old.files
      same_segments = same_members (numbers new.files) (numbers old.files) (ascend new.files) (ascend old.files) (λ n m. listed new old n (λ q apart. sym (others_stay q apart)) own_old m) (λ n m. listed old new n others_stay own_new m)

  pub entry_counts : {X E : Type 0} (r : Result X E) → log.clean ≡ true → (n at : ℕ) → OnOk r (end ≡ record { number = n; at = at; clean = true }) → n ≡ log.number → ((q : FileName) → (q ≡ segment log.number → ⊥) → get new.files q ≡ get old.files q)
      → OnOk r (StayCounted log end old.files new.files)
  entry_counts (Ok x) was n at next number others_stay = added_counts was (ap (λ (e : LogEnd). e.clean) next) (ap (λ (e : LogEnd). e.number) next ∙ number) others_stay
  entry_counts (Err e) was n at next number others_stay = tt
