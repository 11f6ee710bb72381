-- Files that hold what is in memory, where a segment begins, a snapshot is saved, the log is cut and older snapshots are taken away.
use Rattle.std.proofs.Common.{◌≡◌, rules, inl, inr, ⊎_elim, ℕ, ◌<◌, ◌≤◌, max, List, [], ◌∷◌, ◌++◌, refl, sym, ap, subst, ◌∙◌, arith, append-nil, Bool, true, false, ◌&&◌, Some, None, Option}
use Rattle.std.specs.Prelude.{filter, nat_lt, ◌==◌}
use Rattle.std.specs.Cmp.{nat_cmp_is}
use Rattle.std.specs.FinMap.{get, keys}
use Rattle.std.specs.declared.cmp.Ordering.TheVariants.{Less}
use Rattle.std.proofs.lemmas.Bool.{eqb-true, ltb-true, ltb-false, and_parts}
use Rattle.std.proofs.Math.Nat.{eq-or-lt_of_le}
use Rattle.m3_model.specs.Answers.{HasPoint}
use Rattle.m3_model.specs.Ascends.{Ascends}
use Rattle.m3_model.specs.Contents.{Contents}
use Rattle.m3_model.specs.Members.{IsIn}
use Rattle.m3_model.specs.declared.point.Point.{Point}
use Rattle.m3_model.proofs.MemberLemmas.{IsIn-append_left, IsIn-append_right, IsIn-append_cases, IsIn-push}
use Rattle.m3_model.proofs.Lists.{IsIn-filter_passes, filter-IsIn}
use Rattle.snapshot_files.specs.m3_outside.declared.file_name.FileName.{FileName}
use Rattle.snapshot_files.specs.m3_outside.Files.{Files, IsAbsent}
use Rattle.snapshot_files.specs.m3_outside.DiskState.{HaveSameNames}
use Rattle.snapshot_files.specs.m3_outside.Removal.{without_files, MayTakeAway}
use Rattle.snapshot_files.proofs.m3_outside_proofs.Names.{name_is}
use Rattle.snapshot_files.proofs.m3_outside_proofs.Removal.{gone_none, left_same}
use Rattle.snapshot_files.specs.commit_log.LogEnd.{NoneFrom, MayBeginSegment}
use Rattle.snapshot_files.specs.commit_log.Cutting.{segments_below}
use Rattle.snapshot_files.specs.wire_bytes.Snapshots.{Snapshot}
use Rattle.snapshot_files.specs.shard_files.HeldEntries.{points_of, tenure_of, fence_of}
use Rattle.snapshot_files.specs.shard_files.Parts.{is_open, KnownVolume, snapshot_data, snapshot_checkpoint, SnapshotHolds, is_snapshot_checkpoint, counted_snapshots, counted_volumes, IsNewest, NewestIs}
use Rattle.snapshot_files.specs.shard_files.FilesHold.{Counted, FilesHold, volume_points, points_in_newest, tenure_in_newest, fence_in_newest}
use Rattle.snapshot_files.specs.shard_files.Keeps.{HoldsKept, Keeps}
use Rattle.snapshot_files.specs.shard_files.Steps.{IsOfSnapshot, Saved, SavedNone, is_snapshot_file, is_older, snapshots_below}
use Rattle.snapshot_files.specs.shard_files.StepLaws.{MayBeSaved, MayBeCut, MayBeCleared}
use Rattle.snapshot_files.specs.shard_files.FileLaws.{SameKinds}
use Rattle.snapshot_files.proofs.shard_files_proofs.CountedLemmas.{Before, same_names, there_key, counted_asked, counted_open, is_counted, counted_ascend, last_is_last}
use Rattle.snapshot_files.proofs.shard_files_proofs.FilesHoldLemmas.{files_hold_one, append_brings}
use Rattle.snapshot_files.proofs.shard_files_proofs.NextLemmas.{one_keys}
use Rattle.snapshot_files.proofs.shard_files_proofs.PartLemmas.{snapshot_named, volumes_as, newest_as, log_as, one_volumes, one_newest, one_snapshot}
use Rattle.snapshot_files.proofs.shard_files_proofs.SnapshotSteps.{save_keeps, clear_keeps}
use Rattle.snapshot_files.proofs.shard_files_proofs.CutSteps.{cut_keeps, others}
use Rattle.volume_steps.specs.Known.{HoldsKnown, HaveContent}
use Rattle.volume_steps.proofs.KnownLemmas.{parts_are_one, are_known, is_file_point}
use Rattle.snapshot_steps.specs.Saved.{AreIn, HoldsSaved}

-- what is in memory is there
pub have_memory : (memory : Contents) (known : List KnownVolume) → HaveContent memory known memory
have_memory memory known p m = inl m

-- ---- the newest snapshot

less_name : (a b : ℕ) → a < b → Before (snapshot_checkpoint a) (snapshot_checkpoint b)
less_name a b lt = sym (nat_cmp_is a b Less lt)

-- a checkpoint that counts is that of its number
its_name : (y : Files) (n : FileName) → IsIn (counted_snapshots y) n → n ≡ snapshot_checkpoint n.number
its_name y n m = snapshot_named n (counted_asked is_snapshot_checkpoint y n m)

counts : (y : Files) (s : Snapshot) → SnapshotHolds s y → IsIn (counted_snapshots y) (snapshot_checkpoint s.number)
counts y s holds = is_counted is_snapshot_checkpoint y (snapshot_checkpoint s.number) refl (ap is_open holds.checkpoint)

-- of a whole snapshot that counts and that no other is above
pub newest_is : (y : Files) (s : Snapshot) (o : Option Snapshot) → NewestIs o y → SnapshotHolds s y → ((n : FileName) → IsIn (counted_snapshots y) n → n.number ≤ s.number) → o ≡ Some s
newest_is y s None is holds highest = absurd (subst (λ l. IsIn l (snapshot_checkpoint s.number)) is (counts y s holds))
newest_is y s (Some t) is holds highest =
    let own = snapshot_checkpoint s.number in
    let last = snapshot_checkpoint t.number in
    let listed : IsIn (counted_snapshots y) last = subst (λ l. IsIn l last) (sym is.last) (IsIn-push is.older last) in
    let le : t.number ≤ s.number = highest last listed in
    let not_below : t.number < s.number → ⊥ = λ lt. last_is_last is.older last own (subst (Ascends Before) is.last (counted_ascend is_snapshot_checkpoint y)) (subst (λ l. IsIn l own) is.last (counts y s holds)) (less_name t.number s.number lt) in
    ap Some (one_snapshot y t s is.holds holds (⊎_elim (λ (e : t.number ≡ s.number). e) (λ (lt : t.number < s.number). absurd (not_below lt)) (eq-or-lt_of_le le)))

-- no snapshot that counts is above the newest
pub none_above : (x : Files) (s : Snapshot) → IsNewest s x → (n : FileName) → IsIn (counted_snapshots x) n → n.number ≤ s.number
none_above x s is n m = by (nat_lt s.number n.number) refl
  where
    by : (b : Bool) → nat_lt s.number n.number ≡ b → n.number ≤ s.number
    by true e = absurd (last_is_last is.older (snapshot_checkpoint s.number) n (subst (Ascends Before) is.last (counted_ascend is_snapshot_checkpoint x)) (subst (λ l. IsIn l n) is.last m) (subst (Before (snapshot_checkpoint s.number)) (sym (its_name x n m)) (less_name s.number n.number (ltb-true s.number n.number e))))
    by false e = ltb-false s.number n.number e

-- ---- a segment that begins

pub begun_keeps : (memory : Contents) (known : List KnownVolume) (tenure fence : ℕ) (x y : Files) → HoldsKnown memory known tenure fence x → (kept : Contents) → HaveContent memory known kept → (number : ℕ) → NoneFrom number x → MayBeginSegment number x y → Keeps kept x y
begun_keeps memory known tenure fence x y has kept have number none may =
    let gains = append_brings.begins number x y none may in
    record {
      held = λ before t f held.
          let all = gains.held before t f held in
          let t_is : max t 0 ≡ t = omega arith in
          let f_is : max f 0 ≡ f = omega arith in
          record {
            points = all.points;
            held = subst (λ (n : ℕ). FilesHold all.points n f y) t_is (subst (λ (n : ℕ). FilesHold all.points (max t 0) n y) f_is all.held);
            sheds = record {
              nothing_else = λ p m. ⊎_elim (λ (old : IsIn before p). old) (λ (none : ⊥). absurd none) (all.grows.nothing_else p m);
              whole = λ p m. all.grows.stays p (is_file_point memory known tenure fence x has p (have p m) before t f held);
            };
          };
      snapshots = gains.snapshots;
    }

-- ---- a snapshot that is saved

-- what files hold of which each image keeps what is in memory
module _ (memory : Contents) (known : List KnownVolume) (tenure fence : ℕ) (x y : Files) (has : HoldsKnown memory known tenure fence x) where
  -- the same volumes, and a newest snapshot with all that is in memory
  pub newest_known : (s : Snapshot) → Keeps memory x y → SameKinds 1 7 x y → ((o : Option Snapshot) → NewestIs o y → o ≡ Some s) → ((p : Point) → HasPoint memory p → IsIn s.points p) → s.tenure ≡ tenure → s.fence ≡ fence
      → HoldsSaved s memory known tenure fence y
  newest_known s keeps volumes newest all t_is f_is =
      let left : HoldsKept memory has.points tenure fence y = keeps.held has.points tenure fence has.held in
      let parts = left.held.parts in
      let is : parts.newest ≡ Some s = newest parts.newest left.held.holds.newest in
      record {
        holds = record {
          points = left.points;
          held = left.held;
          volumes = one_volumes y (counted_volumes y) parts.volumes known left.held.holds.volumes (volumes_as x y volumes known (are_known memory known tenure fence x has));
          there = λ p m. IsIn-append_left (points_in_newest parts.newest) (points_of parts.entries) p (subst (λ (o : Option Snapshot). IsIn (points_in_newest o) p) (sym is) (all p m));
        };
        newest = is;
        all = all;
        tenure_is = t_is;
        fence_is = f_is;
      }

  module _ (s : Snapshot) (names : (name : FileName) → IsOfSnapshot s.number name → IsAbsent name x) (above : (name : FileName) → IsIn (counted_snapshots x) name → name.number < s.number)
      (points : AreIn memory s.points) (t_is : s.tenure ≡ tenure) (f_is : s.fence ≡ fence) where
    pub may_be_saved : (kept : Contents) → HaveContent memory known kept → MayBeSaved kept s x
    may_be_saved kept have = record {
      absent = names;
      above = above;
      points = λ p m. is_file_point memory known tenure fence x has p (inl ((points p).0 m));
      numbers = λ ps t f held. let one = files_hold_one has.points ps tenure t fence f x has.held held in (t_is ∙ one.1, f_is ∙ one.2);
      whole = λ p m. is_file_point memory known tenure fence x has p (have p m);
      without_older = λ parts holds p m.
          let same = parts_are_one parts has.held.parts x holds has.held.holds in
          let volumes : parts.volumes ≡ known = ap (λ (q : Counted). q.volumes) same ∙ has.volumes in
          ⊎_elim (λ here. IsIn-append_right (volume_points parts.volumes) (s.points ++ points_of parts.entries) p (IsIn-append_left s.points (points_of parts.entries) p ((points p).1 here)))
          (λ vol. IsIn-append_left (volume_points parts.volumes) (s.points ++ points_of parts.entries) p (subst (λ ks. IsIn (volume_points ks) p) (sym volumes) vol)) (have p m);
    }

    own_kind : (q : FileName) → IsOfSnapshot s.number q → 8 ≤ q.kind
    own_kind q (inl e) = let k = ap (λ (n : FileName). n.kind) e in omega (arith, k)
    own_kind q (inr e) = let k = ap (λ (n : FileName). n.kind) e in omega (arith, k)

    -- another snapshot counted before
    was_counted : ((name : FileName) → ¬ IsOfSnapshot s.number name → get y name ≡ get x name) → (n : FileName) → IsIn (counted_snapshots y) n → (n ≡ snapshot_checkpoint s.number → ⊥) → IsIn (counted_snapshots x) n
    was_counted stay n m apart =
        let asked = counted_asked is_snapshot_checkpoint y n m in
        let nine = ap (λ (q : FileName). q.kind) (snapshot_named n asked) in
        let same : get y n ≡ get x n = stay n (λ own. ⊎_elim (λ (e : n ≡ snapshot_data s.number). let eight = ap (λ (q : FileName). q.kind) e in omega (arith, nine, eight)) (λ (e : n ≡ snapshot_checkpoint s.number). apart e) own) in
        is_counted is_snapshot_checkpoint x n asked (ap is_open (sym same) ∙ counted_open is_snapshot_checkpoint y n m)

    pub saved_known : Saved s x y → HoldsSaved s memory known tenure fence y
    saved_known saved = newest_known s (save_keeps memory s x y (may_be_saved memory (have_memory memory known)) (record { others = saved.others; either = inr saved.holds }))
        (λ q low high. saved.others q (λ own. let k = own_kind q own in omega (arith, k, high)))
        (λ o is. newest_is y s o is saved.holds (λ n m. ⊎_elim (λ (e : n ≡ snapshot_checkpoint s.number). let same = ap (λ (q : FileName). q.number) e in omega (arith, same))
        (λ (apart : n ≡ snapshot_checkpoint s.number → ⊥). let lt = above n (was_counted saved.others n m apart) in omega (arith, lt)) (name_is n (snapshot_checkpoint s.number))))
        (λ p m. (points p).1 m) t_is f_is

-- a snapshot that wasn't saved, of which no file was there
module _ (x y : Files) (number : ℕ) (absent : (name : FileName) → IsOfSnapshot number name → IsAbsent name x) (none : SavedNone number x y) where
  of_kind : (q : FileName) → IsOfSnapshot number q → 8 ≤ q.kind
  of_kind q (inl e) = let k = ap (λ (n : FileName). n.kind) e in omega (arith, k)
  of_kind q (inr e) = let k = ap (λ (n : FileName). n.kind) e in omega (arith, k)

  -- another snapshot stays
  other : (t : Snapshot) → SnapshotHolds t x → SnapshotHolds t y
  other t h = record {
    values = h.values;
    body = none.others (snapshot_data t.number) (λ own. let gone = absent (snapshot_data t.number) own in let there = h.body in cc) ∙ h.body;
    checkpoint = none.others (snapshot_checkpoint t.number) (λ own. let gone = absent (snapshot_checkpoint t.number) own in let there = h.checkpoint in cc) ∙ h.checkpoint;
  }

  -- the same ones count
  gate : (n : FileName) → is_snapshot_checkpoint n ≡ true → is_open (get y n) ≡ is_open (get x n)
  gate n asked = ⊎_elim (λ (e : n ≡ snapshot_checkpoint number). ap (λ q. is_open (get y q)) e ∙ none.closed ∙ sym (ap (λ q. is_open (get x q)) e ∙ ap is_open (absent (snapshot_checkpoint number) (inr refl))))
      (λ (apart : n ≡ snapshot_checkpoint number → ⊥). ap is_open (none.others n (λ own. ⊎_elim (λ (e : n ≡ snapshot_data number).
      let nine = ap (λ (q : FileName). q.kind) (snapshot_named n asked) in
      let eight = ap (λ (q : FileName). q.kind) e in
      omega (arith, nine, eight)) (λ (e : n ≡ snapshot_checkpoint number). apart e) own))) (name_is n (snapshot_checkpoint number))

  same_counted : counted_snapshots y ≡ counted_snapshots x
  same_counted = same_names (counted_snapshots y) (counted_snapshots x) (counted_ascend is_snapshot_checkpoint y) (counted_ascend is_snapshot_checkpoint x)
      (λ n m. let a = counted_asked is_snapshot_checkpoint y n m in is_counted is_snapshot_checkpoint x n a (sym (gate n a) ∙ counted_open is_snapshot_checkpoint y n m))
      (λ n m. let a = counted_asked is_snapshot_checkpoint x n m in is_counted is_snapshot_checkpoint y n a (gate n a ∙ counted_open is_snapshot_checkpoint x n m))

  pub unsaved_newest : (o : Option Snapshot) → NewestIs o x → NewestIs o y
  unsaved_newest None is = same_counted ∙ is
  unsaved_newest (Some t) is = record { older = is.older; last = same_counted ∙ is.last; holds = other t is.holds }

  pub unsaved_known : (memory : Contents) (known : List KnownVolume) (tenure fence : ℕ) → HoldsKnown memory known tenure fence x → HoldsKnown memory known tenure fence y
  unsaved_known memory known tenure fence has = record {
    points = has.points;
    held = record {
      parts = has.held.parts;
      holds = record {
        volumes = volumes_as x y (λ q low high. none.others q (λ own. let k = of_kind q own in omega (arith, k, high))) has.held.parts.volumes has.held.holds.volumes;
        newest = unsaved_newest has.held.parts.newest has.held.holds.newest;
        log = log_as x y (λ q low high. none.others q (λ own. let k = of_kind q own in omega (arith, k, high))) has.held.parts.entries has.held.holds.log;
      };
      points_are = has.held.points_are;
      tenure_is = has.held.tenure_is;
      fence_is = has.held.fence_is;
    };
    volumes = has.volumes;
    there = has.there;
  }

-- ---- a log that is cut, and older snapshots that are taken away

-- the first few of the files of snapshots below the number are gone
module _ (number : ℕ) (f x y : Files) (gone left : List FileName) (split : snapshots_below number f ≡ gone ++ left) (taken : y ≡ without_files gone x) where
  -- what is gone is a file of a snapshot below the number
  pub gone_low : (q : FileName) → IsIn gone q → (8 ≤ q.kind) × (q.number < number)
  gone_low q g =
      let listed : IsIn (filter (is_older 9 number) (keys f) ++ filter (is_older 8 number) (keys f)) q = subst (λ l. IsIn l q) (sym split) (IsIn-append_left gone left q g) in
      ⊎_elim (λ (c : IsIn (filter (is_older 9 number) (keys f)) q). let k = low 9 (IsIn-filter_passes (is_older 9 number) (keys f) q c) in let kind = k.0 in (omega (arith, kind), k.1))
      (λ (b : IsIn (filter (is_older 8 number) (keys f)) q). let k = low 8 (IsIn-filter_passes (is_older 8 number) (keys f) q b) in let kind = k.0 in (omega (arith, kind), k.1))
      (IsIn-append_cases (filter (is_older 9 number) (keys f)) (filter (is_older 8 number) (keys f)) q listed)
    where
      low : (kind : ℕ) → is_older kind number q ≡ true → (q.kind ≡ kind) × (q.number < number)
      low kind e =
          let first = and_parts (is_snapshot_file kind q) (nat_lt q.number number) e in
          let second = and_parts (q.kind == kind) ((q.ns == 0) && (q.block == 0)) first.0 in
          (eqb-true q.kind kind second.0, ltb-true q.number number first.1)

  pub stays : (q : FileName) → (IsIn gone q → ⊥) → get y q ≡ get x q
  stays q out = ap (λ (z : Files). get z q) taken ∙ left_same gone x q out

  pub low_stays : (q : FileName) → q.kind ≤ 7 → get y q ≡ get x q
  low_stays q low = stays q (λ g. let k = (gone_low q g).0 in omega (arith, k, low))

  pub high_stays : (q : FileName) → number ≤ q.number → get y q ≡ get x q
  high_stays q high = stays q (λ g. let k = (gone_low q g).1 in omega (arith, k, high))

module _ (s : Snapshot) (memory : Contents) (known : List KnownVolume) (tenure fence : ℕ) (x y : Files) (has : HoldsSaved s memory known tenure fence x) where
  abbrev parts : Counted
  parts = has.holds.held.parts

  is_newest : IsNewest s x
  is_newest = subst (λ o. NewestIs o x) has.newest has.holds.held.holds.newest

  pub may_be_cut : (kept : Contents) → HaveContent memory known kept → MayBeCut kept x
  may_be_cut kept have = record {
    points = λ other holds p m. subst (λ (q : Counted). IsIn (volume_points q.volumes ++ points_in_newest q.newest) p) (sym (parts_are_one other parts x holds has.holds.held.holds))
        (⊎_elim (λ here. IsIn-append_right (volume_points parts.volumes) (points_in_newest parts.newest) p (subst (λ (o : Option Snapshot). IsIn (points_in_newest o) p) (sym has.newest) (has.all p here)))
        (λ vol. IsIn-append_left (volume_points parts.volumes) (points_in_newest parts.newest) p (subst (λ ks. IsIn (volume_points ks) p) (sym has.holds.volumes) vol)) (have p m));
    tenure = λ other holds. subst (λ (q : Counted). tenure_of q.entries ≤ tenure_in_newest q.newest) (sym (parts_are_one other parts x holds has.holds.held.holds)) low_tenure;
    fence = λ other holds. subst (λ (q : Counted). fence_of q.entries ≤ fence_in_newest q.newest) (sym (parts_are_one other parts x holds has.holds.held.holds)) low_fence;
  }
    where
      low_tenure : tenure_of parts.entries ≤ tenure_in_newest parts.newest
      low_tenure =
          let own : tenure_in_newest parts.newest ≡ s.tenure = ap tenure_in_newest has.newest in
          let all = has.holds.held.tenure_is in
          let same = has.tenure_is in
          omega (arith, own, all, same)

      low_fence : fence_of parts.entries ≤ fence_in_newest parts.newest
      low_fence =
          let own : fence_in_newest parts.newest ≡ max s.fence s.tenure = ap fence_in_newest has.newest in
          let all = has.holds.held.fence_is in
          let same = has.fence_is in
          omega (arith, own, all, same)

  pub cut_saved : (number : ℕ) → MayTakeAway (segments_below number x) x y → HoldsSaved s memory known tenure fence y
  cut_saved number takes = newest_known memory known tenure fence x y has.holds s (cut_keeps memory number x y (may_be_cut memory (have_memory memory known)) takes)
      (λ q low high. others number x y takes q low)
      (λ o is. one_newest y o (Some s) is (newest_as x y (λ q low high. others number x y takes q (omega (arith, low))) (Some s) is_newest))
      has.all has.tenure_is has.fence_is

  pub may_be_cleared : (number : ℕ) → number ≤ s.number → (kept : Contents) → HaveContent memory known kept → MayBeCleared kept number x
  may_be_cleared number le kept have = record { snapshot = s; newest = is_newest; not_below = le; whole = λ p m. is_file_point memory known tenure fence x has.holds p (have p m) }

  module _ (number : ℕ) (le : number ≤ s.number) (gone left : List FileName) (split : snapshots_below number x ≡ gone ++ left) (taken : y ≡ without_files gone x) where
    own_stays : (q : FileName) → q.number ≡ s.number → get y q ≡ get x q
    own_stays q e = high_stays number x x y gone left split taken q (omega (arith, e, le))

    -- a snapshot that counts counted before
    pub was_before : (n : FileName) → IsIn (counted_snapshots y) n → IsIn (counted_snapshots x) n
    was_before n m =
        let open_ = counted_open is_snapshot_checkpoint y n m in
        let there : (IsIn gone n → ⊥) = λ g.
        let none : get y n ≡ None = ap (λ (f : Files). get f n) taken ∙ gone_none gone x n g in
        let never : is_open None ≡ true = ap is_open (sym none) ∙ open_ in
        cc in
        is_counted is_snapshot_checkpoint x n (counted_asked is_snapshot_checkpoint y n m) (ap is_open (sym (stays number x x y gone left split taken n there)) ∙ open_)

    pub own_holds : SnapshotHolds s y
    own_holds = record { values = is_newest.holds.values; body = own_stays (snapshot_data s.number) refl ∙ is_newest.holds.body; checkpoint = own_stays (snapshot_checkpoint s.number) refl ∙ is_newest.holds.checkpoint }

    pub cleared_saved : HoldsSaved s memory known tenure fence y
    cleared_saved = newest_known memory known tenure fence x y has.holds s (clear_keeps memory number x y (may_be_cleared number le memory (have_memory memory known)) (record { gone = gone; left = left; split = split; taken = taken }))
        (λ q low high. low_stays number x x y gone left split taken q high)
        (λ o is. newest_is y s o is own_holds (λ n m. none_above x s is_newest n (was_before n m)))
        has.all has.tenure_is has.fence_is

  -- where all below its own number are gone, it alone counts
  pub cleared_alone : (f : Files) → HaveSameNames f x → y ≡ without_files (snapshots_below s.number f) x → counted_snapshots y ≡ snapshot_checkpoint s.number ∷ []
  cleared_alone f same taken =
      let listed : snapshots_below s.number x ≡ snapshots_below s.number f = ap (λ (l : List FileName). filter (is_older 9 s.number) l ++ filter (is_older 8 s.number) l) (one_keys f x same) in
      let all : snapshots_below s.number x ≡ snapshots_below s.number f ++ [] = listed ∙ sym (append-nil (snapshots_below s.number f)) in
      let le : s.number ≤ s.number = omega arith in
      same_names (counted_snapshots y) (snapshot_checkpoint s.number ∷ []) (counted_ascend is_snapshot_checkpoint y) ((λ q m. absurd m), tt)
      (λ n m. inl (sym (its_name y n m ∙ ap snapshot_checkpoint (only n (was_before s.number le (snapshots_below s.number f) [] all taken n m) (counted_open is_snapshot_checkpoint y n m)))))
      (λ n m. ⊎_elim (λ (e : snapshot_checkpoint s.number ≡ n). subst (IsIn (counted_snapshots y)) e (counts y s (own_holds s.number le (snapshots_below s.number f) [] all taken))) (λ (none : ⊥). absurd none) m)
    where
      ltb_of : (a b : ℕ) → a < b → nat_lt a b ≡ true
      ltb_of a b lt = search (rules, lt)

      low : (n : FileName) → IsIn (counted_snapshots x) n → is_open (get y n) ≡ true → n.number < s.number → (o : Option (List ℕ)) → get x n ≡ o → ⊥
      low n m open_ lt None e = let never : is_open None ≡ true = ap is_open (sym e) ∙ counted_open is_snapshot_checkpoint x n m in cc
      low n m open_ lt (Some file) e =
          let asked : is_snapshot_file 9 n ≡ true = counted_asked is_snapshot_checkpoint x n m in
          let test : is_older 9 s.number n ≡ true = ap (λ b. b && nat_lt n.number s.number) asked ∙ ltb_of n.number s.number lt in
          let older : IsIn (snapshots_below s.number x) n = IsIn-append_left (filter (is_older 9 s.number) (keys x)) (filter (is_older 8 s.number) (keys x)) n (filter-IsIn (is_older 9 s.number) (keys x) n (there_key x n file e) test) in
          let same_list : snapshots_below s.number x ≡ snapshots_below s.number f = ap (λ (l : List FileName). filter (is_older 9 s.number) l ++ filter (is_older 8 s.number) l) (one_keys f x same) in
          let none : get y n ≡ None = ap (λ (z : Files). get z n) taken ∙ gone_none (snapshots_below s.number f) x n (subst (λ l. IsIn l n) same_list older) in
          let never : is_open None ≡ true = ap is_open (sym none) ∙ open_ in
          cc

      only : (n : FileName) → IsIn (counted_snapshots x) n → is_open (get y n) ≡ true → n.number ≡ s.number
      only n m open_ = ⊎_elim (λ (e : n.number ≡ s.number). e) (λ (lt : n.number < s.number). absurd (low n m open_ lt (get x n) refl)) (eq-or-lt_of_le (none_above x s is_newest n m))
