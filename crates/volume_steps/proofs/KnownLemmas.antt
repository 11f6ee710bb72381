-- Files that hold what is in memory, where a volume is written or taken away.
use Rattle.std.proofs.Common.{◌≡◌, inl, inr, ⊎_elim, ℕ, List, [], ◌∷◌, ◌++◌, refl, sym, ap, subst, ◌∙◌, Bool, true, false, not, Option}
use Rattle.std.specs.Prelude.{filter}
use Rattle.std.specs.FinMap.{get}
use Rattle.m3_model.specs.Contents.{Contents}
use Rattle.m3_model.specs.Members.{IsIn}
use Rattle.m3_model.specs.declared.point.Point.{Point}
use Rattle.m3_model.specs.declared.point.Series.{Series}
use Rattle.m3_model.proofs.MemberLemmas.{IsIn-append_left, IsIn-append_right, IsIn-append_cases}
use Rattle.m3_model.proofs.Lists.{IsIn-filter, IsIn-filter_passes, filter-IsIn}
use Rattle.m3_model.proofs.Ascending.{Ascends-filter}
use Rattle.shard_files.specs.m3_outside.declared.file_name.FileName.{FileName}
use Rattle.shard_files.specs.m3_outside.Files.{Files, IsAbsent}
use Rattle.shard_files.proofs.m3_outside_proofs.Names.{name_is}
use Rattle.shard_files.specs.wire_bytes.Volumes.{VolumeHead, Part, Checkpoint}
use Rattle.shard_files.specs.Parts.{is_open, part_name, part_of, KnownVolume, IsKnown, AreKnown, VolumesAre, is_volume_checkpoint, counted_volumes}
use Rattle.shard_files.specs.FilesHold.{Counted, HoldParts, file_points, points_known, volume_points}
use Rattle.shard_files.specs.Keeps.{IsFilePoint}
use Rattle.shard_files.specs.StepLaws.{IsElsewhere, MayBeTaken, MayBeWritten}
use Rattle.shard_files.specs.FileLaws.{SameKinds}
use Rattle.shard_files.proofs.CountedLemmas.{Before, same_names, counted_asked, counted_open, is_counted, counted_ascend}
use Rattle.shard_files.proofs.HeldLemmas.{entries_are_one}
use Rattle.shard_files.proofs.PartLemmas.{volume_kind, newest_as, log_as, one_volumes, one_newest}
use Rattle.shard_files.proofs.VolumeSteps.{other_stays, still_counted, was_counted}
use Rattle.volume_steps.specs.Known.{points_beside, HoldsKnown, StandsIn, HaveContent, HaveRows}
use Rattle.volume_steps.specs.KnownLists.{with_volume, is_volume_at, without_volume}
use Rattle.volume_steps.specs.Laws.{HoldWithFewer}
use Rattle.volume_steps.proofs.ListLemmas.{insert_name, named_in, in_named, insert_ascends, insert_known, name_at, at_is, at_itself, filter_known}

-- ---- points of known volumes

pub points_of_known : (ks : List KnownVolume) (p : Point) → IsIn (volume_points ks) p → (k : KnownVolume) × IsIn ks k × IsIn (points_known k) p
points_of_known [] p m = absurd m
points_of_known (k ∷ ks) p m = ⊎_elim (λ (here : IsIn (points_known k) p). (k, inl refl, here)) (λ (rest : IsIn (volume_points ks) p). let later = points_of_known ks p rest in (later.0, inr later.1, later.2)) (IsIn-append_cases (points_known k) (volume_points ks) p m)

pub known_of_points : (ks : List KnownVolume) (k : KnownVolume) (p : Point) → IsIn ks k → IsIn (points_known k) p → IsIn (volume_points ks) p
known_of_points [] k p m q = absurd m
known_of_points (j ∷ ks) k p (inl e) q = IsIn-append_left (points_known j) (volume_points ks) p (subst (λ (i : KnownVolume). IsIn (points_known i) p) (sym e) q)
known_of_points (j ∷ ks) k p (inr m) q = IsIn-append_right (points_known j) (volume_points ks) p (known_of_points ks k p m q)

-- ---- what is known of files

-- of one map of files one thing counts
pub parts_are_one : (a b : Counted) (x : Files) → HoldParts a x → HoldParts b x → a ≡ b
parts_are_one a b x p q =
    let volumes = one_volumes x (counted_volumes x) a.volumes b.volumes p.volumes q.volumes in
    let newest = one_newest x a.newest b.newest p.newest q.newest in
    let log = entries_are_one a.entries b.entries x p.log q.log in
    λ i. record { volumes = volumes i; newest = newest i; entries = log i }

not_at : (ns start number : ℕ) (k : KnownVolume) → not (is_volume_at ns start number k) ≡ true → part_of Checkpoint k.head ≡ part_name Checkpoint ns start number → ⊥
not_at ns start number k test e =
    let at : is_volume_at ns start number k ≡ true = ap (name_at ns start number) e ∙ at_itself ns start number in
    let never : not true ≡ true = ap not (sym at) ∙ test in
    cc

module _ (memory : Contents) (known : List KnownVolume) (tenure fence : ℕ) (x : Files) (has : HoldsKnown memory known tenure fence x) where
  abbrev parts : Counted
  parts = has.held.parts

  pub are_known : VolumesAre known x
  are_known = subst (λ ks. VolumesAre ks x) has.volumes has.held.holds.volumes

  pub stands_there : (p : Point) → StandsIn memory known p → IsIn (file_points parts) p
  stands_there p (inl here) = IsIn-append_right (volume_points parts.volumes) (points_beside parts) p (has.there p here)
  stands_there p (inr vol) = IsIn-append_left (volume_points parts.volumes) (points_beside parts) p (subst (λ ks. IsIn (volume_points ks) p) (sym has.volumes) vol)

  pub is_file_point : (p : Point) → StandsIn memory known p → IsFilePoint p x
  is_file_point p stands points t f held =
      subst (λ l. IsIn l p) (sym held.points_are) (subst (λ (q : Counted). IsIn (file_points q) p) (sym (parts_are_one held.parts parts x held.holds has.held.holds)) (stands_there p stands))

  -- a volume may be written whose points are there already
  pub may_be_written : (kept : Contents) (v : VolumeHead) (rows : List Series) → ((part : Part) → IsAbsent (part_of part v) x) → HaveContent memory known kept → HaveRows memory known v.ns rows → MayBeWritten kept v rows x
  may_be_written kept v rows absent have from = record { absent = absent; points = λ p m. is_file_point p (from p m); whole = λ p m. is_file_point p (have p m) }

  -- a volume may be taken away without which all that is to be kept is there
  pub may_be_taken : (kept : Contents) (ns start number : ℕ) → HaveContent memory (without_volume ns start number known) kept → MayBeTaken kept ns start number x
  may_be_taken kept ns start number have other holds p m = subst (λ (q : Counted). IsElsewhere (part_name Checkpoint ns start number) q p) (sym (parts_are_one other parts x holds has.held.holds)) (by (have p m))
    where
      by : StandsIn memory (without_volume ns start number known) p → IsElsewhere (part_name Checkpoint ns start number) parts p
      by (inl here) = inr (has.there p here)
      by (inr vol) =
          let k = points_of_known (without_volume ns start number known) p vol in
          let old : IsIn known k.0 = IsIn-filter (λ j. not (is_volume_at ns start number j)) known k.0 k.1 in
          let test : not (is_volume_at ns start number k.0) ≡ true = IsIn-filter_passes (λ j. not (is_volume_at ns start number j)) known k.0 k.1 in
          inl (k.0, subst (λ ks. IsIn ks k.0) (sym has.volumes) old, (λ e. not_at ns start number k.0 test e), k.2)

  -- other files, whose log and snapshots are the same
  pub with_known : (js : List KnownVolume) (y : Files) → SameKinds 0 0 x y → SameKinds 8 9 x y → VolumesAre js y → HoldsKnown memory js tenure fence y
  with_known js y log snapshots are = record {
    points = volume_points js ++ points_beside parts;
    held = record {
      parts = record { volumes = js; newest = parts.newest; entries = parts.entries };
      holds = record { volumes = are; newest = newest_as x y snapshots parts.newest has.held.holds.newest; log = log_as x y log parts.entries has.held.holds.log };
      points_are = refl;
      tenure_is = has.held.tenure_is;
      fence_is = has.held.fence_is;
    };
    volumes = refl;
    there = has.there;
  }

pub hold_with_fewer : HoldWithFewer
hold_with_fewer memory fewer known tenure fence x has less = record { points = has.points; held = has.held; volumes = has.volumes; there = λ p m. has.there p (less p m) }

-- ---- names of checkpoints

checkpoint_kind : (x : Files) (n : FileName) → IsIn (counted_volumes x) n → n.kind ≡ 7
checkpoint_kind x n m = volume_kind n (counted_asked is_volume_checkpoint x n m)

never_open : (o : Option (List ℕ)) → is_open o ≡ true → is_open o ≡ false → ⊥
never_open o a b = let never : true ≡ false = sym a ∙ b in cc

-- ---- one volume's files change, and no others

module _ (ns start number : ℕ) (x y : Files) (stay : (q : FileName) → ((part : Part) → q ≡ part_name part ns start number → ⊥) → get y q ≡ get x q) where
  abbrev own : FileName
  own = part_name Checkpoint ns start number

  -- known volumes that are others stay
  others_known : (names : List FileName) (ks : List KnownVolume) → ((n : FileName) → IsIn names n → n ≡ own → ⊥) → AreKnown x names ks → AreKnown y names ks
  others_known [] [] apart are = tt
  others_known [] (k ∷ ks) apart are = absurd are
  others_known (n ∷ names) [] apart are = absurd are
  others_known (n ∷ names) (k ∷ ks) apart are = (other_stays ns start number x y stay n k (apart n (inl refl)) are.0, others_known names ks (λ q m. apart q (inr m)) are.1)

  -- it doesn't count, neither before nor now
  pub closed_known : (ks : List KnownVolume) → IsAbsent own x → is_open (get y own) ≡ false → VolumesAre ks x → VolumesAre ks y
  closed_known ks absent closed are =
      let before : (n : FileName) → IsIn (counted_volumes x) n → n ≡ own → ⊥ = λ n m e.
      never_open (get x n) (counted_open is_volume_checkpoint x n m) (ap (λ q. is_open (get x q)) e ∙ ap is_open absent) in
      let now : (n : FileName) → IsIn (counted_volumes y) n → n ≡ own → ⊥ = λ n m e.
      never_open (get y n) (counted_open is_volume_checkpoint y n m) (ap (λ q. is_open (get y q)) e ∙ closed) in
      let names : counted_volumes y ≡ counted_volumes x = same_names (counted_volumes y) (counted_volumes x) (counted_ascend is_volume_checkpoint y) (counted_ascend is_volume_checkpoint x)
      (λ n m. was_counted ns start number x y stay n (now n m) m) (λ n m. still_counted ns start number x y stay n (before n m) m) in
      subst (λ l. AreKnown y l ks) (sym names) (others_known (counted_volumes x) ks before are)

  -- it counts now, and didn't before
  pub written_known : (ks : List KnownVolume) (k : KnownVolume) → IsKnown y own k → IsAbsent own x → VolumesAre ks x → VolumesAre (with_volume k ks) y
  written_known ks k is absent are =
      let before : (n : FileName) → IsIn (counted_volumes x) n → n ≡ own → ⊥ = λ n m e.
      never_open (get x n) (counted_open is_volume_checkpoint x n m) (ap (λ q. is_open (get x q)) e ∙ ap is_open absent) in
      let counts : IsIn (counted_volumes y) own = is_counted is_volume_checkpoint y own refl (ap (λ q. is_open (get y q)) is.named ∙ ap is_open (is.holds.parts Checkpoint)) in
      let names : counted_volumes y ≡ insert_name own (counted_volumes x) = same_names (counted_volumes y) (insert_name own (counted_volumes x)) (counted_ascend is_volume_checkpoint y)
      (insert_ascends own (counted_volumes x) (λ n m. (checkpoint_kind x n m, before n m)) (counted_ascend is_volume_checkpoint x))
      (λ n m. in_named own (counted_volumes x) n (⊎_elim (λ (e : n ≡ own). inl (sym e)) (λ (apart : n ≡ own → ⊥). inr (was_counted ns start number x y stay n apart m)) (name_is n own)))
      (λ n m. ⊎_elim (λ (e : own ≡ n). subst (IsIn (counted_volumes y)) e counts) (λ (old : IsIn (counted_volumes x) n). still_counted ns start number x y stay n (before n old) old) (named_in own (counted_volumes x) n m)) in
      subst (λ l. AreKnown y l (with_volume k ks)) (sym names) (insert_known y own k is (counted_volumes x) ks (others_known (counted_volumes x) ks before are))

  -- it doesn't count now
  pub removed_known : (ks : List KnownVolume) → IsAbsent own y → VolumesAre ks x → VolumesAre (without_volume ns start number ks) y
  removed_known ks gone are =
      let now : (n : FileName) → IsIn (counted_volumes y) n → n ≡ own → ⊥ = λ n m e.
      never_open (get y n) (counted_open is_volume_checkpoint y n m) (ap (λ q. is_open (get y q)) e ∙ ap is_open gone) in
      let names : counted_volumes y ≡ left (counted_volumes x) = same_names (counted_volumes y) (left (counted_volumes x)) (counted_ascend is_volume_checkpoint y) (Ascends-filter Before (λ n. not (name_at ns start number n)) (counted_volumes x) (counted_ascend is_volume_checkpoint x))
      (λ n m. filter-IsIn (λ q. not (name_at ns start number q)) (counted_volumes x) n (was_counted ns start number x y stay n (now n m) m) (other_test n (checkpoint_kind y n m) (now n m)))
      (λ n m.
      let old = IsIn-filter (λ q. not (name_at ns start number q)) (counted_volumes x) n m in
      still_counted ns start number x y stay n (λ e. own_test n (IsIn-filter_passes (λ q. not (name_at ns start number q)) (counted_volumes x) n m) e) old) in
      subst (λ l. AreKnown y l (without_volume ns start number ks)) (sym names)
      (others_known (left (counted_volumes x)) (without_volume ns start number ks) (λ n m e. own_test n (IsIn-filter_passes (λ q. not (name_at ns start number q)) (counted_volumes x) n m) e) (filter_known ns start number x (counted_volumes x) ks are))
    where
      left : List FileName → List FileName
      left names = filter (λ n. not (name_at ns start number n)) names

      own_test : (n : FileName) → not (name_at ns start number n) ≡ true → n ≡ own → ⊥
      own_test n test e = let never : not true ≡ true = ap not (sym (ap (name_at ns start number) e ∙ at_itself ns start number)) ∙ test in cc

      other_test : (n : FileName) → n.kind ≡ 7 → (n ≡ own → ⊥) → not (name_at ns start number n) ≡ true
      other_test n kind apart = by (name_at ns start number n) refl
        where
          by : (b : Bool) → name_at ns start number n ≡ b → not b ≡ true
          by true e = absurd (apart (at_is ns start number n kind e))
          by false e = refl
