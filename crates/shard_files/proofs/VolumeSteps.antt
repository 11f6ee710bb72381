-- A volume that is written, and one that is taken away.
use Rattle.std.proofs.Common.{◌≡◌, ◌⊎◌, inl, inr, ⊎_elim, ℕ, ◌<◌, ◌≤◌, List, [], ◌∷◌, ◌++◌, map, refl, sym, ap, subst, ◌∙◌, arith, true, false, cond, Some, None, Option}
use Rattle.std.specs.Prelude.{is_some, filter}
use Rattle.std.specs.FinMap.{get}
use Rattle.commit_log.specs.m3_model.Answers.{HasPoint}
use Rattle.commit_log.specs.m3_model.Contents.{Contents}
use Rattle.commit_log.specs.m3_model.Members.{IsIn}
use Rattle.commit_log.specs.m3_model.declared.point.Point.{Point}
use Rattle.commit_log.specs.m3_model.declared.point.Series.{Series}
use Rattle.commit_log.proofs.m3_model_proofs.MemberLemmas.{IsIn-append_left, IsIn-append_right, IsIn-append_cases, IsIn-map}
use Rattle.commit_log.proofs.m3_model_proofs.Lists.{IsIn-filter}
use Rattle.commit_log.specs.m3_outside.declared.file_name.FileName.{FileName}
use Rattle.commit_log.specs.m3_outside.Files.{Files, IsAbsent}
use Rattle.commit_log.specs.m3_outside.Removal.{without_files, MayTakeAway}
use Rattle.commit_log.proofs.m3_outside_proofs.Names.{name_is}
use Rattle.commit_log.proofs.m3_outside_proofs.Removal.{none_stays, gone_none, left_same}
use Rattle.commit_log.specs.wire_bytes.Volumes.{VolumeHead, Part, Info, Summaries, Index, Data, Bloom, Digests, Checkpoint}
use Rattle.shard_files.specs.HeldEntries.{points_of}
use Rattle.shard_files.specs.Parts.{is_open, kind_of, part_name, part_of, VolumeHolds, KnownVolume, IsKnown, AreKnown, VolumesAre, is_volume_checkpoint, counted_volumes}
use Rattle.shard_files.specs.FilesHold.{points_known, volume_points, points_in_newest, FilesHold}
use Rattle.shard_files.specs.Keeps.{HoldsKept, Keeps}
use Rattle.shard_files.specs.Steps.{MayWrite, files_of_volume, parts_there}
use Rattle.shard_files.specs.FileLaws.{SameKinds}
use Rattle.shard_files.specs.StepLaws.{MayBeWritten, WriteKeeps, MayBeTaken, TakeKeeps}
use Rattle.shard_files.proofs.CountedLemmas.{counted_asked, counted_open, is_counted}
use Rattle.shard_files.proofs.PartLemmas.{kind_low, kind_high, volume_kind, newest_as, whole_as, log_as, one_known}

-- ---- known volumes by their names

-- each name has its known volume
pub of_name : (x : Files) (names : List FileName) (ks : List KnownVolume) → AreKnown x names ks → (n : FileName) → IsIn names n → (k : KnownVolume) × IsIn ks k × IsKnown x n k
of_name x [] ks are n m = absurd m
of_name x (n0 ∷ ns) [] are n m = absurd are
of_name x (n0 ∷ ns) (k ∷ ks) are n (inl e) = (k, inl refl, subst (λ q. IsKnown x q k) e are.0)
of_name x (n0 ∷ ns) (k ∷ ks) are n (inr m) = let later = of_name x ns ks are.1 n m in (later.0, inr later.1, later.2)

-- each known volume has its name
pub of_known : (x : Files) (names : List FileName) (ks : List KnownVolume) → AreKnown x names ks → (k : KnownVolume) → IsIn ks k → (n : FileName) × IsIn names n × IsKnown x n k
of_known x [] [] are k m = absurd m
of_known x [] (k0 ∷ ks) are k m = absurd are
of_known x (n ∷ ns) [] are k m = absurd m
of_known x (n ∷ ns) (k0 ∷ ks) are k (inl e) = (n, inl refl, subst (IsKnown x n) e are.0)
of_known x (n ∷ ns) (k0 ∷ ks) are k (inr m) = let later = of_known x ns ks are.1 k m in (later.0, inr later.1, later.2)

-- names of which each has a known volume with P
record AllFound (y : Files) (names : List FileName) (P : KnownVolume → Type 0) : Type 0 where
  pub known : List KnownVolume
  pub are : AreKnown y names known
  pub each : (k : KnownVolume) → IsIn known k → P k

found_each : (y : Files) (P : KnownVolume → Type 0) (names : List FileName) → ((n : FileName) → IsIn names n → (k : KnownVolume) × IsKnown y n k × P k) → AllFound y names P
found_each y P [] find = record { known = []; are = tt; each = λ k m. absurd m }
found_each y P (n ∷ ns) find =
    let first = find n (inl refl) in
    let later = found_each y P ns (λ q m. find q (inr m)) in
    record { known = first.0 ∷ later.known; are = (first.1, later.are); each = λ k m. ⊎_elim (λ (e : first.0 ≡ k). subst P e first.2) (λ (r : IsIn later.known k). later.each k r) m }

-- ---- points of known volumes

points_of_known : (ks : List KnownVolume) (p : Point) → IsIn (volume_points ks) p → (k : KnownVolume) × IsIn ks k × IsIn (points_known k) p
points_of_known [] p m = absurd m
points_of_known (k ∷ ks) p m = ⊎_elim (λ (here : IsIn (points_known k) p). (k, inl refl, here)) (λ (rest : IsIn (volume_points ks) p). let later = points_of_known ks p rest in (later.0, inr later.1, later.2)) (IsIn-append_cases (points_known k) (volume_points ks) p m)

known_of_points : (ks : List KnownVolume) (k : KnownVolume) (p : Point) → IsIn ks k → IsIn (points_known k) p → IsIn (volume_points ks) p
known_of_points [] k p m q = absurd m
known_of_points (j ∷ ks) k p (inl e) q = IsIn-append_left (points_known j) (volume_points ks) p (subst (λ (i : KnownVolume). IsIn (points_known i) p) (sym e) q)
known_of_points (j ∷ ks) k p (inr m) q = IsIn-append_right (points_known j) (volume_points ks) p (known_of_points ks k p m q)

-- ---- other volumes, the same snapshots and the same log

module _ (kept : Contents) (x y : Files) (log : SameKinds 0 0 x y) (snapshots : SameKinds 8 9 x y) (before : List Point) (tenure fence : ℕ) (held : FilesHold before tenure fence x) where
  abbrev others : List Point
  others = points_in_newest held.parts.newest ++ points_of held.parts.entries

  pub of_files : (p : Point) → IsIn (volume_points held.parts.volumes ++ others) p → IsIn before p
  of_files p m = subst (λ l. IsIn l p) (sym held.points_are) m

  pub in_files : (p : Point) → IsIn before p → IsIn (volume_points held.parts.volumes ++ others) p
  in_files p m = subst (λ l. IsIn l p) held.points_are m

  pub with_volumes : (known : List KnownVolume) → VolumesAre known y → ((p : Point) → IsIn (volume_points known) p → IsIn before p) → ((p : Point) → HasPoint kept p → IsIn (volume_points known ++ others) p) → HoldsKept kept before tenure fence y
  with_volumes known are from all = record {
    points = volume_points known ++ others;
    held = record {
      parts = record { volumes = known; newest = held.parts.newest; entries = held.parts.entries };
      holds = record { volumes = are; newest = newest_as x y snapshots held.parts.newest held.holds.newest; log = log_as x y log held.parts.entries held.holds.log };
      points_are = refl;
      tenure_is = held.tenure_is;
      fence_is = held.fence_is;
    };
    sheds = record {
      nothing_else = λ p m. ⊎_elim (λ (vol : IsIn (volume_points known) p). from p vol) (λ (rest : IsIn others p). of_files p (IsIn-append_right (volume_points held.parts.volumes) others p rest)) (IsIn-append_cases (volume_points known) others p m);
      whole = all;
    };
  }

-- ---- names of one volume's files

pub checkpoint_kind : (part : Part) → kind_of part ≡ 7 → part ≡ Checkpoint
checkpoint_kind Info e = absurd (omega (arith, e))
checkpoint_kind Summaries e = absurd (omega (arith, e))
checkpoint_kind Index e = absurd (omega (arith, e))
checkpoint_kind Data e = absurd (omega (arith, e))
checkpoint_kind Bloom e = absurd (omega (arith, e))
checkpoint_kind Digests e = absurd (omega (arith, e))
checkpoint_kind Checkpoint e = refl

-- files are of one volume where namespace, start and number are the same
pub same_volume : (a b : Part) (ns start number : ℕ) (k : VolumeHead) → part_of a k ≡ part_name b ns start number → (c : Part) → part_of c k ≡ part_name c ns start number
same_volume a b ns start number k e c = λ i. record { kind = kind_of c; ns = (ap (λ (q : FileName). q.ns) e) i; block = (ap (λ (q : FileName). q.block) e) i; number = (ap (λ (q : FileName). q.number) e) i }

-- ---- one volume's files change, and no others

module _ (ns start number : ℕ) (x y : Files) (stay : (q : FileName) → ((part : Part) → q ≡ part_name part ns start number → ⊥) → get y q ≡ get x q) where
  not_kind : (low high : ℕ) (q : FileName) → low ≤ q.kind → q.kind ≤ high → (high < 1) ⊎ (7 < low) → (part : Part) → q ≡ part_name part ns start number → ⊥
  not_kind low high q l h (inl small) part e = let k = ap (λ (n : FileName). n.kind) e in let a = kind_low part in omega (arith, k, a, l, h, small)
  not_kind low high q l h (inr large) part e = let k = ap (λ (n : FileName). n.kind) e in let a = kind_high part in omega (arith, k, a, l, h, large)

  pub log_stays : SameKinds 0 0 x y
  log_stays q low high = stay q (not_kind 0 0 q low high (inl (omega arith)))

  pub snapshots_stay : SameKinds 8 9 x y
  snapshots_stay q low high = stay q (not_kind 8 9 q low high (inr (omega arith)))

  -- another volume's files stay
  pub other_stays : (n : FileName) (k : KnownVolume) → (n ≡ part_name Checkpoint ns start number → ⊥) → IsKnown x n k → IsKnown y n k
  other_stays n k apart known = record {
    named = known.named;
    holds = record {
      values = known.holds.values;
      read = known.holds.read;
      parts = λ part. stay (part_of part k.head) (λ other e. apart (known.named ∙ same_volume part other ns start number k.head e Checkpoint)) ∙ known.holds.parts part;
    };
  }

  -- another checkpoint stays as it was
  pub checkpoint_stays : (n : FileName) → is_volume_checkpoint n ≡ true → (n ≡ part_name Checkpoint ns start number → ⊥) → get y n ≡ get x n
  checkpoint_stays n kind apart = stay n (λ part e.
      let seven : kind_of part ≡ 7 = sym (ap (λ (q : FileName). q.kind) e) ∙ volume_kind n kind in
      apart (e ∙ ap (λ (c : Part). part_name c ns start number) (checkpoint_kind part seven)))

  pub still_counted : (n : FileName) → (n ≡ part_name Checkpoint ns start number → ⊥) → IsIn (counted_volumes x) n → IsIn (counted_volumes y) n
  still_counted n apart m = let a = counted_asked is_volume_checkpoint x n m in is_counted is_volume_checkpoint y n a (ap is_open (checkpoint_stays n a apart) ∙ counted_open is_volume_checkpoint x n m)

  pub was_counted : (n : FileName) → (n ≡ part_name Checkpoint ns start number → ⊥) → IsIn (counted_volumes y) n → IsIn (counted_volumes x) n
  was_counted n apart m = let a = counted_asked is_volume_checkpoint y n m in is_counted is_volume_checkpoint x n a (ap is_open (sym (checkpoint_stays n a apart)) ∙ counted_open is_volume_checkpoint y n m)

  -- a point of another volume is one of the volumes that count now
  pub point_stays : (ks js : List KnownVolume) → VolumesAre ks x → VolumesAre js y → (k : KnownVolume) → IsIn ks k → (part_of Checkpoint k.head ≡ part_name Checkpoint ns start number → ⊥) → (p : Point) → IsIn (points_known k) p → IsIn (volume_points js) p
  point_stays ks js are now k m apart p q =
      let n = of_known x (counted_volumes x) ks are k m in
      let other : n.0 ≡ part_name Checkpoint ns start number → ⊥ = λ e. apart (sym n.2.named ∙ e) in
      let j = of_name y (counted_volumes y) js now n.0 (still_counted n.0 other n.1) in
      let same : k ≡ j.0 = one_known y n.0 k j.0 (other_stays n.0 k other n.2) j.2 in
      known_of_points js j.0 p j.1 (subst (λ (i : KnownVolume). IsIn (points_known i) p) same q)

-- ---- a volume that is written

module _ (kept : Contents) (v : VolumeHead) (rows : List Series) (x y : Files) (may : MayBeWritten kept v rows x) (wrote : MayWrite v rows x y) where
  stay : (q : FileName) → ((part : Part) → q ≡ part_name part v.ns v.start v.number → ⊥) → get y q ≡ get x q
  stay q apart = wrote.others q (λ own. apart own.part own.is)

  abbrev Origin : List KnownVolume → KnownVolume → Type 0
  Origin ks k = IsIn ks k ⊎ (k ≡ record { head = v; rows = rows })

  -- a volume that counted is another one
  not_own : (n : FileName) → IsIn (counted_volumes x) n → n ≡ part_of Checkpoint v → ⊥
  not_own n m e =
      let open_ = counted_open is_volume_checkpoint x n m in
      let gone : get x n ≡ None = ap (get x) e ∙ may.absent Checkpoint in
      let never : is_open None ≡ true = ap is_open (sym gone) ∙ open_ in
      cc

  find : (ks : List KnownVolume) → VolumesAre ks x → (n : FileName) → IsIn (counted_volumes y) n → (k : KnownVolume) × IsKnown y n k × Origin ks k
  find ks are n m = ⊎_elim (λ (own : n ≡ part_of Checkpoint v). of_own own wrote.either) (λ (apart : n ≡ part_of Checkpoint v → ⊥). of_other apart) (name_is n (part_of Checkpoint v))
    where
      of_own : n ≡ part_of Checkpoint v → (is_open (get y (part_of Checkpoint v)) ≡ false) ⊎ VolumeHolds v rows y → (k : KnownVolume) × IsKnown y n k × Origin ks k
      of_own own (inl closed) =
          let open_ : is_open (get y (part_of Checkpoint v)) ≡ true = ap (λ q. is_open (get y q)) (sym own) ∙ counted_open is_volume_checkpoint y n m in
          absurd (let never : true ≡ false = sym open_ ∙ closed in cc)
      of_own own (inr holds) = (record { head = v; rows = rows }, record { named = own; holds = holds }, inr refl)

      of_other : (n ≡ part_of Checkpoint v → ⊥) → (k : KnownVolume) × IsKnown y n k × Origin ks k
      of_other apart =
          let was = was_counted v.ns v.start v.number x y stay n apart m in
          let k = of_name x (counted_volumes x) ks are n was in
          (k.0, other_stays v.ns v.start v.number x y stay n k.0 apart k.2, inl k.1)

  holds_written : (before : List Point) (tenure fence : ℕ) → FilesHold before tenure fence x → HoldsKept kept before tenure fence y
  holds_written before tenure fence held =
      let ks = held.parts.volumes in
      let are = held.holds.volumes in
      let all = found_each y (Origin ks) (counted_volumes y) (find ks are) in
      let log = log_stays v.ns v.start v.number x y stay in
      let snapshots = snapshots_stay v.ns v.start v.number x y stay in
      let rest = points_in_newest held.parts.newest ++ points_of held.parts.entries in
      with_volumes kept x y log snapshots before tenure fence held all.known all.are
      (λ p m.
      let k = points_of_known all.known p m in
      ⊎_elim (λ (old : IsIn ks k.0). of_files kept x y log snapshots before tenure fence held p (IsIn-append_left (volume_points ks) rest p (known_of_points ks k.0 p old k.2)))
      (λ (new : k.0 ≡ record { head = v; rows = rows }). may.points p (subst (λ (q : KnownVolume). IsIn (points_known q) p) new k.2) before tenure fence held) (all.each k.0 k.1))
      (λ p has.
      ⊎_elim (λ (vol : IsIn (volume_points ks) p).
      let k = points_of_known ks p vol in
      let n = of_known x (counted_volumes x) ks are k.0 k.1 in
      IsIn-append_left (volume_points all.known) rest p (point_stays v.ns v.start v.number x y stay ks all.known are all.are k.0 k.1 (λ e. not_own n.0 n.1 (n.2.named ∙ e)) p k.2))
      (λ (other : IsIn rest p). IsIn-append_right (volume_points all.known) rest p other)
      (IsIn-append_cases (volume_points ks) rest p (in_files kept x y log snapshots before tenure fence held p (may.whole p has before tenure fence held))))

  pub keeps_written : Keeps kept x y
  keeps_written = record { held = holds_written; snapshots = whole_as x y (snapshots_stay v.ns v.start v.number x y stay) }

pub write_keeps : WriteKeeps
write_keeps kept v rows x y may wrote = keeps_written kept v rows x y may wrote

-- ---- a volume that is taken away

module _ (kept : Contents) (ns start number : ℕ) (x y : Files) (may : MayBeTaken kept ns start number x) (takes : MayTakeAway (parts_there ns start number x) x y) where
  -- a file that isn't the volume's stays
  untouched : (q : FileName) → ((part : Part) → q ≡ part_name part ns start number → ⊥) → get y q ≡ get x q
  untouched q apart = ap (λ (f : Files). get f q) takes.taken ∙ left_same takes.gone x q (λ m.
      let there = subst (λ l. IsIn l q) (sym takes.split) (IsIn-append_left takes.gone takes.left q m) in
      let e = IsIn-map (λ part. part_name part ns start number) (Checkpoint ∷ Info ∷ Summaries ∷ Index ∷ Data ∷ Bloom ∷ Digests ∷ []) q (IsIn-filter (λ name. is_some (get x name)) (files_of_volume ns start number) q there) in
      apart e.0 (sym e.2))

  gone_checkpoint : IsAbsent (part_name Checkpoint ns start number) y → (before : List Point) (tenure fence : ℕ) → FilesHold before tenure fence x → HoldsKept kept before tenure fence y
  gone_checkpoint gone before tenure fence held =
      let ks = held.parts.volumes in
      let are = held.holds.volumes in
      let other : (n : FileName) → IsIn (counted_volumes y) n → n ≡ part_name Checkpoint ns start number → ⊥ = λ n m e.
      let open_ = counted_open is_volume_checkpoint y n m in
      let none : get y n ≡ None = ap (get y) e ∙ gone in
      let never : is_open None ≡ true = ap is_open (sym none) ∙ open_ in
      cc in
      let find : (n : FileName) → IsIn (counted_volumes y) n → (k : KnownVolume) × IsKnown y n k × IsIn ks k = λ n m.
      let k = of_name x (counted_volumes x) ks are n (was_counted ns start number x y untouched n (other n m) m) in
      (k.0, other_stays ns start number x y untouched n k.0 (other n m) k.2, k.1) in
      let all = found_each y (IsIn ks) (counted_volumes y) find in
      let log = log_stays ns start number x y untouched in
      let snapshots = snapshots_stay ns start number x y untouched in
      let rest = points_in_newest held.parts.newest ++ points_of held.parts.entries in
      with_volumes kept x y log snapshots before tenure fence held all.known all.are
      (λ p m.
      let k = points_of_known all.known p m in
      of_files kept x y log snapshots before tenure fence held p (IsIn-append_left (volume_points ks) rest p (known_of_points ks k.0 p (all.each k.0 k.1) k.2)))
      (λ p has.
      ⊎_elim (λ (f : (k : KnownVolume) × IsIn ks k × (¬ (part_of Checkpoint k.head ≡ part_name Checkpoint ns start number)) × IsIn (points_known k) p).
      IsIn-append_left (volume_points all.known) rest p (point_stays ns start number x y untouched ks all.known are all.are f.0 f.1 f.2 p f.3))
      (λ (out : IsIn rest p). IsIn-append_right (volume_points all.known) rest p out) (may held.parts held.holds p has))

  nothing_gone : y ≡ x → (before : List Point) (tenure fence : ℕ) → FilesHold before tenure fence x → HoldsKept kept before tenure fence y
  nothing_gone same before tenure fence held =
      let ks = held.parts.volumes in
      let rest = points_in_newest held.parts.newest ++ points_of held.parts.entries in
      record {
        points = before;
        held = subst (FilesHold before tenure fence) (sym same) held;
        sheds = record {
          nothing_else = λ p m. m;
          whole = λ p has. subst (λ l. IsIn l p) (sym held.points_are) (⊎_elim (λ (f : (k : KnownVolume) × IsIn ks k × (¬ (part_of Checkpoint k.head ≡ part_name Checkpoint ns start number)) × IsIn (points_known k) p).
              IsIn-append_left (volume_points ks) rest p (known_of_points ks f.0 p f.1 f.3))
              (λ (out : IsIn rest p). IsIn-append_right (volume_points ks) rest p out) (may held.parts held.holds p has));
        };
      }

  -- the checkpoint is the first that goes
  either : (y ≡ x) ⊎ IsAbsent (part_name Checkpoint ns start number) y
  either = by (get x (part_name Checkpoint ns start number)) refl takes.gone takes.split takes.taken
    where
      by : (o : Option (List ℕ)) → get x (part_name Checkpoint ns start number) ≡ o → (gone : List FileName) → parts_there ns start number x ≡ gone ++ takes.left → y ≡ without_files gone x → (y ≡ x) ⊎ IsAbsent (part_name Checkpoint ns start number) y
      by None none gone split taken = inr (ap (λ (f : Files). get f (part_name Checkpoint ns start number)) taken ∙ none_stays gone x (part_name Checkpoint ns start number) none)
      by (Some file) there [] split taken = inl taken
      by (Some file) there (q ∷ gone) split taken =
          let listed : parts_there ns start number x ≡ part_name Checkpoint ns start number ∷ filter (λ name. is_some (get x name)) (map (λ part. part_name part ns start number) (Info ∷ Summaries ∷ Index ∷ Data ∷ Bloom ∷ Digests ∷ [])) =
          ap (λ (o : Option (List ℕ)). cond (is_some o) (part_name Checkpoint ns start number ∷ filter (λ name. is_some (get x name)) (map (λ part. part_name part ns start number) (Info ∷ Summaries ∷ Index ∷ Data ∷ Bloom ∷ Digests ∷ []))) (filter (λ name. is_some (get x name)) (map (λ part. part_name part ns start number) (Info ∷ Summaries ∷ Index ∷ Data ∷ Bloom ∷ Digests ∷ [])))) there in
          let first : part_name Checkpoint ns start number ≡ q = heads _ _ _ _ (sym listed ∙ split) in
          inr (ap (λ (f : Files). get f (part_name Checkpoint ns start number)) taken ∙ gone_none (q ∷ gone) x (part_name Checkpoint ns start number) (inl (sym first)))
        where
          heads : (a b : FileName) (c d : List FileName) → a ∷ c ≡ b ∷ d → a ≡ b
          heads a b c d e = cc

pub take_keeps : TakeKeeps
take_keeps kept ns start number x y may takes = record {
  held = ⊎_elim (nothing_gone kept ns start number x y may takes) (gone_checkpoint kept ns start number x y may takes) (either kept ns start number x y may takes);
  snapshots = whole_as x y (snapshots_stay ns start number x y (untouched kept ns start number x y may takes));
}
