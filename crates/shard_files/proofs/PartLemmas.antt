-- Volumes, snapshots and the log, each by its files.
use Rattle.std.proofs.Common.{◌≡◌, ℕ, ◌≤◌, List, [], ◌∷◌, ◌++◌, map, refl, sym, ap, subst, ◌∙◌, arith, true, ◌&&◌, Some, None, Option}
use Rattle.std.specs.Prelude.{◌==◌}
use Rattle.std.proofs.lemmas.Bool.{eqb-true, and_parts}
use Rattle.std.specs.FinMap.{get}
use Rattle.std.proofs.lemmas.Option.{same_Some}
use Rattle.commit_log.specs.m3_model.Members.{IsIn}
use Rattle.commit_log.specs.m3_model.declared.point.Series.{Series}
use Rattle.commit_log.specs.m3_outside.declared.file_name.FileName.{FileName}
use Rattle.commit_log.specs.m3_outside.Files.{Files}
use Rattle.commit_log.specs.Segment.{segment}
use Rattle.commit_log.specs.Contents.{numbers, PartsHold}
use Rattle.commit_log.proofs.Numbers.{in_there, there_in, ascend, same_members}
use Rattle.commit_log.proofs.Parts.{parts_same}
use Rattle.commit_log.specs.wire_bytes.Volumes.{VolumeHead, Part, Info, Summaries, Index, Data, Bloom, Digests, Checkpoint, part_bytes}
use Rattle.commit_log.specs.wire_bytes.Snapshots.{Snapshot, snapshot_bytes}
use Rattle.commit_log.proofs.wire_bytes_proofs.VolumeLemmas.{volumes_are_one, snapshots_are_one}
use Rattle.shard_files.specs.declared.entries.LogEntry.{LogEntry}
use Rattle.shard_files.specs.Entries.{spelled}
use Rattle.shard_files.specs.HeldEntries.{HoldsEntries}
use Rattle.shard_files.specs.Parts.{kind_of, part_of, VolumeHolds, KnownVolume, IsKnown, AreKnown, VolumesAre, is_volume_checkpoint, counted_volumes, snapshot_data, snapshot_checkpoint, SnapshotHolds, is_snapshot_checkpoint, counted_snapshots, NewestIs, AreWhole}
use Rattle.shard_files.specs.FileLaws.{SameKinds, CountedByCheckpoints, EachByItsFiles}
use Rattle.shard_files.proofs.CountedLemmas.{counted_same}

pub kind_low : (part : Part) → 1 ≤ kind_of part
kind_low Info = omega arith
kind_low Summaries = omega arith
kind_low Index = omega arith
kind_low Data = omega arith
kind_low Bloom = omega arith
kind_low Digests = omega arith
kind_low Checkpoint = omega arith

pub kind_high : (part : Part) → kind_of part ≤ 7
kind_high Info = omega arith
kind_high Summaries = omega arith
kind_high Index = omega arith
kind_high Data = omega arith
kind_high Bloom = omega arith
kind_high Digests = omega arith
kind_high Checkpoint = omega arith

pub volume_kind : (q : FileName) → is_volume_checkpoint q ≡ true → q.kind ≡ 7
volume_kind q e = eqb-true q.kind 7 e

-- a snapshot's checkpoint is the one of its number
pub snapshot_named : (q : FileName) → is_snapshot_checkpoint q ≡ true → q ≡ snapshot_checkpoint q.number
snapshot_named q e =
    let first = and_parts (q.kind == 9) ((q.ns == 0) && (q.block == 0)) e in
    let second = and_parts (q.ns == 0) (q.block == 0) first.1 in
    let kind = eqb-true q.kind 9 first.0 in
    let ns = eqb-true q.ns 0 second.0 in
    let block = eqb-true q.block 0 second.1 in
    λ i. record { kind = kind i; ns = ns i; block = block i; number = q.number }

pub counted_by_checkpoints : CountedByCheckpoints
counted_by_checkpoints = record { volumes = λ x y same. counted_same is_volume_checkpoint x y same; snapshots = λ x y same. counted_same is_snapshot_checkpoint x y same }

-- ---- volumes

module _ (x y : Files) (same : SameKinds 1 7 x y) where
  pub volume_as : (v : VolumeHead) (rows : List Series) → VolumeHolds v rows x → VolumeHolds v rows y
  volume_as v rows h = record { values = h.values; read = h.read; parts = λ part. same (part_of part v) (kind_low part) (kind_high part) ∙ h.parts part }

  known_as : (names : List FileName) (known : List KnownVolume) → AreKnown x names known → AreKnown y names known
  known_as [] [] h = h
  known_as [] (k ∷ ks) h = h
  known_as (n ∷ ns) [] h = h
  known_as (n ∷ ns) (k ∷ ks) h = (record { named = h.0.named; holds = volume_as k.head k.rows h.0.holds }, known_as ns ks h.1)

  pub volumes_as : (known : List KnownVolume) → VolumesAre known x → VolumesAre known y
  volumes_as known are =
      let names : counted_volumes y ≡ counted_volumes x = counted_same is_volume_checkpoint x y (λ q e. let k = volume_kind q e in same q (omega (arith, k)) (omega (arith, k))) in
      known_as (counted_volumes y) known (subst (λ l. AreKnown x l known) (sym names) are)

-- ---- snapshots

module _ (x y : Files) (same : SameKinds 8 9 x y) where
  pub snapshot_as : (s : Snapshot) → SnapshotHolds s x → SnapshotHolds s y
  snapshot_as s h = record { values = h.values; body = same (snapshot_data s.number) (omega arith) (omega arith) ∙ h.body; checkpoint = same (snapshot_checkpoint s.number) (omega arith) (omega arith) ∙ h.checkpoint }

  pub snapshot_names : counted_snapshots y ≡ counted_snapshots x
  snapshot_names = counted_same is_snapshot_checkpoint x y (λ q e. let k = ap (λ (n : FileName). n.kind) (snapshot_named q e) in same q (omega (arith, k)) (omega (arith, k)))

  pub newest_as : (s : Option Snapshot) → NewestIs s x → NewestIs s y
  newest_as None is = snapshot_names ∙ is
  newest_as (Some s) is = record { older = is.older; last = snapshot_names ∙ is.last; holds = snapshot_as s is.holds }

  pub whole_as : AreWhole x → AreWhole y
  whole_as all n m = let w = all n (subst (λ l. IsIn l n) snapshot_names m) in record { snapshot = w.snapshot; named = w.named; holds = snapshot_as w.snapshot w.holds }

-- ---- the log

module _ (x y : Files) (same : SameKinds 0 0 x y) where
  segment_same : (n : ℕ) → get y (segment n) ≡ get x (segment n)
  segment_same n = same (segment n) (omega arith) (omega arith)

  pub same_numbers : numbers y ≡ numbers x
  same_numbers = same_members (numbers y) (numbers x) (ascend y) (ascend x) (λ n m. let f = in_there y n m in there_in x n f.0 (sym (segment_same n) ∙ f.1)) (λ n m. let f = in_there x n m in there_in y n f.0 (segment_same n ∙ f.1))

  pub log_as : (es : List LogEntry) → HoldsEntries es x → HoldsEntries es y
  log_as es h = record {
    parts = subst (λ ns. PartsHold ns y (map spelled es)) (sym same_numbers) (parts_same (numbers x) x y (map spelled es) (λ n m. segment_same n) h.parts);
    within = h.within;
  }

pub each_by_its_files : EachByItsFiles
each_by_its_files = record {
  volumes = λ known x y same are. volumes_as x y same known are;
  newest = λ s x y same is. newest_as x y same s is;
  snapshots = λ x y same all. whole_as x y same all;
  log = λ es x y same h. log_as x y same es h;
}

-- ---- one volume of a name, one snapshot of a number

pub one_known : (x : Files) (n : FileName) (j k : KnownVolume) → IsKnown x n j → IsKnown x n k → j ≡ k
one_known x n j k a b =
    let offset : part_of Checkpoint j.head ≡ part_of Checkpoint k.head = sym a.named ∙ b.named in
    let ns = ap (λ (q : FileName). q.ns) offset in
    let start = ap (λ (q : FileName). q.block) offset in
    let number = ap (λ (q : FileName). q.number) offset in
    let same : (part : Part) → part_bytes part j.head j.rows ≡ part_bytes part k.head k.rows = λ part.
    let name : part_of part j.head ≡ part_of part k.head = λ i. record { kind = kind_of part; ns = ns i; block = start i; number = number i } in
    same_Some (part_bytes part j.head j.rows) (part_bytes part k.head k.rows) (sym (a.holds.parts part) ∙ ap (get x) name ∙ b.holds.parts part) in
    let one = volumes_are_one j.head k.head j.rows k.rows a.holds.values b.holds.values (same Info) (same Data) in
    λ i. record { head = one.0 i; rows = one.1 i }

pub one_volumes : (x : Files) (names : List FileName) (js ks : List KnownVolume) → AreKnown x names js → AreKnown x names ks → js ≡ ks
one_volumes x [] [] [] a b = refl
one_volumes x [] [] (k ∷ ks) a b = absurd b
one_volumes x [] (j ∷ js) ks a b = absurd a
one_volumes x (n ∷ ns) [] ks a b = absurd a
one_volumes x (n ∷ ns) (j ∷ js) [] a b = absurd b
one_volumes x (n ∷ ns) (j ∷ js) (k ∷ ks) a b =
    let first = one_known x n j k a.0 b.0 in
    let rest = one_volumes x ns js ks a.1 b.1 in
    λ i. first i ∷ rest i

pub one_snapshot : (x : Files) (s t : Snapshot) → SnapshotHolds s x → SnapshotHolds t x → s.number ≡ t.number → s ≡ t
one_snapshot x s t a b e = snapshots_are_one s t a.values b.values (same_Some (snapshot_bytes s) (snapshot_bytes t) (sym a.body ∙ ap (λ n. get x (snapshot_data n)) e ∙ b.body))

pub not_pushed : {X : Type 0} (xs : List X) (a : X) → xs ++ a ∷ [] ≡ [] → ⊥
not_pushed [] a e = cc
not_pushed (x ∷ xs) a e = cc

-- the last of a list is one
pub last_one : {X : Type 0} (xs ys : List X) (a b : X) → xs ++ a ∷ [] ≡ ys ++ b ∷ [] → a ≡ b
last_one [] [] a b e = cc
last_one [] (y ∷ ys) a b e = let rest : [] ≡ ys ++ b ∷ [] = cc in absurd (not_pushed ys b (sym rest))
last_one (x ∷ xs) [] a b e = let rest : xs ++ a ∷ [] ≡ [] = cc in absurd (not_pushed xs a rest)
last_one (x ∷ xs) (y ∷ ys) a b e = let rest : xs ++ a ∷ [] ≡ ys ++ b ∷ [] = cc in last_one xs ys a b rest

pub one_newest : (x : Files) (s t : Option Snapshot) → NewestIs s x → NewestIs t x → s ≡ t
one_newest x None None a b = refl
one_newest x None (Some t) a b = absurd (not_pushed b.older (snapshot_checkpoint t.number) (sym b.last ∙ a))
one_newest x (Some s) None a b = absurd (not_pushed a.older (snapshot_checkpoint s.number) (sym a.last ∙ b))
one_newest x (Some s) (Some t) a b =
    let same = last_one a.older b.older (snapshot_checkpoint s.number) (snapshot_checkpoint t.number) (sym a.last ∙ b.last) in
    ap Some (one_snapshot x s t a.holds b.holds (ap (λ (q : FileName). q.number) same))
