-- The numbers of what comes next, and which files are taken away.
use Rattle.std.proofs.Common.{◌≡◌, ◌⊎◌, rules, inl, inr, ⊎_elim, ℕ, ◌<◌, List, [], ◌∷◌, ◌++◌, map, refl, sym, ap, ◌∙◌, arith, true, ◌&&◌, Some, None, Option}
use Rattle.std.specs.Prelude.{◌==◌, is_some, filter, nat_le, nat_lt}
use Rattle.std.specs.FinMap.{get, keys}
use Rattle.std.proofs.lemmas.List.Elements.{filter_agree}
use Rattle.commit_log.specs.m3_model.Members.{IsIn}
use Rattle.commit_log.proofs.m3_model_proofs.MemberLemmas.{IsIn-append_left, IsIn-append_right, map-IsIn}
use Rattle.commit_log.proofs.m3_model_proofs.Lists.{filter-IsIn}
use Rattle.commit_log.specs.m3_outside.declared.file_name.FileName.{FileName}
use Rattle.commit_log.specs.m3_outside.Files.{Files, IsAbsent}
use Rattle.commit_log.specs.m3_outside.DiskState.{HaveSameNames}
use Rattle.commit_log.specs.Contents.{next_after, numbers_of}
use Rattle.commit_log.specs.Segment.{segment}
use Rattle.commit_log.specs.wire_bytes.Volumes.{Part, Info, Summaries, Index, Data, Bloom, Digests, Checkpoint}
use Rattle.shard_files.specs.Parts.{kind_of, part_name, is_open, is_snapshot_checkpoint, snapshot_data, snapshot_checkpoint}
use Rattle.shard_files.specs.Steps.{is_part, next_volume, files_of_volume, is_snapshot_file, next_snapshot, is_older}
use Rattle.shard_files.specs.StepLaws.{NextVolumeIsNew, NextSnapshotIsNew, TakenByNames}
use Rattle.shard_files.proofs.CountedLemmas.{there_key, key_there, keys_ascend, same_names, counted_asked, counted_open}

eq_itself : (n : ℕ) → (n == n) ≡ true
eq_itself n = search rules

below_next : (ns : List ℕ) (n : ℕ) → IsIn ns n → n < next_after ns
below_next [] n m = absurd m
below_next (k ∷ ns) n (inl same) = omega (arith, same)
below_next (k ∷ ns) n (inr rest) = let h = below_next ns n rest in omega (arith, h)

none_of : (o : Option (List ℕ)) → ((file : List ℕ) → o ≡ Some file → ⊥) → o ≡ None
none_of None never = refl
none_of (Some file) never = absurd (never file refl)

is_its_part : (part : Part) (ns start n : ℕ) → is_part ns start (part_name part ns start n) ≡ true
is_its_part part ns start n =
    ap (λ b. b && ((ns == ns) && (start == start))) (kinds part) ∙ ap (λ b. b && (start == start)) (eq_itself ns) ∙ eq_itself start
  where
    kinds : (part : Part) → (nat_le 1 (kind_of part) && nat_le (kind_of part) 7) ≡ true
    kinds Info = refl
    kinds Summaries = refl
    kinds Index = refl
    kinds Data = refl
    kinds Bloom = refl
    kinds Digests = refl
    kinds Checkpoint = refl

pub next_volume_is_new : NextVolumeIsNew
next_volume_is_new format ns start size files part =
    let next = next_volume ns start files in
    let name = part_name part ns start next in
    none_of (get files name) (λ file there.
    let listed = filter-IsIn (is_part ns start) (keys files) name (there_key files name file there) (is_its_part part ns start next) in
    let lt = below_next (map (λ (q : FileName). q.number) (filter (is_part ns start) (keys files))) next (map-IsIn (λ (q : FileName). q.number) (filter (is_part ns start) (keys files)) name listed) in
    omega (arith, lt))

-- a snapshot's file that is there has a number below the next
snapshot_below : (files : Files) (q : FileName) (file : List ℕ) → get files q ≡ Some file → (is_snapshot_file 8 q ≡ true) ⊎ (is_snapshot_file 9 q ≡ true) → q.number < next_snapshot files
snapshot_below files q file there kind =
    let key = there_key files q file there in
    let bodies = filter (is_snapshot_file 8) (keys files) in
    let checkpoints = filter (is_snapshot_file 9) (keys files) in
    let listed : IsIn (bodies ++ checkpoints) q = ⊎_elim (λ (e : is_snapshot_file 8 q ≡ true). IsIn-append_left bodies checkpoints q (filter-IsIn (is_snapshot_file 8) (keys files) q key e))
    (λ (e : is_snapshot_file 9 q ≡ true). IsIn-append_right bodies checkpoints q (filter-IsIn (is_snapshot_file 9) (keys files) q key e)) kind in
    below_next (map (λ (n : FileName). n.number) (bodies ++ checkpoints)) q.number (map-IsIn (λ (n : FileName). n.number) (bodies ++ checkpoints) q listed)

pub next_snapshot_is_new : NextSnapshotIsNew
next_snapshot_is_new = record {
  absent = λ files name own. none_of (get files name) (λ file there.
      ⊎_elim (λ (e : name ≡ snapshot_data (next_snapshot files)).
      let lt = snapshot_below files (snapshot_data (next_snapshot files)) file (ap (get files) (sym e) ∙ there) (inl refl) in
      omega (arith, lt))
      (λ (e : name ≡ snapshot_checkpoint (next_snapshot files)).
      let lt = snapshot_below files (snapshot_checkpoint (next_snapshot files)) file (ap (get files) (sym e) ∙ there) (inr refl) in
      omega (arith, lt)) own);
  above = λ files name m.
      let asked = counted_asked is_snapshot_checkpoint files name m in
      let open_ = counted_open is_snapshot_checkpoint files name m in
      opened (get files name) refl open_ (λ file there. snapshot_below files name file there (inr asked));
}
  where
    opened : {P : Type 0} (o : Option (List ℕ)) {p : Option (List ℕ)} → p ≡ o → is_open p ≡ true → ((file : List ℕ) → p ≡ Some file → P) → P
    opened None e open_ then_ = absurd (let never : is_open None ≡ true = ap is_open (sym e) ∙ open_ in cc)
    opened (Some file) e open_ then_ = then_ file e

-- ---- which files are taken away

is_there : (o p : Option (List ℕ)) → (o ≡ None → p ≡ None) → (p ≡ None → o ≡ None) → is_some p ≡ is_some o
is_there None None to back = refl
is_there None (Some b) to back = absurd (let never = to refl in cc)
is_there (Some a) None to back = absurd (let never = back refl in cc)
is_there (Some a) (Some b) to back = refl

module _ (x y : Files) (same : HaveSameNames x y) where
  -- a name is listed in both or in neither
  one_way : (a b : Files) → ((q : FileName) → IsAbsent q b → IsAbsent q a) → (q : FileName) → IsIn (keys a) q → IsIn (keys b) q
  one_way a b back q m = by (get b q) refl
    where
      by : (o : Option (List ℕ)) → get b q ≡ o → IsIn (keys b) q
      by None e = absurd (let there = (key_there a q m).there in let gone = back q e in cc)
      by (Some file) e = there_key b q file e

  pub one_keys : keys y ≡ keys x
  one_keys = same_names (keys y) (keys x) (keys_ascend y) (keys_ascend x) (one_way y x (λ q e. (same q).0 e)) (one_way x y (λ q e. (same q).1 e))

pub taken_by_names : TakenByNames
taken_by_names = record {
  volume = λ ns start number x y same. filter_agree (λ name. is_some (get y name)) (λ name. is_some (get x name)) (λ q. is_there (get x q) (get y q) (same q).0 (same q).1) (files_of_volume ns start number);
  snapshots = λ number x y same. ap (λ (l : List FileName). filter (is_older 9 number) l ++ filter (is_older 8 number) l) (one_keys x y same);
  segments = λ number x y same. ap (λ (l : List FileName). map segment (filter (λ n. nat_lt n number) (numbers_of l))) (one_keys x y same);
}
