-- The number of the next snapshot, where a segment begins.
use Rattle.std.proofs.Common.{◌≡◌, ⊎_elim, ℕ, ◌++◌, map, ◌≤◌, refl, sym, ap, ◌∙◌, arith, replicate, Bool, true, false, ◌&&◌}
use Rattle.std.specs.Prelude.{filter, ◌==◌}
use Rattle.std.specs.FinMap.{get, keys}
use Rattle.std.proofs.lemmas.Bool.{eqb-true}
use Rattle.m3_model.specs.Members.{IsIn}
use Rattle.m3_model.proofs.Lists.{IsIn-filter, IsIn-filter_passes, filter-IsIn}
use Rattle.m3_model.proofs.Ascending.{Ascends-filter}
use Rattle.snapshot_files.specs.m3_outside.declared.file_name.FileName.{FileName}
use Rattle.snapshot_files.specs.m3_outside.DiskState.{DiskState, Becomes}
use Rattle.snapshot_files.specs.m3_outside.Files.{Files, files_with_zeros}
use Rattle.snapshot_files.proofs.m3_outside_proofs.Names.{get_apart}
use Rattle.snapshot_files.specs.commit_log.Contents.{next_after}
use Rattle.snapshot_files.specs.commit_log.LogEnd.{BeganOrNot}
use Rattle.snapshot_files.specs.commit_log.Segment.{segment}
use Rattle.snapshot_files.specs.shard_files.Steps.{is_snapshot_file, next_snapshot}
use Rattle.snapshot_files.specs.shard_files.FileLaws.{SameKinds}
use Rattle.snapshot_files.proofs.shard_files_proofs.CountedLemmas.{Before, keys_ascend, key_there, there_key, same_names}

first_true : (a b : Bool) → (a && b) ≡ true → a ≡ true
first_true true b e = refl
first_true false b e = absurd (cc)

-- the files of a kind of snapshots' files are the same
module _ (kind : ℕ) (low : 8 ≤ kind) (high : kind ≤ 9) where
  moved : (a b : Files) → SameKinds 8 9 a b → (q : FileName) → IsIn (filter (is_snapshot_file kind) (keys a)) q → IsIn (filter (is_snapshot_file kind) (keys b)) q
  moved a b alike q mem =
      let there = key_there a q (IsIn-filter (is_snapshot_file kind) (keys a) q mem) in
      let asked = IsIn-filter_passes (is_snapshot_file kind) (keys a) q mem in
      let is = eqb-true q.kind kind (first_true (q.kind == kind) ((q.ns == 0) && (q.block == 0)) asked) in
      filter-IsIn (is_snapshot_file kind) (keys b) q (there_key b q there.file (alike q (omega (arith, is, low)) (omega (arith, is, high)) ∙ there.there)) asked

  same_files : (x y : Files) → SameKinds 8 9 x y → filter (is_snapshot_file kind) (keys y) ≡ filter (is_snapshot_file kind) (keys x)
  same_files x y same =
      same_names (filter (is_snapshot_file kind) (keys y)) (filter (is_snapshot_file kind) (keys x)) (Ascends-filter Before (is_snapshot_file kind) (keys y) (keys_ascend y)) (Ascends-filter Before (is_snapshot_file kind) (keys x) (keys_ascend x))
      (λ q mem. moved y x (λ r l h. sym (same r l h)) q mem) (λ q mem. moved x y same q mem)

same_next : (x y : Files) → SameKinds 8 9 x y → next_snapshot y ≡ next_snapshot x
same_next x y same = λ i. next_after (map (λ (name : FileName). name.number) (same_files 8 (omega arith) (omega arith) x y same i ++ same_files 9 (omega arith) (omega arith) x y same i))

-- a segment that begins changes no snapshot
pub begun_next : (number : ℕ) (a b : DiskState) → BeganOrNot number a b → next_snapshot b.files ≡ next_snapshot a.files
begun_next number a b began =
    ⊎_elim (λ (none : Becomes (λ files. files) a b). ap next_snapshot none.files)
    (λ (done : Becomes (files_with_zeros (segment number) 65536) a b). same_next a.files b.files (λ q low high. ap (λ (m : Files). get m q) done.files ∙ get_apart a.files (segment number) (replicate 65536 0) q (λ e. let kind = ap (λ (n : FileName). n.kind) e in omega (arith, kind, low)))) began
