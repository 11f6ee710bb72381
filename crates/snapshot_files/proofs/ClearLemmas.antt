-- Files of older snapshots, by their names.
use Rattle.std.proofs.Common.{◌≡◌, inl, inr, ⊎_elim, ℕ, List, [], ◌∷◌, ◌++◌, refl, ap, subst, arith}
use Rattle.std.specs.Prelude.{filter, ◌==◌, ◌&&◌, nat_lt}
use Rattle.std.specs.FinMap.{keys}
use Rattle.std.proofs.lemmas.Bool.{eqb-true, and_parts}
use Rattle.fileset_check.specs.m3_model.Ascends.{Ascends}
use Rattle.fileset_check.specs.m3_model.Members.{IsIn}
use Rattle.fileset_check.proofs.m3_model_proofs.MemberLemmas.{IsIn-append_cases}
use Rattle.fileset_check.proofs.m3_model_proofs.Lists.{IsIn-filter, IsIn-filter_passes}
use Rattle.fileset_check.proofs.m3_model_proofs.Ascending.{Ascends-filter}
use Rattle.fileset_check.specs.m3_outside.declared.file_name.FileName.{FileName}
use Rattle.fileset_check.specs.m3_outside.Files.{Files}
use Rattle.fileset_check.specs.m3_outside.Removal.{AreRemovable}
use Rattle.fileset_check.proofs.m3_outside_proofs.Removal.{Distinct, removable}
use Rattle.fileset_check.specs.shard_files.Steps.{is_older, is_snapshot_file, snapshots_below}
use Rattle.fileset_check.proofs.shard_files_proofs.CountedLemmas.{Before, keys_ascend, key_there, not_itself}

-- names in strict order are apart
ascending_apart : (names : List FileName) → Ascends Before names → Distinct names
ascending_apart [] up = tt
ascending_apart (name ∷ names) up = ((λ q m same. not_itself name (subst (Before name) same (up.0 q m))), ascending_apart names up.1)

both_apart : (front back : List FileName) → Distinct front → Distinct back → ((q r : FileName) → IsIn front q → IsIn back r → r ≡ q → ⊥) → Distinct (front ++ back)
both_apart [] back one two apart = two
both_apart (name ∷ front) back one two apart = (
  (λ q m same. ⊎_elim (λ (f : IsIn front q). one.0 q f same) (λ (b : IsIn back q). apart name q (inl refl) b same) (IsIn-append_cases front back q m)),
  both_apart front back one.1 two (λ q r f b. apart q r (inr f) b),
)

kind_of_older : (kind number : ℕ) (names : List FileName) (q : FileName) → IsIn (filter (is_older kind number) names) q → q.kind ≡ kind
kind_of_older kind number names q m =
    let older = and_parts (is_snapshot_file kind q) (nat_lt q.number number) (IsIn-filter_passes (is_older kind number) names q m) in
    eqb-true q.kind kind (and_parts (q.kind == kind) ((q.ns == 0) && (q.block == 0)) older.0).0

-- the files of older snapshots can be taken away
pub below_removable : (number : ℕ) (files : Files) → AreRemovable (snapshots_below number files) files
below_removable number files =
    let front = filter (is_older 9 number) (keys files) in
    let back = filter (is_older 8 number) (keys files) in
    removable (front ++ back) files
    (both_apart front back (ascending_apart front (Ascends-filter Before (is_older 9 number) (keys files) (keys_ascend files))) (ascending_apart back (Ascends-filter Before (is_older 8 number) (keys files) (keys_ascend files)))
    (λ q r f b same.
    let nine = kind_of_older 9 number (keys files) q f in
    let eight = kind_of_older 8 number (keys files) r b in
    let alike = ap (λ (n : FileName). n.kind) same in
    omega (arith, nine, eight, alike)))
    (λ q m. ⊎_elim (λ (f : IsIn front q). key_there files q (IsIn-filter (is_older 9 number) (keys files) q f)) (λ (b : IsIn back q). key_there files q (IsIn-filter (is_older 8 number) (keys files) q b)) (IsIn-append_cases front back q m))
