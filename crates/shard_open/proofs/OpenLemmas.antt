-- Volumes that are opened, and what is loaded of all files.
use Rattle.std.proofs.Common.{◌≡◌, ℕ, ◌+◌, ◌<◌, ◌≤◌, max, List, [], ◌∷◌, ◌++◌, length, take, get_or, map, sym, ap, ap₂, subst, ◌∙◌, append_assoc, append-nil, Result, Err, IsErrAnd}
use Rattle.std.specs.Prelude.{IsErrOf}
use Rattle.std.proofs.lemmas.Result.{err_from_is_err_and}
use Rattle.std.proofs.lemmas.List.{map-append, take_all, take_more}
use Rattle.std.proofs.lemmas.Grind.{flat_map-append}
use Rattle.m3_model.specs.declared.point.Point.{Point}
use Rattle.snapshot_files.specs.m3_outside.Files.{Files}
use Rattle.snapshot_files.specs.m3_outside.declared.file_name.FileName.{FileName}
use Rattle.snapshot_files.specs.wire_bytes.Volumes.{Checkpoint}
use Rattle.snapshot_files.specs.volume_bytes.Heads.{head_of}
use Rattle.snapshot_files.specs.shard_files.declared.entries.LogEntry.{LogEntry}
use Rattle.snapshot_files.specs.shard_files.HeldEntries.{HoldsEntries, AmountTo}
use Rattle.snapshot_files.specs.shard_files.Parts.{KnownVolume, IsKnown, AreKnown, VolumeHolds, part_of, counted_volumes}
use Rattle.snapshot_files.specs.shard_files.FilesHold.{points_known, volume_points}
use Rattle.snapshot_files.specs.shard_files.declared.load_err.LoadErr.{LoadErr}
use Rattle.snapshot_files.specs.shard_files.declared.load_err.LoadErr.TheVariants as failures
use Rattle.snapshot_files.specs.shard_files.Once.{HeldOnce, IsEachOnce}
use Rattle.snapshot_files.specs.fileset_check.Whole.{AreVolumes, listed}
use Rattle.snapshot_files.specs.fileset_check.declared.volume.Volume.{Volume}
use Rattle.shard_open.specs.Loads.{known_of, IsOpen, AreOpen, AreOpened, IsNewest}
use Rattle.shard_open.specs.declared.newest.Newest.{Newest}
use Rattle.shard_open.specs.declared.volumes.OpenVolume.{OpenVolume}

-- ---- one volume more

open_push : (files : Files) (some : List Volume) (found : List OpenVolume) (volume : Volume) (v : OpenVolume) → AreOpen files some found → IsOpen files volume v → AreOpen files (some ++ volume ∷ []) (found ++ v ∷ [])
open_push files [] [] volume v are is = (is, tt)
open_push files [] (w ∷ found) volume v are is = absurd are
open_push files (one ∷ some) [] volume v are is = absurd are
open_push files (one ∷ some) (w ∷ found) volume v are is = (are.0, open_push files some found volume v are.1 is)

pub open_more : (files : Files) (all : List Volume) (i : ℕ) (d : Volume) (found new : List OpenVolume) (v : OpenVolume) → i < length all → AreOpen files (take i all) found → IsOpen files (get_or all i d) v → new ≡ found ++ v ∷ [] → AreOpen files (take (i + 1) all) new
open_more files all i d found new v lt are is after =
    subst (λ l. AreOpen files l new) (sym (take_more all i d lt)) (subst (AreOpen files (take i all ++ get_or all i d ∷ [])) (sym after) (open_push files (take i all) found (get_or all i d) v are is))

pub open_all : (files : Files) (all : List Volume) (i : ℕ) (found : List OpenVolume) → length all ≤ i → AreOpen files (take i all) found → AreOpen files all found
open_all files all i found le are = subst (λ l. AreOpen files l found) (take_all i all le) are

pub points_more : (before now points : List Point) (found new : List OpenVolume) (v : OpenVolume) → now ≡ before ++ volume_points (map known_of found) → points ≡ now ++ points_known (known_of v) → new ≡ found ++ v ∷ [] → points ≡ before ++ volume_points (map known_of new)
points_more before now points found new v was is after =
    let known = map known_of found in
    let one : volume_points (map known_of new) ≡ volume_points known ++ points_known (known_of v) =
    ap (λ l. volume_points (map known_of l)) after ∙ ap volume_points (map-append known_of found (v ∷ [])) ∙ flat_map-append points_known known (known_of v ∷ []) ∙ ap (λ l. volume_points known ++ l) (append-nil (points_known (known_of v))) in
    is ∙ ap (λ l. l ++ points_known (known_of v)) was ∙ append_assoc before (volume_points known) (points_known (known_of v)) ∙ ap (λ l. before ++ l) (sym one)

-- ---- volumes that were listed, once they are open

open_known : (files : Files) (name : FileName) (k : KnownVolume) (v : OpenVolume) → IsKnown files name k → IsOpen files (listed k) v → IsKnown files name (known_of v)
open_known files name k v is open_ = record {
  named = is.named ∙ ap (λ (w : Volume). part_of Checkpoint (head_of w.head)) (sym open_.volume_is);
  holds = subst (λ (w : Volume). VolumeHolds (head_of w.head) v.rows files) (sym open_.volume_is) open_.holds;
}

all_known : (files : Files) (names : List FileName) (known : List KnownVolume) (found : List OpenVolume) → AreKnown files names known → AreOpen files (map listed known) found → AreKnown files names (map known_of found)
all_known files [] [] [] are open_ = tt
all_known files [] [] (v ∷ found) are open_ = absurd open_
all_known files [] (k ∷ known) found are open_ = absurd are
all_known files (name ∷ names) [] found are open_ = absurd are
all_known files (name ∷ names) (k ∷ known) [] are open_ = absurd open_
all_known files (name ∷ names) (k ∷ known) (v ∷ found) are open_ = (open_known files name k v are.0 open_.0, all_known files names known found are.1 open_.1)

pub volumes_opened : (files : Files) (all : List Volume) (found : List OpenVolume) → AreVolumes files all → AreOpen files all found → AreOpened found files
volumes_opened files all found are open_ = all_known files (counted_volumes files) are.known found are.are_known (subst (λ l. AreOpen files l found) are.listed_are open_)

-- ---- all that files hold

pub loaded_once : (files : Files) (vs : List OpenVolume) (n : Newest) (es : List LogEntry) (of_volumes of_log points : List Point) (of_tenure of_fence tenure fence : ℕ) → AreOpened vs files → IsNewest files n → HoldsEntries es files → AmountTo es of_log of_tenure of_fence
    → of_volumes ≡ volume_points (map known_of vs) → IsEachOnce (of_volumes ++ (n.points ++ of_log)) points → tenure ≡ max n.tenure of_tenure → fence ≡ max n.fence of_fence → HeldOnce points tenure fence files
loaded_once files vs n es of_volumes of_log points of_tenure of_fence tenure fence are newest log amount volumes once tenure_is fence_is = record {
  all = of_volumes ++ (n.points ++ of_log);
  held = record {
    parts = record { volumes = map known_of vs; newest = newest.newest; entries = es };
    holds = record { volumes = are; newest = newest.is; log = log };
    points_are = ap₂ (λ (a b : List Point). a ++ b) volumes (ap₂ (λ (a b : List Point). a ++ b) newest.points_are amount.points_are);
    tenure_is = tenure_is ∙ ap₂ max newest.tenure_is amount.tenure_is;
    fence_is = fence_is ∙ ap₂ max newest.fence_is amount.fence_is;
  };
  once = once;
}

-- ---- answers that are handed on

-- want of memory is no fault
pub not_disk : {T : Type 0} (r : Result T LoadErr) → IsErrAnd r (λ e. e ≡ failures.Memory) → IsErrOf r failures.Disk → ⊥
not_disk {T} r is f = let p = err_from_is_err_and r is in by r p.0 p.1 p.2 f
  where
    by : (r : Result T LoadErr) (e : LoadErr) → r ≡ Err e → e ≡ failures.Memory → r ≡ Err failures.Disk → ⊥
    by r e a b f = cc
