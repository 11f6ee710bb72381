-- What an opening takes in, and what each stop leaves of it.
use Rattle.std.proofs.Common.{◌≡◌, ⊎_elim, ℕ, true, false, Option, Some, None, List, sym, ap, subst}
use Rattle.m3_model.specs.Answers.{HasPoint}
use Rattle.m3_model.specs.Contents.{Contents, content_of, key_of}
use Rattle.m3_model.specs.Members.{IsIn}
use Rattle.m3_model.specs.declared.point.Point.{Point}
use Rattle.m3_model.proofs.MemberLemmas.{IsIn-append_left, IsIn-append_cases}
use Rattle.m3_outside.specs.DiskState.{DiskState, Told, EachImage}
use Rattle.m3_outside.specs.Files.{Files}
use Rattle.store_log.specs.listed_volumes.block_buffer.Taken.{settled_with}
use Rattle.store_log.specs.listed_volumes.shard_files.Parts.{KnownVolume, VolumesAre, counted_volumes}
use Rattle.store_log.specs.listed_volumes.shard_files.FilesHold.{file_points, volume_points}
use Rattle.store_log.specs.listed_volumes.shard_files.Once.{HeldOnce}
use Rattle.store_log.specs.listed_volumes.Listed.{known_in}
use Rattle.store_log.proofs.listed_volumes_proofs.shard_files_proofs.ContentLemmas.{content_source}
use Rattle.store_log.proofs.listed_volumes_proofs.shard_files_proofs.PartLemmas.{one_volumes}
use Rattle.store_log.specs.snapshot_steps.volume_steps.Known.{HoldsKnown, points_beside}
use Rattle.store_log.proofs.snapshot_steps_proofs.volume_steps_proofs.KnownLemmas.{stands_there}
use Rattle.store_log.proofs.snapshot_steps_proofs.volume_steps_proofs.LawLemmas.{join_is_there}
use Rattle.shard_store.specs.Stores.{StoreState, HoldsOpened, joined_with}
use Rattle.shard_store.specs.StoreParts.{state_of, IsKept}
use Rattle.shard_store.specs.declared.opened.Opened.{Opened}
use Rattle.shard_store.proofs.PointLemmas.{settled_source}

-- what was read is what each image holds; in memory are those of the points that no volume has
pub only_held : (points : List Point) (known : List KnownVolume) (tenure fence : ℕ) (d : DiskState) → Told d (HeldOnce points tenure fence) → Told d (VolumesAre known) → EachImage d (λ c. c ≡ d.files)
    → EachImage d (HoldsKnown (settled_with (content_of points) (volume_points known)) known tenure fence)
only_held points known tenure fence d held are only tells c image = subst (HoldsKnown (settled_with (content_of points) (volume_points known)) known tenure fence) (sym (only tells c image)) here
  where
    h : HeldOnce points tenure fence d.files
    h = held tells

    same : h.held.parts.volumes ≡ known
    same = one_volumes d.files (counted_volumes d.files) h.held.parts.volumes known h.held.holds.volumes (are tells)

    beside : (p : Point) → HasPoint (settled_with (content_of points) (volume_points known)) p → IsIn (points_beside h.held.parts) p
    beside p left =
        let from = settled_source (volume_points known) (content_of points) p left in
        let all : IsIn h.all p = (h.once.same p).0 (content_source points (key_of p) p.v from.0) in
        let of : IsIn (file_points h.held.parts) p = subst (λ l. IsIn l p) h.held.points_are all in
        ⊎_elim (λ (m : IsIn (volume_points h.held.parts.volumes) p). absurd (from.1 (subst (λ ks. IsIn (volume_points ks) p) same m))) (λ (m : IsIn (points_beside h.held.parts) p). m) (IsIn-append_cases (volume_points h.held.parts.volumes) (points_beside h.held.parts) p of)

    here : HoldsKnown (settled_with (content_of points) (volume_points known)) known tenure fence d.files
    here = record { points = h.all; held = h.held; volumes = same; there = beside }

-- and each point of a volume is one of those that were read
pub volumes_among : (points : List Point) (known : List KnownVolume) (tenure fence : ℕ) (files : Files) → HeldOnce points tenure fence files → VolumesAre known files → (p : Point) → IsIn (volume_points known) p → IsIn points p
volumes_among points known tenure fence files h are p m =
    let same : h.held.parts.volumes ≡ known = one_volumes files (counted_volumes files) h.held.parts.volumes known h.held.holds.volumes are in
    (h.once.same p).1 (subst (λ l. IsIn l p) (sym h.held.points_are) (IsIn-append_left (volume_points h.held.parts.volumes) (points_beside h.held.parts) p (subst (λ ks. IsIn (volume_points ks) p) (sym same) m)))

-- each point of an open store's content is one that a stop leaves
pub holds_content : (memory : Contents) (known : List KnownVolume) (tenure fence : ℕ) (files : Files) → HoldsKnown memory known tenure fence files → HoldsOpened (joined_with memory known) tenure fence files
holds_content memory known tenure fence files has = record {
  points = has.points;
  held = has.held;
  all = λ p h. subst (λ l. IsIn l p) (sym has.held.points_are) (stands_there memory known tenure fence files has p (join_is_there memory known p h));
}

pub shown_by_each : {D : Type 0} (state : D → DiskState) (s : StoreState D) (disk : D) (opened : Option Opened) → state_of disk opened ≡ s → IsKept opened (state disk) → s.open_ ≡ true
    → EachImage (state s.disk) (HoldsOpened s.content s.tenure s.fence)
shown_by_each {D} state s disk None is kept open_ = let closed : false ≡ s.open_ = ap (λ (x : StoreState D). x.open_) is in absurd (cc)
shown_by_each {D} state s disk (Some opened) is kept open_ =
    subst (λ (x : StoreState D). EachImage (state x.disk) (HoldsOpened x.content x.tenure x.fence)) is (λ tells c image. holds_content opened.held.points (known_in opened.volumes.items) opened.tenure opened.fence c (kept.0.exact tells c image))
