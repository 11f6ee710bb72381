use Rattle.std.proofs.Common.{◌∙◌, ◌++◌, ℕ, List, take, drop, sym, subst}
use Rattle.std.specs.Prelude.{IfOk, None}
use Rattle.std.proofs.lemmas.Result.{IfOk-weaker}
use Rattle.std.specs.Option.{option_copied}
use Rattle.m3_model.specs.Contents.{content_of}
use Rattle.m3_model.specs.Members.{IsIn}
use Rattle.m3_model.specs.declared.point.Point.{Point}
use Rattle.volume_points.specs.m3_outside.Files.{Files}
use Rattle.volume_points.proofs.commit_log_proofs.Leaves.{leaves_as, leaves_then}
use Rattle.volume_points.proofs.commit_log_proofs.ReadLemmas.{passed_err}
use Rattle.volume_points.specs.shard_files.FilesHold.{volume_points}
use Rattle.volume_points.specs.fileset_read.declared.file_err.FileErr.TheVariants as failures
use Rattle.first_points.specs.Bounds.{points_up_to}
use Rattle.first_points.specs.Firsts.{AreFirst}
use Rattle.first_points.proofs.BoundLemmas.{up_to_none}
use Rattle.volume_points.proofs.ReadLemmas.{not_fault}
use Rattle.listed_volumes.specs.declared.volume.ListedVolume.{ListedVolume}
use Rattle.listed_volumes.specs.Cached.{AreRight}
use Rattle.listed_volumes.specs.FirstListed.{IsLastNeeded}
use Rattle.listed_volumes.specs.Listed.{AreHeld, known_in}
use Rattle.listed_volumes.proofs.FetchLemmas.{held_back, held_front, in_back, in_front}
use Rattle.listed_volumes.proofs.FirstLemmas.{points_of_parts}
use Rattle.listed_volumes.proofs.NeededLemmas.{first_of_join, join_of_turned}
use Rattle.listed_volumes.proofs.first.first_listed.Goals as goal

-- ---- the volumes from the key's block on

pub first_up_to-requires-clause-there : goal.first_up_to-requires-clause-there
first_up_to-requires-clause-there g c = λ tells.
    let files = (g.D.Disk.state c.args.disk.now).files in
    subst (λ (l : List ListedVolume). AreHeld (known_in l) files) (sym c.split_at.ensures.back) (held_back files _ c.args.volumes.now (c.requires.there tells))

pub first_up_to-requires-clause-right : goal.first_up_to-requires-clause-right
first_up_to-requires-clause-right g c = λ tells.
    subst (λ (l : List ListedVolume). AreRight (known_in l) c.args.kept.now) (sym c.split_at.ensures.back) (λ k m. c.requires.right tells k (in_back _ c.args.volumes.now k m))

pub returns-in_err-first-clause-kept : goal.returns-in_err-first-clause-kept
returns-in_err-first-clause-kept g c = λ known among listed. c.first_up_to.ensures.kept known (λ k m. among k (in_back _ c.args.volumes.now k (subst (λ (l : List ListedVolume). IsIn (known_in l) k) c.split_at.ensures.back m))) listed

-- ---- those before

pub first_up_to-requires-2-clause-there : goal.first_up_to-requires-2-clause-there
first_up_to-requires-2-clause-there g c = λ later.
    let files = (g.D.Disk.state c.args.disk.now).files in
    let leaves = c.first_up_to.ensures.leaves in
    let tells = sym leaves.proceeds.tells ∙ later in
    subst (λ (m : Files). AreHeld (known_in c.split_at.result.0.now) m) (sym (leaves.files tells))
    (subst (λ (l : List ListedVolume). AreHeld (known_in l) files) (sym c.split_at.ensures.front) (held_front files _ c.args.volumes.now (c.requires.there tells)))

pub first_up_to-requires-2-clause-right : goal.first_up_to-requires-2-clause-right
first_up_to-requires-2-clause-right g c = λ later.
    let tells = sym c.first_up_to.ensures.leaves.proceeds.tells ∙ later in
    let right = c.first_up_to.ensures.right tells (known_in c.args.volumes.now) (c.requires.there tells) (c.requires.right tells) in
    subst (λ (l : List ListedVolume). AreRight (known_in l) c.first_up_to.new.kept) (sym c.split_at.ensures.front) (λ k m. right k (in_front _ c.args.volumes.now k m))

pub returns-in_err-second-clause-leaves : goal.returns-in_err-second-clause-leaves
returns-in_err-second-clause-leaves g c =
    leaves_then _ _ (g.D.Disk.state c.args.disk.now) (g.D.Disk.state c.first_up_to.new.disk) (g.D.Disk.state c.first_up_to-2.new.disk) c.first_up_to.ensures.leaves
    (leaves_as _ _ (g.D.Disk.state c.first_up_to.new.disk) (g.D.Disk.state c.first_up_to-2.new.disk)
    (λ f. passed_err c.from_residual-in_err-second.result c.first_up_to-2.result c.in_err-second.field-0.0 failures.Disk c.in_err-second.was c.from_residual-in_err-second.ensures.1 f) c.first_up_to-2.ensures.leaves)

pub returns-in_err-second-clause-kept : goal.returns-in_err-second-clause-kept
returns-in_err-second-clause-kept g c = λ known among listed.
    c.first_up_to-2.ensures.kept known (λ k m. among k (in_front _ c.args.volumes.now k (subst (λ (l : List ListedVolume). IsIn (known_in l) k) c.split_at.ensures.front m)))
    (c.first_up_to.ensures.kept known (λ k m. among k (in_back _ c.args.volumes.now k (subst (λ (l : List ListedVolume). IsIn (known_in l) k) c.split_at.ensures.back m))) listed)

-- ---- both

pub returns-clause-leaves : goal.returns-clause-leaves
returns-clause-leaves g c =
    leaves_then _ _ (g.D.Disk.state c.args.disk.now) (g.D.Disk.state c.first_up_to.new.disk) (g.D.Disk.state c.first_up_to-2.new.disk) c.first_up_to.ensures.leaves
    (leaves_as _ _ (g.D.Disk.state c.first_up_to.new.disk) (g.D.Disk.state c.first_up_to-2.new.disk) (λ f. absurd (not_fault c.both.result c.both.ensures.err f)) c.first_up_to-2.ensures.leaves)

pub returns-clause-kept : goal.returns-clause-kept
returns-clause-kept g c = λ known among listed.
    c.first_up_to-2.ensures.kept known (λ k m. among k (in_front _ c.args.volumes.now k (subst (λ (l : List ListedVolume). IsIn (known_in l) k) c.split_at.ensures.front m)))
    (c.first_up_to.ensures.kept known (λ k m. among k (in_back _ c.args.volumes.now k (subst (λ (l : List ListedVolume). IsIn (known_in l) k) c.split_at.ensures.back m))) listed)

pub returns-clause-first : goal.returns-clause-first
returns-clause-first g c = λ tells.
    let leaves = c.first_up_to.ensures.leaves in
    let vs = c.args.volumes.now in
    let n : ℕ = c.count_earlier.result in
    let after = option_copied c.args.after in
    let needed = option_copied c.last_needed-needed.result in
    let first = c.in_ok-first.first in
    let second = c.in_ok-second.second in
    let limit = c.args.limit in
    let front = volume_points (known_in (take n vs)) in
    let back = volume_points (known_in (drop n vs)) in
    subst (λ (ps : List Point). IfOk c.both.result (AreFirst (content_of ps) after limit)) (sym (points_of_parts n vs))
    (IfOk-weaker c.both.result _ (AreFirst (content_of (front ++ back)) after limit)
    (λ points merge.
    subst (λ (ps : List Point). AreFirst (content_of ps) after limit points) (up_to_none (front ++ back))
    (first_of_join after limit None needed back front (front ++ back) first second points (join_of_turned front back)
    (subst (λ (l : List ListedVolume). AreFirst (content_of (points_up_to None (volume_points (known_in l)))) after limit first) c.split_at.ensures.back (c.in_ok-first.ensures.first tells))
    (subst (λ (l : List ListedVolume). AreFirst (content_of (points_up_to needed (volume_points (known_in l)))) after limit second) c.split_at.ensures.front (c.in_ok-second.ensures.first (leaves.proceeds.tells ∙ tells)))
    merge
    (subst (λ (l : List Point). IsLastNeeded l limit None needed) c.as_slice.ensures c.last_needed-needed.ensures)))
    c.both.ensures.ok)
