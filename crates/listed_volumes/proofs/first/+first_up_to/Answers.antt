use Rattle.std.proofs.Common.{rules, ◌∙◌, ◌/◌, ◌++◌, ℕ, List, length, take, drop, sym, subst}
use Rattle.std.specs.Prelude.{IfOk}
use Rattle.std.proofs.lemmas.Result.{IfOk-weaker}
use Rattle.std.specs.Option.{option_copied}
use Rattle.m3_model.specs.Contents.{content_of}
use Rattle.m3_model.specs.Members.{IsIn}
use Rattle.m3_model.specs.declared.point.Point.{Point}
use Rattle.volume_points.specs.m3_outside.Files.{Files}
use Rattle.volume_points.proofs.commit_log_proofs.Leaves.{leaves_none, leaves_as, leaves_then}
use Rattle.volume_points.proofs.commit_log_proofs.ReadLemmas.{passed_err}
use Rattle.volume_points.specs.shard_files.FilesHold.{volume_points}
use Rattle.volume_points.specs.fileset_read.declared.file_err.FileErr.TheVariants as failures
use Rattle.first_points.specs.Bounds.{points_up_to}
use Rattle.first_points.specs.Firsts.{AreFirst}
use Rattle.volume_points.proofs.ReadLemmas.{not_fault}
use Rattle.listed_volumes.specs.declared.volume.ListedVolume.{ListedVolume}
use Rattle.listed_volumes.specs.Cached.{AreRight}
use Rattle.listed_volumes.specs.FirstListed.{IsLastNeeded}
use Rattle.listed_volumes.specs.Listed.{AreHeld, known_in}
use Rattle.listed_volumes.proofs.FetchLemmas.{held_back, held_first, held_front, in_back, in_front}
use Rattle.listed_volumes.proofs.FirstLemmas.{first_alone, first_none, points_of_parts}
use Rattle.listed_volumes.proofs.NeededLemmas.{first_of_join, join_of_parts}
use Rattle.listed_volumes.proofs.first.+first_up_to.Goals as goal

pub first_of_one-requires-clause-there : goal.first_of_one-requires-clause-there
first_of_one-requires-clause-there g t c = λ tells. held_first (g.D.Disk.state c.args.disk.now).files c.args.volumes.now c.volume-item.result c.in-len1.len_at_least c.volume-item.is (c.requires.there tells)

pub first_up_to-requires : goal.first_up_to-requires
first_up_to-requires g t c κs within = (
  search rules,
  (
    search rules,
    (
      (λ tells.
          let files = (g.D.Disk.state c.args.disk.now).files in
          subst (λ (l : List ListedVolume). AreHeld (known_in l) files) (sym c.split_at.ensures.front) (held_front files _ c.args.volumes.now (c.requires.there tells))),
      (λ tells.
          subst (λ (l : List ListedVolume). AreRight (known_in l) c.args.kept.now) (sym c.split_at.ensures.front) (λ k m. c.requires.right tells k (in_front _ c.args.volumes.now k m))),
    ),
  ),
)

pub first_up_to-requires-in_default : goal.first_up_to-requires-in_default
first_up_to-requires-in_default g t c κs within = (
  search rules,
  (
    search rules,
    (
      (λ later.
          let files = (g.D.Disk.state c.args.disk.now).files in
          let leaves = c.first_up_to.ensures.leaves in
          let tells = sym leaves.proceeds.tells ∙ later in
          subst (λ (m : Files). AreHeld (known_in c.split_at.result.1.now) m) (sym (leaves.files tells))
          (subst (λ (l : List ListedVolume). AreHeld (known_in l) files) (sym c.split_at.ensures.back) (held_back files _ c.args.volumes.now (c.requires.there tells)))),
      (λ later.
          let tells = sym c.first_up_to.ensures.leaves.proceeds.tells ∙ later in
          let right = c.first_up_to.ensures.right tells (known_in c.args.volumes.now) (c.requires.there tells) (c.requires.right tells) in
          subst (λ (l : List ListedVolume). AreRight (known_in l) c.first_up_to.new.kept) (sym c.split_at.ensures.back) (λ k m. right k (in_back _ c.args.volumes.now k m))),
    ),
  ),
)

pub returns-in_err-late-in_default-clause-leaves : goal.returns-in_err-late-in_default-clause-leaves
returns-in_err-late-in_default-clause-leaves g t c =
    leaves_then _ _ (g.D.Disk.state c.args.disk.now) (g.D.Disk.state c.first_up_to.new.disk) (g.D.Disk.state c.first_up_to-in_default.new.disk) c.first_up_to.ensures.leaves
    (leaves_as _ _ (g.D.Disk.state c.first_up_to.new.disk) (g.D.Disk.state c.first_up_to-in_default.new.disk)
    (λ f. passed_err c.from_residual-in_err-late-in_default.result c.first_up_to-in_default.result c.in_err-late-in_default.field-0.0 failures.Disk c.in_err-late-in_default.was c.from_residual-in_err-late-in_default.ensures.1 f) c.first_up_to-in_default.ensures.leaves)

pub returns-in-empty-clause-leaves : goal.returns-in-empty-clause-leaves
returns-in-empty-clause-leaves g t c = leaves_none _ (g.D.Disk.state c.args.disk.now) (λ f. absurd (cc))

pub returns-in_ok-late-in_default-clause-leaves : goal.returns-in_ok-late-in_default-clause-leaves
returns-in_ok-late-in_default-clause-leaves g t c =
    leaves_then _ _ (g.D.Disk.state c.args.disk.now) (g.D.Disk.state c.first_up_to.new.disk) (g.D.Disk.state c.first_up_to-in_default.new.disk) c.first_up_to.ensures.leaves
    (leaves_as _ _ (g.D.Disk.state c.first_up_to.new.disk) (g.D.Disk.state c.first_up_to-in_default.new.disk) (λ f. absurd (not_fault c.both.result c.both.ensures.err f)) c.first_up_to-in_default.ensures.leaves)

-- ---- what is kept of the volumes

pub returns-in_err-early-in_default-clause-kept : goal.returns-in_err-early-in_default-clause-kept
returns-in_err-early-in_default-clause-kept g t c = λ known among listed. c.first_up_to.ensures.kept known (λ k m. among k (in_front _ c.args.volumes.now k (subst (λ (l : List ListedVolume). IsIn (known_in l) k) c.split_at.ensures.front m))) listed

pub returns-in_err-late-in_default-clause-kept : goal.returns-in_err-late-in_default-clause-kept
returns-in_err-late-in_default-clause-kept g t c = λ known among listed.
    c.first_up_to-in_default.ensures.kept known (λ k m. among k (in_back _ c.args.volumes.now k (subst (λ (l : List ListedVolume). IsIn (known_in l) k) c.split_at.ensures.back m)))
    (c.first_up_to.ensures.kept known (λ k m. among k (in_front _ c.args.volumes.now k (subst (λ (l : List ListedVolume). IsIn (known_in l) k) c.split_at.ensures.front m))) listed)

pub returns-in_ok-late-in_default-clause-kept : goal.returns-in_ok-late-in_default-clause-kept
returns-in_ok-late-in_default-clause-kept g t c = λ known among listed.
    c.first_up_to-in_default.ensures.kept known (λ k m. among k (in_back _ c.args.volumes.now k (subst (λ (l : List ListedVolume). IsIn (known_in l) k) c.split_at.ensures.back m)))
    (c.first_up_to.ensures.kept known (λ k m. among k (in_front _ c.args.volumes.now k (subst (λ (l : List ListedVolume). IsIn (known_in l) k) c.split_at.ensures.front m))) listed)

-- ---- what is found

pub returns-in-empty-clause-first : goal.returns-in-empty-clause-first
returns-in-empty-clause-first g t c = λ tells.
    let last = option_copied c.args.last in
    subst (λ (points : List Point). AreFirst (content_of (points_up_to last (volume_points (known_in c.args.volumes.now)))) (option_copied c.args.after) c.args.limit points) (sym c.new.ensures) (first_none (option_copied c.args.after) last c.args.limit c.args.volumes.now c.in-empty.len_below)

pub returns-in-len1-clause-first : goal.returns-in-len1-clause-first
returns-in-len1-clause-first g t c = λ tells.
    first_alone (option_copied c.args.after) (option_copied c.args.last) c.args.limit c.args.volumes.now c.volume-item.result c.first_of_one.result c.in-len1.len_at_least c.in-len1.len_below c.volume-item.is (c.first_of_one.ensures.first tells)

pub returns-in_ok-late-in_default-clause-first : goal.returns-in_ok-late-in_default-clause-first
returns-in_ok-late-in_default-clause-first g t c = λ tells.
    let leaves = c.first_up_to.ensures.leaves in
    let vs = c.args.volumes.now in
    let n : ℕ = length vs / 2 in
    let after = option_copied c.args.after in
    let last = option_copied c.args.last in
    let needed = option_copied c.last_needed-needed.result in
    let early = c.in_ok-early-in_default.early in
    let late = c.in_ok-late-in_default.late in
    let limit = c.args.limit in
    subst (λ (ps : List Point). IfOk c.both.result (AreFirst (content_of (points_up_to last ps)) after limit)) (sym (points_of_parts n vs))
    (IfOk-weaker c.both.result _ (AreFirst (content_of (points_up_to last (volume_points (known_in (take n vs)) ++ volume_points (known_in (drop n vs))))) after limit)
    (λ points merge.
    let front = volume_points (known_in (take n vs)) in
    let back = volume_points (known_in (drop n vs)) in
    first_of_join after limit last needed front back (front ++ back) early late points (join_of_parts front back)
    (subst (λ (l : List ListedVolume). AreFirst (content_of (points_up_to last (volume_points (known_in l)))) after limit early) c.split_at.ensures.front (c.in_ok-early-in_default.ensures.first tells))
    (subst (λ (l : List ListedVolume). AreFirst (content_of (points_up_to needed (volume_points (known_in l)))) after limit late) c.split_at.ensures.back (c.in_ok-late-in_default.ensures.first (leaves.proceeds.tells ∙ tells)))
    merge
    (subst (λ (l : List Point). IsLastNeeded l limit last needed) c.as_slice.ensures c.last_needed-needed.ensures))
    c.both.ensures.ok)
