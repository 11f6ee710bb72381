use Rattle.std.proofs.Common.{◌∙◌, List, subst}
use Rattle.std.specs.Option.{option_copied}
use Rattle.m3_model.specs.Contents.{content_of}
use Rattle.m3_model.specs.declared.point.Series.{Series}
use Rattle.volume_points.specs.wire_bytes.Volumes.{points_of_rows}
use Rattle.volume_points.specs.volume_bytes.Heads.{head_of}
use Rattle.volume_points.proofs.VolumeLemmas.{same_rows}
use Rattle.first_points.specs.Bounds.{points_up_to}
use Rattle.first_points.specs.Firsts.{AreFirst}
use Rattle.listed_volumes.specs.Listed.{known_as}
use Rattle.listed_volumes.proofs.CachedLemmas.{listed_kept, right_kept}
use Rattle.listed_volumes.proofs.first.first_read.Goals as goal

pub returns-clause-first : goal.returns-clause-first
returns-clause-first g c = λ tells.
    let v = head_of c.args.volume.now.head in
    let rows = c.args.volume.now.rows.value in
    let same = c.as_slice.ensures ∙ same_rows v c.in_ok-rows.rows rows (g.D.Disk.state c.args.disk.now).files (c.in_ok-rows.ensures.ok tells) (c.requires.there tells) in
    subst (λ (l : List Series). AreFirst (content_of (points_up_to (option_copied c.args.last) (points_of_rows v.ns l))) (option_copied c.args.after) c.args.limit c.in-Ok.points) same c.in-Ok.ensures

pub returns-clause-kept : goal.returns-clause-kept
returns-clause-kept g c = listed_kept (known_as c.args.volume.now) c.in_ok-rows.rows c.args.kept.now c.keep.new.self c.keep.ensures

pub returns-clause-right : goal.returns-clause-right
returns-clause-right g c = λ tells.
    right_kept (g.D.Disk.state c.args.disk.now).files (head_of c.args.volume.now.head) c.in_ok-rows.rows c.args.kept.now c.keep.new.self (c.in_ok-rows.ensures.ok tells) c.keep.ensures
