use Rattle.std.proofs.Common.{List, subst}
use Rattle.std.specs.Option.{option_copied}
use Rattle.m3_model.specs.Contents.{content_of}
use Rattle.m3_model.specs.declared.point.Series.{Series}
use Rattle.volume_points.specs.wire_bytes.Volumes.{points_of_rows}
use Rattle.volume_points.specs.volume_bytes.Heads.{head_of}
use Rattle.volume_points.specs.volume_rows.Ranges.{AreRowsFrom}
use Rattle.volume_points.proofs.VolumeLemmas.{rows_ascend}
use Rattle.first_points.specs.Bounds.{points_up_to}
use Rattle.first_points.specs.Firsts.{AreFirst}
use Rattle.listed_volumes.specs.Between.{last_id}
use Rattle.listed_volumes.proofs.RangeLemmas.{first_of_range}
use Rattle.listed_volumes.proofs.first.first_in_range.Goals as goal

pub returns-in-Ok-clause-first : goal.returns-in-Ok-clause-first
returns-in-Ok-clause-first g c = λ tells.
    let v = head_of c.args.volume.now.head in
    let rows = c.args.volume.now.rows.value in
    let after = option_copied c.args.after in
    let last = option_copied c.args.last in
    let holds = c.requires.there tells in
    let ascend = rows_ascend v rows holds.values in
    let are = c.in_ok-found.ensures.ok tells rows holds in
    first_of_range v.ns rows after last c.args.limit c.in_ok-found.found c.in-Ok.points ascend.ids ascend.times
    (subst (λ (i : List _). AreRowsFrom i (last_id v.ns last) c.args.limit rows c.in_ok-found.found) c.first_id-from.ensures (subst (λ o. AreRowsFrom c.first_id-from.result.now o c.args.limit rows c.in_ok-found.found) c.last_id-to.ensures are))
    (subst (λ (l : List Series). AreFirst (content_of (points_up_to last (points_of_rows v.ns l))) after c.args.limit c.in-Ok.points) c.as_slice.ensures c.in-Ok.ensures)
