use Rattle.std.proofs.Common.{◌∙◌, sym, subst}
use Rattle.volume_points.specs.volume_bytes.Heads.{head_of}
use Rattle.volume_points.specs.Picked.{AreAscending}
use Rattle.volume_points.proofs.VolumeLemmas.{answer_of_one, same_rows}
use Rattle.listed_volumes.specs.Listed.{known_as}
use Rattle.listed_volumes.proofs.CachedLemmas.{listed_kept, matched_all, right_kept}
use Rattle.listed_volumes.proofs.fetching.read_matched.Goals as goal

pub returns-clause-answer : goal.returns-clause-answer
returns-clause-answer g c = λ tells.
    let v = head_of c.args.volume.now.head in
    let rows = c.args.volume.now.rows.value in
    let found = c.as_slice.result.now in
    let holds = c.requires.there tells in
    let same = c.as_slice.ensures ∙ same_rows v c.in_ok-rows.rows rows (g.D.Disk.state c.args.disk.now).files (c.in_ok-rows.ensures.ok tells) holds in
    answer_of_one v rows holds.values c.args.pick.now c.args.from c.args.to found c.in-Ok.series c.requires.space (matched_all c.args.pick.now rows found c.requires.matched same)
    (c.in-Ok.ensures.ordered (subst AreAscending (sym c.as_slice.ensures) c.in_ok-rows.ensures.ascending)) c.in-Ok.ensures.selection

pub returns-clause-kept : goal.returns-clause-kept
returns-clause-kept g c = listed_kept (known_as c.args.volume.now) c.in_ok-rows.rows c.args.kept.now c.keep.new.self c.keep.ensures

pub returns-clause-right : goal.returns-clause-right
returns-clause-right g c = λ tells.
    right_kept (g.D.Disk.state c.args.disk.now).files (head_of c.args.volume.now.head) c.in_ok-rows.rows c.args.kept.now c.keep.new.self (c.in_ok-rows.ensures.ok tells) c.keep.ensures
