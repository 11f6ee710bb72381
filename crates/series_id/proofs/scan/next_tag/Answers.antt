use Rattle.std.proofs.Common.{refl}
use Rattle.std.proofs.lemmas.Result.{err_from_is_err_and}
use Rattle.series_id.proofs.Positions.{tag_faults, end_faults, read_last, read_more}
use Rattle.series_id.proofs.scan.next_tag.Goals as goal

pub returns-in_err-name-clause-err : goal.returns-in_err-name-clause-err
returns-in_err-name-clause-err c =
    let p = err_from_is_err_and c.from_residual.result c.from_residual.ensures.1 in
    rw (p.1, p.2) (tag_faults c.args.position c.in_err-name.field-0.0 c.in_err-name.ensures.err)

pub returns-in_err-read_end-clause-err : goal.returns-in_err-read_end-clause-err
returns-in_err-read_end-clause-err c =
    let p = err_from_is_err_and c.from_residual-in_err-read_end.result c.from_residual-in_err-read_end.ensures.1 in
    let b = c.in_ok-name.ensures.ok in
    rw (p.1, p.2) (end_faults c.args.position (c.in_ok-name.name.now, b.0) c.in_ok-name.later.now c.in_err-read_end.field-0.0 b.2 c.in_err-read_end.ensures.err)

pub returns-in-None-clause-ok : goal.returns-in-None-clause-ok
returns-in-None-clause-ok c =
    read_last c.args.position c.in_ok-name.name.now c.in_ok-name.spelling.now c.in_ok-name.later.now c.in_ok-name.ensures.ok (rw c.in-None.is at c.in_ok-read_end.ensures.ok)

pub returns-in-Some-clause-ok : goal.returns-in-Some-clause-ok
returns-in-Some-clause-ok c =
    let next = rw c.in-Some.is at c.in_ok-read_end.ensures.ok in
    read_more c.args.position _ c.in_ok-name.name.now c.in_ok-name.spelling.now c.in_ok-name.later.now c.in_ok-name.ensures.ok next.0 next.1 refl refl refl
