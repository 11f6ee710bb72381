use Rattle.std.proofs.Common.{◌<◌, sym, subst}
use Rattle.std.specs.Prelude.{⊤}
use Rattle.std.proofs.lemmas.Result.{err_from_is_err_and}
use Rattle.series_id.proofs.Walks.{left, go_on, left_less, first_fault}
use Rattle.series_id.proofs.read.check.Goals as goal

pub returns-in_err-position-2-clause-refused : goal.returns-in_err-position-2-clause-refused
returns-in_err-position-2-clause-refused c =
    let p = err_from_is_err_and c.from_residual-in_err-position-2.result c.from_residual-in_err-position-2.ensures.1 in
    let r = rw c.in-Some.is at c.loop-position.invariant.reads in
    rw p.1 (first_fault c.args.text.now r.0 _ _ c.loop-position.invariant.short (c.in_err-position-2.ensures.err c.args.text.now r.0 r.1)).1

pub loop-position-smaller : goal.loop-position-smaller
loop-position-smaller c =
    let r = rw c.in-Some.is at c.loop-position.invariant.reads in
    subst (λ p. left c.in_ok-position-2.field-0.next < left p) (sym c.in-Some.is)
    (left_less c.args.text.now r.0 c.in-Some.here c.in_ok-position-2.field-0 r.1 (c.in_ok-position-2.ensures.ok c.args.text.now r.0 r.1))

pub loop-position-preserved : goal.loop-position-preserved
loop-position-preserved c =
    let r = rw c.in-Some.is at c.loop-position.invariant.reads in
    record {
      short = c.loop-position.invariant.short;
      reads = go_on (λ _. ⊤) c.args.text.now r.0 c.in_ok-position-2.field-0 c.requires c.loop-position.invariant.short (c.in_ok-position-2.ensures.ok c.args.text.now r.0 r.1) tt;
    }
