use Rattle.std.proofs.lemmas.Result.{IfErr-weaker}
use Rattle.wire_bytes.proofs.PointLemmas.{exit_err}
use Rattle.meta_bytes.specs.Forms.{Counted, HasForm, Times, MayFault}
use Rattle.meta_bytes.proofs.FormLemmas.{may_count, may_items}
use Rattle.meta_bytes.proofs.spelled.read_all.Goals as goal

pub returns-in_err-count-clause-err : goal.returns-in_err-count-clause-err
returns-in_err-count-clause-err g c =
    let form = g.T.Spelled.form in
    exit_err c.from_residual.result c.in_err-count.field-0.0 (MayFault (HasForm (Counted c.args.low c.args.high form)) c.args.bytes.now c.args.at) c.from_residual.ensures.1
    (may_count c.args.low c.args.high form c.requires.fair c.args.bytes.now c.args.at c.in_err-count.field-0.0 c.in_err-count.ensures.err)

pub returns-clause-err : goal.returns-clause-err
returns-clause-err g c =
    let form = g.T.Spelled.form in
    let n = c.in_ok-count.count in
    let from = c.in_ok-count.from in
    IfErr-weaker c.read_items.result (MayFault (Times n (HasForm form)) c.args.bytes.now from) (MayFault (HasForm (Counted c.args.low c.args.high form)) c.args.bytes.now c.args.at)
    (λ e a. may_items c.args.low c.args.high form c.requires.small n c.args.bytes.now c.args.at from e c.in_ok-count.ensures.within.0 c.in_ok-count.ensures.within.1 c.in_ok-count.ensures.ok.stands a)
    c.read_items.ensures.err
