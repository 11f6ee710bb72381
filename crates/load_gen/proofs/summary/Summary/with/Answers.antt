use Rattle.std.proofs.Common.{rules, FitsSigned, ◌∙◌, arith}
use Rattle.std.specs.Int.{w128}
use Rattle.std.proofs.lemmas.Int.{to_z-of_z}
use Rattle.load_gen.proofs.SummaryLemmas.{counts_more, few_ok}
use Rattle.load_gen.proofs.summary.Summary.with.Goals as goal

pub returns-clause-counts : goal.returns-clause-counts
returns-clause-counts c = λ replies was.
    let fits : FitsSigned w128 c.in_ok-points.sum = search rules in
    counts_more replies c.args.reply.now c.args.self _ c.says_ok.result was c.says_ok.ensures c.in_ok-lines.ensures.1 c.in_ok-ok.ensures.1 c.in_ok-points.ensures.tally.0 (to_z-of_z w128 c.in_ok-points.sum fits ∙ c.in_ok-points.ensures.tally.1)

pub returns-in_err-lines-clause-some : goal.returns-in_err-lines-clause-some
returns-in_err-lines-clause-some c = λ replies was few small. let lines = was.lines in absurd (c.in_err-lines.ensures (omega (arith, lines, few)))

pub returns-in_err-ok-clause-some : goal.returns-in_err-ok-clause-some
returns-in_err-ok-clause-some c = λ replies was few small. let ok = was.ok in let most = few_ok replies c.says_ok.result in absurd (c.in_err-ok.ensures (omega (arith, ok, most, few)))

pub returns-in_err-points-clause-some : goal.returns-in_err-points-clause-some
returns-in_err-points-clause-some c = λ replies was few small. let bad = c.in_err-points.ensures.some small in cc
