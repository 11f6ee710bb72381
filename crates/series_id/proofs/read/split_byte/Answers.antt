use Rattle.std.proofs.Common.{◌≡◌, ◌∷◌, ap, ◌∙◌}
use Rattle.series_id.proofs.Values.{value_none, value_plain, value_marked, value_cut}
use Rattle.series_id.proofs.read.split_byte.Goals as goal

pub returns-in_err-first-clause-spelled : goal.returns-in_err-first-clause-spelled
returns-in_err-first-clause-spelled c = λ value e. rw c.from_residual.ensures (value_none c.args.text.now value c.in_err-first.ensures.cases e)

pub returns-then-first-ne92-clause-spelled : goal.returns-then-first-ne92-clause-spelled
returns-then-first-ne92-clause-spelled c = λ value e. value_plain c.args.text.now value c.in_ok-first.later.now c.in_ok-first.first.now c.in_ok-first.ensures.cases.0 c.if-first-ne92.true e

pub returns-in_err-byte-clause-spelled : goal.returns-in_err-byte-clause-spelled
returns-in_err-byte-clause-spelled c =
    let text : c.args.text.now ≡ 92 ∷ c.in_ok-first.later.now = c.in_ok-first.ensures.cases.0 ∙ ap (λ b. b ∷ c.in_ok-first.later.now) c.if-first-ne92.false in
    λ value e. rw c.from_residual-in_err-byte.ensures (value_cut c.args.text.now value c.in_ok-first.later.now text c.in_err-byte.ensures.cases e)

pub returns-clause-spelled : goal.returns-clause-spelled
returns-clause-spelled c =
    let text : c.args.text.now ≡ 92 ∷ c.in_ok-first.later.now = c.in_ok-first.ensures.cases.0 ∙ ap (λ b. b ∷ c.in_ok-first.later.now) c.if-first-ne92.false in
    λ value e. value_marked c.args.text.now value c.in_ok-first.later.now c.in_ok-byte.later.now c.in_ok-byte.byte.now text c.in_ok-byte.ensures.cases.0 e
