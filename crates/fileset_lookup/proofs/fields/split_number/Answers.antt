use Rattle.std.proofs.Common.{◌∙◌}
use Rattle.fileset_lookup.proofs.HeadLemmas.{number_first, behind_number, rest_of}
use Rattle.fileset_lookup.proofs.fields.split_number.Goals as goal

pub returns-in_err-n-clause-whole : goal.returns-in_err-n-clause-whole
returns-in_err-n-clause-whole c = λ n rest fits is.
    let no = c.in_err-n.ensures.whole n fits (number_first c.args.width n c.args.bytes.now rest is) in
    absurd (cc)

pub returns-clause-whole : goal.returns-clause-whole
returns-clause-whole c = λ n rest fits is.
    let read = c.in_ok-n.ensures.whole n fits (number_first c.args.width n c.args.bytes.now rest is) in
    (cc, rest_of c.args.width c.args.bytes.now ∙ behind_number c.args.width n c.args.bytes.now rest is)
