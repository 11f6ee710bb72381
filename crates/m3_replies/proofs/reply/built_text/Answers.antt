use Rattle.std.proofs.Common.{Some, ap, ◌∙◌, arith}
use Rattle.std.proofs.lemmas.Result.{IfOk-weaker}
use Rattle.serde_json.specs.Data.{depth}
use Rattle.serde_json.specs.Written.{has_float, compact_text}
use Rattle.m3_replies.proofs.PlainReplies.{reply_plain}
use Rattle.m3_replies.proofs.reply.built_text.Goals as goal

pub returns-clause-text : goal.returns-clause-text
returns-clause-text c =
    let plain = reply_plain c.args.instances.now c.args.reply.now in
    let built = c.in_ok-value.ensures in
    IfOk-weaker c.to_string.result _ _ (λ s told. told (ap has_float built ∙ plain.no_float) ∙ ap compact_text built) c.to_string.ensures.text

pub returns-clause-reads_back : goal.returns-clause-reads_back
returns-clause-reads_back c =
    let plain = reply_plain c.args.instances.now c.args.reply.now in
    let built = c.in_ok-value.ensures in
    let shallow = ap depth built in
    IfOk-weaker c.to_string.result _ _ (λ s told. told (omega (arith, shallow, plain.shallow)) ∙ ap Some built) c.to_string.ensures.reads_back
