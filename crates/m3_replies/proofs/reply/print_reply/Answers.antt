use Rattle.std.proofs.Common.{◌≡◌, Some, ◌++◌, ap, subst, ◌∙◌}
use Rattle.serde_json.specs.Read.{read}
use Rattle.serde_json.specs.Written.{compact_text}
use Rattle.m3_replies.specs.Replies.{reply_data}
use Rattle.m3_replies.proofs.reply.print_reply.Goals as goal

pub returns-clause-text : goal.returns-clause-text
returns-clause-text c =
    c.in_ok-text_into.ensures.text ∙ ap (λ instances. c.args.text.now.items ++ compact_text (reply_data instances c.args.reply.now)) c.instances_of.ensures

pub returns-clause-reads_back : goal.returns-clause-reads_back
returns-clause-reads_back c =
    subst (λ instances. read (compact_text (reply_data instances c.args.reply.now)) ≡ Some (reply_data instances c.args.reply.now)) c.instances_of.ensures c.in_ok-text_into.ensures.reads_back
