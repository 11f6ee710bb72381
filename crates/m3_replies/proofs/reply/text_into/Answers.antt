use Rattle.std.proofs.Common.{rules}
use Rattle.std.proofs.lemmas.Result.{on_ok_weaker}
use Rattle.m3_replies.proofs.PlainReplies.{shallow_read}
use Rattle.m3_replies.proofs.reply.text_into.Goals as goal

pub returns-in-One-Acks-clause-reads_back : goal.returns-in-One-Acks-clause-reads_back
returns-in-One-Acks-clause-reads_back c =
    on_ok_weaker c.acks_into.result (λ told. shallow_read c.args.instances.now c.args.reply.now _ told (search rules)) c.acks_into.ensures.reads_back

pub returns-in-One-Found-clause-reads_back : goal.returns-in-One-Found-clause-reads_back
returns-in-One-Found-clause-reads_back c =
    on_ok_weaker c.found_into.result (λ told. shallow_read c.args.instances.now c.args.reply.now _ told (search rules)) c.found_into.ensures.reads_back
