use Rattle.std.proofs.Common.{◌∙◌}
use Rattle.reply_values.specs.Json.{object_of}
use Rattle.reply_texts.specs.Texts.{acks_fields}
use Rattle.reply_texts.proofs.ReadLemmas.{appended, appended_reads}
use Rattle.reply_texts.proofs.texts.acks_into.Goals as goal

pub returns-clause-text : goal.returns-clause-text
returns-clause-text c =
    appended c.ended.result c.write_acks-written.result (object_of (acks_fields c.args.instances.now c.args.acks.now)) _ _ _ _ _ c.ended.ensures.same (c.write_acks-written.ensures.before ∙ c.begun-out.ensures.before) c.begun-out.ensures.tokens
    c.write_acks-written.ensures.tokens c.ended.ensures.ok

pub returns-clause-reads_back : goal.returns-clause-reads_back
returns-clause-reads_back c =
    appended_reads c.ended.result c.write_acks-written.result (object_of (acks_fields c.args.instances.now c.args.acks.now)) _ _ c.ended.ensures.same c.begun-out.ensures.tokens c.write_acks-written.ensures.tokens
    c.write_acks-written.ensures.reads c.ended.ensures.reads
