use Rattle.std.proofs.Common.{◌∙◌}
use Rattle.reply_values.specs.Json.{object_of}
use Rattle.reply_texts.specs.Texts.{found_fields}
use Rattle.reply_texts.proofs.ReadLemmas.{appended, appended_reads}
use Rattle.reply_texts.proofs.texts.found_into.Goals as goal

pub returns-clause-text : goal.returns-clause-text
returns-clause-text c =
    appended c.ended.result c.write_found-written.result (object_of (found_fields c.args.series.now c.args.short)) _ _ _ _ _ c.ended.ensures.same (c.write_found-written.ensures.before ∙ c.begun-out.ensures.before) c.begun-out.ensures.tokens
    c.write_found-written.ensures.tokens c.ended.ensures.ok

pub returns-clause-reads_back : goal.returns-clause-reads_back
returns-clause-reads_back c =
    appended_reads c.ended.result c.write_found-written.result (object_of (found_fields c.args.series.now c.args.short)) _ _ c.ended.ensures.same c.begun-out.ensures.tokens c.write_found-written.ensures.tokens
    c.write_found-written.ensures.reads c.ended.ensures.reads
