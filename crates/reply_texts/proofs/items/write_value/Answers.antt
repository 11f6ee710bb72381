use Rattle.reply_texts.proofs.ReadLemmas.{integer_reads}
use Rattle.reply_texts.proofs.items.write_value.Goals as goal

pub returns-clause-reads : goal.returns-clause-reads
returns-clause-reads c = integer_reads c.args.v c.ranges.v
