use Rattle.std.proofs.Common.{ap, arith}
use Rattle.std.specs.Prelude.{option_map}
use Rattle.serde_json.specs.Data.{number}
use Rattle.serde_json.proofs.Numbers.{number_of-decimal}
use Rattle.reply_texts.proofs.items.write_time.Goals as goal

pub returns-clause-reads : goal.returns-clause-reads
returns-clause-reads c = ap (option_map number) (number_of-decimal c.args.t (omega arith))
