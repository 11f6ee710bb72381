use Rattle.line_parse.proofs.ShortNumerals.{number_of-short}
use Rattle.line_parse.proofs.numbers.is_short.Goals as goal

pub returns-then-bytes-le-SHORT : goal.returns-then-bytes-le-SHORT
returns-then-bytes-le-SHORT c no_exponent = number_of-short c.args.bytes.now c.if-bytes-le-SHORT.true (c.has_no_exponent.ensures no_exponent)
