use Rattle.line_parse.proofs.DigitsAlone.{number_of-parsed}
use Rattle.line_parse.proofs.numbers.digits_alone.Goals as goal

pub returns-in-Ok : goal.returns-in-Ok
returns-in-Ok c = number_of-parsed c.args.bytes.now c.in-Ok.n c.if-bytes-eq43.false c.in-Ok.ensures
