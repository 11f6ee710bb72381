use Rattle.run_laws.proofs.LineRuns.{shape-refused}
use Rattle.run_laws.proofs.lines.reply_of_another_shape.Goals as goal

pub returns : goal.returns
returns c = shape-refused
