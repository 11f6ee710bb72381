use Rattle.run_laws.proofs.WrittenRuns.{held-refused}
use Rattle.run_laws.proofs.written.reply_held_too_long.Goals as goal

pub returns : goal.returns
returns c = λ more left xs asked later long. held-refused more left xs long asked later
