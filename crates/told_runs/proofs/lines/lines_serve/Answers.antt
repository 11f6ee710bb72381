use Rattle.told_runs.proofs.LineLemmas.{clock_serves, init_serves, plain_serves, read_serves, write_serves}
use Rattle.told_runs.proofs.lines.lines_serve.Goals as goal

pub returns-clause-plain : goal.returns-clause-plain
returns-clause-plain c = λ tells. plain_serves

pub returns-clause-clock : goal.returns-clause-clock
returns-clause-clock c = λ tells. clock_serves

pub returns-clause-init : goal.returns-clause-init
returns-clause-init c = λ tells. init_serves

pub returns-clause-write : goal.returns-clause-write
returns-clause-write c = λ tells. write_serves

pub returns-clause-read : goal.returns-clause-read
returns-clause-read c = λ tells. read_serves
