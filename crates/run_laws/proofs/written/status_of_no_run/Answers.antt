use Rattle.run_laws.proofs.written.status_of_no_run.Goals as goal

pub returns-clause-usage : goal.returns-clause-usage
returns-clause-usage c = λ taken left written xs asked later h. h

pub returns-clause-corrupt : goal.returns-clause-corrupt
returns-clause-corrupt c = λ taken left written xs asked later h. h
