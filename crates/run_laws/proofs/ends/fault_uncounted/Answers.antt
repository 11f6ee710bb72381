use Rattle.run_laws.proofs.EndRuns.{disk-refused, script_disk-refused, script_sink-refused, sink-refused, source-refused}
use Rattle.run_laws.proofs.ends.fault_uncounted.Goals as goal

pub returns-clause-source : goal.returns-clause-source
returns-clause-source c = source-refused

pub returns-clause-sink : goal.returns-clause-sink
returns-clause-sink c = sink-refused

pub returns-clause-disk : goal.returns-clause-disk
returns-clause-disk c = disk-refused

pub returns-clause-script_sink : goal.returns-clause-script_sink
returns-clause-script_sink c = script_sink-refused

pub returns-clause-script_disk : goal.returns-clause-script_disk
returns-clause-script_disk c = script_disk-refused
