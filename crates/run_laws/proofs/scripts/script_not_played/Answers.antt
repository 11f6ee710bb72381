use Rattle.std.proofs.Common.{None, []}
use Rattle.run_laws.proofs.ScriptRuns.{disk-refused, done-refused, memory-refused, sink-refused, untaken-refused}
use Rattle.run_laws.proofs.scripts.script_not_played.Goals as goal

pub returns-clause-done : goal.returns-clause-done
returns-clause-done c = λ parts asked written. done-refused parts [] asked written

pub returns-clause-sink : goal.returns-clause-sink
returns-clause-sink c = λ parts asked written. sink-refused parts [] asked written

pub returns-clause-disk : goal.returns-clause-disk
returns-clause-disk c = λ parts later asked. disk-refused parts later asked []

pub returns-clause-untaken : goal.returns-clause-untaken
returns-clause-untaken c = λ parts later written. untaken-refused parts later None written

pub returns-clause-memory : goal.returns-clause-memory
returns-clause-memory c = λ parts later asked. memory-refused parts later asked []
