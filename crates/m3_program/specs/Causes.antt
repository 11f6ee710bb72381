-- Why a run ends as it does.
use Rattle.std.specs.Prelude.{ℕ, Option, Some, None, ◌⊎◌}
use Rattle.command_words.specs.declared.task.Task.{Task}
use Rattle.command_words.specs.declared.task.Task.TheVariants as task
use Rattle.m3_outside.specs.Causes.{Rose}
use Rattle.m3_program.specs.declared.status.Status.{Status}
use Rattle.m3_program.specs.declared.status.Status.TheVariants as status

-- what ends a line: the sink failed or took nothing, the meta disk failed, or memory was wanted
abbrev pub EndsLine : Status → ℕ → ℕ → ℕ → ℕ → ℕ → ℕ → Type 0
EndsLine status.WriteFault faulted_before faulted_now stalled_before stalled_now meta_before meta_now = Rose faulted_before faulted_now ⊎ Rose stalled_before stalled_now
EndsLine status.DiskFault faulted_before faulted_now stalled_before stalled_now meta_before meta_now = Rose meta_before meta_now
EndsLine status.Memory faulted_before faulted_now stalled_before stalled_now meta_before meta_now = Unit {0}
EndsLine _ faulted_before faulted_now stalled_before stalled_now meta_before meta_now = ⊥

-- what ends a step: also a source that failed
abbrev pub EndsStep : Status → ℕ → ℕ → ℕ → ℕ → ℕ → ℕ → ℕ → ℕ → Type 0
EndsStep status.ReadFault read_before read_now faulted_before faulted_now stalled_before stalled_now meta_before meta_now = Rose read_before read_now
EndsStep status.WriteFault read_before read_now faulted_before faulted_now stalled_before stalled_now meta_before meta_now = Rose faulted_before faulted_now ⊎ Rose stalled_before stalled_now
EndsStep status.DiskFault read_before read_now faulted_before faulted_now stalled_before stalled_now meta_before meta_now = Rose meta_before meta_now
EndsStep status.Memory read_before read_now faulted_before faulted_now stalled_before stalled_now meta_before meta_now = Unit {0}
EndsStep _ read_before read_now faulted_before faulted_now stalled_before stalled_now meta_before meta_now = ⊥

-- What ends a run that reads lines. No fault is answered that isn't counted. The disk of a replica that fails ends none: the meta disk's own count rose.
abbrev pub EndsReading : Status → ℕ → ℕ → ℕ → ℕ → ℕ → ℕ → ℕ → ℕ → Type 0
EndsReading status.Done read_before read_now faulted_before faulted_now stalled_before stalled_now meta_before meta_now = Unit {0}
EndsReading status.TooLong read_before read_now faulted_before faulted_now stalled_before stalled_now meta_before meta_now = Unit {0}
EndsReading status.ReadFault read_before read_now faulted_before faulted_now stalled_before stalled_now meta_before meta_now = Rose read_before read_now
EndsReading status.WriteFault read_before read_now faulted_before faulted_now stalled_before stalled_now meta_before meta_now = Rose faulted_before faulted_now ⊎ Rose stalled_before stalled_now
EndsReading status.DiskFault read_before read_now faulted_before faulted_now stalled_before stalled_now meta_before meta_now = Rose meta_before meta_now
EndsReading status.Memory read_before read_now faulted_before faulted_now stalled_before stalled_now meta_before meta_now = Unit {0}
EndsReading _ read_before read_now faulted_before faulted_now stalled_before stalled_now meta_before meta_now = ⊥

-- what ends a run of a script: nothing is read
abbrev pub EndsScript : Status → ℕ → ℕ → ℕ → ℕ → ℕ → ℕ → Type 0
EndsScript status.Done faulted_before faulted_now stalled_before stalled_now meta_before meta_now = Unit {0}
EndsScript status.WriteFault faulted_before faulted_now stalled_before stalled_now meta_before meta_now = Rose faulted_before faulted_now ⊎ Rose stalled_before stalled_now
EndsScript status.DiskFault faulted_before faulted_now stalled_before stalled_now meta_before meta_now = Rose meta_before meta_now
EndsScript status.Memory faulted_before faulted_now stalled_before stalled_now meta_before meta_now = Unit {0}
EndsScript _ faulted_before faulted_now stalled_before stalled_now meta_before meta_now = ⊥

-- what ends a run whose words ask for nothing: there is no task, or no memory to read the words
abbrev pub EndsIdly : Status → Type 0
EndsIdly status.Usage = Unit {0}
EndsIdly status.Memory = Unit {0}
EndsIdly _ = ⊥

-- what ends the run of a task, if its cluster wasn't opened, or else
abbrev pub EndsTask : Option Task → Status → Type 0 → ℕ → ℕ → ℕ → ℕ → ℕ → ℕ → ℕ → ℕ → Type 0
EndsTask None s Unopened read_before read_now faulted_before faulted_now stalled_before stalled_now meta_before meta_now = EndsIdly s
EndsTask (Some task.Run) s Unopened read_before read_now faulted_before faulted_now stalled_before stalled_now meta_before meta_now =
    Unopened ⊎ EndsReading s read_before read_now faulted_before faulted_now stalled_before stalled_now meta_before meta_now
EndsTask (Some (task.Generate number)) s Unopened read_before read_now faulted_before faulted_now stalled_before stalled_now meta_before meta_now =
    Unopened ⊎ EndsScript s faulted_before faulted_now stalled_before stalled_now meta_before meta_now
