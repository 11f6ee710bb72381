use Rattle.m3_trials.specs.Disks.{NoneIsOut}
use Rattle.m3_trials.proofs.runs.tell_faults.Given as goal

abbrev pub invariant-loop-name : goal.invariant-loop-name
invariant-loop-name l = NoneIsOut l.disks
