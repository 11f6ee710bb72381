use Rattle.m3_trials.specs.Disks.{NoneIsOut}
use Rattle.m3_trials.proofs.cases.play.Given as goal

abbrev pub invariant-loop-part : goal.invariant-loop-part
invariant-loop-part l = NoneIsOut l.disks
