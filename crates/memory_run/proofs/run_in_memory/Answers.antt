use Rattle.std.proofs.Common.{refl, ap}
use Rattle.m3_outside.specs.Feed.{Feed}
use Rattle.m3_outside.specs.Intake.{Intake}
use Rattle.memory_run.proofs.Whole.{whole}
use Rattle.memory_run.proofs.run_in_memory.Goals as goal

pub returns : goal.returns
returns c = record { whole = λ asked. let told = c.run-status.ensures.told asked in whole _ _ _ _ (λ d. refl) c.in_ok-disks.ensures.unused _ _ _ _ _ told.0 told.1 _ _ _ _ _ (ap (λ (s : Feed). s.left) c.in_ok-source.ensures) (ap (λ (s : Intake). s.written) c.in_ok-sink.ensures) told.2 told.3 told.4 }
