use Rattle.fault_laws.proofs.FaultLives.{damaged_boot-caused}
use Rattle.fault_laws.proofs.faults.bootstrap_finds_damage.Goals as goal

pub returns : goal.returns
returns c = damaged_boot-caused
