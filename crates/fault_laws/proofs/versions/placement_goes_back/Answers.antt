use Rattle.fault_laws.proofs.VersionLives.{stays-caused, back-refused, onward-refused, told-refused}
use Rattle.fault_laws.proofs.versions.placement_goes_back.Goals as goal

pub returns-clause-stays : goal.returns-clause-stays
returns-clause-stays c = stays-caused

pub returns-clause-back : goal.returns-clause-back
returns-clause-back c = back-refused

pub returns-clause-onward : goal.returns-clause-onward
returns-clause-onward c = onward-refused

pub returns-clause-told : goal.returns-clause-told
returns-clause-told c = told-refused
