use Rattle.fault_laws.proofs.UntoldLemmas.{boot-untold, fence-untold, fence-told}
use Rattle.model_laws.proofs.UncausedLives.{boot-refused}
use Rattle.fault_laws.proofs.untold.boot_and_fence_untold.Goals as goal

pub returns-clause-boot : goal.returns-clause-boot
returns-clause-boot c = boot-untold

pub returns-clause-fence : goal.returns-clause-fence
returns-clause-fence c = fence-untold

pub returns-clause-boot_told : goal.returns-clause-boot_told
returns-clause-boot_told c = boot-refused

pub returns-clause-fence_told : goal.returns-clause-fence_told
returns-clause-fence_told c = fence-told
