use Rattle.move_laws.proofs.FenceLives.{not_above-refused}
use Rattle.move_laws.proofs.fences.fence_not_above_version.Goals as goal

pub returns : goal.returns
returns c = not_above-refused
