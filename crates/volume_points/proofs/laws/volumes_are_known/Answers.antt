use Rattle.volume_points.proofs.KnownLemmas.{volumes_are_known}
use Rattle.volume_points.proofs.laws.volumes_are_known.Goals as goal

pub returns : goal.returns
returns c = volumes_are_known
