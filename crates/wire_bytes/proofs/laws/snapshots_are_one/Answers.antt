use Rattle.wire_bytes.proofs.VolumeLemmas.{snapshots_are_one as it}
use Rattle.wire_bytes.proofs.laws.snapshots_are_one.Goals as goal

pub returns : goal.returns
returns c = it
