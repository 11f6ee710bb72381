use Rattle.m3_outside.proofs.DiskLawLemmas.{synced_is_read}
use Rattle.m3_outside.proofs.laws.synced_is_read.Goals as goal

pub returns : goal.returns
returns g c = synced_is_read g.D.Disk.state
