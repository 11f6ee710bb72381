use Rattle.m3_outside.proofs.DiskLawLemmas.{writes_one_file}
use Rattle.m3_outside.proofs.laws.writes_one_file.Goals as goal

pub returns : goal.returns
returns g c = writes_one_file g.D.Disk.state
