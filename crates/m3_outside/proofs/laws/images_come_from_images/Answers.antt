use Rattle.m3_outside.proofs.DiskLawLemmas.{images_come_from_images}
use Rattle.m3_outside.proofs.laws.images_come_from_images.Goals as goal

pub returns : goal.returns
returns g c = images_come_from_images g.D.Disk.state g.met.D.Disk.lawful
