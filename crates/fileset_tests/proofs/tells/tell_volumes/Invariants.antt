use Rattle.m3_outside.specs.DiskState.{Told}
use Rattle.m3_model.specs.Members.{IsIn}
use Rattle.volume_bytes.specs.Heads.{head_of}
use Rattle.fileset_read.specs.Volumes.{IsThere}
use Rattle.fileset_check.specs.declared.volume.Volume.{Volume}
use Rattle.fileset_tests.proofs.tells.tell_volumes.Given as goal

-- all volumes are still there
abbrev pub invariant-loop-volume : goal.invariant-loop-volume
invariant-loop-volume g l = Told (g.D.Disk.state l.disk) (λ files. (v : Volume) → IsIn l.volumes v → IsThere (head_of v.head) files)
