use Rattle.std.proofs.Common.{◌≡◌, take, map}
use Rattle.fileset_check.specs.declared.volume.Volume.{Volume}
use Rattle.fileset_tests.proofs.joins.heads_of.Given as goal

-- the heads of the first volumes
abbrev pub invariant-loop-volume : goal.invariant-loop-volume
invariant-loop-volume l = l.heads.items ≡ map (λ (v : Volume). v.head) (take l.volume-index l.all)
