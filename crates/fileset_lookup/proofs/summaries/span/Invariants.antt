use Rattle.std.proofs.Common.{◌≡◌, List, length}
use Rattle.wire_bytes.specs.m3_model.declared.point.Series.{Series}
use Rattle.wire_bytes.specs.Volumes.{VolumeHead, IsVolume, summaries_bytes}
use Rattle.fileset_lookup.proofs.RunLemmas.{Passed}
use Rattle.fileset_lookup.proofs.summaries.span.Given as goal

abbrev pub invariant-loop-id : goal.invariant-loop-id
invariant-loop-id l = (v : VolumeHead) (rows : List Series) → IsVolume v rows → l.summaries ≡ summaries_bytes v.format rows → Passed v.format l.id rows l.rest l.last

abbrev pub decreases-loop-id : goal.decreases-loop-id
decreases-loop-id l = length l.rest
