use Rattle.std.proofs.Common.{◌≡◌, ◌-◌, ◌≤◌, List, length, map, take, All}
use Rattle.m3_model.specs.declared.rules.MetaState.{MetaState}
use Rattle.commit_log.specs.Segment.{written}
use Rattle.commit_log.specs.Reading.{IsNext}
use Rattle.meta_bytes.specs.States.{IsMetaState}
use Rattle.placement_log.specs.States.{MayBeState, payload_bytes, last_after}
use Rattle.placement_log.proofs.segment.read_segment.Given as goal

abbrev pub invariant-loop-found : goal.invariant-loop-found
invariant-loop-found l = record {
  within : l.at ≤ length l.bytes;
  done : (ss : List MetaState) × (l.last ≡ last_after l.initial.last ss) × All IsMetaState ss × (take l.at l.bytes ≡ written (map payload_bytes ss)) × IsNext (map payload_bytes ss) l.bytes l.at l.found;
  state : MayBeState l.initial.last → MayBeState l.last;
}

abbrev pub decreases-loop-found : goal.decreases-loop-found
decreases-loop-found l = length l.bytes - l.at
