use Rattle.std.proofs.Common.{◌≡◌, length}
use Rattle.m3_model.specs.Hash.{hash_of_groups}
use Rattle.series_id.proofs.hash.hash_of_groups.Given as goal

abbrev pub invariant-loop-rest : goal.invariant-loop-rest
invariant-loop-rest l = hash_of_groups l.hash l.rest ≡ hash_of_groups l.fn.seed l.fn.bytes

abbrev pub decreases-loop-rest : goal.decreases-loop-rest
decreases-loop-rest l = length l.rest
