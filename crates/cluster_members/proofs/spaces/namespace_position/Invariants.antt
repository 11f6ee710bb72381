use Rattle.std.proofs.Common.{◌≡◌, ◌+◌, drop}
use Rattle.std.specs.Option.{option_map}
use Rattle.m3_model.specs.Rules.{namespace_position}
use Rattle.cluster_members.proofs.spaces.namespace_position.Given as goal

abbrev pub invariant-loop-position : goal.invariant-loop-position
invariant-loop-position l = namespace_position l.name l.spaces ≡ option_map (λ j. j + l.position) (namespace_position l.name (drop l.position l.spaces))
