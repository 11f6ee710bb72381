use Rattle.std.proofs.Common.{◌≡◌, take}
use Rattle.m3_model.specs.Members.{IsIn}
use Rattle.m3_model.specs.declared.placement.Placement.{Placement}
use Rattle.cluster_members.proofs.kept.version_position.Given as goal

abbrev pub invariant-loop-position : goal.invariant-loop-position
invariant-loop-position l = (place : Placement) → IsIn (take l.position l.past) place → ¬ (place.version ≡ l.version)
