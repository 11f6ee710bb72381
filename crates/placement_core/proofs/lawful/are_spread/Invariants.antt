use Rattle.std.proofs.Common.{◌↔◌, drop}
use Rattle.m3_model.specs.Ascends.{Ascends}
use Rattle.placement_core.specs.LawfulParts.{ApartBefore, ApartAfter}
use Rattle.placement_core.proofs.lawful.are_spread.Given as goal

-- the whole list is spread exactly where what is left of it is
abbrev pub invariant-loop-position : goal.invariant-loop-position
invariant-loop-position l = Ascends (λ a b. ApartBefore l.instances a b × ApartAfter l.instances a b) l.shard ↔ Ascends (λ a b. ApartBefore l.instances a b × ApartAfter l.instances a b) (drop l.position l.shard)
