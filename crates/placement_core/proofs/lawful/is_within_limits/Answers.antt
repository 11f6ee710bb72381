use Rattle.std.proofs.Common.{◌↔◌, List, subst, IsTrue}
use Rattle.m3_model.specs.declared.placement.Instance.{Instance}
use Rattle.placement_core.specs.LawfulParts.{AreNamed}
use Rattle.placement_core.proofs.LawfulLemmas.{limits_decided}
use Rattle.placement_core.proofs.lawful.is_within_limits.Goals as goal

pub returns-then-is_small : goal.returns-then-is_small
returns-then-is_small c =
    let told = subst (λ (nodes : List Instance). IsTrue c.are_named.result ↔ AreNamed nodes) c.as_slice.ensures c.are_named.ensures in
    let is = limits_decided c.args.place.now in
    (λ t. is.0 (c.is_small.ensures.0 c.if-is_small.true, told.0 t), λ h. told.1 (is.1 h).1)
