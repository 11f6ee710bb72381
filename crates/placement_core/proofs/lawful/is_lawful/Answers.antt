use Rattle.placement_core.proofs.LawfulLemmas.{lawful_decided}
use Rattle.placement_core.proofs.lawful.is_lawful.Goals as goal

pub returns-then-is_within_limits : goal.returns-then-is_within_limits
returns-then-is_within_limits c =
    let is = lawful_decided c.args.place.now in
    (λ t. is.0 (c.is_within_limits.ensures.0 c.if-is_within_limits.true, c.are_good.ensures.0 t), λ h. c.are_good.ensures.1 (is.1 h).1)
