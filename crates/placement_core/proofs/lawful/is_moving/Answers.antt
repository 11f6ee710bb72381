use Rattle.std.proofs.Common.{◌↔◌, rules, Any, IsTrue}
use Rattle.placement_core.specs.LawfulParts.{Moves}
use Rattle.placement_core.proofs.LawfulLemmas.{moving_decided}
use Rattle.placement_core.proofs.lawful.is_moving.Goals as goal

pub returns : goal.returns
returns c =
    let shard = c.args.shard.now in
    let told : IsTrue c.any.result ↔ Any (Moves shard) shard = search rules in
    let is = moving_decided shard in
    (λ t. is.0 (told.0 t), λ h. told.1 (is.1 h))
