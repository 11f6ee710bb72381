use Rattle.std.proofs.Common.{◌≡◌, ◌↔◌, rules, Any, IsTrue}
use Rattle.m3_model.specs.declared.placement.ShardState.TheVariants.{Available}
use Rattle.past_events.proofs.EarlierLemmas.{counted_any}
use Rattle.past_events.proofs.earlier.is_counted.Goals as goal

pub returns : goal.returns
returns c =
    let told : IsTrue c.any.result ↔ Any (λ a. (a.node ≡ c.args.node) × (a.state ≡ Available)) c.args.shard.now = search rules in
    let is = counted_any c.args.shard.now c.args.node in
    (λ t. is.0 (told.0 t), λ h. told.1 (is.1 h))
