use Rattle.std.proofs.Common.{◌≡◌, ◌≢◌, ℕ, Option, Some, None, IfSome, IfNone, false, true, sym, subst, ◌∙◌}
use Rattle.placement_core.specs.m3_model.Members.{IsIn}
use Rattle.placement_core.specs.m3_model.declared.placement.Assignment.{Assignment}
use Rattle.placement_core.specs.m3_model.declared.placement.ShardState.TheVariants.{Initializing}
use Rattle.placement_core.specs.Shards.{Shard, is_steady}
use Rattle.placement_core.specs.Lawful.{IsShard}
use Rattle.placement_plan.specs.Nodes.{Has}
use Rattle.placement_plan.specs.Refusals.{IsInitializing}
use Rattle.placement_plan.proofs.ShardLemmas.{joining_moves, none_joins_steady, steady_is}
use Rattle.placement_plan.proofs.readiness.busy_in.Goals as goal

found_by : (o : Option ℕ) (node : ℕ) (shard : Shard) → Has node shard → IfSome o (λ joining. IsInitializing joining shard) → IfSome o (λ joining. (Has node shard × (is_steady shard ≡ false)) × IsInitializing joining shard)
found_by None node shard has h = tt
found_by (Some joining) node shard has h = ((has, joining_moves shard h.0 h.1 h.3), h)

idle_by : (o : Option ℕ) (rf version node : ℕ) (shard : Shard) → IsShard rf version shard → IfNone o ((a : Assignment) → IsIn shard a → a.state ≢ Initializing) → IfNone o (¬ (Has node shard × (is_steady shard ≡ false)))
idle_by None rf version node shard replicas h = λ moving. let clash : true ≡ false = sym (steady_is shard (none_joins_steady rf version shard replicas h)) ∙ moving.1 in cc
idle_by (Some joining) rf version node shard replicas h = tt

pub returns-then-has_node-clause-found : goal.returns-then-has_node-clause-found
returns-then-has_node-clause-found c =
    found_by c.joining_node.result c.args.node c.args.shard.now (subst (Has c.args.node) c.as_slice.ensures (c.has_node.ensures.0 c.if-has_node.true))
    (subst (λ (s : Shard). IfSome c.joining_node.result (λ joining. IsInitializing joining s)) c.as_slice-then-has_node.ensures c.joining_node.ensures.found)

pub returns-then-has_node-clause-none : goal.returns-then-has_node-clause-none
returns-then-has_node-clause-none c =
    idle_by c.joining_node.result c.requires.0 c.requires.1.0 c.args.node c.args.shard.now c.requires.1.1
    (subst (λ (s : Shard). IfNone c.joining_node.result ((a : Assignment) → IsIn s a → a.state ≢ Initializing)) c.as_slice-then-has_node.ensures c.joining_node.ensures.none)
