use Rattle.std.proofs.Common.{◌≡◌, ◌↔◌, ℕ, Bool, Option, Some, None, IfSome, IfNone, IsTrue, is_some}
use Rattle.placement_core.specs.Shards.{Shard}
use Rattle.placement_core.proofs.StepLemmas.{no_true}
use Rattle.placement_plan.specs.Plans.{JoinsFrom, IsJoining}
use Rattle.placement_plan.proofs.completion.is_joining.Goals as goal

-- whether the node is joining, by the source that is found for it
joining_by : (shard : Shard) (node : ℕ) (source : Option ℕ) (test : Bool) → test ≡ is_some source → IfSome source (λ from. JoinsFrom node from shard) → IfNone source (¬ IsJoining node shard) → IsTrue test ↔ IsJoining node shard
joining_by shard node None test e found none = (λ t. absurd (no_true test e t), λ h. absurd (none h))
joining_by shard node (Some from) test e found none = (λ t. (from, found), λ h. e)

pub returns : goal.returns
returns c = joining_by c.args.shard.now c.args.node c.source_of.result c.is_some.result c.is_some.ensures c.source_of.ensures.found c.source_of.ensures.none
