use Rattle.std.proofs.Common.{◌↔◌, IsTrue, List, subst}
use Rattle.placement_core.proofs.m3_model_proofs.Lists.{All-from_each}
use Rattle.placement_core.specs.Shards.{Shard}
use Rattle.placement_core.proofs.ListLemmas.{each-from_All}
use Rattle.placement_plan.specs.Plans.{IsJoiningPair, AreJoining}
use Rattle.placement_plan.proofs.completion.are_joining.Goals as goal

pub returns : goal.returns
returns c =
    let shards = c.as_slice.result.now in
    let done = c.args.done.now in
    subst (λ (s : List Shard). IsTrue c.are_joining_pairs.result ↔ AreJoining s done) c.as_slice.ensures
    (λ t. each-from_All (IsJoiningPair shards) done (c.are_joining_pairs.ensures.0 t), λ h. c.are_joining_pairs.ensures.1 (All-from_each (IsJoiningPair shards) done h))
