use Rattle.std.proofs.Common.{◌≡◌, ℕ, get_or, arith}
use Rattle.std.proofs.lemmas.Option.{slice_get-get_or}
use Rattle.placement_core.specs.m3_model.declared.placement.Assignment.{Assignment}
use Rattle.placement_core.proofs.m3_model_proofs.Lists.{IsIn-get_or}
use Rattle.placement_core.specs.Lawful.{IsJoiningFrom}
use Rattle.placement_plan.proofs.PlaceLemmas.{none_all, none_more, blank}
use Rattle.placement_plan.proofs.shards.source_of.Goals as goal

abbrev Joins : ℕ → Assignment → Type 0
Joins node a = (a.node ≡ node) × ((from : ℕ) × IsJoiningFrom from a)

pub returns-in-Some-clause-found : goal.returns-in-Some-clause-found
returns-in-Some-clause-found c =
    let h = c.in-Some.ensures.found in
    (get_or c.args.shard.now c.loop-a.a-index blank, IsIn-get_or c.args.shard.now c.loop-a.a-index blank c.loop-a-test.true, h.0, h.1)

pub loop-a-preserved : goal.loop-a-preserved
loop-a-preserved c =
    none_more (Joins c.args.node) c.args.shard.now c.loop-a.a-index (get_or c.args.shard.now c.loop-a.a-index blank) (slice_get-get_or c.args.shard.now c.loop-a.a-index blank c.loop-a-test.true)
    (λ h. c.in-None.ensures.none h.1.0 h.0 h.1.1) c.loop-a.invariant

pub returns-clause-none : goal.returns-clause-none
returns-clause-none c = λ h. none_all (Joins c.args.node) c.args.shard.now c.loop-a.a-index (omega arith) c.loop-a.invariant h.1.0 h.1.1 (h.1.2, (h.0, h.1.3))
