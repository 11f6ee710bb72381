use Rattle.std.proofs.Common.{◌≡◌, get_or, refl, sym, ◌∙◌, arith, inl, inr, ◌⊎◌}
use Rattle.std.proofs.lemmas.Option.{slice_get-get_or}
use Rattle.placement_core.specs.m3_model.declared.placement.Assignment.{Assignment}
use Rattle.placement_core.specs.m3_model.declared.placement.ShardState.{ShardState}
use Rattle.placement_core.specs.m3_model.declared.placement.ShardState.TheVariants.{Initializing, Available, Leaving}
use Rattle.placement_core.proofs.m3_model_proofs.Lists.{IsIn-get_or}
use Rattle.placement_plan.proofs.PlaceLemmas.{none_all, none_more, blank}
use Rattle.placement_plan.proofs.readiness.joining_node.Goals as goal

pub returns-in-Initializing : goal.returns-in-Initializing
returns-in-Initializing c = record {
  found = (get_or c.args.shard.now c.loop-a.a-index blank, IsIn-get_or c.args.shard.now c.loop-a.a-index blank c.loop-a-test.true, refl, c.in-Initializing.is);
  none = tt;
}

not_joining : (st : ShardState) → (st ≡ Available) ⊎ (st ≡ Leaving) → ¬ (st ≡ Initializing)
not_joining st other is = elim other as (λ _. ⊥) [ inl e ↦ let clash : Available ≡ Initializing = sym e ∙ is in cc | inr e ↦ let clash : Leaving ≡ Initializing = sym e ∙ is in cc ]

pub loop-a-preserved : goal.loop-a-preserved
loop-a-preserved c =
    let a = get_or c.args.shard.now c.loop-a.a-index blank in
    none_more (λ (x : Assignment). x.state ≡ Initializing) c.args.shard.now c.loop-a.a-index a (slice_get-get_or c.args.shard.now c.loop-a.a-index blank c.loop-a-test.true) (not_joining a.state c.in-Available.is) c.loop-a.invariant

pub returns-clause-none : goal.returns-clause-none
returns-clause-none c = none_all (λ (x : Assignment). x.state ≡ Initializing) c.args.shard.now c.loop-a.a-index (omega arith) c.loop-a.invariant
