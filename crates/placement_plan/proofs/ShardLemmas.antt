-- Shards that are steady, and moves that begin.
use Rattle.std.proofs.Common.{◌≡◌, ◌≢◌, ℕ, [], ◌∷◌, Bool, true, false, refl, sym, ap, inl, inr, ◌∙◌, None}
use Rattle.std.proofs.lemmas.Bool.{and_from, and_parts}
use Rattle.placement_core.specs.m3_model.Members.{IsIn}
use Rattle.placement_core.specs.m3_model.declared.placement.ShardState.TheVariants.{Initializing, Available}
use Rattle.placement_core.specs.m3_model.declared.placement.Assignment.{Assignment}
use Rattle.placement_core.specs.Shards.{Shard, counts, is_available, is_steady}
use Rattle.placement_core.specs.Lawful.{IsSteady, IsShard}
use Rattle.placement_core.specs.Steps.{IsShardStep}
use Rattle.placement_core.proofs.HolderLemmas.{available_of}
use Rattle.placement_plan.specs.Nodes.{Has}
use Rattle.placement_plan.specs.Choices.{moved}
use Rattle.placement_plan.proofs.SpreadLemmas.{joining_at}

each_available : (shard : Shard) → is_steady shard ≡ true → (a : Assignment) → IsIn shard a → a.state ≡ Available
each_available [] e a m = absurd m
each_available (x ∷ xs) e a m =
    let h = and_parts (is_available x) (is_steady xs) e in
    elim m as (λ _. a.state ≡ Available) [ inl f ↦ ap (λ (z : Assignment). z.state) (sym f) ∙ available_of x.state h.0 | inr r ↦ each_available xs h.1 a r ]

all_available : (shard : Shard) → ((a : Assignment) → IsIn shard a → a.state ≡ Available) → is_steady shard ≡ true
all_available [] h = refl
all_available (x ∷ xs) h = and_from (is_available x) (is_steady xs) (ap counts (h x (inl refl))) (all_available xs (λ a m. h a (inr m)))

-- a shard that a node is joining isn't steady
pub joining_moves : (shard : Shard) (a : Assignment) → IsIn shard a → a.state ≡ Initializing → is_steady shard ≡ false
joining_moves shard a m is = by (is_steady shard) refl
  where
    by : (b : Bool) → is_steady shard ≡ b → b ≡ false
    by true e = let clash : Initializing ≡ Available = sym is ∙ each_available shard e a m in cc
    by false e = refl

-- one that no node is joining is
pub none_joins_steady : (rf version : ℕ) (shard : Shard) → IsShard rf version shard → ((a : Assignment) → IsIn shard a → a.state ≢ Initializing) → IsSteady shard
none_joins_steady rf version shard h idle = elim h.replicas as (λ _. IsSteady shard) [ inl s ↦ s.0 | inr m ↦ absurd (idle ((m.0).joining) ((m.0).joins) ((m.0).is_joining).0) ]

pub steady_is : (shard : Shard) → IsSteady shard → is_steady shard ≡ true
steady_is shard h = all_available shard (λ a m. (h a m).0)

pub steady_of : (rf version : ℕ) (shard : Shard) → IsShard rf version shard → is_steady shard ≡ true → IsSteady shard
steady_of rf version shard h e = none_joins_steady rf version shard h (λ a m is. let clash : Initializing ≡ Available = sym is ∙ each_available shard e a m in cc)

-- a steady shard begins a move
pub moved_step : (version from to : ℕ) (shard : Shard) → IsSteady shard → Has from shard → ¬ Has to shard → IsShardStep version shard (moved version from to shard) None
moved_step version from to shard steady has lacks = inr (inl (record { from = from; joining = joining_at version from to; joins = (refl, refl); tenure = refl; steady = steady; has = has; free = lacks; next_is = refl }))
