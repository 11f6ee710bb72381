-- The laws of plans.
use Rattle.std.proofs.Common.{◌≡◌, ◌≢◌, ◌⊎◌, ℕ, List, [], ◌∷◌, Bool, true, filter, sym, ◌∙◌, subst, inl, inr}
use Rattle.placement_core.specs.m3_model.Ascends.{Ascends}
use Rattle.placement_core.specs.m3_model.Members.{IsIn}
use Rattle.placement_core.specs.Lawful.{IsApart}
use Rattle.placement_core.specs.m3_model.declared.placement.Assignment.{Assignment}
use Rattle.placement_core.specs.m3_model.declared.placement.Instance.{Instance}
use Rattle.placement_core.proofs.m3_model_proofs.Lists.{filter-IsIn}
use Rattle.placement_core.specs.Shards.{Shard, is_holder, is_staying}
use Rattle.placement_core.proofs.HolderLemmas.{the_joining, is_moving}
use Rattle.placement_plan.specs.Nodes.{load}
use Rattle.isolation_groups.specs.Groups.{group_of}
use Rattle.placement_plan.specs.Additions.{MayGiveShard, Rebalances, after_move}
use Rattle.placement_plan.specs.Laws.{InitialIsLawful, AdditionEnds, OneJoins, GroupsDiffer}
use Rattle.placement_plan.proofs.SpreadLemmas.{group_is}
use Rattle.placement_plan.proofs.InitialLemmas.{initial_lawful, initial_first}

pub initial_is_lawful : InitialIsLawful
initial_is_lawful rf shards nodes place init plan = (initial_lawful rf shards nodes init place plan, initial_first rf shards nodes init place plan)

ends_by : (instances : List Instance) (version to : ℕ) (moves : List (ℕ × ℕ)) (shards next : List Shard) → Rebalances instances version to moves shards next → (from : ℕ) → ¬ MayGiveShard (λ n. load n next) instances next to from
ends_by instances version to [] shards next h = subst (λ (s : List Shard). (from : ℕ) → ¬ MayGiveShard (λ n. load n s) instances s to from) (sym h.0) h.1
ends_by instances version to (m ∷ moves) shards next h = ends_by instances version to moves (after_move version to m shards) next h.1

pub addition_ends : AdditionEnds
addition_ends old next name group plan = ends_by next.instances next.version plan.node plan.moves old.shards next.shards plan.rebalances

pub one_joins : OneJoins
one_joins place shard a b lawful there ma mb ia ib =
    let h = lawful.shards shard there in
    let m = (is_moving place.rf place.version shard h a ma ia).0 in
    the_joining shard h.distinct m a ma ia ∙ sym (the_joining shard h.distinct m b mb ib)

-- of two elements of a list in order one is before the other
either_way : {X : Type 0} (R : X → X → Type 0) (xs : List X) (x y : X) → Ascends R xs → IsIn xs x → IsIn xs y → x ≢ y → R x y ⊎ R y x
either_way R [] x y h m n ne = absurd m
either_way R (z ∷ zs) x y h m n ne =
    elim m as (λ _. R x y ⊎ R y x) [
      | inl e ↦ elim n as (λ _. R x y ⊎ R y x) [ inl f ↦ absurd (ne (sym e ∙ f)) | inr q ↦ inl (subst (λ w. R w y) e (h.0 y q)) ]
      | inr p ↦ elim n as (λ _. R x y ⊎ R y x) [ inl f ↦ inr (subst (λ w. R w x) f (h.0 x p)) | inr q ↦ either_way R zs x y h.1 p q ne ]
    ]

groups_apart : (instances : List Instance) (a b : Assignment) → IsApart instances a b → group_of instances a.node ≢ group_of instances b.node
groups_apart instances a b apart e = apart.groups (sym (group_is instances a.node apart.one apart.of_one) ∙ e ∙ group_is instances b.node apart.other apart.of_other)

module _ (chosen : Assignment → Bool) (instances : List Instance) (shard : Shard) (a b : Assignment) (apart : Ascends (IsApart instances) (filter chosen shard)) where
  differ_by : IsIn shard a → IsIn shard b → a ≢ b → chosen a ≡ true → chosen b ≡ true → group_of instances a.node ≢ group_of instances b.node
  differ_by ma mb ne ca cb =
      elim (either_way (IsApart instances) (filter chosen shard) a b apart (filter-IsIn chosen shard a ma ca) (filter-IsIn chosen shard b mb cb) ne) as (λ _. group_of instances a.node ≢ group_of instances b.node) [
        | inl h ↦ groups_apart instances a b h
        | inr h ↦ λ e. groups_apart instances b a h (sym e)
      ]

pub groups_differ_before : GroupsDiffer is_holder
groups_differ_before place shard a b lawful there = differ_by is_holder place.instances shard a b (lawful.spread shard there).before

pub groups_differ_after : GroupsDiffer is_staying
groups_differ_after place shard a b lawful there = differ_by is_staying place.instances shard a b (lawful.spread shard there).after
