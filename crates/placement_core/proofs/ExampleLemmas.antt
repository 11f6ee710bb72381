-- The small placement is lawful.
use Rattle.std.proofs.Common.{◌≡◌, ◌≢◌, ◌≤◌, ℕ, List, [], ◌∷◌, Some, None, true, refl, subst, inl, inr, arith, slice_get, IsTrue}
use Rattle.m3_model.specs.Ascends.{Ascends}
use Rattle.m3_model.specs.Members.{IsIn}
use Rattle.m3_model.specs.Names.{is_name}
use Rattle.placement_core.specs.Lawful.{IsApart, IsServing, IsShard, IsSpread, IsWithinLimits, IsLawful}
use Rattle.m3_model.specs.declared.placement.ShardState.TheVariants.{Initializing, Leaving}
use Rattle.m3_model.specs.declared.placement.Assignment.{Assignment}
use Rattle.m3_model.specs.declared.placement.Instance.{Instance}
use Rattle.placement_core.specs.Example.{example_node, available_at, steady_example, moving_example, example}

-- what holds of each element of a short list
each_of_two : {X : Type 0} (P : X → Type 0) (a b : X) → P a → P b → (x : X) → IsIn (a ∷ b ∷ []) x → P x
each_of_two P a b pa pb x h =
    elim h as (λ _. P x) [ inl e ↦ subst P e pa | inr k ↦ elim k as (λ _. P x) [ inl e ↦ subst P e pb | inr none ↦ absurd none ] ]

each_of_three : {X : Type 0} (P : X → Type 0) (a b c : X) → P a → P b → P c → (x : X) → IsIn (a ∷ b ∷ c ∷ []) x → P x
each_of_three P a b c pa pb pc x h =
    elim h as (λ _. P x) [ inl e ↦ subst P e pa | inr k ↦ each_of_two P b c pb pc x k ]

two_ascend : {X : Type 0} (R : X → X → Type 0) (a b : X) → R a b → Ascends R (a ∷ b ∷ [])
two_ascend R a b ab = (λ y m. elim m as (λ _. R a y) [ inl e ↦ subst (R a) e ab | inr none ↦ absurd none ], ((λ y m. absurd m), tt))

three_ascend : {X : Type 0} (R : X → X → Type 0) (a b c : X) → R a b → R a c → R b c → Ascends R (a ∷ b ∷ c ∷ [])
three_ascend R a b c ab ac bc = (each_of_two (R a) b c ab ac, two_ascend R b c bc)

abbrev nodes : List Instance
nodes = example_node 97 ∷ example_node 98 ∷ example_node 99 ∷ []

letters_differ : (a b : ℕ) → a ≢ b → (example_node a).name ≢ (example_node b).name
letters_differ a b ne e = let same : a ≡ b = cc in ne same

apart : (a b : Assignment) (x y : ℕ) → slice_get nodes a.node ≡ Some (example_node x) → slice_get nodes b.node ≡ Some (example_node y) → x ≢ y → IsApart nodes a b
apart a b x y ea eb ne = record { one = example_node x; other = example_node y; of_one = ea; of_other = eb; names = letters_differ x y ne; groups = letters_differ x y ne }

listed_at : (a : Assignment) (x : ℕ) → slice_get nodes a.node ≡ Some (example_node x) → (node : Instance) × (slice_get nodes a.node ≡ Some node) × (node.listed ≡ true)
listed_at a x e = (example_node x, e, refl)

steady_shard : IsShard 2 2 steady_example
steady_shard = record {
  distinct = two_ascend (λ (a b : Assignment). a.node ≢ b.node) (available_at 0) (available_at 1) (λ e. absurd (omega (arith, e)));
  tenures = each_of_two (λ (a : Assignment). a.tenure ≤ 2) (available_at 0) (available_at 1) (omega arith) (omega arith);
  replicas = inl (each_of_two IsServing (available_at 0) (available_at 1) (refl, refl) (refl, refl), refl);
}

steady_spread : IsSpread nodes steady_example
steady_spread =
    let two : IsApart nodes (available_at 0) (available_at 1) = apart (available_at 0) (available_at 1) 97 98 refl refl (λ e. absurd (omega (arith, e))) in
    record {
      listed = each_of_two (λ (a : Assignment). (node : Instance) × (slice_get nodes a.node ≡ Some node) × (node.listed ≡ true)) (available_at 0) (available_at 1) (listed_at (available_at 0) 97 refl) (listed_at (available_at 1) 98 refl);
      before = two_ascend (IsApart nodes) (available_at 0) (available_at 1) two;
      after = two_ascend (IsApart nodes) (available_at 0) (available_at 1) two;
    }

abbrev leaving : Assignment
leaving = record { node = 0; tenure = 1; state = Leaving; source = None }

abbrev joining : Assignment
joining = record { node = 2; tenure = 2; state = Initializing; source = Some 0 }

moving_shard : IsShard 2 2 moving_example
moving_shard = record {
  distinct = three_ascend (λ (a b : Assignment). a.node ≢ b.node) leaving (available_at 1) joining (λ e. absurd (omega (arith, e))) (λ e. absurd (omega (arith, e))) (λ e. absurd (omega (arith, e)));
  tenures = each_of_three (λ (a : Assignment). a.tenure ≤ 2) leaving (available_at 1) joining (omega arith) (omega arith) (omega arith);
  replicas = inr (
    record {
      leaving = leaving;
      stands = inl refl;
      is_leaving = (refl, refl);
      joining = joining;
      joins = inr (inr (inl refl));
      is_joining = (refl, refl);
      others = each_of_three (λ (a : Assignment). a.node ≢ 0 → a.node ≢ 2 → IsServing a) leaving (available_at 1) joining (λ nl nj. absurd (nl refl)) (λ nl nj. (refl, refl)) (λ nl nj. absurd (nj refl));
    },
    refl,
  );
}

moving_spread : IsSpread nodes moving_example
moving_spread = record {
  listed = each_of_three (λ (a : Assignment). (node : Instance) × (slice_get nodes a.node ≡ Some node) × (node.listed ≡ true)) leaving (available_at 1) joining (listed_at leaving 97 refl) (listed_at (available_at 1) 98 refl) (listed_at joining 99 refl);
  before = two_ascend (IsApart nodes) leaving (available_at 1) (apart leaving (available_at 1) 97 98 refl refl (λ e. absurd (omega (arith, e))));
  after = two_ascend (IsApart nodes) (available_at 1) joining (apart (available_at 1) joining 98 99 refl refl (λ e. absurd (omega (arith, e))));
}

limits : IsWithinLimits example
limits = record {
  some_replicas = omega arith;
  few_replicas = omega arith;
  some_shards = omega arith;
  few_shards = omega arith;
  few_nodes = omega arith;
  named = each_of_three (λ (n : Instance). IsTrue (is_name n.name) × IsTrue (is_name n.group)) (example_node 97) (example_node 98) (example_node 99) (refl, refl) (refl, refl) (refl, refl);
  distinct = three_ascend (λ (a b : Instance). a.name ≢ b.name) (example_node 97) (example_node 98) (example_node 99) (letters_differ 97 98 (λ e. absurd (omega (arith, e)))) (letters_differ 97 99 (λ e. absurd (omega (arith, e)))) (letters_differ 98 99 (λ e. absurd (omega (arith, e))));
  version_fits = omega arith;
}

pub example_lawful : IsLawful example
example_lawful = record {
  limits = limits;
  shards = each_of_two (IsShard 2 2) steady_example moving_example steady_shard moving_shard;
  spread = each_of_two (IsSpread nodes) steady_example moving_example steady_spread moving_spread;
}
