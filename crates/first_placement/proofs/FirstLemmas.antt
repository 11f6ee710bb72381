-- The first placement, replica by replica.
use Rattle.std.proofs.Common.{◌≡◌, ◌≢◌, ◌⊎◌, ◌<◌, ◌≤◌, ◌+◌, ◌||◌, ◌&&◌, ℕ, suc, List, [], ◌∷◌, ◌++◌, map, length, take, slice_get, slice_index, Bool, true, false, nat_eq, Some, refl, sym, ap, subst, inl, inr, ◌∙◌, arith, length-append}
use Rattle.std.proofs.lemmas.Bool.{cases_eq, cases_lt, eq-eqb, ne_eqb}
use Rattle.std.specs.Cmp.Lexicographic.{pointwise}
use Rattle.std.proofs.lemmas.List.{take-append-le, get_or_past, length-map}
use Rattle.placement_core.proofs.OrderLemmas.{ascends-map}
use Rattle.std.proofs.lemmas.List.Folds.{list_any-append}
use Rattle.std.proofs.lemmas.Option.{slice_get_within}
use Rattle.std.proofs.lemmas.Slice.Eq.{bytes_eq-Decides}
use Rattle.std.proofs.Math.Bool.{or-true, or-false}
use Rattle.m3_model.specs.Ascends.{Ascends}
use Rattle.m3_model.specs.Members.{IsIn}
use Rattle.m3_model.proofs.MemberLemmas.{IsIn-map}
use Rattle.m3_model.proofs.Lists.{take_whole}
use Rattle.m3_model.specs.declared.placement.Assignment.{Assignment}
use Rattle.m3_model.specs.declared.placement.Instance.{Instance}
use Rattle.m3_model.specs.declared.limits.TheConstants.{MOST_SHARDS}
use Rattle.placement_core.specs.Shards.{Shard, is_staying}
use Rattle.placement_plan.specs.Nodes.{Has, serves, load}
use Rattle.isolation_groups.specs.Groups.{group_of}
use Rattle.placement_plan.specs.Choices.{IsLeastLoaded}
use Rattle.placement_plan.specs.Loads.{AreLoads, IsRaised}
use Rattle.placement_plan.specs.First.{MayHold, first_at, IsPlaced, IsPlacedShard, HasGroups}
use Rattle.placement_plan.proofs.PlaceLemmas.{push_cases}
use Rattle.placement_plan.proofs.LoadLemmas.{load_split, load_bound, weight, one_if, serves_lacks}
use Rattle.placement_plan.proofs.DrainLemmas.{least_same}

-- ---- loads where a shard grows by a replica

serves_push : (n node : ℕ) (shard : Shard) → serves n (shard ++ first_at node ∷ []) ≡ (serves n shard || nat_eq node n)
serves_push n node shard =
    list_any-append (λ a. nat_eq a.node n && is_staying a) shard (first_at node ∷ []) ∙ ap (λ b. serves n shard || b) (by (nat_eq node n))
  where
    by : (b : Bool) → ((b && true) || false) ≡ b
    by true = refl
    by false = refl

pub weight_own : (node : ℕ) (shard : Shard) → ¬ Has node shard → weight node (shard ++ first_at node ∷ []) ≡ weight node shard + 1
weight_own node shard lacks =
    let was : weight node shard ≡ 0 = ap one_if (serves_lacks node shard lacks) in
    let is : weight node (shard ++ first_at node ∷ []) ≡ 1 = ap one_if (serves_push node node shard ∙ ap (λ b. serves node shard || b) (eq-eqb node node refl) ∙ or-true (serves node shard)) in
    omega (arith, was, is)

pub weight_other : (n node : ℕ) (shard : Shard) → n ≢ node → weight n (shard ++ first_at node ∷ []) ≡ weight n shard
weight_other n node shard ne = ap one_if (serves_push n node shard ∙ ap (λ b. serves n shard || b) (ne_eqb node n (λ e. ne (sym e))) ∙ or-false (serves n shard))

-- ---- replicas placed in turn

pub record PlacedBelow (instances : List Instance) (old table : List ℕ) (shard : Shard) (n : ℕ) : Type 0 where
  pub many : length shard ≡ n
  pub table_many : length table ≡ length instances
  pub small : (k : ℕ) → slice_index table k ≤ MOST_SHARDS + n
  pub loads : (lower : List Shard) → AreLoads (length instances) lower old → AreLoads (length instances) (lower ++ shard ∷ []) table
  pub each : (lower : List Shard) → AreLoads (length instances) lower old → (r : ℕ) (a : Assignment) → slice_get shard r ≡ Some a → IsPlaced instances (λ k. load k (lower ++ take r shard ∷ [])) (take r shard) a

pub placed_none : (instances : List Instance) (old : List ℕ) → length old ≡ length instances → ((k : ℕ) → slice_index old k ≤ MOST_SHARDS) → PlacedBelow instances old old [] 0
placed_none instances old many small = record {
  many = refl;
  table_many = many;
  small = λ k. omega (arith, small k);
  loads = λ lower h. record { many = h.many; each = λ k lt. let e = load_split k lower [] [] in omega (arith, h.each k lt, e) };
  each = λ lower h r a e. cc;
}

lacks_held : (instances : List Instance) (shard : Shard) (node : ℕ) → MayHold instances shard node → ¬ Has node shard
lacks_held instances shard node may has = let a = IsIn-map (λ (x : Assignment). x.node) shard node has in may.free a.0 a.1 (ap (group_of instances) a.2)

pub placed_more : (instances : List Instance) (old table later : List ℕ) (shard : Shard) (n node : ℕ) → IsLeastLoaded instances (slice_index table) (MayHold instances shard) node → IsRaised table later node → PlacedBelow instances old table shard n
    → PlacedBelow instances old later (shard ++ first_at node ∷ []) (n + 1)
placed_more instances old table later shard n node least raised below =
    let grown = shard ++ first_at node ∷ [] in
    record {
      many = omega (arith, length-append shard (first_at node ∷ []), below.many);
      table_many = raised.many ∙ below.table_many;
      small = λ k. elim (cases_eq k node) as (λ _. slice_index later k ≤ MOST_SHARDS + (n + 1)) [
        | inl e ↦ omega (arith, ap (slice_index later) e ∙ raised.more, below.small node)
        | inr ne ↦ omega (arith, raised.others k ne, below.small k)
      ];
      loads = λ lower h. record {
        many = raised.many ∙ below.table_many;
        each = λ k lt.
            let was = (below.loads lower h).each k lt in
            let before = load_split k lower [] shard in
            let after = load_split k lower [] grown in
            elim (cases_eq k node) as (λ _. slice_index later k ≡ load k (lower ++ grown ∷ [])) [
              | inl e ↦
                  let own : weight k grown ≡ weight k shard + 1 = subst (λ m. weight m grown ≡ weight m shard + 1) (sym e) (weight_own node shard (lacks_held instances shard node least.may)) in
                  let more : slice_index later k ≡ slice_index table k + 1 = subst (λ m. slice_index later m ≡ slice_index table m + 1) (sym e) raised.more in
                  omega (arith, was, before, after, own, more)
              | inr ne ↦ omega (arith, was, before, after, weight_other k node shard ne, raised.others k ne)
            ];
      };
      each = λ lower h r a e. elim (push_cases shard (first_at node) r a e) as (λ _. IsPlaced instances (λ k. load k (lower ++ take r grown ∷ [])) (take r grown) a) [
        | inl at ↦
            let same : take r grown ≡ take r shard = take-append-le r shard (first_at node ∷ []) (omega (arith, slice_get_within shard r a at)) in
            subst (λ front. IsPlaced instances (λ k. load k (lower ++ front ∷ [])) front a) (sym same) (below.each lower h r a at)
        | inr at ↦
            let same : take r grown ≡ shard = ap (λ k. take k grown) at.0 ∙ take-append-le (length shard) shard (first_at node ∷ []) (omega arith) ∙ take_whole shard in
            let here = least_same instances (slice_index table) (λ k. load k (lower ++ shard ∷ [])) (MayHold instances shard) node (λ k may. (below.loads lower h).each k may.within) least in
            subst (λ front. IsPlaced instances (λ k. load k (lower ++ front ∷ [])) front a) (sym same) (node, here, sym at.1)
      ];
    }

pub placed_all : (rf : ℕ) (instances : List Instance) (old table : List ℕ) (shard : Shard) (n : ℕ) → n ≤ rf → rf ≤ n → PlacedBelow instances old table shard n → (lower : List Shard) → AreLoads (length instances) lower old → IsPlacedShard rf instances lower shard
placed_all rf instances old table shard n le ge below lower h = record { all = omega (arith, below.many, le, ge); each = below.each lower h }

-- ---- shards placed in turn

pub record ShardsBelow (rf : ℕ) (instances : List Instance) (table : List ℕ) (next : List Shard) (n : ℕ) : Type 0 where
  pub many : length next ≡ n
  pub loads : AreLoads (length instances) next table
  pub each : (s : ℕ) (shard : Shard) → slice_get next s ≡ Some shard → IsPlacedShard rf instances (take s next) shard

pub shards_none : (rf : ℕ) (instances : List Instance) (table : List ℕ) → AreLoads (length instances) [] table → ShardsBelow rf instances table [] 0
shards_none rf instances table loads = record { many = refl; loads = loads; each = λ s shard e. cc }

pub shards_more : (rf : ℕ) (instances : List Instance) (table later : List ℕ) (next : List Shard) (shard : Shard) (n : ℕ) → IsPlacedShard rf instances next shard → AreLoads (length instances) (next ++ shard ∷ []) later
    → ShardsBelow rf instances table next n → ShardsBelow rf instances later (next ++ shard ∷ []) (n + 1)
shards_more rf instances table later next shard n placed loads below = record {
  many = omega (arith, length-append next (shard ∷ []), below.many);
  loads = loads;
  each = λ s x e. elim (push_cases next shard s x e) as (λ _. IsPlacedShard rf instances (take s (next ++ shard ∷ [])) x) [
    | inl at ↦ subst (λ front. IsPlacedShard rf instances front x) (sym (take-append-le s next (shard ∷ []) (omega (arith, slice_get_within next s x at)))) (below.each s x at)
    | inr at ↦
        let same : take s (next ++ shard ∷ []) ≡ next = ap (λ k. take k (next ++ shard ∷ [])) at.0 ∙ take-append-le (length next) next (shard ∷ []) (omega arith) ∙ take_whole next in
        subst (λ front. IsPlacedShard rf instances front x) (sym same) (subst (IsPlacedShard rf instances next) at.1 placed)
  ];
}

pub shards_small : (rf : ℕ) (instances : List Instance) (table : List ℕ) (next : List Shard) (n k : ℕ) → n ≤ MOST_SHARDS → ShardsBelow rf instances table next n → slice_index table k ≤ MOST_SHARDS
shards_small rf instances table next n k few below =
    elim (cases_lt k (length instances)) as (λ _. slice_index table k ≤ MOST_SHARDS) [
      | inl lt ↦ omega (arith, (below.loads).each k lt, load_bound k next, below.many, few)
      | inr ge ↦ omega (arith, get_or_past table k 0 (omega (arith, (below.loads).many, ge)))
    ]

-- ---- too few groups

-- a list without one of its elements
removed : {X : Type 0} (ys : List X) (x : X) → IsIn ys x → (zs : List X) × (length ys ≡ suc (length zs)) × ((y : X) → IsIn ys y → x ≢ y → IsIn zs y)
removed [] x m = absurd m
removed (z ∷ ys) x m =
    elim m as (λ _. (zs : List _) × (length (z ∷ ys) ≡ suc (length zs)) × ((y : _) → IsIn (z ∷ ys) y → x ≢ y → IsIn zs y)) [
      | inl e ↦ (ys, refl, λ y k ne. elim k as (λ _. IsIn ys y) [ inl f ↦ absurd (ne (sym e ∙ f)) | inr r ↦ r ])
      | inr r ↦ let h = removed ys x r in (z ∷ h.0, ap suc h.1, λ y k ne. elim k as (λ _. (z ≡ y) ⊎ IsIn h.0 y) [ inl f ↦ inl f | inr q ↦ inr (h.2 y q ne) ])
    ]

-- different elements of a list are at most as many as its elements
at_most : {X : Type 0} (xs ys : List X) → Ascends ◌≢◌ xs → ((x : X) → IsIn xs x → IsIn ys x) → length xs ≤ length ys
at_most [] ys differ within = omega arith
at_most (x ∷ xs) ys differ within =
    let h = removed ys x (within x (inl refl)) in
    omega (arith, h.1, at_most xs h.0 differ.1 (λ y m. h.2 y (within y (inr m)) (differ.0 y m)))

differs : (x y : List ℕ) → (x ≡ y) ⊎ (x ≢ y)
differs x y = by (pointwise nat_eq x y) refl
  where
    by : (b : Bool) → pointwise nat_eq x y ≡ b → (x ≡ y) ⊎ (x ≢ y)
    by true e = inl ((bytes_eq-Decides x y).0 e)
    by false e = inr (λ f. let clash : true ≡ false = sym ((bytes_eq-Decides x y).1 f) ∙ e in cc)

-- a group has the shard or doesn't
group_in : (instances : List Instance) (shard : Shard) (g : List ℕ) → IsIn (map (λ (a : Assignment). group_of instances a.node) shard) g ⊎ ((a : Assignment) → IsIn shard a → group_of instances a.node ≢ g)
group_in instances [] g = inr (λ a m. absurd m)
group_in instances (x ∷ shard) g =
    elim (differs (group_of instances x.node) g) as (λ _. IsIn (map (λ (a : Assignment). group_of instances a.node) (x ∷ shard)) g ⊎ ((a : Assignment) → IsIn (x ∷ shard) a → group_of instances a.node ≢ g)) [
      | inl e ↦ inl (inl e)
      | inr ne ↦ elim (group_in instances shard g) as (λ _. IsIn (map (λ (a : Assignment). group_of instances a.node) (x ∷ shard)) g ⊎ ((a : Assignment) → IsIn (x ∷ shard) a → group_of instances a.node ≢ g)) [
        | inl h ↦ inl (inr h)
        | inr h ↦ inr (λ a m. elim m as (λ _. group_of instances a.node ≢ g) [ inl e ↦ λ f. ne (ap (λ (z : Assignment). group_of instances z.node) e ∙ f) | inr r ↦ h a r ])
      ]
    ]

-- where no node may have the shard that has fewer replicas, there are too few groups
pub too_few : (rf : ℕ) (instances : List Instance) (shard : Shard) → length shard < rf → ((node : ℕ) → ¬ MayHold instances shard node) → ¬ HasGroups rf instances
too_few rf instances shard lt none has =
    let names = map (group_of instances) has.nodes in
    let most = at_most names (map (λ (a : Assignment). group_of instances a.node) shard) (ascends-map ◌≢◌ (group_of instances) has.nodes has.differ) (λ g m.
    let n = IsIn-map (group_of instances) has.nodes g m in
    elim (group_in instances shard g) as (λ _. IsIn (map (λ (a : Assignment). group_of instances a.node) shard) g) [
      | inl h ↦ h
      | inr h ↦ absurd (none n.0 (record { within = has.within n.0 n.1; free = λ a k e. h a k (e ∙ n.2) }))
    ]) in
    omega (arith, most, length-map has.nodes (group_of instances), length-map shard (λ (a : Assignment). group_of instances a.node), has.all, lt)
