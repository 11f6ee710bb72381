-- Shards that move away one after the other.
use Rattle.std.proofs.Common.{◌≡◌, ◌<◌, ◌≤◌, ◌+◌, ℕ, zero, suc, List, [], ◌∷◌, ◌++◌, length, take, drop, slice_get, slice_index, Some, None, refl, sym, ap, subst, inl, inr, ◌∙◌, arith, length-append, length-drop, append_assoc, true, false}
use Rattle.std.specs.Ordering.{is_gt, nat_cmp, ordering_then}
use Rattle.std.specs.Cmp.Lexicographic.{slice_cmp}
use Rattle.std.specs.declared.cmp.Ordering.{Ordering}
use Rattle.placement_core.specs.NodeNames.{name_of}
use Rattle.std.proofs.lemmas.List.{take-append-le, drop_more}
use Rattle.std.proofs.lemmas.Option.{slice_get_within, get_or_from_slice_get}
use Rattle.placement_core.specs.m3_model.declared.placement.Instance.{Instance}
use Rattle.placement_core.specs.m3_model.declared.placement.Placement.{Placement}
use Rattle.placement_core.specs.m3_model.declared.limits.TheConstants.{MOST_SHARDS}
use Rattle.placement_core.proofs.m3_model_proofs.Lists.{take_whole}
use Rattle.placement_core.specs.Shards.{Shard}
use Rattle.placement_core.specs.Lawful.{IsSpread, IsLawful}
use Rattle.placement_core.specs.Steps.{IsStep, IsShardStep}
use Rattle.placement_core.proofs.ListLemmas.{same_at}
use Rattle.placement_core.proofs.OrderLemmas.{at_in}
use Rattle.placement_plan.specs.Nodes.{Has, load, IsFirstWhere}
use Rattle.placement_plan.specs.Choices.{MayTake, IsLeastLoaded, taking_cmp}
use Rattle.placement_plan.specs.Loads.{AreLoads, LoadsFollow}
use Rattle.placement_plan.specs.Plans.{MakesAll, MovesBy, MovesAway, IsDrain}
use Rattle.placement_plan.proofs.PlaceLemmas.{push_cases}
use Rattle.placement_plan.proofs.SpreadLemmas.{moved_spread}
use Rattle.placement_plan.proofs.ShardLemmas.{steady_of, moved_step}
use Rattle.placement_plan.proofs.PlanLemmas.{AreAlike, lawful_nodes, alike_set, alike_names, alike_nodes, set_cases, spread_alike, follows_step, follows_lawful, none_done}

-- ---- choices by equal loads

-- the order of two nodes by the loads that they have
abbrev cmp_by : List Instance → ℕ → ℕ → ℕ → ℕ → Ordering
cmp_by instances x y a b = ordering_then (nat_cmp x y) (slice_cmp nat_cmp (name_of instances a) (name_of instances b))

cmp_same : (instances : List Instance) (f g : ℕ → ℕ) (a b : ℕ) → f a ≡ g a → f b ≡ g b → is_gt (taking_cmp instances f a b) ≡ false → is_gt (taking_cmp instances g a b) ≡ false
cmp_same instances f g a b ea eb h = subst (λ x. is_gt (cmp_by instances x (g b) a b) ≡ false) ea (subst (λ y. is_gt (cmp_by instances (f a) y a b) ≡ false) eb h)

pub least_same : (instances : List Instance) (f g : ℕ → ℕ) (May : ℕ → Type 0) (node : ℕ) → ((n : ℕ) → May n → f n ≡ g n) → IsLeastLoaded instances f May node → IsLeastLoaded instances g May node
least_same instances f g May node same h = record { may = h.may; least = λ other may. cmp_same instances f g node other (same node h.may) (same other may) (h.least other may) }

moves_same : (instances : List Instance) (f g : ℕ → ℕ) (version node : ℕ) (a b : Shard) → ((n : ℕ) → n < length instances → f n ≡ g n) → MovesBy instances f version node a b → MovesBy instances g version node a b
moves_same instances f g version node a b same h = elim h as (λ _. MovesBy instances g version node a b) [
  | inl k ↦ inl k
  | inr k ↦ inr (k.0, ((k.1).0, least_same instances f g (MayTake instances a node) (k.1).0 (λ n may. same n (slice_get_within instances n may.instance may.stands)) (k.1).1, (k.1).2))
]

-- ---- lists

pub drop_at : {X : Type 0} (xs : List X) (n : ℕ) (x : X) → slice_get xs n ≡ Some x → drop n xs ≡ x ∷ drop (n + 1) xs
drop_at xs n x at = drop_more xs n x (slice_get_within xs n x at) ∙ ap (λ y. y ∷ drop (n + 1) xs) (get_or_from_slice_get xs n x x at)

pub at_below : {X : Type 0} (xs : List X) (k : ℕ) → k < length xs → (x : X) × (slice_get xs k ≡ Some x)
at_below [] k lt = absurd (omega arith)
at_below (x ∷ xs) zero lt = (x, refl)
at_below (x ∷ xs) (suc k) lt = at_below xs k (omega arith)

-- ---- shards that move away in turn

pub record DrainedBelow (instances : List Instance) (version node : ℕ) (old next : List Shard) (table : List ℕ) (n : ℕ) : Type 0 where
  pub many : length next ≡ n
  pub loads : AreLoads (length instances) (next ++ drop n old) table
  pub each : (s : ℕ) (a b : Shard) → slice_get old s ≡ Some a → slice_get next s ≡ Some b → MovesAway instances old next version node s a b

pub drained_none : (instances : List Instance) (version node : ℕ) (old : List Shard) (table : List ℕ) → AreLoads (length instances) old table → DrainedBelow instances version node old [] table 0
drained_none instances version node old table loads = record { many = refl; loads = loads; each = λ s a b ea eb. cc }

pub drained_more : (instances : List Instance) (version node : ℕ) (old next : List Shard) (table later : List ℕ) (n : ℕ) (a b : Shard) → slice_get old n ≡ Some a → MovesBy instances (slice_index table) version node a b
    → LoadsFollow (length instances) table later a b → DrainedBelow instances version node old next table n → DrainedBelow instances version node old (next ++ b ∷ []) later (n + 1)
drained_more instances version node old next table later n a b at moves follow below =
    record {
      many = omega (arith, length-append next (b ∷ []), below.many);
      loads = subst (λ shards. AreLoads (length instances) shards later) (sym (append_assoc next (b ∷ []) (drop (n + 1) old)))
          (follow next (drop (n + 1) old) (subst (λ rest. AreLoads (length instances) (next ++ rest) table) (drop_at old n a at) below.loads));
      each = λ s x y ex ey. elim (push_cases next b s y ey) as (λ _. MovesAway instances old (next ++ b ∷ []) version node s x y) [
        | inl h ↦
            let same : take s (next ++ b ∷ []) ≡ take s next = take-append-le s next (b ∷ []) (omega (arith, slice_get_within next s y h)) in
            subst (λ front. MovesBy instances (λ k. load k (front ++ drop s old)) version node x y) (sym same) (below.each s x y ex h)
        | inr h ↦
            let s_is : s ≡ n = h.0 ∙ below.many in
            let x_is : a ≡ x = same_at old n a x at (ap (slice_get old) (sym s_is) ∙ ex) in
            let front : take s (next ++ b ∷ []) ≡ next = ap (λ k. take k (next ++ b ∷ [])) h.0 ∙ take-append-le (length next) next (b ∷ []) (omega arith) ∙ take_whole next in
            let here : MovesBy instances (λ k. load k (next ++ drop n old)) version node a b = moves_same instances (slice_index table) (λ k. load k (next ++ drop n old)) version node a b (below.loads).each moves in
            let there : MovesBy instances (λ k. load k (next ++ drop n old)) version node x y = subst (λ z. MovesBy instances (λ k. load k (next ++ drop n old)) version node z y) x_is (subst (MovesBy instances (λ k. load k (next ++ drop n old)) version node a) h.1 here) in
            subst (λ xs. MovesBy instances (λ k. load k (xs ++ drop s old)) version node x y) (sym front) (subst (λ m. MovesBy instances (λ k. load k (next ++ drop m old)) version node x y) (sym s_is) there)
      ];
    }

pub drained_few : (old next : List Shard) (n : ℕ) → n ≤ length old → length next ≡ n → length old ≤ MOST_SHARDS → length (next ++ drop n old) ≤ MOST_SHARDS
drained_few old next n le many few = omega (arith, length-append next (drop n old), length-drop n old, le, many, few)

pub drained_all : (instances : List Instance) (version node : ℕ) (old next : List Shard) (table : List ℕ) (n : ℕ) → n ≤ length old → length old ≤ n → DrainedBelow instances version node old next table n → MakesAll (MovesAway instances old next version node) old next
drained_all instances version node old next table n le ge below = record { count = omega (arith, below.many, le, ge); each = below.each }

pub drained_stuck : (instances : List Instance) (version node : ℕ) (old next : List Shard) (table : List ℕ) (n : ℕ) (a : Shard) → slice_get old n ≡ Some a → Has node a × ((to : ℕ) → ¬ MayTake instances a node to)
    → DrainedBelow instances version node old next table n → IsFirstWhere (λ s. Has node s × ((to : ℕ) → ¬ MayTake instances s node to)) old n
drained_stuck instances version node old next table n a at stuck below = record {
  shard = a;
  stands = at;
  holds = stuck;
  first = λ k earlier lt was held.
      let b = at_below next k (omega (arith, below.many, lt)) in
      elim (below.each k earlier b.0 was b.1) as (λ _. ⊥) [
        | inl h ↦ h.0 held.0
        | inr h ↦ held.1 (h.1).0 ((h.1).1).may
      ];
}

-- ---- the placement

module _ (old next : Placement) (name : List ℕ) (lawful : IsLawful old) (plan : IsDrain old name next) where
  abbrev Moves : ℕ → Shard → Shard → Type 0
  Moves = MovesAway old.instances old.shards next.shards next.version plan.node

  abbrev marked : Instance
  marked = record ((plan.lists).instance) { drained = true }

  alike : AreAlike old.instances next.instances
  alike = subst (AreAlike old.instances) (sym plan.instances) (alike_set old.instances plan.node ((plan.lists).instance) marked ((plan.lists).stands) refl refl)

  listed_same : (n : ℕ) (i j : Instance) → slice_get old.instances n ≡ Some i → slice_get next.instances n ≡ Some j → j.listed ≡ i.listed
  listed_same n i j ei ej =
      elim (set_cases old.instances plan.node marked n j (ap (λ nodes. slice_get nodes n) (sym plan.instances) ∙ ej)) as (λ _. j.listed ≡ i.listed) [
        | inl h ↦ ap (λ (z : Instance). z.listed) h.1 ∙ ap (λ (z : Instance). z.listed) (same_at old.instances n ((plan.lists).instance) i (ap (slice_get old.instances) h.0 ∙ (plan.lists).stands) ei)
        | inr h ↦ ap (λ (z : Instance). z.listed) (same_at old.instances n j i h.1 ei)
      ]

  step_of : (s : ℕ) (a b : Shard) → slice_get old.shards s ≡ Some a → Moves s a b → IsShardStep next.version a b None
  step_of s a b at made = elim made as (λ _. IsShardStep next.version a b None) [
    | inl h ↦ inl h.1
    | inr h ↦
        let m = at_in old.shards s a at in
        subst (λ x. IsShardStep next.version a x None) (sym (h.1).2)
        (moved_step next.version plan.node (h.1).0 a (steady_of old.rf old.version a (lawful.shards a m) (plan.ready a m h.0)) h.0 ((((h.1).1).may).lacks))
  ]

  spread_of : (s : ℕ) (a b : Shard) → slice_get old.shards s ≡ Some a → Moves s a b → IsSpread next.instances b
  spread_of s a b at made =
      let m = at_in old.shards s a at in
      spread_alike old.instances next.instances b alike (λ n i j used. listed_same n i j) (elim made as (λ _. IsSpread old.instances b) [
        | inl h ↦ subst (IsSpread old.instances) (sym h.1) (lawful.spread a m)
        | inr h ↦ subst (IsSpread old.instances) (sym (h.1).2)
            (moved_spread next.version old.instances plan.node (h.1).0 a ((lawful.limits).distinct) (steady_of old.rf old.version a (lawful.shards a m) (plan.ready a m h.0)) (lawful.spread a m) ((h.1).1).may)
      ])

  pub drain_step : IsStep old next []
  drain_step = follows_step old next [] Moves plan.follows (alike_names old.instances next.instances alike) (none_done (length old.shards)) step_of

  pub drain_lawful : IsLawful next
  drain_lawful = follows_lawful old next Moves lawful plan.follows (alike_nodes old.instances next.instances alike (lawful_nodes old lawful)) (λ s a b at made. ((None, step_of s a b at made), spread_of s a b at made))
