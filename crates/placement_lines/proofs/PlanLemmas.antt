-- The planning rules lead to one placement.
use Rattle.std.proofs.Common.{◌≡◌, ◌≢◌, ℕ, List, [], ◌∷◌, ◌++◌, take, drop, true, false, slice_get, slice_set, Some, refl, sym, ap, ap₂, subst, ◌∙◌, inl, inr}
use Rattle.std.specs.Ordering.{nat_cmp}
use Rattle.m3_model.specs.Ascends.{Ascends}
use Rattle.m3_model.specs.Limits.{IsInit, MeetsLimits}
use Rattle.m3_model.specs.declared.act.Act.{Act}
use Rattle.m3_model.specs.declared.act.Act.TheVariants as act
use Rattle.m3_model.specs.declared.placement.Assignment.{Assignment}
use Rattle.m3_model.specs.declared.placement.Instance.{Instance}
use Rattle.m3_model.specs.declared.placement.Placement.{Placement}
use Rattle.placement_core.specs.Lawful.{IsLawful}
use Rattle.placement_core.specs.Shards.{Shard}
use Rattle.placement_core.specs.Steps.{settled}
use Rattle.placement_core.proofs.HolderLemmas.{same_node}
use Rattle.placement_core.proofs.ListLemmas.{same_at}
use Rattle.placement_core.proofs.OrderLemmas.{at_in}
use Rattle.placement_plan.specs.Additions.{IsAddition, IsGiver, MayMove, Rebalances, after_move, giving_cmp}
use Rattle.placement_plan.specs.Choices.{MayTake, moved}
use Rattle.placement_plan.specs.First.{IsInitial, IsPlaced, IsPlacedShard, MayHold, first_at}
use Rattle.placement_plan.specs.Nodes.{IsFirstWhere, Joins, ListsNode, fresh_node, load}
use Rattle.placement_plan.specs.Plans.{CancelsJoining, GivesTo, IsCancel, IsDrain, IsFreed, IsRemoval, IsReplacement, MakesAll, MovesAway, MovesBy, MovesShardTo}
use Rattle.placement_plan.proofs.AddLemmas.{addition_lawful, giving_total}
use Rattle.placement_plan.proofs.DrainLemmas.{at_below}
use Rattle.placement_plan.proofs.InitialLemmas.{initial_lawful}
use Rattle.placement_acts.specs.Acts.{Plans, is_step_act}
use Rattle.placement_acts.proofs.ActLemmas.{by_step}
use Rattle.placement_lines.proofs.ChoiceLemmas.{made_once, one_at, one_first, one_least, same_by_prefix}
use Rattle.placement_lines.proofs.WayLemmas.{first_one, listed_one}

same_placement : (a b : Placement) → a.version ≡ b.version → a.rf ≡ b.rf → a.instances ≡ b.instances → a.shards ≡ b.shards → a ≡ b
same_placement a b version rf instances shards = λ i. record { version = version i; rf = rf i; instances = instances i; shards = shards i }

-- the named node, and what stands of it
same_lists : (instances : List Instance) (name : List ℕ) (n m : ℕ) → n ≡ m → (one : ListsNode instances name n) (other : ListsNode instances name m) → one.instance ≡ other.instance
same_lists instances name n m same one other = same_at instances m one.instance other.instance (subst (λ (k : ℕ). slice_get instances k ≡ Some one.instance) same one.stands) other.stands

-- ---- shards

cancelled_once : (node : ℕ) (a b c : Shard) → Ascends (λ x y. x.node ≢ y.node) a → CancelsJoining node a b → CancelsJoining node a c → b ≡ c
cancelled_once node a b c distinct one other = elim one as (λ _. b ≡ c) [
  | inl h ↦ elim other as (λ _. b ≡ c) [
    | inl k ↦
        let joining : h.1.0 ≡ k.1.0 = same_node a h.1.0 k.1.0 distinct h.1.1 k.1.1 (h.1.2 ∙ sym k.1.2) in
        let sources : Some h.1.3.from ≡ Some k.1.3.from = sym h.1.3.joins.1 ∙ ap (λ (x : Assignment). x.source) joining ∙ k.1.3.joins.1 in
        let source : h.1.3.from ≡ k.1.3.from = cc in
        h.1.3.next_is ∙ ap₂ (λ (x : Assignment) n. settled x.node n a) joining source ∙ sym k.1.3.next_is
    | inr k ↦ absurd (k.0 h.0)
  ]
  | inr h ↦ elim other as (λ _. b ≡ c) [ inl k ↦ absurd (h.0 k.0) | inr k ↦ h.1 ∙ sym k.1 ]
]

freed_once : (Freed : ℕ → Type 0) (n : ℕ) (a b c : Instance) → IsFreed Freed n a b → IsFreed Freed n a c → b ≡ c
freed_once Freed n a b c one other = elim one as (λ _. b ≡ c) [
  | inl h ↦ elim other as (λ _. b ≡ c) [ inl k ↦ h.1 ∙ sym k.1 | inr k ↦ absurd (k.0 h.0) ]
  | inr h ↦ elim other as (λ _. b ≡ c) [ inl k ↦ absurd (h.0 k.0) | inr k ↦ h.1 ∙ sym k.1 ]
]

takes_at : (instances : List Instance) (shard : Shard) (from n : ℕ) → MayTake instances shard from n → (i : Instance) × (slice_get instances n ≡ Some i)
takes_at instances shard from n may = (may.instance, may.stands)

moved_once : (instances : List Instance) (load_at : ℕ → ℕ) (version node : ℕ) (a b c : Shard) → Ascends (λ x y. x.name ≢ y.name) instances → MovesBy instances load_at version node a b → MovesBy instances load_at version node a c → b ≡ c
moved_once instances load_at version node a b c distinct one other = elim one as (λ _. b ≡ c) [
  | inl h ↦ elim other as (λ _. b ≡ c) [ inl k ↦ h.1 ∙ sym k.1 | inr k ↦ absurd (h.0 k.0) ]
  | inr h ↦ elim other as (λ _. b ≡ c) [
    | inl k ↦ absurd (k.0 h.0)
    | inr k ↦ h.1.2 ∙ ap (λ n. moved version node n a) (one_least instances load_at (MayTake instances a node) distinct (takes_at instances a node) h.1.0 k.1.0 h.1.1 k.1.1) ∙ sym k.1.2
  ]
]

moved_to_once : (version node to : ℕ) (a b c : Shard) → MovesShardTo version node to a b → MovesShardTo version node to a c → b ≡ c
moved_to_once version node to a b c one other = elim one as (λ _. b ≡ c) [
  | inl h ↦ elim other as (λ _. b ≡ c) [ inl k ↦ h.1 ∙ sym k.1 | inr k ↦ absurd (h.0 k.0) ]
  | inr h ↦ elim other as (λ _. b ≡ c) [ inl k ↦ absurd (k.0 h.0) | inr k ↦ h.1 ∙ sym k.1 ]
]

-- ---- nodes that come

joined_once : (instances : List Instance) (name group : List ℕ) (one other : List Instance) (n m : ℕ) → Ascends (λ x y. x.name ≢ y.name) instances → Joins instances name group one n → Joins instances name group other m → (n ≡ m) × (one ≡ other)
joined_once instances name group one other n m distinct h k = elim h as (λ _. (n ≡ m) × (one ≡ other)) [
  | inl p ↦ elim k as (λ _. (n ≡ m) × (one ≡ other)) [
    | inl q ↦
        let same : n ≡ m = one_at instances n m distinct p.0.instance q.0.instance p.0.stands q.0.stands (p.0.named ∙ sym q.0.named) in
        (same, p.1 ∙ ap (λ x. slice_set instances x (fresh_node name group)) same ∙ sym q.1)
    | inr q ↦ absurd (q.0 p.0.instance (at_in instances n p.0.instance p.0.stands) p.0.named)
  ]
  | inr p ↦ elim k as (λ _. (n ≡ m) × (one ≡ other)) [
    | inl q ↦ absurd (p.0 q.0.instance (at_in instances m q.0.instance q.0.stands) q.0.named)
    | inr q ↦ (p.1 ∙ sym q.1, p.2 ∙ sym q.2)
  ]
]

one_giver : (load_at : ℕ → ℕ) (instances : List Instance) (shards : List Shard) (to n m : ℕ) → Ascends (λ x y. x.name ≢ y.name) instances → IsGiver load_at instances shards to n → IsGiver load_at instances shards to m → n ≡ m
one_giver load_at instances shards to n m distinct one other =
    let i = at_below instances n one.may.within in
    let j = at_below instances m other.may.within in
    one_first instances (giving_cmp instances load_at) (λ a b. nat_cmp (load_at b) (load_at a)) (giving_total instances load_at) (λ a b. refl) distinct n m i.0 j.0 i.1 j.1 (one.first m other.may) (other.first n one.may)

rebalanced_once : (instances : List Instance) (version to : ℕ) → Ascends (λ x y. x.name ≢ y.name) instances → (moves others : List (ℕ × ℕ)) (shards one other : List Shard)
    → Rebalances instances version to moves shards one → Rebalances instances version to others shards other → one ≡ other
rebalanced_once instances version to distinct [] [] shards one other h k = h.0 ∙ sym k.0
rebalanced_once instances version to distinct [] (m ∷ others) shards one other h k = absurd (h.1 m.1 k.0.giver.may)
rebalanced_once instances version to distinct (m ∷ moves) [] shards one other h k = absurd (k.1 m.1 h.0.giver.may)
rebalanced_once instances version to distinct (m ∷ moves) (q ∷ others) shards one other h k =
    let from : m.1 ≡ q.1 = one_giver (λ n. load n shards) instances shards to m.1 q.1 distinct h.0.giver k.0.giver in
    let number : m.0 ≡ q.0 = first_one (MayMove instances q.1 to) shards m.0 q.0 (subst (λ n. IsFirstWhere (MayMove instances n to) shards m.0) from h.0.shard) k.0.shard in
    let same : m ≡ q = ap₂ (λ (x y : ℕ). (x, y)) number from in
    rebalanced_once instances version to distinct moves others (after_move version to q shards) one other (subst (λ (x : ℕ × ℕ). Rebalances instances version to moves (after_move version to x shards) one) same h.1) k.1

-- ---- plans

module _ (place : Placement) (lawful : IsLawful place) where
  cancel_once : (name : List ℕ) (one other : Placement) → IsCancel place name one → IsCancel place name other → one ≡ other
  cancel_once name one other p q =
      let same : q.node ≡ p.node = listed_one place lawful name q.node p.node q.lists p.lists in
      let shards = subst (λ n. MakesAll (λ s. CancelsJoining n) place.shards other.shards) same q.follows.shards in
      let instances = subst (λ n. MakesAll (IsFreed (GivesTo place.shards n)) place.instances other.instances) same q.instances in
      same_placement one other (p.follows.version ∙ sym q.follows.version) (p.follows.rf ∙ sym q.follows.rf)
      (made_once (IsFreed (GivesTo place.shards p.node)) (IsFreed (GivesTo place.shards p.node)) place.instances one.instances other.instances p.instances instances (λ k a b c at before h g. freed_once (GivesTo place.shards p.node) k a b c h g))
      (made_once (λ s. CancelsJoining p.node) (λ s. CancelsJoining p.node) place.shards one.shards other.shards p.follows.shards shards
      (λ k a b c at before h g. cancelled_once p.node a b c (lawful.shards a (at_in place.shards k a at)).distinct h g))

  removal_once : (name : List ℕ) (one other : Placement) → IsRemoval place name one → IsRemoval place name other → one ≡ other
  removal_once name one other p q =
      let same : p.node ≡ q.node = listed_one place lawful name p.node q.node p.lists q.lists in
      same_placement one other (p.follows.version ∙ sym q.follows.version) (p.follows.rf ∙ sym q.follows.rf)
      (p.instances ∙ ap₂ (λ n (i : Instance). slice_set place.instances n (record i { listed = false })) same (same_lists place.instances name p.node q.node same p.lists q.lists) ∙ sym q.instances)
      (made_once (λ s a b. b ≡ a) (λ s a b. b ≡ a) place.shards one.shards other.shards p.follows.shards q.follows.shards (λ k a b c at before h g. h ∙ sym g))

  drain_once : (name : List ℕ) (one other : Placement) → IsDrain place name one → IsDrain place name other → one ≡ other
  drain_once name one other p q =
      let same : q.node ≡ p.node = listed_one place lawful name q.node p.node q.lists p.lists in
      let versions : other.version ≡ one.version = q.follows.version ∙ sym p.follows.version in
      let shards = subst (λ v. MakesAll (MovesAway place.instances place.shards other.shards v p.node) place.shards other.shards) versions
      (subst (λ n. MakesAll (MovesAway place.instances place.shards other.shards other.version n) place.shards other.shards) same q.follows.shards) in
      same_placement one other (sym versions) (p.follows.rf ∙ sym q.follows.rf)
      (p.instances ∙ ap₂ (λ n (i : Instance). slice_set place.instances n (record i { drained = true })) (sym same) (same_lists place.instances name p.node q.node (sym same) p.lists q.lists) ∙ sym q.instances)
      (made_once (MovesAway place.instances place.shards one.shards one.version p.node) (MovesAway place.instances place.shards other.shards one.version p.node) place.shards one.shards other.shards p.follows.shards shards
      (λ k a b c at before h g. moved_once place.instances (λ n. load n (take k one.shards ++ drop k place.shards)) one.version p.node a b c lawful.limits.distinct h
      (subst (λ (lower : List Shard). MovesBy place.instances (λ n. load n (lower ++ drop k place.shards)) one.version p.node a c) (sym before) g)))

  replacement_once : (name by group : List ℕ) (one other : Placement) → IsReplacement place name by group one → IsReplacement place name by group other → one ≡ other
  replacement_once name by group one other p q =
      let same : q.node ≡ p.node = listed_one place lawful name q.node p.node q.may.lists p.may.lists in
      let joined = joined_once place.instances by group p.joined q.joined p.to q.to lawful.limits.distinct p.joins q.joins in
      let versions : other.version ≡ one.version = q.follows.version ∙ sym p.follows.version in
      let shards = subst (λ v. MakesAll (λ s. MovesShardTo v p.node p.to) place.shards other.shards) versions
      (subst (λ t. MakesAll (λ s. MovesShardTo other.version p.node t) place.shards other.shards) (sym joined.0)
      (subst (λ n. MakesAll (λ s. MovesShardTo other.version n q.to) place.shards other.shards) same q.follows.shards)) in
      let drained : (instances : List Instance) → slice_set instances p.node (record (p.may.lists.instance) { drained = true }) ≡ slice_set instances q.node (record (q.may.lists.instance) { drained = true }) =
      λ instances. ap₂ (λ n (i : Instance). slice_set instances n (record i { drained = true })) (sym same) (same_lists place.instances name p.node q.node (sym same) p.may.lists q.may.lists) in
      same_placement one other (sym versions) (p.follows.rf ∙ sym q.follows.rf)
      (p.instances ∙ ap (λ (instances : List Instance). slice_set instances p.node (record (p.may.lists.instance) { drained = true })) joined.1 ∙ drained q.joined ∙ sym q.instances)
      (made_once (λ s. MovesShardTo one.version p.node p.to) (λ s. MovesShardTo one.version p.node p.to) place.shards one.shards other.shards p.follows.shards shards
      (λ k a b c at before h g. moved_to_once one.version p.node p.to a b c h g))

  addition_once : (name group : List ℕ) (one other : Placement) → MeetsLimits (act.Add name group) → IsAddition place name group one → IsAddition place name group other → one ≡ other
  addition_once name group one other limits p q =
      let joined = joined_once place.instances name group one.instances other.instances p.node q.node lawful.limits.distinct p.joins q.joins in
      let versions : other.version ≡ one.version = q.version ∙ sym p.version in
      let distinct = (addition_lawful place one name group lawful limits.0 limits.1 p).limits.distinct in
      let moves = subst (λ v. Rebalances one.instances v p.node q.moves place.shards other.shards) versions
      (subst (λ n. Rebalances one.instances other.version n q.moves place.shards other.shards) (sym joined.0)
      (subst (λ (i : List Instance). Rebalances i other.version q.node q.moves place.shards other.shards) (sym joined.1) q.rebalances)) in
      same_placement one other (sym versions) (p.rf ∙ sym q.rf) joined.1 (rebalanced_once one.instances one.version p.node distinct p.moves q.moves place.shards one.shards other.shards p.rebalances moves)

  abbrev Once : Act → Type 0
  Once a = MeetsLimits a → (one other : Placement) → Plans (Some place) a one → Plans (Some place) a other → one ≡ other

  -- a step leads to one placement
  pub one_plan : (a : Act) → is_step_act a ≡ true → Once a
  one_plan = by_step Once
      (λ name group limits one other. addition_once name group one other limits)
      (λ name limits one other. drain_once name one other)
      (λ name limits one other. cancel_once name one other)
      (λ name limits one other. removal_once name one other)
      (λ name by group limits one other. replacement_once name by group one other)

-- ---- `init`

holds_at : (instances : List Instance) (shard : Shard) (n : ℕ) → MayHold instances shard n → (i : Instance) × (slice_get instances n ≡ Some i)
holds_at instances shard n may = at_below instances n may.within

placed_one : (instances : List Instance) (load_at : ℕ → ℕ) (shard : Shard) (a b : Assignment) → Ascends (λ x y. x.name ≢ y.name) instances → IsPlaced instances load_at shard a → IsPlaced instances load_at shard b → a ≡ b
placed_one instances load_at shard a b distinct one other =
    one.2 ∙ ap first_at (one_least instances load_at (MayHold instances shard) distinct (holds_at instances shard) one.0 other.0 one.1 other.1) ∙ sym other.2

placed_once : (rf : ℕ) (instances : List Instance) (lower : List Shard) (a b : Shard) → Ascends (λ x y. x.name ≢ y.name) instances → IsPlacedShard rf instances lower a → IsPlacedShard rf instances lower b → a ≡ b
placed_once rf instances lower a b distinct one other = same_by_prefix a b (one.all ∙ sym other.all) (λ r x y before ex ey.
    placed_one instances (λ n. load n (lower ++ take r a ∷ [])) (take r a) x y distinct (one.each r x ex)
    (subst (λ (part : Shard). IsPlaced instances (λ n. load n (lower ++ part ∷ [])) part y) (sym before) (other.each r y ey)))

-- an `init` leads to one placement
pub one_start : (rf shards : ℕ) (nodes : List (List ℕ × List ℕ)) (one other : Placement) → IsInit rf shards 0 nodes → IsInitial rf shards nodes one → IsInitial rf shards nodes other → one ≡ other
one_start rf shards nodes one other init p q =
    let instances : one.instances ≡ other.instances = p.instances ∙ sym q.instances in
    let distinct = (initial_lawful rf shards nodes init one p).limits.distinct in
    same_placement one other (p.version ∙ sym q.version) (p.rf_is ∙ sym q.rf_is) instances
    (same_by_prefix one.shards other.shards (p.count ∙ sym q.count) (λ s x y before ex ey.
    placed_once rf one.instances (take s one.shards) x y distinct (p.each s x ex)
    (subst (λ (i : List Instance). IsPlacedShard rf i (take s one.shards) y) (sym instances) (subst (λ (lower : List Shard). IsPlacedShard rf other.instances lower y) (sym before) (q.each s y ey)))))
