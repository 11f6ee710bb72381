-- The first placement is a placement.
use Rattle.std.proofs.Common.{◌≡◌, ◌≢◌, ◌<◌, ℕ, zero, suc, List, [], ◌∷◌, length, take, get_or, slice_get, Some, true, false, refl, sym, ap, subst, inl, inr, ◌∙◌, arith, IsTrue}
use Rattle.std.proofs.lemmas.List.{length-map}
use Rattle.std.proofs.lemmas.Option.{slice_get-get_or}
use Rattle.placement_core.specs.m3_model.Ascends.{Ascends}
use Rattle.placement_core.specs.m3_model.Members.{IsIn}
use Rattle.placement_core.specs.m3_model.Names.{is_name}
use Rattle.placement_core.specs.m3_model.Limits.{IsInit}
use Rattle.placement_core.specs.Lawful.{IsApart, IsShard, IsSpread, IsLawful}
use Rattle.placement_plan.specs.First.{IsFirstShard, IsFirstPlacement, first_instances, first_at, IsPlacedShard, IsInitial}
use Rattle.placement_core.proofs.m3_model_proofs.MemberLemmas.{IsIn-map}
use Rattle.placement_core.proofs.m3_model_proofs.Ascending.{Ascends-filter}
use Rattle.placement_core.proofs.m3_model_proofs.Lists.{IsIn-take}
use Rattle.placement_core.specs.m3_model.declared.placement.Assignment.{Assignment}
use Rattle.placement_core.specs.m3_model.declared.placement.Instance.{Instance}
use Rattle.placement_core.specs.m3_model.declared.placement.Placement.{Placement}
use Rattle.placement_core.specs.Shards.{Shard, is_holder, is_staying}
use Rattle.placement_core.proofs.OrderLemmas.{ascends-from_at, ascends-map, at_in, names_at}
use Rattle.isolation_groups.specs.Groups.{group_of}
use Rattle.placement_plan.proofs.PlaceLemmas.{in_at}
use Rattle.placement_plan.proofs.SpreadLemmas.{group_is, ListedAt}
use Rattle.placement_plan.proofs.PlanLemmas.{AreNodes}

-- ---- lists by their fronts

in_front : {X : Type 0} (xs : List X) (i j : ℕ) (d : X) → i < j → j < length xs → IsIn (take j xs) (get_or xs i d)
in_front [] i j d lt within = absurd (omega arith)
in_front (x ∷ xs) i zero d lt within = absurd (omega arith)
in_front (x ∷ xs) zero (suc j) d lt within = inl refl
in_front (x ∷ xs) (suc i) (suc j) d lt within = inr (in_front xs i j d (omega arith) (omega arith))

-- a list is in order where each element follows all those before it
ascends_by_front : {X : Type 0} (R : X → X → Type 0) (xs : List X) → ((r : ℕ) (a : X) → slice_get xs r ≡ Some a → (x : X) → IsIn (take r xs) x → R x a) → Ascends R xs
ascends_by_front R xs h = ascends-from_at R xs (λ i j d lt within. h j (get_or xs j d) (slice_get-get_or xs j d within) (get_or xs i d) (in_front xs i j d lt within))

-- ---- the first nodes

abbrev instance_of : List ℕ × List ℕ → Instance
instance_of node = record { name = node.0; group = node.1; listed = true; drained = false }

first_nodes : (rf shards : ℕ) (nodes : List (List ℕ × List ℕ)) → IsInit rf shards 0 nodes → AreNodes (first_instances nodes)
first_nodes rf shards nodes init = record {
  few = omega (arith, length-map nodes instance_of, init.few_nodes);
  named = λ i m. let n = IsIn-map instance_of nodes i m in
      let h = init.named n.0 n.1 in
      subst (λ (z : Instance). IsTrue (is_name z.name) × IsTrue (is_name z.group)) n.2 (h.0, h.1);
  distinct = ascends-map (λ (a b : Instance). a.name ≢ b.name) instance_of nodes init.distinct;
}

first_listed : (nodes : List (List ℕ × List ℕ)) (i : Instance) → IsIn (first_instances nodes) i → i.listed ≡ true
first_listed nodes i m = let n = IsIn-map instance_of nodes i m in ap (λ (z : Instance). z.listed) (sym n.2)

-- ---- a shard that was placed

module _ (instances : List Instance) (distinct : Ascends (λ a b. a.name ≢ b.name) instances) (listed : (i : Instance) → IsIn instances i → i.listed ≡ true) (rf : ℕ) (lower : List Shard) (shard : Shard) (placed : IsPlacedShard rf instances lower shard) where
  replica_at : (a : Assignment) → IsIn shard a → (n : ℕ) × (n < length instances) × (a ≡ first_at n)
  replica_at a m =
      let i = in_at shard a m in
      let p = placed.each i.0 a i.2 in
      (p.0, ((p.1).may).within, p.2)

  listed_at : (a : Assignment) → IsIn shard a → ListedAt instances a.node
  listed_at a m =
      let r = replica_at a m in
      let blank : Instance = record { name = []; group = []; listed = true; drained = false } in
      let at = slice_get-get_or instances r.0 blank r.1 in
      subst (ListedAt instances) (ap (λ (z : Assignment). z.node) (sym r.2)) (get_or instances r.0 blank, at, listed (get_or instances r.0 blank) (at_in instances r.0 (get_or instances r.0 blank) at))

  groups_differ : (r : ℕ) (a : Assignment) → slice_get shard r ≡ Some a → (x : Assignment) → IsIn (take r shard) x → group_of instances x.node ≢ group_of instances a.node
  groups_differ r a at x m =
      let p = placed.each r a at in
      λ e. ((p.1).may).free x m (e ∙ ap (λ (z : Assignment). group_of instances z.node) p.2)

  shard_distinct : Ascends (λ a b. a.node ≢ b.node) shard
  shard_distinct = ascends_by_front (λ (a b : Assignment). a.node ≢ b.node) shard (λ r a at x m e. groups_differ r a at x m (ap (group_of instances) e))

  shard_apart : Ascends (IsApart instances) shard
  shard_apart = ascends_by_front (IsApart instances) shard (λ r a at x m.
      let one = listed_at x (IsIn-take r shard x m) in
      let other = listed_at a (at_in shard r a at) in
      let differ = groups_differ r a at x m in
      record {
        one = one.0;
        other = other.0;
        of_one = one.1;
        of_other = other.1;
        names = names_at instances x.node a.node one.0 other.0 distinct one.1 other.1 (λ e. differ (ap (group_of instances) e));
        groups = λ e. differ (group_is instances x.node one.0 one.1 ∙ e ∙ sym (group_is instances a.node other.0 other.1));
      })

  pub first_spread : IsSpread instances shard
  first_spread = record {
    listed = listed_at;
    before = Ascends-filter (IsApart instances) is_holder shard shard_apart;
    after = Ascends-filter (IsApart instances) is_staying shard shard_apart;
  }

  pub first_shard : IsShard rf 1 shard
  first_shard = record {
    distinct = shard_distinct;
    tenures = λ a m. let r = replica_at a m in omega (arith, ap (λ (z : Assignment). z.tenure) r.2);
    replicas = inl (λ a m. let r = replica_at a m in (ap (λ (z : Assignment). z.state) r.2, ap (λ (z : Assignment). z.source) r.2), placed.all);
  }

  pub first_of_init : IsFirstShard rf instances shard
  first_of_init = record {
    all = placed.all;
    available = λ a m. let r = replica_at a m in (ap (λ (z : Assignment). z.state) r.2, ap (λ (z : Assignment). z.tenure) r.2, ap (λ (z : Assignment). z.source) r.2);
    to_nodes = λ a m. let r = replica_at a m in subst (λ n. n < length instances) (ap (λ (z : Assignment). z.node) (sym r.2)) r.1;
    apart = shard_apart;
  }

-- ---- the placement

module _ (rf shards : ℕ) (nodes : List (List ℕ × List ℕ)) (init : IsInit rf shards 0 nodes) (place : Placement) (plan : IsInitial rf shards nodes place) where
  are_nodes : AreNodes place.instances
  are_nodes = subst AreNodes (sym plan.instances) (first_nodes rf shards nodes init)

  all_listed : (i : Instance) → IsIn place.instances i → i.listed ≡ true
  all_listed = subst (λ (instances : List Instance). (i : Instance) → IsIn instances i → i.listed ≡ true) (sym plan.instances) (first_listed nodes)

  pub initial_lawful : IsLawful place
  initial_lawful = record {
    limits = record {
      some_replicas = omega (arith, init.some_replicas, plan.rf_is);
      few_replicas = omega (arith, init.few_replicas, plan.rf_is);
      some_shards = omega (arith, init.some_shards, plan.count);
      few_shards = omega (arith, init.few_shards, plan.count);
      few_nodes = are_nodes.few;
      named = are_nodes.named;
      distinct = are_nodes.distinct;
      version_fits = omega (arith, plan.version);
    };
    shards = λ shard m.
        let i = in_at place.shards shard m in
        subst (λ v. IsShard place.rf v shard) (sym plan.version) (subst (λ r. IsShard r 1 shard) (sym plan.rf_is)
        (first_shard place.instances are_nodes.distinct all_listed rf (take i.0 place.shards) shard (plan.each i.0 shard i.2)));
    spread = λ shard m.
        let i = in_at place.shards shard m in
        first_spread place.instances are_nodes.distinct all_listed rf (take i.0 place.shards) shard (plan.each i.0 shard i.2);
  }

  pub initial_first : IsFirstPlacement rf shards nodes place
  initial_first = record {
    version_is = plan.version;
    rf_is = plan.rf_is;
    instances_are = plan.instances;
    shards_are = plan.count;
    each_shard = λ shard m.
        let i = in_at place.shards shard m in
        first_of_init place.instances are_nodes.distinct all_listed rf (take i.0 place.shards) shard (plan.each i.0 shard i.2);
  }
