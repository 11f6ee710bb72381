-- Placements that follow are steps, and placements.
use Rattle.std.proofs.Common.{◌≡◌, ◌≢◌, ◌≤◌, ℕ, zero, suc, List, [], ◌∷◌, length, get_or, slice_get, slice_set, Option, Some, None, MatchOption, false, refl, sym, ap, subst, inl, inr, ◌∙◌, ◌⊎◌, IsTrue, arith}
use Rattle.std.proofs.lemmas.List.{length-set}
use Rattle.std.proofs.lemmas.Option.{get_or_from_slice_get, slice_get-get_or}
use Rattle.placement_core.specs.m3_model.Ascends.{Ascends}
use Rattle.placement_core.specs.m3_model.Members.{IsIn}
use Rattle.placement_core.specs.m3_model.Names.{is_name}
use Rattle.placement_core.proofs.m3_model_proofs.MemberLemmas.{map-IsIn}
use Rattle.placement_core.specs.m3_model.declared.placement.Assignment.{Assignment}
use Rattle.placement_core.specs.m3_model.declared.placement.Instance.{Instance}
use Rattle.placement_core.specs.m3_model.declared.placement.Placement.{Placement}
use Rattle.placement_core.specs.m3_model.declared.limits.TheConstants.{MOST_NODES}
use Rattle.placement_core.specs.Shards.{Shard}
use Rattle.placement_core.specs.Lawful.{IsSpread, IsShard, IsLawful}
use Rattle.placement_core.specs.Steps.{KeepsNames, IsDoneList, IsShardStep, IsStep, Ends, done_at}
use Rattle.placement_core.proofs.ListLemmas.{same_at}
use Rattle.placement_core.proofs.OrderLemmas.{ascends-from_at, ascends-at, at_in}
use Rattle.placement_core.proofs.ChangeLemmas.{step_shard}
use Rattle.placement_plan.specs.Nodes.{Has}
use Rattle.placement_plan.specs.Plans.{MakesAll, Follows, EndsAsNamed, IsAvailable, CancelsJoining, IsFreed, GivesTo, IsCancel, IsRemoval}
use Rattle.placement_plan.proofs.PlaceLemmas.{in_at}
use Rattle.placement_plan.proofs.SpreadLemmas.{IsKept, spread_kept, end_spread, cancel_spread}

-- ---- steps

pub follows_step : (old next : Placement) (done : List (ℕ × ℕ)) (Made : ℕ → Shard → Shard → Type 0) → Follows old next Made → KeepsNames old.instances next.instances → IsDoneList (length old.shards) done
    → ((s : ℕ) (a b : Shard) → slice_get old.shards s ≡ Some a → Made s a b → IsShardStep next.version a b (done_at s done)) → IsStep old next done
follows_step old next done Made follows names listed each = record {
  version = follows.version;
  rf = follows.rf;
  names = names;
  count = (follows.shards).count;
  listed = listed;
  each = λ s a b ea eb. each s a b ea ((follows.shards).each s a b ea eb);
}

pub none_done : (shards : ℕ) → IsDoneList shards []
none_done shards = record { ascending = tt; within = λ d m. absurd m }

-- ---- nodes

-- few nodes with names of their own
pub record AreNodes (nodes : List Instance) : Type 0 where
  pub few : length nodes ≤ MOST_NODES
  pub named : (node : Instance) → IsIn nodes node → IsTrue (is_name node.name) × IsTrue (is_name node.group)
  pub distinct : Ascends (λ a b. a.name ≢ b.name) nodes

-- as many nodes, with the names and groups that they had
pub record AreAlike (old next : List Instance) : Type 0 where
  pub count : length next ≡ length old
  pub each : (n : ℕ) (a b : Instance) → slice_get old n ≡ Some a → slice_get next n ≡ Some b → (b.name ≡ a.name) × (b.group ≡ a.group)

pub lawful_nodes : (place : Placement) → IsLawful place → AreNodes place.instances
lawful_nodes place h = record { few = (h.limits).few_nodes; named = (h.limits).named; distinct = (h.limits).distinct }

-- a list that is as long has an element at each position of the other
pub beside : {X Y : Type 0} (xs : List X) (ys : List Y) (n : ℕ) (x : X) → length ys ≡ length xs → slice_get xs n ≡ Some x → (y : Y) × (slice_get ys n ≡ Some y)
beside [] ys n x e at = cc
beside (z ∷ zs) [] n x e at = absurd (omega (arith, e))
beside (z ∷ zs) (w ∷ ws) zero x e at = (w, refl)
beside (z ∷ zs) (w ∷ ws) (suc n) x e at = beside zs ws n x (omega (arith, e)) at

pub alike_names : (old next : List Instance) → AreAlike old next → KeepsNames old next
alike_names old next alike n was at = let b = beside old next n was alike.count at in (b.0, b.1, (alike.each n was b.0 at b.1).0)

-- nodes that keep names that differ
pub distinct_same : (old next : List Instance) → length next ≡ length old → ((n : ℕ) (a b : Instance) → slice_get old n ≡ Some a → slice_get next n ≡ Some b → b.name ≡ a.name) → Ascends (λ a b. a.name ≢ b.name) old → Ascends (λ a b. a.name ≢ b.name) next
distinct_same old next count same distinct =
    ascends-from_at (λ (a b : Instance). a.name ≢ b.name) next (λ i j d lt within.
    let at_i = slice_get-get_or next i d (omega (arith, lt, within)) in
    let at_j = slice_get-get_or next j d within in
    let a = beside next old i (get_or next i d) (sym count) at_i in
    let b = beside next old j (get_or next j d) (sym count) at_j in
    λ e. ascends-at (λ (x y : Instance). x.name ≢ y.name) old i j d distinct lt (omega (arith, within, count))
    (ap (λ (z : Instance). z.name) (get_or_from_slice_get old i a.0 d a.1) ∙ sym (same i a.0 (get_or next i d) a.1 at_i) ∙ e ∙ same j b.0 (get_or next j d) b.1 at_j ∙ sym (ap (λ (z : Instance). z.name) (get_or_from_slice_get old j b.0 d b.1))))

pub alike_nodes : (old next : List Instance) → AreAlike old next → AreNodes old → AreNodes next
alike_nodes old next alike nodes = record {
  few = omega (arith, alike.count, nodes.few);
  named = λ b m.
      let i = in_at next b m in
      let a = beside next old i.0 b (sym alike.count) i.2 in
      let same = alike.each i.0 a.0 b a.1 i.2 in
      let named = nodes.named a.0 (at_in old i.0 a.0 a.1) in
      (subst (λ x. IsTrue (is_name x)) (sym same.0) named.0, subst (λ x. IsTrue (is_name x)) (sym same.1) named.1);
  distinct = distinct_same old next alike.count (λ n a b ea eb. (alike.each n a b ea eb).0) nodes.distinct;
}

-- ---- placements

-- the shard steps, and is spread over the new nodes
abbrev pub Goes : Placement → Shard → Shard → Type 0
Goes next a b = ((done : Option ℕ) × IsShardStep next.version a b done) × IsSpread next.instances b

pub follows_lawful : (old next : Placement) (Made : ℕ → Shard → Shard → Type 0) → IsLawful old → Follows old next Made → AreNodes next.instances → ((s : ℕ) (a b : Shard) → slice_get old.shards s ≡ Some a → Made s a b → Goes next a b) → IsLawful next
follows_lawful old next Made lawful follows nodes each = record {
  limits = record {
    some_replicas = omega (arith, (lawful.limits).some_replicas, follows.rf);
    few_replicas = omega (arith, (lawful.limits).few_replicas, follows.rf);
    some_shards = omega (arith, (lawful.limits).some_shards, (follows.shards).count);
    few_shards = omega (arith, (lawful.limits).few_shards, (follows.shards).count);
    few_nodes = nodes.few;
    named = nodes.named;
    distinct = nodes.distinct;
    version_fits = follows.version_fits;
  };
  shards = λ b m.
      let f = from b m in
      subst (λ r. IsShard r next.version b) (sym follows.rf) (subst (λ v. IsShard old.rf v b) (sym follows.version)
      (step_shard old.rf old.version f.0 b (f.2).0.0 (lawful.shards f.0 f.1) (subst (λ v. IsShardStep v f.0 b (f.2).0.0) follows.version (f.2).0.1)));
  spread = λ b m. let f = from b m in (f.2).1;
}
  where
    from : (b : Shard) → IsIn next.shards b → (a : Shard) × IsIn old.shards a × Goes next a b
    from b m =
        let i = in_at next.shards b m in
        let a = beside next.shards old.shards i.0 b (sym (follows.shards).count) i.2 in
        (a.0, at_in old.shards i.0 a.0 a.1, each i.0 a.0 b a.1 ((follows.shards).each i.0 a.0 b a.1 i.2))

pub kept_by : (old next : List Instance) (n : ℕ) (i : Instance) → AreAlike old next → slice_get old n ≡ Some i → ((j : Instance) → slice_get next n ≡ Some j → j.listed ≡ i.listed) → IsKept old next n
kept_by old next n i alike at listed =
    let j = beside old next n i alike.count at in
    let same = alike.each n i j.0 at j.1 in
    record { was = i; is = j.0; at_old = at; at_next = j.1; name = same.0; group = same.1; listed = listed j.0 j.1 }

-- ---- nodes of which one changes

pub set_cases : {X : Type 0} (xs : List X) (n : ℕ) (y : X) (k : ℕ) (x : X) → slice_get (slice_set xs n y) k ≡ Some x → ((k ≡ n) × (x ≡ y)) ⊎ ((k ≢ n) × (slice_get xs k ≡ Some x))
set_cases [] n y k x e = cc
set_cases (z ∷ zs) zero y zero x e = inl (refl, cc)
set_cases (z ∷ zs) zero y (suc k) x e = inr (λ f. absurd (omega (arith, f)), e)
set_cases (z ∷ zs) (suc n) y zero x e = inr (λ f. absurd (omega (arith, f)), e)
set_cases (z ∷ zs) (suc n) y (suc k) x e =
    elim (set_cases zs n y k x e) as (λ _. ((suc k ≡ suc n) × (x ≡ y)) ⊎ ((suc k ≢ suc n) × (slice_get zs k ≡ Some x))) [ inl h ↦ inl (ap suc h.0, h.1) | inr h ↦ inr (λ f. h.0 (omega (arith, f)), h.1) ]

pub alike_set : (old : List Instance) (n : ℕ) (i j : Instance) → slice_get old n ≡ Some i → j.name ≡ i.name → j.group ≡ i.group → AreAlike old (slice_set old n j)
alike_set old n i j at name group = record {
  count = length-set old n j;
  each = λ k a b ea eb. elim (set_cases old n j k b eb) as (λ _. (b.name ≡ a.name) × (b.group ≡ a.group)) [
    | inl h ↦
        let same : i ≡ a = same_at old n i a at (ap (slice_get old) (sym h.0) ∙ ea) in
        (ap (λ (z : Instance). z.name) h.1 ∙ name ∙ ap (λ (z : Instance). z.name) same, ap (λ (z : Instance). z.group) h.1 ∙ group ∙ ap (λ (z : Instance). z.group) same)
    | inr h ↦
        let same : b ≡ a = same_at old k b a h.1 ea in
        (ap (λ (z : Instance). z.name) same, ap (λ (z : Instance). z.group) same)
  ];
}

-- ---- moves that end

ends_step : (version : ℕ) (a b : Shard) (named : Option ℕ) → MatchOption named (b ≡ a) (λ to. Ends a b to) → IsShardStep version a b named
ends_step version a b None h = inl h
ends_step version a b (Some to) h = h

pub available_step : (old next : Placement) (done : List (ℕ × ℕ)) → IsAvailable old done next → IsDoneList (length old.shards) done → IsStep old next done
available_step old next done plan listed =
    follows_step old next done (EndsAsNamed done) plan.follows (subst (KeepsNames old.instances) (sym plan.instances) (λ n was at. (was, at, refl))) listed (λ s a b at made. ends_step next.version a b (done_at s done) made)

ends_spread : (rf version : ℕ) (nodes : List Instance) (a b : Shard) (named : Option ℕ) → IsShard rf version a → IsSpread nodes a → MatchOption named (b ≡ a) (λ to. Ends a b to) → IsSpread nodes b
ends_spread rf version nodes a b None shard spread h = subst (IsSpread nodes) (sym h) spread
ends_spread rf version nodes a b (Some to) shard spread h = subst (IsSpread nodes) (sym (h.2).next_is) (end_spread rf version nodes a h.0 (h.2).from to shard spread h.1 (h.2).joins)

pub available_lawful : (old next : Placement) (done : List (ℕ × ℕ)) → IsLawful old → IsAvailable old done next → IsLawful next
available_lawful old next done lawful plan =
    follows_lawful old next (EndsAsNamed done) lawful plan.follows (subst AreNodes (sym plan.instances) (lawful_nodes old lawful)) (λ s a b at made. (
      (done_at s done, ends_step next.version a b (done_at s done) made),
      subst (λ nodes. IsSpread nodes b) (sym plan.instances) (ends_spread old.rf old.version old.instances a b (done_at s done) (lawful.shards a (at_in old.shards s a at)) (lawful.spread a (at_in old.shards s a at)) made),
    ))

freed_same : (Freed : ℕ → Type 0) (n : ℕ) (a b : Instance) → IsFreed Freed n a b → (b.name ≡ a.name) × (b.group ≡ a.group) × (b.listed ≡ a.listed)
freed_same Freed n a b h = elim h as (λ _. (b.name ≡ a.name) × (b.group ≡ a.group) × (b.listed ≡ a.listed)) [
  | inl f ↦ (ap (λ (z : Instance). z.name) f.1, ap (λ (z : Instance). z.group) f.1, ap (λ (z : Instance). z.listed) f.1)
  | inr f ↦ (ap (λ (z : Instance). z.name) f.1, ap (λ (z : Instance). z.group) f.1, ap (λ (z : Instance). z.listed) f.1)
]

freed_alike : (Freed : ℕ → Type 0) (old next : List Instance) → MakesAll (IsFreed Freed) old next → AreAlike old next
freed_alike Freed old next made = record { count = made.count; each = λ n a b ea eb. let same = freed_same Freed n a b (made.each n a b ea eb) in (same.0, same.1) }

cancels_step : (version node : ℕ) (a b : Shard) → CancelsJoining node a b → IsShardStep version a b None
cancels_step version node a b h = elim h as (λ _. IsShardStep version a b None) [ inl k ↦ inr (inr ((k.1).0, (k.1).1, (k.1).3)) | inr k ↦ inl k.1 ]

cancels_spread : (rf version : ℕ) (nodes : List Instance) (node : ℕ) (a b : Shard) → IsShard rf version a → IsSpread nodes a → CancelsJoining node a b → IsSpread nodes b
cancels_spread rf version nodes node a b shard spread h = elim h as (λ _. IsSpread nodes b) [
  | inl k ↦ let c = (k.1).3 in subst (IsSpread nodes) (sym c.next_is) (cancel_spread rf version nodes a (k.1).0 c.from shard spread (k.1).1 (c.joins).0)
  | inr k ↦ subst (IsSpread nodes) (sym k.1) spread
]

-- a shard is spread over nodes that keep names, groups and whether they are listed
pub spread_alike : (old next : List Instance) (shard : Shard) → AreAlike old next → ((n : ℕ) (i j : Instance) → Has n shard → slice_get old n ≡ Some i → slice_get next n ≡ Some j → j.listed ≡ i.listed) → IsSpread old shard → IsSpread next shard
spread_alike old next shard alike listed spread = spread_kept old next shard (λ x m. let l = spread.listed x m in kept_by old next x.node l.0 alike l.1 (λ j at. listed x.node l.0 j (map-IsIn (λ (z : Assignment). z.node) shard x m) l.1 at)) spread

pub cancel_step : (old next : Placement) (name : List ℕ) → IsCancel old name next → IsStep old next []
cancel_step old next name plan =
    follows_step old next [] (λ s. CancelsJoining plan.node) plan.follows (alike_names old.instances next.instances (freed_alike (GivesTo old.shards plan.node) old.instances next.instances plan.instances)) (none_done (length old.shards))
    (λ s a b at made. cancels_step next.version plan.node a b made)

pub cancel_lawful : (old next : Placement) (name : List ℕ) → IsLawful old → IsCancel old name next → IsLawful next
cancel_lawful old next name lawful plan =
    let Freed = GivesTo old.shards plan.node in
    let alike = freed_alike Freed old.instances next.instances plan.instances in
    follows_lawful old next (λ s. CancelsJoining plan.node) lawful plan.follows (alike_nodes old.instances next.instances alike (lawful_nodes old lawful)) (λ s a b at made. (
      (None, cancels_step next.version plan.node a b made),
      spread_alike old.instances next.instances b alike (λ n i j used ei ej. (freed_same Freed n i j ((plan.instances).each n i j ei ej)).2)
          (cancels_spread old.rf old.version old.instances plan.node a b (lawful.shards a (at_in old.shards s a at)) (lawful.spread a (at_in old.shards s a at)) made),
    ))

-- ---- nodes that go

pub same_shards : (old next : List Shard) → next ≡ old → MakesAll (λ s a b. b ≡ a) old next
same_shards old next e = record { count = ap length e; each = λ k a b ea eb. same_at old k b a (ap (λ xs. slice_get xs k) (sym e) ∙ eb) ea }

removal_alike : (old next : Placement) (name : List ℕ) → (plan : IsRemoval old name next) → AreAlike old.instances next.instances
removal_alike old next name plan = subst (AreAlike old.instances) (sym plan.instances) (alike_set old.instances plan.node (plan.lists).instance (record (plan.lists).instance { listed = false }) (plan.lists).stands refl refl)

pub removal_step : (old next : Placement) (name : List ℕ) → IsRemoval old name next → IsStep old next []
removal_step old next name plan =
    follows_step old next [] (λ s a b. b ≡ a) plan.follows (alike_names old.instances next.instances (removal_alike old next name plan)) (none_done (length old.shards)) (λ s a b at made. inl made)

pub removal_lawful : (old next : Placement) (name : List ℕ) → IsLawful old → IsRemoval old name next → IsLawful next
removal_lawful old next name lawful plan =
    let alike = removal_alike old next name plan in
    follows_lawful old next (λ s a b. b ≡ a) lawful plan.follows (alike_nodes old.instances next.instances alike (lawful_nodes old lawful)) (λ s a b at made. (
      (None, inl made),
      subst (IsSpread next.instances) (sym made) (spread_alike old.instances next.instances a alike
          (λ n i j used ei ej. elim (set_cases old.instances plan.node (record (plan.lists).instance { listed = false }) n j (ap (λ nodes. slice_get nodes n) (sym plan.instances) ∙ ej)) as (λ _. j.listed ≡ i.listed) [
            | inl h ↦ absurd (plan.idle a (at_in old.shards s a at) (subst (λ k. Has k a) h.0 used))
            | inr h ↦ ap (λ (z : Instance). z.listed) (same_at old.instances n j i h.1 ei)
          ]) (lawful.spread a (at_in old.shards s a at))),
    ))
