-- Shards that move to a node that is added.
use Rattle.std.proofs.Common.{◌≡◌, ◌⊎◌, ◌<◌, ◌≤◌, ◌+◌, ℕ, zero, suc, List, [], ◌∷◌, ◌++◌, map, length, slice_get, slice_set, slice_index, get_or, Bool, true, false, cond, Option, Some, None, IfSome, IfNone, is_some, ◌↔◌, count_by, refl, sym, ap, subst, inl, inr, ◌∙◌, arith, IsTrue}
use Rattle.std.specs.Cmp.{IsTotalOrder}
use Rattle.std.specs.Cmp.Lexicographic.{slice_cmp}
use Rattle.std.specs.Ordering.{nat_cmp, is_gt, ordering_then}
use Rattle.std.specs.declared.cmp.Ordering.{Ordering}
use Rattle.std.proofs.lemmas.Cmp.{then_total, on_total, back_total, nat_cmp_total, nat_list_cmp_total}
use Rattle.std.proofs.lemmas.List.{length-set}
use Rattle.std.proofs.lemmas.List.Sums.{sum_by-set}
use Rattle.std.proofs.lemmas.Option.{slice_get_within, get_or_from_slice_get}
use Rattle.placement_core.specs.m3_model.Members.{IsIn}
use Rattle.placement_core.specs.m3_model.Names.{is_name}
use Rattle.placement_core.proofs.m3_model_proofs.MemberLemmas.{IsIn-push}
use Rattle.placement_core.specs.m3_model.declared.placement.ShardState.TheVariants.{Leaving}
use Rattle.placement_core.specs.m3_model.declared.placement.Instance.{Instance}
use Rattle.placement_core.specs.m3_model.declared.placement.Placement.{Placement}
use Rattle.placement_core.specs.Shards.{Shard, is_steady}
use Rattle.placement_core.specs.NodeNames.{name_of}
use Rattle.placement_core.specs.Lawful.{IsSteady, IsShard, IsSpread, IsLawful}
use Rattle.placement_core.specs.Steps.{turned, IsStep, IsShardStep}
use Rattle.placement_core.proofs.ListLemmas.{same_at}
use Rattle.placement_core.proofs.StepLemmas.{no_true}
use Rattle.placement_core.proofs.OrderLemmas.{at_in}
use Rattle.placement_plan.specs.Nodes.{IsFirstWhere, load}
use Rattle.placement_plan.specs.Choices.{moved}
use Rattle.placement_plan.specs.Loads.{AreLoads, IsShifted}
use Rattle.placement_plan.specs.Plans.{MakesAll, Follows}
use Rattle.placement_plan.specs.Additions.{MayMove, MayGiveShard, IsGiver, IsNextMove, Rebalances, IsAddition, after_move, giving_cmp}
use Rattle.placement_plan.proofs.SpreadLemmas.{joining_at, moved_spread}
use Rattle.placement_plan.proofs.ShardLemmas.{joining_moves, steady_of, moved_step}
use Rattle.placement_plan.proofs.PlanLemmas.{lawful_nodes, set_cases, follows_step, follows_lawful, none_done}
use Rattle.placement_plan.proofs.JoinLemmas.{HaveJoined, have_joined}
use Rattle.placement_plan.proofs.ReplaceLemmas.{spread_joined}
use Rattle.placement_plan.proofs.ChoiceLemmas.{BestBelow}
use Rattle.placement_plan.proofs.LoadLemmas.{loads_shifted}

-- ---- the order in which nodes give

pub giving_total : (instances : List Instance) (load_at : ℕ → ℕ) → IsTotalOrder (giving_cmp instances load_at)
giving_total instances load_at = then_total (on_total load_at (back_total nat_cmp_total)) (on_total (name_of instances) nat_list_cmp_total)

abbrev cmp_by : List Instance → ℕ → ℕ → ℕ → ℕ → Ordering
cmp_by instances x y a b = ordering_then (nat_cmp y x) (slice_cmp nat_cmp (name_of instances a) (name_of instances b))

cmp_same : (instances : List Instance) (f g : ℕ → ℕ) (a b : ℕ) → f a ≡ g a → f b ≡ g b → is_gt (giving_cmp instances f a b) ≡ false → is_gt (giving_cmp instances g a b) ≡ false
cmp_same instances f g a b ea eb h = subst (λ x. is_gt (cmp_by instances x (g b) a b) ≡ false) ea (subst (λ y. is_gt (cmp_by instances (f a) y a b) ≡ false) eb h)

pub giver_found : (load_at : ℕ → ℕ) (instances : List Instance) (shards : List Shard) (to n : ℕ) (best : Option ℕ) → length instances ≤ n → BestBelow (giving_cmp instances load_at) (MayGiveShard load_at instances shards to) n best → IfSome best (IsGiver load_at instances shards to)
giver_found load_at instances shards to n None ge h = tt
giver_found load_at instances shards to n (Some b) ge h = record { may = h.may; first = λ other may. h.least other (omega (arith, may.within, ge)) may }

pub give_same : (f g : ℕ → ℕ) (instances : List Instance) (shards : List Shard) (to from : ℕ) → to < length instances → ((n : ℕ) → n < length instances → f n ≡ g n) → MayGiveShard f instances shards to from → MayGiveShard g instances shards to from
give_same f g instances shards to from lt same h = record { within = h.within; heavy = omega (arith, h.heavy, same to lt, same from h.within); number = h.number; shard = h.shard; stands = h.stands; moves = h.moves }

-- whether the node may give, by what a search for its first shard finds
pub give_by : (load_at : ℕ → ℕ) (instances : List Instance) (shards : List Shard) (to from : ℕ) (o : Option ℕ) (test : Bool) → test ≡ is_some o → from < length instances → load_at to + 2 ≤ load_at from
    → IfSome o (IsFirstWhere (MayMove instances from to) shards) → IfNone o ((shard : Shard) → IsIn shards shard → ¬ MayMove instances from to shard) → IsTrue test ↔ MayGiveShard load_at instances shards to from
give_by load_at instances shards to from None test e within heavy found none = (λ t. absurd (no_true test e t), λ may. absurd (none may.shard (at_in shards may.number may.shard may.stands) may.moves))
give_by load_at instances shards to from (Some n) test e within heavy found none = (λ t. record { within = within; heavy = heavy; number = n; shard = found.shard; stands = found.stands; moves = found.holds }, λ may. e)

pub next_same : (f g : ℕ → ℕ) (instances : List Instance) (shards : List Shard) (to number from : ℕ) → to < length instances → ((n : ℕ) → n < length instances → f n ≡ g n) → IsNextMove f instances shards to number from → IsNextMove g instances shards to number from
next_same f g instances shards to number from lt same h =
    let giver = h.giver in
    record {
      giver = record {
        may = give_same f g instances shards to from lt same giver.may;
        first = λ other may.
            cmp_same instances f g from other (same from (giver.may).within) (same other may.within) (giver.first other (give_same g f instances shards to other lt (λ n k. sym (same n k)) may));
      };
      shard = h.shard;
    }

-- ---- one element of a list

-- the list around an element, also where another one stands for it
around : {X : Type 0} (xs : List X) (n : ℕ) (a : X) → slice_get xs n ≡ Some a → (before : List X) × ((after : List X) × (xs ≡ before ++ a ∷ after) × ((b : X) → slice_set xs n b ≡ before ++ b ∷ after))
around [] n a e = cc
around (x ∷ xs) zero a e = let same : x ≡ a = cc in ([], (xs, ap (λ z. z ∷ xs) same, λ b. refl))
around (x ∷ xs) (suc n) a e = let h = around xs n a e in (x ∷ h.0, (h.1.0, ap (λ z. x ∷ z) h.1.1, λ b. ap (λ z. x ∷ z) (h.1.2 b)))

moved_unsteady : (version from to : ℕ) (shard : Shard) → is_steady (moved version from to shard) ≡ false
moved_unsteady version from to shard = joining_moves (moved version from to shard) (joining_at version from to) (IsIn-push (map (turned from Leaving) shard) (joining_at version from to)) refl

-- ---- moves one after the other

-- what is so between two moves: steady shards are those of the start, and whatever follows from here follows from the start
pub record BalancedBelow (instances : List Instance) (version to : ℕ) (old current : List Shard) (table : List ℕ) : Type 0 where
  pub count : length current ≡ length old
  pub loads : AreLoads (length instances) current table
  pub steady : (s : ℕ) (shard : Shard) → slice_get current s ≡ Some shard → is_steady shard ≡ true → IsSteady shard
  pub extends : (moves : List (ℕ × ℕ)) (next : List Shard) → Rebalances instances version to moves current next → (all : List (ℕ × ℕ)) × Rebalances instances version to all old next

pub balanced_none : (instances : List Instance) (version to : ℕ) (old : List Shard) (table : List ℕ) → ((shard : Shard) → IsIn old shard → (rf : ℕ) × ((v : ℕ) × IsShard rf v shard)) → AreLoads (length instances) old table → BalancedBelow instances version to old old table
balanced_none instances version to old table replicas loads = record {
  count = refl;
  loads = loads;
  steady = λ s shard at e. let r = replicas shard (at_in old s shard at) in steady_of r.0 r.1.0 shard r.1.1 e;
  extends = λ moves next h. (moves, h);
}

pub balanced_more : (instances : List Instance) (version to : ℕ) (old current : List Shard) (table later : List ℕ) (number from : ℕ) (a : Shard) → to < length instances → slice_get current number ≡ Some a → IsNextMove (slice_index table) instances current to number from
    → IsShifted table later from to → BalancedBelow instances version to old current table → BalancedBelow instances version to old (slice_set current number (moved version from to a)) later
balanced_more instances version to old current table later number from a lt at next shifted below =
    let b = moved version from to a in
    let first = next.shard in
    let a_is : first.shard ≡ a = same_at current number first.shard a first.stands at in
    let moves : MayMove instances from to a = subst (MayMove instances from to) a_is first.holds in
    let parts = around current number a at in
    let here = next_same (slice_index table) (λ n. load n current) instances current to number from lt (below.loads).each next in
    let set_is : after_move version to (number, from) current ≡ slice_set current number b = ap (λ s. slice_set current number (moved version from to s)) (get_or_from_slice_get current number a [] at) in
    record {
      count = length-set current number b ∙ below.count;
      loads = subst (λ shards. AreLoads (length instances) shards later) (sym (parts.1.2 b))
          (loads_shifted (length instances) version from to table later a (below.steady number a at moves.steady) moves.has (moves.takes).lacks shifted parts.0 parts.1.0 (subst (λ shards. AreLoads (length instances) shards table) parts.1.1 below.loads));
      steady = λ s shard is e. elim (set_cases current number b s shard is) as (λ _. IsSteady shard) [
        | inl h ↦ let clash : true ≡ false = sym e ∙ ap is_steady h.1 ∙ moved_unsteady version from to a in cc
        | inr h ↦ below.steady s shard h.1 e
      ];
      extends = λ rest final h. below.extends ((number, from) ∷ rest) final (here, subst (λ shards. Rebalances instances version to rest shards final) (sym set_is) h);
    }

pub balanced_done : (instances : List Instance) (version to : ℕ) (old current : List Shard) (table : List ℕ) → to < length instances → ((from : ℕ) → ¬ MayGiveShard (slice_index table) instances current to from) → BalancedBelow instances version to old current table
    → (moves : List (ℕ × ℕ)) × Rebalances instances version to moves old current
balanced_done instances version to old current table lt none below =
    below.extends [] current (refl, λ from may. none from (give_same (λ n. load n current) (slice_index table) instances current to from lt (λ n k. sym ((below.loads).each n k)) may))

-- fewer shards are steady after a move
pub fewer_steady : (version from to : ℕ) (current : List Shard) (number : ℕ) (a : Shard) → slice_get current number ≡ Some a → is_steady a ≡ true → count_by is_steady (slice_set current number (moved version from to a)) < count_by is_steady current
fewer_steady version from to current number a at steady =
    let weight : Shard → ℕ = λ s. cond (is_steady s) 1 0 in
    let was : weight (get_or current number a) ≡ 1 = ap weight (get_or_from_slice_get current number a a at) ∙ ap (λ b. cond b 1 0) steady in
    let is : weight (moved version from to a) ≡ 0 = ap (λ b. cond b 1 0) (moved_unsteady version from to a) in
    omega (arith, sum_by-set weight current number (moved version from to a) a (slice_get_within current number a at), was, is)

-- ---- the placement

-- the shard stays, or moved from one node to the one that was added
abbrev pub MovedOnce : List Instance → ℕ → ℕ → Shard → Shard → Type 0
MovedOnce instances version to a b = (b ≡ a) ⊎ ((from : ℕ) × MayMove instances from to a × (b ≡ moved version from to a))

moved_made : (instances : List Instance) (version to : ℕ) (old current : List Shard) (number from : ℕ) (load_at : ℕ → ℕ) → IsNextMove load_at instances current to number from → MakesAll (λ s. MovedOnce instances version to) old current
    → MakesAll (λ s. MovedOnce instances version to) old (after_move version to (number, from) current)
moved_made instances version to old current number from load_at next made =
    let first = next.shard in
    let set_is : after_move version to (number, from) current ≡ slice_set current number (moved version from to first.shard) = ap (λ s. slice_set current number (moved version from to s)) (get_or_from_slice_get current number first.shard [] first.stands) in
    subst (MakesAll (λ s. MovedOnce instances version to) old) (sym set_is) (record {
      count = length-set current number (moved version from to first.shard) ∙ made.count;
      each = λ s a b ea eb. elim (set_cases current number (moved version from to first.shard) s b eb) as (λ _. MovedOnce instances version to a b) [
        | inl h ↦ elim (made.each number a first.shard (ap (slice_get old) (sym h.0) ∙ ea) first.stands) as (λ _. MovedOnce instances version to a b) [
          | inl e ↦ inr (from, subst (MayMove instances from to) e first.holds, h.1 ∙ ap (moved version from to) e)
          | inr k ↦ let clash : true ≡ false = sym ((first.holds).steady) ∙ ap is_steady k.2 ∙ moved_unsteady version k.0 to a in cc
        ]
        | inr h ↦ made.each s a b ea h.1
      ];
    })

rebalances_made : (instances : List Instance) (version to : ℕ) (moves : List (ℕ × ℕ)) (old current next : List Shard) → MakesAll (λ s. MovedOnce instances version to) old current → Rebalances instances version to moves current next → MakesAll (λ s. MovedOnce instances version to) old next
rebalances_made instances version to [] old current next made h = subst (MakesAll (λ s. MovedOnce instances version to) old) (sym h.0) made
rebalances_made instances version to (m ∷ moves) old current next made h =
    rebalances_made instances version to moves old (after_move version to m current) next (moved_made instances version to old current m.0 m.1 (λ n. load n current) h.0 made) h.1

module _ (old next : Placement) (name group : List ℕ) (lawful : IsLawful old) (named : IsTrue (is_name name)) (grouped : IsTrue (is_name group)) (plan : IsAddition old name group next) where
  joined : HaveJoined old.instances name group next.instances plan.node
  joined = have_joined old.instances name group plan.node (lawful_nodes old lawful) named grouped plan.is_new next.instances plan.room plan.joins

  abbrev Made : ℕ → Shard → Shard → Type 0
  Made s = MovedOnce next.instances next.version plan.node

  follows : Follows old next Made
  follows = record {
    version = plan.version;
    version_fits = plan.version_fits;
    rf = plan.rf;
    shards = rebalances_made next.instances next.version plan.node plan.moves old.shards old.shards next.shards (record { count = refl; each = λ s a b ea eb. inl (same_at old.shards s b a eb ea) }) plan.rebalances;
  }

  step_of : (s : ℕ) (a b : Shard) → slice_get old.shards s ≡ Some a → Made s a b → IsShardStep next.version a b None
  step_of s a b at made = elim made as (λ _. IsShardStep next.version a b None) [
    | inl e ↦ inl e
    | inr h ↦
        let m = at_in old.shards s a at in
        subst (λ x. IsShardStep next.version a x None) (sym h.2) (moved_step next.version h.0 plan.node a (steady_of old.rf old.version a (lawful.shards a m) (h.1).steady) (h.1).has ((h.1).takes).lacks)
  ]

  spread_of : (s : ℕ) (a b : Shard) → slice_get old.shards s ≡ Some a → Made s a b → IsSpread next.instances b
  spread_of s a b at made =
      let m = at_in old.shards s a at in
      let spread = spread_joined old.instances name group next.instances plan.node a joined (lawful.spread a m) in
      elim made as (λ _. IsSpread next.instances b) [
        | inl e ↦ subst (IsSpread next.instances) (sym e) spread
        | inr h ↦ subst (IsSpread next.instances) (sym h.2) (moved_spread next.version next.instances h.0 plan.node a (joined.nodes).distinct (steady_of old.rf old.version a (lawful.shards a m) (h.1).steady) spread (h.1).takes)
      ]

  pub addition_step : IsStep old next []
  addition_step = follows_step old next [] Made follows joined.names (none_done (length old.shards)) step_of

  pub addition_lawful : IsLawful next
  addition_lawful = follows_lawful old next Made lawful follows joined.nodes (λ s a b at made. ((None, step_of s a b at made), spread_of s a b at made))
