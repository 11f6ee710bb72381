-- Isolation groups of a shard that steps, and of one whose nodes change.
use Rattle.std.proofs.Common.{◌≡◌, ◌≢◌, ℕ, List, [], ◌∷◌, map, filter, Bool, true, false, cond, not, nat_eq, slice_get, Some, refl, sym, ap, subst, inl, inr, ◌∙◌}
use Rattle.std.specs.Option.{option_map_or}
use Rattle.std.proofs.lemmas.Bool.{cases_eq, eq-eqb}
use Rattle.std.proofs.lemmas.List.{append-nil}
use Rattle.std.proofs.lemmas.List.Elements.{filter-append}
use Rattle.placement_core.specs.m3_model.Ascends.{Ascends}
use Rattle.placement_core.specs.m3_model.Members.{IsIn}
use Rattle.placement_core.specs.Lawful.{IsApart, IsJoiningFrom, IsSteady, IsShard, IsSpread}
use Rattle.placement_core.proofs.m3_model_proofs.MemberLemmas.{IsIn-map, map-IsIn, IsIn-append_cases}
use Rattle.placement_core.proofs.m3_model_proofs.Lists.{IsIn-filter, IsIn-filter_passes, filter-IsIn}
use Rattle.placement_core.proofs.m3_model_proofs.Ascending.{Ascends-filter, Ascends-push}
use Rattle.placement_core.specs.m3_model.declared.placement.ShardState.{ShardState}
use Rattle.placement_core.specs.m3_model.declared.placement.ShardState.TheVariants.{Initializing, Available, Leaving}
use Rattle.placement_core.specs.m3_model.declared.placement.Assignment.{Assignment}
use Rattle.placement_core.specs.m3_model.declared.placement.Instance.{Instance}
use Rattle.placement_core.specs.Shards.{Shard, holds, stays, is_holder, is_staying}
use Rattle.placement_core.specs.Steps.{turned, without, settled}
use Rattle.placement_core.proofs.ListLemmas.{filter_all}
use Rattle.placement_core.proofs.OrderLemmas.{ascends-map, names_at}
use Rattle.placement_core.proofs.HolderLemmas.{holds_of, same_node, the_joining, is_moving}
use Rattle.placement_core.proofs.ChangeLemmas.{turned_cases, turned_node, settled_was}
use Rattle.isolation_groups.specs.Groups.{group_of}
use Rattle.placement_plan.specs.Choices.{MayTake, moved}

-- ---- lists in order

pub ascends_in : {X : Type 0} (R S : X → X → Type 0) (xs : List X) → ((x y : X) → IsIn xs x → IsIn xs y → R x y → S x y) → Ascends R xs → Ascends S xs
ascends_in R S [] f h = tt
ascends_in R S (x ∷ xs) f h = (λ y m. f x y (inl refl) (inr m) (h.0 y m), ascends_in R S xs (λ y z my mz. f y z (inr my) (inr mz)) h.1)

fewer_by : {X : Type 0} (R : X → X → Type 0) (p q : X → Bool) (y : X) (ys : List X) (b c : Bool) → (c ≡ true → b ≡ true) → (Ascends R (filter p ys) → Ascends R (filter q ys)) → ((x : X) → IsIn (filter q ys) x → IsIn (filter p ys) x)
    → Ascends R (cond b (y ∷ filter p ys) (filter p ys)) → Ascends R (cond c (y ∷ filter q ys) (filter q ys))
fewer_by R p q y ys true true on rest was h = (λ z m. h.0 z (was z m), rest h.1)
fewer_by R p q y ys true false on rest was h = rest h.1
fewer_by R p q y ys false true on rest was h = let clash : false ≡ true = on refl in cc
fewer_by R p q y ys false false on rest was h = rest h

-- what stands in order among more stands so among fewer
pub ascends_fewer : {X : Type 0} (R : X → X → Type 0) (p q : X → Bool) (xs : List X) → ((x : X) → IsIn xs x → q x ≡ true → p x ≡ true) → Ascends R (filter p xs) → Ascends R (filter q xs)
ascends_fewer R p q [] f h = tt
ascends_fewer R p q (y ∷ ys) f h =
    fewer_by R p q y ys (p y) (q y) (f y (inl refl)) (ascends_fewer R p q ys (λ x m. f x (inr m)))
    (λ x m. filter-IsIn p ys x (IsIn-filter q ys x m) (f x (inr (IsIn-filter q ys x m)) (IsIn-filter_passes q ys x m))) h

-- ---- assignments to nodes that are apart

apart_nodes : (nodes : List Instance) (a b x y : Assignment) → x.node ≡ a.node → y.node ≡ b.node → IsApart nodes a b → IsApart nodes x y
apart_nodes nodes a b x y ex ey h = record { one = h.one; other = h.other; of_one = ap (slice_get nodes) ex ∙ h.of_one; of_other = ap (slice_get nodes) ey ∙ h.of_other; names = h.names; groups = h.groups }

apart_turned : (nodes : List Instance) (n : ℕ) (st : ShardState) (xs : Shard) → Ascends (IsApart nodes) xs → Ascends (IsApart nodes) (map (turned n st) xs)
apart_turned nodes n st xs h =
    ascends-map (IsApart nodes) (turned n st) xs
    (ascends_in (IsApart nodes) (λ a b. IsApart nodes (turned n st a) (turned n st b)) xs (λ a b ma mb k. apart_nodes nodes a b (turned n st a) (turned n st b) (turned_node n st a) (turned_node n st b) k) h)

-- a listed node has this number
abbrev pub ListedAt : List Instance → ℕ → Type 0
ListedAt nodes n = (node : Instance) × (slice_get nodes n ≡ Some node) × (node.listed ≡ true)

settled_spread : (nodes : List Instance) (gone stays : ℕ) (old : Shard) → ((a : Assignment) → IsIn old a → ListedAt nodes a.node) → Ascends (IsApart nodes) (without gone old) → IsSpread nodes (settled gone stays old)
settled_spread nodes gone stays old listed apart =
    let all = apart_turned nodes stays Available (without gone old) apart in
    record {
      listed = λ x m. let w = settled_was gone stays old x m in subst (ListedAt nodes) (sym (ap (λ (z : Assignment). z.node) w.3 ∙ turned_node stays Available w.0)) (listed w.0 w.1);
      before = Ascends-filter (IsApart nodes) is_holder (settled gone stays old) all;
      after = Ascends-filter (IsApart nodes) is_staying (settled gone stays old) all;
    }

not_node : (a n : ℕ) → not (nat_eq a n) ≡ true → a ≢ n
not_node a n t e = let clash : false ≡ true = sym (ap not (eq-eqb a n e)) ∙ t in cc

pub cancel_spread : (rf version : ℕ) (nodes : List Instance) (old : Shard) (joining : Assignment) (from : ℕ) → IsShard rf version old → IsSpread nodes old → IsIn old joining → joining.state ≡ Initializing → IsSpread nodes (settled joining.node from old)
cancel_spread rf version nodes old joining from shard spread there is =
    let m = (is_moving rf version old shard joining there is).0 in
    settled_spread nodes joining.node from old spread.listed
    (ascends_fewer (IsApart nodes) is_holder (λ a. not (nat_eq a.node joining.node)) old
    (λ x h t. holds_of x.state (λ e. not_node x.node joining.node t (ap (λ (z : Assignment). z.node) (the_joining old shard.distinct m x h e ∙ sym (the_joining old shard.distinct m joining there is))))) spread.before)

stays_of : (st : ShardState) → st ≢ Leaving → stays st ≡ true
stays_of Initializing ne = refl
stays_of Available ne = refl
stays_of Leaving ne = absurd (ne refl)

pub end_spread : (rf version : ℕ) (nodes : List Instance) (old : Shard) (joining : Assignment) (from to : ℕ) → IsShard rf version old → IsSpread nodes old → IsIn old joining → IsJoiningFrom from joining → IsSpread nodes (settled from to old)
end_spread rf version nodes old joining from to shard spread there joins =
    let m = (is_moving rf version old shard joining there joins.0).0 in
    let named : Some from ≡ Some (m.leaving).node = sym joins.1 ∙ ap (λ (w : Assignment). w.source) (the_joining old shard.distinct m joining there joins.0) ∙ (m.is_joining).1 in
    let source : from ≡ (m.leaving).node = cc in
    settled_spread nodes from to old spread.listed
    (ascends_fewer (IsApart nodes) is_staying (λ a. not (nat_eq a.node from)) old
    (λ x h t. stays_of x.state (λ e.
    elim (cases_eq x.node (m.joining).node) as (λ _. ⊥) [
      | inl f ↦ let clash : Leaving ≡ Initializing = sym e ∙ ap (λ (z : Assignment). z.state) (same_node old x m.joining shard.distinct h m.joins f) ∙ (m.is_joining).0 in cc
      | inr nj ↦ let clash : Leaving ≡ Available = sym e ∙ (m.others x h (λ f. not_node x.node from t (f ∙ sym source)) nj).0 in cc
    ])) spread.after)

-- ---- a move that begins

pub group_is : (nodes : List Instance) (n : ℕ) (i : Instance) → slice_get nodes n ≡ Some i → group_of nodes n ≡ i.group
group_is nodes n i e = ap (λ o. option_map_or (λ (x : Instance). x.group) o []) e

-- the assignment of a node that begins to join
abbrev pub joining_at : ℕ → ℕ → ℕ → Assignment
joining_at version from to = record { node = to; tenure = version; state = Initializing; source = Some from }

pub moved_spread : (version : ℕ) (nodes : List Instance) (from to : ℕ) (shard : Shard) → Ascends (λ x y. x.name ≢ y.name) nodes → IsSteady shard → IsSpread nodes shard → MayTake nodes shard from to → IsSpread nodes (moved version from to shard)
moved_spread version nodes from to shard distinct steady spread takes =
    let joining = joining_at version from to in
    let others = map (turned from Leaving) shard in
    let whole = subst (Ascends (IsApart nodes)) (filter_all is_holder shard (λ x m. ap holds (steady x m).0)) spread.before in
    let apart = apart_turned nodes from Leaving shard whole in
    record {
      listed = λ x m. elim (IsIn-append_cases others (joining ∷ []) x m) as (λ _. ListedAt nodes x.node) [
        | inl h ↦ let w = IsIn-map (turned from Leaving) shard x h in subst (ListedAt nodes) (sym (turned_node from Leaving w.0) ∙ ap (λ (z : Assignment). z.node) w.2) (spread.listed w.0 w.1)
        | inr h ↦ elim h as (λ _. ListedAt nodes x.node) [ inl e ↦ subst (ListedAt nodes) (ap (λ (z : Assignment). z.node) e) (takes.instance, takes.stands, takes.listed) | inr none ↦ absurd none ]
      ];
      before = subst (Ascends (IsApart nodes)) (sym (filter-append is_holder others (joining ∷ []) ∙ append-nil (filter is_holder others))) (Ascends-filter (IsApart nodes) is_holder others apart);
      after = subst (Ascends (IsApart nodes)) (sym (filter-append is_staying others (joining ∷ [])))
          (Ascends-push (IsApart nodes) (filter is_staying others) joining (Ascends-filter (IsApart nodes) is_staying others apart) (λ x m.
          let w = IsIn-map (turned from Leaving) shard x (IsIn-filter is_staying others x m) in
          let node_is : x.node ≡ (w.0).node = ap (λ (z : Assignment). z.node) (sym w.2) ∙ turned_node from Leaving w.0 in
          let stay = IsIn-filter_passes is_staying others x m in
          let other : (w.0).node ≢ from = λ e. elim (turned_cases from Leaving w.0) as (λ _. ⊥) [
            | inl c ↦ let clash : false ≡ true = ap (λ (z : Assignment). is_staying z) (sym c.1 ∙ w.2) ∙ stay in cc
            | inr c ↦ c.0 e
          ] in
          let at = spread.listed w.0 w.1 in
          let apart_from : (w.0).node ≢ to = λ e. takes.lacks (subst (IsIn (map (λ (a : Assignment). a.node) shard)) e (map-IsIn (λ (a : Assignment). a.node) shard w.0 w.1)) in
          record {
            one = at.0;
            other = takes.instance;
            of_one = ap (slice_get nodes) node_is ∙ at.1;
            of_other = takes.stands;
            names = names_at nodes (w.0).node to at.0 takes.instance distinct at.1 takes.stands apart_from;
            groups = λ e. takes.free w.0 w.1 other (group_is nodes (w.0).node at.0 at.1 ∙ e);
          }));
    }

-- ---- nodes that change

-- the node keeps its name, its group and whether it is listed
pub record IsKept (old next : List Instance) (n : ℕ) : Type 0 where
  pub was : Instance
  pub is : Instance
  pub at_old : slice_get old n ≡ Some was
  pub at_next : slice_get next n ≡ Some is
  pub name : is.name ≡ was.name
  pub group : is.group ≡ was.group
  pub listed : is.listed ≡ was.listed

kept_is : (old next : List Instance) (n : ℕ) (i : Instance) (k : IsKept old next n) → slice_get old n ≡ Some i → k.was ≡ i
kept_is old next n i k e = let both : Some k.was ≡ Some i = sym k.at_old ∙ e in cc

apart_kept : (old next : List Instance) (a b : Assignment) → IsKept old next a.node → IsKept old next b.node → IsApart old a b → IsApart next a b
apart_kept old next a b ka kb h =
    let one = kept_is old next a.node h.one ka h.of_one in
    let other = kept_is old next b.node h.other kb h.of_other in
    record {
      one = ka.is;
      other = kb.is;
      of_one = ka.at_next;
      of_other = kb.at_next;
      names = λ e. h.names (ap (λ (z : Instance). z.name) (sym one) ∙ sym ka.name ∙ e ∙ kb.name ∙ ap (λ (z : Instance). z.name) other);
      groups = λ e. h.groups (ap (λ (z : Instance). z.group) (sym one) ∙ sym ka.group ∙ e ∙ kb.group ∙ ap (λ (z : Instance). z.group) other);
    }

pub spread_kept : (old next : List Instance) (shard : Shard) → ((a : Assignment) → IsIn shard a → IsKept old next a.node) → IsSpread old shard → IsSpread next shard
spread_kept old next shard kept spread = record {
  listed = λ a m. let k = kept a m in let l = spread.listed a m in (k.is, k.at_next, k.listed ∙ ap (λ (z : Instance). z.listed) (kept_is old next a.node l.0 k l.1) ∙ l.2);
  before = ascends_in (IsApart old) (IsApart next) (filter is_holder shard) (λ a b ma mb h. apart_kept old next a b (kept a (IsIn-filter is_holder shard a ma)) (kept b (IsIn-filter is_holder shard b mb)) h) spread.before;
  after = ascends_in (IsApart old) (IsApart next) (filter is_staying shard) (λ a b ma mb h. apart_kept old next a b (kept a (IsIn-filter is_staying shard a ma)) (kept b (IsIn-filter is_staying shard b mb)) h) spread.after;
}
