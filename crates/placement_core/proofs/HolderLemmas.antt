-- The replicas of a shard, and who holds it.
use Rattle.std.proofs.Common.{◌≡◌, ◌≢◌, ◌⊎◌, ℕ, suc, [], ◌∷◌, filter, length, Bool, true, false, not, cond, nat_eq, refl, sym, ap, subst, inl, inr, ◌∙◌, arith}
use Rattle.std.proofs.lemmas.Bool.{cases_eq, eq-eqb, ne_eqb}
use Rattle.std.proofs.lemmas.List.{length-map}
use Rattle.m3_model.specs.Ascends.{Ascends}
use Rattle.m3_model.specs.Members.{IsIn}
use Rattle.m3_model.proofs.MemberLemmas.{IsIn-map, map-IsIn}
use Rattle.m3_model.proofs.Lists.{IsIn-filter, IsIn-filter_passes, filter-IsIn}
use Rattle.m3_model.proofs.Ascending.{Ascends-filter}
use Rattle.m3_model.specs.declared.placement.ShardState.{ShardState}
use Rattle.m3_model.specs.declared.placement.ShardState.TheVariants.{Initializing, Available, Leaving}
use Rattle.m3_model.specs.declared.placement.Assignment.{Assignment}
use Rattle.placement_core.specs.Shards.{Shard, counts, holds, is_available, is_holder, is_steady, nodes_of, counted, holders, former}
use Rattle.placement_core.specs.Lawful.{IsSteady, IsMoving, IsShard}
use Rattle.placement_core.specs.Steps.{without}
use Rattle.placement_core.proofs.ListLemmas.{filter_same, filter_all}
use Rattle.placement_core.proofs.OrderLemmas.{ascends-map}

-- ---- states

pub available_of : (st : ShardState) → counts st ≡ true → st ≡ Available
available_of Initializing e = let clash : false ≡ true = e in cc
available_of Available e = refl
available_of Leaving e = let clash : false ≡ true = e in cc

pub holds_of : (st : ShardState) → st ≢ Initializing → holds st ≡ true
holds_of Initializing ne = absurd (ne refl)
holds_of Available ne = refl
holds_of Leaving ne = refl

pub not_joining : (st : ShardState) → holds st ≡ true → st ≢ Initializing
not_joining st h e = let clash : false ≡ true = ap holds (sym e) ∙ h in cc

-- ---- the nodes that a test chooses

pub chosen_node : (p : Assignment → Bool) (shard : Shard) (n : ℕ) → IsIn (nodes_of (filter p shard)) n → (x : Assignment) × IsIn shard x × (x.node ≡ n) × (p x ≡ true)
chosen_node p shard n h = let from = IsIn-map (λ (a : Assignment). a.node) (filter p shard) n h in (from.0, IsIn-filter p shard from.0 from.1, from.2, IsIn-filter_passes p shard from.0 from.1)

pub node_chosen : (p : Assignment → Bool) (shard : Shard) (n : ℕ) (x : Assignment) → IsIn shard x → x.node ≡ n → p x ≡ true → IsIn (nodes_of (filter p shard)) n
node_chosen p shard n x h e on = subst (IsIn (nodes_of (filter p shard))) e (map-IsIn (λ (a : Assignment). a.node) (filter p shard) x (filter-IsIn p shard x h on))

pub counted_hold : (shard : Shard) (n : ℕ) → IsIn (counted shard) n → IsIn (holders shard) n
counted_hold shard n h =
    let c = chosen_node is_available shard n h in
    node_chosen is_holder shard n c.0 c.1 c.2 (ap holds (available_of (c.0).state c.3))

-- ---- one assignment a node

abbrev pub Distinct : Shard → Type 0
Distinct shard = Ascends (λ a b. a.node ≢ b.node) shard

pub same_node : (shard : Shard) (x y : Assignment) → Distinct shard → IsIn shard x → IsIn shard y → x.node ≡ y.node → x ≡ y
same_node [] x y d hx hy e = absurd hx
same_node (z ∷ zs) x y d hx hy e =
    elim hx as (λ _. x ≡ y) [
      | inl zx ↦ elim hy as (λ _. x ≡ y) [
        | inl zy ↦ sym zx ∙ zy
        | inr ry ↦ absurd (d.0 y ry (ap (λ (w : Assignment). w.node) zx ∙ e))
      ]
      | inr rx ↦ elim hy as (λ _. x ≡ y) [
        | inl zy ↦ absurd (d.0 x rx (ap (λ (w : Assignment). w.node) zy ∙ sym e))
        | inr ry ↦ same_node zs x y d.1 rx ry e
      ]
    ]

-- ---- the shard without a node

other_node : (a n : ℕ) → a ≢ n → not (nat_eq a n) ≡ true
other_node a n ne = ap not (ne_eqb a n ne)

own_node : (a n : ℕ) → a ≡ n → not (nat_eq a n) ≡ false
own_node a n e = ap not (eq-eqb a n e)

pub without_was : (n : ℕ) (shard : Shard) (x : Assignment) → IsIn (without n shard) x → IsIn shard x × (x.node ≢ n)
without_was n shard x h =
    (IsIn-filter (λ a. not (nat_eq a.node n)) shard x h, λ e. let clash : false ≡ true = sym (own_node x.node n e) ∙ IsIn-filter_passes (λ a. not (nat_eq a.node n)) shard x h in cc)

pub without_keeps : (n : ℕ) (shard : Shard) (x : Assignment) → IsIn shard x → x.node ≢ n → IsIn (without n shard) x
without_keeps n shard x h ne = filter-IsIn (λ a. not (nat_eq a.node n)) shard x h (other_node x.node n ne)

one_less_by : (y : Assignment) (ys : Shard) (n : ℕ) (b : Bool) → not (nat_eq y.node n) ≡ b → (y.node ≡ n → without n ys ≡ ys) → (y.node ≢ n → suc (length (without n ys)) ≡ length ys) → suc (length (cond b (y ∷ without n ys) (without n ys))) ≡ suc (length ys)
one_less_by y ys n true is own other = ap suc (other (λ e. let clash : false ≡ true = sym (own_node y.node n e) ∙ is in cc))
one_less_by y ys n false is own other =
    elim (cases_eq y.node n) as (λ _. suc (length (without n ys)) ≡ suc (length ys)) [
      | inl e ↦ ap (λ zs. suc (length zs)) (own e)
      | inr ne ↦ let clash : true ≡ false = sym (other_node y.node n ne) ∙ is in cc
    ]

pub one_less : (shard : Shard) (x : Assignment) → Distinct shard → IsIn shard x → suc (length (without x.node shard)) ≡ length shard
one_less [] x d h = absurd h
one_less (y ∷ ys) x d h =
    one_less_by y ys x.node (not (nat_eq y.node x.node)) refl
    (λ e. filter_all (λ a. not (nat_eq a.node x.node)) ys (λ z m. other_node z.node x.node (λ f. d.0 z m (e ∙ sym f))))
    (λ ne. elim h as (λ _. suc (length (without x.node ys)) ≡ length ys) [ inl e ↦ absurd (ne (ap (λ (w : Assignment). w.node) e)) | inr r ↦ one_less ys x d.1 r ])

-- ---- a moving shard

pub leaving_not_joining : (shard : Shard) → Distinct shard → (m : IsMoving shard) → (m.leaving).node ≢ (m.joining).node
leaving_not_joining shard d m e =
    let clash : Leaving ≡ Initializing = sym (m.is_leaving).0 ∙ ap (λ (w : Assignment). w.state) (same_node shard m.leaving m.joining d m.stands m.joins e) ∙ (m.is_joining).0 in cc

-- only the joining assignment is Initializing
pub the_joining : (shard : Shard) → Distinct shard → (m : IsMoving shard) → (x : Assignment) → IsIn shard x → x.state ≡ Initializing → x ≡ m.joining
the_joining shard d m x h is =
    elim (cases_eq x.node (m.joining).node) as (λ _. x ≡ m.joining) [
      | inl e ↦ same_node shard x m.joining d h m.joins e
      | inr nj ↦ elim (cases_eq x.node (m.leaving).node) as (λ _. x ≡ m.joining) [
        | inl e ↦ let clash : Initializing ≡ Leaving = sym is ∙ ap (λ (w : Assignment). w.state) (same_node shard x m.leaving d h m.stands e) ∙ (m.is_leaving).0 in cc
        | inr nl ↦ let clash : Initializing ≡ Available = sym is ∙ (m.others x h nl nj).0 in cc
      ]
    ]

-- a steady shard has no joining assignment
pub none_joins : (shard : Shard) → IsSteady shard → (x : Assignment) → IsIn shard x → x.state ≡ Initializing → ⊥
none_joins shard s x h is = let clash : Initializing ≡ Available = sym is ∙ (s x h).0 in cc

-- a shard in which one joins is moving
pub is_moving : (rf version : ℕ) (shard : Shard) → IsShard rf version shard → (x : Assignment) → IsIn shard x → x.state ≡ Initializing → IsMoving shard × (length shard ≡ suc rf)
is_moving rf version shard h x m is = elim h.replicas as (λ _. IsMoving shard × (length shard ≡ suc rf)) [ inl s ↦ absurd (none_joins shard s.0 x m is) | inr k ↦ k ]

steady_holders : (shard : Shard) → IsSteady shard → filter is_holder shard ≡ shard
steady_holders shard s = filter_all is_holder shard (λ x m. ap holds (s x m).0)

state_cases : (x : Assignment) → (x.state ≡ Initializing) ⊎ (x.state ≢ Initializing)
state_cases x = by x.state
  where
    by : (st : ShardState) → (st ≡ Initializing) ⊎ (st ≢ Initializing)
    by Initializing = inl refl
    by Available = inr (λ e. cc)
    by Leaving = inr (λ e. cc)

-- all but the joining node hold a moving shard
moving_holders : (shard : Shard) → Distinct shard → (m : IsMoving shard) → filter is_holder shard ≡ without (m.joining).node shard
moving_holders shard d m =
    filter_same is_holder (λ a. not (nat_eq a.node (m.joining).node)) shard (λ x h.
    elim (state_cases x) as (λ _. is_holder x ≡ not (nat_eq x.node (m.joining).node)) [
      | inl is ↦ ap holds is ∙ sym (own_node x.node (m.joining).node (ap (λ (w : Assignment). w.node) (the_joining shard d m x h is)))
      | inr is ↦ holds_of x.state is ∙ sym (other_node x.node (m.joining).node (λ e. is (ap (λ (w : Assignment). w.state) (same_node shard x m.joining d h m.joins e) ∙ (m.is_joining).0)))
    ])

pub many_holders : (rf version : ℕ) (shard : Shard) → IsShard rf version shard → length (holders shard) ≡ rf
many_holders rf version shard h =
    elim h.replicas as (λ _. length (holders shard) ≡ rf) [
      | inl s ↦ length-map (filter is_holder shard) (λ (a : Assignment). a.node) ∙ ap length (steady_holders shard s.0) ∙ s.1
      | inr m ↦ omega (arith, length-map (filter is_holder shard) (λ (a : Assignment). a.node), ap length (moving_holders shard h.distinct m.0), one_less shard (m.0).joining h.distinct (m.0).joins, m.1)
    ]

pub distinct_holders : (rf version : ℕ) (shard : Shard) → IsShard rf version shard → Ascends ◌≢◌ (holders shard)
distinct_holders rf version shard h = ascends-map ◌≢◌ (λ (a : Assignment). a.node) (filter is_holder shard) (Ascends-filter (λ (a b : Assignment). a.node ≢ b.node) is_holder shard h.distinct)

pub many_former : (rf version : ℕ) (shard : Shard) → IsShard rf version shard → is_steady shard ≡ false → length (former shard) ≡ rf
many_former rf version shard h moving = ap (λ (b : Bool). length (cond b [] (holders shard))) moving ∙ many_holders rf version shard h
