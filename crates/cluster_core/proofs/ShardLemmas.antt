-- What the core uses of a shard and of its steps.
use Rattle.std.proofs.Common.{◌≡◌, ◌⊎◌, ◌≢◌, ℕ, suc, ◌≤◌, [], ◌∷◌, map, length, Bool, true, false, cond, sym, ap, ◌∙◌, subst, inl, inr, arith}
use Rattle.std.specs.Prelude.{Option, Some, None}
use Rattle.m3_model.specs.Members.{IsIn}
use Rattle.m3_model.proofs.MemberLemmas.{IsIn-append_cases, IsIn-map}
use Rattle.m3_model.specs.declared.placement.Assignment.{Assignment}
use Rattle.m3_model.specs.declared.placement.ShardState.TheVariants.{Initializing, Available, Leaving}
use Rattle.placement_core.specs.Lawful.{IsShard}
use Rattle.placement_core.specs.Shards.{Shard, is_steady, holders, former}
use Rattle.placement_core.specs.Steps.{turned, IsShardStep}
use Rattle.placement_core.proofs.ChangeLemmas.{turned_cases, settled_was, step_holders}
use Rattle.placement_core.proofs.HolderLemmas.{the_joining, none_joins, many_holders}

-- who is asked for a shard holds it
pub former_hold : (shard : Shard) (n : ℕ) → IsIn (former shard) n → IsIn (holders shard) n
former_hold shard n h = by (is_steady shard) h
  where
    by : (b : Bool) → IsIn (cond b [] (holders shard)) n → IsIn (holders shard) n
    by true h = absurd h
    by false h = h

-- at most rf nodes hold a shard
pub few_hold : (rf version : ℕ) (shard : Shard) → IsShard rf version shard → length (holders shard) ≤ rf
few_hold rf version shard h = omega (arith, many_holders rf version shard h)

-- who holds the shard when a move ends held it before, or joined
pub ended_holders : (rf version : ℕ) (old next : Shard) (to n : ℕ) → IsShard rf version old → IsShardStep (suc version) old next (Some to) → IsIn (holders next) n → (n ≡ to) ⊎ IsIn (holders old) n
ended_holders rf version old next to n h s k =
    let change = step_holders rf version old next (Some to) h s in
    elim ((change.1 n).0 k) as (λ _. (n ≡ to) ⊎ IsIn (holders old) n) [ inl e ↦ inl e | inr m ↦ inr m.0 ]

-- an assignment that joins after a turn joined before it, and isn't the node's
turned_joins : (n : ℕ) (w x : Assignment) (st : _) → x ≡ turned n st w → x.state ≡ Initializing → st ≢ Initializing → (w.state ≡ Initializing) × (w.node ≢ n) × (x ≡ w)
turned_joins n w x st e is ne =
    elim (turned_cases n st w) as (λ _. (w.state ≡ Initializing) × (w.node ≢ n) × (x ≡ w)) [
      | inl c ↦ absurd (ne (sym (ap (λ (z : Assignment). z.state) (e ∙ c.1)) ∙ is))
      | inr c ↦ (sym (ap (λ (z : Assignment). z.state) (e ∙ c.1)) ∙ is, c.0, e ∙ c.1)
    ]

-- the joining assignments of a shard are one
one_joins : (rf version : ℕ) (shard : Shard) → IsShard rf version shard → (x y : Assignment) → IsIn shard x → IsIn shard y → x.state ≡ Initializing → y.state ≡ Initializing → x ≡ y
one_joins rf version shard h x y hx hy ix iy =
    elim h.replicas as (λ _. x ≡ y) [
      | inl s ↦ absurd (none_joins shard s.0 x hx ix)
      | inr m ↦ the_joining shard h.distinct m.0 x hx ix ∙ sym (the_joining shard h.distinct m.0 y hy iy)
    ]

-- who joins after a step joined before it and the step left the shard, or begins to join with the new version
pub step_joining : (rf version : ℕ) (old next : Shard) (done : Option ℕ) (x : Assignment) → IsShard rf version old → IsShardStep (suc version) old next done → IsIn next x → x.state ≡ Initializing → (next ≡ old) ⊎ (x.tenure ≡ suc version)
step_joining rf version old next None x h s m is =
    elim s as (λ _. (next ≡ old) ⊎ (x.tenure ≡ suc version)) [
      | inl e ↦ inl e
      | inr k ↦ elim k as (λ _. (next ≡ old) ⊎ (x.tenure ≡ suc version)) [
        | inl b ↦ elim (IsIn-append_cases (map (turned b.from Leaving) old) (b.joining ∷ []) x (subst (λ z. IsIn z x) b.next_is m)) as (λ _. (next ≡ old) ⊎ (x.tenure ≡ suc version)) [
          | inl t ↦
              let w = IsIn-map (turned b.from Leaving) old x t in
              let j = turned_joins b.from w.0 x Leaving (sym w.2) is (λ e. cc) in
              let clash : Initializing ≡ Available = sym j.0 ∙ (b.steady w.0 w.1).0 in cc
          | inr l ↦ elim l as (λ _. (next ≡ old) ⊎ (x.tenure ≡ suc version)) [ inl e ↦ inr (ap (λ (z : Assignment). z.tenure) (sym e) ∙ b.tenure) | inr none ↦ absurd none ]
        ]
        | inr c ↦
            let w = settled_was (c.0).node (c.2).from old x (subst (λ z. IsIn z x) (c.2).next_is m) in
            let j = turned_joins (c.2).from w.0 x Available w.3 is (λ e. cc) in
            absurd (w.2 (ap (λ (z : Assignment). z.node) (one_joins rf version old h w.0 c.0 w.1 c.1 j.0 ((c.2).joins).0)))
      ]
    ]
step_joining rf version old next (Some to) x h s m is =
    let w = settled_was (s.2).from to old x (subst (λ z. IsIn z x) (s.2).next_is m) in
    let j = turned_joins to w.0 x Available w.3 is (λ e. cc) in
    absurd (j.1 (ap (λ (z : Assignment). z.node) (one_joins rf version old h w.0 s.0 w.1 s.1 j.0 ((s.2).joins).0) ∙ (s.2).node))
