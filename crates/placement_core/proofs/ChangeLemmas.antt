-- What each kind of step leaves of a shard.
use Rattle.std.proofs.Common.{◌≡◌, ◌≢◌, ◌⊎◌, ◌↔◌, ◌≤◌, ℕ, suc, [], ◌∷◌, map, length, Option, Some, None, Bool, true, false, cond, not, nat_eq, refl, sym, ap, subst, inl, inr, ◌∙◌, arith, length-append}
use Rattle.std.proofs.lemmas.Bool.{cases_eq, eqb-true, eqb-false}
use Rattle.std.proofs.lemmas.List.{length-map}
use Rattle.m3_model.specs.Members.{IsIn}
use Rattle.m3_model.proofs.MemberLemmas.{IsIn-map, map-IsIn, IsIn-append_left, IsIn-append_cases, IsIn-push}
use Rattle.m3_model.proofs.Ascending.{Ascends-filter, Ascends-push, Ascends-weaken}
use Rattle.m3_model.specs.declared.placement.ShardState.{ShardState}
use Rattle.m3_model.specs.declared.placement.ShardState.TheVariants.{Initializing, Available, Leaving}
use Rattle.m3_model.specs.declared.placement.Assignment.{Assignment}
use Rattle.placement_core.specs.Shards.{Shard, holds, is_available, is_holder, nodes_of, counted, holders}
use Rattle.placement_core.specs.Lawful.{IsServing, IsJoiningFrom, IsMoving, IsShard}
use Rattle.placement_core.specs.Steps.{turned, without, settled, Begins, Cancels, Ends, IsShardStep}
use Rattle.placement_core.specs.Changes.{HoldersChange}
use Rattle.placement_core.proofs.OrderLemmas.{ascends-map}
use Rattle.placement_core.proofs.HolderLemmas.{Distinct, holds_of, not_joining, available_of, chosen_node, node_chosen, counted_hold, same_node, without_was, without_keeps, one_less, leaving_not_joining, the_joining, is_moving}

-- ---- a turned assignment

pub turned_cases : (n : ℕ) (st : ShardState) (x : Assignment) → ((x.node ≡ n) × (turned n st x ≡ record x { state = st; source = None })) ⊎ ((x.node ≢ n) × (turned n st x ≡ x))
turned_cases n st x = by (nat_eq x.node n) refl
  where
    by : (b : Bool) → nat_eq x.node n ≡ b
        → ((x.node ≡ n) × (cond b (record x { state = st; source = None }) x ≡ record x { state = st; source = None })) ⊎ ((x.node ≢ n) × (cond b (record x { state = st; source = None }) x ≡ x))
    by true e = inl (eqb-true x.node n e, refl)
    by false e = inr (eqb-false x.node n e, refl)

pub turned_node : (n : ℕ) (st : ShardState) (x : Assignment) → (turned n st x).node ≡ x.node
turned_node n st x = elim (turned_cases n st x) as (λ _. (turned n st x).node ≡ x.node) [ inl h ↦ ap (λ (w : Assignment). w.node) h.1 | inr h ↦ ap (λ (w : Assignment). w.node) h.1 ]

pub turned_tenure : (n : ℕ) (st : ShardState) (x : Assignment) → (turned n st x).tenure ≡ x.tenure
turned_tenure n st x = elim (turned_cases n st x) as (λ _. (turned n st x).tenure ≡ x.tenure) [ inl h ↦ ap (λ (w : Assignment). w.tenure) h.1 | inr h ↦ ap (λ (w : Assignment). w.tenure) h.1 ]

-- what holds goes on holding when it turns to a state that holds
turned_holds : (n : ℕ) (st : ShardState) (x : Assignment) → holds st ≡ true → is_holder x ≡ true → is_holder (turned n st x) ≡ true
turned_holds n st x on h = elim (turned_cases n st x) as (λ _. is_holder (turned n st x) ≡ true) [ inl c ↦ ap is_holder c.1 ∙ on | inr c ↦ ap is_holder c.1 ∙ h ]

distinct_turned : (n : ℕ) (st : ShardState) (shard : Shard) → Distinct shard → Distinct (map (turned n st) shard)
distinct_turned n st shard d =
    ascends-map (λ (a b : Assignment). a.node ≢ b.node) (turned n st) shard
    (Ascends-weaken (λ (a b : Assignment). a.node ≢ b.node) (λ a b. (turned n st a).node ≢ (turned n st b).node) shard (λ a b ne e. ne (sym (turned_node n st a) ∙ e ∙ turned_node n st b)) d)

-- ---- a move begins

module _ (version : ℕ) (old next : Shard) (b : Begins version old next) where
  begun_was : (x : Assignment) → IsIn next x → ((w : Assignment) × IsIn old w × (x ≡ turned b.from Leaving w)) ⊎ (x ≡ b.joining)
  begun_was x h =
      elim (IsIn-append_cases (map (turned b.from Leaving) old) (b.joining ∷ []) x (subst (λ z. IsIn z x) b.next_is h)) as (λ _. ((w : Assignment) × IsIn old w × (x ≡ turned b.from Leaving w)) ⊎ (x ≡ b.joining)) [
        | inl m ↦ let f = IsIn-map (turned b.from Leaving) old x m in inl (f.0, f.1, sym f.2)
        | inr l ↦ elim l as (λ _. ((w : Assignment) × IsIn old w × (x ≡ turned b.from Leaving w)) ⊎ (x ≡ b.joining)) [ inl e ↦ inr (sym e) | inr none ↦ absurd none ]
      ]

  begun_is : (w : Assignment) → IsIn old w → IsIn next (turned b.from Leaving w)
  begun_is w h = subst (λ z. IsIn z (turned b.from Leaving w)) (sym b.next_is) (IsIn-append_left (map (turned b.from Leaving) old) (b.joining ∷ []) (turned b.from Leaving w) (map-IsIn (turned b.from Leaving) old w h))

  begun_moving : IsMoving next
  begun_moving =
      let source = IsIn-map (λ (a : Assignment). a.node) old b.from b.has in
      let leaving = turned b.from Leaving source.0 in
      let turns : leaving ≡ record source.0 { state = Leaving; source = None } = elim (turned_cases b.from Leaving source.0) as (λ _. leaving ≡ record source.0 { state = Leaving; source = None }) [ inl c ↦ c.1 | inr c ↦ absurd (c.0 source.2) ] in
      let at : leaving.node ≡ b.from = turned_node b.from Leaving source.0 ∙ source.2 in
      record {
        leaving = leaving;
        stands = begun_is source.0 source.1;
        is_leaving = (ap (λ (w : Assignment). w.state) turns, ap (λ (w : Assignment). w.source) turns);
        joining = b.joining;
        joins = subst (λ z. IsIn z b.joining) (sym b.next_is) (IsIn-push (map (turned b.from Leaving) old) b.joining);
        is_joining = subst (λ n. IsJoiningFrom n b.joining) (sym at) b.joins;
        others = λ x h nl nj. elim (begun_was x h) as (λ _. IsServing x) [
          | inl w ↦ elim (turned_cases b.from Leaving w.0) as (λ _. IsServing x) [
            | inl c ↦ absurd (nl (ap (λ (z : Assignment). z.node) w.2 ∙ turned_node b.from Leaving w.0 ∙ c.0 ∙ sym at))
            | inr c ↦ subst IsServing (sym (w.2 ∙ c.1)) (b.steady w.0 w.1)
          ]
          | inr e ↦ absurd (nj (ap (λ (z : Assignment). z.node) e))
        ];
      }

  begun_distinct : Distinct old → Distinct next
  begun_distinct d =
      subst Distinct (sym b.next_is) (Ascends-push (λ (x y : Assignment). x.node ≢ y.node) (map (turned b.from Leaving) old) b.joining (distinct_turned b.from Leaving old d)
      (λ x m e. let w = IsIn-map (turned b.from Leaving) old x m in b.free (subst (IsIn (nodes_of old)) (sym (turned_node b.from Leaving w.0) ∙ ap (λ (z : Assignment). z.node) w.2 ∙ e) (map-IsIn (λ (a : Assignment). a.node) old w.0 w.1))))

  begun_length : length next ≡ suc (length old)
  begun_length = omega (arith, ap length b.next_is, length-append (map (turned b.from Leaving) old) (b.joining ∷ []), length-map old (turned b.from Leaving))

  begun_tenures : (bound : ℕ) → version ≡ suc bound → ((x : Assignment) → IsIn old x → x.tenure ≤ bound) → (x : Assignment) → IsIn next x → x.tenure ≤ version
  begun_tenures bound is low x h =
      elim (begun_was x h) as (λ _. x.tenure ≤ version) [
        | inl w ↦ omega (arith, low w.0 w.1, ap (λ (z : Assignment). z.tenure) w.2 ∙ turned_tenure b.from Leaving w.0, is)
        | inr e ↦ omega (arith, ap (λ (z : Assignment). z.tenure) e, b.tenure)
      ]

  begun_holders : (n : ℕ) → IsIn (holders next) n ↔ IsIn (holders old) n
  begun_holders n = (
    λ h. let c = chosen_node is_holder next n h in
        elim (begun_was c.0 c.1) as (λ _. IsIn (holders old) n) [
          | inl w ↦ node_chosen is_holder old n w.0 w.1 (sym (turned_node b.from Leaving w.0) ∙ ap (λ (z : Assignment). z.node) (sym w.2) ∙ c.2) (ap holds (b.steady w.0 w.1).0)
          | inr e ↦ absurd (not_joining (c.0).state c.3 (ap (λ (z : Assignment). z.state) e ∙ (b.joins).0))
        ],
    λ h. let c = chosen_node is_holder old n h in
        node_chosen is_holder next n (turned b.from Leaving c.0) (begun_is c.0 c.1) (turned_node b.from Leaving c.0 ∙ c.2) (turned_holds b.from Leaving c.0 refl c.3),
  )

-- ---- a move is over: one node goes, and another is Available

pub settled_was : (gone stays : ℕ) (old : Shard) (x : Assignment) → IsIn (settled gone stays old) x → (w : Assignment) × IsIn old w × (w.node ≢ gone) × (x ≡ turned stays Available w)
settled_was gone stays old x h = let f = IsIn-map (turned stays Available) (without gone old) x h in let w = without_was gone old f.0 f.1 in (f.0, w.0, w.1, sym f.2)

pub settled_is : (gone stays : ℕ) (old : Shard) (w : Assignment) → IsIn old w → w.node ≢ gone → IsIn (settled gone stays old) (turned stays Available w)
settled_is gone stays old w h ne = map-IsIn (turned stays Available) (without gone old) w (without_keeps gone old w h ne)

-- the others of a moving shard serve
abbrev OthersServe : ℕ → ℕ → Shard → Type 0
OthersServe one other shard = (a : Assignment) → IsIn shard a → a.node ≢ one → a.node ≢ other → IsServing a

settled_shard : (rf version : ℕ) (old : Shard) (gone : Assignment) (stays : ℕ) → IsShard rf version old → length old ≡ suc rf → IsIn old gone → OthersServe gone.node stays old → IsShard rf (suc version) (settled gone.node stays old)
settled_shard rf version old gone stays h many there others = record {
  distinct = distinct_turned stays Available (without gone.node old) (Ascends-filter (λ (a b : Assignment). a.node ≢ b.node) (λ a. not (nat_eq a.node gone.node)) old h.distinct);
  tenures = λ x m. let w = settled_was gone.node stays old x m in omega (arith, h.tenures w.0 w.1, ap (λ (z : Assignment). z.tenure) w.3 ∙ turned_tenure stays Available w.0);
  replicas = inl (
    λ x m. let w = settled_was gone.node stays old x m in elim (turned_cases stays Available w.0) as (λ _. IsServing x) [
      | inl c ↦ (ap (λ (z : Assignment). z.state) (w.3 ∙ c.1), ap (λ (z : Assignment). z.source) (w.3 ∙ c.1))
      | inr c ↦ subst IsServing (sym (w.3 ∙ c.1)) (others w.0 w.1 w.2 c.0)
    ],
    omega (arith, length-map (without gone.node old) (turned stays Available), one_less old gone h.distinct there, many),
  );
}

-- the joining assignment of a shard that moves, and its source
record Mover (rf : ℕ) (old : Shard) (joining : Assignment) (from : ℕ) : Type 0 where
  pub moving : IsMoving old
  pub many : length old ≡ suc rf
  pub is_it : joining ≡ moving.joining
  pub source : from ≡ (moving.leaving).node

mover : (rf version : ℕ) (old : Shard) (joining : Assignment) (from : ℕ) → IsShard rf version old → IsIn old joining → IsJoiningFrom from joining → Mover rf old joining from
mover rf version old joining from h there joins =
    let m = is_moving rf version old h joining there joins.0 in
    let it = the_joining old h.distinct m.0 joining there joins.0 in
    let named : Some from ≡ Some ((m.0).leaving).node = sym joins.1 ∙ ap (λ (w : Assignment). w.source) it ∙ ((m.0).is_joining).1 in
    record { moving = m.0; many = m.1; is_it = it; source = cc }

cancel_shard : (rf version : ℕ) (old next : Shard) → IsShard rf version old → Cancels old next → IsShard rf (suc version) next
cancel_shard rf version old next h c =
    let joining = c.0 in
    let from = (c.2).from in
    let m = mover rf version old joining from h c.1 (c.2).joins in
    subst (IsShard rf (suc version)) (sym (c.2).next_is) (settled_shard rf version old joining from h m.many c.1
    (λ a k nj nl. (m.moving).others a k (λ e. nl (e ∙ sym m.source)) (λ e. nj (e ∙ ap (λ (w : Assignment). w.node) (sym m.is_it)))))

end_shard : (rf version : ℕ) (old next : Shard) (to : ℕ) → IsShard rf version old → Ends old next to → IsShard rf (suc version) next
end_shard rf version old next to h c =
    let joining = c.0 in
    let from = (c.2).from in
    let m = mover rf version old joining from h c.1 (c.2).joins in
    let at : to ≡ ((m.moving).joining).node = sym (c.2).node ∙ ap (λ (w : Assignment). w.node) m.is_it in
    subst (IsShard rf (suc version)) (sym ((c.2).next_is ∙ ap (λ n. settled n to old) m.source)) (settled_shard rf version old (m.moving).leaving to h m.many (m.moving).stands
    (λ a k nl nj. (m.moving).others a k nl (λ e. nj (e ∙ sym at))))

begin_shard : (rf version : ℕ) (old next : Shard) → IsShard rf version old → Begins (suc version) old next → IsShard rf (suc version) next
begin_shard rf version old next h b = record {
  distinct = begun_distinct (suc version) old next b h.distinct;
  tenures = begun_tenures (suc version) old next b version refl h.tenures;
  replicas = inr (
    begun_moving (suc version) old next b,
    elim h.replicas as (λ _. length next ≡ suc rf) [
      | inl s ↦ omega (arith, begun_length (suc version) old next b, s.1)
      | inr m ↦ let clash : Initializing ≡ Available = sym ((m.0).is_joining).0 ∙ (b.steady (m.0).joining (m.0).joins).0 in cc
    ],
  );
}

same_shard : (rf version : ℕ) (shard : Shard) → IsShard rf version shard → IsShard rf (suc version) shard
same_shard rf version shard h = record { distinct = h.distinct; tenures = λ x m. omega (arith, h.tenures x m); replicas = h.replicas }

pub step_shard : (rf version : ℕ) (old next : Shard) (done : Option ℕ) → IsShard rf version old → IsShardStep (suc version) old next done → IsShard rf (suc version) next
step_shard rf version old next None h s =
    elim s as (λ _. IsShard rf (suc version) next) [
      | inl e ↦ subst (IsShard rf (suc version)) (sym e) (same_shard rf version old h)
      | inr k ↦ elim k as (λ _. IsShard rf (suc version) next) [ inl b ↦ begin_shard rf version old next h b | inr c ↦ cancel_shard rf version old next h c ]
    ]
step_shard rf version old next (Some to) h s = end_shard rf version old next to h s

-- ---- who holds the shard afterwards

cancel_holders : (rf version : ℕ) (old next : Shard) → IsShard rf version old → Cancels old next → (n : ℕ) → IsIn (holders next) n ↔ IsIn (holders old) n
cancel_holders rf version old next h c n =
    let joining = c.0 in
    let from = (c.2).from in
    let m = mover rf version old joining from h c.1 (c.2).joins in (
      λ k. let x = chosen_node is_holder (settled joining.node from old) n (subst (λ z. IsIn (holders z) n) (c.2).next_is k) in
          let w = settled_was joining.node from old x.0 x.1 in
          node_chosen is_holder old n w.0 w.1 (sym (turned_node from Available w.0) ∙ ap (λ (z : Assignment). z.node) (sym w.3) ∙ x.2)
          (holds_of (w.0).state (λ is. w.2 (ap (λ (z : Assignment). z.node) (the_joining old h.distinct m.moving w.0 w.1 is ∙ sym m.is_it)))),
      λ k. let x = chosen_node is_holder old n k in
          let stays : (x.0).node ≢ joining.node = λ e. not_joining (x.0).state x.3 (ap (λ (z : Assignment). z.state) (same_node old x.0 joining h.distinct x.1 c.1 e) ∙ ((c.2).joins).0) in
          subst (λ z. IsIn (holders z) n) (sym (c.2).next_is) (node_chosen is_holder (settled joining.node from old) n (turned from Available x.0) (settled_is joining.node from old x.0 x.1 stays) (turned_node from Available x.0 ∙ x.2) (turned_holds from Available x.0 refl x.3)),
    )

end_holders : (rf version : ℕ) (old next : Shard) (to : ℕ) → IsShard rf version old → (c : Ends old next to) → (n : ℕ) → IsIn (holders next) n ↔ ((n ≡ to) ⊎ (IsIn (holders old) n × (n ≢ (c.2).from)))
end_holders rf version old next to h c n =
    let joining = c.0 in
    let from = (c.2).from in
    let m = mover rf version old joining from h c.1 (c.2).joins in
    let it : (m.moving).joining ≡ joining = sym m.is_it in (
      λ k. let x = chosen_node is_holder (settled from to old) n (subst (λ z. IsIn (holders z) n) (c.2).next_is k) in
          let w = settled_was from to old x.0 x.1 in
          let at : (w.0).node ≡ n = sym (turned_node to Available w.0) ∙ ap (λ (z : Assignment). z.node) (sym w.3) ∙ x.2 in
          elim (cases_eq (w.0).node to) as (λ _. (n ≡ to) ⊎ (IsIn (holders old) n × (n ≢ from))) [
            | inl e ↦ inl (sym at ∙ e)
            | inr ne ↦ inr (
              node_chosen is_holder old n w.0 w.1 at (holds_of (w.0).state (λ is. ne (ap (λ (z : Assignment). z.node) (the_joining old h.distinct m.moving w.0 w.1 is ∙ it) ∙ (c.2).node))),
              λ e. w.2 (at ∙ e),
            )
          ],
      λ k. subst (λ z. IsIn (holders z) n) (sym (c.2).next_is) (elim k as (λ _. IsIn (holders (settled from to old)) n) [
        | inl e ↦
            let stays : joining.node ≢ from = λ f. leaving_not_joining old h.distinct m.moving (sym m.source ∙ sym f ∙ ap (λ (z : Assignment). z.node) m.is_it) in
            let turns : turned to Available joining ≡ record joining { state = Available; source = None } = elim (turned_cases to Available joining) as (λ _. turned to Available joining ≡ record joining { state = Available; source = None }) [ inl t ↦ t.1 | inr t ↦ absurd (t.0 (c.2).node) ] in
            node_chosen is_holder (settled from to old) n (turned to Available joining) (settled_is from to old joining c.1 stays) (turned_node to Available joining ∙ (c.2).node ∙ sym e) (ap is_holder turns)
        | inr k ↦
            let x = chosen_node is_holder old n k.0 in
            node_chosen is_holder (settled from to old) n (turned to Available x.0) (settled_is from to old x.0 x.1 (λ e. k.1 (sym x.2 ∙ e))) (turned_node to Available x.0 ∙ x.2) (turned_holds to Available x.0 refl x.3)
      ]),
    )

pub step_holders : (rf version : ℕ) (old next : Shard) (done : Option ℕ) → IsShard rf version old → IsShardStep (suc version) old next done → HoldersChange old next done
step_holders rf version old next None h s = λ n.
    elim s as (λ _. IsIn (holders next) n ↔ IsIn (holders old) n) [
      | inl e ↦ (λ k. subst (λ z. IsIn (holders z) n) e k, λ k. subst (λ z. IsIn (holders z) n) (sym e) k)
      | inr k ↦ elim k as (λ _. IsIn (holders next) n ↔ IsIn (holders old) n) [ inl b ↦ begun_holders (suc version) old next b n | inr c ↦ cancel_holders rf version old next h c n ]
    ]
step_holders rf version old next (Some to) h s = ((s.2).from, end_holders rf version old next to h s)

-- who counts before a step holds the shard after it
pub step_counted : (rf version : ℕ) (old next : Shard) (done : Option ℕ) → IsShard rf version old → IsShardStep (suc version) old next done → (n : ℕ) → IsIn (counted old) n → IsIn (holders next) n
step_counted rf version old next None h s n k = (step_holders rf version old next None h s n).1 (counted_hold old n k)
step_counted rf version old next (Some to) h s n k =
    let m = mover rf version old s.0 (s.2).from h s.1 (s.2).joins in
    let x = chosen_node is_available old n k in
    let other : n ≢ (s.2).from = λ e.
    let clash : Available ≡ Leaving = sym (available_of (x.0).state x.3) ∙ ap (λ (z : Assignment). z.state) (same_node old x.0 (m.moving).leaving h.distinct x.1 (m.moving).stands (x.2 ∙ e ∙ m.source)) ∙ ((m.moving).is_leaving).0 in cc in
    (end_holders rf version old next to h s n).1 (inr (counted_hold old n k, other))

-- ---- a step ends one move of a shard, or none

settled_length : (old : Shard) (gone : Assignment) (stays : ℕ) → Distinct old → IsIn old gone → suc (length (settled gone.node stays old)) ≡ length old
settled_length old gone stays d there = omega (arith, length-map (without gone.node old) (turned stays Available), one_less old gone d there)

cancel_length : (rf version : ℕ) (old next : Shard) → IsShard rf version old → Cancels old next → suc (length next) ≡ length old
cancel_length rf version old next h c = omega (arith, ap length (c.2).next_is, settled_length old c.0 (c.2).from h.distinct c.1)

end_length : (rf version : ℕ) (old next : Shard) (to : ℕ) → IsShard rf version old → Ends old next to → suc (length next) ≡ length old
end_length rf version old next to h c =
    let m = mover rf version old c.0 (c.2).from h c.1 (c.2).joins in
    omega (arith, ap length ((c.2).next_is ∙ ap (λ n. settled n to old) m.source), settled_length old (m.moving).leaving to h.distinct (m.moving).stands)

-- the joining node is there after the end of its move, and gone after its cancelling
end_or_cancel : (rf version : ℕ) (old next : Shard) (to : ℕ) → IsShard rf version old → Ends old next to → Cancels old next → ⊥
end_or_cancel rf version old next to h e c =
    let m = mover rf version old e.0 (e.2).from h e.1 (e.2).joins in
    let n = mover rf version old c.0 (c.2).from h c.1 (c.2).joins in
    let one : e.0 ≡ c.0 = the_joining old h.distinct n.moving e.0 e.1 ((e.2).joins).0 ∙ sym n.is_it in
    let stays : (e.0).node ≢ (e.2).from = λ f. leaving_not_joining old h.distinct m.moving (sym m.source ∙ sym f ∙ ap (λ (z : Assignment). z.node) m.is_it) in
    let there = subst (λ z. IsIn z (turned to Available e.0)) (sym (e.2).next_is ∙ (c.2).next_is) (settled_is (e.2).from to old e.0 e.1 stays) in
    let was = settled_was (c.0).node (c.2).from old (turned to Available e.0) there in
    was.2 (sym (turned_node (c.2).from Available was.0) ∙ ap (λ (z : Assignment). z.node) (sym was.3) ∙ turned_node to Available e.0 ∙ ap (λ (z : Assignment). z.node) one)

ends_alone : (rf version : ℕ) (old next : Shard) (to : ℕ) → IsShard rf version old → Ends old next to → IsShardStep (suc version) old next None → ⊥
ends_alone rf version old next to h e s =
    elim s as (λ _. ⊥) [
      | inl same ↦ absurd (omega (arith, end_length rf version old next to h e, ap length same))
      | inr k ↦ elim k as (λ _. ⊥) [
        | inl b ↦ absurd (omega (arith, end_length rf version old next to h e, begun_length (suc version) old next b))
        | inr c ↦ end_or_cancel rf version old next to h e c
      ]
    ]

pub one_end : (rf version : ℕ) (old next : Shard) (d e : Option ℕ) → IsShard rf version old → IsShardStep (suc version) old next d → IsShardStep (suc version) old next e → d ≡ e
one_end rf version old next None None h s t = refl
one_end rf version old next None (Some to) h s t = absurd (ends_alone rf version old next to h t s)
one_end rf version old next (Some to) None h s t = absurd (ends_alone rf version old next to h s t)
one_end rf version old next (Some to) (Some other) h s t =
    let n = mover rf version old t.0 (t.2).from h t.1 (t.2).joins in
    let one : s.0 ≡ t.0 = the_joining old h.distinct n.moving s.0 s.1 ((s.2).joins).0 ∙ sym n.is_it in
    ap Some (sym (s.2).node ∙ ap (λ (z : Assignment). z.node) one ∙ (t.2).node)
