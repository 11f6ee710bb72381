-- Transcripts with a line that makes a placement: what is answered as planned is caused, and nothing else is.
use Rattle.std.proofs.Common.{◌≡◌, ◌≢◌, ◌<◌, ◌≤◌, ◌+◌, ◌-◌, ℕ, zero, suc, true, false, List, [], ◌∷◌, length, Some, None, refl, ap, subst, inl, inr, arith, slice_get, IsTrue}
use Rattle.std.specs.Prelude.{◌⊎◌, codes}
use Rattle.std.specs.Option.{option_or}
use Rattle.std.specs.Ordering.{is_gt}
use Rattle.std.proofs.lemmas.Option.{same_Some}
use Rattle.m3_model.specs.Ascends.{Ascends}
use Rattle.m3_model.specs.Members.{IsIn}
use Rattle.m3_model.specs.Names.{is_name}
use Rattle.m3_model.specs.declared.act.Act.{Act}
use Rattle.m3_model.specs.declared.act.Act.TheVariants as act
use Rattle.m3_model.specs.declared.answer.Answer.{Answer}
use Rattle.m3_model.specs.declared.answer.Answer.TheVariants as answer
use Rattle.m3_model.specs.declared.placement.Assignment.{Assignment}
use Rattle.m3_model.specs.declared.placement.Instance.{Instance}
use Rattle.m3_model.specs.declared.placement.Placement.{Placement}
use Rattle.isolation_groups.specs.Groups.{group_of}
use Rattle.placement_core.specs.Lawful.{IsApart, IsLawful, IsServing, IsShard, IsSpread}
use Rattle.placement_core.specs.Shards.{Shard, is_steady, shard_at}
use Rattle.placement_plan.specs.Additions.{IsAddition, IsNextMove, MayGiveShard, MayMove, giving_cmp}
use Rattle.placement_plan.specs.Choices.{MayTake, taking_cmp}
use Rattle.placement_plan.specs.First.{HasGroups, first_instances}
use Rattle.placement_plan.specs.Nodes.{Has, load}
use Rattle.placement_plan.specs.Plans.{IsDrain, MovesAway}
use Rattle.placement_acts.specs.Acts.{IsInTheWay, LeadsTo, versions_due}
use Rattle.transcripts.specs.Caused.{Caused, CausedAt, kept_after}
use Rattle.transcripts.specs.Faults.{Fault}
use Rattle.transcripts.specs.Fates.{OfNode}
use Rattle.transcripts.specs.Placements.{HadReplica, has_replica}
use Rattle.transcripts.specs.Record.{inner_turns}
use Rattle.model_laws.specs.Building.{assigned, life_of, place_of_two, two_made, two_nodes, with_two_shards}
use Rattle.model_laws.proofs.CausedLives.{first_placement_of_two}
use Rattle.model_laws.proofs.EachLemmas.{◌also◌, ascends_by, each_in, texts_differ}
use Rattle.model_laws.proofs.PositionLemmas.{caused_by_positions, due, due_after, due_from, only, position_after}
use Rattle.move_laws.specs.Moving.{at_both, held, holding, joining, leaving}
use Rattle.move_laws.specs.Planned.{CancelIsRefused, a_drained, add_answered, add_c, c_takes_first, c_takes_none, c_takes_second, drain_a, drain_answered, init_answered, remove_answered, uneven, untaken_of}
use Rattle.move_laws.specs.Steps.{NamesSlotOf, StepLine}
use Rattle.move_laws.proofs.MovingLemmas.{of_name}
use Rattle.move_laws.proofs.StepLemmas.{led_is_printed, refused_is_answered}

-- ---- lawful placements

abbrev nodes : List Instance
nodes = first_instances two_nodes

-- whom one replica of a shard is on
steady_one : (version n t : ℕ) → t ≤ version → IsShard 1 version (holding n t ∷ [])
steady_one version n t within = record {
  distinct = ascends_by (λ (a b : Assignment). a.node ≢ b.node) (holding n t ∷ []) (tt also tt);
  tenures = each_in (λ (a : Assignment). a.tenure ≤ version) (holding n t ∷ []) (within also tt);
  replicas = inl (each_in IsServing (holding n t ∷ []) ((refl, refl) also tt), refl);
}

spread_one : (n t : ℕ) (i : Instance) → slice_get nodes n ≡ Some i → i.listed ≡ true → IsSpread nodes (holding n t ∷ [])
spread_one n t i stands listed = record {
  listed = each_in (λ (a : Assignment). (node : Instance) × (slice_get nodes a.node ≡ Some node) × (node.listed ≡ true)) (holding n t ∷ []) ((i, stands, listed) also tt);
  before = ascends_by (IsApart nodes) (holding n t ∷ []) (tt also tt);
  after = ascends_by (IsApart nodes) (holding n t ∷ []) (tt also tt);
}

-- the first shard is on a, and the second one on a node of the two
both_lawful : (version n t u : ℕ) (i : Instance) → slice_get nodes n ≡ Some i → i.listed ≡ true → t ≤ version → u ≤ version → version < 100 → IsLawful (at_both version (holding 0 t ∷ []) (holding n u ∷ []))
both_lawful version n t u i stands listed within also_within low = record {
  limits = record {
    some_replicas = omega arith;
    few_replicas = omega arith;
    some_shards = omega arith;
    few_shards = omega arith;
    few_nodes = omega arith;
    named = each_in (λ (x : Instance). IsTrue (is_name x.name) × IsTrue (is_name x.group)) nodes ((refl, refl) also (refl, refl) also tt);
    distinct = ascends_by (λ (x y : Instance). x.name ≢ y.name) nodes ((texts_differ (codes "a") (codes "b") refl refl also tt) also tt also tt);
    version_fits = omega (arith, low);
  };
  shards = each_in (IsShard 1 version) ((holding 0 t ∷ []) ∷ (holding n u ∷ []) ∷ []) (steady_one version 0 t within also steady_one version n u also_within also tt);
  spread = each_in (IsSpread nodes) ((holding 0 t ∷ []) ∷ (holding n u ∷ []) ∷ []) (spread_one 0 t _ refl refl also spread_one n u i stands listed also tt);
}

two_lawful : IsLawful place_of_two
two_lawful = both_lawful 1 1 1 1 _ refl refl (omega arith) (omega arith) (omega arith)

uneven_lawful : IsLawful uneven
uneven_lawful = both_lawful 4 0 1 1 _ refl refl (omega arith) (omega arith) (omega arith)

-- a line after the two shards were made has its cause
two-caused : (a : Act) (b : Answer) → CausedAt true [] [] None [] (position_after two_made a b) → Caused true (life_of (with_two_shards a b)) []
two-caused a b here = caused_by_positions true [] (life_of (with_two_shards a b)) tt refl (only (due true [] [] _ _ _ (first_placement_of_two, refl)) also only (due true [] [] _ _ _ tt) also only here also tt)

-- ---- a drain

-- b may take the shard of a
b_takes : MayTake nodes (assigned 0 ∷ []) 0 1
b_takes = record {
  instance = _;
  stands = refl;
  listed = refl;
  serves = refl;
  lacks = λ h. elim h as (λ _. ⊥) [ inl e ↦ absurd (omega (arith, e)) | inr none ↦ absurd none ];
  free = each_in (λ (a : Assignment). a.node ≢ 0 → group_of nodes a.node ≢ codes "g2") (assigned 0 ∷ []) ((λ other. absurd (other refl)) also tt);
}

-- and nobody else may
b_is_least : (load_at : ℕ → ℕ) (other : ℕ) → MayTake nodes (assigned 0 ∷ []) 0 other → is_gt (taking_cmp nodes load_at 1 1) ≡ false → is_gt (taking_cmp nodes load_at 1 other) ≡ false
b_is_least load_at zero may same = absurd (may.lacks (inl refl))
b_is_least load_at (suc zero) may same = same
b_is_least load_at (suc (suc n)) may same = let bad : None ≡ Some may.instance = may.stands in cc

drain_plan : IsDrain place_of_two (codes "a") a_drained
drain_plan = record {
  node = 0;
  lists = record { instance = _; stands = refl; named = refl; listed = refl };
  ready = each_in (λ (s : Shard). Has 0 s → is_steady s ≡ true) place_of_two.shards ((λ h. refl) also (λ h. refl) also tt);
  follows = record { version = refl; version_fits = omega arith; rf = refl; shards = record { count = refl; each = made } };
  instances = refl;
}
  where
    Made : ℕ → Shard → Shard → Type 0
    Made = MovesAway nodes place_of_two.shards a_drained.shards 2 0

    by : (k : ℕ) (a b x y : Shard) → Some x ≡ Some a → Some y ≡ Some b → Made k x y → Made k a b
    by k a b x y e f h = subst (λ z. Made k z b) (same_Some x a e) (subst (Made k x) (same_Some y b f) h)

    made : (k : ℕ) (a b : Shard) → slice_get place_of_two.shards k ≡ Some a → slice_get a_drained.shards k ≡ Some b → Made k a b
    made zero a b e f =
        by zero a b (assigned 0 ∷ []) (leaving 0 1 ∷ joining 1 2 0 ∷ []) e f
        (inr (inl refl, (1, record { may = b_takes; least = λ other may. b_is_least (λ n. load n place_of_two.shards) other may refl }, refl)))
    made (suc zero) a b e f = by (suc zero) a b (assigned 1 ∷ []) (assigned 1 ∷ []) e f (inl (λ h. elim h as (λ _. ⊥) [ inl is ↦ absurd (omega (arith, is)) | inr none ↦ absurd none ], refl))
    made (suc (suc k)) a b e f = let bad : None ≡ Some a = e in cc

drain_leads : LeadsTo (Some place_of_two) (kept_after None (inner_turns two_made) place_of_two) drain_a a_drained
drain_leads = record { free = refl; plan = drain_plan }

pub drained-caused : Caused true (drain_answered (answer.Placed a_drained 2)) []
drained-caused = two-caused drain_a (answer.Placed a_drained 2) (due true [] [] two_made drain_a (answer.Placed a_drained 2) (refl, drain_plan, refl))

drain_line : (b : Answer) (faults : List Fault) → Caused true (drain_answered b) faults → StepLine true (drain_answered b) faults two_made place_of_two drain_a b
drain_line b faults caused = record { caused = caused; after = []; in_run = refl; stands = refl; lawful = two_lawful; is_step = refl; limits = refl }

-- it is answered so, if not for want of memory or room, or by a slot of the next placement
drain_only : (b : Answer) (faults : List Fault) → Caused true (drain_answered b) faults → b ≢ answer.Memory → b ≢ answer.Full → (b ≡ answer.Placed a_drained 2) ⊎ NamesSlotOf faults None (position_after two_made drain_a b) a_drained b
drain_only b faults caused not_memory not_full =
    elim (led_is_printed (drain_answered b) faults two_made place_of_two drain_a b (drain_line b faults caused) a_drained drain_leads) as (λ _. (b ≡ answer.Placed a_drained 2) ⊎ NamesSlotOf faults None (position_after two_made drain_a b) a_drained b) [
      | inl free ↦ elim free as (λ _. (b ≡ answer.Placed a_drained 2) ⊎ NamesSlotOf faults None (position_after two_made drain_a b) a_drained b) [ inl e ↦ absurd (not_memory e) | inr e ↦ absurd (not_full e) ]
      | inr told ↦ told
    ]

pub group_left-refused : (faults : List Fault) → ¬ Caused true (drain_answered (answer.Group 0)) faults
group_left-refused faults caused = elim (drain_only (answer.Group 0) faults caused (λ e. cc) (λ e. cc)) as (λ _. ⊥) [ inl e ↦ cc | inr none ↦ none ]

pub idle_busy-refused : (faults : List Fault) → ¬ Caused true (drain_answered (answer.Busy (codes "b") 0)) faults
idle_busy-refused faults caused = elim (drain_only (answer.Busy (codes "b") 0) faults caused (λ e. cc) (λ e. cc)) as (λ _. ⊥) [ inl e ↦ cc | inr none ↦ none ]

pub early_limit-refused : (faults : List Fault) → ¬ Caused true (drain_answered (answer.Limit 1024)) faults
early_limit-refused faults caused = elim (drain_only (answer.Limit 1024) faults caused (λ e. cc) (λ e. cc)) as (λ _. ⊥) [ inl e ↦ cc | inr none ↦ none ]

pub old_place-refused : (faults : List Fault) → ¬ Caused true (drain_answered (answer.Placed place_of_two 1)) faults
old_place-refused faults caused = elim (drain_only (answer.Placed place_of_two 1) faults caused (λ e. cc) (λ e. cc)) as (λ _. ⊥) [ inl e ↦ (let bad : 1 ≡ 2 = ap versions_of e in absurd (omega (arith, bad))) | inr none ↦ none ]
  where
    versions_of : Answer → ℕ
    versions_of (answer.Placed x v) = v
    versions_of _ = 0

-- ---- disks

pub new_slot-caused : Caused true (drain_answered (answer.Disk (codes "b") 0)) (untaken_of 1 ∷ [])
new_slot-caused =
    caused_by_positions true (untaken_of 1 ∷ []) (drain_answered (answer.Disk (codes "b") 0)) ((λ none. none), tt) refl (
    only (due true (untaken_of 1 ∷ []) [] _ _ _ (first_placement_of_two, refl))
    also only (due true (untaken_of 1 ∷ []) [] _ _ _ tt)
    also only (due true (untaken_of 1 ∷ []) [] two_made drain_a (answer.Disk (codes "b") 0) (
      a_drained,
      drain_plan,
      record {
        node = 1;
        named = record { instance_ = _; stands = refl; holds = refl };
        member = refl;
        is_new = λ had. let bad : false ≡ true = each_in (λ (q : Placement). IsTrue (has_replica (Some q) 0 1) → false ≡ true) (place_of_two ∷ []) ((λ h. h) also tt) had.place had.known had.member in cc;
        untaken = inl refl;
      },
    ))
    also tt)

pub old_slot-refused : (faults : List Fault) → ¬ Caused true (drain_answered (answer.Disk (codes "a") 0)) faults
old_slot-refused faults caused = elim (drain_only (answer.Disk (codes "a") 0) faults caused (λ e. cc) (λ e. cc)) as (λ _. ⊥) [
  | inl e ↦ cc
  | inr slot ↦ of_node slot.node slot.named slot.is_new
]
  where
    of_node : (node : ℕ) → OfNode a_drained node (λ own. own ≡ codes "a") → ¬ HadReplica None (inner_turns two_made) 0 node → ⊥
    of_node zero named is_new = is_new (record { place = place_of_two; known = inl refl; member = refl })
    of_node (suc zero) named is_new = texts_differ (codes "b") (codes "a") refl refl (of_name a_drained (λ own. own ≡ codes "a") 1 _ refl named)
    of_node (suc (suc n)) named is_new = let bad : None ≡ Some named.instance_ = named.stands in cc

-- ---- a removal

abbrev remove_a : Act
remove_a = act.Remove (codes "a")

-- a has the first shard
a_has : IsInTheWay (Some place_of_two) remove_a (answer.Busy (codes "a") 0)
a_has = (0, (record { instance = _; stands = refl; named = refl; listed = refl }, record { shard = assigned 0 ∷ []; stands = refl; holds = inl refl; first = λ k earlier lt at. absurd (omega (arith, lt)) }), refl)

pub busy-caused : Caused true (remove_answered (answer.Busy (codes "a") 0)) []
busy-caused = two-caused remove_a (answer.Busy (codes "a") 0) (due true [] [] two_made remove_a (answer.Busy (codes "a") 0) a_has)

-- it is refused so, if not for want of memory or room
remove_only : (b : Answer) (faults : List Fault) → Caused true (remove_answered b) faults → b ≢ answer.Memory → b ≢ answer.Full → b ≡ answer.Busy (codes "a") 0
remove_only b faults caused not_memory not_full =
    elim (refused_is_answered (remove_answered b) faults two_made place_of_two remove_a b (record { caused = caused; after = []; in_run = refl; stands = refl; lawful = two_lawful; is_step = refl; limits = refl }) (answer.Busy (codes "a") 0) a_has) as (λ _. b ≡ answer.Busy (codes "a") 0) [
      | inl free ↦ elim free as (λ _. b ≡ answer.Busy (codes "a") 0) [ inl e ↦ absurd (not_memory e) | inr e ↦ absurd (not_full e) ]
      | inr told ↦ told
    ]

-- the node and the shard that an answer names
abbrev named_by : Answer → List ℕ × ℕ
named_by (answer.Busy name shard) = (name, shard)
named_by _ = ([], 0)

pub other_shard-refused : (faults : List Fault) → ¬ Caused true (remove_answered (answer.Busy (codes "a") 1)) faults
other_shard-refused faults caused =
    let bad : 1 ≡ 0 = ap (λ b. (named_by b).1) (remove_only (answer.Busy (codes "a") 1) faults caused (λ e. cc) (λ e. cc)) in
    absurd (omega (arith, bad))

pub other_node-refused : (faults : List Fault) → ¬ Caused true (remove_answered (answer.Busy (codes "b") 0)) faults
other_node-refused faults caused = texts_differ (codes "b") (codes "a") refl refl (ap (λ b. (named_by b).0) (remove_only (answer.Busy (codes "b") 0) faults caused (λ e. cc) (λ e. cc)))

pub busy_removed-refused : (faults : List Fault) (next : Placement) (version : ℕ) → ¬ Caused true (remove_answered (answer.Placed next version)) faults
busy_removed-refused faults next version caused = let bad : answer.Placed next version ≡ answer.Busy (codes "a") 0 = remove_only (answer.Placed next version) faults caused (λ e. cc) (λ e. cc) in cc

-- ---- an addition

abbrev three : List Instance
three = c_takes_first.instances

-- c may take the first shard, or the second one, from a
c_takes : MayTake three (holding 0 1 ∷ []) 0 2
c_takes = record {
  instance = _;
  stands = refl;
  listed = refl;
  serves = refl;
  lacks = λ h. elim h as (λ _. ⊥) [ inl e ↦ absurd (omega (arith, e)) | inr none ↦ absurd none ];
  free = each_in (λ (a : Assignment). a.node ≢ 0 → group_of three a.node ≢ codes "g3") (holding 0 1 ∷ []) ((λ other. absurd (other refl)) also tt);
}

may_move : MayMove three 0 2 (holding 0 1 ∷ [])
may_move = record { steady = refl; has = inl refl; takes = c_takes }

abbrev loads : ℕ → ℕ
loads n = load n uneven.shards

first_move : IsNextMove loads three uneven.shards 2 0 0
first_move = record {
  giver = record { may = record { within = omega arith; heavy = (let heavy : 2 ≤ 2 = omega arith in heavy); number = 0; shard = holding 0 1 ∷ []; stands = refl; moves = may_move }; first = giver };
  shard = record { shard = holding 0 1 ∷ []; stands = refl; holds = may_move; first = λ k earlier lt at. absurd (omega (arith, lt)) };
}
  where
    giver : (other : ℕ) → MayGiveShard loads three uneven.shards 2 other → is_gt (giving_cmp three loads 0 other) ≡ false
    giver zero may = refl
    giver (suc zero) may = let heavy : 2 ≤ 0 = may.heavy in absurd (omega (arith, heavy))
    giver (suc (suc zero)) may = let heavy : 2 ≤ 0 = may.heavy in absurd (omega (arith, heavy))
    giver (suc (suc (suc n))) may = let within : suc (suc (suc n)) < 3 = may.within in absurd (omega (arith, within))

add_plan : IsAddition uneven (codes "c") (codes "g3") c_takes_first
add_plan = record {
  is_new = refl;
  room = λ unknown. omega arith;
  node = 2;
  joins = inr (each_in (λ (i : Instance). i.name ≢ codes "c") nodes (texts_differ (codes "a") (codes "c") refl refl also texts_differ (codes "b") (codes "c") refl refl also tt), refl, refl);
  version = refl;
  version_fits = omega arith;
  rf = refl;
  moves = (0, 0) ∷ [];
  rebalances = (first_move, (refl, no_more));
}
  where
    no_more : (from : ℕ) → ¬ MayGiveShard (λ n. load n c_takes_first.shards) three c_takes_first.shards 2 from
    no_more zero may = let heavy : 3 ≤ 1 = may.heavy in absurd (omega (arith, heavy))
    no_more (suc zero) may = let heavy : 3 ≤ 0 = may.heavy in absurd (omega (arith, heavy))
    no_more (suc (suc zero)) may = let heavy : 3 ≤ 1 = may.heavy in absurd (omega (arith, heavy))
    no_more (suc (suc (suc n))) may = let within : suc (suc (suc n)) < 3 = may.within in absurd (omega (arith, within))

pub added-caused : Caused true (add_answered (answer.Placed c_takes_first 5)) []
added-caused = caused_by_positions true [] (add_answered (answer.Placed c_takes_first 5)) tt refl (only (due_from true [] [] (Some (held uneven)) [] [] add_c (answer.Placed c_takes_first 5) (refl, add_plan, refl)) also tt)

-- no other placement is printed, and no other version
add_only : (faults : List Fault) (next : Placement) (version : ℕ) → Caused true (add_answered (answer.Placed next version)) faults → (next ≡ c_takes_first) × (version ≡ 5)
add_only faults next version caused =
    let b = answer.Placed next version in
    let l : StepLine true (add_answered b) faults [] uneven add_c b = record { caused = caused; after = []; in_run = refl; stands = refl; lawful = uneven_lawful; is_step = refl; limits = (refl, refl) } in
    elim (led_is_printed (add_answered b) faults [] uneven add_c b l c_takes_first (record { free = refl; plan = add_plan })) as (λ _. (next ≡ c_takes_first) × (version ≡ 5)) [
      | inl free ↦ elim free as (λ _. (next ≡ c_takes_first) × (version ≡ 5)) [ inl e ↦ cc | inr e ↦ cc ]
      | inr told ↦ elim told as (λ _. (next ≡ c_takes_first) × (version ≡ 5)) [ inl e ↦ (printed_same e, told_same e) | inr none ↦ absurd none ]
    ]
  where
    placed_by : Answer → Placement × ℕ
    placed_by (answer.Placed x v) = (x, v)
    placed_by _ = (uneven, 0)

    printed_same : answer.Placed next version ≡ answer.Placed c_takes_first 5 → next ≡ c_takes_first
    printed_same e = ap (λ b. (placed_by b).0) e

    told_same : answer.Placed next version ≡ answer.Placed c_takes_first 5 → version ≡ 5
    told_same e = ap (λ b. (placed_by b).1) e

-- how many replicas the first shard has
abbrev first_length : Placement → ℕ
first_length place = length (shard_at place 0)

pub second_moved-refused : (faults : List Fault) → ¬ Caused true (add_answered (answer.Placed c_takes_second 5)) faults
second_moved-refused faults caused = let bad : 1 ≡ 2 = ap first_length (add_only faults c_takes_second 5 caused).0 in absurd (omega (arith, bad))

pub none_moved-refused : (faults : List Fault) → ¬ Caused true (add_answered (answer.Placed c_takes_none 5)) faults
none_moved-refused faults caused = let bad : 1 ≡ 2 = ap first_length (add_only faults c_takes_none 5 caused).0 in absurd (omega (arith, bad))

pub other_version-refused : (faults : List Fault) → ¬ Caused true (add_answered (answer.Placed c_takes_first 4)) faults
other_version-refused faults caused = let bad : 4 ≡ 5 = (add_only faults c_takes_first 4 caused).1 in absurd (omega (arith, bad))

-- ---- the other placement is lawful

abbrev moving : Shard
moving = leaving 0 1 ∷ joining 2 5 0 ∷ []

moving_shard : IsShard 1 5 moving
moving_shard = record {
  distinct = ascends_by (λ (a b : Assignment). a.node ≢ b.node) moving (((λ e. absurd (omega (arith, e))) also tt) also tt also tt);
  tenures = each_in (λ (a : Assignment). a.tenure ≤ 5) moving (omega arith also omega arith also tt);
  replicas = inr (
    record {
      leaving = leaving 0 1;
      stands = inl refl;
      is_leaving = (refl, refl);
      joining = joining 2 5 0;
      joins = inr (inl refl);
      is_joining = (refl, refl);
      others = each_in (λ (a : Assignment). a.node ≢ 0 → a.node ≢ 2 → IsServing a) moving ((λ nl nj. absurd (nl refl)) also (λ nl nj. absurd (nj refl)) also tt);
    },
    refl,
  );
}

second_spread : (shard : Shard) → IsIn c_takes_second.shards shard → IsSpread three shard
second_spread = each_in (IsSpread three) c_takes_second.shards (
    record {
      listed = each_in Listed (holding 0 1 ∷ []) ((_, refl, refl) also tt);
      before = ascends_by (IsApart three) (holding 0 1 ∷ []) (tt also tt);
      after = ascends_by (IsApart three) (holding 0 1 ∷ []) (tt also tt);
    }
    also record {
      listed = each_in Listed moving ((_, refl, refl) also (_, refl, refl) also tt);
      before = ascends_by (IsApart three) (leaving 0 1 ∷ []) (tt also tt);
      after = ascends_by (IsApart three) (joining 2 5 0 ∷ []) (tt also tt);
    }
    also tt)
  where
    Listed : Assignment → Type 0
    Listed a = (node : Instance) × (slice_get three a.node ≡ Some node) × (node.listed ≡ true)

pub second-lawful : IsLawful c_takes_second
second-lawful = record {
  limits = record {
    some_replicas = omega arith;
    few_replicas = omega arith;
    some_shards = omega arith;
    few_shards = omega arith;
    few_nodes = omega arith;
    named = each_in (λ (x : Instance). IsTrue (is_name x.name) × IsTrue (is_name x.group)) three ((refl, refl) also (refl, refl) also (refl, refl) also tt);
    distinct = ascends_by (λ (x y : Instance). x.name ≢ y.name) three ((texts_differ (codes "a") (codes "b") refl refl also texts_differ (codes "a") (codes "c") refl refl also tt) also (texts_differ (codes "b") (codes "c") refl refl also tt) also tt also tt);
    version_fits = omega arith;
  };
  shards = each_in (IsShard 1 5) c_takes_second.shards (steady_one 5 0 1 (omega arith) also moving_shard also tt);
  spread = second_spread;
}

-- ---- kept versions

pub last_version : (first : ℕ) → CancelIsRefused first (first + 1022) None
last_version first versions rules stopped =
    let kept : suc (first + 1022) - first ≡ 1023 = omega arith in
    ap (λ (k : ℕ). option_or (versions_due k (act.Cancel (codes "a"))) None) kept

pub no_version : (first : ℕ) → CancelIsRefused first (first + 1023) (Some (answer.Limit 1024))
no_version first versions rules stopped =
    let kept : suc (first + 1023) - first ≡ 1024 = omega arith in
    ap (λ (k : ℕ). option_or (versions_due k (act.Cancel (codes "a"))) None) kept

-- ---- groups of `init`

three_groups : (ns : List ℕ) → length ns ≡ 3 → ((n : ℕ) → IsIn ns n → n < 2) → Ascends (λ a b. group_of nodes a ≢ group_of nodes b) ns → ⊥
three_groups [] e within differ = absurd (omega (arith, e))
three_groups (x ∷ []) e within differ = absurd (omega (arith, e))
three_groups (x ∷ y ∷ []) e within differ = absurd (omega (arith, e))
three_groups (x ∷ y ∷ z ∷ ns) e within differ = by x y z (within x (inl refl)) (within y (inr (inl refl))) (within z (inr (inr (inl refl)))) (differ.0 y (inl refl)) (differ.0 z (inr (inl refl))) (differ.1.0 z (inl refl))
  where
    Apart : ℕ → ℕ → Type 0
    Apart a b = group_of nodes a ≢ group_of nodes b

    by : (a b c : ℕ) → a < 2 → b < 2 → c < 2 → Apart a b → Apart a c → Apart b c → ⊥
    by zero zero c la lb lc ab ac bc = ab refl
    by zero (suc zero) zero la lb lc ab ac bc = ac refl
    by zero (suc zero) (suc zero) la lb lc ab ac bc = bc refl
    by (suc zero) zero zero la lb lc ab ac bc = bc refl
    by (suc zero) zero (suc zero) la lb lc ab ac bc = ac refl
    by (suc zero) (suc zero) c la lb lc ab ac bc = ab refl
    by (suc (suc a)) b c la lb lc ab ac bc = absurd (omega (arith, la))
    by a (suc (suc b)) c la lb lc ab ac bc = absurd (omega (arith, lb))
    by a b (suc (suc c)) la lb lc ab ac bc = absurd (omega (arith, lc))

pub few_groups-caused : Caused true (init_answered 3 1 (answer.Group 0)) []
few_groups-caused = caused_by_positions true [] (init_answered 3 1 (answer.Group 0)) tt refl (only (due true [] [] [] (act.Init 3 1 0 two_nodes) (answer.Group 0) (refl, λ groups. three_groups groups.nodes groups.all groups.within groups.differ)) also tt)

pub enough_groups-refused : (faults : List Fault) → ¬ Caused true (init_answered 1 2 (answer.Group 0)) faults
enough_groups-refused faults caused =
    let few : ¬ HasGroups 1 nodes = (due_after [] (act.Init 1 2 0 two_nodes) (answer.Group 0) [] (λ e. cc) (λ e. cc) caused).1 in
    few (record { nodes = 0 ∷ []; all = refl; within = each_in (λ (n : ℕ). n < length nodes) (0 ∷ []) (omega arith also tt); differ = ascends_by (λ (a b : ℕ). group_of nodes a ≢ group_of nodes b) (0 ∷ []) (tt also tt) })

pub later_shard-refused : (faults : List Fault) → ¬ Caused true (init_answered 3 2 (answer.Group 1)) faults
later_shard-refused faults caused = let bad : 1 ≡ 0 = (due_after [] (act.Init 3 2 0 two_nodes) (answer.Group 1) [] (λ e. cc) (λ e. cc) caused).0 in absurd (omega (arith, bad))
