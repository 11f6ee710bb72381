-- Why each answer of the accepted transcripts has its cause.
use Rattle.std.proofs.Common.{◌≡◌, ◌≢◌, ◌+◌, ◌<◌, ◌≤◌, ◌∙◌, ℕ, zero, suc, ℤ, Bool, true, false, cond, List, [], ◌∷◌, length, nat_lt, take, get_or, refl, sym, subst, ap, inl, inr, arith}
use Rattle.std.proofs.lemmas.Bool.Decides.{nat_tests}
use Rattle.std.proofs.lemmas.Option.{slice_get-get_or, same_Some}
use Rattle.std.specs.Prelude.{Some, None, pos, slice_get, codes, option_map, count_by, ◌⊎◌, nat_eq, if◌then◌else◌, ◌&&◌}
use Rattle.std.specs.List.{list_all}
use Rattle.std.specs.Ordering.{is_gt}
use Rattle.std.specs.Option.{option_or}
use Rattle.std.proofs.lemmas.Bool.{and_parts}
use Rattle.transcripts.specs.Caused.{Caused, CausedAt, IsDueBy, refusal_after}
use Rattle.transcripts.specs.Calls.{call_of}
use Rattle.transcripts.specs.Levels.{IsAcked, MissesLevel, IsFoundFor}
use Rattle.transcripts.specs.Waiting.{IsBegunFor}
use Rattle.transcripts.specs.Reasons.{MayRefuse, MayServe, TakesPoint, IsOutside}
use Rattle.placement_core.specs.NodeNames.{IsNamedBelow}
use Rattle.transcripts.specs.Fates.{reaches}
use Rattle.transcripts.specs.Record.{TurnPosition, inner_turns}
use Rattle.transcripts.specs.Faults.{Fault, AreDifferent}
use Rattle.m3_model.specs.Rules.{IsPast, IsFuture, namespace_position}
use Rattle.m3_model.specs.declared.act.ReadLevel.TheVariants as read_level
use Rattle.m3_model.specs.Hash.{murmur3, shard_of}
use Rattle.m3_model.specs.Members.{IsIn}
use Rattle.transcripts.specs.Placements.{counted_nodes, IsCounted}
use Rattle.placement_core.specs.Shards.{Shard}
use Rattle.isolation_groups.specs.Groups.{group_of}
use Rattle.placement_plan.specs.Choices.{taking_cmp}
use Rattle.placement_plan.specs.First.{IsInitial, IsPlacedShard, IsPlaced, first_at, first_instances}
use Rattle.placement_plan.specs.Nodes.{load}
use Rattle.transcripts.specs.Deliveries.{LateMessage}
use Rattle.m3_model.specs.Tags.{IsBelow}
use Rattle.m3_model.specs.declared.act.Act.{Act}
use Rattle.m3_model.specs.declared.act.Act.TheVariants as act
use Rattle.m3_model.specs.declared.act.WriteLevel.TheVariants as write_level
use Rattle.m3_model.specs.declared.answer.Answer.{Answer}
use Rattle.m3_model.specs.declared.answer.Answer.TheVariants as answer
use Rattle.m3_model.specs.declared.placement.Assignment.{Assignment}
use Rattle.m3_model.specs.declared.placement.Instance.{Instance}
use Rattle.m3_model.specs.declared.reason.Reason.{Reason}
use Rattle.m3_model.specs.declared.reason.Reason.TheVariants as reason
use Rattle.m3_model.specs.declared.point.Point.{Point}
use Rattle.m3_model.specs.declared.rules.Rules.{Rules}
use Rattle.m3_model.specs.declared.rules.Space.{Space}
use Rattle.transcripts.specs.Points.{point_of}
use Rattle.m3_model.specs.declared.turn.Turn.{Turn}
use Rattle.model_laws.specs.Building.{life_of, made, named, begun, at_moment, eight_made, with_eight, two_made, with_two_shards, place, place_of_two, nodes, two_nodes, write, write_in, fetch, acks, unmet, by_each, space, narrow}
use Rattle.model_laws.specs.Accepted.{write_then_read, edge_writes, narrow_writes, unmet_then_read}
use Rattle.model_laws.proofs.EachLemmas.{Each, EachPair, each_in, ascends_by, texts_differ, ◌also◌}
use Rattle.model_laws.proofs.PositionLemmas.{EachSplit, EachInLine, DeliversOnce, is_not_whole, caused_with, caused_by_positions, position_after, only, due, stands_then}
use Rattle.model_laws.proofs.SampleLemmas.{rules_when, StandsAt, stands, reached_by, WindowRefuses, call_with, begun_by}

-- a fact of each element with its number
abbrev pub EachAt : {X : Type 0} → (ℕ → X → Type 0) → List X → Type 0
EachAt P [] = Unit {0}
EachAt P (x ∷ xs) = P 0 x × EachAt (λ n. P (suc n)) xs

pub each_at : {X : Type 0} (P : ℕ → X → Type 0) (xs : List X) → EachAt P xs → (i : ℕ) (x : X) → slice_get xs i ≡ Some x → P i x
each_at P [] each i x e = cc
each_at P (y ∷ ys) each zero x e = subst (P zero) (same_Some y x e) each.0
each_at P (y ∷ ys) each (suc i) x e = each_at (λ n. P (suc n)) ys each.1 i x e

-- two nodes that are known
below_by : (a b : ℕ) (one other : Instance) → slice_get place.instances a ≡ Some one → slice_get place.instances b ≡ Some other → IsBelow one.name other.name → IsNamedBelow place a b
below_by a b one other of_one of_other below = record { one = one; other = other; of_one = of_one; of_other = of_other; below = below }

-- a node of three that may hold a shard which these have is the least loaded where each other one is past it, or has it
placed_on : (instances : List Instance) (load_at : ℕ → ℕ) (shard : Shard) (node : ℕ) → node < length instances → Each (λ a. group_of instances a.node ≢ group_of instances node) shard
    → EachAt (λ other i. (is_gt (taking_cmp instances load_at node other) ≡ false) ⊎ ((a : Assignment) × IsIn shard a × (group_of instances a.node ≡ group_of instances other))) instances
    → IsPlaced instances load_at shard (first_at node)
placed_on instances load_at shard node within free others = (
  node,
  record {
    may = record { within = within; free = each_in (λ a. group_of instances a.node ≢ group_of instances node) shard free };
    least = λ other may.
        elim (each_at (λ other i. (is_gt (taking_cmp instances load_at node other) ≡ false) ⊎ ((a : Assignment) × IsIn shard a × (group_of instances a.node ≡ group_of instances other))) instances others other (get_or instances other nobody) (slice_get-get_or instances other nobody may.within))
        as (λ _. is_gt (taking_cmp instances load_at node other) ≡ false) [ inl least ↦ least | inr has ↦ absurd (may.free has.0 has.1 has.2) ];
  },
  refl,
)
  where
    nobody : Instance
    nobody = record { name = []; group = []; listed = false; drained = false }

-- the first placement: each replica on the least loaded node, by name, whose group is free
first_shard : IsPlacedShard 3 (first_instances nodes) [] (first_at 0 ∷ first_at 1 ∷ first_at 2 ∷ [])
first_shard = record {
  all = refl;
  each = each_at (λ r a. IsPlaced (first_instances nodes) (λ n. load n (take r three ∷ [])) (take r three) a) three (
      placed_on _ _ _ 0 (omega arith) tt (inl refl also inl refl also inl refl also tt)
      also placed_on _ _ _ 1 (omega arith) (texts_differ _ _ refl refl also tt) (inr (first_at 0, inl refl, refl) also inl refl also inl refl also tt)
      also placed_on _ _ _ 2 (omega arith) (texts_differ _ _ refl refl also texts_differ _ _ refl refl also tt) (inr (first_at 0, inl refl, refl) also inr (first_at 1, inr (inl refl), refl) also inl refl also tt)
      also tt);
}
  where
    three : List Assignment
    three = first_at 0 ∷ first_at 1 ∷ first_at 2 ∷ []

pub first_placement : IsInitial 3 1 nodes place
first_placement = record {
  version = refl;
  rf_is = refl;
  instances = refl;
  count = refl;
  each = each_at (λ s shard. IsPlacedShard 3 (first_instances nodes) (take s place.shards) shard) place.shards (first_shard also tt);
}

-- each of the three nodes counts for the only shard
pub counted_0 : IsCounted place 0 0
counted_0 = inl refl

pub counted_1 : IsCounted place 0 1
counted_1 = inr (inl refl)

pub counted_2 : IsCounted place 0 2
counted_2 = inr (inr (inl refl))

pub below_0_1 : IsNamedBelow place 0 1
below_0_1 = below_by _ _ _ _ refl refl refl

pub below_0_2 : IsNamedBelow place 0 2
below_0_2 = below_by _ _ _ _ refl refl refl

pub below_1_2 : IsNamedBelow place 1 2
below_1_2 = below_by _ _ _ _ refl refl refl

-- a point of `hello` in this namespace
abbrev point_in : ℕ → ℕ → ℤ → Point
point_in k t v = record { ns = k; id = codes "hello"; t = t; v = v }

-- a write into a namespace that is known has its point
point_of-write : (spaces : List Space) (ns : List ℕ) (k t : ℕ) (v : ℤ) → namespace_position ns spaces ≡ Some k → point_of spaces (write_in ns t v) ≡ Some (point_in k t v)
point_of-write spaces ns k t v at = ap (option_map (λ n. point_in n t v)) at

-- a point inside the window of its namespace is one that is taken
pub takes_by : (rules : Rules) (ns : List ℕ) (k : ℕ) (within : Space) (t : ℕ) (v : ℤ) → namespace_position ns rules.spaces ≡ Some k → slice_get rules.spaces k ≡ Some within → rules.now < t + within.past → t < rules.now + within.future
    → TakesPoint rules (write_in ns t v)
takes_by rules ns k within t v at stood not_past not_future =
    record { point = point_in k t v; of_act = point_of-write rules.spaces ns k t v at; in_window = record { space = within; stands = stood; not_past = not_past; not_future = not_future } }

past_by : (rules : Rules) (ns : List ℕ) (k : ℕ) (within : Space) (t : ℕ) (v : ℤ) → namespace_position ns rules.spaces ≡ Some k → slice_get rules.spaces k ≡ Some within → t + within.past ≤ rules.now → WindowRefuses rules (write_in ns t v) reason.Past
past_by rules ns k within t v at stood too_old = record { point = point_in k t v; of_act = point_of-write rules.spaces ns k t v at; outside = record { space = within; stands = stood; too_old = too_old } }

future_by : (rules : Rules) (ns : List ℕ) (k : ℕ) (within : Space) (t : ℕ) (v : ℤ) → namespace_position ns rules.spaces ≡ Some k → slice_get rules.spaces k ≡ Some within → rules.now + within.future ≤ t → WindowRefuses rules (write_in ns t v) reason.Future
future_by rules ns k within t v at stood too_new = record { point = point_in k t v; of_act = point_of-write rules.spaces ns k t v at; outside = record { space = within; stands = stood; too_new = too_new } }

-- all three nodes take a write inside the window of its namespace
all_take : (lines : List Turn) (rules : Rules) (ns : List ℕ) (k : ℕ) (within : Space) (t : ℕ) (v : ℤ) → StandsAt lines rules → namespace_position ns rules.spaces ≡ Some k → slice_get rules.spaces k ≡ Some within
    → rules.now < t + within.past → t < rules.now + within.future → IsAcked None (position_after lines (write_in ns t v) (acks (0 ∷ 1 ∷ 2 ∷ []))) (codes "hello") write_level.Majority None (0 ∷ 1 ∷ 2 ∷ [])
unfolding murmur3
all_take lines rules ns k within t v stood at in_spaces not_past not_future = record {
  place = place;
  may_use = stands_then lines (write_in ns t v) (acks (0 ∷ 1 ∷ 2 ∷ [])) place stood.place_is;
  counted = λ shard asked.
      let zero_is : shard ≡ 0 = subst (λ seed. shard ≡ shard_of (codes "hello") seed 1) stood.seed_is asked in
      subst (λ k. (node : ℕ) → IsIn (0 ∷ 1 ∷ 2 ∷ []) node → IsCounted place k node) (sym zero_is) (each_in (IsCounted place 0) (0 ∷ 1 ∷ 2 ∷ []) (counted_0 also counted_1 also counted_2 also tt));
  by_name = ascends_by (IsNamedBelow place) (0 ∷ 1 ∷ 2 ∷ []) ((below_0_1 also below_0_2 also tt) also (below_1_2 also tt) also tt also tt);
  reached = each_in (λ node. reaches (position_after lines (write_in ns t v) (acks (0 ∷ 1 ∷ 2 ∷ []))) place node ≡ true) (0 ∷ 1 ∷ 2 ∷ []) (reached_by lines rules (write_in ns t v) (acks (0 ∷ 1 ∷ 2 ∷ [])) 0 _ stood refl also reached_by lines rules (write_in ns t v) (acks (0 ∷ 1 ∷ 2 ∷ [])) 1 _ stood refl also reached_by lines rules (write_in ns t v) (acks (0 ∷ 1 ∷ 2 ∷ [])) 2 _ stood refl also tt);
  begun = λ shard asked. each_in (IsBegunFor None (position_after lines (write_in ns t v) (acks (0 ∷ 1 ∷ 2 ∷ []))) place shard) (0 ∷ 1 ∷ 2 ∷ []) (begun_by lines rules (write_in ns t v) (acks (0 ∷ 1 ∷ 2 ∷ [])) shard 0 _ stood refl also begun_by lines rules (write_in ns t v) (acks (0 ∷ 1 ∷ 2 ∷ [])) shard 1 _ stood refl also begun_by lines rules (write_in ns t v) (acks (0 ∷ 1 ∷ 2 ∷ [])) shard 2 _ stood refl also tt);
  enough = omega arith;
  takes = subst (λ r. TakesPoint r (write_in ns t v)) (sym stood.rules_is) (takes_by rules ns k within t v at in_spaces not_past not_future);
}

-- a node that counts for the only shard is reached
counted_reached : (lines : List Turn) (rules : Rules) (a : Act) (b : Answer) (node : ℕ) → StandsAt lines rules → IsCounted place 0 node → reaches (position_after lines a b) place node ≡ true
counted_reached lines rules a b node stood counts =
    each_in (λ x. reaches (position_after lines a b) place x ≡ true) (0 ∷ 1 ∷ 2 ∷ []) (reached_by lines rules a b 0 _ stood refl also reached_by lines rules a b 1 _ stood refl also reached_by lines rules a b 2 _ stood refl also tt) node counts

-- what a moment lets a replica refuse is a reason
refuses_by : (lines : List Turn) (rules : Rules) (a : Act) (b : Answer) (node : ℕ) (why : Reason) → StandsAt lines rules → WindowRefuses rules a why → MayRefuse true [] None (position_after lines a b) place 0 node why
refuses_by lines rules a b node reason.Past stood may = subst (λ r. IsOutside IsPast r a) (sym stood.rules_is) may
refuses_by lines rules a b node reason.Future stood may = subst (λ r. IsOutside IsFuture r a) (sym stood.rules_is) may
refuses_by lines rules a b node reason.Memory stood may = tt
refuses_by lines rules a b node _ stood may = absurd may

count_three : (test : ℕ → Bool) → test 0 ≡ true → test 1 ≡ true → test 2 ≡ true → count_by test (0 ∷ 1 ∷ 2 ∷ []) ≡ 3
count_three test one two three = rw (one, two, three) refl

-- three nodes are reached by a fetch, and that is enough
three_reached : (lines : List Turn) (rules : Rules) (a : Act) (b : Answer) → StandsAt lines rules → count_by (reaches (position_after lines a b) place) (counted_nodes place 0) ≡ 3
three_reached lines rules a b stood =
    count_three (reaches (position_after lines a b) place) (reached_by lines rules a b 0 _ stood refl) (reached_by lines rules a b 1 _ stood refl) (reached_by lines rules a b 2 _ stood refl)

found_by : (lines : List Turn) (rules : Rules) (from to : ℕ) (b : Answer) → StandsAt lines rules → IsFoundFor true [] None (position_after lines (fetch from to) b) (Some (codes "hello")) read_level.Majority None false
unfolding murmur3
found_by lines rules from to b stood = record {
  place = place;
  may_use = stands_then lines (fetch from to) b place stood.place_is;
  enough = λ shard asked.
      let zero_is : shard ≡ 0 = subst (λ seed. shard ≡ shard_of (codes "hello") seed 1) stood.seed_is asked in
      subst (λ k. 2 ≤ count_by (reaches (position_after lines (fetch from to) b) place) (counted_nodes place k)) (sym zero_is)
      (let three = three_reached lines rules (fetch from to) b stood in omega arith);
  may_be_short = λ e. cc;
  not_short = λ e level. cc;
}

-- fewer than the two nodes that are needed did as a call of `hello` asked
unmet_by : (lines : List Turn) (rules : Rules) (a : Act) (needed : ℕ → ℕ) (got : ℕ) (reasons : List (ℕ × Reason)) → StandsAt lines rules → call_of a ≡ Some (call_with needed) → needed 3 ≡ 2 → got < 2 → got + length reasons ≡ 3
    → Each (λ r. IsCounted place 0 r.0) reasons → EachPair (λ r s. IsNamedBelow place r.0 s.0) reasons → Each (λ r. WindowRefuses rules a r.1) reasons → (0 < got → MayServe rules a)
    → MissesLevel true [] None (position_after lines a (unmet got reasons)) got 2 reasons 0
unfolding murmur3
unmet_by lines rules a needed got reasons stood is two fewer others counted by_name refused served = record {
  call = call_with needed;
  of_act = is;
  place = place;
  may_use = stands_then lines a (unmet got reasons) place stood.place_is;
  asked = subst (λ seed. 0 ≡ shard_of (codes "hello") seed (length place.shards)) (sym stood.seed_is) refl;
  first = λ lower below too. absurd (omega (arith, below));
  needed_is = sym two;
  fewer = fewer;
  others = others;
  silent = record {
    counted = each_in (λ r. IsCounted place 0 r.0) reasons counted;
    by_name = ascends_by (λ r s. IsNamedBelow place r.0 s.0) reasons by_name;
    unreached = λ node counts quiet. let heard = counted_reached lines rules a (unmet got reasons) node stood counts in let bad : true ≡ false = sym heard ∙ quiet in cc;
    refused = λ r m. refuses_by lines rules a (unmet got reasons) r.0 r.1 stood (each_in (λ x. WindowRefuses rules a x.1) reasons refused r m);
  };
  served = λ some. subst (λ known. MayServe known a) (sym stood.rules_is) (served some);
}

-- all three nodes refused a write for one reason
all_refuse : (lines : List Turn) (rules : Rules) (ns : List ℕ) (t : ℕ) (v : ℤ) (why : Reason) → StandsAt lines rules → WindowRefuses rules (write_in ns t v) why
    → MissesLevel true [] None (position_after lines (write_in ns t v) (unmet 0 (by_each why))) 0 2 (by_each why) 0
all_refuse lines rules ns t v why stood may =
    unmet_by lines rules (write_in ns t v) _ 0 (by_each why) stood refl refl (omega arith) refl
    (counted_0 also counted_1 also counted_2 also tt)
    ((below_0_1 also below_0_2 also tt) also (below_1_2 also tt) also tt also tt)
    (may also may also may also tt)
    (λ some. absurd (omega (arith, some)))

-- a first moment is never a lowered one
pub first_moment_after : (faults : List Fault) (messages : List LateMessage) (lines : List Turn) (now : ℕ) → refusal_after None (position_after lines (act.Now now) answer.Done) (inner_turns lines) ≡ option_or (cond (nat_lt now 0) (Some (answer.Clock 0)) None) None
    → CausedAt true faults [] None messages (position_after lines (act.Now now) answer.Done)
first_moment_after faults messages lines now first =
    let p = position_after lines (act.Now now) answer.Done in
    let test : nat_lt now 0 ≡ false = grind (arith, nat_tests) in
    due true faults messages lines (act.Now now) answer.Done (subst (λ refusal. IsDueBy true faults None messages p refusal) (sym first) (subst (λ b. IsDueBy true faults None messages p (option_or (cond b (Some (answer.Clock 0)) None) None)) (sym test) tt))

pub first_moment : (faults : List Fault) (messages : List LateMessage) (now : ℕ) → CausedAt true faults [] None messages (position_after (made ∷ named ∷ []) (act.Now now) answer.Done)
first_moment faults messages now = first_moment_after faults messages (made ∷ named ∷ []) now refl

-- the first three lines have their causes, over any faults
pub begun_caused_over : (faults : List Fault) (now : ℕ) (turns : List Turn) → AreDifferent faults → list_all is_not_whole turns ≡ true → EachSplit (λ lines line after. EachInLine (CausedAt true faults [] None []) lines line) (begun now []) turns → Caused true (life_of (begun now turns)) faults
begun_caused_over faults now turns different single each =
    caused_by_positions true faults (life_of (begun now turns)) different single (only (due true faults [] _ _ _ (first_placement, refl)) also only (due true faults [] _ _ _ tt) also only (first_moment faults [] now) also each)

-- and without any
pub begun_caused : (now : ℕ) (turns : List Turn) → list_all is_not_whole turns ≡ true → EachSplit (λ lines line after. EachInLine (CausedAt true [] [] None []) lines line) (begun now []) turns → Caused true (life_of (begun now turns)) []
begun_caused now turns single each = begun_caused_over [] now turns tt single each

-- the position is in the line that so many stand before, in the list of this client, with so many earlier in it
abbrev pub is_there : ℕ → ℕ → ℕ → TurnPosition → Bool
is_there number client before p = (nat_eq (length p.lines) number && nat_eq p.client client) && nat_eq (length p.earlier) before

-- all of these messages are delivered there
abbrev pub delivered_at : ℕ → ℕ → ℕ → List LateMessage → TurnPosition → List LateMessage
delivered_at number client before messages p = if is_there number client before p then messages else []

-- what is delivered is delivered there
delivered_there : (number client before : ℕ) (messages : List LateMessage) (p : TurnPosition) (m : LateMessage) → IsIn (delivered_at number client before messages p) m → (length p.lines ≡ number) × (p.client ≡ client) × (length p.earlier ≡ before)
delivered_there number client before messages p m h =
    let test = tested (is_there number client before p) refl h in
    let outer = and_parts (nat_eq (length p.lines) number && nat_eq p.client client) (nat_eq (length p.earlier) before) test in
    let inner = and_parts (nat_eq (length p.lines) number) (nat_eq p.client client) outer.0 in
    (equal (length p.lines) number inner.0, equal p.client client inner.1, equal (length p.earlier) before outer.1)
  where
    equal : (m n : ℕ) → nat_eq m n ≡ true → m ≡ n
    equal m n e = grind (arith, nat_tests, e)

    tested : (test : Bool) → is_there number client before p ≡ test → IsIn (if test then messages else []) m → is_there number client before p ≡ true
    tested true e in_them = e
    tested false e in_them = absurd in_them

-- and so nothing is delivered twice
pub delivered_once : (turns : List Turn) (number client before : ℕ) (messages : List LateMessage) → DeliversOnce turns (delivered_at number client before messages)
delivered_once turns number client before messages p q of_p of_q a b in_p in_q same =
    let p_at = delivered_there number client before messages p a in_p in
    let q_at = delivered_there number client before messages q b in_q in
    (p_at.0 ∙ sym q_at.0, p_at.1 ∙ sym q_at.1, p_at.2 ∙ sym q_at.2)

-- the same where late messages are delivered at one place
pub begun_delivering : (faults : List Fault) (now : ℕ) (turns : List Turn) (number client before : ℕ) (messages : List LateMessage) → AreDifferent faults → list_all is_not_whole turns ≡ true
    → EachSplit (λ lines line after. EachInLine (λ p. CausedAt true faults [] None (delivered_at number client before messages p) p) lines line) (begun now []) turns → Caused true (life_of (begun now turns)) faults
begun_delivering faults now turns number client before messages different single each =
    caused_with true faults (life_of (begun now turns)) (delivered_at number client before messages) different single (delivered_once (begun now turns) number client before messages)
    (only (due true faults [] _ _ _ (first_placement, refl)) also only (due true faults [] _ _ _ tt) also only (first_moment faults [] now) also each)

pub at_moment-caused : (now : ℕ) (a : Act) (b : Answer) → CausedAt true [] [] None [] (position_after (begun now []) a b) → Caused true (life_of (at_moment now a b)) []
at_moment-caused now a b here = begun_caused now _ refl (only here also tt)

pub with_eight-caused : (a : Act) (b : Answer) → CausedAt true [] [] None [] (position_after eight_made a b) → Caused true (life_of (with_eight a b)) []
with_eight-caused a b here =
    caused_by_positions true [] (life_of (with_eight a b)) tt refl (
    only (due true [] [] _ _ _ (first_placement, refl))
    also only (due true [] [] _ _ _ tt)
    also only (due true [] [] _ _ _ tt)
    also only (due true [] [] _ _ _ tt)
    also only (due true [] [] _ _ _ tt)
    also only (due true [] [] _ _ _ tt)
    also only (due true [] [] _ _ _ tt)
    also only (due true [] [] _ _ _ tt)
    also only (due true [] [] _ _ _ tt)
    also only here
    also tt)

pub write_then_read-caused : Caused true (life_of write_then_read) []
write_then_read-caused = begun_caused 100 _ refl (only (due true [] [] _ _ _ (all_take _ (rules_when 100) _ _ _ _ _ (stands refl refl refl refl refl (λ name. refl) (λ name. refl also refl also refl also tt) (λ x. refl)) refl refl (omega arith) (omega arith))) also only (due true [] [] _ _ _ (found_by _ (rules_when 100) _ _ _ (stands refl refl refl refl refl (λ name. refl) (λ name. refl also refl also refl also tt) (λ x. refl)))) also tt)

pub edge_writes-caused : Caused true (life_of edge_writes) []
edge_writes-caused =
    begun_caused 250 _ refl (
    only (due true [] [] _ _ _ (all_refuse _ (rules_when 250) _ _ _ _ (stands refl refl refl refl refl (λ name. refl) (λ name. refl also refl also refl also tt) (λ x. refl)) (past_by (rules_when 250) _ 0 space _ _ refl refl (omega arith))))
    also only (due true [] [] _ _ _ (all_take _ (rules_when 250) _ _ _ _ _ (stands refl refl refl refl refl (λ name. refl) (λ name. refl also refl also refl also tt) (λ x. refl)) refl refl (omega arith) (omega arith)))
    also only (due true [] [] _ _ _ (all_take _ (rules_when 250) _ _ _ _ _ (stands refl refl refl refl refl (λ name. refl) (λ name. refl also refl also refl also tt) (λ x. refl)) refl refl (omega arith) (omega arith)))
    also only (due true [] [] _ _ _ (all_refuse _ (rules_when 250) _ _ _ _ (stands refl refl refl refl refl (λ name. refl) (λ name. refl also refl also refl also tt) (λ x. refl)) (future_by (rules_when 250) _ 0 space _ _ refl refl (omega arith))))
    also only (due true [] [] _ _ _ (found_by _ (rules_when 250) _ _ _ (stands refl refl refl refl refl (λ name. refl) (λ name. refl also refl also refl also tt) (λ x. refl))))
    also tt)

-- the rules with both namespaces at moment 250
abbrev both_rules : Rules
both_rules = record { now = 250; spaces = space ∷ narrow ∷ [] }

pub narrow_writes-caused : Caused true (life_of narrow_writes) []
narrow_writes-caused =
    caused_by_positions true [] (life_of narrow_writes) tt refl (
    only (due true [] [] _ _ _ (first_placement, refl))
    also only (due true [] [] _ _ _ tt)
    also only (due true [] [] _ _ _ tt)
    also only (due true [] [] _ _ _ tt)
    also only (due true [] [] _ _ _ (all_refuse _ both_rules _ _ _ _ (stands refl refl refl refl refl (λ name. refl) (λ name. refl also refl also refl also tt) (λ x. refl)) (past_by both_rules _ 1 narrow _ _ refl refl (omega arith))))
    also only (due true [] [] _ _ _ (all_take _ both_rules _ 1 narrow _ _ (stands refl refl refl refl refl (λ name. refl) (λ name. refl also refl also refl also tt) (λ x. refl)) refl refl (omega arith) (omega arith)))
    also only (due true [] [] _ _ _ (all_take _ both_rules _ 1 narrow _ _ (stands refl refl refl refl refl (λ name. refl) (λ name. refl also refl also refl also tt) (λ x. refl)) refl refl (omega arith) (omega arith)))
    also only (due true [] [] _ _ _ (all_refuse _ both_rules _ _ _ _ (stands refl refl refl refl refl (λ name. refl) (λ name. refl also refl also refl also tt) (λ x. refl)) (future_by both_rules _ 1 narrow _ _ refl refl (omega arith))))
    also only (due true [] [] _ _ _ (all_take _ both_rules _ 0 space _ _ (stands refl refl refl refl refl (λ name. refl) (λ name. refl also refl also refl also tt) (λ x. refl)) refl refl (omega arith) (omega arith)))
    also only (due true [] [] _ _ _ (all_take _ both_rules _ 0 space _ _ (stands refl refl refl refl refl (λ name. refl) (λ name. refl also refl also refl also tt) (λ x. refl)) refl refl (omega arith) (omega arith)))
    also tt)

pub unmet_then_read-caused : (points : List (ℕ × ℤ)) → Caused true (life_of (unmet_then_read points)) []
unmet_then_read-caused points =
    begun_caused 100 _ refl (
    only (due true [] [] _ _ _ (unmet_by _ (rules_when 100) _ _ 1 _ (stands refl refl refl refl refl (λ name. refl) (λ name. refl also refl also refl also tt) (λ x. refl)) refl refl (omega arith) refl
    (counted_1 also counted_2 also tt) ((below_1_2 also tt) also tt also tt) (tt also tt also tt)
    (λ some. takes_by (rules_when 100) _ 0 space _ _ refl refl (omega arith) (omega arith))))
    also only (due true [] [] _ _ _ (found_by _ (rules_when 100) _ _ _ (stands refl refl refl refl refl (λ name. refl) (λ name. refl also refl also refl also tt) (λ x. refl))))
    also tt)

pub fetch_unmet-caused : Caused true (life_of (at_moment 100 (fetch 0 200) (unmet 1 ((0, reason.Memory) ∷ (2, reason.Memory) ∷ [])))) []
fetch_unmet-caused =
    at_moment-caused 100 _ _ (
    due true [] [] _ _ _ (unmet_by _ (rules_when 100) _ _ 1 _ (stands refl refl refl refl refl (λ name. refl) (λ name. refl also refl also refl also tt) (λ x. refl)) refl refl (omega arith) refl
    (counted_0 also counted_2 also tt) ((below_0_2 also tt) also tt also tt) (tt also tt also tt) (λ some. tt)))

pub first_placement_of_two : IsInitial 1 2 two_nodes place_of_two
first_placement_of_two = record {
  version = refl;
  rf_is = refl;
  instances = refl;
  count = refl;
  each = each_at (λ s shard. IsPlacedShard 1 (first_instances two_nodes) (take s place_of_two.shards) shard) place_of_two.shards (
      record { all = refl; each = each_at (λ r a. IsPlaced (first_instances two_nodes) (λ n. load n (take r (first_at 0 ∷ []) ∷ [])) (take r (first_at 0 ∷ [])) a) (first_at 0 ∷ []) (placed_on _ _ _ 0 (omega arith) tt (inl refl also inl refl also tt) also tt) }
      also record { all = refl; each = each_at (λ r a. IsPlaced (first_instances two_nodes) (λ n. load n ((first_at 0 ∷ []) ∷ take r (first_at 1 ∷ []) ∷ [])) (take r (first_at 1 ∷ [])) a) (first_at 1 ∷ []) (placed_on _ _ _ 1 (omega arith) tt (inl refl also inl refl also tt) also tt) }
      also tt);
}

with_two_shards-caused : (a : Act) (b : Answer) → CausedAt true [] [] None [] (position_after two_made a b) → Caused true (life_of (with_two_shards a b)) []
with_two_shards-caused a b here = caused_by_positions true [] (life_of (with_two_shards a b)) tt refl (only (due true [] [] _ _ _ (first_placement_of_two, refl)) also only (due true [] [] _ _ _ tt) also only here also tt)

counted_of_two : IsCounted place_of_two 1 1
counted_of_two = inl refl

second_took : IsAcked None (position_after two_made (write 10 (pos 5)) (acks (1 ∷ []))) (codes "hello") write_level.Majority None (1 ∷ [])
unfolding murmur3
second_took = record {
  place = place_of_two;
  may_use = stands_then _ _ _ _ refl;
  counted = λ shard asked. subst (λ k. (node : ℕ) → IsIn (1 ∷ []) node → IsCounted place_of_two k node) (sym asked) (each_in (IsCounted place_of_two 1) (1 ∷ []) (counted_of_two also tt));
  by_name = ascends_by (IsNamedBelow place_of_two) (1 ∷ []) (tt also tt);
  reached = each_in (λ node. reaches (position_after two_made (write 10 (pos 5)) (acks (1 ∷ []))) place_of_two node ≡ true) (1 ∷ []) (refl also tt);
  begun = λ shard asked. each_in (IsBegunFor None (position_after two_made (write 10 (pos 5)) (acks (1 ∷ []))) place_of_two shard) (1 ∷ []) (record { instance_ = _; stands = refl; holds = refl } also tt);
  enough = omega arith;
  takes = takes_by (rules_when 0) _ 0 space 10 (pos 5) refl refl (omega arith) (omega arith);
}

second_unmet : MissesLevel true [] None (position_after two_made (write 10 (pos 5)) (answer.Consistency 0 1 ((1, reason.Memory) ∷ []) 1)) 0 1 ((1, reason.Memory) ∷ []) 1
unfolding murmur3
second_unmet = record {
  call = call_with _;
  of_act = refl;
  place = place_of_two;
  may_use = stands_then _ _ _ _ refl;
  asked = refl;
  first = λ lower below same. absurd (omega (arith, below, same));
  needed_is = refl;
  fewer = omega arith;
  others = refl;
  silent = record {
    counted = each_in (λ r. IsCounted place_of_two 1 r.0) ((1, reason.Memory) ∷ []) (counted_of_two also tt);
    by_name = ascends_by (λ r s. IsNamedBelow place_of_two r.0 s.0) ((1, reason.Memory) ∷ []) (tt also tt);
    unreached = λ node counts quiet. counts;
    refused = each_in (λ r. MayRefuse true [] None (position_after two_made (write 10 (pos 5)) (answer.Consistency 0 1 ((1, reason.Memory) ∷ []) 1)) place_of_two 1 r.0 r.1) ((1, reason.Memory) ∷ []) (tt also tt);
  };
  served = λ some. absurd (omega (arith, some));
}

pub second_took-caused : Caused true (life_of (with_two_shards (write 10 (pos 5)) (acks (1 ∷ [])))) []
second_took-caused = with_two_shards-caused _ _ (due true [] [] _ _ _ second_took)

pub second_unmet-caused : Caused true (life_of (with_two_shards (write 10 (pos 5)) (answer.Consistency 0 1 ((1, reason.Memory) ∷ []) 1))) []
second_unmet-caused = with_two_shards-caused _ _ (due true [] [] _ _ _ second_unmet)
