-- Why the answers without a cause are refused.
use Rattle.std.proofs.Common.{◌≡◌, ◌≢◌, ◌≤◌, ◌<◌, ◌+◌, ◌*◌, ℕ, ℤ, List, [], ◌∷◌, length, refl, sym, subst, ◌∙◌, inl, inr, arith, true, false}
use Rattle.std.specs.Prelude.{Some, None, pos, slice_get, codes}
use Rattle.transcripts.specs.Caused.{Caused, IsDueBy, refusal_after}
use Rattle.transcripts.specs.Reasons.{IsOutside, MayRefuse, MayServe, TakesPoint}
use Rattle.transcripts.specs.Levels.{IsAcked, MissesLevel}
use Rattle.transcripts.specs.Calls.{IsAskedOf, call_of}
use Rattle.transcripts.specs.Placements.{MayUse, IsCounted, counted_nodes}
use Rattle.placement_core.specs.NodeNames.{IsNamedBelow}
use Rattle.transcripts.specs.Waiting.{waiting_after}
use Rattle.m3_model.specs.Hash.{murmur3, shard_of}
use Rattle.m3_model.specs.Members.{IsIn}
use Rattle.m3_model.specs.Rules.{IsPast, IsFuture}
use Rattle.transcripts.specs.Record.{InnerTurn, IsAfter, inner_turns}
use Rattle.m3_model.specs.declared.limits.TheConstants.{MOST_EVENTS, MOST_REQUEST_EVENTS}
use Rattle.m3_model.specs.Tags.{IsBelow}
use Rattle.m3_model.specs.Ascends.{Ascends}
use Rattle.m3_model.specs.Levels.{needed_write, needed_read}
use Rattle.std.specs.declared.cmp.Ordering.TheVariants.{Less, Equal, Greater}
use Rattle.std.proofs.lemmas.Option.{same_Some}
use Rattle.m3_model.specs.declared.act.Act.{Act}
use Rattle.m3_model.specs.declared.act.Act.TheVariants as act
use Rattle.m3_model.specs.declared.act.ReadLevel.TheVariants as read_level
use Rattle.m3_model.specs.declared.act.WriteLevel.TheVariants as write_level
use Rattle.m3_model.specs.declared.answer.Answer.{Answer}
use Rattle.m3_model.specs.declared.answer.Answer.TheVariants as answer
use Rattle.m3_model.specs.declared.turn.Turn.{Turn}
use Rattle.m3_model.specs.declared.placement.Assignment.{Assignment}
use Rattle.m3_model.specs.declared.placement.Instance.{Instance}
use Rattle.m3_model.specs.declared.point.Point.{Point}
use Rattle.m3_model.specs.declared.reason.Reason.{Reason}
use Rattle.m3_model.specs.declared.reason.Reason.TheVariants as reason
use Rattle.m3_model.specs.declared.rules.Rules.{Rules}
use Rattle.m3_model.specs.declared.rules.Space.{Space}
use Rattle.model_laws.specs.Building.{made, begun, at_moment, eight_made, with_eight, two_made, with_two_shards, namespace_of, write, write_in, fetch, acks, unmet, by_each, space, place, place_of_two, placed, assigned, nodes, life_of}
use Rattle.model_laws.specs.Refused.{with_point_answered}
use Rattle.model_laws.specs.Uncaused.{write_answered, write_first, made_twice, fetch_short, made_of_two, restart_refused}
use Rattle.model_laws.specs.Messages.{stopped}
use Rattle.model_laws.proofs.PositionLemmas.{position_after, position_after-stands, only_after, due_after, only_used}
use Rattle.model_laws.proofs.EachLemmas.{◌also◌, each_in, not_in_each, texts_differ}
use Rattle.model_laws.proofs.OwnerLemmas.{none_unowned, none_fenced}
use Rattle.model_laws.proofs.SampleLemmas.{hello, of_shard, rules_when, StandsAt, stands, not_cut, WindowRefuses, call_with}

-- what is due of one request at a moment
pub due_at : (now : ℕ) (a : Act) (b : Answer) → b ≢ answer.Memory → b ≢ answer.Full → (caused : Caused true (life_of (at_moment now a b)) [])
    → IsDueBy true [] None (caused.delivered (position_after (begun now []) a b)) (position_after (begun now []) a b) (refusal_after None (position_after (begun now []) a b) (inner_turns (begun now [])))
due_at now a b not_memory not_full caused = due_after (begun now []) a b [] not_memory not_full caused

pub write_order-refused : ¬ Caused true (life_of (write_answered answer.Order)) []
write_order-refused caused = due_at 100 (write 100 (pos 5)) answer.Order (λ e. cc) (λ e. cc) caused

pub write_done-refused : ¬ Caused true (life_of (write_answered answer.Done)) []
write_done-refused caused = due_at 100 (write 100 (pos 5)) answer.Done (λ e. cc) (λ e. cc) caused

pub write_first-refused : ¬ Caused true (life_of write_first) []
write_first-refused caused =
    let due : acks (0 ∷ 1 ∷ 2 ∷ []) ≡ answer.Order = due_after [] (write 100 (pos 5)) (acks (0 ∷ 1 ∷ 2 ∷ [])) [] (λ e. cc) (λ e. cc) caused in
    cc

pub made_twice-refused : ¬ Caused true (life_of made_twice) []
made_twice-refused caused =
    let due : answer.Placed place 1 ≡ answer.Order = due_after (made ∷ []) (act.Init 3 1 0 nodes) (answer.Placed place 1) [] (λ e. cc) (λ e. cc) caused in
    cc

pub fetch_short-refused : ¬ Caused true (life_of fetch_short) []
fetch_short-refused caused =
    let level : read_level.Majority ≡ read_level.Unstrict = ((due_at 100 (fetch 0 200) (answer.Found [] true) (λ e. cc) (λ e. cc) caused).may_be_short refl).0 in
    cc

pub made_of_two-refused : ¬ Caused true (life_of made_of_two) []
made_of_two-refused caused =
    let two : List Assignment = assigned 0 ∷ assigned 1 ∷ [] in
    let due = due_after [] (act.Init 3 1 0 nodes) (answer.Placed (placed two) 1) [] (λ e. cc) (λ e. cc) caused in
    let all : length two ≡ 3 = (due.0.each 0 two refl).all in
    omega arith

-- What is due of the nodes that took a write at a moment.
record TakenBy (now t : ℕ) (v : ℤ) (taken : List ℕ) : Type 0 where
  counted : (node : ℕ) → IsIn taken node → IsCounted place 0 node
  by_name : Ascends (IsNamedBelow place) taken
  enough : 2 ≤ length taken
  takes : TakesPoint (rules_when now) (write t v)

taken_by : (now t : ℕ) (v : ℤ) (taken : List ℕ) → StandsAt (begun now []) (rules_when now) → Caused true (life_of (at_moment now (write t v) (acks taken))) [] → TakenBy now t v taken
unfolding murmur3
taken_by now t v taken stood caused =
    let due : IsAcked None (position_after (begun now []) (write t v) (acks taken)) (codes "hello") write_level.Majority None taken = due_at now (write t v) (acks taken) (λ e. cc) (λ e. cc) caused in
    let same : place ≡ due.place = only_used (begun now []) (write t v) (acks taken) place due.place stood.place_is due.may_use in
    record {
      counted = subst (λ x. ((shard : ℕ) → shard ≡ shard_of (codes "hello") 0 (length x.shards) → (node : ℕ) → IsIn taken node → IsCounted x shard node) → (node : ℕ) → IsIn taken node → IsCounted place 0 node) same (λ all. all 0 refl) due.counted;
      by_name = subst (λ x. Ascends (IsNamedBelow x) taken) (sym same) due.by_name;
      enough = subst (λ x. needed_write write_level.Majority x.rf ≤ length taken) (sym same) due.enough;
      takes = due.takes;
    }

-- what is due of the nodes that took the write at 100
taken_at_100 : (taken : List ℕ) → Caused true (life_of (write_answered (acks taken))) [] → TakenBy 100 100 (pos 5) taken
taken_at_100 taken caused = taken_by 100 100 (pos 5) taken (stands refl refl refl refl refl (λ name. refl) (λ name. refl also refl also refl also tt) (λ x. refl)) caused

pub acks_too_few-refused : ¬ Caused true (life_of (write_answered (acks (0 ∷ [])))) []
acks_too_few-refused caused = let enough : 2 ≤ 1 = (taken_at_100 (0 ∷ []) caused).enough in omega arith

-- two nodes whose names are known
pub names_below : (a b : ℕ) (one other : Instance) → slice_get place.instances a ≡ Some one → slice_get place.instances b ≡ Some other → IsNamedBelow place a b → IsBelow one.name other.name
names_below a b one other of_one of_other below =
    let first : below.one ≡ one = same_Some below.one one (sym below.of_one ∙ of_one) in
    let second : below.other ≡ other = same_Some below.other other (sym below.of_other ∙ of_other) in
    subst (λ x. IsBelow x.name other.name) first (subst (λ x. IsBelow below.one.name x.name) second below.below)

pub acks_repeated-refused : ¬ Caused true (life_of (write_answered (acks (0 ∷ 0 ∷ [])))) []
acks_repeated-refused caused =
    let below : Equal ≡ Less = names_below 0 0 _ _ refl refl ((taken_at_100 (0 ∷ 0 ∷ []) caused).by_name.0 0 (inl refl)) in
    cc

pub acks_not_by_name-refused : ¬ Caused true (life_of (write_answered (acks (1 ∷ 0 ∷ 2 ∷ [])))) []
acks_not_by_name-refused caused =
    let below : Greater ≡ Less = names_below 1 0 _ _ refl refl ((taken_at_100 (1 ∷ 0 ∷ 2 ∷ []) caused).by_name.0 0 (inl refl)) in
    cc

-- there is no node 7
not_counted_7 : ¬ IsCounted place 0 7
not_counted_7 = not_in_each (0 ∷ 1 ∷ 2 ∷ []) 7 ((λ e. omega (arith, e)) also (λ e. omega (arith, e)) also (λ e. omega (arith, e)) also tt)

pub acks_of_no_node-refused : ¬ Caused true (life_of (write_answered (acks (0 ∷ 1 ∷ 7 ∷ [])))) []
acks_of_no_node-refused caused = not_counted_7 ((taken_at_100 (0 ∷ 1 ∷ 7 ∷ []) caused).counted 7 (inr (inr (inl refl))))

-- the point of a write of `hello` is known, and so is its namespace
write_known : (t : ℕ) (v : ℤ) (point : Point) (within : Space) → Some (hello t v) ≡ Some point → slice_get (space ∷ []) point.ns ≡ Some within → (point ≡ hello t v) × (within ≡ space)
write_known t v point within e stood =
    let same : point ≡ hello t v = sym (same_Some (hello t v) point e) in
    (same, sym (same_Some space within (subst (λ p. slice_get (space ∷ []) p.ns ≡ Some within) same stood)))

-- a point that is taken lies above the moment less 100, and below the moment and 50
takes-window : (now t : ℕ) (v : ℤ) → TakesPoint (rules_when now) (write t v) → (now < t + 100) × (t < now + 50)
takes-window now t v takes =
    let known = write_known t v takes.point takes.in_window.space takes.of_act takes.in_window.stands in (
      subst (λ p. now < p.t + 100) known.0 (subst (λ s. now < takes.point.t + s.past) known.1 takes.in_window.not_past),
      subst (λ p. p.t < now + 50) known.0 (subst (λ s. takes.point.t < now + s.future) known.1 takes.in_window.not_future),
    )

pub taken_past-refused : ¬ Caused true (life_of (at_moment 250 (write 150 (pos 5)) (acks (0 ∷ 1 ∷ 2 ∷ [])))) []
taken_past-refused caused =
    let not_past : 250 < 150 + 100 = (takes-window 250 150 (pos 5) (taken_by 250 150 (pos 5) _ (stands refl refl refl refl refl (λ name. refl) (λ name. refl also refl also refl also tt) (λ x. refl)) caused).takes).0 in
    omega arith

pub taken_future-refused : ¬ Caused true (life_of (at_moment 250 (write 300 (pos 5)) (acks (0 ∷ 1 ∷ 2 ∷ [])))) []
taken_future-refused caused =
    let not_future : 300 < 250 + 50 = (takes-window 250 300 (pos 5) (taken_by 250 300 (pos 5) _ (stands refl refl refl refl refl (λ name. refl) (λ name. refl also refl also refl also tt) (λ x. refl)) caused).takes).1 in
    omega arith

-- What is due where fewer nodes than are needed did as a call asked.
record UnmetBy (now : ℕ) (a : Act) (due_needed got needed : ℕ) (reasons : List (ℕ × Reason)) : Type 0 where
  needed_is : needed ≡ due_needed
  fewer : got < needed
  counted : (r : ℕ × Reason) → IsIn reasons r → IsCounted place 0 r.0
  by_name : Ascends (λ r s. IsNamedBelow place r.0 s.0) reasons
  others : got + length reasons ≡ 3
  refused : (r : ℕ × Reason) → IsIn reasons r → WindowRefuses (rules_when now) a r.1
  served : 0 < got → MayServe (rules_when now) a

-- where nothing is lost, late, stopped or moved, a replica refuses for its window or for want of memory alone
pub window_refuses : (lines : List Turn) (rules : Rules) (a : Act) (b : Answer) (node : ℕ) (why : Reason) → StandsAt lines rules → IsCounted place 0 node → MayRefuse true [] None (position_after lines a b) place 0 node why → WindowRefuses rules a why
window_refuses lines rules a b node reason.Cut stood counts may = let quiet = not_cut lines rules a b may.1.instance_.name stood in let bad : false ≡ true = sym quiet ∙ may.1.holds in cc
window_refuses lines rules a b node reason.Down stood counts may = elim may as (λ _. ⊥) [ inl stops ↦ let bad : false ≡ true = sym (stood.none_stopped stops.instance_.name) ∙ stops.holds in cc | inr closed ↦ closed.among ]
window_refuses lines rules a b node reason.Boot stood counts may =
    let name = (may refl).instance_.name in
    let runs : (waiting_after (of_shard node name) None lines).waits ≡ false = each_in (λ n. (waiting_after (of_shard n name) None lines).waits ≡ false) (0 ∷ 1 ∷ 2 ∷ []) (stood.none_waits name) node counts in
    let bad : false ≡ true = sym runs ∙ (may refl).holds in
    cc
window_refuses lines rules a b node reason.NotOwned stood counts may = absurd (none_unowned lines rules a b node stood counts may)
window_refuses lines rules a b node (reason.Stale fence) stood counts may = absurd (none_fenced lines rules a b fence stood (may refl))
window_refuses lines rules a b node reason.Past stood counts may = subst (λ r. IsOutside IsPast r a) stood.rules_is may
window_refuses lines rules a b node reason.Future stood counts may = subst (λ r. IsOutside IsFuture r a) stood.rules_is may
window_refuses lines rules a b node (reason.Corrupt damage) stood counts may = absurd may.0
window_refuses lines rules a b node reason.Memory stood counts may = tt
window_refuses lines rules a b node _ stood counts may = absurd may

unmet_by : (now : ℕ) (a : Act) (b : Answer) (needs : ℕ → ℕ) (got needed : ℕ) (reasons : List (ℕ × Reason)) → StandsAt (begun now []) (rules_when now) → call_of a ≡ Some (call_with needs)
    → MissesLevel true [] None (position_after (begun now []) a b) got needed reasons 0 → UnmetBy now a (needs 3) got needed reasons
unmet_by now a b needs got needed reasons stood is due =
    let known : call_with needs ≡ due.call = same_Some (call_with needs) due.call (sym is ∙ due.of_act) in
    let may : MayUse None (position_after (begun now []) a b) None due.place = subst (λ call. MayUse None (position_after (begun now []) a b) call.version due.place) (sym known) due.may_use in
    let same : place ≡ due.place = only_used (begun now []) a b place due.place stood.place_is may in
    let counts : (r : ℕ × Reason) → IsIn reasons r → IsCounted place 0 r.0 = subst (λ x. (r : ℕ × Reason) → IsIn reasons r → IsCounted x 0 r.0) (sym same) due.silent.counted in
    record {
      needed_is = subst (λ x. needed ≡ needs x.rf) (sym same) (subst (λ call. needed ≡ call.needed due.place.rf) (sym known) due.needed_is);
      fewer = due.fewer;
      counted = counts;
      by_name = subst (λ x. Ascends (λ r s. IsNamedBelow x r.0 s.0) reasons) (sym same) due.silent.by_name;
      others = subst (λ x. got + length reasons ≡ length (counted_nodes x 0)) (sym same) due.others;
      refused = λ r m. window_refuses (begun now []) (rules_when now) a b r.0 r.1 stood (counts r m) (subst (λ x. MayRefuse true [] None (position_after (begun now []) a b) x 0 r.0 r.1) (sym same) (due.silent.refused r m));
      served = due.served;
    }

-- what is due of a refused write
write_unmet : (now t : ℕ) (v : ℤ) (got needed : ℕ) (reasons : List (ℕ × Reason)) → StandsAt (begun now []) (rules_when now) → Caused true (life_of (at_moment now (write t v) (answer.Consistency got needed reasons 0))) [] → UnmetBy now (write t v) 2 got needed reasons
write_unmet now t v got needed reasons stood caused =
    unmet_by now (write t v) (answer.Consistency got needed reasons 0) (needed_write write_level.Majority) got needed reasons stood refl (due_at now (write t v) (answer.Consistency got needed reasons 0) (λ e. cc) (λ e. cc) caused)

-- what is due of the write at 100
unmet_at_100 : (got needed : ℕ) (reasons : List (ℕ × Reason)) → Caused true (life_of (write_answered (answer.Consistency got needed reasons 0))) [] → UnmetBy 100 (write 100 (pos 5)) 2 got needed reasons
unmet_at_100 got needed reasons caused = write_unmet 100 100 (pos 5) got needed reasons (stands refl refl refl refl refl (λ name. refl) (λ name. refl also refl also refl also tt) (λ x. refl)) caused

-- a write that may be refused as past lies at or below the moment less 100
past-outside : (now t : ℕ) (v : ℤ) → WindowRefuses (rules_when now) (write t v) reason.Past → t + 100 ≤ now
past-outside now t v may =
    let known = write_known t v may.point may.outside.space may.of_act may.outside.stands in
    subst (λ p. p.t + 100 ≤ now) known.0 (subst (λ s. may.point.t + s.past ≤ now) known.1 may.outside.too_old)

-- a write that may be refused as future lies at or above the moment and 50
future-outside : (now t : ℕ) (v : ℤ) → WindowRefuses (rules_when now) (write t v) reason.Future → now + 50 ≤ t
future-outside now t v may =
    let known = write_known t v may.point may.outside.space may.of_act may.outside.stands in
    subst (λ p. now + 50 ≤ p.t) known.0 (subst (λ s. now + s.future ≤ may.point.t) known.1 may.outside.too_new)

-- each of the nodes may refuse the write for the one reason that all have
pub each_refuses : (now t : ℕ) (v : ℤ) (why : Reason) → StandsAt (begun now []) (rules_when now) → Caused true (life_of (at_moment now (write t v) (unmet 0 (by_each why)))) [] → WindowRefuses (rules_when now) (write t v) why
each_refuses now t v why stood caused = (write_unmet now t v 0 2 (by_each why) stood caused).refused (0, why) (inl refl)

pub past-refused : (t : ℕ) → 250 < t + 100 → ¬ Caused true (life_of (at_moment 250 (write t (pos 5)) (unmet 0 (by_each reason.Past)))) []
past-refused t inside caused =
    let outside : t + 100 ≤ 250 = past-outside 250 t (pos 5) (each_refuses 250 t (pos 5) reason.Past (stands refl refl refl refl refl (λ name. refl) (λ name. refl also refl also refl also tt) (λ x. refl)) caused) in
    omega arith

pub future-refused : (t : ℕ) → t < 250 + 50 → ¬ Caused true (life_of (at_moment 250 (write t (pos 5)) (unmet 0 (by_each reason.Future)))) []
future-refused t inside caused =
    let outside : 250 + 50 ≤ t = future-outside 250 t (pos 5) (each_refuses 250 t (pos 5) reason.Future (stands refl refl refl refl refl (λ name. refl) (λ name. refl also refl also refl also tt) (λ x. refl)) caused) in
    omega arith

pub one_took-refused : ¬ Caused true (life_of (at_moment 250 (write 150 (pos 5)) (unmet 1 ((1, reason.Past) ∷ (2, reason.Past) ∷ [])))) []
one_took-refused caused =
    let takes = (write_unmet 250 150 (pos 5) 1 2 _ (stands refl refl refl refl refl (λ name. refl) (λ name. refl also refl also refl also tt) (λ x. refl)) caused).served (omega arith) in
    let not_past : 250 < 150 + 100 = (takes-window 250 150 (pos 5) takes).0 in
    omega arith

pub fetch_past-refused : ¬ Caused true (life_of (at_moment 250 (fetch 0 200) (unmet 0 (by_each reason.Past)))) []
fetch_past-refused caused =
    let due = unmet_by 250 (fetch 0 200) (unmet 0 (by_each reason.Past)) (needed_read read_level.Majority) 0 2 (by_each reason.Past) (stands refl refl refl refl refl (λ name. refl) (λ name. refl also refl also refl also tt) (λ x. refl)) refl (due_at 250 (fetch 0 200) (unmet 0 (by_each reason.Past)) (λ e. cc) (λ e. cc) caused) in
    let may = due.refused (0, reason.Past) (inl refl) in
    let point : None ≡ Some may.point = may.of_act in
    cc

pub cut-refused : ¬ Caused true (life_of (write_answered (unmet 0 (by_each reason.Cut)))) []
cut-refused caused = each_refuses 100 100 (pos 5) reason.Cut (stands refl refl refl refl refl (λ name. refl) (λ name. refl also refl also refl also tt) (λ x. refl)) caused

pub disk-refused : ¬ Caused true (life_of (write_answered (unmet 0 (by_each reason.Disk)))) []
disk-refused caused = each_refuses 100 100 (pos 5) reason.Disk (stands refl refl refl refl refl (λ name. refl) (λ name. refl also refl also refl also tt) (λ x. refl)) caused

pub boot-refused : ¬ Caused true (life_of (write_answered (unmet 0 (by_each reason.Boot)))) []
boot-refused caused = each_refuses 100 100 (pos 5) reason.Boot (stands refl refl refl refl refl (λ name. refl) (λ name. refl also refl also refl also tt) (λ x. refl)) caused

pub reason_repeated-refused : ¬ Caused true (life_of (write_answered (unmet 0 ((0, reason.Memory) ∷ (0, reason.Memory) ∷ (1, reason.Memory) ∷ [])))) []
reason_repeated-refused caused =
    let below : Equal ≡ Less = names_below 0 0 _ _ refl refl ((unmet_at_100 0 2 _ caused).by_name.0 (0, reason.Memory) (inl refl)) in
    cc

pub reason_left_out-refused : ¬ Caused true (life_of (write_answered (unmet 0 ((0, reason.Memory) ∷ (1, reason.Memory) ∷ [])))) []
reason_left_out-refused caused = let others : 0 + 2 ≡ 3 = (unmet_at_100 0 2 _ caused).others in omega arith

pub reason_of_no_node-refused : ¬ Caused true (life_of (write_answered (unmet 0 ((0, reason.Memory) ∷ (1, reason.Memory) ∷ (7, reason.Memory) ∷ [])))) []
reason_of_no_node-refused caused = not_counted_7 ((unmet_at_100 0 2 _ caused).counted (7, reason.Memory) (inr (inr (inl refl))))

pub enough_took_it-refused : ¬ Caused true (life_of (write_answered (unmet 2 ((2, reason.Memory) ∷ [])))) []
enough_took_it-refused caused = let fewer : 2 < 2 = (unmet_at_100 2 2 _ caused).fewer in omega arith

pub more_than_needed-refused : ¬ Caused true (life_of (write_answered (answer.Consistency 2 3 ((2, reason.Memory) ∷ []) 0))) []
more_than_needed-refused caused = let needed : 3 ≡ 2 = (unmet_at_100 2 3 _ caused).needed_is in omega (arith, needed)

-- node 0 isn't on shard 1
not_counted_0 : ¬ IsCounted place_of_two 1 0
not_counted_0 = not_in_each (1 ∷ []) 0 ((λ e. omega (arith, e)) also tt)

pub other_node-refused : ¬ Caused true (life_of (with_two_shards (write 10 (pos 5)) (acks (0 ∷ [])))) []
unfolding murmur3
other_node-refused caused =
    let due : IsAcked None (position_after two_made (write 10 (pos 5)) (acks (0 ∷ []))) (codes "hello") write_level.Majority None (0 ∷ []) = due_after two_made (write 10 (pos 5)) (acks (0 ∷ [])) [] (λ e. cc) (λ e. cc) caused in
    let same : place_of_two ≡ due.place = only_used two_made (write 10 (pos 5)) (acks (0 ∷ [])) place_of_two due.place refl due.may_use in
    not_counted_0 (subst (λ x. ((shard : ℕ) → shard ≡ shard_of (codes "hello") 0 (length x.shards) → (node : ℕ) → IsIn (0 ∷ []) node → IsCounted x shard node) → IsCounted place_of_two 1 0) same (λ all. all 1 refl 0 (inl refl)) due.counted)

-- What is due of one node's reason, with a shard.
record OneReason (shard : ℕ) : Type 0 where
  asked : shard ≡ 1
  counted : IsCounted place_of_two shard 0

one_reason : (shard : ℕ) → Caused true (life_of (with_two_shards (write 10 (pos 5)) (answer.Consistency 0 1 ((0, reason.Memory) ∷ []) shard))) [] → OneReason shard
unfolding murmur3
one_reason shard caused =
    let a = write 10 (pos 5) in
    let b = answer.Consistency 0 1 ((0, reason.Memory) ∷ []) shard in
    let call = call_with (needed_write write_level.Majority) in
    let due : MissesLevel true [] None (position_after two_made a b) 0 1 ((0, reason.Memory) ∷ []) shard = due_after two_made a b [] (λ e. cc) (λ e. cc) caused in
    let known : call ≡ due.call = same_Some call due.call due.of_act in
    let same : due.place ≡ place_of_two = sym (only_used two_made a b place_of_two due.place refl (subst (λ c. MayUse None (position_after two_made a b) c.version due.place) (sym known) due.may_use)) in
    record {
      asked = subst (λ x. IsAskedOf (Some (codes "hello")) 0 (length x.shards) shard) same (subst (λ c. IsAskedOf c.id 0 (length due.place.shards) shard) (sym known) due.asked);
      counted = subst (λ x. IsCounted x shard 0) same (due.silent.counted (0, reason.Memory) (inl refl));
    }

pub own_shard-refused : ¬ Caused true (life_of (with_two_shards (write 10 (pos 5)) (answer.Consistency 0 1 ((0, reason.Memory) ∷ []) 0))) []
own_shard-refused caused = let asked : 0 ≡ 1 = (one_reason 0 caused).asked in omega (arith, asked)

pub shard_1-refused : ¬ Caused true (life_of (with_two_shards (write 10 (pos 5)) (answer.Consistency 0 1 ((0, reason.Memory) ∷ []) 1))) []
shard_1-refused caused = not_counted_0 (one_reason 1 caused).counted

pub equal_moment-refused : ¬ Caused true (life_of (at_moment 100 (act.Now 100) (answer.Clock 100))) []
equal_moment-refused caused = due_at 100 (act.Now 100) (answer.Clock 100) (λ e. cc) (λ e. cc) caused

same_moment : (m n : ℕ) → answer.Clock m ≡ answer.Clock n → m ≡ n
same_moment m n e = cc

same_name : (m n : List ℕ) → answer.Unknown m ≡ answer.Unknown n → m ≡ n
same_name m n e = cc

pub other_moment-refused : ¬ Caused true (life_of (at_moment 100 (act.Now 99) (answer.Clock 99))) []
other_moment-refused caused =
    let same : 99 ≡ 100 = same_moment 99 100 (due_at 100 (act.Now 99) (answer.Clock 99) (λ e. cc) (λ e. cc) caused) in
    omega (arith, same)

pub lower_moment-refused : ¬ Caused true (life_of (at_moment 100 (act.Now 99) answer.Done)) []
lower_moment-refused caused = let due : answer.Done ≡ answer.Clock 100 = due_at 100 (act.Now 99) answer.Done (λ e. cc) (λ e. cc) caused in cc

pub unknown_there-refused : ¬ Caused true (life_of (write_answered (answer.Unknown (codes "m")))) []
unknown_there-refused caused = due_at 100 (write 100 (pos 5)) (answer.Unknown (codes "m")) (λ e. cc) (λ e. cc) caused

pub unknown_other-refused : ¬ Caused true (life_of (at_moment 100 (write_in (codes "n") 100 (pos 5)) (answer.Unknown (codes "m")))) []
unknown_other-refused caused =
    texts_differ (codes "m") (codes "n") refl refl (same_name _ _ (due_at 100 (write_in (codes "n") 100 (pos 5)) (answer.Unknown (codes "m")) (λ e. cc) (λ e. cc) caused))

pub later-refused : ¬ Caused true (life_of (at_moment 100 (write_in (codes "n") 100 (pos 5)) answer.Later)) []
later-refused caused = let due : answer.Later ≡ answer.Unknown (codes "n") = due_at 100 (write_in (codes "n") 100 (pos 5)) answer.Later (λ e. cc) (λ e. cc) caused in cc

pub ninth-refused : ¬ Caused true (life_of (with_eight (namespace_of (codes "m9")) answer.Done)) []
ninth-refused caused = let due : answer.Done ≡ answer.Limit 8 = due_after eight_made (namespace_of (codes "m9")) answer.Done [] (λ e. cc) (λ e. cc) caused in cc

pub limit-refused : ¬ Caused true (life_of (at_moment 100 (namespace_of (codes "n")) (answer.Limit 8))) []
limit-refused caused = due_at 100 (namespace_of (codes "n")) (answer.Limit 8) (λ e. cc) (λ e. cc) caused

pub same_namespace-refused : ¬ Caused true (life_of (at_moment 100 (namespace_of (codes "m")) answer.Done)) []
same_namespace-refused caused = let due : answer.Done ≡ answer.Order = due_at 100 (namespace_of (codes "m")) answer.Done (λ e. cc) (λ e. cc) caused in cc

pub later_read-refused : ¬ Caused true (life_of (with_point_answered answer.Later)) []
later_read-refused caused = due_after (begun 100 []) (write 100 (pos 5)) answer.Later _ (λ e. cc) (λ e. cc) caused

pub full-refused : ¬ Caused true (life_of (write_answered answer.Full)) []
full-refused caused =
    let p = position_after (begun 100 []) (write 100 (pos 5)) answer.Full in
    elim (caused.each p (position_after-stands (begun 100 []) (write 100 (pos 5)) answer.Full [])) as (λ _. ⊥) [
      | inl e ↦ cc
      | inr told ↦ elim told as (λ _. ⊥) [
        | inl full ↦ (let many = full.1 refl in not_many many.requests many.writes many.requests_are many.writes_are many.many)
        | inr is_due ↦ own_of is_due.0 is_due.1 is_due.2
      ]
    ]
  where
    not_many : (requests writes : ℕ) → requests ≡ 4 → writes ≡ 1 → MOST_EVENTS ≤ (MOST_REQUEST_EVENTS * (requests + 1)) * (writes + 1) → ⊥
    not_many requests writes four one many =
        let few : MOST_EVENTS ≤ (MOST_REQUEST_EVENTS * 5) * 2 = subst (λ n. MOST_EVENTS ≤ (MOST_REQUEST_EVENTS * (n + 1)) * 2) four (subst (λ n. MOST_EVENTS ≤ (MOST_REQUEST_EVENTS * (requests + 1)) * (n + 1)) one many) in
        omega (arith, few)

    own_of : (turns : List InnerTurn) → IsAfter (position_after (begun 100 []) (write 100 (pos 5)) answer.Full) turns
        → IsDueBy true [] None (caused.delivered (position_after (begun 100 []) (write 100 (pos 5)) answer.Full)) (position_after (begun 100 []) (write 100 (pos 5)) answer.Full) (refusal_after None (position_after (begun 100 []) (write 100 (pos 5)) answer.Full) turns) → ⊥
    own_of turns after told =
        subst (λ ts. IsDueBy true [] None (caused.delivered (position_after (begun 100 []) (write 100 (pos 5)) answer.Full)) (position_after (begun 100 []) (write 100 (pos 5)) answer.Full) (refusal_after None (position_after (begun 100 []) (write 100 (pos 5)) answer.Full) ts))
        (only_after (begun 100 []) (write 100 (pos 5)) answer.Full turns after) told

pub found-refused : ¬ Caused true (life_of (write_answered (answer.Found [] false))) []
found-refused caused = due_at 100 (write 100 (pos 5)) (answer.Found [] false) (λ e. cc) (λ e. cc) caused

pub outcomes-refused : ¬ Caused true (life_of (write_answered (answer.Outcomes []))) []
outcomes-refused caused = due_at 100 (write 100 (pos 5)) (answer.Outcomes []) (λ e. cc) (λ e. cc) caused

pub placed-refused : ¬ Caused true (life_of (write_answered (answer.Placed place 1))) []
placed-refused caused = due_at 100 (write 100 (pos 5)) (answer.Placed place 1) (λ e. cc) (λ e. cc) caused

pub available-refused : ¬ Caused true (life_of (write_answered (answer.Available [] place 1))) []
available-refused caused = due_at 100 (write 100 (pos 5)) (answer.Available [] place 1) (λ e. cc) (λ e. cc) caused

pub busy-refused : (node : List ℕ) (shard : ℕ) → ¬ Caused true (life_of (write_answered (answer.Busy node shard))) []
busy-refused node shard caused = due_at 100 (write 100 (pos 5)) (answer.Busy node shard) (λ e. cc) (λ e. cc) caused

pub put_off-refused : ¬ Caused true (life_of (write_answered answer.Later)) []
put_off-refused caused = due_at 100 (write 100 (pos 5)) answer.Later (λ e. cc) (λ e. cc) caused

pub stop-refused : ¬ Caused true (life_of (at_moment 100 (act.Stop (codes "c")) (answer.State (codes "c")))) []
stop-refused caused = due_at 100 (act.Stop (codes "c")) (answer.State (codes "c")) (λ e. cc) (λ e. cc) caused

pub restart-refused : ¬ Caused true (life_of restart_refused) []
restart-refused caused = due_after (begun 100 (stopped (codes "c") ∷ [])) (act.Restart (codes "c") 0) (answer.State (codes "c")) [] (λ e. cc) (λ e. cc) caused
