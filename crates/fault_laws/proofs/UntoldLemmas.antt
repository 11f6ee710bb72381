-- What is said where disks don't tell what they hold.
use Rattle.std.proofs.Common.{◌≡◌, ◌≤◌, ℕ, Bool, true, false, List, [], ◌∷◌, refl, sym, subst, inl, inr, arith}
use Rattle.std.specs.Prelude.{◌⊎◌, Option, Some, None, pos, codes}
use Rattle.m3_model.specs.Levels.{needed_write}
use Rattle.m3_model.specs.declared.act.Act.{Act}
use Rattle.m3_model.specs.declared.act.Act.TheVariants as act
use Rattle.m3_model.specs.declared.act.ReadLevel.{ReadLevel}
use Rattle.m3_model.specs.declared.act.WriteLevel.TheVariants as write_level
use Rattle.m3_model.specs.declared.answer.Answer.{Answer}
use Rattle.m3_model.specs.declared.answer.Answer.TheVariants as answer
use Rattle.m3_model.specs.declared.placement.Placement.{Placement}
use Rattle.m3_model.specs.declared.reason.Reason.{Reason}
use Rattle.m3_model.specs.declared.reason.Reason.TheVariants as reason
use Rattle.m3_model.specs.declared.rules.MetaState.{MetaState}
use Rattle.transcripts.specs.Peers.{IsUnownedForMove, MayBreak}
use Rattle.transcripts.specs.Caused.{Caused, CausedAt, IsDueBy, IsOwn, refusal_after}
use Rattle.transcripts.specs.Deliveries.{LateMessage, MayComeOf, AreOutcomes}
use Rattle.transcripts.specs.Faults.{Fault}
use Rattle.transcripts.specs.Levels.{IsAcked, AreSilent, MissesLevel, IsShort, IsFoundFor}
use Rattle.transcripts.specs.Fates.{OfNode}
use Rattle.transcripts.specs.Moves.{IsNew, IsUnowned, OwnsNot}
use Rattle.transcripts.specs.Reasons.{MayFail, MayRefuse}
use Rattle.transcripts.specs.Record.{Life, Record, TurnPosition}
use Rattle.transcripts.specs.Sweeps.{IsSwept, MayNotKeepUp}
use Rattle.transcripts.specs.Waiting.{Replica}
use Rattle.model_laws.specs.Building.{begun, life_of, place, write, acks, unmet, by_each}
use Rattle.model_laws.specs.Uncaused.{write_answered}
use Rattle.fault_laws.specs.Untold.{MayAnswer}
use Rattle.model_laws.proofs.EachLemmas.{◌also◌}
use Rattle.model_laws.proofs.PositionLemmas.{position_after, only, due, due_after, only_used, caused_by_positions}
use Rattle.model_laws.proofs.SampleLemmas.{stands}
use Rattle.model_laws.proofs.CausedLives.{first_placement, first_moment, counted_0, counted_1, counted_2, below_0_1, below_0_2, below_1_2}
use Rattle.fault_laws.proofs.MessageLives.{unmet_when}
use Rattle.model_laws.proofs.UncausedLives.{each_refuses}

-- ---- less is said

new_less : (x : Replica) (start : Option MetaState) (p : TurnPosition) → IsNew true x start p → IsNew false x start p
new_less x start p new = record { lines = new.lines; earlier = new.earlier; assigned = new.assigned; not_since = λ told. cc; not_beside = λ told. cc }

unowned_less : (start : Option MetaState) (p : TurnPosition) (used : Placement) (shard node : ℕ) → IsUnowned true start p used shard node → IsUnowned false start p used shard node
unowned_less start p used shard node may =
    elim may as (λ _. IsUnowned false start p used shard node) [
      | inl not ↦ inl not
      | inr new ↦ inr (record { instance_ = new.instance_; stands = new.stands; holds = new_less (record { shard = shard; node = node; name = new.instance_.name }) start p new.holds })
    ]

fail_less : (faults : List Fault) (start : Option MetaState) (p : TurnPosition) (used : Placement) (shard node : ℕ) (why : Reason) → MayFail true faults start p used shard node why → MayFail false faults start p used shard node why
fail_less faults start p used shard node reason.Boot may = λ told. cc
fail_less faults start p used shard node reason.NotOwned may = unowned_less start p used shard node may
fail_less faults start p used shard node (reason.Stale fence) may = λ told. cc
fail_less faults start p used shard node reason.Down may = may
fail_less faults start p used shard node reason.Disk may = may
fail_less faults start p used shard node (reason.Corrupt damage) may = may
fail_less faults start p used shard node reason.Memory may = tt
fail_less faults start p used shard node _ may = absurd may

refuse_less : (faults : List Fault) (start : Option MetaState) (p : TurnPosition) (used : Placement) (shard node : ℕ) (why : Reason) → MayRefuse true faults start p used shard node why → MayRefuse false faults start p used shard node why
refuse_less faults start p used shard node reason.Cut may = may
refuse_less faults start p used shard node reason.Past may = may
refuse_less faults start p used shard node reason.Future may = may
refuse_less faults start p used shard node reason.Boot may = λ told. cc
refuse_less faults start p used shard node reason.NotOwned may = unowned_less start p used shard node may
refuse_less faults start p used shard node (reason.Stale fence) may = λ told. cc
refuse_less faults start p used shard node reason.Down may = may
refuse_less faults start p used shard node reason.Disk may = may
refuse_less faults start p used shard node (reason.Corrupt damage) may = may
refuse_less faults start p used shard node reason.Memory may = tt

come_less : (faults : List Fault) (start : Option MetaState) (p : TurnPosition) (m : LateMessage) (shard : ℕ) (came : Option Reason) → MayComeOf true faults start p m shard came → MayComeOf false faults start p m shard came
come_less faults start p m shard None may = may
come_less faults start p m shard (Some reason.Past) may = may
come_less faults start p m shard (Some reason.Future) may = may
come_less faults start p m shard (Some reason.Boot) may = λ told. cc
come_less faults start p m shard (Some reason.NotOwned) may = unowned_less start p m.used shard m.node may
come_less faults start p m shard (Some (reason.Stale fence)) may = λ told. cc
come_less faults start p m shard (Some reason.Down) may = may
come_less faults start p m shard (Some reason.Disk) may = may
come_less faults start p m shard (Some (reason.Corrupt damage)) may = may
come_less faults start p m shard (Some reason.Memory) may = tt
come_less faults start p m shard (Some _) may = absurd may

silent_less : (faults : List Fault) (start : Option MetaState) (p : TurnPosition) (used : Placement) (shard : ℕ) (reasons : List (ℕ × Reason)) → AreSilent true faults start p used shard reasons → AreSilent false faults start p used shard reasons
silent_less faults start p used shard reasons silent = record {
  counted = silent.counted;
  by_name = silent.by_name;
  unreached = silent.unreached;
  refused = λ r m. refuse_less faults start p used shard r.0 r.1 (silent.refused r m);
}

misses_less : (faults : List Fault) (start : Option MetaState) (p : TurnPosition) (got needed : ℕ) (reasons : List (ℕ × Reason)) (shard : ℕ) → MissesLevel true faults start p got needed reasons shard → MissesLevel false faults start p got needed reasons shard
misses_less faults start p got needed reasons shard missed = record {
  call = missed.call;
  of_act = missed.of_act;
  place = missed.place;
  may_use = missed.may_use;
  asked = missed.asked;
  first = missed.first;
  needed_is = missed.needed_is;
  fewer = missed.fewer;
  others = missed.others;
  silent = silent_less faults start p missed.place shard reasons missed.silent;
  served = missed.served;
}

short_less : (faults : List Fault) (start : Option MetaState) (p : TurnPosition) (used : Placement) (shard : ℕ) → IsShort true faults start p used shard → IsShort false faults start p used shard
short_less faults start p used shard short = record { reasons = short.reasons; silent = silent_less faults start p used shard short.reasons short.silent; got = short.got; others = short.others; some = short.some; fewer = short.fewer }

found_less : (faults : List Fault) (start : Option MetaState) (p : TurnPosition) (id : Option (List ℕ)) (level : ReadLevel) (version : Option ℕ) (short : Bool) → IsFoundFor true faults start p id level version short → IsFoundFor false faults start p id level version short
found_less faults start p id level version short found = record {
  place = found.place;
  may_use = found.may_use;
  enough = found.enough;
  may_be_short = λ is. let may = found.may_be_short is in (may.0, (may.1.0, may.1.1, short_less faults start p found.place may.1.0 may.1.2));
  not_short = found.not_short;
}

outcomes_less : (faults : List Fault) (start : Option MetaState) (p : TurnPosition) (messages : List LateMessage) (outcomes : List (ℕ × ℕ × Option Reason)) → AreOutcomes true faults start p messages outcomes → AreOutcomes false faults start p messages outcomes
outcomes_less faults start p [] [] each = tt
outcomes_less faults start p [] (o ∷ outcomes) each = absurd each
outcomes_less faults start p (m ∷ messages) [] each = absurd each
outcomes_less faults start p (m ∷ messages) (o ∷ outcomes) each =
    (record { message = each.0.message; node_is = each.0.node_is; shard_is = each.0.shard_is; came = come_less faults start p m o.1 o.2 each.0.came }, outcomes_less faults start p messages outcomes each.1)

kept_up_less : (faults : List Fault) (start : Option MetaState) (p : TurnPosition) (used : Placement) (shard node : ℕ) (why : Reason) → MayNotKeepUp true faults start p used shard node why → MayNotKeepUp false faults start p used shard node why
kept_up_less faults start p used shard node reason.NotOwned may = absurd may
kept_up_less faults start p used shard node (reason.Stale fence) may = absurd may
kept_up_less faults start p used shard node why may = fail_less faults start p used shard node why may

swept_less : (faults : List Fault) (start : Option MetaState) (p : TurnPosition) (done : List (ℕ × ℕ × ℕ)) (failed : List (ℕ × ℕ × Reason)) → IsSwept true faults start p done failed → IsSwept false faults start p done failed
swept_less faults start p done failed h = record { over = h.over; running = h.running; begun = h.begun; refused = λ x m. kept_up_less faults start p (h.over).place x.1 x.0 x.2 (h.refused x m) }

move_less : (start : Option MetaState) (p : TurnPosition) (used : Placement) (shard node : ℕ) → IsUnownedForMove true start p used shard node → IsUnownedForMove false start p used shard node
move_less start p used shard node h = record {
  tenure = h.tenure;
  moving = h.moving;
  stands = h.stands;
  joins = h.joins;
  unowned = elim h.unowned as (λ _. OwnsNot start p shard node h.tenure ⊎ OfNode used node (λ name. IsNew false (record { shard = shard; node = node; name = name }) start p)) [
    | inl not ↦ inl not
    | inr new ↦ inr (record { instance_ = new.instance_; stands = new.stands; holds = new_less (record { shard = shard; node = node; name = new.instance_.name }) start p new.holds })
  ];
}

break_less : (faults : List Fault) (start : Option MetaState) (p : TurnPosition) (used : Placement) (shard node : ℕ) (why : Reason) → MayBreak true faults start p used shard node why → MayBreak false faults start p used shard node why
break_less faults start p used shard node reason.NotOwned may = move_less start p used shard node may
break_less faults start p used shard node (reason.Stale fence) may = absurd may
break_less faults start p used shard node why may = fail_less faults start p used shard node why may

own_less : (faults : List Fault) (start : Option MetaState) (messages : List LateMessage) (p : TurnPosition) (a : Act) (b : Answer) → IsOwn true faults start messages p a b → IsOwn false faults start messages p a b
own_less faults start messages p (act.Init rf shards seed nodes) (answer.Placed used version) own = own
own_less faults start messages p (act.Init rf shards seed nodes) (answer.Group shard) own = own
own_less faults start messages p (act.Init rf shards seed nodes) (answer.Disk name shard) own = own
own_less faults start messages p (act.Namespace name block past future retention) answer.Done own = tt
own_less faults start messages p (act.Now now) answer.Done own = tt
own_less faults start messages p (act.Fates list) answer.Done own = tt
own_less faults start messages p act.Deliver (answer.Outcomes outcomes) own = record { in_order = own.in_order; each = outcomes_less faults start p messages outcomes own.each }
own_less faults start messages p (act.Stop node) answer.Done own = tt
own_less faults start messages p (act.Restart node pick) answer.Done own = tt
own_less faults start messages p (act.Restart node pick) (answer.Disk name shard) own = own
own_less faults start messages p (act.Bootstrap node asked) (answer.Available available used version) own = own
own_less faults start messages p (act.Bootstrap node asked) (answer.Disk name shard) own = own
own_less faults start messages p (act.Bootstrap node asked) (answer.Corrupt name shard damage) own = own
own_less faults start messages p (act.Bootstrap node asked) (answer.Peers got needed reasons shard) own = record { misses = own.misses; streamed = own.streamed; refused = λ r m. break_less faults start p (own.misses).place shard r.0 r.1 (own.refused r m) }
own_less faults start messages p (act.Bootstrap node asked) (answer.Limit limit) own = own
own_less faults start messages p (act.Add node group) b own = own
own_less faults start messages p (act.Drain node) b own = own
own_less faults start messages p (act.Cancel node) b own = own
own_less faults start messages p (act.Remove node) b own = own
own_less faults start messages p (act.Replace node by group) b own = own
own_less faults start messages p (act.Write ns id t v level version) (answer.Acks taken) own = own
own_less faults start messages p (act.Write ns id t v level version) (answer.Consistency got needed reasons shard) own = misses_less faults start p got needed reasons shard own
own_less faults start messages p (act.Fetch ns id from to level version) (answer.Found series short) own = found_less faults start p (Some id) level version short own
own_less faults start messages p (act.Fetch ns id from to level version) (answer.Consistency got needed reasons shard) own = misses_less faults start p got needed reasons shard own
own_less faults start messages p (act.Match ns wanted from to level version) (answer.Found series short) own = found_less faults start p None level version short own
own_less faults start messages p (act.Match ns wanted from to level version) (answer.Consistency got needed reasons shard) own = misses_less faults start p got needed reasons shard own
own_less faults start messages p act.Tick (answer.Swept done failed) own = swept_less faults start p done failed own
own_less faults start messages p act.Flush (answer.Swept done failed) own = swept_less faults start p done failed own
own_less faults start messages p act.Snapshot (answer.Swept done failed) own = swept_less faults start p done failed own
own_less faults start messages p act.Status (answer.Status now lines version) own = own
own_less faults start messages p _ _ own = absurd own

due_less : (faults : List Fault) (start : Option MetaState) (messages : List LateMessage) (p : TurnPosition) (refusal : Option Answer) → IsDueBy true faults start messages p refusal → IsDueBy false faults start messages p refusal
due_less faults start messages p (Some refusal) told = told
due_less faults start messages p None told = own_less faults start messages p p.turn.act p.turn.answer told

at_less : (faults : List Fault) (past : List Record) (start : Option MetaState) (messages : List LateMessage) (p : TurnPosition) → CausedAt true faults past start messages p → CausedAt false faults past start messages p
at_less faults past start messages p here =
    elim here as (λ _. CausedAt false faults past start messages p) [
      | inl memory ↦ inl memory
      | inr told ↦ elim told as (λ _. CausedAt false faults past start messages p) [
        | inl full ↦ inr (inl (full.0, λ is. full.1 refl))
        | inr told_due ↦ inr (inr (told_due.0, told_due.1, due_less faults start messages p (refusal_after start p told_due.0) told_due.2))
      ]
    ]

pub caused_less : (life : Life) (faults : List Fault) → Caused true life faults → Caused false life faults
caused_less life faults caused = record {
  different = caused.different;
  delivered = caused.delivered;
  each = λ p h. at_less faults life.past life.present.start (caused.delivered p) p (caused.each p h);
  once = caused.once;
  whole = caused.whole;
}

-- ---- boots and fences

-- what each of the three nodes may refuse the write for
each_may : (why : Reason) → ((p : TurnPosition) (node : ℕ) → MayRefuse false [] None p place 0 node why) → MayAnswer false (unmet 0 (by_each why))
each_may why may =
    let p = position_after (begun 100 []) (write 100 (pos 5)) (unmet 0 (by_each why)) in
    caused_by_positions false [] (life_of (write_answered (unmet 0 (by_each why)))) tt refl (
    only (at_less [] [] None [] _ (due true [] [] _ _ _ (first_placement, refl)))
    also only (at_less [] [] None [] _ (due true [] [] _ _ _ tt))
    also only (at_less [] [] None [] _ (first_moment [] [] 100))
    also only (due false [] [] _ _ _ (unmet_when {tells = false} {faults = []} p (needed_write write_level.Majority) 0 (by_each why) refl refl refl refl (omega arith) refl
    (counted_0 also counted_1 also counted_2 also tt) ((below_0_1 also below_0_2 also tt) also (below_1_2 also tt) also tt also tt)
    ((λ quiet. inl refl) also (λ quiet. inr (inl refl)) also (λ quiet. inr (inr (inl refl))) also tt)
    (may p 0 also may p 1 also may p 2 also tt) (λ some. absurd (omega (arith, some)))))
    also tt)

pub boot-untold : MayAnswer false (unmet 0 (by_each reason.Boot))
boot-untold = each_may reason.Boot (λ p node told. cc)

pub fence-untold : (fence : ℕ) → MayAnswer false (unmet 0 (by_each (reason.Stale fence)))
fence-untold fence = each_may (reason.Stale fence) (λ p node told. cc)

pub fence-told : (fence : ℕ) → ¬ MayAnswer true (unmet 0 (by_each (reason.Stale fence)))
fence-told fence caused = each_refuses 100 100 (pos 5) (reason.Stale fence) (stands refl refl refl refl refl (λ name. refl) (λ name. refl also refl also refl also tt) (λ x. refl)) caused

-- ---- as much

pub order-untold : ¬ MayAnswer false answer.Order
order-untold caused = due_after (begun 100 []) (write 100 (pos 5)) answer.Order [] (λ e. cc) (λ e. cc) caused

pub too_few-untold : ¬ MayAnswer false (acks (0 ∷ []))
too_few-untold caused =
    let taken : IsAcked None (position_after (begun 100 []) (write 100 (pos 5)) (acks (0 ∷ []))) (codes "hello") write_level.Majority None (0 ∷ []) = due_after (begun 100 []) (write 100 (pos 5)) (acks (0 ∷ [])) [] (λ e. cc) (λ e. cc) caused in
    let same : place ≡ taken.place = only_used (begun 100 []) (write 100 (pos 5)) (acks (0 ∷ [])) place taken.place refl taken.may_use in
    let enough : 2 ≤ 1 = subst (λ (x : Placement). needed_write write_level.Majority x.rf ≤ 1) (sym same) taken.enough in
    omega arith

-- what a may have refused the write for
a_may : (why : Reason) → MayAnswer false (unmet 0 (by_each why)) → (used : Placement) × MayRefuse false [] None (position_after (begun 100 []) (write 100 (pos 5)) (unmet 0 (by_each why))) used 0 0 why
a_may why caused =
    let missed : MissesLevel false [] None (position_after (begun 100 []) (write 100 (pos 5)) (unmet 0 (by_each why))) 0 2 (by_each why) 0 = due_after (begun 100 []) (write 100 (pos 5)) (unmet 0 (by_each why)) [] (λ e. cc) (λ e. cc) caused in
    (missed.place, missed.silent.refused (0, why) (inl refl))

pub disk-untold : ¬ MayAnswer false (unmet 0 (by_each reason.Disk))
disk-untold caused = (a_may reason.Disk caused).1

pub down-untold : ¬ MayAnswer false (unmet 0 (by_each reason.Down))
down-untold caused = elim (a_may reason.Down caused).1 as (λ _. ⊥) [ inl stops ↦ let bad : false ≡ true = stops.holds in cc | inr closed ↦ closed.among ]

pub cut-untold : ¬ MayAnswer false (unmet 0 (by_each reason.Cut))
cut-untold caused = let bad : false ≡ true = (a_may reason.Cut caused).1.1.holds in cc
