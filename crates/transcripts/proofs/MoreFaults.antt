-- More faults: what was caused by some is caused by more; and faults of two lists that share none.
use Rattle.std.proofs.Common.{ℕ, List, [], ◌∷◌, ◌++◌, ◌⊎◌, inl, inr, refl, Bool}
use Rattle.m3_model.proofs.MemberLemmas.{IsIn-append_cases}
use Rattle.std.specs.Prelude.{Option, Some, None}
use Rattle.m3_model.specs.Members.{IsIn}
use Rattle.m3_model.specs.declared.act.Act.{Act}
use Rattle.m3_model.specs.declared.act.Act.TheVariants as act
use Rattle.m3_model.specs.declared.act.ReadLevel.{ReadLevel}
use Rattle.m3_model.specs.declared.answer.Answer.{Answer}
use Rattle.m3_model.specs.declared.answer.Answer.TheVariants as answer
use Rattle.m3_model.specs.declared.placement.Placement.{Placement}
use Rattle.m3_model.specs.declared.reason.Reason.{Reason}
use Rattle.m3_model.specs.declared.reason.Reason.TheVariants as reason
use Rattle.m3_model.specs.declared.rules.MetaState.{MetaState}
use Rattle.transcripts.specs.Caused.{CausedAt, IsDueBy, IsOwn, IsStepOf, IsUnmadeIn, refusal_after}
use Rattle.transcripts.specs.Deliveries.{AreOutcomes, LateMessage, MayComeOf}
use Rattle.transcripts.specs.Fates.{IsStoppedAt}
use Rattle.transcripts.specs.Faults.{AreDifferent, Fault, IsClosedByFault}
use Rattle.transcripts.specs.Levels.{AreSilent, IsFoundFor, MissesLevel}
use Rattle.transcripts.specs.Peers.{MayBreak}
use Rattle.transcripts.specs.Reasons.{MayFail, MayRefuse}
use Rattle.transcripts.specs.Record.{Record, TurnPosition}
use Rattle.transcripts.specs.Sweeps.{IsSwept, MayNotKeepUp}

-- all faults of one list are of the other
abbrev pub AreAmong : List Fault → List Fault → Type 0
AreAmong faults more = (f : Fault) → IsIn faults f → IsIn more f

pub closed_more : (faults more : List Fault) → AreAmong faults more → (start : Option MetaState) (p : TurnPosition) (place : Placement) (shard node : ℕ) → IsClosedByFault faults start p place shard node → IsClosedByFault more start p place shard node
closed_more faults more among start p place shard node closed = record {
  fault = closed.fault;
  among = among closed.fault closed.among;
  of_node = closed.of_node;
  of_shard = closed.of_shard;
  closing = closed.closing;
  not_later = closed.not_later;
  was_there = closed.was_there;
  not_restarted = closed.not_restarted;
}

pub down_more : (faults more : List Fault) → AreAmong faults more → (start : Option MetaState) (p : TurnPosition) (place : Placement) (shard node : ℕ) → IsStoppedAt p place node ⊎ IsClosedByFault faults start p place shard node
    → IsStoppedAt p place node ⊎ IsClosedByFault more start p place shard node
down_more faults more among start p place shard node (inl stopped) = inl stopped
down_more faults more among start p place shard node (inr closed) = inr (closed_more faults more among start p place shard node closed)

pub failed_more : (tells : Bool) (faults more : List Fault) → AreAmong faults more → (start : Option MetaState) (p : TurnPosition) (place : Placement) (shard node : ℕ) (why : Reason) → MayFail tells faults start p place shard node why → MayFail tells more start p place shard node why
failed_more tells faults more among start p place shard node reason.Down h = down_more faults more among start p place shard node h
failed_more tells faults more among start p place shard node reason.Boot h = h
failed_more tells faults more among start p place shard node reason.NotOwned h = h
failed_more tells faults more among start p place shard node (reason.Stale fence) h = h
failed_more tells faults more among start p place shard node reason.Disk h = among _ h
failed_more tells faults more among start p place shard node (reason.Corrupt damage) h = (among _ h.0, h.1)
failed_more tells faults more among start p place shard node reason.Memory h = tt
failed_more tells faults more among start p place shard node _ h = absurd h

refused_more : (tells : Bool) (faults more : List Fault) → AreAmong faults more → (start : Option MetaState) (p : TurnPosition) (place : Placement) (shard node : ℕ) (why : Reason) → MayRefuse tells faults start p place shard node why → MayRefuse tells more start p place shard node why
refused_more tells faults more among start p place shard node reason.Cut h = h
refused_more tells faults more among start p place shard node reason.Past h = h
refused_more tells faults more among start p place shard node reason.Future h = h
refused_more tells faults more among start p place shard node why h = failed_more tells faults more among start p place shard node why h

silent_more : (tells : Bool) (faults more : List Fault) → AreAmong faults more → (start : Option MetaState) (p : TurnPosition) (place : Placement) (shard : ℕ) (reasons : List (ℕ × Reason)) → AreSilent tells faults start p place shard reasons → AreSilent tells more start p place shard reasons
silent_more tells faults more among start p place shard reasons h =
    record { counted = h.counted; by_name = h.by_name; unreached = h.unreached; refused = λ r i. refused_more tells faults more among start p place shard r.0 r.1 (h.refused r i) }

missed_more : (tells : Bool) (faults more : List Fault) → AreAmong faults more → (start : Option MetaState) (p : TurnPosition) (got needed : ℕ) (reasons : List (ℕ × Reason)) (shard : ℕ) → MissesLevel tells faults start p got needed reasons shard → MissesLevel tells more start p got needed reasons shard
missed_more tells faults more among start p got needed reasons shard h = record {
  call = h.call;
  of_act = h.of_act;
  place = h.place;
  may_use = h.may_use;
  asked = h.asked;
  first = h.first;
  needed_is = h.needed_is;
  fewer = h.fewer;
  others = h.others;
  silent = silent_more tells faults more among start p h.place shard reasons h.silent;
  served = h.served;
}

found_more : (tells : Bool) (faults more : List Fault) → AreAmong faults more → (start : Option MetaState) (p : TurnPosition) (id : Option (List ℕ)) (level : ReadLevel) (version : Option ℕ) (short : Bool) → IsFoundFor tells faults start p id level version short → IsFoundFor tells more start p id level version short
found_more tells faults more among start p id level version short h = record {
  place = h.place;
  may_use = h.may_use;
  enough = h.enough;
  may_be_short = λ is.
      let why = h.may_be_short is in
      let own = why.1.2 in
      (why.0, (why.1.0, why.1.1, record { reasons = own.reasons; silent = silent_more tells faults more among start p h.place why.1.0 own.reasons own.silent; got = own.got; others = own.others; some = own.some; fewer = own.fewer }));
  not_short = h.not_short;
}

came_more : (tells : Bool) (faults more : List Fault) → AreAmong faults more → (start : Option MetaState) (p : TurnPosition) (m : LateMessage) (shard : ℕ) (outcome : Option Reason) → MayComeOf tells faults start p m shard outcome → MayComeOf tells more start p m shard outcome
came_more tells faults more among start p m shard None h = h
came_more tells faults more among start p m shard (Some reason.Past) h = h
came_more tells faults more among start p m shard (Some reason.Future) h = h
came_more tells faults more among start p m shard (Some why) h = failed_more tells faults more among start p m.used shard m.node why h

outcomes_more : (tells : Bool) (faults more : List Fault) → AreAmong faults more → (start : Option MetaState) (p : TurnPosition) (messages : List LateMessage) (outcomes : List (ℕ × ℕ × Option Reason)) → AreOutcomes tells faults start p messages outcomes → AreOutcomes tells more start p messages outcomes
outcomes_more tells faults more among start p [] [] h = tt
outcomes_more tells faults more among start p (m ∷ messages) (outcome ∷ outcomes) h = (
  record {
    message = h.0.message;
    node_is = h.0.node_is;
    shard_is = h.0.shard_is;
    came = came_more tells faults more among start p m outcome.1 outcome.2 h.0.came;
  },
  outcomes_more tells faults more among start p messages outcomes h.1,
)
outcomes_more tells faults more among start p [] (outcome ∷ outcomes) h = absurd h
outcomes_more tells faults more among start p (m ∷ messages) [] h = absurd h

pub unmade_more : (faults more : List Fault) → AreAmong faults more → (start : Option MetaState) (p : TurnPosition) (place : Placement) (name : List ℕ) (shard : ℕ) → IsUnmadeIn faults start p place name shard → IsUnmadeIn more start p place name shard
unmade_more faults more among start p place name shard slot = record { node = slot.node; named = slot.named; member = slot.member; is_new = slot.is_new; untaken = among _ slot.untaken }

-- a step's answer is one also where more disks couldn't be taken
pub step_more : (faults more : List Fault) → AreAmong faults more → (start : Option MetaState) (p : TurnPosition) (a : Act) (b : Answer) → IsStepOf faults start p a b → IsStepOf more start p a b
step_more faults more among start p a (answer.Disk name shard) h = (h.0, h.1, unmade_more faults more among start p h.0 name shard h.2)
step_more faults more among start p a _ h = h

pub kept_up_more : (tells : Bool) (faults more : List Fault) → AreAmong faults more → (start : Option MetaState) (p : TurnPosition) (place : Placement) (shard node : ℕ) (why : Reason) → MayNotKeepUp tells faults start p place shard node why → MayNotKeepUp tells more start p place shard node why
kept_up_more tells faults more among start p place shard node reason.NotOwned h = absurd h
kept_up_more tells faults more among start p place shard node (reason.Stale fence) h = absurd h
kept_up_more tells faults more among start p place shard node why h = failed_more tells faults more among start p place shard node why h

swept_more : (tells : Bool) (faults more : List Fault) → AreAmong faults more → (start : Option MetaState) (p : TurnPosition) (done : List (ℕ × ℕ × ℕ)) (failed : List (ℕ × ℕ × Reason)) → IsSwept tells faults start p done failed → IsSwept tells more start p done failed
swept_more tells faults more among start p done failed h = record { over = h.over; running = h.running; begun = h.begun; refused = λ x m. kept_up_more tells faults more among start p (h.over).place x.1 x.0 x.2 (h.refused x m) }

pub break_more : (tells : Bool) (faults more : List Fault) → AreAmong faults more → (start : Option MetaState) (p : TurnPosition) (place : Placement) (shard node : ℕ) (why : Reason) → MayBreak tells faults start p place shard node why → MayBreak tells more start p place shard node why
break_more tells faults more among start p place shard node reason.NotOwned h = h
break_more tells faults more among start p place shard node (reason.Stale fence) h = absurd h
break_more tells faults more among start p place shard node why h = failed_more tells faults more among start p place shard node why h

pub own_more : (tells : Bool) (faults more : List Fault) → AreAmong faults more → (start : Option MetaState) (messages : List LateMessage) (p : TurnPosition) (a : Act) (b : Answer) → IsOwn tells faults start messages p a b → IsOwn tells more start messages p a b
own_more tells faults more among start messages p (act.Init rf shards seed nodes) (answer.Placed place version) h = h
own_more tells faults more among start messages p (act.Init rf shards seed nodes) (answer.Group shard) h = h
own_more tells faults more among start messages p (act.Init rf shards seed nodes) (answer.Disk name shard) h = (h.0, h.1, unmade_more faults more among start p h.0 name shard h.2)
own_more tells faults more among start messages p (act.Namespace name block past future retention) answer.Done h = tt
own_more tells faults more among start messages p (act.Now now) answer.Done h = tt
own_more tells faults more among start messages p (act.Fates list) answer.Done h = tt
own_more tells faults more among start messages p act.Deliver (answer.Outcomes outcomes) h = record { in_order = h.in_order; each = outcomes_more tells faults more among start p messages outcomes h.each }
own_more tells faults more among start messages p (act.Stop node) answer.Done h = tt
own_more tells faults more among start messages p (act.Restart node pick) answer.Done h = tt
own_more tells faults more among start messages p (act.Restart node pick) (answer.Disk name shard) h = (h.0, (h.1.0, h.1.1, h.1.2, among _ h.1.3))
own_more tells faults more among start messages p (act.Bootstrap node asked) (answer.Available available place version) h = h
own_more tells faults more among start messages p (act.Bootstrap node asked) (answer.Disk name shard) h = (h.0, h.1, (h.2.0, h.2.1, h.2.2, among _ h.2.3))
own_more tells faults more among start messages p (act.Bootstrap node asked) (answer.Peers got needed reasons shard) h = record { misses = h.misses; streamed = h.streamed; refused = λ r m. break_more tells faults more among start p (h.misses).place shard r.0 r.1 (h.refused r m) }
own_more tells faults more among start messages p (act.Bootstrap node asked) (answer.Limit limit) h = h
own_more tells faults more among start messages p (act.Bootstrap node asked) (answer.Corrupt name shard damage) h = (h.0, h.1, (h.2.0, h.2.1, h.2.2, among _ h.2.3), h.3)
own_more tells faults more among start messages p (act.Add node group) b h = step_more faults more among start p (act.Add node group) b h
own_more tells faults more among start messages p (act.Drain node) b h = step_more faults more among start p (act.Drain node) b h
own_more tells faults more among start messages p (act.Cancel node) b h = step_more faults more among start p (act.Cancel node) b h
own_more tells faults more among start messages p (act.Remove node) b h = step_more faults more among start p (act.Remove node) b h
own_more tells faults more among start messages p (act.Replace node by group) b h = step_more faults more among start p (act.Replace node by group) b h
own_more tells faults more among start messages p (act.Write ns id t v level version) (answer.Acks acks) h = h
own_more tells faults more among start messages p (act.Write ns id t v level version) (answer.Consistency got needed reasons shard) h = missed_more tells faults more among start p got needed reasons shard h
own_more tells faults more among start messages p (act.Fetch ns id from to level version) (answer.Found series short) h = found_more tells faults more among start p (Some id) level version short h
own_more tells faults more among start messages p (act.Fetch ns id from to level version) (answer.Consistency got needed reasons shard) h = missed_more tells faults more among start p got needed reasons shard h
own_more tells faults more among start messages p (act.Match ns wanted from to level version) (answer.Found series short) h = found_more tells faults more among start p None level version short h
own_more tells faults more among start messages p (act.Match ns wanted from to level version) (answer.Consistency got needed reasons shard) h = missed_more tells faults more among start p got needed reasons shard h
own_more tells faults more among start messages p act.Tick (answer.Swept done failed) h = swept_more tells faults more among start p done failed h
own_more tells faults more among start messages p act.Flush (answer.Swept done failed) h = swept_more tells faults more among start p done failed h
own_more tells faults more among start messages p act.Snapshot (answer.Swept done failed) h = swept_more tells faults more among start p done failed h
own_more tells faults more among start messages p act.Status (answer.Status now lines version) h = h
own_more tells faults more among start messages p _ _ h = absurd h

due_more : (tells : Bool) (faults more : List Fault) → AreAmong faults more → (start : Option MetaState) (messages : List LateMessage) (p : TurnPosition) (refusal : Option Answer) → IsDueBy tells faults start messages p refusal → IsDueBy tells more start messages p refusal
due_more tells faults more among start messages p (Some refusal) h = h
due_more tells faults more among start messages p None h = own_more tells faults more among start messages p p.turn.act p.turn.answer h

-- an answer that is caused stays so
pub caused_more : (tells : Bool) (faults more : List Fault) → AreAmong faults more → (past : List Record) (start : Option MetaState) (messages : List LateMessage) (p : TurnPosition) → CausedAt tells faults past start messages p → CausedAt tells more past start messages p
caused_more tells faults more among past start messages p (inl memory) = inl memory
caused_more tells faults more among past start messages p (inr (inl full)) = inr (inl full)
caused_more tells faults more among past start messages p (inr (inr due)) = inr (inr (due.0, due.1, due_more tells faults more among start messages p (refusal_after start p due.0) due.2))

-- the faults of two lists that share none are different where those of each are
pub different_both : (xs ys : List Fault) → AreDifferent xs → AreDifferent ys → ((fault : Fault) → IsIn xs fault → IsIn ys fault → ⊥) → AreDifferent (xs ++ ys)
different_both [] ys of_xs of_ys apart = of_ys
different_both (x ∷ xs) ys of_xs of_ys apart =
    (λ m. elim (IsIn-append_cases xs ys x m) as (λ _. ⊥) [ inl same ↦ of_xs.0 same | inr other ↦ apart x (inl refl) other ], different_both xs ys of_xs.1 of_ys (λ fault m n. apart fault (inr m) n))
