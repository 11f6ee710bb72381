-- A run that is told goes on by one line.
use Rattle.told_by.specs.Makes.{EndsRestart, MayMake, TellsMakes, TellsRestarts}
use Rattle.told_by.specs.Hears.{HearsBy, InStretch, TellsHears}
use Rattle.told_by.proofs.HearLemmas.{hears_on}
use Rattle.std.proofs.Common.{◌≡◌, ℕ, zero, suc, ◌<◌, ◌≤◌, ◌+◌, List, [], ◌∷◌, ◌++◌, take, length, refl, sym, ap, ◌∙◌, subst, inl, inr, arith, length-append, append_assoc, cond}
use Rattle.std.specs.Prelude.{◌⊎◌, Option, Some, None}
use Rattle.std.proofs.Math.Dec.{ltb}
use Rattle.std.proofs.lemmas.Bool.{cases_lt, lt-ltb, le-ltb}
use Rattle.std.proofs.lemmas.List.{take-append-le}
use Rattle.m3_model.proofs.SplitLemmas.{not_empty}
use Rattle.m3_model.specs.Reads.{Found}
use Rattle.transcripts.proofs.PositionLemmas.{at_push}
use Rattle.transcripts.specs.Record.{line_of}
use Rattle.transcripts.specs.Record.{TurnPosition, IsTurnPosition, IsLastTurnPosition}
use Rattle.transcripts.specs.Rules.{rules_at, start_rules}
use Rattle.m3_model.specs.declared.act.Act.TheVariants as act
use Rattle.m3_model.specs.declared.answer.Answer.TheVariants as answer
use Rattle.m3_model.specs.declared.placement.Placement.{Placement}
use Rattle.m3_model.specs.declared.point.Pick.{Pick}
use Rattle.m3_model.specs.declared.point.Point.{Point}
use Rattle.m3_model.specs.declared.rules.MetaState.{MetaState}
use Rattle.m3_model.specs.declared.rules.Rules.{Rules}
use Rattle.m3_model.specs.declared.turn.Turn.{Turn}
use Rattle.cluster_core.specs.Lists.{At}
use Rattle.cluster_core.specs.declared.event.Event.{Event}
use Rattle.cluster_core.specs.declared.event.Event.TheVariants as event
use Rattle.cluster_core.specs.declared.event.StepCall.TheVariants as call
use Rattle.cluster_core.specs.declared.event.StepReply.TheVariants as reply
use Rattle.cluster_core.proofs.ListLemmas.{at_append, at_within}
use Rattle.told_by.specs.Clocks.{HasClock, IsClockOf, TellsClocks, rules_left}
use Rattle.told_by.specs.Openings.{IsInitOf, IsOpenedBy, TellsInit, opening_length}
use Rattle.told_by.specs.Placements.{EndsPrinted, HasPlace, PrintsPeers, TellsPlacements}
use Rattle.told_by.specs.Reads.{Asking, Fetched, IsAskingOf, IsFetchOf, IsStartAt, IsStartOf, IsTold, TellsReads}
use Rattle.told_by.specs.Spans.{AreOrdered, From, IsAlone, IsEarlier, IsWithin, Spans}
use Rattle.told_by.specs.Told.{AreLines, TellsLine, ToldBy}
use Rattle.told_by.specs.Writes.{HasAck, HasSend, IsSendAt, IsSendOf, TellsWrites, Uses}

-- ---- what is so of some events is so of more

-- the events stand in the longer list, of which at least those that are told of here are told of, with the same makers
pub record Lifts (Mine Others : ℕ → Type 0) (events longer : List Event) (makers others : ℕ → TurnPosition) : Type 0 where
  pub stays : (i : ℕ) (e : Event) → At events i e → At longer i e
  pub below : (i : ℕ) → Mine i → Others i
  pub same : (i : ℕ) (e : Event) → At events i e → Mine i → others i ≡ makers i

pub lift_sent : {Mine Others : ℕ → Type 0} {events longer : List Event} {makers others : ℕ → TurnPosition} → Lifts Mine Others events longer makers others → (p : TurnPosition) (send : ℕ) → IsSendAt Mine events makers p send → IsSendAt Others longer others p send
lift_sent l p send h = record {
  version = h.version;
  s = h.s;
  point = h.point;
  there = l.stays send (event.Send h.version h.s h.point) h.there;
  mine = l.below send h.mine;
  own = l.same send (event.Send h.version h.s h.point) h.there h.mine ∙ h.own;
}

pub lift_send : {Mine Others : ℕ → Type 0} {events longer : List Event} {makers others : ℕ → TurnPosition} → Lifts Mine Others events longer makers others → (p : TurnPosition) → HasSend Mine events makers p → HasSend Others longer others p
lift_send l p h = record { send = h.send; sent = lift_sent l p h.send h.sent }

pub lift_ack : {Mine Others : ℕ → Type 0} {events longer : List Event} {makers others : ℕ → TurnPosition} → Lifts Mine Others events longer makers others → (p : TurnPosition) (nodes : List ℕ) → HasAck Mine events makers p nodes → HasAck Others longer others p nodes
lift_ack l p nodes h = record {
  send = h.send;
  sent = lift_sent l p h.send h.sent;
  ack = h.ack;
  acked = l.stays h.ack (event.Ack h.send nodes) h.acked;
  mine = l.below h.ack h.mine;
  own = l.same h.ack (event.Ack h.send nodes) h.acked h.mine ∙ h.own;
}

pub lift_uses : {events longer : List Event} → ((i : ℕ) (e : Event) → At events i e → At longer i e) → (start : Option MetaState) (p : TurnPosition) (version : Option ℕ) (place : Placement) → Uses start events p version place → Uses start longer p version place
lift_uses stays start p version place h = record { may_use = h.may_use; place_at = h.place_at; done = h.done; there = stays h.place_at (event.Place place h.done) h.there }

pub lift_send_of : {events longer : List Event} → ((i : ℕ) (e : Event) → At events i e → At longer i e) → (start : Option MetaState) (p : TurnPosition) (version s : ℕ) (point : Point) → IsSendOf start events p version s point → IsSendOf start longer p version s point
lift_send_of stays start p version s point h = record {
  call = h.call;
  of_act = h.of_act;
  of_point = h.of_point;
  sent = h.sent;
  place = h.place;
  uses = lift_uses stays start p (h.call).version h.place h.uses;
  version_is = h.version_is;
  shard_is = h.shard_is;
}

pub lift_asking : {events longer : List Event} → ((i : ℕ) (e : Event) → At events i e → At longer i e) → (start : Option MetaState) (p : TurnPosition) (a : Asking) → IsAskingOf start events p a → IsAskingOf start longer p a
lift_asking stays start p a h = record { of_act = h.of_act; of_call = h.of_call; uses = lift_uses stays start p (a.call).version a.place h.uses }

lift_fetch : {Mine Others : ℕ → Type 0} {events longer : List Event} {makers others : ℕ → TurnPosition} → Lifts Mine Others events longer makers others → (start : Option MetaState) (p : TurnPosition) (a : Asking) (s : ℕ) (f : Fetched)
    → IsFetchOf start Mine events makers p a s f → IsFetchOf start Others longer others p a s f
lift_fetch l start p a s f h =
    let began = event.FetchStart (a.place).version s (rules_at start p) (a.read).pick (a.read).from (a.read).to in
    let ended = event.FetchDone f.began f.nodes f.series in
    record {
      start_there = l.stays f.began began h.start_there;
      start_mine = l.below f.began h.start_mine;
      own_start = l.same f.began began h.start_there h.start_mine ∙ h.own_start;
      done_there = l.stays f.ended ended h.done_there;
      done_mine = l.below f.ended h.done_mine;
      own_done = l.same f.ended ended h.done_there h.done_mine ∙ h.own_done;
    }

pub lift_told : {Mine Others : ℕ → Type 0} {events longer : List Event} {makers others : ℕ → TurnPosition} → Lifts Mine Others events longer makers others → (start : Option MetaState) (p : TurnPosition) (found : Found)
    → IsTold start Mine events makers p found → IsTold start Others longer others p found
lift_told l start p found h = record {
  asking = h.asking;
  of_turn = lift_asking l.stays start p h.asking h.of_turn;
  fetches = h.fetches;
  each = λ s asked. lift_fetch l start p h.asking s (h.fetches s) (h.each s asked);
  enough = h.enough;
  together = h.together;
  is_short = h.is_short;
  not_short = h.not_short;
}

lift_start : {events longer : List Event} → ((i : ℕ) (e : Event) → At events i e → At longer i e) → (start : Option MetaState) (p : TurnPosition) (version s : ℕ) (rules : Rules) (chosen : Pick) (from to : ℕ)
    → IsStartOf start events p version s rules chosen from to → IsStartOf start longer p version s rules chosen from to
lift_start stays start p version s rules chosen from to h = record {
  asking = h.asking;
  of_turn = lift_asking stays start p h.asking h.of_turn;
  asked = h.asked;
  version_is = h.version_is;
  rules_are = h.rules_are;
  pick_is = h.pick_is;
  from_is = h.from_is;
  to_is = h.to_is;
}

pub lift_begun : {Mine Others : ℕ → Type 0} {events longer : List Event} {makers others : ℕ → TurnPosition} → Lifts Mine Others events longer makers others → (p : TurnPosition) (began : ℕ) → IsStartAt Mine events makers p began → IsStartAt Others longer others p began
lift_begun l p began h = record {
  version = h.version;
  s = h.s;
  rules = h.rules;
  pick = h.pick;
  from = h.from;
  to = h.to;
  there = l.stays began (event.FetchStart h.version h.s h.rules h.pick h.from h.to) h.there;
  mine = l.below began h.mine;
  own = l.same began (event.FetchStart h.version h.s h.rules h.pick h.from h.to) h.there h.mine ∙ h.own;
}

pub lift_clock : {Mine Others : ℕ → Type 0} {events longer : List Event} {makers others : ℕ → TurnPosition} → Lifts Mine Others events longer makers others → (start : Option MetaState) (p : TurnPosition) → HasClock start Mine events makers p → HasClock start Others longer others p
lift_clock l start p h = record {
  clock = h.clock;
  there = l.stays h.clock (event.Clock (rules_left start p)) h.there;
  mine = l.below h.clock h.mine;
  past_opening = h.past_opening;
  own = l.same h.clock (event.Clock (rules_left start p)) h.there h.mine ∙ h.own;
}

pub lift_ended : {Mine Others : ℕ → Type 0} {events longer : List Event} {makers others : ℕ → TurnPosition} → Lifts Mine Others events longer makers others → (p : TurnPosition) → EndsPrinted Mine events makers p → EndsPrinted Others longer others p
lift_ended l p h available boot x m =
    let e = h available boot x m in
    record {
      place_at = e.place_at;
      place = e.place;
      done = e.done;
      there = l.stays e.place_at (event.Place e.place e.done) e.there;
      mine = l.below e.place_at e.mine;
      own = l.same e.place_at (event.Place e.place e.done) e.there e.mine ∙ e.own;
      node = e.node;
      named = e.named;
      ended = e.ended;
    }

pub lift_restart : {Mine Others : ℕ → Type 0} {events longer : List Event} {makers others : ℕ → TurnPosition} → Lifts Mine Others events longer makers others → (p : TurnPosition) (i n s : ℕ) → EndsRestart Mine events makers p i n s → EndsRestart Others longer others p i n s
lift_restart l p i n s (inl done) = inl done
lift_restart l p i n s (inr h) =
    let step = event.Step n s call.Stop reply.Done in
    inr (record { stop = h.stop; later = h.later; there = l.stays h.stop step h.there; mine = l.below h.stop h.mine; own = l.same h.stop step h.there h.mine ∙ h.own })

-- what stands in the front of a list stands in the front
pub at_front : {X : Type 0} (xs ys : List X) (i : ℕ) (x : X) → At (xs ++ ys) i x → i < length xs → At xs i x
at_front [] ys i x h lt = absurd (omega arith)
at_front (y ∷ xs) ys zero x h lt = h
at_front (y ∷ xs) ys (suc i) x h lt = at_front xs ys i x h (omega arith)

by_left : {X : Type 0} (i n : ℕ) (a b : X) → i < n → cond (ltb i n) a b ≡ a
by_left i n a b lt = ap (λ t. cond t a b) (lt-ltb i n lt)

by_right : {X : Type 0} (i n : ℕ) (a b : X) → n ≤ i → cond (ltb i n) a b ≡ b
by_right i n a b le = ap (λ t. cond t a b) (le-ltb i n le)

-- a position of a run is one of the run that goes on by a line
pub position_stays : (turns : List Turn) (line : Turn) (p : TurnPosition) → IsTurnPosition turns p → IsTurnPosition (turns ++ line ∷ []) p
position_stays turns line p h = record {
  after = h.after ++ line ∷ [];
  in_run = ap (λ xs. xs ++ line ∷ []) h.in_run ∙ append_assoc p.lines (p.line ∷ h.after) (line ∷ []);
  stands = h.stands;
}

-- and so is one of that line
pub position_last : (turns : List Turn) (line : Turn) (p : TurnPosition) → IsLastTurnPosition turns line p → IsTurnPosition (turns ++ line ∷ []) p
position_last turns line p h = record { after = []; in_run = λ i. sym h.lines_are i ++ sym h.line_is i ∷ []; stands = h.stands }

pub line_below : (turns : List Turn) (p : TurnPosition) → IsTurnPosition turns p → length p.lines < length turns
line_below turns p h = omega (arith, ap length h.in_run, length-append p.lines (p.line ∷ h.after))

pub alone_stays : (turns : List Turn) (line : Turn) (p : TurnPosition) → IsAlone turns p → IsAlone (turns ++ line ∷ []) p
alone_stays turns line p h = (h.0, at_append turns (line ∷ []) (length p.lines) h.0 h.1, h.2)

-- the `init` of a list is that of a longer one, in which its line and its stretch are the same
pub lift_init : (start : Option MetaState) {turns long : List Turn} {events longer : List Event} {spans others : Spans} (p : TurnPosition) → (IsAlone turns p → IsAlone long p)
    → ((i : ℕ) (e : Event) → At events i e → At longer i e) → others.from p ≡ spans.from p → others.to p ≡ spans.to p → IsInitOf start turns events spans p → IsInitOf start long longer others p
lift_init start p alone stays from to h = record {
  found_nothing = h.found_nothing;
  alone = alone h.alone;
  sets = h.sets;
  place = h.place;
  version = h.version;
  answered = h.answered;
  placed = stays 0 (event.Place h.place []) h.placed;
  clock = stays 1 (event.Clock (start_rules None)) h.clock;
  from_is = from ∙ h.from_is;
  to_above = omega (arith, to, h.to_above);
}

module _ (start : Option MetaState) (turns : List Turn) (events : List Event) (line : Turn) (more : List Event) (told : ToldBy start turns events) (next : TellsLine start turns events line more) where
  abbrev long : List Turn
  long = turns ++ line ∷ []

  abbrev all : List Event
  all = events ++ more

  abbrev low : ℕ
  low = opening_length start

  abbrev spans : Spans
  spans = record {
    from = λ p. cond (ltb (length p.lines) (length turns)) ((told.spans).from p) ((next.spans).from p);
    to = λ p. cond (ltb (length p.lines) (length turns)) ((told.spans).to p) ((next.spans).to p);
  }

  abbrev makers : ℕ → TurnPosition
  makers i = cond (ltb i (length events)) (told.makers i) (next.makers i)

  -- a position of the old lines, or of the new one
  which : (p : TurnPosition) → IsTurnPosition long p → IsTurnPosition turns p ⊎ IsLastTurnPosition turns line p
  which p h = at_push (λ q. IsTurnPosition turns q ⊎ IsLastTurnPosition turns line q) turns line (λ q k. inl k) (λ q k. inr k) p h

  old_from : (p : TurnPosition) → IsTurnPosition turns p → spans.from p ≡ (told.spans).from p
  old_from p h = by_left (length p.lines) (length turns) ((told.spans).from p) ((next.spans).from p) (line_below turns p h)

  old_to : (p : TurnPosition) → IsTurnPosition turns p → spans.to p ≡ (told.spans).to p
  old_to p h = by_left (length p.lines) (length turns) ((told.spans).to p) ((next.spans).to p) (line_below turns p h)

  new_from : (p : TurnPosition) → IsLastTurnPosition turns line p → spans.from p ≡ (next.spans).from p
  new_from p h = by_right (length p.lines) (length turns) ((told.spans).from p) ((next.spans).from p) (omega (arith, ap length h.lines_are))

  new_to : (p : TurnPosition) → IsLastTurnPosition turns line p → spans.to p ≡ (next.spans).to p
  new_to p h = by_right (length p.lines) (length turns) ((told.spans).to p) ((next.spans).to p) (omega (arith, ap length h.lines_are))

  low_is : low ≤ length events
  low_is = by start refl
    where
      by : (o : Option MetaState) → start ≡ o → opening_length o ≤ length events
      by None e = omega arith
      by (Some state) e = omega (arith, at_within events 1 (event.Clock state.rules) (told.opened state e).clock)

  longer : length all ≡ length events + length more
  longer = length-append events more

  olds : Lifts (From low) (From low) events all told.makers makers
  olds = record {
    stays = λ i e h. at_append events more i e h;
    below = λ i le. le;
    same = λ i e h le. by_left i (length events) (told.makers i) (next.makers i) (at_within events i e h);
  }

  news : Lifts (From (length events)) (From low) all all next.makers makers
  news = record {
    stays = λ i e h. h;
    below = λ i le. omega (arith, low_is);
    same = λ i e h le. by_right i (length events) (told.makers i) (next.makers i) le;
  }

  -- the order of a turn of the old lines and one of the new line
  not_before : (p q : TurnPosition) → IsLastTurnPosition turns line p → IsTurnPosition turns q → IsEarlier p q → ⊥
  not_before p q hp hq (inl lt) = omega (arith, lt, ap length hp.lines_are, line_below turns q hq)
  not_before p q hp hq (inr same) = omega (arith, same.0, ap length hp.lines_are, line_below turns q hq)

  order_told : AreOrdered (IsTurnPosition long) low (From low) all spans makers
  order_told = record {
    not_below = λ p h. elim (which p h) as (λ _. low ≤ spans.from p) [
      | inl k ↦ omega (arith, old_from p k, (told.tells).order.not_below p k)
      | inr k ↦ omega (arith, new_from p k, (next.tells).order.not_below p k, low_is)
    ];
    not_above = λ p h. elim (which p h) as (λ _. spans.to p ≤ length all) [
      | inl k ↦ omega (arith, old_to p k, (told.tells).order.not_above p k, longer)
      | inr k ↦ omega (arith, new_to p k, (next.tells).order.not_above p k)
    ];
    not_back = λ p h. elim (which p h) as (λ _. spans.from p ≤ spans.to p) [
      | inl k ↦ omega (arith, old_from p k, old_to p k, (told.tells).order.not_back p k)
      | inr k ↦ omega (arith, new_from p k, new_to p k, (next.tells).order.not_back p k)
    ];
    order = λ p q hp hq earlier. elim (which p hp) as (λ _. spans.to p ≤ spans.from q) [
      | inl op ↦ elim (which q hq) as (λ _. spans.to p ≤ spans.from q) [
        | inl oq ↦ omega (arith, old_to p op, old_from q oq, (told.tells).order.order p q op oq earlier)
        | inr nq ↦ omega (arith, old_to p op, new_from q nq, (told.tells).order.not_above p op, (next.tells).order.not_below q nq)
      ]
      | inr np ↦ elim (which q hq) as (λ _. spans.to p ≤ spans.from q) [
        | inl oq ↦ absurd (not_before p q np oq earlier)
        | inr nq ↦ omega (arith, new_to p np, new_from q nq, (next.tells).order.order p q np nq earlier)
      ]
    ];
    made = λ i e above past there kind. elim (cases_lt i (length events)) as (λ _. IsTurnPosition long (makers i) × IsWithin spans (makers i) i) [
      | inl lt ↦
          let m = (told.tells).order.made i e above past (at_front events more i e there lt) kind in
          subst (λ x. IsTurnPosition long x × IsWithin spans x i) (sym (by_left i (length events) (told.makers i) (next.makers i) lt))
          (position_stays turns line (told.makers i) m.0, (omega (arith, (m.1).0, old_from (told.makers i) m.0), omega (arith, (m.1).1, old_to (told.makers i) m.0)))
      | inr ge ↦
          let m = (next.tells).order.made i e ge past there kind in
          subst (λ x. IsTurnPosition long x × IsWithin spans x i) (sym (by_right i (length events) (told.makers i) (next.makers i) ge))
          (position_last turns line (next.makers i) m.0, (omega (arith, (m.1).0, new_from (next.makers i) m.0), omega (arith, (m.1).1, new_to (next.makers i) m.0)))
    ];
  }

  init_stays : (p : TurnPosition) → IsTurnPosition turns p → IsInitOf start turns events told.spans p → IsInitOf start long all spans p
  init_stays p k h = lift_init start p (alone_stays turns line p) (λ i e there. at_append events more i e there) (old_from p k) (old_to p k) h

  init_new : (p : TurnPosition) → IsLastTurnPosition turns line p → IsInitOf start long all next.spans p → IsInitOf start long all spans p
  init_new p k h = lift_init start p (λ alone. alone) (λ i e there. there) (new_from p k) (new_to p k) h

  init_told : TellsInit start long (IsTurnPosition long) (From low) all spans
  init_told = record {
    begun = λ none e there. elim (cases_lt 0 (length events)) as (λ _. (p : TurnPosition) × IsTurnPosition long p × IsInitOf start long all spans p) [
      | inl some ↦ let b = (told.tells).init.begun none e (at_front events more 0 e there some) in (b.0, position_stays turns line b.0 b.1, init_stays b.0 b.1 b.2)
      | inr empty ↦ let b = (next.tells).init.begun (omega arith) e there in (b.0, position_last turns line b.0 b.1, init_new b.0 b.1 b.2)
    ];
    inits = λ p h sets. elim (which p h) as (λ _. IsInitOf start long all spans p) [
      | inl k ↦ init_stays p k ((told.tells).init.inits p k sets)
      | inr k ↦ init_new p k ((next.tells).init.inits p k sets)
    ];
  }

  writes_told : TellsWrites start (IsTurnPosition long) (From low) all makers
  writes_told = record {
    acked = λ p h nodes is. elim (which p h) as (λ _. HasAck (From low) all makers p nodes) [
      | inl k ↦ lift_ack olds p nodes ((told.tells).writes.acked p k nodes is)
      | inr k ↦ lift_ack news p nodes ((next.tells).writes.acked p k nodes is)
    ];
    sent = λ p h unmet. elim (which p h) as (λ _. HasSend (From low) all makers p) [
      | inl k ↦ lift_send olds p ((told.tells).writes.sent p k unmet)
      | inr k ↦ lift_send news p ((next.tells).writes.sent p k unmet)
    ];
    each_send = λ i version s point above there. elim (cases_lt i (length events)) as (λ _. IsSendOf start all (makers i) version s point) [
      | inl lt ↦
          subst (λ x. IsSendOf start all x version s point) (sym (by_left i (length events) (told.makers i) (next.makers i) lt))
          (lift_send_of olds.stays start (told.makers i) version s point ((told.tells).writes.each_send i version s point above (at_front events more i (event.Send version s point) there lt)))
      | inr ge ↦ subst (λ x. IsSendOf start all x version s point) (sym (by_right i (length events) (told.makers i) (next.makers i) ge)) ((next.tells).writes.each_send i version s point ge there)
    ];
    each_ack = λ i send nodes above there. elim (cases_lt i (length events)) as (λ _. IsSendAt (From low) all makers (makers i) send) [
      | inl lt ↦
          subst (λ x. IsSendAt (From low) all makers x send) (sym (by_left i (length events) (told.makers i) (next.makers i) lt))
          (lift_sent olds (told.makers i) send ((told.tells).writes.each_ack i send nodes above (at_front events more i (event.Ack send nodes) there lt)))
      | inr ge ↦
          subst (λ x. IsSendAt (From low) all makers x send) (sym (by_right i (length events) (told.makers i) (next.makers i) ge))
          (lift_sent news (next.makers i) send ((next.tells).writes.each_ack i send nodes ge there))
    ];
  }

  reads_told : TellsReads start (IsTurnPosition long) (From low) all makers
  reads_told = record {
    found = λ p h found is. elim (which p h) as (λ _. IsTold start (From low) all makers p found) [
      | inl k ↦ lift_told olds start p found ((told.tells).reads.found p k found is)
      | inr k ↦ lift_told news start p found ((next.tells).reads.found p k found is)
    ];
    each_start = λ i version s rules chosen from to above there. elim (cases_lt i (length events)) as (λ _. IsStartOf start all (makers i) version s rules chosen from to) [
      | inl lt ↦
          subst (λ x. IsStartOf start all x version s rules chosen from to) (sym (by_left i (length events) (told.makers i) (next.makers i) lt))
          (lift_start olds.stays start (told.makers i) version s rules chosen from to ((told.tells).reads.each_start i version s rules chosen from to above (at_front events more i (event.FetchStart version s rules chosen from to) there lt)))
      | inr ge ↦
          subst (λ x. IsStartOf start all x version s rules chosen from to) (sym (by_right i (length events) (told.makers i) (next.makers i) ge))
          ((next.tells).reads.each_start i version s rules chosen from to ge there)
    ];
    each_done = λ i began nodes series above there. elim (cases_lt i (length events)) as (λ _. IsStartAt (From low) all makers (makers i) began) [
      | inl lt ↦
          subst (λ x. IsStartAt (From low) all makers x began) (sym (by_left i (length events) (told.makers i) (next.makers i) lt))
          (lift_begun olds (told.makers i) began ((told.tells).reads.each_done i began nodes series above (at_front events more i (event.FetchDone began nodes series) there lt)))
      | inr ge ↦
          subst (λ x. IsStartAt (From low) all makers x began) (sym (by_right i (length events) (told.makers i) (next.makers i) ge))
          (lift_begun news (next.makers i) began ((next.tells).reads.each_done i began nodes series ge there))
    ];
  }

  placements_told : TellsPlacements (IsTurnPosition long) (From low) all spans makers
  placements_told = record {
    is_place = λ p h place is. elim (which p h) as (λ _. HasPlace all (spans.to p) place) [
      | inl k ↦
          let q = (told.tells).placements.is_place p k place is in
          record { place_at = q.place_at; done = q.done; there = at_append events more q.place_at (event.Place place q.done) q.there; in_time = omega (arith, old_to p k, q.in_time) }
      | inr k ↦
          let q = (next.tells).placements.is_place p k place is in
          record { place_at = q.place_at; done = q.done; there = q.there; in_time = omega (arith, new_to p k, q.in_time) }
    ];
    not_earlier = λ p q hp hq earlier was is of_was of_is. elim (which p hp) as (λ _. was.version ≤ is.version) [
      | inl op ↦ elim (which q hq) as (λ _. was.version ≤ is.version) [
        | inl oq ↦ (told.tells).placements.not_earlier p q op oq earlier was is of_was of_is
        | inr nq ↦ next.not_earlier p q op nq was is of_was of_is
      ]
      | inr np ↦ elim (which q hq) as (λ _. was.version ≤ is.version) [
        | inl oq ↦ absurd (not_before p q np oq earlier)
        | inr nq ↦ (next.tells).placements.not_earlier p q np nq earlier was is of_was of_is
      ]
    ];
    each_end = λ i place done above past there d m. elim (cases_lt i (length events)) as (λ _. PrintsPeers place (take i all) (makers i) d.0 d.1) [
      | inl lt ↦
          subst (λ x. PrintsPeers place (take i all) x d.0 d.1) (sym (by_left i (length events) (told.makers i) (next.makers i) lt))
          (subst (λ es. PrintsPeers place es (told.makers i) d.0 d.1) (sym (take-append-le i events more (omega arith)))
          ((told.tells).placements.each_end i place done above past (at_front events more i (event.Place place done) there lt) d m))
      | inr ge ↦ subst (λ x. PrintsPeers place (take i all) x d.0 d.1) (sym (by_right i (length events) (told.makers i) (next.makers i) ge)) ((next.tells).placements.each_end i place done ge past there d m)
    ];
    ends_printed = λ p h. elim (which p h) as (λ _. EndsPrinted (From low) all makers p) [
      | inl k ↦ lift_ended olds p ((told.tells).placements.ends_printed p k)
      | inr k ↦ lift_ended news p ((next.tells).placements.ends_printed p k)
    ];
  }

  clock_stays : (p : TurnPosition) (rules : Rules) → IsClockOf start turns p rules → IsClockOf start long p rules
  clock_stays p rules h = record { alone = alone_stays turns line p h.alone; sets = h.sets; rules_are = h.rules_are }

  clocks_told : TellsClocks start long (IsTurnPosition long) (From low) all makers
  clocks_told = record {
    set = λ p h sets. elim (which p h) as (λ _. HasClock start (From low) all makers p) [
      | inl k ↦ lift_clock olds start p ((told.tells).clocks.set p k sets)
      | inr k ↦ lift_clock news start p ((next.tells).clocks.set p k sets)
    ];
    each_clock = λ i rules above past there. elim (cases_lt i (length events)) as (λ _. IsClockOf start long (makers i) rules) [
      | inl lt ↦
          subst (λ x. IsClockOf start long x rules) (sym (by_left i (length events) (told.makers i) (next.makers i) lt))
          (clock_stays (told.makers i) rules ((told.tells).clocks.each_clock i rules above past (at_front events more i (event.Clock rules) there lt)))
      | inr ge ↦ subst (λ x. IsClockOf start long x rules) (sym (by_right i (length events) (told.makers i) (next.makers i) ge)) ((next.tells).clocks.each_clock i rules ge past there)
    ];
  }

  restarts_told : TellsRestarts (From low) all makers
  restarts_told i n s r above past there = elim (cases_lt i (length events)) as (λ _. EndsRestart (From low) all makers (makers i) i n s) [
    | inl lt ↦
        subst (λ x. EndsRestart (From low) all makers x i n s) (sym (by_left i (length events) (told.makers i) (next.makers i) lt))
        (lift_restart olds (told.makers i) i n s ((told.tells).restarts i n s r above past (at_front events more i (event.Step n s call.Restart r) there lt)))
    | inr ge ↦ subst (λ x. EndsRestart (From low) all makers x i n s) (sym (by_right i (length events) (told.makers i) (next.makers i) ge)) (lift_restart news (next.makers i) i n s ((next.tells).restarts i n s r ge past there))
  ]

  makes_told : TellsMakes start (From low) all makers
  makes_told i e above past there = elim (cases_lt i (length events)) as (λ _. MayMake start (take i all) (makers i) e) [
    | inl lt ↦
        subst (λ x. MayMake start (take i all) x e) (sym (by_left i (length events) (told.makers i) (next.makers i) lt))
        (subst (λ es. MayMake start es (told.makers i) e) (sym (take-append-le i events more (omega arith))) ((told.tells).makes i e above past (at_front events more i e there lt)))
    | inr ge ↦ subst (λ x. MayMake start (take i all) x e) (sym (by_right i (length events) (told.makers i) (next.makers i) ge)) ((next.tells).makes i e ge past there)
  ]

  hears_told : TellsHears start (IsTurnPosition long) all spans
  hears_told p h = elim (which p h) as (λ _. HearsAt p (spans.from p) (spans.to p)) [
    | inl k ↦
        let below : (told.spans).from p ≤ length events = omega (arith, (told.tells).order.not_back p k, (told.tells).order.not_above p k) in
        let old : HearsBy start (take ((told.spans).from p) all) (InStretch events ((told.spans).from p) ((told.spans).to p)) p p.turn.act p.turn.answer =
        subst (λ es. HearsBy start es (InStretch events ((told.spans).from p) ((told.spans).to p)) p p.turn.act p.turn.answer) (sym (take-append-le ((told.spans).from p) events more below)) ((told.tells).hears p k) in
        moved p (sym (old_from p k)) (sym (old_to p k))
        (hears_on start (take ((told.spans).from p) all) (InStretch events ((told.spans).from p) ((told.spans).to p)) (InStretch all ((told.spans).from p) ((told.spans).to p)) (λ i e s. (s.0, s.1, at_append events more i e s.2)) p p.turn.act p.turn.answer old)
    | inr k ↦ moved p (sym (new_from p k)) (sym (new_to p k)) ((next.tells).hears p k)
  ]
    where
      HearsAt : TurnPosition → ℕ → ℕ → Type 0
      HearsAt p from to = HearsBy start (take from all) (InStretch all from to) p p.turn.act p.turn.answer

      moved : (p : TurnPosition) {from to from_now to_now : ℕ} → from ≡ from_now → to ≡ to_now → HearsAt p from to → HearsAt p from_now to_now
      moved p {from} {to} {from_now} {to_now} e f h = subst (λ n. HearsAt p from_now n) f (subst (λ n. HearsAt p n to) e h)

  -- how many events stand before each line
  abbrev ends : ℕ → ℕ
  ends k = cond (ltb (length turns) k) (length all) (told.ends k)

  old_ends : (k : ℕ) → k ≤ length turns → ends k ≡ told.ends k
  old_ends k le = by_right (length turns) k (length all) (told.ends k) le

  new_ends : (k : ℕ) → length turns < k → ends k ≡ length all
  new_ends k lt = by_left (length turns) k (length all) (told.ends k) lt

  lines_told : AreLines start long all spans ends
  lines_told = record {
    first = old_ends 0 (omega arith) ∙ (told.lines).first;
    last = new_ends (length long) (omega (arith, length-append turns (line ∷ [])));
    ascends = λ k lt. elim (cases_lt k (length turns)) as (λ _. ends k ≤ ends (suc k)) [
      | inl less ↦ omega (arith, old_ends k (omega arith), old_ends (suc k) (omega arith), (told.lines).ascends k less)
      | inr ge ↦
          let now : length turns ≡ k = omega (arith, lt, length-append turns (line ∷ [])) in
          omega (arith, old_ends k (omega arith), new_ends (suc k) (omega arith), ap told.ends now, (told.lines).last, longer)
    ];
    low = λ p h. elim (which p h) as (λ _. ends (length p.lines) ≤ spans.from p) [
      | inl k ↦ omega (arith, old_ends (length p.lines) (omega (arith, line_below turns p k)), old_from p k, (told.lines).low p k)
      | inr k ↦ omega (arith, old_ends (length p.lines) (omega (arith, ap length k.lines_are)), ap (λ ls. told.ends (length ls)) k.lines_are, (told.lines).last, new_from p k, (next.tells).order.not_below p k)
    ];
    high = λ p h. elim (which p h) as (λ _. spans.to p ≤ ends (suc (length p.lines))) [
      | inl k ↦ omega (arith, old_ends (suc (length p.lines)) (omega (arith, line_below turns p k)), old_to p k, (told.lines).high p k)
      | inr k ↦ omega (arith, new_ends (suc (length p.lines)) (omega (arith, ap length k.lines_are)), new_to p k, (next.tells).order.not_above p k)
    ];
  }

  pub line_told : ToldBy start long all
  line_told = record {
    spans = spans;
    makers = makers;
    ends = ends;
    lines = lines_told;
    opened = λ state is. let o = told.opened state is in record { placed = at_append events more 0 (event.Place state.place []) o.placed; clock = at_append events more 1 (event.Clock state.rules) o.clock };
    tells = record { order = order_told; init = init_told; writes = writes_told; reads = reads_told; placements = placements_told; clocks = clocks_told; makes = makes_told; restarts = restarts_told; hears = hears_told };
  }

  pub line_told_from : (p : TurnPosition) → IsLastTurnPosition turns line p → (line_told.spans).from p ≡ (next.spans).from p
  unfolding line_told
  line_told_from p h = new_from p h

  pub line_told_to : (p : TurnPosition) → IsLastTurnPosition turns line p → (line_told.spans).to p ≡ (next.spans).to p
  unfolding line_told
  line_told_to p h = new_to p h

  pub line_told_was_from : (p : TurnPosition) → IsTurnPosition turns p → (line_told.spans).from p ≡ (told.spans).from p
  unfolding line_told
  line_told_was_from p h = old_from p h

  pub line_told_was_to : (p : TurnPosition) → IsTurnPosition turns p → (line_told.spans).to p ≡ (told.spans).to p
  unfolding line_told
  line_told_was_to p h = old_to p h

  pub line_told_ends : (k : ℕ) → k ≤ length turns → line_told.ends k ≡ told.ends k
  unfolding line_told
  line_told_ends k le = old_ends k le

  pub line_told_last : line_told.ends (suc (length turns)) ≡ length (events ++ more)
  unfolding line_told
  line_told_last = new_ends (suc (length turns)) (omega arith)

-- ---- before the first line

pub no_place : (p : TurnPosition) → IsTurnPosition [] p → ⊥
no_place p h = not_empty p.lines p.line h.after h.in_run

pub nothing_at : {X : Type 0} (i : ℕ) (x : X) → At [] i x → ⊥
nothing_at i x h = cc

nobody : TurnPosition
nobody = record { lines = []; line = line_of act.Deliver answer.Memory; client = 0; earlier = []; beside = []; turn = record { act = act.Deliver; answer = answer.Memory } }

-- nothing is told by no event
pub told_at_first : ToldBy None [] []
told_at_first = record {
  spans = record { from = λ p. 0; to = λ p. 0 };
  makers = λ i. nobody;
  ends = λ k. 0;
  lines = record { first = refl; last = refl; ascends = λ k lt. omega arith; low = λ p h. omega arith; high = λ p h. absurd (no_place p h) };
  opened = λ state is. let bad : None ≡ Some state = is in cc;
  tells = record {
    order = record { not_below = λ p h. omega arith; not_above = λ p h. omega arith; not_back = λ p h. omega arith; order = λ p q h k e. omega arith; made = λ i e low past there kind. absurd (nothing_at i e there) };
    init = record { begun = λ low e there. absurd (nothing_at 0 e there); inits = λ p h sets. absurd (no_place p h) };
    writes = record {
      acked = λ p h nodes is. absurd (no_place p h);
      sent = λ p h unmet. absurd (no_place p h);
      each_send = λ i version s point low there. absurd (nothing_at i (event.Send version s point) there);
      each_ack = λ i send nodes low there. absurd (nothing_at i (event.Ack send nodes) there);
    };
    reads = record {
      found = λ p h found is. absurd (no_place p h);
      each_start = λ i version s rules chosen from to low there. absurd (nothing_at i (event.FetchStart version s rules chosen from to) there);
      each_done = λ i began nodes series low there. absurd (nothing_at i (event.FetchDone began nodes series) there);
    };
    placements = record { is_place = λ p h place is. absurd (no_place p h); not_earlier = λ p q h k e was is of_was of_is. absurd (no_place p h); each_end = λ i place done low past there d m. absurd (nothing_at i (event.Place place done) there); ends_printed = λ p h. absurd (no_place p h) };
    clocks = record { set = λ p h sets. absurd (no_place p h); each_clock = λ i rules low past there. absurd (nothing_at i (event.Clock rules) there) };
    makes = λ i e low past there. absurd (nothing_at i e there);
    restarts = λ i n s r low past there. absurd (nothing_at i (event.Step n s call.Restart r) there);
    hears = λ p h. absurd (no_place p h);
  };
}

module _ (state : MetaState) where
  abbrev opening : List Event
  opening = event.Place state.place [] ∷ event.Clock state.rules ∷ []

  -- nothing stands past the opening
  nothing_past : (i : ℕ) (e : Event) → 2 ≤ i → At opening i e → ⊥
  nothing_past i e low there = omega (arith, low, at_within opening i e there)

  opened_by : (other : MetaState) → Some state ≡ Some other → IsOpenedBy other opening
  opened_by other is = let same : state ≡ other = cc in subst (λ s. IsOpenedBy s opening) same (record { placed = refl; clock = refl })

  -- a run that found a state is told by the two events that open it
  pub told_found : ToldBy (Some state) [] opening
  told_found = record {
    spans = record { from = λ p. 2; to = λ p. 2 };
    makers = λ i. nobody;
    ends = λ k. 2;
    lines = record { first = refl; last = refl; ascends = λ k lt. omega arith; low = λ p h. omega arith; high = λ p h. absurd (no_place p h) };
    opened = opened_by;
    tells = record {
      order = record { not_below = λ p h. absurd (no_place p h); not_above = λ p h. absurd (no_place p h); not_back = λ p h. omega arith; order = λ p q h k e. absurd (no_place p h); made = λ i e low past there kind. absurd (nothing_past i e low there) };
      init = record { begun = λ low e there. absurd (omega (arith, low)); inits = λ p h sets. absurd (no_place p h) };
      writes = record {
        acked = λ p h nodes is. absurd (no_place p h);
        sent = λ p h unmet. absurd (no_place p h);
        each_send = λ i version s point low there. absurd (nothing_past i (event.Send version s point) low there);
        each_ack = λ i send nodes low there. absurd (nothing_past i (event.Ack send nodes) low there);
      };
      reads = record {
        found = λ p h found is. absurd (no_place p h);
        each_start = λ i version s rules chosen from to low there. absurd (nothing_past i (event.FetchStart version s rules chosen from to) low there);
        each_done = λ i began nodes series low there. absurd (nothing_past i (event.FetchDone began nodes series) low there);
      };
      placements = record { is_place = λ p h place is. absurd (no_place p h); not_earlier = λ p q h k e was is of_was of_is. absurd (no_place p h); each_end = λ i place done low past there d m. absurd (nothing_past i (event.Place place done) low there); ends_printed = λ p h. absurd (no_place p h) };
      clocks = record { set = λ p h sets. absurd (no_place p h); each_clock = λ i rules low past there. absurd (nothing_past i (event.Clock rules) low there) };
      makes = λ i e low past there. absurd (nothing_past i e low there);
      restarts = λ i n s r low past there. absurd (nothing_past i (event.Step n s call.Restart r) low there);
      hears = λ p h. absurd (no_place p h);
    };
  }
