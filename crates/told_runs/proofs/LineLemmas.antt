-- What is known of a run that is told goes on by one line.
use Rattle.std.proofs.Common.{◌≡◌, ◌≤◌, ◌<◌, ◌+◌, ◌*◌, ℕ, suc, List, [], ◌∷◌, ◌++◌, take, length, refl, sym, ap, ◌∙◌, subst, inl, inr, arith, Bool, true, false, append_assoc, length-append}
use Rattle.std.specs.Prelude.{◌≢◌, ◌⊎◌, Option, Some, None, if◌then◌else◌}
use Rattle.std.proofs.lemmas.Bool.{cases_lt, le-ltb, lt-ltb}
use Rattle.std.proofs.lemmas.List.{take-append-le}
use Rattle.m3_model.proofs.MemberLemmas.{IsIn-append_cases, IsIn-append_left, IsIn-append_right}
use Rattle.m3_model.proofs.SplitLemmas.{not_empty, split_push}
use Rattle.m3_model.proofs.Lists.{take_whole}
use Rattle.m3_model.specs.Members.{IsIn}
use Rattle.m3_model.specs.declared.act.Act.{Act}
use Rattle.m3_model.specs.declared.act.Act.TheVariants as act
use Rattle.m3_model.specs.declared.answer.Answer.{Answer}
use Rattle.m3_model.specs.declared.answer.Answer.TheVariants as answer
use Rattle.m3_model.specs.declared.limits.TheConstants.{MOST_REQUEST_EVENTS}
use Rattle.m3_model.specs.declared.placement.Placement.{Placement}
use Rattle.m3_model.specs.declared.reason.Reason.TheVariants as reason
use Rattle.m3_model.specs.declared.rules.MetaState.{MetaState}
use Rattle.m3_model.specs.declared.turn.Request.{Request}
use Rattle.m3_model.specs.declared.turn.Turn.{Turn}
use Rattle.placement_core.specs.Lawful.{IsLawful}
use Rattle.cluster_core.specs.Earlier.{last_place}
use Rattle.cluster_core.specs.Lists.{At}
use Rattle.cluster_core.specs.Replicas.{replica}
use Rattle.cluster_core.specs.declared.event.Event.{Event}
use Rattle.cluster_core.specs.declared.event.Event.TheVariants as event
use Rattle.cluster_core.specs.declared.event.StepCall.{StepCall}
use Rattle.cluster_core.specs.declared.event.StepCall.TheVariants as call
use Rattle.cluster_core.specs.declared.event.StepReply.{StepReply}
use Rattle.cluster_core.specs.declared.event.StepReply.TheVariants as reply
use Rattle.cluster_core.proofs.ListLemmas.{at_append, at_same, at_within}
use Rattle.transcripts.specs.Caused.{IsRefusedWhole, acts_in}
use Rattle.transcripts.specs.Deliveries.{IsSameMessage, IsSamePosition, LateMessage}
use Rattle.transcripts.specs.Faults.{Fault, Taking}
use Rattle.transcripts.specs.Moves.{IsLeftFence}
use Rattle.transcripts.specs.Placements.{has_replica}
use Rattle.transcripts.specs.Record.{Record, TurnPosition, IsLastTurnPosition, IsTurnPosition, line_of, lists_of}
use Rattle.transcripts.proofs.MoreFaults.{AreAmong, different_both, step_more, unmade_more}
use Rattle.transcripts.proofs.PositionLemmas.{at_push}
use Rattle.told_by.specs.Hears.{InStretch}
use Rattle.told_by.specs.Lines.{ClockLine, InitLine, PlainLine, ReadLine, WriteLine, position_after}
use Rattle.told_by.specs.Spans.{IsAlone}
use Rattle.told_by.specs.Told.{TellsLine, ToldBy}
use Rattle.told_by.proofs.HearLemmas.{outcomes_on}
use Rattle.told_by.proofs.KindLemmas.{clock_told, clock_told_from, clock_told_to, init_told, init_told_from, init_told_to, plain_told, plain_told_from, plain_told_to, read_told, read_told_from, read_told_to, write_told, write_told_from, write_told_to}
use Rattle.told_by.proofs.LineLemmas.{alone_stays, at_front, line_below, line_told, line_told_ends, line_told_from, line_told_last, line_told_to, line_told_was_from, line_told_was_to, no_place, nothing_at, told_at_first, told_found}
use Rattle.told_by.proofs.OneLemmas.{each}
use Rattle.told_by.proofs.PrintedLemmas.{ends_within}
use Rattle.told_by.proofs.SampleLemmas.{each_at}
use Rattle.told_by.proofs.TurnLemmas.{at_cut}
use Rattle.told_causes.specs.Boot.{HasOneTurn, IsPrintedIn}
use Rattle.told_causes.specs.Standing.{HaltsAlone, IsHaltAct}
use Rattle.told_moves.specs.Order.{OpensWithin}
use Rattle.told_runs.specs.Answers.{AreAnswered, Delivers, HearsOf, IsAnswered, IsDecidedBy, IsOfKind}
use Rattle.told_runs.specs.Bounds.{IsBounded, writes_taken}
use Rattle.told_runs.specs.Laws.{IsMadeInOrder, IsServedRun, OwnsFiles}
use Rattle.told_runs.specs.Lines.{Adds, IsServedAfresh, IsServedAtFirst, IsOneTurn, IsServedLineByLine, IsToldAndServed, KindServes, ServesLine, ServesOne, delivered_on, life_of}

-- ---- answers

-- an answer is decided so also where more disks couldn't be taken
kind_more : (taking more : List Fault) → AreAmong taking more → (start : Option MetaState) (p : TurnPosition) (a : Act) (b : Answer) → IsOfKind taking start p a b → IsOfKind more start p a b
kind_more taking more among start p (act.Init rf shards seed nodes) (answer.Disk name shard) h = (h.0, h.1, unmade_more taking more among start p h.0 name shard h.2)
kind_more taking more among start p (act.Add node group) b h = step_more taking more among start p (act.Add node group) b h
kind_more taking more among start p (act.Drain node) b h = step_more taking more among start p (act.Drain node) b h
kind_more taking more among start p (act.Cancel node) b h = step_more taking more among start p (act.Cancel node) b h
kind_more taking more among start p (act.Remove node) b h = step_more taking more among start p (act.Remove node) b h
kind_more taking more among start p (act.Replace node by group) b h = step_more taking more among start p (act.Replace node by group) b h
kind_more taking more among start p _ _ h = h

decided_more : (taking more : List Fault) → AreAmong taking more → (start : Option MetaState) (p : TurnPosition) (o : Option Answer) → IsDecidedBy taking start p o → IsDecidedBy more start p o
decided_more taking more among start p (Some refusal) h = h
decided_more taking more among start p None h = kind_more taking more among start p p.turn.act p.turn.answer h

answered_more : (taking more : List Fault) → AreAmong taking more → (start : Option MetaState) (end : ℕ) (p : TurnPosition) → IsAnswered taking start end p → IsAnswered more start end p
answered_more taking more among start end p (inl memory) = inl memory
answered_more taking more among start end p (inr (inl full)) = inr (inl full)
answered_more taking more among start end p (inr (inr decided)) = inr (inr (decided.0, decided.1, decided_more taking more among start p _ decided.2))

-- what is heard of late messages is heard where more happens
heard_on : (start : Option MetaState) (Old New : ℕ → Event → Type 0) → ((i : ℕ) (e : Event) → Old i e → New i e) → (p : TurnPosition) (messages : List LateMessage) (b : Answer) → HearsOf start Old p messages b → HearsOf start New p messages b
heard_on start Old New on p messages (answer.Outcomes outcomes) h = (h.0, outcomes_on start [] Old New on p messages outcomes h.1)
heard_on start Old New on p messages (answer.Peers got needed reasons shard) h = λ place stands node among unnamed. let fenced = h place stands node among unnamed in (fenced.0, ((fenced.1).0, on (fenced.1).0 _ (fenced.1).1))
heard_on start Old New on p messages _ h = h

same_back : (a b : LateMessage) → IsSameMessage a b → IsSameMessage b a
same_back a b same = let position = same.0 in ((sym position.0, sym position.1, sym position.2), sym same.1)

-- ---- the line

module _ {tells : Bool} (past : List Record) (start : Option MetaState) (turns : List Turn) (unanswered next : Option Request) (events : List Event) (line : Turn) (more : List Event) (untaken taking : List Fault) (now was : TurnPosition → List LateMessage)
    (told : ToldBy start turns events) (served : IsServedRun tells taking was (life_of past start turns unanswered) events told) (adds : TellsLine start turns events line more) (serves : ServesLine tells untaken now was past start turns events line more adds) where
  abbrev long : List Turn
  long = turns ++ line ∷ []

  abbrev all : List Event
  all = events ++ more

  abbrev after : ToldBy start long all
  after = line_told start turns events line more told adds

  -- a position of the old lines, or of the new one
  which : (p : TurnPosition) → IsTurnPosition long p → IsTurnPosition turns p ⊎ IsLastTurnPosition turns line p
  which p h = at_push (λ q. IsTurnPosition turns q ⊎ IsLastTurnPosition turns line q) turns line (λ q k. inl k) (λ q k. inr k) p h

  -- an event of the old list, or one that the line adds
  event_cases : (i : ℕ) (e : Event) → At all i e → ((i < length events) × At events i e) ⊎ Adds events more i e
  event_cases i e there = elim (cases_lt i (length events)) as (λ _. ((i < length events) × At events i e) ⊎ Adds events more i e) [ inl lt ↦ inl (lt, at_front events more i e there lt) | inr ge ↦ inr (ge, there) ]

  front : (i : ℕ) → i ≤ length events → take i all ≡ take i events
  front i le = take-append-le i events more le

  here_alone : (q : TurnPosition) → IsLastTurnPosition turns line q → lists_of line ≡ (q.turn ∷ []) ∷ [] → IsAlone long q
  here_alone q k only = (line, subst (λ ls. At long (length ls) line) (sym k.lines_are) (at_cut turns line []), only)

  ends_were : (k : ℕ) → k ≤ length turns → after.ends k ≡ told.ends k
  ends_were k le = line_told_ends start turns events line more told adds k le

  ends_now : (k : ℕ) → k ≡ length turns → after.ends (suc k) ≡ length all
  ends_now k is = ap (λ m. after.ends (suc m)) is ∙ line_told_last start turns events line more told adds

  -- a Place of an old line, or of the new one
  each_place : (P : ℕ → ℕ → Placement → Type 0) → ((k i : ℕ) (place : Placement) (done : List (ℕ × ℕ)) → k < length turns → told.ends k ≤ i → i < told.ends (suc k) → At events i (event.Place place done) → P k i place)
      → ((i : ℕ) (place : Placement) (done : List (ℕ × ℕ)) → Adds events more i (event.Place place done) → P (length turns) i place)
      → (k i : ℕ) (place : Placement) (done : List (ℕ × ℕ)) → k < length long → after.ends k ≤ i → i < after.ends (suc k) → At all i (event.Place place done) → P k i place
  each_place P old new k i place done less low high there =
      elim (cases_lt k (length turns)) as (λ _. P k i place) [
        | inl lt ↦
            let ends_so = ends_were (suc k) lt in
            let bound = ends_within start turns events told (suc k) lt in
            old k i place done lt (omega (arith, low, ends_were k (omega (arith, lt)))) (omega (arith, high, ends_so)) (at_front events more i (event.Place place done) there (omega (arith, high, ends_so, bound)))
        | inr ge ↦
            let is : k ≡ length turns = omega (arith, ge, less, length-append turns (line ∷ [])) in
            let begins : length events ≤ i = omega (arith, low, ap after.ends is, ends_were (length turns) (omega arith), (told.lines).last) in
            subst (λ m. P m i place) (sym is) (new i place done (begins, there))
      ]

  push_old : (p : TurnPosition) → IsTurnPosition turns p → IsTurnPosition long p
  push_old p at = record { after = at.after ++ line ∷ []; in_run = ap (λ ls. ls ++ line ∷ []) at.in_run ∙ append_assoc p.lines (p.line ∷ at.after) (line ∷ []); stands = at.stands }

  push_new : (p : TurnPosition) → IsLastTurnPosition turns line p → IsTurnPosition long p
  push_new p at = record { after = []; in_run = ap (λ ls. ls ++ line ∷ []) (sym at.lines_are) ∙ ap (λ l. p.lines ++ l ∷ []) (sym at.line_is); stands = at.stands }

  old_one : (k : ℕ) → k < length turns → HasOneTurn long k → HasOneTurn turns k
  old_one k old one = (one.0, one.1, at_front turns (line ∷ []) k one.0 one.2 old, one.3)

  long_one : (k : ℕ) → HasOneTurn turns k → HasOneTurn long k
  long_one k one = (one.0, one.1, at_append turns (line ∷ []) k one.0 one.2, one.3)

  new_one : HasOneTurn long (length turns) → IsOneTurn line
  new_one one = (one.1, ap lists_of (at_same long (length turns) line one.0 (at_cut turns line []) one.2) ∙ one.3)

  order_on : IsMadeInOrder start long all after
  order_on = record {
    alone = λ k i place done less one low high there. each_place (λ k i place. HasOneTurn long k → last_place (take (after.ends (suc k)) all) ≡ Some place)
        (λ k i place done old low high there one.
        ap (λ n. last_place (take n all)) (ends_were (suc k) old) ∙ ap last_place (front (told.ends (suc k)) (ends_within start turns events told (suc k) old)) ∙ (served.order).alone k i place done old (old_one k old one) low high there)
        (λ i place done new one. ap (λ n. last_place (take n all)) (ends_now (length turns) refl) ∙ ap last_place (take_whole all) ∙ (serves.order).alone (new_one one) i place done new)
        k i place done less low high there one;
    beside = λ k i place done less many low high there. each_place (λ k i place. ¬ HasOneTurn long k → IsPrintedIn long after.spans k i place)
        (λ k i place done old low high there many.
        let e = (served.order).beside k i place done old (λ one. many (long_one k one)) low high there in
        record {
          printer = e.printer;
          in_run = push_old e.printer e.in_run;
          of_line = e.of_line;
          within = within_on (line_told_was_from start turns events line more told adds e.printer e.in_run) (line_told_was_to start turns events line more told adds e.printer e.in_run) e.within;
          prints = e.prints;
        })
        (λ i place done new many.
        let e = (serves.order).beside (λ one. many (line, one.0, at_cut turns line [], one.1)) i place done new in
        record {
          printer = e.printer;
          in_run = push_new e.printer e.here;
          of_line = ap length (e.here).lines_are;
          within = within_on (line_told_from start turns events line more told adds e.printer e.here) (line_told_to start turns events line more told adds e.printer e.here) e.within;
          prints = e.prints;
        })
        k i place done less low high there many;
    lawful = λ i place done there. elim (event_cases i (event.Place place done) there) as (λ _. IsLawful place) [ inl old ↦ (served.order).lawful i place done old.1 | inr new ↦ (serves.order).lawful i place done new ];
    ends = λ i n s a there place last. elim (event_cases i (event.Step n s call.End a) there) as (λ _. has_replica (Some place) s n ≡ false) [
      | inl old ↦ (served.order).ends i n s a old.1 place (ap last_place (sym (front i (omega (arith, old.0)))) ∙ last)
      | inr new ↦ (serves.order).ends i n s a new place last
    ];
  }
    where
      within_on : {i from to from_now to_now : ℕ} → from_now ≡ from → to_now ≡ to → (from ≤ i) × (i < to) → (from_now ≤ i) × (i < to_now)
      within_on e f w = (omega (arith, e, w.0), omega (arith, f, w.1))

  halts_on : HaltsAlone long
  halts_on q at h = elim (which q at) as (λ _. IsAlone long q) [ inl k ↦ alone_stays turns line q (served.halts q k h) | inr k ↦ here_alone q k ((serves.order).halts q k h) ]

  opens_on : tells ≡ true → OpensWithin start all
  opens_on is = record {
    fenced = λ i n s tenure fence points there none. elim (event_cases i (event.Step n s (call.Begin tenure) (reply.Began fence points)) there) as (λ _. (fence ≡ tenure) ⊎ IsLeftFence start fence) [
      | inl old ↦ (served.opens is).fenced i n s tenure fence points old.1 (ap (λ es. (replica n s es).begun) (sym (front i (omega (arith, old.0)))) ∙ none)
      | inr new ↦ (serves.opens is).fenced i n s tenure fence points new none
    ];
  }

  owned_on : tells ≡ true → OwnsFiles all
  owned_on is i n s tenure there =
      elim (event_cases i (event.Step n s (call.Begin tenure) (reply.Refused reason.NotOwned)) there) as (λ _. (replica n s (take i all)).begun ≢ []) [
        | inl old ↦ λ none. (served.owned is) i n s tenure old.1 (ap (λ es. (replica n s es).begun) (sym (front i (omega (arith, old.0)))) ∙ none)
        | inr new ↦ (serves.opens is).owned i n s tenure new
      ]

  -- ---- its answers

  abbrev delivered : TurnPosition → List LateMessage
  delivered = delivered_on turns was now

  as_was : (p : TurnPosition) → IsTurnPosition turns p → delivered p ≡ was p
  as_was p k = ap (λ b. if b then was p else now p) (lt-ltb (length p.lines) (length turns) (line_below turns p k))

  as_now : (p : TurnPosition) → IsLastTurnPosition turns line p → delivered p ≡ now p
  as_now p k = ap (λ b. if b then was p else now p) (le-ltb (length p.lines) (length turns) (omega (arith, ap length k.lines_are)))

  answered_on : (p : TurnPosition) → IsTurnPosition long p → IsAnswered (untaken ++ taking) start ((after.spans).to p) p
  answered_on p at =
      elim (which p at) as (λ _. IsAnswered (untaken ++ taking) start ((after.spans).to p) p) [
        | inl k ↦ answered_more taking (untaken ++ taking) (λ f m. IsIn-append_right untaken taking f m) start ((after.spans).to p) p (subst (λ n. IsAnswered taking start n p) (sym (line_told_was_to start turns events line more told adds p k)) ((served.answers).each p k))
        | inr k ↦ answered_more untaken (untaken ++ taking) (λ f m. IsIn-append_left untaken taking f m) start ((after.spans).to p) p (subst (λ n. IsAnswered untaken start n p) (sym (line_told_to start turns events line more told adds p k)) ((serves.answers).each p k))
      ]

  moved : (p : TurnPosition) (messages : List LateMessage) {from to from_now to_now : ℕ} → from_now ≡ from → to_now ≡ to → HearsOf start (InStretch all from to) p messages p.turn.answer → HearsOf start (InStretch all from_now to_now) p messages p.turn.answer
  moved p messages {from} {to} {from_now} {to_now} e f h =
      subst (λ n. HearsOf start (InStretch all from_now n) p messages p.turn.answer) (sym f) (subst (λ n. HearsOf start (InStretch all n to) p messages p.turn.answer) (sym e) h)

  delivers_on : (p : TurnPosition) → IsTurnPosition long p → Delivers start all after.spans p (delivered p)
  delivers_on p at =
      elim (which p at) as (λ _. Delivers start all after.spans p (delivered p)) [
        | inl k ↦ subst (Delivers start all after.spans p) (sym (as_was p k)) (moved p (was p) (line_told_was_from start turns events line more told adds p k) (line_told_was_to start turns events line more told adds p k)
            (heard_on start (InStretch events ((told.spans).from p) ((told.spans).to p)) (InStretch all ((told.spans).from p) ((told.spans).to p)) (λ i e s. (s.0, s.1, at_append events more i e s.2)) p (was p) p.turn.answer ((served.answers).delivers p k)))
        | inr k ↦ subst (Delivers start all after.spans p) (sym (as_now p k)) (moved p (now p) (line_told_from start turns events line more told adds p k) (line_told_to start turns events line more told adds p k) ((serves.answers).delivers p k))
      ]

  once_on : (p q : TurnPosition) → IsTurnPosition long p → IsTurnPosition long q → (a b : LateMessage) → IsIn (delivered p) a → IsIn (delivered q) b → IsSameMessage a b → IsSamePosition p q
  once_on p q hp hq a b m n same =
      elim (which p hp) as (λ _. IsSamePosition p q) [
        | inl op ↦
            let was_p = subst (λ ms. IsIn ms a) (as_was p op) m in
            elim (which q hq) as (λ _. IsSamePosition p q) [
              | inl oq ↦ (served.answers).once p q op oq a b was_p (subst (λ ms. IsIn ms b) (as_was q oq) n) same
              | inr nq ↦ absurd ((serves.answers).not_again q p nq op b a (subst (λ ms. IsIn ms b) (as_now q nq) n) was_p (same_back a b same))
            ]
        | inr np ↦
            let now_p = subst (λ ms. IsIn ms a) (as_now p np) m in
            elim (which q hq) as (λ _. IsSamePosition p q) [
              | inl oq ↦ absurd ((serves.answers).not_again p q np oq a b now_p (subst (λ ms. IsIn ms b) (as_was q oq) n) same)
              | inr nq ↦ (serves.answers).once p q np nq a b now_p (subst (λ ms. IsIn ms b) (as_now q nq) n) same
            ]
      ]

  whole_on : (before : List Turn) (other : Turn) (behind : List Turn) → long ≡ before ++ other ∷ behind → IsRefusedWhole start before other.request other.reply
  whole_on before other behind e =
      elim (split_push turns line before other behind e) as (λ _. IsRefusedWhole start before other.request other.reply) [
        | inl here ↦ subst (λ ls. IsRefusedWhole start ls other.request other.reply) (sym here.0) (subst (λ (l : Turn). IsRefusedWhole start turns l.request l.reply) (sym here.1) (serves.answers).whole)
        | inr there ↦ (served.answers).whole before other there.0 there.1
      ]

  answers_on : AreAnswered (untaken ++ taking) delivered start long all after
  answers_on = record {
    each = answered_on;
    delivers = delivers_on;
    once = once_on;
    whole = whole_on;
    untaken = λ f m. elim (IsIn-append_cases untaken taking f m) as (λ _. (f.kind ≡ Taking) × (f.line < length long)) [
      | inl new ↦ let is = (serves.answers).untaken_are f new in (is.0, omega (arith, is.1, length-append turns (line ∷ [])))
      | inr old ↦ let is = (served.answers).untaken f old in (is.0, omega (arith, is.1, length-append turns (line ∷ [])))
    ];
    different = different_both untaken taking (serves.answers).different (served.answers).different (λ f new old. omega (arith, ((serves.answers).untaken_are f new).1, ((served.answers).untaken f old).1));
  }

  -- ---- how many events

  abbrev room : Turn → List Turn → ℕ
  room other lines = (MOST_REQUEST_EVENTS * length (acts_in (other ∷ []))) * (writes_taken past lines + 1)

  bound_on : tells ≡ true → IsBounded past long after.ends
  bound_on is_told k other there =
      elim (cases_lt k (length turns)) as (λ _. after.ends (suc k) ≤ after.ends k + room other (take (suc k) long)) [
        | inl old ↦
            subst (λ ls. after.ends (suc k) ≤ after.ends k + room other ls) (sym (take-append-le (suc k) turns (line ∷ []) old))
            (subst (λ n. after.ends (suc k) ≤ n + room other (take (suc k) turns)) (sym (ends_were k (omega (arith, old))))
            (subst (λ n. n ≤ told.ends k + room other (take (suc k) turns)) (sym (ends_were (suc k) old)) ((served.bound is_told) k other (at_front turns (line ∷ []) k other there old))))
        | inr ge ↦
            let is : k ≡ length turns = omega (arith, ge, at_within long k other there, length-append turns (line ∷ [])) in
            let same : other ≡ line = at_same long (length turns) other line (subst (λ m. At long m other) is there) (at_cut turns line []) in
            let full : take (suc k) long ≡ long = ap (λ m. take m long) (let last : suc k ≡ length long = omega (arith, is, length-append turns (line ∷ [])) in last) ∙ take_whole long in
            let begins : after.ends k ≡ length events = ap after.ends is ∙ ends_were (length turns) (omega arith) ∙ (told.lines).last in
            subst (λ ls. after.ends (suc k) ≤ after.ends k + room other ls) (sym full)
            (subst (λ n. n ≤ after.ends k + room other long) (sym (ends_now k is))
            (subst (λ n. length all ≤ n + room other long) (sym begins) (subst (λ l. length all ≤ length events + room l long) (sym same) (serves.bound is_told))))
      ]

  served_on : IsServedRun tells (untaken ++ taking) delivered (life_of past start long next) all after
  served_on = record { order = order_on; halts = halts_on; opens = opens_on; owned = owned_on; answers = answers_on; bound = bound_on }

pub served_line : {tells : Bool} → IsServedLineByLine tells
served_line past start turns unanswered next events line more untaken taking now was h adds serves =
    (line_told start turns events line more h.0 adds, served_on past start turns unanswered next events line more untaken taking now was h.0 h.1 adds serves)

-- ---- a line outside `par`

module _ (tells : Bool) (past : List Record) (start : Option MetaState) (turns : List Turn) (events : List Event) (a : Act) (b : Answer) (more : List Event) (untaken taking : List Fault) (messages : List LateMessage) (was : TurnPosition → List LateMessage) where
  abbrev own : TurnPosition
  own = position_after turns a b

  each_turn : (P : TurnPosition → Type 0) → P own → (q : TurnPosition) → IsLastTurnPosition turns (line_of a b) q → P q
  each_turn = each start turns events a b more

  same_place : (p q : TurnPosition) → IsLastTurnPosition turns (line_of a b) p → IsLastTurnPosition turns (line_of a b) q → IsSamePosition p q
  same_place p q at there = each_turn (λ x. IsSamePosition x q) (each_turn (IsSamePosition own) (refl, refl, refl) q there) p at

  serves_so : (adds : TellsLine start turns events (line_of a b) more) → (adds.spans).from own ≡ length events → (adds.spans).to own ≡ length (events ++ more) → ServesOne tells untaken messages was past start turns events a b more
      → ServesLine tells untaken (λ p. messages) was past start turns events (line_of a b) more adds
  serves_so adds from to one = record {
    order = record {
      halts = each_turn (λ q. IsHaltAct q.turn.act → lists_of (line_of a b) ≡ (q.turn ∷ []) ∷ []) (λ halts. refl);
      alone = λ single. (one.adds).one;
      beside = λ many. absurd (many (own.turn, refl));
      lawful = (one.adds).lawful;
      ends = (one.adds).ends;
    };
    opens = one.opens;
    answers = record {
      each = each_turn (λ q. IsAnswered untaken start ((adds.spans).to q) q) (subst (λ n. IsAnswered untaken start n own) (sym to) one.answered);
      delivers = each_turn (λ q. Delivers start (events ++ more) adds.spans q messages) (heard_within from to one.delivers);
      not_again = λ p q at there x y m n. one.not_again q there x y m n;
      once = λ p q at there x y m n same. same_place p q at there;
      whole = tt;
      untaken_are = one.untaken_are;
      different = one.different;
    };
    bound = one.bound;
  }
    where
      heard_within : {low high low_now high_now : ℕ} → low_now ≡ low → high_now ≡ high → HearsOf start (InStretch (events ++ more) low high) own messages b → HearsOf start (InStretch (events ++ more) low_now high_now) own messages b
      heard_within {low} {high} {low_now} {high_now} e f h =
          subst (λ n. HearsOf start (InStretch (events ++ more) low_now n) own messages b) (sym f) (subst (λ n. HearsOf start (InStretch (events ++ more) n high) own messages b) (sym e) h)

  by_line : (unanswered next : Option Request) → IsToldAndServed tells taking was past start turns unanswered events → (adds : TellsLine start turns events (line_of a b) more) → (adds.spans).from own ≡ length events → (adds.spans).to own ≡ length (events ++ more)
      → ServesOne tells untaken messages was past start turns events a b more → IsToldAndServed tells (untaken ++ taking) (delivered_on turns was (λ p. messages)) past start (turns ++ line_of a b ∷ []) next (events ++ more)
  by_line unanswered next h adds from to one = served_line past start turns unanswered next events (line_of a b) more untaken taking (λ p. messages) was h adds (serves_so adds from to one)

pub plain_serves : {tells : Bool} → KindServes PlainLine tells
plain_serves {tells} past start turns unanswered next events a b more untaken taking messages was h kind one =
    by_line tells past start turns events a b more untaken taking messages was unanswered next h (plain_told start turns events a b more kind) (plain_told_from start turns events a b more kind) (plain_told_to start turns events a b more kind) one

pub clock_serves : {tells : Bool} → KindServes ClockLine tells
clock_serves {tells} past start turns unanswered next events a b more untaken taking messages was h kind one =
    by_line tells past start turns events a b more untaken taking messages was unanswered next h (clock_told start turns events a b more kind) (clock_told_from start turns events a b more kind) (clock_told_to start turns events a b more kind) one

pub init_serves : {tells : Bool} → KindServes InitLine tells
init_serves {tells} past start turns unanswered next events a b more untaken taking messages was h kind one =
    by_line tells past start turns events a b more untaken taking messages was unanswered next h (init_told start turns events a b more kind) (init_told_from start turns events a b more kind) (init_told_to start turns events a b more kind) one

pub write_serves : {tells : Bool} → KindServes WriteLine tells
write_serves {tells} past start turns unanswered next events a b more untaken taking messages was h kind one =
    by_line tells past start turns events a b more untaken taking messages was unanswered next h (write_told start turns events a b more kind) (write_told_from start turns events a b more kind) (write_told_to start turns events a b more kind) one

pub read_serves : {tells : Bool} → KindServes ReadLine tells
read_serves {tells} past start turns unanswered next events a b more untaken taking messages was h kind one =
    by_line tells past start turns events a b more untaken taking messages was unanswered next h (read_told start turns events a b more kind) (read_told_from start turns events a b more kind) (read_told_to start turns events a b more kind) one

-- ---- before the first line

pub served_first : {tells : Bool} → IsServedAtFirst tells
served_first past unanswered = (
  told_at_first,
  record {
    order = record {
      alone = λ k i place done less. absurd (omega (arith, less));
      beside = λ k i place done less. absurd (omega (arith, less));
      lawful = λ i place done there. absurd (nothing_at i (event.Place place done) there);
      ends = λ i n s a there. absurd (nothing_at i (event.Step n s call.End a) there);
    };
    halts = λ q at. absurd (no_place q at);
    opens = λ is. record { fenced = λ i n s tenure fence points there. absurd (nothing_at i (event.Step n s (call.Begin tenure) (reply.Began fence points)) there) };
    owned = λ is i n s tenure there. absurd (nothing_at i (event.Step n s (call.Begin tenure) (reply.Refused reason.NotOwned)) there);
    answers = nothing;
    bound = λ is k other there. absurd (nothing_at k other there);
  },
)
  where
    nothing : AreAnswered [] (λ p. []) None [] [] told_at_first
    nothing = record { each = λ p at. absurd (no_place p at); delivers = λ p at. absurd (no_place p at); once = λ p q at. absurd (no_place p at); whole = λ before other behind e. absurd (not_empty before other behind e); untaken = λ f m. absurd m; different = tt }

pub served_afresh : {tells : Bool} → IsServedAfresh tells
served_afresh past state unanswered lawful = (
  told_found state,
  record {
    order = record {
      alone = λ k i place done less. absurd (omega (arith, less));
      beside = λ k i place done less. absurd (omega (arith, less));
      lawful = λ i place done there. each_at (λ k x. x ≡ event.Place place done → IsLawful place) 0 opening ((λ e. let same : state.place ≡ place = cc in subst IsLawful same lawful), ((λ e. cc), tt)) i (event.Place place done) there refl;
      ends = λ i n s a there. absurd (no_step i n s call.End a there);
    };
    halts = λ q at. absurd (no_place q at);
    opens = λ is. record { fenced = λ i n s tenure fence points there. absurd (no_step i n s (call.Begin tenure) (reply.Began fence points) there) };
    owned = λ is i n s tenure there. absurd (no_step i n s (call.Begin tenure) (reply.Refused reason.NotOwned) there);
    answers = record { each = λ p at. absurd (no_place p at); delivers = λ p at. absurd (no_place p at); once = λ p q at. absurd (no_place p at); whole = λ before other behind e. absurd (not_empty before other behind e); untaken = λ f m. absurd m; different = tt };
    bound = λ is k other there. absurd (nothing_at k other there);
  },
)
  where
    opening : List Event
    opening = event.Place state.place [] ∷ event.Clock state.rules ∷ []

    no_step : (i n s : ℕ) (c : StepCall) (a : StepReply) → At opening i (event.Step n s c a) → ⊥
    no_step i n s c a there = each_at (λ k x. x ≡ event.Step n s c a → ⊥) 0 opening ((λ e. cc), ((λ e. cc), tt)) i (event.Step n s c a) there refl
