-- What a legal list that tells of a run makes of its reads.
use Rattle.transcripts.specs.Placements.{seed_at}
use Rattle.std.proofs.Common.{◌≡◌, ℕ, zero, suc, ◌<◌, ◌≤◌, List, [], ◌∷◌, ◌++◌, take, length, refl, sym, ap, ◌∙◌, subst, inl, inr, arith, Bool, true, false, cond}
use Rattle.std.specs.Prelude.{Option, Some, None, IsTrue, slice_get}
use Rattle.std.specs.List.{flat_map, filter_map}
use Rattle.std.proofs.lemmas.Option.{same_Some}
use Rattle.m3_model.proofs.MemberLemmas.{IsIn-append_left, IsIn-append_right, IsIn-append_cases, IsIn-filter_map, filter_map-IsIn}
use Rattle.m3_model.specs.Hash.{shard_of}
use Rattle.m3_model.specs.Levels.{majority, needed_read, is_strong}
use Rattle.m3_model.specs.Members.{IsIn}
use Rattle.m3_model.specs.Reads.{Found, read_of, found_of, points_in, space_picked, Matches, IsSought, Covers}
use Rattle.m3_model.specs.Rules.{HasExpired, IsLive}
use Rattle.transcripts.specs.Kept.{Kept, KeepsPoints}
use Rattle.transcripts.specs.Left.{earlier_turns, IsLeft, OpeningStands}
use Rattle.transcripts.specs.Points.{acked_at, acked_point, point_of, rf_at, sent_at, sent_point, was_sent}
use Rattle.transcripts.specs.Record.{InnerTurn, Record, Life, TurnPosition, IsTurnPosition, acts_of, inner_turns, joined, lists_of, turns_before}
use Rattle.transcripts.specs.Rules.{rules_at, start_rules}
use Rattle.m3_model.specs.declared.answer.Answer.TheVariants as answer
use Rattle.m3_model.specs.declared.placement.Placement.{Placement}
use Rattle.m3_model.specs.declared.point.Point.{Point}
use Rattle.m3_model.specs.declared.point.Series.{Series}
use Rattle.m3_model.specs.declared.rules.MetaState.{MetaState}
use Rattle.m3_model.specs.declared.rules.Rules.{Rules}
use Rattle.m3_model.specs.declared.rules.Space.{Space}
use Rattle.m3_model.specs.declared.turn.Turn.{Turn}
use Rattle.cluster_core.specs.Core.{Opening, AgreesWith, KeptByOpening, IsAckedBefore, IsSecured, IsLiveUpTo, IsReadBetween}
use Rattle.cluster_core.specs.Legal.{Legal}
use Rattle.cluster_core.specs.Lists.{At}
use Rattle.cluster_core.specs.declared.event.Event.{Event}
use Rattle.cluster_core.specs.declared.event.Event.TheVariants as event
use Rattle.cluster_core.proofs.HeldLemmas.{covers_lower}
use Rattle.cluster_core.proofs.ListLemmas.{at_same, at_take}
use Rattle.cluster_core.proofs.PastLemmas.{clock_at}
use Rattle.cluster_core.proofs.Theorem.{keeps_points}
use Rattle.cluster_core.proofs.TraceLemmas.{lawful_start}
use Rattle.told_by.specs.Clocks.{sets_rules}
use Rattle.told_by.specs.Openings.{opening_length, sets_seed}
use Rattle.told_by.specs.Reads.{IsAskedBy, Fetched, IsTold}
use Rattle.told_by.specs.Spans.{From, IsEarlier, IsWithin, IsOfTurn}
use Rattle.told_by.specs.Told.{ToldBy}
use Rattle.told_by.specs.Writes.{IsSendOf}
use Rattle.told_by.proofs.AnswerLemmas.{DoneAt, acked_of, asks_shard, done_at, found_sets_no_rules, found_sets_no_seed, needed_is, sent_by, strong_enough, write_reads_not, write_sets_no_seed}
use Rattle.told_by.proofs.ClockLemmas.{NotAbove, clocks_below, expired_later}
use Rattle.told_by.proofs.OpeningLemmas.{FirstEvent, OneSeed, first_event, one_seed, place_fine, rf_is}
use Rattle.told_by.proofs.RuleLemmas.{Grows, after_grows, lines_grow, live_stays, matches_space, point_grows, read_space, same_lines_grow, unexpired_live}
use Rattle.told_by.proofs.TurnLemmas.{Stands, stands, before_line, before_there, in_other_list, is_it, comes_later, earlier_line, inner-append, lines_upto, own_list}

pub sent_grows : (xs ys : List Space) → Grows xs ys → (t : InnerTurn) (p : Point) → sent_point xs t ≡ Some p → sent_point ys t ≡ Some p
sent_grows xs ys g t p e = by (was_sent t.answer) refl e
  where
    by : (b : Bool) → was_sent t.answer ≡ b → cond b (point_of xs t.act) None ≡ Some p → sent_point ys t ≡ Some p
    by true is f = sent_by ys t p is (point_grows xs ys g t.act p f)
    by false is f = cc

late_start : (events : List Event) → Legal true events → (i version s : ℕ) (ruled : Rules) (chosen : _) (from to : ℕ) → At events i (event.FetchStart version s ruled chosen from to) → 2 ≤ i
late_start events legal zero version s ruled chosen from to h = absurd (legal zero (event.FetchStart version s ruled chosen from to) h)
late_start events legal (suc zero) version s ruled chosen from to h = absurd (legal 1 (event.FetchStart version s ruled chosen from to) h)
late_start events legal (suc (suc i)) version s ruled chosen from to h = omega arith

late_done : (events : List Event) → Legal true events → (i began : ℕ) (nodes : List ℕ) (series : List Series) → At events i (event.FetchDone began nodes series) → 2 ≤ i
late_done events legal zero began nodes series h = absurd (legal zero (event.FetchDone began nodes series) h)
late_done events legal (suc zero) began nodes series h = absurd (legal 1 (event.FetchDone began nodes series) h)
late_done events legal (suc (suc i)) began nodes series h = omega arith

pub late_send : (events : List Event) → Legal true events → (i version s : ℕ) (p : Point) → At events i (event.Send version s p) → 2 ≤ i
late_send events legal zero version s p h = absurd (legal zero (event.Send version s p) h)
late_send events legal (suc zero) version s p h = absurd (legal 1 (event.Send version s p) h)
late_send events legal (suc (suc i)) version s p h = omega arith

late_ack : (events : List Event) → Legal true events → (i send : ℕ) (nodes : List ℕ) → At events i (event.Ack send nodes) → 2 ≤ i
late_ack events legal zero send nodes h = absurd (legal zero (event.Ack send nodes) h)
late_ack events legal (suc zero) send nodes h = absurd (legal 1 (event.Ack send nodes) h)
late_ack events legal (suc (suc i)) send nodes h = omega arith

pub opening_low : (o : Option MetaState) (i : ℕ) → 2 ≤ i → opening_length o ≤ i
opening_low None i h = omega arith
opening_low (Some state) i h = h

-- an earlier turn stands in a line that isn't later
line_not_later : (q b : TurnPosition) → IsEarlier q b → length q.lines ≤ length b.lines
line_not_later q b (inl lt) = omega arith
line_not_later q b (inr same) = omega (arith, same.0)

pub same_place : (p q : Placement) (ds es : List (ℕ × ℕ)) → event.Place p ds ≡ event.Place q es → p ≡ q
same_place p q ds es e = cc

module _ (past : List Record) (start : Option MetaState) (turns : List Turn) (events : List Event) (legal : Legal true events) (opening : Opening) (agrees : AgreesWith events opening)
    (stands_so : OpeningStands past start opening) (told : ToldBy start turns events) (first : FirstEvent events) (one : OneSeed start turns events legal told) where
  -- the shard of an identifier
  abbrev pub shard_in : List ℕ → ℕ
  shard_in id = shard_of id one.seed (length (first.place).shards)

  -- an event of a turn stands in its stretch
  within : (i : ℕ) (e : Event) (p : TurnPosition) → 2 ≤ i → At events i e → IsOfTurn e → told.makers i ≡ p → IsWithin told.spans p i
  within i e p low there own is = subst (λ x. IsWithin told.spans x i) is ((told.tells).order.made i e (opening_low start i low) low there own).1

  -- ---- writes

  -- a Send is of a write that was sent, to the shard of its identifier
  pub record SentBy (s : ℕ) (p : Point) (q : TurnPosition) : Type 0 where
    pub of_point : point_of (rules_at start q).spaces q.turn.act ≡ Some p
    pub was : was_sent q.turn.answer ≡ true
    pub shard_is : s ≡ shard_in p.id

  pub sent_by_turn : (i version s : ℕ) (p : Point) (q : TurnPosition) → At events i (event.Send version s p) → told.makers i ≡ q → IsTurnPosition turns q → SentBy s p q
  sent_by_turn i version s p q there is in_run =
      let late = late_send events legal i version s p there in
      let own = subst (λ x. IsSendOf start events x version s p) is ((told.tells).writes.each_send i version s p (opening_low start i late) there) in
      let span = within i (event.Send version s p) q late there tt is in
      let fine = place_fine events legal first.place first.there (own.uses).place_at own.place (own.uses).done (own.uses).there in
      record {
        of_point = own.of_point;
        was = own.sent;
        shard_is = own.shard_is
            ∙ ap (λ seed. shard_of p.id seed (length (own.place).shards)) (one.everywhere q in_run (write_sets_no_seed (rules_at start q).spaces q.turn.act q.turn.answer p own.of_point) i span.1)
            ∙ ap (λ n. shard_of p.id one.seed n) fine.count;
      }

  -- what a turn before another acknowledged
  pub acked_by_turn : (b : TurnPosition) → IsTurnPosition turns b → (q : TurnPosition) → IsTurnPosition turns q → IsEarlier q b → (nodes : List ℕ) → q.turn.answer ≡ answer.Acks nodes → majority (first.place).rf ≤ length nodes
      → (p : Point) → point_of (rules_at start b).spaces q.turn.act ≡ Some p → (before : ℕ) → (told.spans).from b ≤ before → IsAckedBefore (first.place).rf events before (shard_in p.id) p
  acked_by_turn b at q in_run earlier nodes answered enough p of_point before low =
      let ack = (told.tells).writes.acked q in_run nodes answered in
      let send = ack.sent in
      let sent = sent_by_turn ack.send send.version send.s send.point q send.there send.own in_run in
      let span = within ack.ack (event.Ack ack.send nodes) q (late_ack events legal ack.ack ack.send nodes ack.acked) ack.acked tt ack.own in
      let order : (told.spans).to q ≤ (told.spans).from b = (told.tells).order.order q b in_run at earlier in
      let rest = lines_upto turns q b in_run at (line_not_later q b earlier) in
      let grown = point_grows (rules_at start q).spaces (rules_at start b).spaces (lines_grow start q b rest.0 rest.1) q.turn.act send.point sent.of_point in
      let same : send.point ≡ p = same_Some send.point p (sym grown ∙ of_point) in
      let shard : send.s ≡ shard_in p.id = sent.shard_is ∙ ap (λ (x : Point). shard_in x.id) same in
      record {
        position = ack.ack;
        send = ack.send;
        version = send.version;
        nodes = nodes;
        early = omega (arith, span.1);
        acked = ack.acked;
        sent = subst (λ x. At events ack.send (event.Send send.version (shard_in p.id) x)) same (subst (λ n. At events ack.send (event.Send send.version n send.point)) shard send.there);
        enough = enough;
      }

  -- ---- one read

  module _ (b : TurnPosition) (at : IsTurnPosition turns b) (found : Found) (answered : found_of b.turn.answer ≡ Some found) (it : IsTold start (From (opening_length start)) events told.makers b found) where
    quiet : sets_rules b.turn.act b.turn.answer ≡ false
    quiet = found_sets_no_rules b.turn.act b.turn.answer found answered

    seedless : sets_seed b.turn.act b.turn.answer ≡ false
    seedless = found_sets_no_seed b.turn.act b.turn.answer found answered

    -- the stretch of the read of a shard
    record Stretch (f : Fetched) : Type 0 where
      low : (told.spans).from b ≤ f.began
      high : f.ended < (told.spans).to b

    stretch : (s : ℕ) → IsAskedBy start b it.asking s → Stretch (it.fetches s)
    stretch s asked =
        let f = it.each s asked in
        let a = it.asking in
        let started = within (it.fetches s).began (event.FetchStart (a.place).version s (rules_at start b) (a.read).pick (a.read).from (a.read).to) b
        (late_start events legal (it.fetches s).began (a.place).version s (rules_at start b) (a.read).pick (a.read).from (a.read).to f.start_there) f.start_there tt f.own_start in
        let done = within (it.fetches s).ended (event.FetchDone (it.fetches s).began (it.fetches s).nodes (it.fetches s).series) b
        (late_done events legal (it.fetches s).ended (it.fetches s).began (it.fetches s).nodes (it.fetches s).series f.done_there) f.done_there tt f.own_done in
        record { low = started.0; high = done.1 }

    -- no Clock before the end of the turn is above its rules
    clocks : (s : ℕ) → IsAskedBy start b it.asking s → (i : ℕ) (r : Rules) → i < (told.spans).to b → At events i (event.Clock r) → NotAbove r (rules_at start b)
    clocks s asked i r low there =
        let f = it.each s asked in
        let a = it.asking in
        let law = lawful_start events legal (it.fetches s).began (a.place).version s (rules_at start b) (a.read).pick (a.read).from (a.read).to f.start_there in
        let clock = clock_at (take (it.fetches s).began events) (rules_at start b) law.1 in
        let c = at_take events clock.0 (it.fetches s).began (event.Clock (rules_at start b)) clock.1 in
        clocks_below start turns events legal told b at quiet clock.0 c.0 i r low there

    live_up : (s : ℕ) → IsAskedBy start b it.asking s → (p : Point) → IsLive (rules_at start b) p → IsLiveUpTo events (it.fetches s).ended p
    live_up s asked p live j r lt there expired =
        let span = stretch s asked in
        live_stays (rules_at start b) p live (expired_later r (rules_at start b) p (clocks s asked j r (omega (arith, span.high)) there) expired)

    is_read : (s : ℕ) → (asked : IsAskedBy start b it.asking s) → IsReadBetween events (it.fetches s).began (it.fetches s).ended (it.fetches s).nodes (it.fetches s).series s ((it.asking).read).pick ((it.asking).read).from ((it.asking).read).to
    is_read s asked = let f = it.each s asked in record { version = ((it.asking).place).version; rules = rules_at start b; is_done = f.done_there; started = f.start_there }

    asking_fine : ((it.asking).place).rf ≡ (first.place).rf
    asking_fine = let u = (it.of_turn).uses in (place_fine events legal first.place first.there u.place_at (it.asking).place u.done u.there).rf

    asking_count : length ((it.asking).place).shards ≡ length (first.place).shards
    asking_count = let u = (it.of_turn).uses in (place_fine events legal first.place first.there u.place_at (it.asking).place u.done u.there).count

    -- a read asks the shard of each point that matches
    asked_of : (p : Point) → Matches ((it.asking).read).pick p → IsAskedBy start b it.asking (shard_in p.id)
    asked_of p matches =
        let a = it.asking in
        let s = shard_of p.id (seed_at start b) (length (a.place).shards) in
        let limits = (first.lawful).limits in
        let some : 0 < length (a.place).shards = omega (arith, limits.some_shards, asking_count) in
        let asked = asks_shard (rules_at start b).spaces b.turn.act a.read a.call (it.of_turn).of_act (it.of_turn).of_call p matches (seed_at start b) (length (a.place).shards) some in
        let span = stretch s asked in
        let same : s ≡ shard_in p.id = ap (λ seed. shard_of p.id seed (length (a.place).shards)) (one.everywhere b at seedless (it.fetches s).ended span.high) ∙ ap (λ n. shard_of p.id one.seed n) asking_count in
        subst (IsAskedBy start b it.asking) same asked

    -- a strong read was answered by a majority of each shard that it asks
    strongly : IsTrue (is_strong ((it.asking).read).level found.short) → (s : ℕ) → IsAskedBy start b it.asking s → majority (first.place).rf ≤ length (it.fetches s).nodes
    strongly strong s asked =
        let a = it.asking in
        let limits = (first.lawful).limits in
        let needed : (a.call).needed (a.place).rf ≡ needed_read (a.read).level (first.place).rf = needed_is (rules_at start b).spaces b.turn.act a.read a.call (it.of_turn).of_act (it.of_turn).of_call (a.place).rf ∙ ap (needed_read (a.read).level) asking_fine in
        strong_enough (first.place).rf (length (it.fetches s).nodes) (a.read).level found.short limits.some_replicas strong (subst (λ n. n ≤ length (it.fetches s).nodes) needed (it.enough s asked))
        (λ short level. subst (λ rf. majority rf ≤ length (it.fetches s).nodes) asking_fine (it.not_short short level s asked))

    -- what is secured is in the answer, or surpassed
    covered : IsTrue (is_strong ((it.asking).read).level found.short) → (p : Point) → (sought : IsSought (rules_at start b) (it.asking).read p) → (given : List (Point × ℕ)) → KeptByOpening opening first.place given
        → IsSecured (first.place).rf given events (it.fetches (shard_in p.id)).began (shard_in p.id) p → Covers (points_in (space_picked ((it.asking).read).pick) found.series) p
    covered strong p sought given kept secured =
        let a = (it.asking).read in
        let s = shard_in p.id in
        let asked = asked_of p sought.matches in
        let f = it.fetches s in
        let c : Covers (points_in (space_picked a.pick) f.series) p =
        (keeps_points events legal first.place [] first.there opening agrees given kept).read f.began f.ended f.nodes f.series s a.pick a.from a.to (is_read s asked) (strongly strong s asked) p sought.matches sought.in_range (live_up s asked p sought.live) secured in
        covers_lower (points_in (space_picked a.pick) found.series) p c.value c.at_least ((it.together).all_there s asked (record p { v = c.value }) c.stands)

    -- what an earlier run acknowledged is left
    left_over : (p : Point) → (sought : IsSought (rules_at start b) (it.asking).read p) → (t : InnerTurn) → IsIn (earlier_turns past) t → (nodes : List ℕ) → t.answer ≡ answer.Acks nodes → majority (first.place).rf ≤ length nodes
        → point_of (rules_at start b).spaces t.act ≡ Some p → IsLeft opening first.place (shard_in p.id) p
    left_over p sought t h nodes is enough of_point =
        let c = stands_so.acked t h nodes is in
        let state = c.state in
        let asked = asked_of p sought.matches in
        let span = stretch (shard_in p.id) asked in
        let f = it.each (shard_in p.id) asked in
        let late = late_done events legal (it.fetches (shard_in p.id)).ended (it.fetches (shard_in p.id)).began (it.fetches (shard_in p.id)).nodes (it.fetches (shard_in p.id)).series f.done_there in
        let opened = told.opened state c.found in
        let place : first.place ≡ state.place = same_place first.place state.place [] [] (at_same events 0 (event.Place first.place []) (event.Place state.place []) first.there opened.placed) in
        let grown : Grows (state.rules).spaces (rules_at start b).spaces = subst (λ o. Grows (start_rules o).spaces (rules_at start b).spaces) c.found (after_grows (start_rules start) (inner_turns b.lines)) in
        let same : c.point ≡ p = same_Some c.point p (sym (point_grows (state.rules).spaces (rules_at start b).spaces grown t.act c.point c.of_act) ∙ of_point) in
        let alive : ¬ HasExpired state.rules c.point =
        λ expired. live_stays (rules_at start b) p sought.live (expired_later state.rules (rules_at start b) p (clocks (shard_in p.id) asked 1 state.rules (omega (arith, span.high)) opened.clock) (subst (HasExpired state.rules) same expired)) in
        let kept = c.left (subst (λ (x : Placement). majority x.rf ≤ length nodes) place enough) alive in
        subst (λ (x : Placement). IsLeft opening x (shard_of p.id one.seed (length x.shards)) p) (sym place)
        (subst (λ n. IsLeft opening state.place (shard_of p.id n (length (state.place).shards)) p) (sym (one.found state c.found))
        (subst (λ (x : Point). IsLeft opening state.place (shard_of x.id state.seed (length (state.place).shards)) x) same kept))

    acknowledged : IsTrue (is_strong ((it.asking).read).level found.short) → (p : Point) → IsIn (acked_at past start b) p → IsSought (rules_at start b) (it.asking).read p → Covers (points_in (space_picked ((it.asking).read).pick) found.series) p
    acknowledged strong p among sought =
        let source = IsIn-filter_map (acked_point (rf_at start b) (rules_at start b).spaces) (turns_before past b) p among in
        let t = source.0 in
        let acked = acked_of (rf_at start b) (rules_at start b).spaces t p source.2 in
        let asked = asked_of p sought.matches in
        let span = stretch (shard_in p.id) asked in
        let rf = rf_is start turns events legal told first b at seedless (it.fetches (shard_in p.id)).ended span.high in
        let enough : majority (first.place).rf ≤ length acked.0 = subst (λ n. majority n ≤ length acked.0) rf acked.2 in
        let of_turn : (q : TurnPosition) → IsTurnPosition turns q → IsEarlier q b → q.turn ≡ t → Covers (points_in (space_picked ((it.asking).read).pick) found.series) p =
        λ q in_run earlier is.
        covered strong p sought [] (λ x none. absurd none)
        (inr (acked_by_turn b at q in_run earlier acked.0 (ap (λ (u : InnerTurn). u.answer) is ∙ acked.1) enough p (ap (λ (u : InnerTurn). point_of (rules_at start b).spaces u.act) is ∙ acked.3) (it.fetches (shard_in p.id)).began span.low)) in
        elim (IsIn-append_cases (earlier_turns past) (inner_turns b.lines ++ b.earlier) t source.1) as (λ _. Covers (points_in (space_picked ((it.asking).read).pick) found.series) p) [
          | inl before_run ↦
              let left = left_over p sought t before_run acked.0 acked.1 enough acked.3 in
              covered strong p sought ((p, shard_in p.id) ∷ [])
              (λ x m. elim m as (λ _. IsLeft opening first.place x.1 x.0) [ inl e ↦ subst (λ (y : Point × ℕ). IsLeft opening first.place y.1 y.0) e left | inr none ↦ absurd none ])
              (inl (inl refl))
          | inr in_run ↦ elim (IsIn-append_cases (inner_turns b.lines) b.earlier t in_run) as (λ _. Covers (points_in (space_picked ((it.asking).read).pick) found.series) p) [
            | inl line ↦ let q = earlier_line turns b at t line in of_turn q.position q.in_run (inl q.earlier) q.turn_is
            | inr list ↦ let q = own_list turns b at t list in of_turn q.position q.in_run (inr (ap length q.lines_are, q.client_is, q.earlier)) q.turn_is
          ]
        ]

    -- what the FetchDone of a shard says
    done_of : (s : ℕ) → IsAskedBy start b it.asking s → DoneAt (rules_at start b) ((it.asking).read).pick ((it.asking).read).from ((it.asking).read).to (it.fetches s).series
    done_of s asked =
        let f = it.each s asked in
        let a = it.asking in
        done_at events legal (it.fetches s).ended (it.fetches s).began (it.fetches s).nodes (it.fetches s).series f.done_there (a.place).version s (rules_at start b) (a.read).pick (a.read).from (a.read).to f.start_there

    among_sent : (t : InnerTurn) (p : Point) → IsIn (turns_before past b ++ b.beside) t → sent_point (rules_at start b).spaces t ≡ Some p → IsIn (sent_at past start b) p
    among_sent t p h e =
        IsIn-append_left (filter_map (sent_point (rules_at start b).spaces) (turns_before past b ++ b.beside)) (filter_map (point_of (rules_at start b).spaces) (flat_map (λ (run : Record). acts_of run.unanswered) past)) p
        (filter_map-IsIn (sent_point (rules_at start b).spaces) (turns_before past b ++ b.beside) t p h e)

    -- a turn's Send before the end of a fetch is of a write before the read or beside it
    sent_in_run : (s : ℕ) → IsAskedBy start b it.asking s → (i version shard : ℕ) (p : Point) → i < (it.fetches s).ended → At events i (event.Send version shard p) → IsIn (sent_at past start b) p
    sent_in_run s asked i version shard p lt there =
        let late = late_send events legal i version shard p there in
        let made = (told.tells).order.made i (event.Send version shard p) (opening_low start i late) late there tt in
        let span = stretch s asked in
        by_position (told.makers i) made.0 (made.1).0 (omega (arith, span.high)) (sent_by_turn i version shard p (told.makers i) there refl made.0) (stands turns (told.makers i) b made.0 at)
      where
        before_it : (t : InnerTurn) → IsIn (inner_turns b.lines ++ b.earlier) t → IsIn (turns_before past b ++ b.beside) t
        before_it t h = IsIn-append_left (turns_before past b) b.beside t (IsIn-append_right (earlier_turns past) (inner_turns b.lines ++ b.earlier) t h)

        by_position : (q : TurnPosition) → IsTurnPosition turns q → (told.spans).from q ≤ i → i < (told.spans).to b → SentBy shard p q → Stands q b → IsIn (sent_at past start b) p
        by_position q in_run from low sent (before_line rest line e h) =
            among_sent q.turn p
            (before_it q.turn (IsIn-append_left (inner_turns b.lines) b.earlier q.turn (subst (λ xs. IsIn (inner_turns xs) q.turn) (sym e)
            (subst (λ ts. IsIn ts q.turn) (sym (inner-append q.lines (line ∷ rest))) (IsIn-append_right (inner_turns q.lines) (inner_turns (line ∷ rest)) q.turn (IsIn-append_left (joined (lists_of line)) (inner_turns rest) q.turn h))))))
            (sent_by (rules_at start b).spaces q.turn p sent.was (point_grows (rules_at start q).spaces (rules_at start b).spaces (lines_grow start q b (line ∷ rest) e) q.turn.act p sent.of_point))
        by_position q in_run from low sent (before_there e h) =
            among_sent q.turn p (before_it q.turn (IsIn-append_right (inner_turns b.lines) b.earlier q.turn h))
            (sent_by (rules_at start b).spaces q.turn p sent.was (point_grows (rules_at start q).spaces (rules_at start b).spaces (same_lines_grow start q b e) q.turn.act p sent.of_point))
        by_position q in_run from low sent (in_other_list e h) =
            among_sent q.turn p (IsIn-append_right (turns_before past b) b.beside q.turn h)
            (sent_by (rules_at start b).spaces q.turn p sent.was (point_grows (rules_at start q).spaces (rules_at start b).spaces (same_lines_grow start q b e) q.turn.act p sent.of_point))
        by_position q in_run from low sent (is_it e) =
            absurd (write_reads_not (rules_at start q).spaces (rules_at start b).spaces q.turn.act p (it.asking).read sent.of_point (ap (λ (x : TurnPosition). read_of (rules_at start b).spaces x.turn.act) e ∙ (it.of_turn).of_act))
        by_position q in_run from low sent (comes_later e) =
            let before : (told.spans).to b ≤ (told.spans).from q = (told.tells).order.order b q at in_run e in absurd (omega arith)

    -- a point of the opening was sent by an earlier run
    sent_in_past : (n s : ℕ) (p : Point) → IsIn (opening n s) p → IsIn (sent_at past start b) p
    sent_in_past n s p h =
        let was = stands_so.sent n s p h in
        let state = was.state in
        let grown : Grows (state.rules).spaces (rules_at start b).spaces = subst (λ o. Grows (start_rules o).spaces (rules_at start b).spaces) was.found (after_grows (start_rules start) (inner_turns b.lines)) in
        elim (IsIn-append_cases (filter_map (sent_point (state.rules).spaces) (earlier_turns past)) (filter_map (point_of (state.rules).spaces) (flat_map (λ (run : Record). acts_of run.unanswered) past)) p was.among) as (λ _. IsIn (sent_at past start b) p) [
          | inl turn ↦
              let t = IsIn-filter_map (sent_point (state.rules).spaces) (earlier_turns past) p turn in
              among_sent t.0 p (IsIn-append_left (turns_before past b) b.beside t.0 (IsIn-append_left (earlier_turns past) (inner_turns b.lines ++ b.earlier) t.0 t.1)) (sent_grows (state.rules).spaces (rules_at start b).spaces grown t.0 p t.2)
          | inr act ↦
              let a = IsIn-filter_map (point_of (state.rules).spaces) (flat_map (λ (run : Record). acts_of run.unanswered) past) p act in
              IsIn-append_right (filter_map (sent_point (rules_at start b).spaces) (turns_before past b ++ b.beside)) (filter_map (point_of (rules_at start b).spaces) (flat_map (λ (run : Record). acts_of run.unanswered) past)) p
              (filter_map-IsIn (point_of (rules_at start b).spaces) (flat_map (λ (run : Record). acts_of run.unanswered) past) a.0 p a.1 (point_grows (state.rules).spaces (rules_at start b).spaces grown a.0 p a.2))
        ]

    nothing_else : (p : Point) → IsIn (points_in (space_picked ((it.asking).read).pick) found.series) p → IsIn (sent_at past start b) p × IsSought (rules_at start b) (it.asking).read p
    nothing_else p h =
        let a = (it.asking).read in
        let of_shard = (it.together).nothing_else p h in
        let s = of_shard.0 in
        let asked = of_shard.1 in
        let f = it.fetches s in
        let here = of_shard.2 in
        let wanted = (done_of s asked).wanted p here in
        let space = read_space (rules_at start b).spaces b.turn.act a (it.of_turn).of_act in
        let was = (keeps_points events legal first.place [] first.there opening agrees [] (λ y none. absurd none)).written f.began f.ended f.nodes f.series s a.pick a.from a.to (is_read s asked) p here in
        let sent : IsIn (sent_at past start b) p = elim was as (λ _. IsIn (sent_at past start b) p) [ inl send ↦ sent_in_run s asked send.0 send.1 s p send.2 send.3 | inr opened ↦ sent_in_past opened.0 s p opened.1 ] in (
          sent,
          record {
            matches = wanted.matches;
            in_range = wanted.in_range;
            live = unexpired_live (rules_at start b) p space.0 (ap (slice_get (rules_at start b).spaces) (matches_space a.pick p wanted.matches) ∙ space.1) wanted.unexpired;
          },
        )

    pub points_kept : KeepsPoints (rules_at start b) (acked_at past start b) (sent_at past start b) (it.asking).read found
    points_kept = record { acknowledged = acknowledged; nothing_else = nothing_else; ordered = (it.together).ordered }

-- an answered read asks some shard, so the list has a first event
has_first : (past : List Record) (start : Option MetaState) (turns : List Turn) (events : List Event) (legal : Legal true events) (told : ToldBy start turns events) (b : TurnPosition) (at : IsTurnPosition turns b) (found : Found) (answered : found_of b.turn.answer ≡ Some found) → FirstEvent events
has_first past start turns events legal told b at found answered =
    let it = (told.tells).reads.found b at found answered in
    let u = (it.of_turn).uses in
    first_event events legal u.place_at (event.Place (it.asking).place u.done) u.there

-- where a legal list tells of a run its life is kept
pub told_kept : (life : Life) (events : List Event) (opening : Opening) → Legal true events → AgreesWith events opening → OpeningStands life.past life.present.start opening
    → ToldBy life.present.start life.present.turns events → Kept life
told_kept life events opening legal agrees stands_so told b at found answered =
    let past = life.past in
    let start = (life.present).start in
    let turns = (life.present).turns in
    let it = (told.tells).reads.found b at found answered in
    let first = has_first past start turns events legal told b at found answered in
    record {
      read = (it.asking).read;
      asked = (it.of_turn).of_act;
      keeps = points_kept past start turns events legal opening agrees stands_so told first (one_seed start turns events legal told first) b at found answered it;
    }
