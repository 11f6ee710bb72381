-- What a told run leaves is what the next run is to find.
use Rattle.transcripts.specs.Left.{IsCarried, IsLeft, OpeningStands, WasSentEarlier, earlier_turns, sent_earlier}
use Rattle.transcripts.specs.Record.{line_of}
use Rattle.std.proofs.Common.{◌≡◌, ℕ, suc, ◌<◌, ◌≤◌, List, [], ◌∷◌, ◌++◌, take, length, refl, sym, ap, ◌∙◌, subst, inl, inr, arith, append-nil, length-append, true}
use Rattle.std.specs.Prelude.{◌⊎◌, Option, Some, None, fold}
use Rattle.std.specs.List.{flat_map, filter_map}
use Rattle.std.proofs.lemmas.Nat.{mod_below}
use Rattle.m3_model.proofs.MemberLemmas.{IsIn-append_left, IsIn-append_right, IsIn-append_cases, IsIn-filter_map, filter_map-IsIn}
use Rattle.m3_model.proofs.Lists.{IsIn-flat_map, flat_map-IsIn, take_whole}
use Rattle.m3_model.specs.Hash.{shard_of, murmur3}
use Rattle.m3_model.specs.Levels.{majority}
use Rattle.m3_model.specs.Members.{IsIn}
use Rattle.m3_model.specs.Reads.{Covers}
use Rattle.m3_model.specs.Rules.{HasExpired}
use Rattle.transcripts.proofs.PositionLemmas.{at_push}
use Rattle.transcripts.specs.Points.{point_of, sent_point}
use Rattle.transcripts.specs.Record.{InnerTurn, Record, TurnPosition, IsTurnPosition, acts_of, inner_turns, joined, lists_of, IsLastTurnPosition}
use Rattle.transcripts.specs.Rules.{rules_at, start_rules}
use Rattle.m3_model.specs.declared.act.Act.{Act}
use Rattle.m3_model.specs.declared.act.Act.TheVariants as act
use Rattle.m3_model.specs.declared.answer.Answer.{Answer}
use Rattle.m3_model.specs.declared.answer.Answer.TheVariants as answer
use Rattle.m3_model.specs.declared.placement.Placement.{Placement}
use Rattle.m3_model.specs.declared.point.Point.{Point}
use Rattle.m3_model.specs.declared.rules.MetaState.{MetaState}
use Rattle.m3_model.specs.declared.rules.Rules.{Rules}
use Rattle.m3_model.specs.declared.rules.Space.{Space}
use Rattle.m3_model.specs.declared.turn.Request.{Request}
use Rattle.m3_model.specs.declared.turn.Turn.{Turn}
use Rattle.placement_core.specs.Majorities.{IsMajority}
use Rattle.placement_core.specs.Shards.{holders}
use Rattle.cluster_core.specs.Core.{Opening, AgreesWith, KeptByOpening, IsAckedBefore, IsSecured, IsLiveUpTo, held}
use Rattle.cluster_core.specs.Earlier.{clock_after, last_clock, last_place, place_after}
use Rattle.cluster_core.specs.Legal.{Legal, LawfulAt}
use Rattle.cluster_core.specs.Lists.{At}
use Rattle.cluster_core.specs.Replicas.{replica}
use Rattle.cluster_core.specs.declared.event.Event.{Event}
use Rattle.cluster_core.specs.declared.event.Event.TheVariants as event
use Rattle.cluster_core.specs.declared.event.StepCall.TheVariants as call
use Rattle.cluster_core.specs.declared.event.StepReply.TheVariants as reply
use Rattle.std.proofs.lemmas.Bool.{cases_lt}
use Rattle.std.proofs.lemmas.Option.{same_Some}
use Rattle.std.proofs.lemmas.List.{take-append-le}
use Rattle.cluster_core.proofs.HeldLemmas.{covers_lower}
use Rattle.cluster_core.proofs.ListLemmas.{at_append, at_same, at_some, at_within}
use Rattle.cluster_core.proofs.OriginLemmas.{origin}
use Rattle.cluster_core.proofs.PlaceLemmas.{place_cases}
use Rattle.cluster_core.proofs.Theorem.{keeps_points}
use Rattle.told_by.specs.Leaves.{HoldsAgain, IsLeftState, MayBeOpen}
use Rattle.told_by.specs.Lines.{PlainLine, position_after as after_lines}
use Rattle.told_by.specs.Told.{ToldBy}
use Rattle.told_by.proofs.AnswerLemmas.{sent_by}
use Rattle.told_by.proofs.ClockLemmas.{NotAbove, clock_cases, clocks_below, expired_later}
use Rattle.told_by.proofs.KeptLemmas.{acked_by_turn, late_send, opening_low, same_place, sent_by_turn, sent_grows}
use Rattle.told_by.proofs.KindLemmas.{plain_told, plain_told_from, plain_told_to}
use Rattle.told_by.proofs.LineLemmas.{at_front, line_told, line_told_from, line_told_to, position_last, position_stays}
use Rattle.told_by.proofs.OneLemmas.{among_back, is_last, is_own}
use Rattle.told_by.proofs.OpeningLemmas.{FirstEvent, OneSeed, first_event, one_seed, place_fine}
use Rattle.told_by.proofs.RuleLemmas.{Grows, after_grows, lines_grow, point_grows}
use Rattle.told_by.proofs.JoinedLemmas.{turn_in}
use Rattle.told_by.proofs.TurnLemmas.{in_cut, in_its_line, lines_upto}

-- ---- the last Place and the last Clock

last_place_from : (events : List Event) (was : Option Placement) (p : Placement) → fold place_after was events ≡ Some p → ((i : ℕ) × (done : List (ℕ × ℕ)) × At events i (event.Place p done)) ⊎ (was ≡ Some p)
last_place_from [] was p e = inr e
last_place_from (x ∷ events) was p e =
    elim (last_place_from events (place_after was x) p e) as (λ _. ((i : ℕ) × (done : List (ℕ × ℕ)) × At (x ∷ events) i (event.Place p done)) ⊎ (was ≡ Some p)) [
      | inl later ↦ inl (suc later.0, later.1, later.2)
      | inr here ↦ elim (place_cases was x) as (λ _. ((i : ℕ) × (done : List (ℕ × ℕ)) × At (x ∷ events) i (event.Place p done)) ⊎ (was ≡ Some p)) [
        | inl same ↦ inr (sym same ∙ here)
        | inr placed ↦ let one : placed.0 ≡ p = same_Some placed.0 p (sym placed.3 ∙ here) in inl (0, placed.1, ap Some placed.2 ∙ ap (λ q. Some (event.Place q placed.1)) one)
      ]
    ]

last_clock_from : (events : List Event) (was : Option Rules) (r : Rules) → fold clock_after was events ≡ Some r → ((i : ℕ) × At events i (event.Clock r)) ⊎ (was ≡ Some r)
last_clock_from [] was r e = inr e
last_clock_from (x ∷ events) was r e =
    elim (last_clock_from events (clock_after was x) r e) as (λ _. ((i : ℕ) × At (x ∷ events) i (event.Clock r)) ⊎ (was ≡ Some r)) [
      | inl later ↦ inl (suc later.0, later.1)
      | inr here ↦ elim (clock_cases was x) as (λ _. ((i : ℕ) × At (x ∷ events) i (event.Clock r)) ⊎ (was ≡ Some r)) [
        | inl same ↦ inr (sym same ∙ here)
        | inr set ↦ let one : set.0 ≡ r = same_Some set.0 r (sym set.2 ∙ here) in inl (0, ap Some set.1 ∙ ap (λ q. Some (event.Clock q)) one)
      ]
    ]

pub place_there : (events : List Event) (p : Placement) → last_place events ≡ Some p → (i : ℕ) × (done : List (ℕ × ℕ)) × At events i (event.Place p done)
place_there events p e = elim (last_place_from events None p e) as (λ _. (i : ℕ) × (done : List (ℕ × ℕ)) × At events i (event.Place p done)) [ inl h ↦ h | inr bad ↦ cc ]

clock_there : (events : List Event) (r : Rules) → last_clock events ≡ Some r → (i : ℕ) × At events i (event.Clock r)
clock_there events r e = elim (last_clock_from events None r e) as (λ _. (i : ℕ) × At events i (event.Clock r)) [ inl h ↦ h | inr bad ↦ cc ]

-- ---- one more record

module _ (past : List Record) (start : Option MetaState) (turns : List Turn) (unanswered : Option Request) where
  abbrev now : Record
  now = record { start = start; turns = turns; unanswered = unanswered }

  abbrev further : List Record
  further = past ++ now ∷ []

  old_turn : (t : InnerTurn) → IsIn (earlier_turns past) t → IsIn (earlier_turns further) t
  old_turn t h =
      let r = IsIn-flat_map (λ (run : Record). inner_turns run.turns) past t h in
      flat_map-IsIn (λ (run : Record). inner_turns run.turns) further r.0 t (IsIn-append_left past (now ∷ []) r.0 r.1) r.2

  new_turn : (t : InnerTurn) → IsIn (inner_turns turns) t → IsIn (earlier_turns further) t
  new_turn t h = flat_map-IsIn (λ (run : Record). inner_turns run.turns) further now t (in_cut past now []) h

  turn_cases : (t : InnerTurn) → IsIn (earlier_turns further) t → IsIn (earlier_turns past) t ⊎ IsIn (inner_turns turns) t
  turn_cases t h =
      let r = IsIn-flat_map (λ (run : Record). inner_turns run.turns) further t h in
      elim (IsIn-append_cases past (now ∷ []) r.0 r.1) as (λ _. IsIn (earlier_turns past) t ⊎ IsIn (inner_turns turns) t) [
        | inl old ↦ inl (flat_map-IsIn (λ (run : Record). inner_turns run.turns) past r.0 t old r.2)
        | inr own ↦ elim own as (λ _. IsIn (earlier_turns past) t ⊎ IsIn (inner_turns turns) t) [
          | inl same ↦ inr (subst (λ (run : Record). IsIn (inner_turns run.turns) t) (sym same) r.2)
          | inr none ↦ absurd none
        ]
      ]

  -- what was sent
  sent_turn : (spaces : List Space) (t : InnerTurn) (p : Point) → IsIn (earlier_turns further) t → sent_point spaces t ≡ Some p → IsIn (sent_earlier further spaces) p
  sent_turn spaces t p h e =
      IsIn-append_left (filter_map (sent_point spaces) (earlier_turns further)) (filter_map (point_of spaces) (flat_map (λ (run : Record). acts_of run.unanswered) further)) p
      (filter_map-IsIn (sent_point spaces) (earlier_turns further) t p h e)

  sent_old : (xs ys : List Space) → Grows xs ys → (p : Point) → IsIn (sent_earlier past xs) p → IsIn (sent_earlier further ys) p
  sent_old xs ys grown p h =
      elim (IsIn-append_cases (filter_map (sent_point xs) (earlier_turns past)) (filter_map (point_of xs) (flat_map (λ (run : Record). acts_of run.unanswered) past)) p h) as (λ _. IsIn (sent_earlier further ys) p) [
        | inl turn ↦ let t = IsIn-filter_map (sent_point xs) (earlier_turns past) p turn in sent_turn ys t.0 p (old_turn t.0 t.1) (sent_grows xs ys grown t.0 p t.2)
        | inr taken ↦
            let a = IsIn-filter_map (point_of xs) (flat_map (λ (run : Record). acts_of run.unanswered) past) p taken in
            let r = IsIn-flat_map (λ (run : Record). acts_of run.unanswered) past a.0 a.1 in
            IsIn-append_right (filter_map (sent_point ys) (earlier_turns further)) (filter_map (point_of ys) (flat_map (λ (run : Record). acts_of run.unanswered) further)) p
            (filter_map-IsIn (point_of ys) (flat_map (λ (run : Record). acts_of run.unanswered) further) a.0 p
            (flat_map-IsIn (λ (run : Record). acts_of run.unanswered) further r.0 a.0 (IsIn-append_left past (now ∷ []) r.0 r.1) r.2) (point_grows xs ys grown a.0 p a.2))
      ]

-- ---- the run with one more line, which does nothing

abbrev idle : Act
idle = act.Deliver

abbrev unheard : Answer
unheard = answer.Memory

idle_line : (start : Option MetaState) (turns : List Turn) (events : List Event) → PlainLine start turns events idle unheard []
idle_line start turns events = record {
  makes = record {
    makes = λ i e le past there. absurd (omega (arith, at_within (events ++ []) i e there, length-append events []));
    restarts = λ i n s r le past there. absurd (omega (arith, at_within (events ++ []) i (event.Step n s call.Restart r) there, length-append events []));
    hears = tt;
  };
  plain = record { no_acks = λ nodes e. cc; not_unmet = λ h. h; no_found = refl; no_rules = refl; no_seed = refl };
  opened = inr refl;
  adds = λ i e h. absurd (let bad = at_within [] i e h in omega arith);
  prints = record { is_place = λ place e. absurd (let bad : None ≡ Some place = e in cc); not_earlier = λ p k was is f e. absurd (let bad : None ≡ Some is = e in cc) };
  ends = λ available boot x m. absurd (let bad : answer.Memory ≡ answer.Available available boot.place boot.version = boot.answered in cc);
}

-- a front of a legal list is legal
pub legal_front : (xs ys : List Event) → Legal true (xs ++ ys) → Legal true xs
legal_front xs ys legal i e h = subst (λ es. LawfulAt true i es e) (take-append-le i xs ys (omega (arith, at_within xs i e h))) (legal i e (at_append xs ys i e h))

agrees_front : (xs ys : List Event) (opening : Opening) → AgreesWith (xs ++ ys) opening → AgreesWith xs opening
agrees_front xs ys opening agrees i n s tenure fence points h first =
    let e = event.Step n s (call.Begin tenure) (reply.Began fence points) in
    agrees i n s tenure fence points (at_append xs ys i e h) (subst (λ es. (replica n s es).begun ≡ []) (sym (take-append-le i xs ys (omega (arith, at_within xs i e h)))) first)

module _ (past : List Record) (start : Option MetaState) (turns : List Turn) (unanswered : Option Request) (events more : List Event) (opening : Opening) (left : MetaState) (next : Opening)
    (legal : Legal true events) (whole_legal : Legal true (events ++ more)) (agreed : AgreesWith events opening) (agrees : AgreesWith (events ++ more) opening) (stands_so : OpeningStands past start opening)
    (told : ToldBy start (turns ++ line_of idle unheard ∷ []) events) (low : (told.spans).from (after_lines turns idle unheard) ≡ length events) (high : (told.spans).to (after_lines turns idle unheard) ≡ length events)
    (may_be : (e : Event) → IsIn more e → MayBeOpen unanswered left.rules e)
    (is_left : IsLeftState start turns (events ++ more) left) (again : HoldsAgain (events ++ more) opening left next) (first : FirstEvent events) (one : OneSeed start (turns ++ line_of idle unheard ∷ []) events legal told) where
  abbrev all : List Event
  all = events ++ more

  in_front : (i : ℕ) (e : Event) → At all i e → (MayBeOpen unanswered left.rules e → ⊥) → At events i e
  in_front i e h never_open =
      elim (cases_lt i (length events)) as (λ _. At events i e) [
        | inl lt ↦ at_front events more i e h lt
        | inr ge ↦ absurd (never_open (may_be e (among_back events more i e h ge)))
      ]

  first_there : At all 0 (event.Place first.place [])
  first_there = at_append events more 0 (event.Place first.place []) first.there

  abbrev end : TurnPosition
  end = after_lines turns idle unheard

  abbrev long : List Turn
  long = turns ++ line_of idle unheard ∷ []

  at_end : IsTurnPosition long end
  at_end = position_last turns (line_of idle unheard) end (is_last start turns events idle unheard [])

  some_events : 0 < length events
  some_events = at_within events 0 (event.Place first.place []) first.there

  -- no Clock is above the rules that are left
  clocks : (i : ℕ) (r : Rules) → At all i (event.Clock r) → NotAbove r left.rules
  clocks i r there =
      let c = clock_there all left.rules is_left.clock in
      let c_front = in_front c.0 (event.Clock left.rules) c.1 (λ x. x) in
      let front = in_front i (event.Clock r) there (λ x. x) in
      subst (NotAbove r) (sym is_left.rules_are) (clocks_below start long events legal told end at_end refl c.0 (subst (λ x. At events c.0 (event.Clock x)) is_left.rules_are c_front) i r (omega (arith, high, at_within events i (event.Clock r) front)) front)

  placed : (i : ℕ) × (done : List (ℕ × ℕ)) × At events i (event.Place left.place done)
  placed = let p = place_there all left.place is_left.place in (p.0, p.1, in_front p.0 (event.Place left.place p.1) p.2 (λ x. x))

  rf_is : (left.place).rf ≡ (first.place).rf
  rf_is = (place_fine events legal first.place first.there placed.0 left.place placed.1 placed.2).rf

  count_is : length (left.place).shards ≡ length (first.place).shards
  count_is = (place_fine events legal first.place first.there placed.0 left.place placed.1 placed.2).count

  seed_is : left.seed ≡ one.seed
  seed_is = is_left.seed_is ∙ one.everywhere end at_end refl 0 (omega (arith, high, some_events))

  spaces_grow : Grows (start_rules start).spaces (left.rules).spaces
  spaces_grow = subst (λ (r : Rules). Grows (start_rules start).spaces r.spaces) (sym is_left.rules_are) (after_grows (start_rules start) (inner_turns turns))

  -- what is secured at the end is left
  is_kept : (p : Point) → ¬ HasExpired left.rules p → (given : List (Point × ℕ)) → KeptByOpening opening first.place given
      → IsSecured (first.place).rf given all (length all) (shard_of p.id one.seed (length (first.place).shards)) p → IsLeft next left.place (shard_of p.id left.seed (length (left.place).shards)) p
  is_kept p alive given kept secured =
      let s = shard_of p.id one.seed (length (first.place).shards) in
      let limits = (first.lawful).limits in
      let some : 0 < length (first.place).shards = omega (arith, limits.some_shards) in
      let below : s < length (left.place).shards = omega (arith, mod_below (murmur3 p.id one.seed) (length (first.place).shards) some, count_is) in
      let shard = at_some (left.place).shards s below in
      let live : IsLiveUpTo all (length all) p = λ j r lt there expired. alive (expired_later r left.rules p (clocks j r there) expired) in
      let whole : take (length all) all ≡ all = take_whole all in
      let same : s ≡ shard_of p.id left.seed (length (left.place).shards) = ap (λ seed. shard_of p.id seed (length (first.place).shards)) (sym seed_is) ∙ ap (λ n. shard_of p.id left.seed n) (sym count_is) in
      subst (λ n. IsLeft next left.place n p) same (
        shard.0,
        shard.1,
        λ members m.
            let found = (keeps_points all whole_legal first.place [] first_there opening agrees given kept).stands (length all) left.place (omega arith) (ap last_place whole ∙ is_left.place) s shard.0 shard.1 p live secured members
            (subst (λ n. IsMajority n (holders shard.0) members) rf_is m) in
            let c : Covers (held opening all found.0 s) p = subst (λ es. Covers (held opening es found.0 s) p) whole found.2 in
            let higher : Point = record p { v = c.value } in
            (found.0, found.1, covers_lower (next found.0 s) p c.value c.at_least (again.all_there found.0 s higher c.stands (λ expired. alive (record { space = expired.space; stands = expired.stands; ended = expired.ended })))),
      )

  -- what was acknowledged in the front was so in the whole
  acked_on : (s : ℕ) (p : Point) → IsAckedBefore (first.place).rf events (length events) s p → IsAckedBefore (first.place).rf all (length all) s p
  acked_on s p h = record {
    position = h.position;
    send = h.send;
    version = h.version;
    nodes = h.nodes;
    early = omega (arith, h.early, length-append events more);
    acked = at_append events more h.position (event.Ack h.send h.nodes) h.acked;
    sent = at_append events more h.send (event.Send h.version s p) h.sent;
    enough = h.enough;
  }

  -- a write of this run
  of_turn : (t : InnerTurn) → IsIn (inner_turns turns) t → (nodes : List ℕ) → t.answer ≡ answer.Acks nodes → IsCarried (Some left) next t nodes
  of_turn t h nodes is =
      let q = turn_in turns t h in
      let in_run = position_stays turns (line_of idle unheard) q.0 q.1 in
      let answered : (q.0).turn.answer ≡ answer.Acks nodes = ap (λ (u : InnerTurn). u.answer) q.2 ∙ is in
      let ack = (told.tells).writes.acked q.0 in_run nodes answered in
      let send = ack.sent in
      let sent = sent_by_turn past start long events legal opening agreed stands_so told first one ack.send send.version send.s send.point q.0 send.there send.own in_run in
      let earlier : length (q.0).lines < length turns = omega (arith, ap length (q.1).in_run, length-append (q.0).lines ((q.0).line ∷ (q.1).after)) in
      let rest = lines_upto long q.0 end in_run at_end (omega arith) in
      let of_end : point_of (rules_at start end).spaces (q.0).turn.act ≡ Some send.point = point_grows (rules_at start q.0).spaces (rules_at start end).spaces (lines_grow start q.0 end rest.0 rest.1) (q.0).turn.act send.point sent.of_point in
      let of_left : point_of (left.rules).spaces (q.0).turn.act ≡ Some send.point = subst (λ (r : Rules). point_of r.spaces (q.0).turn.act ≡ Some send.point) (sym is_left.rules_are) of_end in
      record {
        state = left;
        found = refl;
        point = send.point;
        of_act = ap (λ (u : InnerTurn). point_of (left.rules).spaces u.act) (sym q.2) ∙ of_left;
        left = λ enough alive.
            is_kept send.point alive [] (λ x none. absurd none)
            (inr (acked_on (shard_of (send.point).id one.seed (length (first.place).shards)) send.point (acked_by_turn past start long events legal opening agreed stands_so told first one end at_end q.0 in_run (inl earlier) nodes answered (subst (λ n. majority n ≤ length nodes) rf_is enough) send.point of_end (length events) (omega (arith, low)))));
      }

  -- a write of an earlier run
  of_past : (t : InnerTurn) → IsIn (earlier_turns past) t → (nodes : List ℕ) → t.answer ≡ answer.Acks nodes → IsCarried (Some left) next t nodes
  of_past t h nodes is =
      let c = stands_so.acked t h nodes is in
      let state = c.state in
      let opened = told.opened state c.found in
      let place : first.place ≡ state.place = same_place first.place state.place [] [] (at_same events 0 (event.Place first.place []) (event.Place state.place []) first.there opened.placed) in
      let grown : Grows (state.rules).spaces (left.rules).spaces = subst (λ o. Grows (start_rules o).spaces (left.rules).spaces) c.found spaces_grow in
      record {
        state = left;
        found = refl;
        point = c.point;
        of_act = point_grows (state.rules).spaces (left.rules).spaces grown t.act c.point c.of_act;
        left = λ enough alive.
            let kept = c.left (subst (λ (x : Placement). majority x.rf ≤ length nodes) place (subst (λ n. majority n ≤ length nodes) rf_is enough)) (λ expired. alive (expired_later state.rules left.rules c.point (clocks 1 state.rules (at_append events more 1 (event.Clock state.rules) opened.clock)) expired)) in
            let s = shard_of (c.point).id one.seed (length (first.place).shards) in
            let opens : IsLeft opening first.place s c.point =
            subst (λ (x : Placement). IsLeft opening x (shard_of (c.point).id one.seed (length x.shards)) c.point) (sym place) (subst (λ n. IsLeft opening state.place (shard_of (c.point).id n (length (state.place).shards)) c.point) (sym (one.found state c.found)) kept) in
            is_kept c.point alive ((c.point, s) ∷ []) (λ x m. elim m as (λ _. IsLeft opening first.place x.1 x.0) [ inl e ↦ subst (λ (y : Point × ℕ). IsLeft opening first.place y.1 y.0) e opens | inr none ↦ absurd none ]) (inl (inl refl));
      }

  abbrev longer : List Record
  longer = past ++ record { start = start; turns = turns; unanswered = unanswered } ∷ []

  -- a turn of the run, and none of its last line
  of_run : (q : TurnPosition) → IsTurnPosition long q → (p : Point) → point_of (rules_at start q).spaces q.turn.act ≡ Some p → IsTurnPosition turns q
  of_run q at p e =
      elim (at_push (λ x. IsTurnPosition turns x ⊎ IsLastTurnPosition turns (line_of idle unheard) x) turns (line_of idle unheard) (λ x k. inl k) (λ x k. inr k) q at) as (λ _. IsTurnPosition turns q) [
        | inl old ↦ old
        | inr last ↦ absurd (let same = is_own start turns events idle unheard [] q last in let bad : None ≡ Some p = sym (ap (λ (x : TurnPosition). point_of (rules_at start q).spaces x.turn.act) same) ∙ e in cc)
      ]

  by_told : (i version s : ℕ) (p : Point) → At events i (event.Send version s p) → WasSentEarlier longer (Some left) p
  by_told i version s p there =
      let late = late_send events legal i version s p there in
      let made = (told.tells).order.made i (event.Send version s p) (opening_low start i late) late there tt in
      let q = told.makers i in
      let sent = sent_by_turn past start long events legal opening agreed stands_so told first one i version s p q there refl made.0 in
      let at = of_run q made.0 p sent.of_point in
      let rest = lines_upto long q end made.0 at_end (omega (arith, ap length at.in_run, length-append q.lines (q.line ∷ at.after))) in
      let of_end = point_grows (rules_at start q).spaces (rules_at start end).spaces (lines_grow start q end rest.0 rest.1) q.turn.act p sent.of_point in
      let of_left : point_of (left.rules).spaces q.turn.act ≡ Some p = subst (λ (r : Rules). point_of r.spaces q.turn.act ≡ Some p) (sym is_left.rules_are) of_end in
      let among : IsIn (inner_turns turns) q.turn = flat_map-IsIn (λ (line : Turn). joined (lists_of line)) turns q.line q.turn (subst (λ ts. IsIn ts q.line) (sym at.in_run) (in_cut q.lines q.line at.after)) (in_its_line q at.stands) in
      record { state = left; found = refl; among = sent_turn past start turns unanswered (left.rules).spaces q.turn p (new_turn past start turns unanswered q.turn among) (sent_by (left.rules).spaces q.turn p sent.was of_left) }

  -- the Send of an open request is of one of its writes
  by_open : (version s : ℕ) (p : Point) → MayBeOpen unanswered left.rules (event.Send version s p) → WasSentEarlier longer (Some left) p
  by_open version s p h = record {
    state = left;
    found = refl;
    among = IsIn-append_right (filter_map (sent_point (left.rules).spaces) (earlier_turns longer)) (filter_map (point_of (left.rules).spaces) (flat_map (λ (run : Record). acts_of run.unanswered) longer)) p
        (filter_map-IsIn (point_of (left.rules).spaces) (flat_map (λ (run : Record). acts_of run.unanswered) longer) h.0 p
        (flat_map-IsIn (λ (run : Record). acts_of run.unanswered) longer (record { start = start; turns = turns; unanswered = unanswered }) h.0 (in_cut past (record { start = start; turns = turns; unanswered = unanswered }) []) h.1) h.2);
  }

  by_send : (i version s : ℕ) (p : Point) → At all i (event.Send version s p) → WasSentEarlier longer (Some left) p
  by_send i version s p there =
      elim (cases_lt i (length events)) as (λ _. WasSentEarlier longer (Some left) p) [
        | inl lt ↦ by_told i version s p (at_front events more i (event.Send version s p) there lt)
        | inr ge ↦ by_open version s p (may_be (event.Send version s p) (among_back events more i (event.Send version s p) there ge))
      ]

  of_opening : (n s : ℕ) (p : Point) → IsIn (opening n s) p → WasSentEarlier longer (Some left) p
  of_opening n s p h =
      let was = stands_so.sent n s p h in
      let state = was.state in
      let grown : Grows (state.rules).spaces (left.rules).spaces = subst (λ o. Grows (start_rules o).spaces (left.rules).spaces) was.found spaces_grow in
      record { state = left; found = refl; among = sent_old past start turns unanswered (state.rules).spaces (left.rules).spaces grown p was.among }

  of_origin : (n s : ℕ) (p : Point) → IsIn (replica n s all).sure p ⊎ IsIn (replica n s all).doubt p → WasSentEarlier longer (Some left) p
  of_origin n s p h =
      let whole : take (length all) all ≡ all = take_whole all in
      let comes = origin all whole_legal opening agrees s (length all) (omega arith) (length all) n p (omega arith) (subst (λ es. IsIn (replica n s es).sure p ⊎ IsIn (replica n s es).doubt p) (sym whole) h) in
      elim comes as (λ _. WasSentEarlier longer (Some left) p) [
        | inl send ↦ by_send send.0 send.1 s p send.3
        | inr opened ↦ of_opening opened.0 s p opened.1
      ]

  -- a point that some replica has was sent
  was_sent_by : (n s : ℕ) (p : Point) → IsIn (replica n s all).sure p ⊎ (IsIn (replica n s all).doubt p ⊎ IsIn (opening n s) p) → WasSentEarlier longer (Some left) p
  was_sent_by n s p (inl sure) = of_origin n s p (inl sure)
  was_sent_by n s p (inr (inl doubt)) = of_origin n s p (inr doubt)
  was_sent_by n s p (inr (inr opened)) = of_opening n s p opened

  leaves : OpeningStands longer (Some left) next
  leaves = record {
    acked = λ t h nodes is. elim (turn_cases past start turns unanswered t h) as (λ _. IsCarried (Some left) next t nodes) [ inl old ↦ of_past t old nodes is | inr new ↦ of_turn t new nodes is ];
    sent = λ n s p h. was_sent_by n s p (again.nothing_else n s p h);
  }

pub stands_again : (past : List Record) (start : Option MetaState) (turns : List Turn) (unanswered : Option Request) (events more : List Event) (opening : Opening) (left : MetaState) (next : Opening)
    → Legal true (events ++ more) → AgreesWith (events ++ more) opening → OpeningStands past start opening → ToldBy start turns events → ((e : Event) → IsIn more e → MayBeOpen unanswered left.rules e)
    → IsLeftState start turns (events ++ more) left → HoldsAgain (events ++ more) opening left next
    → OpeningStands (past ++ record { start = start; turns = turns; unanswered = unanswered } ∷ []) (Some left) next
stands_again past start turns unanswered events more opening left next legal agrees stands_so told may_be is_left again =
    let plain = plain_told start turns events idle unheard [] (idle_line start turns events) in
    let same : events ++ [] ≡ events = append-nil events in
    let whole : (events ++ []) ++ more ≡ events ++ more = ap (λ es. es ++ more) same in
    let told_on = line_told start turns events (line_of idle unheard) [] told plain in
    let last = is_last start turns events idle unheard [] in
    let low : (told_on.spans).from (after_lines turns idle unheard) ≡ length (events ++ []) =
    line_told_from start turns events (line_of idle unheard) [] told plain (after_lines turns idle unheard) last ∙ plain_told_from start turns events idle unheard [] (idle_line start turns events) ∙ ap length (sym same) in
    let high : (told_on.spans).to (after_lines turns idle unheard) ≡ length (events ++ []) =
    line_told_to start turns events (line_of idle unheard) [] told plain (after_lines turns idle unheard) last ∙ plain_told_to start turns events idle unheard [] (idle_line start turns events) in
    let legal_on = subst (Legal true) (sym whole) legal in
    let legal_told = legal_front (events ++ []) more legal_on in
    let agrees_on = subst (λ es. AgreesWith es opening) (sym whole) agrees in
    let left_on = subst (λ es. IsLeftState start turns es left) (sym whole) is_left in
    let placed = place_there ((events ++ []) ++ more) left.place left_on.place in
    let there = first_of_front (events ++ []) more left.rules unanswered may_be placed.0 left.place placed.1 placed.2 in
    let first = first_event (events ++ []) legal_told placed.0 (event.Place left.place placed.1) there in
    leaves past start turns unanswered (events ++ []) more opening left next legal_told legal_on (agrees_front (events ++ []) more opening agrees_on) agrees_on stands_so told_on low high may_be left_on (subst (λ es. HoldsAgain es opening left next) (sym whole) again) first
    (one_seed start (turns ++ line_of idle unheard ∷ []) (events ++ []) legal_told told_on first)
  where
    first_of_front : (xs ys : List Event) (rules : Rules) (open_ : Option Request) → ((e : Event) → IsIn ys e → MayBeOpen open_ rules e) → (i : ℕ) (p : Placement) (done : List (ℕ × ℕ)) → At (xs ++ ys) i (event.Place p done) → At xs i (event.Place p done)
    first_of_front xs ys rules open_ may i p done h =
        elim (cases_lt i (length xs)) as (λ _. At xs i (event.Place p done)) [
          | inl lt ↦ at_front xs ys i (event.Place p done) h lt
          | inr ge ↦ absurd (may (event.Place p done) (among_back xs ys i (event.Place p done) h ge))
        ]
