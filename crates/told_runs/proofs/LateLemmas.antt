-- The run with a late message is served line by line.
use Rattle.std.proofs.Common.{◌≡◌, ◌≤◌, ◌+◌, ◌*◌, ℕ, true, false, List, [], ◌∷◌, ◌++◌, take, length, refl, sym, ap, ◌∙◌, subst, inl, inr, arith, Bool, append-nil}
use Rattle.std.specs.Prelude.{◌⊎◌, Some, None, IsTrue, if◌then◌else◌, nat_lt}
use Rattle.m3_model.specs.Levels.{needed_write}
use Rattle.m3_model.specs.Members.{IsIn}
use Rattle.m3_model.specs.declared.act.Act.{Act}
use Rattle.m3_model.specs.declared.act.Act.TheVariants as act
use Rattle.m3_model.specs.declared.act.WriteLevel.TheVariants as taking
use Rattle.m3_model.specs.declared.answer.Answer.{Answer}
use Rattle.m3_model.specs.declared.answer.Answer.TheVariants as answer
use Rattle.m3_model.specs.declared.limits.TheConstants.{MOST_REQUEST_EVENTS}
use Rattle.m3_model.specs.declared.placement.Instance.{Instance}
use Rattle.m3_model.specs.declared.reason.Reason.{Reason}
use Rattle.m3_model.specs.declared.reason.Reason.TheVariants as reason
use Rattle.m3_model.specs.declared.turn.Turn.{Turn}
use Rattle.placement_core.specs.Lawful.{IsLawful}
use Rattle.cluster_core.specs.Earlier.{last_place}
use Rattle.cluster_core.specs.Legal.{Legal}
use Rattle.cluster_core.specs.Lists.{At}
use Rattle.cluster_core.specs.declared.event.Asked.TheVariants as asked
use Rattle.cluster_core.specs.declared.event.Event.{Event}
use Rattle.cluster_core.specs.declared.event.Event.TheVariants as event
use Rattle.cluster_core.specs.declared.event.StepCall.TheVariants as call
use Rattle.cluster_core.specs.declared.event.StepReply.TheVariants as reply
use Rattle.cluster_core.proofs.ListLemmas.{at_append}
use Rattle.cluster_core.proofs.UntoldLemmas.{legal_untold}
use Rattle.transcripts.specs.Caused.{acts_in}
use Rattle.transcripts.specs.Deliveries.{IsLateMessage, IsSamePosition, LateMessage}
use Rattle.transcripts.specs.Placements.{IsCounted, has_replica}
use Rattle.transcripts.specs.Record.{IsAfter, IsLastTurnPosition, TurnPosition, inner_turns, line_of, lists_of}
use Rattle.told_by.specs.Hears.{InStretch, IsHeard}
use Rattle.told_by.specs.Lines.{MayChange, PlainLine, position_after}
use Rattle.told_by.specs.Sample.{begun, events as short_events, name, of_init, of_read, of_space, of_write, place, placed, point, put, spaced, written}
use Rattle.told_by.specs.Spans.{Spans}
use Rattle.told_by.specs.Told.{TellsLine}
use Rattle.told_by.proofs.KindLemmas.{plain_told, plain_told_from, plain_told_to, write_told}
use Rattle.told_by.proofs.LeaveLemmas.{legal_front}
use Rattle.told_by.proofs.LegalSampleLemmas.{lawful_place, sample_legal}
use Rattle.told_by.proofs.OneLemmas.{is_own}
use Rattle.told_by.proofs.SampleLemmas.{ask_or_step, each_at, init_line, makes_each, restarts_none, shard_zero, space_line}
use Rattle.told_causes.proofs.KnownLemmas.{never_refused, one_place}
use Rattle.told_causes.specs.Standing.{IsHaltAct}
use Rattle.told_runs.specs.Answers.{Delivers, HearsOf, IsAnswered}
use Rattle.told_runs.specs.Bounds.{writes_taken}
use Rattle.told_runs.specs.LateSample.{DeliveryIsKnown, LateIsServed, came, delivering, events, events_to_space, events_to_write, fated, lines_to_fates, lines_to_write, message, missed, of_delivery, turns}
use Rattle.told_runs.specs.Lines.{AreNextAnswers, IsToldAndServed, ServesLine, delivered_on}
use Rattle.told_runs.proofs.CausedLemmas.{known_run}
use Rattle.told_runs.proofs.LineLemmas.{served_first, served_line}
use Rattle.told_runs.proofs.SampleLemmas.{began_so, initial, never_ends}

abbrev one_line : List Turn
one_line = line_of begun placed ∷ []

abbrev two_lines : List Turn
two_lines = line_of begun placed ∷ line_of spaced answer.Done ∷ []

none : ⊥ → ⊥
none h = h

abbrev node : Instance
node = record { name = name; group = name; listed = true; drained = false }

-- ---- what the lines add

no_more : (start : List Turn) (i : ℕ) (e : Event) → At [] i e → MayChange (position_after start fated answer.Done) (events_to_space ++ take i []) e
no_more start i e there = cc

fates_line : TellsLine None two_lines events_to_space (line_of fated answer.Done) []
fates_line = plain_told None two_lines events_to_space fated answer.Done [] (record {
  makes = record { makes = makes_each None two_lines events_to_space fated answer.Done [] tt; restarts = restarts_none events_to_space fated answer.Done two_lines [] tt; hears = tt };
  plain = record { no_acks = λ nodes e. cc; not_unmet = none; no_found = refl; no_rules = refl; no_seed = refl };
  opened = inl (omega arith);
  adds = λ i e there. no_more two_lines i e there;
  prints = record { is_place = λ p e. absurd (let bad : None ≡ Some p = e in cc); not_earlier = λ p k was is f e. absurd (let bad : None ≡ Some is = e in cc) };
  ends = λ available boot x m. absurd (let bad : answer.Done ≡ answer.Available available boot.place boot.version = boot.answered in cc);
})

abbrev Heard : ℕ × Reason → Type 0
Heard r = IsHeard None (InStretch events_to_write 6 7) (position_after lines_to_fates written missed) place 0 r.0 r.1

counted_so : (r : ℕ × Reason) → IsIn ((0, reason.Cut) ∷ []) r → IsCounted place 0 r.0
counted_so r (inl same) = subst (λ (x : ℕ × Reason). IsCounted place 0 x.0) same (inl refl)
counted_so r (inr nothing) = absurd nothing

cut_so : (r : ℕ × Reason) → IsIn ((0, reason.Cut) ∷ []) r → Heard r
cut_so r (inl same) = subst Heard same (refl, record { instance_ = node; stands = refl; holds = refl })
cut_so r (inr nothing) = absurd nothing

write_line : TellsLine None lines_to_fates events_to_space (line_of written missed) (event.Send 1 0 point ∷ [])
write_line = write_told None lines_to_fates events_to_space written missed (event.Send 1 0 point ∷ []) (record {
  makes = record {
    makes = makes_each None lines_to_fates events_to_space written missed (event.Send 1 0 point ∷ []) (λ past. tt, tt);
    restarts = restarts_none events_to_space written missed lines_to_fates (event.Send 1 0 point ∷ []) (none, tt);
    hears = record {
      call = record { id = Some name; version = None; needed = needed_write taking.Majority };
      of_call = refl;
      place = place;
      may_use = (inner_turns lines_to_fates ++ [], record { others = []; some_of = tt; are = refl }, refl);
      asked = sym (shard_zero name);
      needed_is = refl;
      fewer = omega arith;
      hears = record {
        others = refl;
        counted = counted_so;
        by_name = (λ y nothing. absurd nothing, tt);
        heard = cut_so;
        took = λ some. absurd (omega (arith, some));
        served = λ n m left. absurd (elim m as (λ _. ⊥) [ inl same ↦ left (subst (λ k. IsIn (0 ∷ []) k) same (inl refl)) | inr nothing ↦ nothing ]);
      };
      first = λ lower lt asked. absurd (omega (arith, lt));
    };
  };
  version = 1;
  s = 0;
  point = point;
  sends = record {
    call = record { id = Some name; version = None; needed = needed_write taking.Majority };
    of_act = refl;
    of_point = refl;
    sent = refl;
    place = place;
    uses = record { may_use = (inner_turns lines_to_fates ++ [], record { others = []; some_of = tt; are = refl }, refl); place_at = 0; done = []; there = refl };
    version_is = refl;
    shard_is = sym (shard_zero name);
  };
  no_found = refl;
  no_rules = refl;
  no_place = refl;
  opened = omega arith;
  puts = [];
  steps = ask_or_step [] tt;
  adds = refl;
})

late : IsLateMessage None delivering message
late = record {
  made = inl (record { after = []; in_run = refl; stands = record { front = []; later = []; back = []; in_line = refl; others = refl; client_is = refl } });
  of_act = refl;
  was_sent = refl;
  call = record { id = Some name; version = None; needed = needed_write taking.Majority };
  of_call = refl;
  may_use = (inner_turns lines_to_fates ++ [], record { others = []; some_of = tt; are = refl }, refl);
  member = subst (λ s. IsTrue (has_replica (Some place) s 0)) (sym (shard_zero name)) refl;
  late = record { instance_ = node; stands = refl; holds = refl };
  not_yet = λ line m. absurd m;
}

heard : HearsOf None (InStretch events 7 9) delivering (message ∷ []) came
heard = ((λ y nothing. absurd nothing, tt), (record { message = late; node_is = refl; shard_is = sym (shard_zero name); heard = (put, (refl, refl, refl, refl, refl), (8, (omega arith, omega arith, refl))) }, tt))

delivery : PlainLine None lines_to_write events_to_write act.Deliver came of_delivery
delivery = record {
  makes = record {
    makes = makes_each None lines_to_write events_to_write act.Deliver came of_delivery
        (λ past. record { message = message; is_late = late; node_is = refl; shard_is = sym (shard_zero name); client_is = refl; number_is = refl; rules_are = refl; version_is = refl; point_is = refl }, (λ past. tt, tt));
    restarts = restarts_none events_to_write act.Deliver came lines_to_write of_delivery (none, (none, tt));
    hears = record { messages = message ∷ []; in_order = heard.0; each = heard.1 };
  };
  plain = record { no_acks = λ nodes e. cc; not_unmet = none; no_found = refl; no_rules = refl; no_seed = refl };
  opened = inl (omega arith);
  adds = λ i e there. let here : 0 + i ≡ i = omega arith in subst (λ k. MayChange delivering (events_to_write ++ take k of_delivery) e) here (each_at (λ j x. MayChange delivering (events_to_write ++ take j of_delivery) x) 0 of_delivery (tt, (tt, tt)) i e there);
  prints = record { is_place = λ p e. absurd (let bad : None ≡ Some p = e in cc); not_earlier = λ p k was is f e. absurd (let bad : None ≡ Some is = e in cc) };
  ends = λ available boot x m. absurd (let bad : came ≡ answer.Available available boot.place boot.version = boot.answered in cc);
}

delivery_line : TellsLine None lines_to_write events_to_write (line_of act.Deliver came) of_delivery
delivery_line = plain_told None lines_to_write events_to_write act.Deliver came of_delivery delivery

-- ---- each line is served

-- what holds of a line's one turn holds of each
only : (P : TurnPosition → Type 0) (lines : List Turn) (a : Act) (b : Answer) → P (position_after lines a b) → (q : TurnPosition) → IsLastTurnPosition lines (line_of a b) q → P q
only P lines a b holds q h = subst P (sym (is_own None lines [] a b [] q h)) holds

alone : (lines : List Turn) (a : Act) (b : Answer) → IsAfter (position_after lines a b) (inner_turns lines)
alone lines a b = record { others = []; some_of = tt; are = sym (append-nil (inner_turns lines)) }

abbrev nothing_delivered : TurnPosition → List LateMessage
nothing_delivered p = []

-- a line that delivers nothing
quiet : (was : TurnPosition → List LateMessage) (lines : List Turn) (a : Act) (b : Answer) (all : List Event) (spans : Spans) → IsAnswered [] None (spans.to (position_after lines a b)) (position_after lines a b) → Delivers None all spans (position_after lines a b) []
    → AreNextAnswers [] (λ p. []) was None lines all (line_of a b) spans
quiet was lines a b all spans answered delivers = record {
  each = only (λ q. IsAnswered [] None (spans.to q) q) lines a b answered;
  delivers = only (λ q. Delivers None all spans q []) lines a b delivers;
  not_again = λ p q at k x y m. absurd m;
  once = λ p q at k x y m. absurd m;
  whole = tt;
  untaken_are = λ f m. absurd m;
  different = tt;
}

module _ {tells : Bool} (now was : TurnPosition → List LateMessage) (lines : List Turn) (a : Act) (b : Answer) (before more : List Event) (adds : TellsLine None lines before (line_of a b) more) where
  serves : ((i : ℕ) (e : Event) → At (before ++ more) i e → At short_events i e) → last_place (before ++ more) ≡ Some place → AreNextAnswers [] now was None lines (before ++ more) (line_of a b) adds.spans
      → length (before ++ more) ≤ length before + (MOST_REQUEST_EVENTS * length (acts_in (line_of a b ∷ []))) * (writes_taken [] (lines ++ line_of a b ∷ []) + 1) → ServesLine tells [] now was [] None lines before (line_of a b) more adds
  serves short last answers bound = record {
    order = record {
      halts = only (λ q. IsHaltAct q.turn.act → lists_of (line_of a b) ≡ (q.turn ∷ []) ∷ []) lines a b (λ halts. refl);
      alone = λ single i p done added. last ∙ ap Some (one_place i p done (short i (event.Place p done) added.1));
      beside = λ many. absurd (many (record { act = a; answer = b }, refl));
      lawful = λ i p done added. subst IsLawful (one_place i p done (short i (event.Place p done) added.1)) lawful_place;
      ends = λ i n s r added. absurd (never_ends i n s r (short i (event.Step n s call.End r) added.1));
    };
    opens = λ is. record {
      fenced = λ i n s tenure fence points added unbegun. inl (began_so i n s tenure fence points (short i (event.Step n s (call.Begin tenure) (reply.Began fence points)) added.1));
      owned = λ i n s tenure added. absurd (never_refused i n s (call.Begin tenure) reason.NotOwned (short i (event.Step n s (call.Begin tenure) (reply.Refused reason.NotOwned)) added.1));
    };
    answers = answers;
    bound = λ is. bound;
  }

-- the front of the short run's list
in_front : (front rest : List Event) → front ++ rest ≡ short_events → (i : ℕ) (e : Event) → At front i e → At short_events i e
in_front front rest same i e there = subst (λ es. At es i e) same (at_append front rest i e there)

-- what turns delivered before, or now
either : (lines : List Turn) (was now : TurnPosition → List LateMessage) (p : TurnPosition) (m : LateMessage) → IsIn (delivered_on lines was now p) m → IsIn (was p) m ⊎ IsIn (now p) m
either lines was now p m = by (nat_lt (length p.lines) (length lines))
  where
    by : (old : Bool) → IsIn (if old then was p else now p) m → IsIn (was p) m ⊎ IsIn (now p) m
    by true h = inl h
    by false h = inr h

delivered_none : (lines : List Turn) (was : TurnPosition → List LateMessage) → ((p : TurnPosition) (m : LateMessage) → IsIn (was p) m → ⊥) → (p : TurnPosition) (m : LateMessage) → IsIn (delivered_on lines was nothing_delivered p) m → ⊥
delivered_none lines was before p m h = elim (either lines was nothing_delivered p m h) as (λ _. ⊥) [ inl old ↦ before p m old | inr new ↦ new ]

abbrev was_init : TurnPosition → List LateMessage
was_init = delivered_on [] nothing_delivered nothing_delivered

abbrev was_space : TurnPosition → List LateMessage
was_space = delivered_on one_line was_init nothing_delivered

abbrev was_fates : TurnPosition → List LateMessage
was_fates = delivered_on two_lines was_space nothing_delivered

abbrev was_write : TurnPosition → List LateMessage
was_write = delivered_on lines_to_fates was_fates nothing_delivered

none_before : (p : TurnPosition) (m : LateMessage) → IsIn (was_write p) m → ⊥
none_before = delivered_none lines_to_fates was_fates (delivered_none two_lines was_space (delivered_none one_line was_init (delivered_none [] nothing_delivered (λ p m h. h))))

module _ (tells : Bool) where
  served_init : IsToldAndServed tells [] was_init [] None one_line None of_init
  served_init =
      served_line [] None [] None None [] (line_of begun placed) of_init [] [] nothing_delivered nothing_delivered (served_first [] None) init_line
      (serves nothing_delivered nothing_delivered [] begun placed [] of_init init_line (in_front of_init ((of_space ++ of_write) ++ of_read) refl) refl
      (quiet nothing_delivered [] begun placed of_init init_line.spans (inr (inr ([], alone [] begun placed, (initial, refl)))) tt) (omega arith))

  served_space : IsToldAndServed tells [] was_space [] None two_lines None events_to_space
  served_space =
      served_line [] None one_line None None of_init (line_of spaced answer.Done) of_space [] [] nothing_delivered was_init served_init space_line
      (serves nothing_delivered was_init one_line spaced answer.Done of_init of_space space_line (in_front events_to_space (of_write ++ of_read) refl) refl
      (quiet was_init one_line spaced answer.Done events_to_space space_line.spans (inr (inr (inner_turns one_line, alone one_line spaced answer.Done, tt))) tt) (omega arith))

  served_fates : IsToldAndServed tells [] was_fates [] None lines_to_fates None events_to_space
  served_fates =
      served_line [] None two_lines None None events_to_space (line_of fated answer.Done) [] [] [] nothing_delivered was_space served_space fates_line
      (serves nothing_delivered was_space two_lines fated answer.Done events_to_space [] fates_line (in_front events_to_space (of_write ++ of_read) refl) refl
      (quiet was_space two_lines fated answer.Done events_to_space fates_line.spans (inr (inr (inner_turns two_lines, alone two_lines fated answer.Done, tt))) tt) (omega arith))

  served_write : IsToldAndServed tells [] was_write [] None lines_to_write None events_to_write
  served_write =
      served_line [] None lines_to_fates None None events_to_space (line_of written missed) (event.Send 1 0 point ∷ []) [] [] nothing_delivered was_fates served_fates write_line
      (serves nothing_delivered was_fates lines_to_fates written missed events_to_space (event.Send 1 0 point ∷ []) write_line
      (in_front events_to_write (event.Ask (asked.Step 0 0 put) ∷ event.Step 0 0 put reply.Done ∷ event.Ack 6 (0 ∷ []) ∷ of_read) refl) refl
      (quiet was_fates lines_to_fates written missed events_to_write write_line.spans (inr (inr (inner_turns lines_to_fates, alone lines_to_fates written missed, tt))) tt) (omega arith))

  abbrev delivers_it : TurnPosition → List LateMessage
  delivers_it p = message ∷ []

  delivers_so : Delivers None events delivery_line.spans delivering (message ∷ [])
  unfolding delivery_line
  delivers_so =
      subst (λ n. HearsOf None (InStretch events n (delivery_line.spans.to delivering)) delivering (message ∷ []) came) (sym (plain_told_from None lines_to_write events_to_write act.Deliver came of_delivery delivery))
      (subst (λ n. HearsOf None (InStretch events 7 n) delivering (message ∷ []) came) (sym (plain_told_to None lines_to_write events_to_write act.Deliver came of_delivery delivery)) heard)

  one_turn : (p q : TurnPosition) → IsLastTurnPosition lines_to_write (line_of act.Deliver came) p → IsLastTurnPosition lines_to_write (line_of act.Deliver came) q → IsSamePosition p q
  one_turn p q at there = only (λ x. IsSamePosition x q) lines_to_write act.Deliver came (only (λ y. IsSamePosition delivering y) lines_to_write act.Deliver came (refl, refl, refl) q there) p at

  served_delivery : IsToldAndServed tells [] (delivered_on lines_to_write was_write delivers_it) [] None turns None events
  served_delivery =
      served_line [] None lines_to_write None None events_to_write (line_of act.Deliver came) of_delivery [] [] delivers_it was_write served_write delivery_line
      (serves delivers_it was_write lines_to_write act.Deliver came events_to_write of_delivery delivery_line (in_front events (event.Ack 6 (0 ∷ []) ∷ of_read) refl) refl
      (record {
        each = only (λ q. IsAnswered [] None (delivery_line.spans.to q) q) lines_to_write act.Deliver came (inr (inr (inner_turns lines_to_write, alone lines_to_write act.Deliver came, tt)));
        delivers = only (λ q. Delivers None events delivery_line.spans q (message ∷ [])) lines_to_write act.Deliver came delivers_so;
        not_again = λ p q at k x y m n same. none_before q y n;
        once = λ p q at there x y m n same. one_turn p q at there;
        whole = tt;
        untaken_are = λ f m. absurd m;
        different = tt;
      })
      (omega arith))

  late_legal : Legal tells events
  late_legal = legal_untold tells events (legal_front events (event.Ack 6 (0 ∷ []) ∷ of_read) sample_legal)

pub late_served : (tells : Bool) → LateIsServed tells
late_served tells = (late_legal tells, delivered_on lines_to_write was_write (delivers_it tells), served_delivery tells)

pub delivery_known : (tells : Bool) → DeliveryIsKnown tells
delivery_known tells =
    let served = served_delivery tells in
    let known = known_run (record { past = []; present = record { start = None; turns = turns; unanswered = None } }) events (late_legal tells) served.0 [] (delivered_on lines_to_write was_write (delivers_it tells)) served.1 in
    (served.0, known.deliveries delivering (record { after = []; in_run = refl; stands = record { front = []; later = []; back = []; in_line = refl; others = refl; client_is = refl } }) refl refl)
