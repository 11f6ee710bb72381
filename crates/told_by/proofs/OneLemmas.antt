-- A line of one act: it is told where its events tell of its only turn.
use Rattle.told_by.specs.Makes.{EndsRestart, MayMake}
use Rattle.told_by.specs.Hears.{HearsBy, InStretch}
use Rattle.transcripts.specs.Record.{line_of}
use Rattle.std.proofs.Common.{◌≡◌, ℕ, zero, suc, ◌≤◌, ◌+◌, List, [], ◌∷◌, ◌++◌, take, length, refl, sym, ap, ◌∙◌, subst, inl, inr, arith, length-append, true}
use Rattle.std.specs.Prelude.{Option, Some}
use Rattle.std.proofs.lemmas.List.{take-append-le}
use Rattle.m3_model.specs.Members.{IsIn}
use Rattle.m3_model.specs.Reads.{Found, found_of}
use Rattle.transcripts.proofs.PositionLemmas.{only_position}
use Rattle.transcripts.specs.Placements.{printed}
use Rattle.transcripts.specs.Record.{TurnPosition, IsLastTurnPosition}
use Rattle.m3_model.specs.declared.act.Act.{Act}
use Rattle.m3_model.specs.declared.answer.Answer.{Answer}
use Rattle.m3_model.specs.declared.answer.Answer.TheVariants as answer
use Rattle.m3_model.specs.declared.placement.Placement.{Placement}
use Rattle.m3_model.specs.declared.point.Pick.{Pick}
use Rattle.m3_model.specs.declared.point.Point.{Point}
use Rattle.m3_model.specs.declared.point.Series.{Series}
use Rattle.m3_model.specs.declared.rules.MetaState.{MetaState}
use Rattle.m3_model.specs.declared.rules.Rules.{Rules}
use Rattle.m3_model.specs.declared.turn.Turn.{Turn}
use Rattle.m3_model.proofs.Lists.{take_whole}
use Rattle.cluster_core.specs.Lists.{At}
use Rattle.cluster_core.specs.declared.event.Event.{Event}
use Rattle.cluster_core.specs.declared.event.Event.TheVariants as event
use Rattle.cluster_core.specs.declared.event.StepCall.TheVariants as call
use Rattle.cluster_core.specs.declared.event.StepReply.{StepReply}
use Rattle.cluster_core.proofs.ListLemmas.{at_in, at_within}
use Rattle.told_by.specs.Clocks.{HasClock, IsClockOf, sets_rules}
use Rattle.told_by.specs.Lines.{PrintsPlace, position_after}
use Rattle.told_by.specs.Openings.{IsInitOf, sets_seed}
use Rattle.told_by.specs.Placements.{EndsPrinted, HasPlace, PrintsPeers}
use Rattle.told_by.specs.Reads.{IsStartAt, IsStartOf, IsTold}
use Rattle.told_by.specs.Spans.{From, IsAlone, IsEarlier, Spans}
use Rattle.told_by.specs.Told.{TellsLine}
use Rattle.told_by.specs.Writes.{HasAck, HasSend, IsSendAt, IsSendOf, IsUnmetWrite}
use Rattle.told_by.proofs.TurnLemmas.{at_cut}

-- what stands behind the front of a list stands in the rest
pub at_back : {X : Type 0} (xs ys : List X) (i : ℕ) (x : X) → At (xs ++ ys) i x → length xs ≤ i → (j : ℕ) × (i ≡ length xs + j) × At ys j x
at_back [] ys i x h le = (i, omega arith, h)
at_back (y ∷ xs) ys zero x h le = absurd (omega arith)
at_back (y ∷ xs) ys (suc i) x h le = let r = at_back xs ys i x h (omega arith) in (r.0, omega (arith, r.1), r.2)

pub back_at : {X : Type 0} (xs ys : List X) (j : ℕ) (x : X) → At ys j x → At (xs ++ ys) (length xs + j) x
back_at [] ys j x h = let same : 0 + j ≡ j = omega arith in subst (λ n. At ys n x) (sym same) h
back_at (y ∷ xs) ys j x h = let same : suc (length xs) + j ≡ suc (length xs + j) = omega arith in subst (λ n. At (y ∷ (xs ++ ys)) n x) (sym same) (back_at xs ys j x h)

pub among_back : {X : Type 0} (xs ys : List X) (i : ℕ) (x : X) → At (xs ++ ys) i x → length xs ≤ i → IsIn ys x
among_back xs ys i x h le = let r = at_back xs ys i x h le in at_in ys r.0 x r.2

module _ (start : Option MetaState) (turns : List Turn) (events : List Event) (a : Act) (b : Answer) (more : List Event) where
  abbrev pub own : TurnPosition
  own = position_after turns a b

  abbrev pub long : List Turn
  long = turns ++ line_of a b ∷ []

  abbrev pub all : List Event
  all = events ++ more

  abbrev pub spans : Spans
  spans = record { from = λ p. length events; to = λ p. length all }

  abbrev pub makers : ℕ → TurnPosition
  makers i = own

  -- the line's events tell of its turn
  pub record OneTold : Type 0 where
    pub begun : From (length events) 0 → (e : Event) → At all 0 e → IsInitOf start long all spans own
    pub inits : sets_seed a b ≡ true → IsInitOf start long all spans own
    pub acked : (nodes : List ℕ) → b ≡ answer.Acks nodes → HasAck (From (length events)) all makers own nodes
    pub sent : IsUnmetWrite a b → HasSend (From (length events)) all makers own
    pub each_send : (i version s : ℕ) (point : Point) → length events ≤ i → At all i (event.Send version s point) → IsSendOf start all own version s point
    pub each_ack : (i send : ℕ) (nodes : List ℕ) → length events ≤ i → At all i (event.Ack send nodes) → IsSendAt (From (length events)) all makers own send
    pub finds : (found : Found) → found_of b ≡ Some found → IsTold start (From (length events)) all makers own found
    pub each_start : (i version s : ℕ) (rules : Rules) (pick : Pick) (from to : ℕ) → length events ≤ i → At all i (event.FetchStart version s rules pick from to) → IsStartOf start all own version s rules pick from to
    pub each_done : (i began : ℕ) (nodes : List ℕ) (series : List Series) → length events ≤ i → At all i (event.FetchDone began nodes series) → IsStartAt (From (length events)) all makers own began
    pub prints : PrintsPlace turns all b
    pub each_end : (i : ℕ) (place : Placement) (done : List (ℕ × ℕ)) → length events ≤ i → 2 ≤ i → At all i (event.Place place done) → (d : ℕ × ℕ) → IsIn done d → PrintsPeers place (take i all) own d.0 d.1
    pub ends : EndsPrinted (From (length events)) all makers own
    pub set : sets_rules a b ≡ true → HasClock start (From (length events)) all makers own
    pub each_clock : (i : ℕ) (rules : Rules) → length events ≤ i → 2 ≤ i → At all i (event.Clock rules) → IsClockOf start long own rules
    pub makes : (i : ℕ) (e : Event) → length events ≤ i → 2 ≤ i → At all i e → MayMake start (take i all) own e
    pub restarts : (i n s : ℕ) (r : StepReply) → length events ≤ i → 2 ≤ i → At all i (event.Step n s call.Restart r) → EndsRestart (From (length events)) all makers own i n s
    pub hears : HearsBy start events (InStretch all (length events) (length all)) own a b

  pub is_last : IsLastTurnPosition turns (line_of a b) own
  is_last = record { lines_are = refl; line_is = refl; stands = record { front = []; later = []; back = []; in_line = refl; others = refl; client_is = refl } }

  pub is_own : (q : TurnPosition) → IsLastTurnPosition turns (line_of a b) q → q ≡ own
  is_own q h = let o = only_position turns a b q h in λ i. record { lines = o.lines_are i; line = h.line_is i; client = o.client_is i; earlier = o.earlier_is i; beside = o.beside_is i; turn = o.turn_is i }

  pub is_alone : IsAlone long own
  is_alone = (line_of a b, at_cut turns (line_of a b) [], refl)

  -- a fact of the line's turn is one of each of its turns
  pub each : (P : TurnPosition → Type 0) → P own → (q : TurnPosition) → IsLastTurnPosition turns (line_of a b) q → P q
  each P h q last = subst P (sym (is_own q last)) h

  not_earlier : (p q : TurnPosition) → p ≡ own → q ≡ own → IsEarlier p q → ⊥
  not_earlier p q ep eq (inl lt) = omega (arith, lt, ap (λ (x : TurnPosition). length x.lines) ep, ap (λ (x : TurnPosition). length x.lines) eq)
  not_earlier p q ep eq (inr same) = omega (arith, same.2, ap (λ (x : TurnPosition). length x.earlier) ep, ap (λ (x : TurnPosition). length x.earlier) eq)

  pub one_told : OneTold → TellsLine start turns events (line_of a b) more
  one_told t = record {
    spans = spans;
    makers = makers;
    tells = record {
      order = record {
        not_below = λ p h. omega arith;
        not_above = λ p h. omega arith;
        not_back = λ p h. omega (arith, length-append events more);
        order = λ p q hp hq e. absurd (not_earlier p q (is_own p hp) (is_own q hq) e);
        made = λ i e low past there kind. (is_last, (low, at_within all i e there));
      };
      init = record {
        begun = λ none e there. (own, is_last, t.begun none e there);
        inits = λ p h. each (λ q. sets_seed q.turn.act q.turn.answer ≡ true → IsInitOf start long all spans q) t.inits p h;
      };
      writes = record {
        acked = λ p h. each (λ q. (nodes : List ℕ) → q.turn.answer ≡ answer.Acks nodes → HasAck (From (length events)) all makers q nodes) t.acked p h;
        sent = λ p h. each (λ q. IsUnmetWrite q.turn.act q.turn.answer → HasSend (From (length events)) all makers q) t.sent p h;
        each_send = t.each_send;
        each_ack = t.each_ack;
      };
      reads = record {
        found = λ p h. each (λ q. (found : Found) → found_of q.turn.answer ≡ Some found → IsTold start (From (length events)) all makers q found) t.finds p h;
        each_start = t.each_start;
        each_done = t.each_done;
      };
      placements = record {
        is_place = λ p h. each (λ q. (place : Placement) → printed q.turn.answer ≡ Some place → HasPlace all (length all) place) (t.prints).is_place p h;
        not_earlier = λ p q hp hq e. absurd (not_earlier p q (is_own p hp) (is_own q hq) e);
        each_end = t.each_end;
        ends_printed = λ p h. each (EndsPrinted (From (length events)) all makers) t.ends p h;
      };
      clocks = record {
        set = λ p h. each (λ q. sets_rules q.turn.act q.turn.answer ≡ true → HasClock start (From (length events)) all makers q) t.set p h;
        each_clock = t.each_clock;
      };
      makes = t.makes;
      restarts = t.restarts;
      hears = λ p h. subst (λ es. HearsBy start es (InStretch all (length events) (length all)) p p.turn.act p.turn.answer) (sym (take-append-le (length events) events more (omega arith) ∙ take_whole events)) (each (λ q. HearsBy start events (InStretch all (length events) (length all)) q q.turn.act q.turn.answer) t.hears p h);
    };
    not_earlier = λ p q hp hq was is of_was of_is. (t.prints).not_earlier p hp was is of_was (ap (λ (x : TurnPosition). printed x.turn.answer) (sym (is_own q hq)) ∙ of_is);
  }

  pub one_told_from : (t : OneTold) → ((one_told t).spans).from own ≡ length events
  unfolding one_told
  one_told_from t = refl

  pub one_told_to : (t : OneTold) → ((one_told t).spans).to own ≡ length all
  unfolding one_told
  one_told_to t = refl
