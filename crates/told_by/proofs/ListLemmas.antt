-- A line whose lists are told is told.
use Rattle.std.proofs.Common.{take}
use Rattle.told_by.specs.Hears.{HearsBy, InStretch}
use Rattle.told_by.proofs.HearLemmas.{makes_by}
use Rattle.std.proofs.Common.{◌≡◌, ℕ, ◌<◌, ◌≤◌, ◌-◌, List, [], ◌∷◌, ◌++◌, length, refl, sym, ap, ◌∙◌, subst, inl, inr, arith, length-append}
use Rattle.std.specs.Prelude.{◌⊎◌, Option, Some}
use Rattle.m3_model.proofs.SplitLemmas.{not_empty}
use Rattle.transcripts.specs.Placements.{printed}
use Rattle.transcripts.specs.Record.{InnerTurn, TurnPosition, client_at, lists_by, lists_of, IsLastTurnPosition}
use Rattle.m3_model.specs.declared.placement.Placement.{Placement}
use Rattle.m3_model.specs.declared.rules.MetaState.{MetaState}
use Rattle.m3_model.specs.declared.turn.Reply.{Reply}
use Rattle.m3_model.specs.declared.turn.Reply.TheVariants as reply
use Rattle.m3_model.specs.declared.turn.Request.{Request}
use Rattle.m3_model.specs.declared.turn.Request.TheVariants as request
use Rattle.m3_model.specs.declared.turn.Turn.{Turn}
use Rattle.cluster_core.specs.Lists.{At}
use Rattle.cluster_core.specs.declared.event.Event.{Event}
use Rattle.cluster_core.specs.declared.event.Event.TheVariants as event
use Rattle.cluster_core.specs.declared.event.StepCall.TheVariants as call
use Rattle.cluster_core.proofs.ListLemmas.{at_within}
use Rattle.told_by.specs.Lists.{IsListPosition, MadeBy, TellsLists}
use Rattle.told_by.specs.Openings.{IsInitOf}
use Rattle.told_by.specs.Spans.{From, IsEarlier, IsOfTurn, Spans}
use Rattle.told_by.specs.Told.{Tells, TellsLine}
use Rattle.told_by.proofs.LineLemmas.{Lifts, lift_ack, lift_begun, lift_clock, lift_ended, lift_init, lift_restart, lift_send, lift_sent, lift_told}

only_list : {X : Type 0} (one : X) (front : List X) (list : X) (back : List X) → one ∷ [] ≡ front ++ list ∷ back → front ≡ []
only_list one [] list back e = refl
only_list one (w ∷ front) list back e = let rest : [] ≡ front ++ list ∷ back = cc in absurd (not_empty front list back rest)

-- a turn's list can be told from its client
list_by : (rq : Request) (rp : Reply) (front : List (List InnerTurn)) (list : List InnerTurn) (back : List (List InnerTurn)) → lists_by rq rp ≡ front ++ list ∷ back → client_at rq (length front) - 1 ≡ length front
list_by (request.One a) (reply.One b) front list back e = let one : InnerTurn = record { act = a; answer = b } in let only = only_list (one ∷ []) front list back e in sym (ap length only)
list_by (request.One a) (reply.Par clients workers) front list back e = absurd (not_empty front list back e)
list_by (request.Par clients workers) (reply.One b) front list back e = absurd (not_empty front list back e)
list_by (request.Par clients workers) (reply.Par for_clients for_workers) front list back e = omega arith

module _ (start : Option MetaState) (turns : List Turn) (events : List Event) (line : Turn) (more : List Event) (lists : TellsLists start turns events line more) where
  abbrev all : List Event
  all = events ++ more

  abbrev long : List Turn
  long = turns ++ line ∷ []

  abbrev spans : Spans
  spans = record { from = λ p. (lists.spans (p.client - 1)).from p; to = λ p. (lists.spans (p.client - 1)).to p }

  abbrev makers : ℕ → TurnPosition
  makers i = lists.makers (lists.list_of i) i

  -- the list of a turn
  record InList (p : TurnPosition) : Type 0 where
    list : ℕ
    low : list < length (lists_of line)
    here : IsListPosition turns line list p
    number : p.client - 1 ≡ list

  number_of : (list : ℕ) (p : TurnPosition) → IsListPosition turns line list p → p.client - 1 ≡ list
  number_of list p h = let at = (h.position).stands in ap (λ n. n - 1) (at.client_is ∙ ap (λ (l : Turn). client_at l.request (length at.front)) (h.position).line_is) ∙ list_by line.request line.reply at.front (p.earlier ++ p.turn ∷ at.later) at.back (ap lists_of (sym (h.position).line_is) ∙ at.in_line) ∙ h.list_is

  in_list : (p : TurnPosition) → IsLastTurnPosition turns line p → InList p
  in_list p h = record {
    list = length (h.stands).front;
    low = omega (arith, ap (λ (l : Turn). length (lists_of l)) h.line_is, ap length (h.stands).in_line, length-append (h.stands).front ((p.earlier ++ p.turn ∷ (h.stands).later) ∷ (h.stands).back));
    here = record { position = h; list_is = refl };
    number = number_of (length (h.stands).front) p (record { position = h; list_is = refl });
  }

  told_of : (p : TurnPosition) → (l : InList p) → Tells start long (IsListPosition turns line l.list) (length events) (MadeBy events lists.list_of l.list) all (lists.spans l.list) (lists.makers l.list)
  told_of p l = lists.each l.list l.low

  -- what is told of a list is told of the line
  lifts : (list : ℕ) → Lifts (MadeBy events lists.list_of list) (From (length events)) all all (lists.makers list) makers
  lifts list = record { stays = λ i e h. h; below = λ i m. m.0; same = λ i e h m. ap (λ n. lists.makers n i) m.1 }

  own : (i : ℕ) → length events ≤ i → MadeBy events lists.list_of (lists.list_of i) i
  own i le = (le, refl)

  tells_at : (i : ℕ) (e : Event) → length events ≤ i → At all i e → IsOfTurn e
      → Tells start long (IsListPosition turns line (lists.list_of i)) (length events) (MadeBy events lists.list_of (lists.list_of i)) all (lists.spans (lists.list_of i)) (lists.makers (lists.list_of i))
  tells_at i e le there kind = lists.each (lists.list_of i) (lists.of_some i e le there kind)

  ordered : (p q : TurnPosition) → IsLastTurnPosition turns line p → IsLastTurnPosition turns line q → IsEarlier p q → spans.to p ≤ spans.from q
  ordered p q hp hq (inl lt) = absurd (omega (arith, lt, ap length hp.lines_are, ap length hq.lines_are))
  ordered p q hp hq (inr same) =
      let lp = in_list p hp in
      let lq = in_list q hq in
      let one : lq.list ≡ lp.list = sym lq.number ∙ ap (λ n. n - 1) (sym same.1) ∙ lp.number in
      let here : IsListPosition turns line lp.list q = subst (λ n. IsListPosition turns line n q) one lq.here in
      subst (λ n. (lists.spans (p.client - 1)).to p ≤ (lists.spans n).from q) (sym (lq.number ∙ one))
      (subst (λ n. (lists.spans n).to p ≤ (lists.spans lp.list).from q) (sym lp.number) ((told_of p lp).order.order p q lp.here here (inr same)))

  init_of : (p : TurnPosition) → (l : InList p) → IsInitOf start long all (lists.spans l.list) p → IsInitOf start long all spans p
  init_of p l h = lift_init start p (λ alone. alone) (λ i e there. there) (ap (λ n. (lists.spans n).from p) l.number) (ap (λ n. (lists.spans n).to p) l.number) h

  not_first : (0 < length events) ⊎ (more ≡ []) → From (length events) 0 → (e : Event) → At all 0 e → ⊥
  not_first (inl some) none e there = omega arith
  not_first (inr no_more) none e there = omega (arith, at_within all 0 e there, length-append events more, ap length no_more)

  pub lists_told : TellsLine start turns events line more
  lists_told = record {
    spans = spans;
    makers = makers;
    tells = record {
      order = record {
        not_below = λ p h. let l = in_list p h in subst (λ n. length events ≤ (lists.spans n).from p) (sym l.number) ((told_of p l).order.not_below p l.here);
        not_above = λ p h. let l = in_list p h in subst (λ n. (lists.spans n).to p ≤ length all) (sym l.number) ((told_of p l).order.not_above p l.here);
        not_back = λ p h. let l = in_list p h in subst (λ n. (lists.spans n).from p ≤ (lists.spans n).to p) (sym l.number) ((told_of p l).order.not_back p l.here);
        order = ordered;
        made = λ i e le past there kind.
            let m = (tells_at i e le there kind).order.made i e (own i le) past there kind in
            let number = number_of (lists.list_of i) (makers i) m.0 in
            ((m.0).position, subst (λ n. ((lists.spans n).from (makers i) ≤ i) × (i < (lists.spans n).to (makers i))) (sym number) m.1);
      };
      init = record {
        begun = λ none e there. absurd (not_first lists.opened none e there);
        inits = λ p h sets. let l = in_list p h in init_of p l ((told_of p l).init.inits p l.here sets);
      };
      writes = record {
        acked = λ p h nodes is. let l = in_list p h in lift_ack (lifts l.list) p nodes ((told_of p l).writes.acked p l.here nodes is);
        sent = λ p h unmet. let l = in_list p h in lift_send (lifts l.list) p ((told_of p l).writes.sent p l.here unmet);
        each_send = λ i version s point le there. (tells_at i (event.Send version s point) le there tt).writes.each_send i version s point (own i le) there;
        each_ack = λ i send nodes le there. lift_sent (lifts (lists.list_of i)) (makers i) send ((tells_at i (event.Ack send nodes) le there tt).writes.each_ack i send nodes (own i le) there);
      };
      reads = record {
        found = λ p h found is. let l = in_list p h in lift_told (lifts l.list) start p found ((told_of p l).reads.found p l.here found is);
        each_start = λ i version s rules chosen from to le there. (tells_at i (event.FetchStart version s rules chosen from to) le there tt).reads.each_start i version s rules chosen from to (own i le) there;
        each_done = λ i began nodes series le there. lift_begun (lifts (lists.list_of i)) (makers i) began ((tells_at i (event.FetchDone began nodes series) le there tt).reads.each_done i began nodes series (own i le) there);
      };
      placements = record {
        is_place = λ p h place is.
            let l = in_list p h in
            let q = (told_of p l).placements.is_place p l.here place is in
            record { place_at = q.place_at; done = q.done; there = q.there; in_time = subst (λ n. q.place_at < (lists.spans n).to p) (sym l.number) q.in_time };
        not_earlier = λ p q hp hq earlier was is of_was of_is. by_order p q hp hq earlier was is of_was of_is;
        each_end = λ i place done le past there d m. (tells_at i (event.Place place done) le there tt).placements.each_end i place done (own i le) past there d m;
        ends_printed = λ p h. let l = in_list p h in lift_ended (lifts l.list) p ((told_of p l).placements.ends_printed p l.here);
      };
      clocks = record {
        set = λ p h sets. let l = in_list p h in lift_clock (lifts l.list) start p ((told_of p l).clocks.set p l.here sets);
        each_clock = λ i rules le past there. (tells_at i (event.Clock rules) le there tt).clocks.each_clock i rules (own i le) past there;
      };
      makes = λ i e le past there. makes_by start (take i all) (makers i) e (λ kind. (tells_at i e le there kind).makes i e (own i le) past there);
      restarts = λ i n s r le past there. lift_restart (lifts (lists.list_of i)) (makers i) i n s ((tells_at i (event.Step n s call.Restart r) le there tt).restarts i n s r (own i le) past there);
      hears = λ p h. let l = in_list p h in subst (λ n. HearsBy start (take ((lists.spans n).from p) all) (InStretch all ((lists.spans n).from p) ((lists.spans n).to p)) p p.turn.act p.turn.answer) (sym l.number) ((told_of p l).hears p l.here);
    };
    not_earlier = lists.not_earlier;
  }
    where
      by_order : (p q : TurnPosition) → IsLastTurnPosition turns line p → IsLastTurnPosition turns line q → IsEarlier p q → (was is : Placement) → printed p.turn.answer ≡ Some was → printed q.turn.answer ≡ Some is → was.version ≤ is.version
      by_order p q hp hq (inl lt) was is of_was of_is = absurd (omega (arith, lt, ap length hp.lines_are, ap length hq.lines_are))
      by_order p q hp hq (inr same) was is of_was of_is =
          let lp = in_list p hp in
          let lq = in_list q hq in
          let one : lq.list ≡ lp.list = sym lq.number ∙ ap (λ n. n - 1) (sym same.1) ∙ lp.number in
          (told_of p lp).placements.not_earlier p q lp.here (subst (λ n. IsListPosition turns line n q) one lq.here) (inr same) was is of_was of_is
