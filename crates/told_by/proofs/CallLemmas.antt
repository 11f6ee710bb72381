-- A list whose calls are told is told.
use Rattle.std.proofs.Common.{take}
use Rattle.told_by.proofs.HearLemmas.{makes_by}
use Rattle.std.proofs.Common.{◌≡◌, ℕ, ◌<◌, ◌≤◌, List, [], ◌∷◌, ◌++◌, length, refl, sym, ap, subst, inl, inr, arith, length-append}
use Rattle.std.specs.Prelude.{◌⊎◌, Option}
use Rattle.transcripts.specs.Record.{TurnPosition}
use Rattle.m3_model.specs.declared.rules.MetaState.{MetaState}
use Rattle.m3_model.specs.declared.turn.Turn.{Turn}
use Rattle.cluster_core.specs.Lists.{At}
use Rattle.cluster_core.specs.declared.event.Event.{Event}
use Rattle.cluster_core.specs.declared.event.Event.TheVariants as event
use Rattle.cluster_core.specs.declared.event.StepCall.TheVariants as call
use Rattle.cluster_core.proofs.ListLemmas.{at_within}
use Rattle.told_by.specs.Lists.{IsCallPosition, IsListPosition, MadeBy, MadeByCall, TellsCalls, call_makers, call_spans}
use Rattle.told_by.specs.Openings.{IsInitOf}
use Rattle.told_by.specs.Spans.{IsEarlier, IsOfTurn, Spans}
use Rattle.told_by.specs.Told.{Tells}
use Rattle.told_by.proofs.LineLemmas.{Lifts, lift_ack, lift_begun, lift_clock, lift_ended, lift_init, lift_restart, lift_send, lift_sent, lift_told}

module _ (start : Option MetaState) (turns : List Turn) (events : List Event) (line : Turn) (more : List Event) (list_of : ℕ → ℕ) (list : ℕ) (calls : TellsCalls start turns events line more list_of list) where
  abbrev all : List Event
  all = events ++ more

  abbrev long : List Turn
  long = turns ++ line ∷ []

  abbrev spans : Spans
  spans = call_spans calls.spans

  abbrev makers : ℕ → TurnPosition
  makers = call_makers calls.number_of calls.makers

  call_at : (p : TurnPosition) → IsListPosition turns line list p → IsCallPosition turns line list (length p.earlier) p
  call_at p h = record { position = h; number_is = refl }

  abbrev OfCall : ℕ → Type 0
  OfCall number = Tells start long (IsCallPosition turns line list number) (length events) (MadeByCall events list_of calls.number_of list number) all (calls.spans number) (calls.makers number)

  told_of : (p : TurnPosition) → (h : IsListPosition turns line list p) → OfCall (length p.earlier)
  told_of p h = calls.each (length p.earlier) (calls.whole p h)

  tells_at : (i : ℕ) (e : Event) → MadeBy events list_of list i → At all i e → IsOfTurn e → OfCall (calls.number_of i)
  tells_at i e mine there kind = calls.each (calls.number_of i) (calls.of_some i e mine there kind)

  -- what is told of a call is told of the list
  lifts : (number : ℕ) → Lifts (MadeByCall events list_of calls.number_of list number) (MadeBy events list_of list) all all (calls.makers number) makers
  lifts number = record { stays = λ i e h. h; below = λ i m. m.0; same = λ i e h m. ap (λ n. calls.makers n i) m.1 }

  not_first : (0 < length events) ⊎ (more ≡ []) → MadeBy events list_of list 0 → (e : Event) → At all 0 e → ⊥
  not_first (inl some) mine e there = omega (arith, mine.0)
  not_first (inr no_more) mine e there = omega (arith, mine.0, at_within all 0 e there, length-append events more, ap length no_more)

  same_line : (p q : TurnPosition) → IsListPosition turns line list p → IsListPosition turns line list q → IsEarlier p q → length p.earlier < length q.earlier
  same_line p q hp hq (inl lt) = absurd (omega (arith, lt, ap length (hp.position).lines_are, ap length (hq.position).lines_are))
  same_line p q hp hq (inr same) = same.2

  pub calls_told : Tells start long (IsListPosition turns line list) (length events) (MadeBy events list_of list) all spans makers
  calls_told = record {
    order = record {
      not_below = λ p h. (told_of p h).order.not_below p (call_at p h);
      not_above = λ p h. (told_of p h).order.not_above p (call_at p h);
      not_back = λ p h. (told_of p h).order.not_back p (call_at p h);
      order = λ p q hp hq earlier. calls.in_order p q (length p.earlier) (length q.earlier) (call_at p hp) (call_at q hq) (same_line p q hp hq earlier);
      made = λ i e mine past there kind.
          let m = (tells_at i e mine there kind).order.made i e (mine, refl) past there kind in
          ((m.0).position, subst (λ n. ((calls.spans n).from (makers i) ≤ i) × (i < (calls.spans n).to (makers i))) (sym (m.0).number_is) m.1);
    };
    init = record {
      begun = λ mine e there. absurd (not_first calls.opened mine e there);
      inits = λ p h sets. init_of p ((told_of p h).init.inits p (call_at p h) sets);
    };
    writes = record {
      acked = λ p h nodes is. lift_ack (lifts (length p.earlier)) p nodes ((told_of p h).writes.acked p (call_at p h) nodes is);
      sent = λ p h unmet. lift_send (lifts (length p.earlier)) p ((told_of p h).writes.sent p (call_at p h) unmet);
      each_send = λ i version s point mine there. (tells_at i (event.Send version s point) mine there tt).writes.each_send i version s point (mine, refl) there;
      each_ack = λ i send nodes mine there. lift_sent (lifts (calls.number_of i)) (makers i) send ((tells_at i (event.Ack send nodes) mine there tt).writes.each_ack i send nodes (mine, refl) there);
    };
    reads = record {
      found = λ p h found is. lift_told (lifts (length p.earlier)) start p found ((told_of p h).reads.found p (call_at p h) found is);
      each_start = λ i version s rules chosen from to mine there. (tells_at i (event.FetchStart version s rules chosen from to) mine there tt).reads.each_start i version s rules chosen from to (mine, refl) there;
      each_done = λ i began nodes series mine there. lift_begun (lifts (calls.number_of i)) (makers i) began ((tells_at i (event.FetchDone began nodes series) mine there tt).reads.each_done i began nodes series (mine, refl) there);
    };
    placements = record {
      is_place = λ p h place is. (told_of p h).placements.is_place p (call_at p h) place is;
      not_earlier = λ p q hp hq earlier was is of_was of_is. calls.not_earlier p q (length p.earlier) (length q.earlier) (call_at p hp) (call_at q hq) (same_line p q hp hq earlier) was is of_was of_is;
      each_end = λ i place done mine past there d m. (tells_at i (event.Place place done) mine there tt).placements.each_end i place done (mine, refl) past there d m;
      ends_printed = λ p h. lift_ended (lifts (length p.earlier)) p ((told_of p h).placements.ends_printed p (call_at p h));
    };
    clocks = record {
      set = λ p h sets. lift_clock (lifts (length p.earlier)) start p ((told_of p h).clocks.set p (call_at p h) sets);
      each_clock = λ i rules mine past there. (tells_at i (event.Clock rules) mine there tt).clocks.each_clock i rules (mine, refl) past there;
    };
    makes = λ i e mine past there. makes_by start (take i all) (makers i) e (λ kind. (tells_at i e mine there kind).makes i e (mine, refl) past there);
    restarts = λ i n s r mine past there. lift_restart (lifts (calls.number_of i)) (makers i) i n s ((tells_at i (event.Step n s call.Restart r) mine there tt).restarts i n s r (mine, refl) past there);
    hears = λ p h. (told_of p h).hears p (call_at p h);
  }
    where
      init_of : (p : TurnPosition) → IsInitOf start long all (calls.spans (length p.earlier)) p → IsInitOf start long all spans p
      init_of p h = lift_init start p (λ alone. alone) (λ i e there. there) refl refl h
