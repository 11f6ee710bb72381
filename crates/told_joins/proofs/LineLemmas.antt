-- The line of a bootstrap tells of its turn, and is served.
use Rattle.std.proofs.Common.{◌≡◌, ◌≤◌, ◌+◌, ◌*◌, ◌∙◌, ℕ, Bool, List, [], ◌∷◌, ◌++◌, length, map, take, Option, Some, None, refl, sym, ap, subst, inl, inr, arith, length-append}
use Rattle.std.specs.Prelude.{IsTrue, MatchOption}
use Rattle.std.proofs.lemmas.Bool.{cases_eq}
use Rattle.std.proofs.lemmas.List.{append-nil}
use Rattle.std.proofs.lemmas.Option.{same_Some}
use Rattle.m3_model.specs.Members.{IsIn}
use Rattle.m3_model.specs.Reads.{found_of}
use Rattle.m3_model.specs.declared.act.Act.{Act}
use Rattle.m3_model.specs.declared.act.Act.TheVariants as act
use Rattle.m3_model.specs.declared.answer.Answer.{Answer}
use Rattle.m3_model.specs.declared.answer.Answer.TheVariants as answer
use Rattle.m3_model.specs.declared.limits.TheConstants.{MOST_REQUEST_EVENTS}
use Rattle.m3_model.specs.declared.placement.Assignment.{Assignment}
use Rattle.m3_model.specs.declared.placement.Placement.{Placement}
use Rattle.m3_model.specs.declared.reason.Reason.{Reason}
use Rattle.m3_model.specs.declared.reason.Reason.TheVariants as reason
use Rattle.m3_model.specs.declared.rules.MetaState.{MetaState}
use Rattle.m3_model.specs.declared.turn.Request.{Request}
use Rattle.m3_model.specs.declared.turn.Turn.{Turn}
use Rattle.m3_model.proofs.Lists.{flat_map-IsIn, take_whole}
use Rattle.m3_model.proofs.MemberLemmas.{IsIn-append_left, IsIn-map, map-IsIn}
use Rattle.placement_core.specs.Lawful.{IsLawful}
use Rattle.placement_core.specs.Shards.{nodes_of, shard_at}
use Rattle.placement_core.proofs.HolderLemmas.{same_node}
use Rattle.placement_core.proofs.ListLemmas.{IsIn-from_Any}
use Rattle.placement_core.proofs.OrderLemmas.{names_at}
use Rattle.cluster_core.specs.Earlier.{last_place}
use Rattle.cluster_core.specs.Lists.{At}
use Rattle.cluster_core.specs.declared.event.Event.{Event}
use Rattle.cluster_core.specs.declared.event.Event.TheVariants as event
use Rattle.cluster_core.specs.declared.event.StepCall.{StepCall}
use Rattle.cluster_core.specs.declared.event.StepCall.TheVariants as call
use Rattle.cluster_core.specs.declared.event.StepReply.{StepReply}
use Rattle.cluster_core.specs.declared.event.StepReply.TheVariants as reply
use Rattle.cluster_core.proofs.ListLemmas.{at_in, at_same, at_within, in_at}
use Rattle.transcripts.specs.Caused.{acts_in}
use Rattle.transcripts.specs.Deliveries.{LateMessage}
use Rattle.transcripts.specs.Faults.{Fault}
use Rattle.transcripts.specs.Fates.{OfNode}
use Rattle.transcripts.specs.Placements.{printed}
use Rattle.transcripts.specs.Record.{Record, TurnPosition, line_of}
use Rattle.transcripts.specs.Waiting.{is_covering}
use Rattle.told_causes.proofs.WaitLemmas.{shard_is}
use Rattle.told_by.specs.Hears.{Happens, HasStep, HearsBegun, HearsBy, InStretch, IsBegun, IsBeginOf}
use Rattle.told_by.specs.Lines.{IsPlain, PlainLine, position_after}
use Rattle.told_by.specs.Makes.{IsAssigned}
use Rattle.told_by.proofs.KindLemmas.{taken}
use Rattle.told_by.proofs.LoopLemmas.{last_prints}
use Rattle.told_by.proofs.OneLemmas.{at_back, among_back, back_at}
use Rattle.told_runs.specs.Answers.{HearsOf, IsAnswered}
use Rattle.told_runs.specs.Bounds.{writes_taken}
use Rattle.told_runs.specs.Lines.{Adds, AddsInOrder, IsToldAndServed, delivered_on}
use Rattle.told_runs.proofs.LineLemmas.{plain_serves}
use Rattle.peer_streams.specs.Joins.{HasJoinedBy, IsGiven, IsOpened, IsUnbegun, Join, Opened, StaysAsItWas}
use Rattle.told_joins.specs.Lines.{AreOpened, MayAdd, MeetsBoot, added_by}
use Rattle.peer_streams.specs.Streams.{replied}
use Rattle.told_joins.proofs.AskLemmas.{MayHappen}
use Rattle.told_joins.proofs.FrontLemmas.{KeepsPlace, happens_changes, happens_keeps, may_make, some_events, still_last}

-- what the line adds happens in its turn's stretch
pub in_stretch : (events more : List Event) (e : Event) → IsIn more e → Happens (InStretch (events ++ more) (length events) (length (events ++ more))) e
in_stretch events more e m =
    let at = in_at more e m in
    let there = back_at events more at.0 e at.1 in
    (length events + at.0, (omega arith, at_within (events ++ more) (length events + at.0) e there, there))

-- ---- what a bootstrap hears where it is answered ok

-- the slots that it covers are those of its node
same_named : (place : Placement) → IsLawful place → (a b : ℕ) (name : List ℕ) → OfNode place a (λ own. own ≡ name) → OfNode place b (λ own. own ≡ name) → a ≡ b
same_named place lawful a b name one other = elim (cases_eq a b) as (λ _. a ≡ b) [
  | inl same ↦ same
  | inr differ ↦ absurd (names_at place.instances a b one.instance_ other.instance_ (lawful.limits).distinct one.stands other.stands differ (one.holds ∙ sym other.holds))
]

module _ (place : Placement) (lawful : IsLawful place) (y : ℕ) where
  -- a begin of this tenure that was answered, or passed over
  pub record HasBegin (s tenure : ℕ) (es : List Event) : Type 0 where
    pub answer : StepReply
    pub begun : IsBegun answer
    pub there : IsIn es (event.Step y s (call.Begin tenure) answer)

  -- the placement gives the node the shard with one tenure
  one_tenure : (s : ℕ) (own : Assignment) → IsGiven place y s own → (tenure : ℕ) → IsAssigned place y s tenure → own.tenure ≡ tenure
  one_tenure s own given tenure has =
      let same = at_same place.shards s given.shard has.0 given.there has.1 in
      let x = IsIn-from_Any (λ (a : Assignment). (a.node ≡ y) × (a.tenure ≡ tenure)) has.0 has.2 in
      let distinct = (lawful.shards given.shard (at_in place.shards s given.shard given.there)).distinct in
      ap (λ (a : Assignment). a.tenure) (same_node given.shard own x.0 distinct given.among (subst (λ xs. IsIn xs x.0) (sym same) x.1) (given.to_node ∙ sym (x.2).0)) ∙ (x.2).1

  begin_in : (s : ℕ) (a : StepReply) (tenure : ℕ) (rest : List Event) → IsIn (replied y s (call.Begin tenure) a ++ rest) (event.Step y s (call.Begin tenure) a)
  begin_in s a tenure rest = inr (inl refl)

  unbegun_begun : (why : Reason) → IsUnbegun why → IsBegun (reply.Refused why)
  unbegun_begun reason.Down h = tt
  unbegun_begun reason.NotOwned h = tt
  unbegun_begun _ h = absurd h

  opened_begun : (o : Opened) → IsOpened place y o → (tenure : ℕ) → IsAssigned place y o.shard tenure → HasBegin o.shard tenure o.added
  opened_begun o h tenure has = by o.joined h
    where
      at_tenure : (own : Assignment) → IsGiven place y o.shard own → (a : StepReply) → IsBegun a → (rest : List Event) → o.added ≡ replied y o.shard (call.Begin own.tenure) a ++ rest → HasBegin o.shard tenure o.added
      at_tenure own given a begun rest is = record {
        answer = a;
        begun = begun;
        there = subst (λ t. IsIn o.added (event.Step y o.shard (call.Begin t) a)) (one_tenure o.shard own given tenure has) (subst (λ xs. IsIn xs (event.Step y o.shard (call.Begin own.tenure) a)) (sym is) (begin_in o.shard a own.tenure rest));
      }

      by_stays : StaysAsItWas place o.shard y o.added → HasBegin o.shard tenure o.added
      by_stays h = elim h.so as (λ _. HasBegin o.shard tenure o.added) [
        | inl passed ↦ at_tenure h.own h.given (reply.Refused passed.why) (unbegun_begun passed.why passed.unbegun) [] passed.are
        | inr other ↦ elim other as (λ _. HasBegin o.shard tenure o.added) [
          | inl alone ↦ at_tenure h.own h.given (reply.Began alone.fence alone.points) tt [] alone.are
          | inr broken ↦ at_tenure h.own h.given (reply.Began (broken.2).fence (broken.2).points) tt (broken.2).streamed (broken.2).are
        ]
      ]

      by : (j : Option Join) → MatchOption j (StaysAsItWas place o.shard y o.added) (λ k. HasJoinedBy place o.shard y k o.added) → HasBegin o.shard tenure o.added
      by None stays = by_stays stays
      by (Some j) joined = at_tenure joined.joining joined.given (reply.Began joined.fence joined.points) tt _ joined.are

  -- so does each shard that is asked for, where all were opened
  all_begun : (only : Option ℕ) (opened : List Opened) → AreOpened place y only opened [] → (s tenure : ℕ) → IsTrue (is_covering s only) → IsAssigned place y s tenure → HasBegin s tenure (added_by opened)
  all_begun only opened all s tenure covers given =
      let o = IsIn-map (λ (z : Opened). z.shard) opened s among in
      of_shard o.0 o.1 o.2 (opened_begun o.0 (all.each o.0 o.1) tenure (subst (λ k. IsAssigned place y k tenure) (sym o.2) given))
    where
      among : IsIn (map (λ (o : Opened). o.shard) opened) s
      among =
          let x = IsIn-from_Any (λ (a : Assignment). (a.node ≡ y) × (a.tenure ≡ tenure)) given.0 given.2 in
          let here : IsIn (nodes_of (shard_at place s)) y = subst (IsIn (nodes_of (shard_at place s))) (x.2).0 (map-IsIn (λ (a : Assignment). a.node) (shard_at place s) x.0 (subst (λ xs. IsIn xs x.0) (sym (shard_is place.shards s given.0 given.1)) x.1)) in
          subst (λ xs. IsIn xs s) (append-nil (map (λ (o : Opened). o.shard) opened)) ((all.are s).1 (covers, here))

      of_shard : (o : Opened) → IsIn opened o → o.shard ≡ s → HasBegin o.shard tenure o.added → HasBegin s tenure (added_by opened)
      of_shard o m is h =
          let step : Event = event.Step y o.shard (call.Begin tenure) h.answer in
          record { answer = h.answer; begun = h.begun; there = subst (λ k. IsIn (added_by opened) (event.Step y k (call.Begin tenure) h.answer)) is (flat_map-IsIn (λ (z : Opened). z.added) opened o step m h.there) }

  -- and so each slot that it covers
  pub hears_begun : (events more : List Event) (name : List ℕ) (only : Option ℕ) (opened : List Opened) (rest : List Event) → last_place events ≡ Some place → OfNode place y (λ own. own ≡ name) → AreOpened place y only opened [] → more ≡ added_by opened ++ rest
      → HearsBegun events (InStretch (events ++ more) (length events) (length (events ++ more))) name only
  hears_begun events more name only opened rest last named all adds n s tenure slot has = by (slot.of_node).place ((slot.of_node).last) ((slot.of_node).named) has
    where
      by : (p : Placement) → last_place events ≡ Some p → OfNode p n (λ own. own ≡ name) → IsAssigned p n s tenure → (a : StepReply) × IsBegun a × HasStep (InStretch (events ++ more) (length events) (length (events ++ more))) (IsBeginOf tenure) n s a
      by p last_p named_p has_p =
          let placed : p ≡ place = same_Some p place (sym last_p ∙ last) in
          let is_node : n ≡ y = same_named place lawful n y name (subst (λ (q : Placement). OfNode q n (λ own. own ≡ name)) placed named_p) named in
          let given : IsAssigned place y s tenure = subst (λ k. IsAssigned place k s tenure) is_node (subst (λ (q : Placement). IsAssigned q n s tenure) placed has_p) in
          let h = all_begun only opened all s tenure slot.covers given in
          let step : Event = event.Step y s (call.Begin tenure) h.answer in
          let in_more : IsIn more step = subst (λ xs. IsIn xs step) (sym adds) (IsIn-append_left (added_by opened) rest step h.there) in
          let there : Happens (InStretch (events ++ more) (length events) (length (events ++ more))) step = in_stretch events more step in_more in
          (h.answer, h.begun, (call.Begin tenure, refl, subst (λ k. Happens (InStretch (events ++ more) (length events) (length (events ++ more))) (event.Step k s (call.Begin tenure) h.answer)) (sym is_node) there))

-- ---- a line without a placement

-- an answer of a bootstrap that prints nothing but the placement that stands, and no shard
pub record PrintsNone (place : Placement) (b : Answer) : Type 0 where
  pub no_acks : (nodes : List ℕ) → b ≡ answer.Acks nodes → ⊥
  pub no_found : found_of b ≡ None
  pub printed_is : (shown : Placement) → printed b ≡ Some shown → shown ≡ place
  pub no_moves : (available : List (ℕ × List ℕ)) (shown : Placement) (version : ℕ) → b ≡ answer.Available available shown version → available ≡ []

pub boot_plain : (name : List ℕ) (only : Option ℕ) (b : Answer) → ((nodes : List ℕ) → b ≡ answer.Acks nodes → ⊥) → found_of b ≡ None → IsPlain (act.Bootstrap name only) b
boot_plain name only b no_acks no_found = record { no_acks = no_acks; not_unmet = λ h. h; no_found = no_found; no_rules = refl; no_seed = refl }

boot_fits : (name : List ℕ) (only : Option ℕ) (b : Answer) (events more : List Event) (writes : ℕ) → length more ≤ MOST_REQUEST_EVENTS * (writes + 1) → length (events ++ more) ≤ length events + (MOST_REQUEST_EVENTS * length (acts_in (line_of (act.Bootstrap name only) b ∷ []))) * (writes + 1)
boot_fits name only b events more writes few = omega (arith, length-append events more, few)

module _ {tells : Bool} (past : List Record) (start : Option MetaState) (turns : List Turn) (unanswered later : Option Request) (events : List Event) (taking : List Fault) (was : TurnPosition → List LateMessage)
    (told : IsToldAndServed tells taking was past start turns unanswered events) (place : Placement) (last : last_place events ≡ Some place) (name : List ℕ) (only : Option ℕ) (y : ℕ) (meets : MeetsBoot start turns place name only y) (b : Answer) (more : List Event)
    (may : MayAdd tells past start turns events (line_of (act.Bootstrap name only) b) more) where
  abbrev a : Act
  a = act.Bootstrap name only

  abbrev own : TurnPosition
  own = position_after turns a b

  abbrev whole : List Event
  whole = events ++ more

  abbrev Goal : Type 0
  Goal = IsToldAndServed tells taking (delivered_on turns was (λ p. [])) past start (turns ++ line_of a b ∷ []) later whole

  -- by the line's events, and why it is answered so
  pub by_plain : PlainLine start turns events a b more → AddsInOrder events more → HearsOf start (InStretch whole (length events) (length whole)) own [] b → IsAnswered [] start (length whole) own → Goal
  by_plain line order heard why = plain_serves past start turns unanswered later events a b more [] taking [] was told line (record {
    adds = order;
    opens = may.opens;
    answered = why;
    delivers = heard;
    not_again = λ q at x z m. absurd m;
    untaken_are = λ fault m. absurd m;
    different = tt;
    bound = λ is. boot_fits name only b events more (writes_taken past (turns ++ line_of a b ∷ [])) (may.few is);
  })

  module _ (each : (e : Event) → IsIn more e → MayHappen place y only e) (prints : PrintsNone place b) where
    keeps : (e : Event) → IsIn more e → KeepsPlace e
    keeps e m = happens_keeps place y only e (each e m)

    last_at : (i : ℕ) (e : Event) → length events ≤ i → At whole i e → last_place (take i whole) ≡ Some place
    last_at i e le at = let r = at_back events more i e at le in ap (λ n. last_place (take n whole)) r.1 ∙ ap last_place (taken start turns events a b more r.0) ∙ still_last events place last r.0 more keeps

    last_now : last_place whole ≡ Some place
    last_now = ap (λ es. last_place (events ++ es)) (sym (take_whole more)) ∙ still_last events place last (length more) more keeps

    no_step : (i n s : ℕ) (c : StepCall) (r : StepReply) → Adds events more i (event.Step n s c r) → MayHappen place y only (event.Step n s c r)
    no_step i n s c r adds = each (event.Step n s c r) (among_back events more i (event.Step n s c r) adds.1 adds.0)

    pub front_line : HearsBy start events (InStretch whole (length events) (length whole)) own a b → PlainLine start turns events a b more
    front_line hears = record {
      makes = record {
        makes = λ i e le two at. may_make start turns place name only y meets b (take i whole) (last_at i e le at) e (each e (among_back events more i e at le));
        restarts = λ i n s r le two at. absurd (no_step i n s call.Restart r (le, at));
        hears = hears;
      };
      plain = boot_plain name only b prints.no_acks prints.no_found;
      opened = inl (some_events events place last);
      adds = λ i e at. happens_changes place y only own (events ++ take i more) e (each e (at_in more i e at));
      prints = last_prints start turns events b more may.legal told.0 (λ shown is. last_now ∙ ap Some (sym (prints.printed_is shown is)));
      ends = λ available ended x m. absurd (subst (λ xs. IsIn xs x) (prints.no_moves available ended.place ended.version ended.answered) m);
    }

    front_order : AddsInOrder events more
    front_order = record {
      lawful = λ i shown done adds. absurd (each (event.Place shown done) (among_back events more i (event.Place shown done) adds.1 adds.0));
      one = λ i shown done adds. absurd (each (event.Place shown done) (among_back events more i (event.Place shown done) adds.1 adds.0));
      ends = λ i n s r adds. absurd (no_step i n s call.End r adds);
    }

    pub front_serves : HearsBy start events (InStretch whole (length events) (length whole)) own a b → HearsOf start (InStretch whole (length events) (length whole)) own [] b → IsAnswered [] start (length whole) own → Goal
    front_serves hears heard why = by_plain (front_line hears) front_order heard why
