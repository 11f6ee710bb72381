-- The line of a bootstrap that ends moves.
use Rattle.std.proofs.Common.{◌≡◌, ◌≤◌, ◌<◌, ◌+◌, ◌∙◌, ℕ, zero, suc, false, List, [], ◌∷◌, ◌++◌, length, take, Option, Some, None, refl, sym, ap, subst, inl, inr, arith, append_assoc}
use Rattle.std.specs.Prelude.{◌⊎◌, slice_get, Bool}
use Rattle.std.proofs.lemmas.Bool.{cases_lt}
use Rattle.std.proofs.lemmas.Grind.{fold-append}
use Rattle.std.proofs.lemmas.List.{append-nil, take-append-le}
use Rattle.std.proofs.lemmas.Option.{same_Some}
use Rattle.m3_model.specs.Members.{IsIn}
use Rattle.m3_model.specs.declared.act.Act.{Act}
use Rattle.m3_model.specs.declared.act.Act.TheVariants as act
use Rattle.m3_model.specs.declared.answer.Answer.{Answer}
use Rattle.m3_model.specs.declared.answer.Answer.TheVariants as answer
use Rattle.m3_model.specs.declared.limits.TheConstants.{MOST_VERSIONS}
use Rattle.m3_model.specs.declared.placement.Placement.{Placement}
use Rattle.m3_model.specs.declared.rules.MetaState.{MetaState}
use Rattle.m3_model.specs.declared.turn.Request.{Request}
use Rattle.m3_model.specs.declared.turn.Turn.{Turn}
use Rattle.m3_model.proofs.Lists.{take_whole}
use Rattle.m3_model.proofs.MemberLemmas.{IsIn-map, map-IsIn}
use Rattle.placement_core.specs.Lawful.{IsLawful}
use Rattle.placement_plan.specs.Plans.{IsAvailable}
use Rattle.cluster_core.specs.Earlier.{last_place, place_after as place_by}
use Rattle.cluster_core.specs.Joins.{HasStreamed}
use Rattle.cluster_core.specs.Lists.{At}
use Rattle.cluster_core.specs.declared.event.Asked.TheVariants as asked
use Rattle.cluster_core.specs.declared.event.Event.{Event}
use Rattle.cluster_core.specs.declared.event.Event.TheVariants as event
use Rattle.cluster_core.specs.declared.event.StepCall.{StepCall}
use Rattle.cluster_core.specs.declared.event.StepCall.TheVariants as call
use Rattle.cluster_core.specs.declared.event.StepReply.{StepReply}
use Rattle.cluster_core.proofs.ListLemmas.{at_in}
use Rattle.transcripts.specs.Caused.{EndsMoves, IsLeftBy, kept_after}
use Rattle.transcripts.specs.Deliveries.{LateMessage}
use Rattle.transcripts.specs.Faults.{Fault}
use Rattle.transcripts.specs.Peers.{HadVersion}
use Rattle.transcripts.specs.Placements.{has_replica}
use Rattle.transcripts.specs.Record.{Record, TurnPosition, inner_turns, line_of}
use Rattle.told_by.specs.Lines.{MayChange, PlainLine, position_after}
use Rattle.told_by.specs.Makes.{MayMake}
use Rattle.told_by.specs.Placements.{EndsPrinted, PrintsPeers}
use Rattle.told_by.specs.Spans.{From}
use Rattle.told_by.specs.Steps.{EndsGone}
use Rattle.told_by.proofs.KindLemmas.{taken}
use Rattle.told_by.proofs.LineLemmas.{at_front}
use Rattle.told_by.proofs.LoopLemmas.{last_prints}
use Rattle.told_by.proofs.OneLemmas.{at_back, back_at}
use Rattle.told_runs.specs.Answers.{IsOfKind}
use Rattle.told_runs.specs.Lines.{AddsInOrder, IsToldAndServed, delivered_on}
use Rattle.peer_streams.specs.Joins.{Opened}
use Rattle.told_joins.specs.Lines.{AreOpened, MayAdd, MeetsBoot, added_by, done_by, ends_by, joined_of}
use Rattle.told_joins.proofs.AskLemmas.{MayHappen, all_happen}
use Rattle.told_joins.proofs.FrontLemmas.{KeepsPlace, answered, covered, happens_changes, happens_keeps, may_make, place_kept, some_events, still_last}
use Rattle.told_joins.proofs.LineLemmas.{boot_plain, by_plain, hears_begun}
use Rattle.told_joins.proofs.MarkLemmas.{are_by_name, are_enough, are_joining, covers_done, covers_joined, ends_gone, hears_streamed, how, joined_ascend, joined_in, streamed_each, up}

module _ (place : Placement) (lawful : IsLawful place) (start : Option MetaState) (turns : List Turn) (events : List Event) (last : last_place events ≡ Some place) (name : List ℕ) (only : Option ℕ) (y : ℕ) (meets : MeetsBoot start turns place name only y)
    (opened : List Opened) (all : AreOpened place y only opened []) (next : Placement) (available : IsAvailable place (done_by y (joined_of opened)) next) where
  abbrev done : List (ℕ × ℕ)
  done = done_by y (joined_of opened)

  abbrev front : List Event
  front = added_by opened

  abbrev ends : List Event
  ends = ends_by opened

  abbrev asking : Event
  asking = event.Ask (asked.Place next done)

  abbrev marked : List Event
  marked = asking ∷ event.Place next done ∷ ends

  abbrev pub more : List Event
  more = front ++ marked

  abbrev pub a : Act
  a = act.Bootstrap name only

  abbrev pub b : Answer
  b = answer.Available (joined_of opened) next next.version

  abbrev own : TurnPosition
  own = position_after turns a b

  abbrev whole : List Event
  whole = events ++ more

  -- ---- what stands where

  happens : (e : Event) → IsIn front e → MayHappen place y only e
  happens = all_happen place y only opened [] all

  front_keeps : (e : Event) → IsIn front e → KeepsPlace e
  front_keeps e m = happens_keeps place y only e (happens e m)

  gone : (e : Event) → IsIn ends e → EndsGone next e
  gone = ends_gone place lawful y only opened [] all next available

  ends_keep : (e : Event) → IsIn ends e → KeepsPlace e
  ends_keep e m = by e (gone e m)
    where
      by : (x : Event) → EndsGone next x → KeepsPlace x
      by (event.Ask (asked.Step n s call.End)) h = tt
      by (event.Step n s call.End r) h = tt
      by _ h = absurd h

  -- an event of the line: one of before the placement, where the old one is the last, or one from its Ask on
  record InMarks (i : ℕ) (e : Event) : Type 0 where
    pub j : ℕ
    pub there : At marked j e
    pub before : take i whole ≡ (events ++ front) ++ take j marked

  which : (i : ℕ) (e : Event) → length events ≤ i → At whole i e → (IsIn front e × (last_place (take i whole) ≡ Some place)) ⊎ InMarks i e
  which i e le at =
      let r = at_back events more i e at le in
      let upto : take i whole ≡ events ++ take r.0 more = ap (λ n. take n whole) r.1 ∙ taken start turns events a b more r.0 in
      elim (cases_lt r.0 (length front)) as (λ _. (IsIn front e × (last_place (take i whole) ≡ Some place)) ⊎ InMarks i e) [
        | inl lt ↦ (
            let here = at_front front marked r.0 e r.2 lt in
            let cut : take r.0 more ≡ take r.0 front = take-append-le r.0 front marked (omega (arith, lt)) in
            inl (at_in front r.0 e here, ap last_place upto ∙ ap (λ es. last_place (events ++ es)) cut ∙ still_last events place last r.0 front front_keeps)
            )
        | inr ge ↦ (
            let k = at_back front marked r.0 e r.2 ge in
            let cut : take r.0 more ≡ front ++ take k.0 marked = ap (λ n. take n more) k.1 ∙ taken start turns front a b marked k.0 in
            inr (record { j = k.0; there = k.2; before = upto ∙ ap (λ es. events ++ es) cut ∙ sym (append_assoc events front (take k.0 marked)) })
            )
      ]

  -- of the placement before it, up to the new one, and behind that
  last_front : last_place (events ++ front) ≡ Some place
  last_front = ap (λ es. last_place (events ++ es)) (sym (take_whole front)) ∙ still_last events place last (length front) front front_keeps

  asking_keeps : (e : Event) → IsIn (asking ∷ []) e → KeepsPlace e
  asking_keeps e (inl is) = subst KeepsPlace is tt
  asking_keeps e (inr none) = absurd none

  last_asked : (k : ℕ) → last_place ((events ++ front) ++ take k (asking ∷ [])) ≡ Some place
  last_asked k = still_last (events ++ front) place last_front k (asking ∷ []) asking_keeps

  last_behind : (k : ℕ) → last_place ((events ++ front) ++ take (suc (suc k)) marked) ≡ Some next
  last_behind k = fold-append place_by None (events ++ front) (take (suc (suc k)) marked) ∙ place_kept next k ends ends_keep

  last_whole : last_place whole ≡ Some next
  last_whole = ap last_place (sym (append_assoc events front marked)) ∙ ap (λ es. last_place ((events ++ front) ++ es)) (sym (take_whole marked)) ∙ last_behind (length ends)

  in_ends : (k : ℕ) (e : Event) → At marked (suc (suc k)) e → IsIn ends e
  in_ends k e at = at_in ends k e at

  -- ---- what the turn may make

  -- whom it prints with each shard of which the move ends
  prints_peers : (d : ℕ × ℕ) → IsIn done d → PrintsPeers next ((events ++ front) ++ asking ∷ []) own d.0 d.1
  prints_peers d m =
      let x = IsIn-map (λ (z : ℕ × List ℕ). (z.0, y)) (joined_of opened) d m in
      let w = joined_in opened x.0 x.1 in
      let h = how place lawful y only opened [] all w.one w.join w.among w.joined in
      let as_events : events ++ (front ++ asking ∷ []) ≡ (events ++ front) ++ asking ∷ [] = sym (append_assoc events front (asking ∷ [])) in
      let one : PrintsPeers next ((events ++ front) ++ asking ∷ []) own (w.one).shard y = record {
        available = joined_of opened;
        bootstrap = record {
          name = name;
          asked = only;
          act_is = refl;
          named = record { instance_ = (meets.named).instance_; stands = ap (λ is. slice_get is y) available.instances ∙ (meets.named).stands; holds = (meets.named).holds };
          version = next.version;
          answered = refl;
        };
        names = (w.join).peers;
        printed = subst (IsIn (joined_of opened)) (sym w.is) x.1;
        last = place;
        last_is = last_asked 1;
        shard = (h.given).shard;
        shard_is = (h.given).there;
        by_name = are_by_name place lawful y only opened [] all w.one w.join h;
        enough = are_enough place lawful y only opened [] all w.one w.join h;
        joining = h.joining;
        joins = (h.given).among;
        to_node = (h.given).to_node;
        is_joining = (h.joins).0;
        streamed = λ q among. subst (HasStreamed (w.one).shard y (h.joining).tenure q) as_events (streamed_each place lawful y only opened [] all w.one w.join w.among h events (asking ∷ []) q among);
      } in
      subst (λ (e : ℕ × ℕ). PrintsPeers next ((events ++ front) ++ asking ∷ []) own e.0 e.1) (ap (λ (z : ℕ × List ℕ). (z.0, y)) w.is ∙ x.2) one

  makes_at : (j : ℕ) (e : Event) → At marked j e → MayMake start ((events ++ front) ++ take j marked) own e
  makes_at zero e at = subst (MayMake start ((events ++ front) ++ []) own) (same_Some _ e at)
      (λ d m. let c = covers_done place lawful y only opened [] all d m in covered start turns place name only y meets b ((events ++ front) ++ []) (last_asked 0) d.1 d.0 c.0 c.1)
  makes_at (suc zero) e at = subst (MayMake start ((events ++ front) ++ asking ∷ []) own) (same_Some _ e at) (record { stood = next; prints = refl; not_before = omega arith })
  makes_at (suc (suc k)) e at = by e (gone e (in_ends k e at))
    where
      by : (x : Event) → EndsGone next x → MayMake start ((events ++ front) ++ take (suc (suc k)) marked) own x
      by (event.Ask (asked.Step n s call.End)) h = record { place = next; last = last_behind k; gone = h }
      by (event.Step n s call.End r) h = tt
      by _ h = absurd h

  changes_at : (j : ℕ) (e : Event) → At marked j e → MayChange own ((events ++ front) ++ take j marked) e
  changes_at zero e at = subst (MayChange own ((events ++ front) ++ [])) (same_Some _ e at) tt
  changes_at (suc zero) e at = subst (MayChange own ((events ++ front) ++ asking ∷ [])) (same_Some _ e at) prints_peers
  changes_at (suc (suc k)) e at = by e (gone e (in_ends k e at))
    where
      by : (x : Event) → EndsGone next x → MayChange own ((events ++ front) ++ take (suc (suc k)) marked) x
      by (event.Ask (asked.Step n s call.End)) h = tt
      by (event.Step n s call.End r) h = tt
      by _ h = absurd h

  -- its one placement
  place_is : (j : ℕ) (placed : Placement) (ended : List (ℕ × ℕ)) → At marked j (event.Place placed ended) → next ≡ placed
  place_is zero placed ended at = cc
  place_is (suc zero) placed ended at = let e : event.Place next done ≡ event.Place placed ended = same_Some _ _ at in cc
  place_is (suc (suc k)) placed ended at = absurd (gone (event.Place placed ended) (in_ends k (event.Place placed ended) at))

  -- its steps from there on end tenures
  step_is : (j n s : ℕ) (c : StepCall) (r : StepReply) → At marked j (event.Step n s c r) → (k : ℕ) × (j ≡ suc (suc k)) × EndsGone next (event.Step n s c r)
  step_is zero n s c r at = cc
  step_is (suc zero) n s c r at = cc
  step_is (suc (suc k)) n s c r at = (k, refl, gone (event.Step n s c r) (in_ends k (event.Step n s c r) at))

  no_restart : (i n s : ℕ) (r : StepReply) → length events ≤ i → At whole i (event.Step n s call.Restart r) → ⊥
  no_restart i n s r le at = elim (which i (event.Step n s call.Restart r) le at) as (λ _. ⊥) [ inl h ↦ happens (event.Step n s call.Restart r) h.0 | inr h ↦ (step_is h.j n s call.Restart r h.there).2 ]

  -- ---- the line

  in_order : IsLawful next → AddsInOrder events more
  in_order next_lawful = record {
    lawful = λ i placed ended adds. elim (which i (event.Place placed ended) adds.0 adds.1) as (λ _. IsLawful placed) [ inl h ↦ absurd (happens (event.Place placed ended) h.0) | inr h ↦ subst IsLawful (place_is h.j placed ended h.there) next_lawful ];
    one = λ i placed ended adds. elim (which i (event.Place placed ended) adds.0 adds.1) as (λ _. last_place whole ≡ Some placed) [
      | inl h ↦ absurd (happens (event.Place placed ended) h.0)
      | inr h ↦ last_whole ∙ ap Some (place_is h.j placed ended h.there)
    ];
    ends = λ i n s r adds placed is. elim (which i (event.Step n s call.End r) adds.0 adds.1) as (λ _. has_replica (Some placed) s n ≡ false) [
      | inl h ↦ absurd (happens (event.Step n s call.End r) h.0)
      | inr h ↦ (
          let k = step_is h.j n s call.End r h.there in
          let stands : last_place (take i whole) ≡ Some next = ap last_place h.before ∙ ap (λ n. last_place ((events ++ front) ++ take n marked)) k.1 ∙ last_behind k.0 in
          subst (λ (q : Placement). has_replica (Some q) s n ≡ false) (same_Some next placed (sym stands ∙ is)) k.2
          )
    ];
  }

  ends_own : EndsPrinted (From (length events)) whole (λ _. own) own
  ends_own printed boot z m =
      let same : joined_of opened ≡ printed = available_same (joined_of opened) printed next boot.place next.version boot.version boot.answered in
      let named : name ≡ boot.node = name_same name boot.node only boot.asked boot.act_is in
      record {
        place_at = length events + (length front + 1);
        place = next;
        done = done;
        there = back_at events more (length front + 1) (event.Place next done) (back_at front marked 1 (event.Place next done) refl);
        mine = omega arith;
        own = refl;
        node = y;
        named = record { instance_ = (meets.named).instance_; stands = ap (λ is. slice_get is y) available.instances ∙ (meets.named).stands; holds = (meets.named).holds ∙ named };
        ended = map-IsIn (λ (w : ℕ × List ℕ). (w.0, y)) (joined_of opened) z (subst (λ xs. IsIn xs z) (sym same) m);
      }
    where
      available_same : (xs ys : List (ℕ × List ℕ)) (p q : Placement) (v w : ℕ) → answer.Available xs p v ≡ answer.Available ys q w → xs ≡ ys
      available_same xs ys p q v w e = cc

      name_same : (m n : List ℕ) (o r : Option ℕ) → act.Bootstrap m o ≡ act.Bootstrap n r → m ≡ n
      name_same m n o r e = cc

  -- the moves that it says to end are those of the placement
  ends_moves : EndsMoves place name only (joined_of opened) next
  ends_moves = record {
    node = y;
    named = meets.named;
    by_shard = joined_ascend opened (up place lawful y only opened [] all);
    covered = covers_joined place lawful y only opened [] all;
    joining = are_joining place lawful y only opened [] all;
    next = available;
  }

  pub moved_kind : (x : ℕ × List ℕ) (rest : List (ℕ × List ℕ)) → joined_of opened ≡ x ∷ rest → kept_after start (inner_turns turns) place < MOST_VERSIONS → IsOfKind [] start own a b
  moved_kind x rest is room = record {
    before = place;
    stands = (inner_turns turns, record { others = []; some_of = tt; are = sym (append-nil (inner_turns turns)) }, meets.stands);
    made = inl meets.stands;
    room = subst (HadVersion start (inner_turns turns) place) (sym is) room;
    left = subst (λ xs. IsLeftBy place name only xs next) (sym is) (subst (λ xs. EndsMoves place name only xs next) is ends_moves);
    version_is = refl;
  }

  module _ {tells : Bool} (past : List Record) (unanswered later : Option Request) (taking : List Fault) (was : TurnPosition → List LateMessage) (told : IsToldAndServed tells taking was past start turns unanswered events) (may : MayAdd tells past start turns events (line_of a b) more) where
    moved_line : PlainLine start turns events a b more
    moved_line = record {
      makes = record {
        makes = λ i e le two at. elim (which i e le at) as (λ _. MayMake start (take i whole) own e) [
          | inl h ↦ may_make start turns place name only y meets b (take i whole) h.1 e (happens e h.0)
          | inr h ↦ subst (λ es. MayMake start es own e) (sym h.before) (makes_at h.j e h.there)
        ];
        restarts = λ i n s r le two at. absurd (no_restart i n s r le at);
        hears = (hears_begun place lawful y events more name only opened marked last meets.named all refl, hears_streamed place lawful y only opened [] all events more marked refl);
      };
      plain = boot_plain name only b (λ nodes e. cc) refl;
      opened = inl (some_events events place last);
      adds = changes;
      prints = last_prints start turns events b more may.legal told.0 (λ placed is. last_whole ∙ is);
      ends = ends_own;
    }
      where
        changes : (i : ℕ) (e : Event) → At more i e → MayChange own (events ++ take i more) e
        changes i e at = elim (cases_lt i (length front)) as (λ _. MayChange own (events ++ take i more) e) [
          | inl lt ↦ happens_changes place y only own (events ++ take i more) e (happens e (at_in front i e (at_front front marked i e at lt)))
          | inr ge ↦ (
              let k = at_back front marked i e at ge in
              let cut : take i more ≡ front ++ take k.0 marked = ap (λ n. take n more) k.1 ∙ taken start turns front a b marked k.0 in
              subst (λ es. MayChange own es e) (append_assoc events front (take k.0 marked) ∙ ap (λ es. events ++ es) (sym cut)) (changes_at k.0 e k.2)
              )
        ]

    pub moved_serves : IsLawful next → (x : ℕ × List ℕ) (rest : List (ℕ × List ℕ)) → joined_of opened ≡ x ∷ rest → kept_after start (inner_turns turns) place < MOST_VERSIONS → IsToldAndServed tells taking (delivered_on turns was (λ p. [])) past start (turns ++ line_of a b ∷ []) later whole
    moved_serves next_lawful x rest is room =
        by_plain past start turns unanswered later events taking was told place last name only y meets b more may moved_line (in_order next_lawful) tt (answered start turns place name only y meets b (length whole) (moved_kind x rest is room))
