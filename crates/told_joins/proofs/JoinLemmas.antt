-- A run that is told and served stays so by the line of a bootstrap.
use Rattle.std.proofs.Common.{◌≡◌, ◌<◌, ◌∙◌, ℕ, Bool, List, [], ◌∷◌, ◌++◌, length, Option, Some, refl, sym, ap, subst, inl, inr}
use Rattle.std.specs.Prelude.{◌⊎◌, IsTrue}
use Rattle.std.specs.List.{flat_map}
use Rattle.std.proofs.lemmas.List.{append-nil}
use Rattle.m3_model.specs.Members.{IsIn}
use Rattle.m3_model.specs.declared.act.Act.{Act}
use Rattle.m3_model.specs.declared.act.Act.TheVariants as act
use Rattle.m3_model.specs.declared.answer.Answer.{Answer}
use Rattle.m3_model.specs.declared.answer.Answer.TheVariants as answer
use Rattle.m3_model.specs.declared.limits.TheConstants.{MOST_VERSIONS}
use Rattle.m3_model.specs.declared.placement.Assignment.{Assignment}
use Rattle.m3_model.specs.declared.placement.Placement.{Placement}
use Rattle.m3_model.specs.declared.reason.Reason.{Reason}
use Rattle.m3_model.specs.declared.reason.Reason.TheVariants as reason
use Rattle.m3_model.specs.declared.rules.MetaState.{MetaState}
use Rattle.m3_model.specs.declared.turn.Request.{Request}
use Rattle.m3_model.specs.declared.turn.Turn.{Turn}
use Rattle.m3_model.proofs.MemberLemmas.{IsIn-append_cases, IsIn-append_right}
use Rattle.placement_core.specs.Lawful.{IsLawful}
use Rattle.placement_core.proofs.ListLemmas.{Any-from_IsIn}
use Rattle.placement_plan.specs.Plans.{IsAvailable}
use Rattle.cluster_core.specs.Earlier.{last_place}
use Rattle.cluster_core.specs.declared.event.Asked.TheVariants as asked
use Rattle.cluster_core.specs.declared.event.Event.{Event}
use Rattle.cluster_core.specs.declared.event.Event.TheVariants as event
use Rattle.cluster_core.specs.declared.event.StepCall.{StepCall}
use Rattle.cluster_core.specs.declared.event.StepCall.TheVariants as call
use Rattle.cluster_core.specs.declared.event.StepReply.TheVariants as reply
use Rattle.transcripts.specs.Caused.{IsLeftBy, kept_after}
use Rattle.transcripts.specs.Deliveries.{LateMessage}
use Rattle.transcripts.specs.Faults.{Fault}
use Rattle.transcripts.specs.Peers.{HadVersion}
use Rattle.transcripts.specs.Record.{Record, TurnPosition, inner_turns, line_of}
use Rattle.transcripts.specs.Waiting.{is_covering}
use Rattle.told_by.specs.Hears.{HearsRefused, InStretch, IsJoinCall, IsMember}
use Rattle.told_by.specs.Lines.{position_after}
use Rattle.told_causes.proofs.WaitLemmas.{is_member_of}
use Rattle.told_runs.specs.Answers.{IsOfKind, MayLackRoom}
use Rattle.told_runs.specs.Lines.{IsToldAndServed, delivered_on}
use Rattle.peer_streams.specs.Joins.{AskedPeer, IsGiven, IsHeldUp, Opened, begun_with}
use Rattle.told_joins.specs.Laws.{HeldUpJoinsServe, JoinsServe, PartJoinsServe}
use Rattle.told_joins.specs.Lines.{AddsHeldUp, AnswersHeldUp, AreOpened, Leaves, MayAdd, MeetsBoot, added_by, done_by, ends_by, joined_of, marks}
use Rattle.peer_streams.specs.Streams.{IsRefusedCall, fenced_pages, replied}
use Rattle.told_joins.proofs.AskLemmas.{MayHappen, all_happen, ends_covered, held_each, part_each}
use Rattle.told_joins.proofs.FrontLemmas.{answered, front_legal, last_lawful, left_last}
use Rattle.told_joins.proofs.MarkLemmas.{hears_streamed}
use Rattle.told_joins.proofs.LineLemmas.{PrintsNone, front_serves, hears_begun, in_stretch}
use Rattle.told_joins.proofs.MoveLemmas.{moved_serves}

-- ---- it is answered ok

-- what marks the shards that were joined, where there are some
pub marks_are : (y : ℕ) (opened : List Opened) (next : Placement) (xs : List (ℕ × List ℕ)) (x : ℕ × List ℕ) (rest : List (ℕ × List ℕ)) → xs ≡ x ∷ rest → marks y opened xs next ≡ event.Ask (asked.Place next (done_by y xs)) ∷ event.Place next (done_by y xs) ∷ ends_by opened
marks_are y opened next xs x rest is = subst (λ zs. marks y opened zs next ≡ event.Ask (asked.Place next (done_by y zs)) ∷ event.Place next (done_by y zs) ∷ ends_by opened) (sym is) refl

leaves_so : (place : Placement) (y : ℕ) (next : Placement) (xs : List (ℕ × List ℕ)) (x : ℕ × List ℕ) (rest : List (ℕ × List ℕ)) → xs ≡ x ∷ rest → Leaves place y xs next → IsAvailable place (done_by y xs) next × IsLawful next
leaves_so place y next xs x rest is leaves = subst (λ zs. IsAvailable place (done_by y zs) next × IsLawful next) (sym is) (subst (λ zs. Leaves place y zs next) is leaves)

-- an answer that prints no placement
prints_none : (place : Placement) (xs : List (ℕ × List ℕ)) (next : Placement) → xs ≡ [] → next ≡ place → PrintsNone place (answer.Available xs next next.version)
prints_none place xs next none same = record { no_acks = λ nodes e. cc; no_found = refl; printed_is = λ shown e. (let is : next ≡ shown = cc in sym is ∙ same); no_moves = λ available shown version e. (let is : xs ≡ available = cc in sym is ∙ none) }

module _ {tells : Bool} (past : List Record) (start : Option MetaState) (turns : List Turn) (unanswered later : Option Request) (events : List Event) (taking : List Fault) (was : TurnPosition → List LateMessage)
    (told : IsToldAndServed tells taking was past start turns unanswered events) (place : Placement) (name : List ℕ) (only : Option ℕ) (y : ℕ) (meets : MeetsBoot start turns place name only y) where
  abbrev a : Act
  a = act.Bootstrap name only

  abbrev May : Answer → List Event → Type 0
  May b more = MayAdd tells past start turns events (line_of a b) more

  abbrev Goal : Answer → List Event → Type 0
  Goal b more = IsToldAndServed tells taking (delivered_on turns was (λ p. [])) past start (turns ++ line_of a b ∷ []) later (events ++ more)

  pub last_of : (b : Answer) (more : List Event) → May b more → last_place events ≡ Some place
  last_of b more may = left_last start turns events (front_legal events more may.legal) told.0 place meets.stands

  pub lawful_of : (b : Answer) (more : List Event) → May b more → IsLawful place
  lawful_of b more may = last_lawful start turns events told.0 (told.1).order place (last_of b more may)

  module _ (opened : List Opened) (next : Placement) (all : AreOpened place y only opened []) where
    abbrev ok : Answer
    ok = answer.Available (joined_of opened) next next.version

    -- no shard was joined
    stays_so : joined_of opened ≡ [] → next ≡ place → May ok (added_by opened ++ []) → Goal ok (added_by opened ++ [])
    stays_so none same may =
        let last = last_of ok (added_by opened ++ []) may in
        front_serves past start turns unanswered later events taking was told place last name only y meets ok (added_by opened ++ []) may
        (λ e m. elim (IsIn-append_cases (added_by opened) [] e m) as (λ _. MayHappen place y only e) [ inl here ↦ all_happen place y only opened [] all e here | inr nothing ↦ absurd nothing ])
        (prints_none place (joined_of opened) next none same)
        (hears_begun place (lawful_of ok (added_by opened ++ []) may) y events (added_by opened ++ []) name only opened [] last meets.named all refl, hears_streamed place (lawful_of ok (added_by opened ++ []) may) y only opened [] all events (added_by opened ++ []) [] refl) tt
        (answered start turns place name only y meets ok (length (events ++ (added_by opened ++ []))) kind)
      where
        kind : IsOfKind [] start (position_after turns a ok) a ok
        kind = record {
          before = place;
          stands = (inner_turns turns, record { others = []; some_of = tt; are = sym (append-nil (inner_turns turns)) }, meets.stands);
          made = inl meets.stands;
          room = subst (HadVersion start (inner_turns turns) place) (sym none) tt;
          left = subst (λ xs. IsLeftBy place name only xs next) (sym none) same;
          version_is = refl;
        }

    -- some were
    moves_so : (x : ℕ × List ℕ) (rest : List (ℕ × List ℕ)) → joined_of opened ≡ x ∷ rest → kept_after start (inner_turns turns) place < MOST_VERSIONS → Leaves place y (joined_of opened) next → (more : List Event) → more ≡ added_by opened ++ marks y opened (joined_of opened) next → May ok more → Goal ok more
    moves_so x rest is room leaves more adds may =
        let l = leaves_so place y next (joined_of opened) x rest is leaves in
        let shape = adds ∙ ap (λ es. added_by opened ++ es) (marks_are y opened next (joined_of opened) x rest is) in
        let shaped = subst (May ok) shape may in
        subst (Goal ok) (sym shape)
        (moved_serves place (lawful_of ok more may) start turns events (last_of ok more may) name only y meets opened all next l.0 past unanswered later taking was told shaped l.1 x rest is room)

    none_so : joined_of opened ≡ [] → Leaves place y (joined_of opened) next → (more : List Event) → more ≡ added_by opened ++ marks y opened (joined_of opened) next → May ok more → Goal ok more
    none_so none leaves more adds may =
        let shape = adds ∙ ap (λ xs. added_by opened ++ marks y opened xs next) none in
        subst (Goal ok) (sym shape) (stays_so none (subst (λ xs. Leaves place y xs next) none leaves) (subst (May ok) shape may))

    roomy_so : kept_after start (inner_turns turns) place < MOST_VERSIONS → Leaves place y (joined_of opened) next → (more : List Event) → more ≡ added_by opened ++ marks y opened (joined_of opened) next → May ok more → Goal ok more
    roomy_so room leaves more adds may = by (joined_of opened) refl
      where
        by : (xs : List (ℕ × List ℕ)) → joined_of opened ≡ xs → Goal ok more
        by [] none = none_so none leaves more adds may
        by (x ∷ rest) is = moves_so x rest is room leaves more adds may

    joined_so : (joined_of opened ≡ []) ⊎ (kept_after start (inner_turns turns) place < MOST_VERSIONS) → Leaves place y (joined_of opened) next → (more : List Event) → more ≡ added_by opened ++ marks y opened (joined_of opened) next → May ok more → Goal ok more
    joined_so (inl none) leaves more adds may = none_so none leaves more adds may
    joined_so (inr room) leaves more adds may = roomy_so room leaves more adds may

  -- ---- it comes to no placement

  wanted_so : (more : List Event) → ((e : Event) → IsIn more e → MayHappen place y only e) → May answer.Memory more → Goal answer.Memory more
  wanted_so more each may =
      front_serves past start turns unanswered later events taking was told place (last_of answer.Memory more may) name only y meets answer.Memory more may each
      (record { no_acks = λ nodes e. cc; no_found = refl; printed_is = λ p e. cc; no_moves = λ available p version e. cc }) tt tt (inl refl)

  full_so : (more : List Event) → ((e : Event) → IsIn more e → MayHappen place y only e) → May answer.Full more → MayLackRoom (length (events ++ more)) → Goal answer.Full more
  full_so more each may room =
      front_serves past start turns unanswered later events taking was told place (last_of answer.Full more may) name only y meets answer.Full more may each
      (record { no_acks = λ nodes e. cc; no_found = refl; printed_is = λ p e. cc; no_moves = λ available p version e. cc }) tt tt (inr (inl (refl, room)))

  -- ---- a replica of the node ends it

  -- what it refused, where memory wasn't wanted
  HasRefused : ℕ → Reason → List Event → Type 0
  HasRefused s why es = (c : StepCall) × IsJoinCall c × IsIn es (event.Step y s c (reply.Refused why))

  call_refused : (s : ℕ) (c : StepCall) (why : Reason) (es : List Event) → IsRefusedCall y s c why es → (why ≡ reason.Memory → ⊥) → IsIn es (event.Step y s c (reply.Refused why))
  call_refused s c why es (inl is) not = subst (λ xs. IsIn xs (event.Step y s c (reply.Refused why))) (sym is) (inr (inl refl))
  call_refused s c why es (inr (memory, rest)) not = absurd (not memory)

  held_refused : (s : ℕ) (why : Reason) (es : List Event) → IsHeldUp place s y why es → (why ≡ reason.Memory → ⊥) → HasRefused s why es
  unfolding HasRefused
  held_refused s why es held not = elim held.so as (λ _. (c : StepCall) × IsJoinCall c × IsIn es (event.Step y s c (reply.Refused why))) [
    | inl refused ↦ (call.Begin (held.own).tenure, tt, call_refused s (call.Begin (held.own).tenure) why es refused not)
    | inr breaks ↦ (
        let off = breaks.broken in
        let merge = off.refused in
        let step : Event = event.Step y s (call.Merge merge.page) (reply.Refused why) in
        let in_last = call_refused s (call.Merge merge.page) why merge.last merge.refused not in
        let in_stream = subst (λ xs. IsIn xs step) (sym merge.are) (IsIn-append_right (fenced_pages s off.peer y (held.own).tenure merge.pages) _ step (IsIn-append_right (replied off.peer s (call.Page merge.next) (reply.Paged merge.page)) merge.last step in_last)) in
        let in_peers = subst (λ xs. IsIn xs step) (sym off.are) (IsIn-append_right (flat_map (λ (p : AskedPeer). p.added) off.peers) off.last step in_stream) in
        (call.Merge merge.page, tt, subst (λ xs. IsIn xs step) (sym breaks.are) (IsIn-append_right (begun_with y s (held.own).tenure breaks.fence breaks.points) breaks.streamed step in_peers))
        )
  ]

  given_member : (s : ℕ) (own : Assignment) → IsGiven place y s own → IsMember s place y
  given_member s own given = is_member_of place s y own.tenure (given.shard, given.there, Any-from_IsIn (λ (x : Assignment). (x.node ≡ y) × (x.tenure ≡ own.tenure)) given.shard own given.among (given.to_node, refl))

  module _ (s : ℕ) (why : Reason) (b : Answer) (more : List Event) (adds : AddsHeldUp place y only s why more) (may : May b more) where
    covers : IsTrue (is_covering s only)
    covers = ends_covered place y only adds.opened s adds.left adds.before

    each : (e : Event) → IsIn more e → MayHappen place y only e
    each = held_each place y only s why more adds

    refused_so : (why ≡ reason.Memory → ⊥) → HearsRefused events (InStretch (events ++ more) (length events) (length (events ++ more))) (IsMember s) name s IsJoinCall why
    unfolding HasRefused
    refused_so not =
        let r = held_refused s why adds.last adds.held not in
        let step : Event = event.Step y s r.0 (reply.Refused why) in
        let in_more = subst (λ xs. IsIn xs step) (sym adds.adds) (IsIn-append_right (added_by adds.opened) adds.last step r.2) in
        record {
          node = y;
          of_node = record { place = place; last = last_of b more may; named = meets.named };
          reached = given_member s (adds.held).own (adds.held).given;
          step = (r.0, r.1, in_stretch events more step in_more);
        }

  held_so : (s : ℕ) (why : Reason) (b : Answer) (more : List Event) → AddsHeldUp place y only s why more → AnswersHeldUp name s why b → May b more → Goal b more
  held_so s reason.Disk b more adds is may =
      let shown : May (answer.Disk name s) more = subst (λ c. May c more) is may in
      subst (λ c. Goal c more) (sym is) (front_serves past start turns unanswered later events taking was told place (last_of (answer.Disk name s) more shown) name only y meets (answer.Disk name s) more shown
      (each s reason.Disk (answer.Disk name s) more adds shown) (record { no_acks = λ nodes e. cc; no_found = refl; printed_is = λ p e. cc; no_moves = λ available p version e. cc })
      (refl, covers s reason.Disk (answer.Disk name s) more adds shown, refused_so s reason.Disk (answer.Disk name s) more adds shown (λ e. cc)) tt
      (answered start turns place name only y meets (answer.Disk name s) (length (events ++ more)) tt))
  held_so s (reason.Corrupt damage) b more adds (is, damaged) may =
      let shown : May (answer.Corrupt name s damage) more = subst (λ c. May c more) is may in
      subst (λ c. Goal c more) (sym is) (front_serves past start turns unanswered later events taking was told place (last_of (answer.Corrupt name s damage) more shown) name only y meets (answer.Corrupt name s damage) more shown
      (each s (reason.Corrupt damage) (answer.Corrupt name s damage) more adds shown) (record { no_acks = λ nodes e. cc; no_found = refl; printed_is = λ p e. cc; no_moves = λ available p version e. cc })
      (refl, covers s (reason.Corrupt damage) (answer.Corrupt name s damage) more adds shown, damaged, refused_so s (reason.Corrupt damage) (answer.Corrupt name s damage) more adds shown (λ e. cc)) tt
      (answered start turns place name only y meets (answer.Corrupt name s damage) (length (events ++ more)) tt))
  held_so s reason.Memory b more adds is may =
      let shown : May answer.Memory more = subst (λ c. May c more) is may in
      subst (λ c. Goal c more) (sym is) (wanted_so more (each s reason.Memory answer.Memory more adds shown) shown)
  held_so s _ b more adds is may = absurd ((adds.held).ends)

pub joins_serve : {tells : Bool} → JoinsServe tells
joins_serve {tells} past start turns unanswered later events taking was told place name only y b more meets may line =
    subst (λ c. IsToldAndServed tells taking (delivered_on turns was (λ p. [])) past start (turns ++ line_of (act.Bootstrap name only) c ∷ []) later (events ++ more)) (sym line.answers)
    (joined_so past start turns unanswered later events taking was told place name only y meets line.opened line.next (line.adds).all line.room (line.adds).leaves more (line.adds).adds (subst (λ c. MayAdd tells past start turns events (line_of (act.Bootstrap name only) c) more) line.answers may))

pub held_up_serve : {tells : Bool} → HeldUpJoinsServe tells
held_up_serve {tells} past start turns unanswered later events taking was told place name only y b more meets may line =
    held_so past start turns unanswered later events taking was told place name only y meets line.shard line.why b more line.adds line.answers may

pub part_serves : {tells : Bool} → PartJoinsServe tells
part_serves {tells} past start turns unanswered later events taking was told place name only y b more meets may line = elim line.answers as (λ _. IsToldAndServed tells taking (delivered_on turns was (λ p. [])) past start (turns ++ line_of (act.Bootstrap name only) b ∷ []) later (events ++ more)) [
  | inl wanted ↦
      subst (λ c. IsToldAndServed tells taking (delivered_on turns was (λ p. [])) past start (turns ++ line_of (act.Bootstrap name only) c ∷ []) later (events ++ more)) (sym wanted)
      (wanted_so past start turns unanswered later events taking was told place name only y meets more (part_each place y only more line.adds) (subst (λ c. MayAdd tells past start turns events (line_of (act.Bootstrap name only) c) more) wanted may))
  | inr full ↦
      subst (λ c. IsToldAndServed tells taking (delivered_on turns was (λ p. [])) past start (turns ++ line_of (act.Bootstrap name only) c ∷ []) later (events ++ more)) (sym full.0)
      (full_so past start turns unanswered later events taking was told place name only y meets more (part_each place y only more line.adds) (subst (λ c. MayAdd tells past start turns events (line_of (act.Bootstrap name only) c) more) full.0 may) full.1)
]
