-- The line of a bootstrap that ends no move: too few former replicas streamed whole, or no version is left.
use Rattle.std.proofs.Common.{◌≡◌, ◌≢◌, ◌≤◌, ◌+◌, ℕ, suc, Bool, true, false, List, [], ◌∷◌, ◌++◌, length, map, filter, Option, Some, None, refl, sym, ap, subst, inl, inr, arith, length-append, ◌∙◌}
use Rattle.std.specs.Prelude.{slice_get, IsTrue, MatchOption, is_none, option_map, if◌then◌else◌}
use Rattle.std.specs.List.{cons_option, flat_map}
use Rattle.std.proofs.lemmas.List.{append-nil, length-map}
use Rattle.std.proofs.lemmas.Option.{same_Some}
use Rattle.m3_model.specs.Ascends.{Ascends}
use Rattle.m3_model.specs.Members.{IsIn}
use Rattle.m3_model.specs.declared.act.Act.{Act}
use Rattle.m3_model.specs.declared.act.Act.TheVariants as act
use Rattle.m3_model.specs.declared.answer.Answer.{Answer}
use Rattle.m3_model.specs.declared.answer.Answer.TheVariants as answer
use Rattle.m3_model.specs.declared.limits.TheConstants.{MOST_VERSIONS}
use Rattle.m3_model.specs.declared.placement.Placement.{Placement}
use Rattle.m3_model.specs.declared.reason.Damage.{Damage}
use Rattle.m3_model.specs.declared.reason.Reason.{Reason}
use Rattle.m3_model.specs.declared.reason.Reason.TheVariants as reason
use Rattle.m3_model.specs.declared.rules.MetaState.{MetaState}
use Rattle.m3_model.specs.declared.turn.Request.{Request}
use Rattle.m3_model.specs.declared.turn.Turn.{Turn}
use Rattle.m3_model.proofs.Ascending.{Ascends-weaken}
use Rattle.m3_model.proofs.Lists.{flat_map-IsIn}
use Rattle.m3_model.proofs.MemberLemmas.{IsIn-append_left, IsIn-append_right, IsIn-filter_map, IsIn-map, filter_map-IsIn, map-IsIn}
use Rattle.placement_core.specs.Lawful.{IsLawful}
use Rattle.placement_core.specs.NodeNames.{IsNamedBelow}
use Rattle.placement_core.specs.Shards.{Shard, former, holders, is_steady, shard_at}
use Rattle.placement_core.proofs.HolderLemmas.{distinct_holders}
use Rattle.cluster_core.specs.Earlier.{last_place}
use Rattle.cluster_core.specs.declared.event.Event.{Event}
use Rattle.cluster_core.specs.declared.event.Event.TheVariants as event
use Rattle.cluster_core.specs.declared.event.StepCall.{StepCall}
use Rattle.cluster_core.specs.declared.event.StepCall.TheVariants as call
use Rattle.cluster_core.specs.declared.event.StepReply.TheVariants as reply
use Rattle.cluster_core.proofs.ListLemmas.{at_in}
use Rattle.cluster_core.proofs.QuorumLemmas.{distinct_within}
use Rattle.transcripts.specs.Caused.{kept_after}
use Rattle.transcripts.specs.Deliveries.{LateMessage}
use Rattle.transcripts.specs.Fates.{IsRunningAt, OfNode}
use Rattle.transcripts.specs.Faults.{Fault}
use Rattle.transcripts.specs.Joined.{ArePeers}
use Rattle.transcripts.specs.Peers.{IsJoinedBy}
use Rattle.transcripts.specs.Placements.{placement_after, start_placement}
use Rattle.transcripts.specs.Reasons.{IsShown}
use Rattle.transcripts.specs.Record.{AreSomeOf, InnerTurn, Record, TurnPosition, inner_turns, line_of}
use Rattle.transcripts.specs.Waiting.{IsBegunFor, is_covering}
use Rattle.told_by.specs.Hears.{Happens, HearsPeers, HearsReason, InStretch, IsStreamCall}
use Rattle.told_by.specs.Lines.{PlainLine, position_after}
use Rattle.told_by.proofs.LeaveLemmas.{place_there}
use Rattle.told_causes.proofs.WaitLemmas.{shard_is}
use Rattle.told_runs.specs.Answers.{HearsFenced, IsOfKind}
use Rattle.told_runs.specs.Lines.{IsToldAndServed, delivered_on}
use Rattle.told_runs.proofs.FormerLemmas.{former_named, former_there}
use Rattle.told_runs.proofs.RunningLemmas.{fenced_there}
use Rattle.peer_streams.specs.Joins.{AreAsked, AskedPeer, HasJoinedBy, Opened, begun_with, is_streamed, reasons_of, streamed_of}
use Rattle.told_joins.specs.Laws.{MissedJoinsServe, UnmarkedJoinsServe}
use Rattle.told_joins.specs.Lines.{AddsMissed, AddsUnmarked, MayAdd, MeetsBoot, added_by, missed_answer}
use Rattle.peer_streams.specs.Streams.{IsBroken, IsRefusedCall, IsWhole, fenced_pages}
use Rattle.told_joins.proofs.AskLemmas.{MayHappen, ends_covered, missed_each, unmarked_each}
use Rattle.told_joins.proofs.FrontLemmas.{answered}
use Rattle.told_joins.proofs.JoinLemmas.{last_of, lawful_of}
use Rattle.told_joins.proofs.LineLemmas.{PrintsNone, front_line, front_serves, in_stretch}
use Rattle.told_joins.proofs.ListLemmas.{ascends_of, below_differs}
use Rattle.told_joins.proofs.MarkLemmas.{WasJoined, are_by_name, are_enough, covers_one, fenced_each, how, joined_in}

-- ---- counts

abbrev node : AskedPeer → ℕ
node p = p.node

abbrev with_reason : AskedPeer → Option (ℕ × Reason)
with_reason p = option_map (λ (why : Reason). (p.node, why)) p.why

-- one more that was asked
one_more : (p : AskedPeer) (peers : List AskedPeer) → length (streamed_of peers) + length (reasons_of peers) ≡ length peers → (why : Option Reason) → p.why ≡ why → length (streamed_of (p ∷ peers)) + length (reasons_of (p ∷ peers)) ≡ suc (length peers)
one_more p peers rest None is =
    let streamed : streamed_of (p ∷ peers) ≡ p.node ∷ streamed_of peers = ap (λ w. map node (if is_none w then p ∷ filter is_streamed peers else filter is_streamed peers)) is in
    let reasons : reasons_of (p ∷ peers) ≡ reasons_of peers = ap (λ w. cons_option (option_map (λ (r : Reason). (p.node, r)) w) (reasons_of peers)) is in
    omega (arith, ap length streamed, ap length reasons, rest)
one_more p peers rest (Some why) is =
    let streamed : streamed_of (p ∷ peers) ≡ streamed_of peers = ap (λ w. map node (if is_none w then p ∷ filter is_streamed peers else filter is_streamed peers)) is in
    let reasons : reasons_of (p ∷ peers) ≡ (p.node, why) ∷ reasons_of peers = ap (λ w. cons_option (option_map (λ (r : Reason). (p.node, r)) w) (reasons_of peers)) is in
    omega (arith, ap length streamed, ap length reasons, rest)

-- each that was asked streamed or has a reason
each_counts : (peers : List AskedPeer) → length (streamed_of peers) + length (reasons_of peers) ≡ length peers
each_counts [] = refl
each_counts (p ∷ peers) = one_more p peers (each_counts peers) p.why refl

-- ---- reasons

-- one that refused, with its reason
record WasBroken (peers : List AskedPeer) (x : ℕ × Reason) : Type 0 where
  one : AskedPeer
  among : IsIn peers one
  why : Reason
  refused : one.why ≡ Some why
  is : (one.node, why) ≡ x

broken_in : (peers : List AskedPeer) (x : ℕ × Reason) → IsIn (reasons_of peers) x → WasBroken peers x
broken_in peers x m = let p = IsIn-filter_map with_reason peers x m in by p.0 p.1 (p.0).why refl p.2
  where
    by : (p : AskedPeer) → IsIn peers p → (why : Option Reason) → p.why ≡ why → option_map (λ (w : Reason). (p.node, w)) why ≡ Some x → WasBroken peers x
    by p among None is e = cc
    by p among (Some why) is e = record { one = p; among = among; why = why; refused = is; is = same_Some (p.node, why) x e }

reasons_on : (place : Placement) (p : AskedPeer) (peers : List AskedPeer) → ((z : AskedPeer) → IsIn peers z → IsNamedBelow place p.node z.node) → Ascends (λ (a b : ℕ × Reason). IsNamedBelow place a.0 b.0) (reasons_of peers) → (why : Option Reason)
    → Ascends (λ (a b : ℕ × Reason). IsNamedBelow place a.0 b.0) (cons_option (option_map (λ (w : Reason). (p.node, w)) why) (reasons_of peers))
reasons_on place p peers first rest None = rest
reasons_on place p peers first rest (Some why) = (λ x m. let w = broken_in peers x m in subst (λ (z : ℕ × Reason). IsNamedBelow place p.node z.0) w.is (first w.one w.among), rest)

reasons_ascend : (place : Placement) (peers : List AskedPeer) → Ascends (λ (a b : AskedPeer). IsNamedBelow place a.node b.node) peers → Ascends (λ (a b : ℕ × Reason). IsNamedBelow place a.0 b.0) (reasons_of peers)
reasons_ascend place [] up = tt
reasons_ascend place (p ∷ peers) up = reasons_on place p peers up.0 (reasons_ascend place peers up.1) p.why

-- ---- former replicas

former_distinct : (place : Placement) → IsLawful place → (s : ℕ) (shard : Shard) → slice_get place.shards s ≡ Some shard → Ascends ◌≢◌ (former shard)
former_distinct place lawful s shard there = by (is_steady shard)
  where
    by : (steady : Bool) → Ascends ◌≢◌ (if steady then [] else holders shard)
    by true = tt
    by false = distinct_holders place.rf place.version shard (lawful.shards shard (at_in place.shards s shard there))

-- where all were asked they are as many as the former replicas
all_asked : (place : Placement) → IsLawful place → (s y : ℕ) (shard : Shard) (tenure : ℕ) (peers : List AskedPeer) → slice_get place.shards s ≡ Some shard → AreAsked place s shard y tenure peers [] → length peers ≡ length (former shard)
all_asked place lawful s y shard tenure peers there asked =
    let nodes : List ℕ = map node peers ++ [] in
    let differ = Ascends-weaken (IsNamedBelow place) ◌≢◌ nodes (below_differs place) asked.by_name in
    let few = distinct_within nodes (former shard) differ (λ n m. (asked.are_former n).0 m) in
    let many = distinct_within (former shard) nodes (former_distinct place lawful s shard there) (λ n m. (asked.are_former n).1 m) in
    omega (arith, few, many, length-append (map node peers) [], length-map peers node)

-- ---- what is heard

-- a turn that is alone in its line sees the placement that stands before it
stands_alone : (start : Option MetaState) (turns : List Turn) (place moving : Placement) → placement_after (start_placement start) (inner_turns turns) ≡ Some place → (seen others : List InnerTurn) → AreSomeOf others [] → seen ≡ inner_turns turns ++ others
    → placement_after (start_placement start) seen ≡ Some moving → moving ≡ place
stands_alone start turns place moving stood seen [] some are stands = same_Some moving place (sym stands ∙ ap (placement_after (start_placement start)) (are ∙ append-nil (inner_turns turns)) ∙ stood)
stands_alone start turns place moving stood seen (x ∷ others) some are stands = absurd some

module _ (s q y tenure : ℕ) where
  call_there : (c : StepCall) (why : Reason) (es : List Event) → IsRefusedCall q s c why es → (why ≡ reason.Memory → ⊥) → IsIn es (event.Step q s c (reply.Refused why))
  call_there c why es (inl is) not = subst (λ xs. IsIn xs (event.Step q s c (reply.Refused why))) (sym is) (inr (inl refl))
  call_there c why es (inr (memory, rest)) not = absurd (not memory)

  broken_there : (why : Reason) (es : List Event) → IsBroken s q y tenure why es → (why ≡ reason.Memory → ⊥) → (c : StepCall) × IsStreamCall tenure c × IsIn es (event.Step q s c (reply.Refused why))
  broken_there why es (inl fence) not = (call.Fence tenure, refl, call_there (call.Fence tenure) why es fence not)
  broken_there why es (inr page) not =
      let step : Event = event.Step q s (call.Page page.next) (reply.Refused why) in
      let last = call_there (call.Page page.next) why page.last page.refused not in
      (call.Page page.next, tt, subst (λ xs. IsIn xs step) (sym page.are) (IsIn-append_right (fenced_pages s q y tenure page.pages) page.last step last))

  heard_so : (Here : ℕ → Event → Type 0) (es : List Event) → ((e : Event) → IsIn es e → (i : ℕ) × Here i e) → (why : Reason) → IsBroken s q y tenure why es → ((damage : Damage) → why ≡ reason.Corrupt damage → IsShown damage) → HearsReason Here (IsStreamCall tenure) q s why
  heard_so Here es happens reason.Memory broken shown = tt
  heard_so Here es happens (reason.Corrupt damage) broken shown = let r = broken_there (reason.Corrupt damage) es broken (λ e. cc) in (shown damage refl, (r.0, r.1, happens _ r.2))
  heard_so Here es happens reason.Cut broken shown = let r = broken_there reason.Cut es broken (λ e. cc) in (r.0, r.1, happens _ r.2)
  heard_so Here es happens reason.Down broken shown = let r = broken_there reason.Down es broken (λ e. cc) in (r.0, r.1, happens _ r.2)
  heard_so Here es happens reason.Boot broken shown = let r = broken_there reason.Boot es broken (λ e. cc) in (r.0, r.1, happens _ r.2)
  heard_so Here es happens reason.NotOwned broken shown = let r = broken_there reason.NotOwned es broken (λ e. cc) in (r.0, r.1, happens _ r.2)
  heard_so Here es happens (reason.Stale fence) broken shown = let r = broken_there (reason.Stale fence) es broken (λ e. cc) in (r.0, r.1, happens _ r.2)
  heard_so Here es happens reason.Past broken shown = let r = broken_there reason.Past es broken (λ e. cc) in (r.0, r.1, happens _ r.2)
  heard_so Here es happens reason.Future broken shown = let r = broken_there reason.Future es broken (λ e. cc) in (r.0, r.1, happens _ r.2)
  heard_so Here es happens reason.Disk broken shown = let r = broken_there reason.Disk es broken (λ e. cc) in (r.0, r.1, happens _ r.2)

-- ---- the lines

module _ {tells : Bool} (past : List Record) (start : Option MetaState) (turns : List Turn) (unanswered later : Option Request) (events : List Event) (taking : List Fault) (was : TurnPosition → List LateMessage)
    (told : IsToldAndServed tells taking was past start turns unanswered events) (place : Placement) (name : List ℕ) (only : Option ℕ) (y : ℕ) (meets : MeetsBoot start turns place name only y) where
  abbrev a : Act
  a = act.Bootstrap name only

  module _ (s : ℕ) (peers : List AskedPeer) (more : List Event) (adds : AddsMissed place y only s peers more) (may : MayAdd tells past start turns events (line_of a (missed_answer place s peers)) more) where
    abbrev missed : Answer
    missed = missed_answer place s peers

    abbrev Here : ℕ → Event → Type 0
    Here = InStretch (events ++ more) (length events) (length (events ++ more))

    last : last_place events ≡ Some place
    last = last_of past start turns unanswered later events taking was told place name only y meets missed more may

    lawful : IsLawful place
    lawful = lawful_of past start turns unanswered later events taking was told place name only y meets missed more may

    covers : IsTrue (is_covering s only)
    covers = ends_covered place y only adds.opened s adds.left adds.before

    each : (e : Event) → IsIn more e → MayHappen place y only e
    each = missed_each place y only s peers more adds

    -- what one former replica added happens in the turn's stretch
    here_of : (p : AskedPeer) → IsIn peers p → (e : Event) → IsIn p.added e → (i : ℕ) × Here i e
    here_of p among e m =
        let h = adds.misses in
        let in_peers = flat_map-IsIn (λ (x : AskedPeer). x.added) peers p e among m in
        let in_last = subst (λ xs. IsIn xs e) (sym h.are) (IsIn-append_right (begun_with y s (h.joining).tenure h.fence h.points) (flat_map (λ (x : AskedPeer). x.added) peers) e in_peers) in
        in_stretch events more e (subst (λ xs. IsIn xs e) (sym adds.adds) (IsIn-append_right (added_by adds.opened) adds.last e in_last))

    heard : (x : ℕ × Reason) → IsIn (reasons_of peers) x → HearsReason Here (IsStreamCall ((adds.misses).joining).tenure) x.0 s x.1
    heard x m = of_one (broken_in peers x m)
      where
        of_one : WasBroken peers x → HearsReason Here (IsStreamCall ((adds.misses).joining).tenure) x.0 s x.1
        of_one w =
            let h = adds.misses in
            let broken : IsBroken s (w.one).node y (h.joining).tenure w.why (w.one).added =
            subst (λ o. MatchOption o (IsWhole s (w.one).node y (h.joining).tenure (w.one).added) (λ why. IsBroken s (w.one).node y (h.joining).tenure why (w.one).added)) w.refused ((h.asked).each w.one w.among) in
            let among : IsIn (reasons_of peers) ((w.one).node, w.why) = subst (IsIn (reasons_of peers)) (sym w.is) m in
            subst (λ (z : ℕ × Reason). HearsReason Here (IsStreamCall (h.joining).tenure) z.0 s z.1) w.is
            (heard_so s (w.one).node y (h.joining).tenure Here (w.one).added (here_of w.one w.among) w.why broken (λ damage e. adds.shown (w.one).node damage (subst (λ why. IsIn (reasons_of peers) ((w.one).node, why)) e among)))

    -- one that streamed was fenced
    fenced_by : (p : AskedPeer) → IsIn peers p → (IsIn (map (λ r. r.0) (reasons_of peers)) p.node → ⊥) → (why : Option Reason) → p.why ≡ why → (version : ℕ) × Happens Here (event.Step p.node s (call.Fence version) reply.Done)
    fenced_by p among unnamed (Some why) is = absurd (unnamed (map-IsIn (λ (r : ℕ × Reason). r.0) (reasons_of peers) (p.node, why) (filter_map-IsIn with_reason peers p (p.node, why) among (ap (option_map (λ (w : Reason). (p.node, w))) is))))
    fenced_by p among unnamed None is =
        let tenure = ((adds.misses).joining).tenure in
        let fence : Event = event.Step p.node s (call.Fence tenure) reply.Done in
        let whole : IsWhole s p.node y tenure p.added =
        subst (λ o. MatchOption o (IsWhole s p.node y tenure p.added) (λ why. IsBroken s p.node y tenure why p.added)) is (((adds.misses).asked).each p among) in
        (tenure, here_of p among fence (subst (λ xs. IsIn xs fence) (sym whole.are) (inr (inl refl))))

    -- so each former replica that has no reason was
    fenced : HearsFenced start Here (position_after turns a missed) (reasons_of peers) s
    fenced moving stands q among unnamed =
        let h = adds.misses in
        let same : moving ≡ place = stands_alone start turns place moving meets.stands stands.0 (stands.1).others (stands.1).some_of (stands.1).are stands.2 in
        let is_former : IsIn (former (h.given).shard) q = subst (λ xs. IsIn (former xs) q) (ap (λ (x : Placement). shard_at x s) same ∙ shard_is place.shards s (h.given).shard (h.given).there) among in
        let one = IsIn-map node peers q (subst (λ xs. IsIn xs q) (append-nil (map node peers)) (((h.asked).are_former q).1 is_former)) in
        let done = fenced_by one.0 one.1 (λ m. unnamed (subst (IsIn (map (λ r. r.0) (reasons_of peers))) one.2 m)) (one.0).why refl in
        (done.0, subst (λ n. Happens Here (event.Step n s (call.Fence done.0) reply.Done)) one.2 done.1)

    hears : HearsPeers events Here s (reasons_of peers)
    hears = let h = adds.misses in record {
      place = place;
      last = last;
      assignments = (h.given).shard;
      there = (h.given).there;
      joining = h.joining;
      among = (h.given).among;
      is_joining = h.is_joining;
      heard = heard;
    }

    joins : IsJoinedBy place name only s
    joins = let h = adds.misses in record {
      node = y;
      named = meets.named;
      covers = covers;
      joining = h.joining;
      among = subst (λ xs. IsIn xs h.joining) (sym (shard_is place.shards s (h.given).shard (h.given).there)) (h.given).among;
      of_node = (h.given).to_node;
      is_joining = h.is_joining;
    }

    kind : IsOfKind [] start (position_after turns a missed) a missed
    kind =
        let h = adds.misses in
        let same : shard_at place s ≡ (h.given).shard = shard_is place.shards s (h.given).shard (h.given).there in
        let count = all_asked place lawful s y (h.given).shard (h.joining).tenure peers (h.given).there h.asked in
        record {
          place = place;
          stands = (inner_turns turns, record { others = []; some_of = tt; are = sym (append-nil (inner_turns turns)) }, meets.stands);
          joins = joins;
          needed_is = refl;
          fewer = h.fewer;
          others = omega (arith, each_counts peers, count, ap (λ xs. length (former xs)) same);
          of_former = λ r m.
              let w = broken_in peers r m in
              let asked_one = ((h.asked).are_former (w.one).node).0 (IsIn-append_left (map node peers) [] (w.one).node (map-IsIn node peers w.one w.among)) in
              subst (λ xs. IsIn (former xs) r.0) (sym same) (subst (λ (z : ℕ × Reason). IsIn (former (h.given).shard) z.0) w.is asked_one);
          by_name = reasons_ascend place peers (ascends_of (IsNamedBelow place) node peers (subst (Ascends (IsNamedBelow place)) (append-nil (map node peers)) (h.asked).by_name));
        }

    missed_so : IsToldAndServed tells taking (delivered_on turns was (λ p. [])) past start (turns ++ line_of a missed ∷ []) later (events ++ more)
    missed_so =
        front_serves past start turns unanswered later events taking was told place last name only y meets missed more may each
        (record { no_acks = λ nodes e. cc; no_found = refl; printed_is = λ p e. cc; no_moves = λ available p version e. cc }) hears fenced (answered start turns place name only y meets missed (length (events ++ more)) kind)

  module _ (kept : ℕ) (kept_is : kept ≡ kept_after start (inner_turns turns) place) (more : List Event) (adds : AddsUnmarked place y only kept more) (may : MayAdd tells past start turns events (line_of a (answer.Limit MOST_VERSIONS)) more) where
    abbrev limit : Answer
    limit = answer.Limit MOST_VERSIONS

    last_is : last_place events ≡ Some place
    last_is = last_of past start turns unanswered later events taking was told place name only y meets limit more may

    low : IsLawful place
    low = lawful_of past start turns unanswered later events taking was told place name only y meets limit more may

    prints : PrintsNone place limit
    prints = record { no_acks = λ nodes e. cc; no_found = refl; printed_is = λ p e. cc; no_moves = λ available p version e. cc }

    line : PlainLine start turns events a limit more
    line = front_line past start turns unanswered later events taking was told place last_is name only y meets limit more may (unmarked_each place y only kept more adds) prints tt

    -- those that the node streamed from were fenced in the line, so they run, and were begun
    peers_serve : (w : WasJoined adds.opened adds.joined) (h : HasJoinedBy place (w.one).shard y w.join (w.one).added) → (q : ℕ) → IsIn (w.join).peers q → IsRunningAt (position_after turns a limit) place q × IsBegunFor start (position_after turns a limit) place (w.one).shard q
    peers_serve w h q among =
        let enough = are_enough place low y only adds.opened [] adds.all w.one w.join h in
        let one = former_there place low (w.one).shard (h.given).shard (h.given).there q (enough.within q among) in
        let placed = place_there events place last_is in
        let fence : Event = event.Step q (w.one).shard (call.Fence (h.joining).tenure) reply.Done in
        let added : IsIn more fence = subst (λ xs. IsIn xs fence) (sym adds.adds) (flat_map-IsIn (λ (z : Opened). z.added) adds.opened w.one fence w.among (fenced_each place low y only adds.opened [] adds.all w.one w.join h q among)) in
        let own : OfNode place (h.joining).node (λ own. own ≡ name) = subst (λ n. OfNode place n (λ own. own ≡ name)) (sym (h.given).to_node) meets.named in
        let other = former_named place low (w.one).shard (h.given).shard (h.given).there h.joining (h.given).among (h.joins).0 name own q (enough.within q among) one.0 one.1 in
        fenced_there past start turns unanswered events taking was told name only limit more line may.legal placed.0 place placed.1 placed.2 q one.0 one.1 other (w.one).shard (h.joining).tenure (in_stretch events more fence added)

    lacks : IsOfKind [] start (position_after turns a limit) a limit
    lacks =
        let w = joined_in adds.opened adds.joined adds.among in
        let h = how place low y only adds.opened [] adds.all w.one w.join w.among w.joined in
        let enough = are_enough place low y only adds.opened [] adds.all w.one w.join h in
        let same : shard_at place (w.one).shard ≡ (h.given).shard = shard_is place.shards (w.one).shard (h.given).shard (h.given).there in
        record {
          turns = inner_turns turns;
          after = record { others = []; some_of = tt; are = sym (append-nil (inner_turns turns)) };
          place = place;
          stands = meets.stands;
          shard = (w.one).shard;
          joins = record {
            node = y;
            named = meets.named;
            covers = covers_one place low y only adds.opened [] adds.all w.one w.among;
            joining = h.joining;
            among = subst (λ xs. IsIn xs h.joining) (sym same) (h.given).among;
            of_node = (h.given).to_node;
            is_joining = (h.joins).0;
          };
          peers = (w.join).peers;
          are_peers = subst (λ xs. ArePeers start (position_after turns a limit) place (w.one).shard xs (w.join).peers) (sym same) (record {
            by_name = are_by_name place low y only adds.opened [] adds.all w.one w.join h;
            within = enough.within;
            running = λ q m. (peers_serve w h q m).0;
            begun = λ q m. (peers_serve w h q m).1;
            enough = enough.enough;
          });
          limit_is = refl;
          reached = subst (λ n. MOST_VERSIONS ≤ n) kept_is adds.reached;
        }

    unmarked_so : IsToldAndServed tells taking (delivered_on turns was (λ p. [])) past start (turns ++ line_of a limit ∷ []) later (events ++ more)
    unmarked_so =
        front_serves past start turns unanswered later events taking was told place last_is name only y meets limit more may (unmarked_each place y only kept more adds) prints tt tt (answered start turns place name only y meets limit (length (events ++ more)) lacks)

pub missed_joins_serve : {tells : Bool} → MissedJoinsServe tells
missed_joins_serve {tells} past start turns unanswered later events taking was told place name only y b more meets may line =
    subst (λ c. IsToldAndServed tells taking (delivered_on turns was (λ p. [])) past start (turns ++ line_of (act.Bootstrap name only) c ∷ []) later (events ++ more)) (sym line.answers)
    (missed_so past start turns unanswered later events taking was told place name only y meets line.shard line.peers more line.adds (subst (λ c. MayAdd tells past start turns events (line_of (act.Bootstrap name only) c) more) line.answers may))

pub unmarked_joins_serve : {tells : Bool} → UnmarkedJoinsServe tells
unmarked_joins_serve {tells} past start turns unanswered later events taking was told place name only y b more meets may line =
    subst (λ c. IsToldAndServed tells taking (delivered_on turns was (λ p. [])) past start (turns ++ line_of (act.Bootstrap name only) c ∷ []) later (events ++ more)) (sym line.answers)
    (unmarked_so past start turns unanswered later events taking was told place name only y meets (kept_after start (inner_turns turns) place) refl more line.adds (subst (λ c. MayAdd tells past start turns events (line_of (act.Bootstrap name only) c) more) line.answers may))
