-- The run of two clients beside a worker is served, so it is kept and caused; and two runs like it aren't.
use Rattle.std.proofs.Common.{◌≡◌, ◌≤◌, ◌<◌, ◌+◌, ℕ, zero, suc, List, [], ◌∷◌, ◌++◌, length, refl, sym, ap, ◌∙◌, subst, inl, inr, arith, Bool, true}
use Rattle.std.specs.Prelude.{◌⊎◌, Some, None, IsTrue, slice_get}
use Rattle.std.proofs.lemmas.Option.{same_Some}
use Rattle.m3_model.proofs.MemberLemmas.{IsIn-append_cases}
use Rattle.m3_model.specs.Hash.{shard_of}
use Rattle.m3_model.specs.Levels.{needed_write}
use Rattle.m3_model.specs.Members.{IsIn}
use Rattle.m3_model.specs.declared.act.WriteLevel.TheVariants as taking
use Rattle.m3_model.specs.declared.answer.Answer.{Answer}
use Rattle.m3_model.specs.declared.answer.Answer.TheVariants as answer
use Rattle.m3_model.specs.declared.placement.Placement.{Placement}
use Rattle.m3_model.specs.declared.point.Point.{Point}
use Rattle.m3_model.specs.declared.reason.Reason.TheVariants as reason
use Rattle.m3_model.specs.declared.turn.Turn.{Turn}
use Rattle.placement_core.specs.Lawful.{IsLawful}
use Rattle.placement_core.specs.Shards.{Shard}
use Rattle.placement_plan.specs.Plans.{EndsAsNamed, IsAvailable, IsJoiningPair}
use Rattle.cluster_core.specs.Lists.{At}
use Rattle.cluster_core.specs.declared.event.Event.{Event}
use Rattle.cluster_core.specs.declared.event.Event.TheVariants as event
use Rattle.cluster_core.specs.declared.event.StepCall.TheVariants as call
use Rattle.cluster_core.specs.declared.event.StepReply.{StepReply}
use Rattle.cluster_core.specs.declared.event.StepReply.TheVariants as reply
use Rattle.cluster_core.proofs.ListLemmas.{at_within}
use Rattle.cluster_core.proofs.TraceLemmas.{lawful_place}
use Rattle.cluster_core.proofs.UntoldLemmas.{legal_untold}
use Rattle.transcripts.specs.Calls.{AsksShard, Call, call_of}
use Rattle.transcripts.specs.Caused.{EndsInto, EndsMoves}
use Rattle.transcripts.specs.Faults.{Fault}
use Rattle.transcripts.specs.Deliveries.{LateMessage}
use Rattle.transcripts.specs.Placements.{IsCounted, MayStand, MayUse, counted_nodes, printed}
use Rattle.transcripts.specs.Record.{InnerTurn, TurnPosition, IsLastTurnPosition, IsAfter, inner_turns, lists_of}
use Rattle.transcripts.specs.Waiting.{is_covering}
use Rattle.transcripts.proofs.PlacementLemmas.{after_from}
use Rattle.told_by.specs.Broken.{found_moving, joined, joined_by, joining, moved, moving, other_name}
use Rattle.told_by.specs.Hears.{HearsAcks, InStretch}
use Rattle.told_by.specs.Sample.{fetched, name, written}
use Rattle.told_by.specs.Spans.{IsWithin, Spans}
use Rattle.told_by.proofs.KeptLemmas.{told_kept}
use Rattle.told_by.proofs.OneLemmas.{back_at}
use Rattle.told_by.proofs.PrintedLemmas.{greatest_so_far}
use Rattle.told_by.proofs.SampleLemmas.{Each, each_at, shard_zero}
use Rattle.told_causes.specs.Standing.{IsHaltAct}
use Rattle.told_runs.specs.Answers.{Delivers, IsAnswered}
use Rattle.told_runs.specs.BesideSample.{BesideIsKept, BesideIsServed, LeavingAcks, PlacedForNothing, beside, events, events_before, lines_before, missed, none_delivered, of_both, of_reopening, opening, reopened, reopening, side_by_side, took, turns}
use Rattle.told_runs.specs.Lines.{IsToldAndServed, ServesLine, ServesOne, delivered_on, life_of}
use Rattle.told_runs.proofs.BesideLegalLemmas.{beside_legal, ends_move, lawful_moved, lawful_moving, one, second_node, under_way}
use Rattle.told_runs.proofs.BesideToldLemmas.{at_side, each_beside, each_turn, last_moving, moving_it, reading, reopening_line, second_line, second_spans, start, writing}
use Rattle.told_runs.proofs.CausedLemmas.{told_caused}
use Rattle.told_runs.proofs.LineLemmas.{plain_serves, served_afresh, served_line}
use Rattle.told_runs.proofs.OrderLemmas.{kind_or_silent}
use Rattle.told_runs.proofs.UsedLemmas.{some_in}

at_each : (Holds : ℕ → Event → Type 0) → Each Holds 0 events → (i : ℕ) (e : Event) → At events i e → Holds i e
at_each Holds each i e there = let here : 0 + i ≡ i = omega arith in subst (λ k. Holds k e) here (each_at Holds 0 events each i e there)

at_before : (Holds : ℕ → Event → Type 0) → Each Holds 0 events_before → (i : ℕ) (e : Event) → At events_before i e → Holds i e
at_before Holds each i e there = let here : 0 + i ≡ i = omega arith in subst (λ k. Holds k e) here (each_at Holds 0 events_before each i e there)

-- ---- the first line

serves_first : (tells : Bool) → ServesOne tells [] [] (λ p. []) [] start [] opening reopening reopened of_reopening
serves_first tells = record {
  adds = record {
    lawful = λ i place done adds. absurd (no_place i place done adds.0 adds.1);
    one = λ i place done adds. absurd (no_place i place done adds.0 adds.1);
    ends = λ i n s a adds. absurd (at_before (λ k x. x ≡ event.Step n s call.End a → ⊥) (λ e. cc, (λ e. cc, (λ e. cc, (λ e. cc, tt)))) i (event.Step n s call.End a) adds.1 refl);
  };
  opens = λ is. record {
    fenced = λ i n s tenure fence points adds none. inl (at_before (λ k x. x ≡ event.Step n s (call.Begin tenure) (reply.Began fence points) → fence ≡ tenure) (λ e. absurd (cc), (λ e. absurd (cc), (λ e. absurd (cc), (λ e. let t : 1 ≡ tenure = cc in let f : 1 ≡ fence = cc in sym f ∙ t, tt)))) i (event.Step n s (call.Begin tenure) (reply.Began fence points)) adds.1 refl);
    owned = λ i n s tenure adds. absurd (at_before (λ k x. x ≡ event.Step n s (call.Begin tenure) (reply.Refused reason.NotOwned) → ⊥) (λ e. cc, (λ e. cc, (λ e. cc, (λ e. cc, tt)))) i (event.Step n s (call.Begin tenure) (reply.Refused reason.NotOwned)) adds.1 refl);
  };
  answered = inr (inr ([], record { others = []; some_of = tt; are = refl }, record { before = moving; stands = ([], record { others = []; some_of = tt; are = refl }, refl); room = tt; made = inl refl; left = refl; version_is = refl }));
  delivers = tt;
  not_again = λ q at x y m. absurd m;
  untaken_are = λ fault m. absurd m;
  different = tt;
  bound = λ is. omega arith;
}
  where
    no_place : (i : ℕ) (place : Placement) (done : List (ℕ × ℕ)) → 2 ≤ i → At events_before i (event.Place place done) → ⊥
    no_place i place done low there = at_before (λ k x. 2 ≤ k → x ≡ event.Place place done → ⊥) (λ late e. omega (arith, late), (λ late e. cc, (λ late e. cc, (λ late e. cc, tt)))) i (event.Place place done) there low refl

abbrev was : TurnPosition → List LateMessage
was = delivered_on [] none_delivered none_delivered

served_before : (tells : Bool) → IsToldAndServed tells [] was [] start lines_before None events_before
served_before tells = plain_serves [] start [] None None opening reopening reopened of_reopening [] [] [] none_delivered (served_afresh [] found_moving None lawful_moving) reopening_line (serves_first tells)

-- ---- the second

place_is : (i : ℕ) (place : Placement) (done : List (ℕ × ℕ)) → 4 ≤ i → At events i (event.Place place done) → moved ≡ place
place_is i place done low there = at_each (λ k x. 4 ≤ k → x ≡ event.Place place done → moved ≡ place) (λ late e. absurd (omega (arith, late)), (λ late e. absurd (cc), (λ late e. absurd (cc), (λ late e. absurd (cc), (λ late e. absurd (cc), (λ late e. absurd (cc), (λ late e. absurd (cc), (λ late e. absurd (cc), (λ late e. absurd (cc), (λ late e. absurd (cc), (λ late e. absurd (cc), (λ late e. absurd (cc), (λ late e. absurd (cc), (λ late e. cc, (λ late e. absurd (cc), (λ late e. absurd (cc), (λ late e. absurd (cc), (λ late e. absurd (cc), tt)))))))))))))))))) i (event.Place place done) there low refl

never_ended : (i n s : ℕ) (a : StepReply) → At events i (event.Step n s call.End a) → ⊥
never_ended i n s a there = at_each (λ k x. x ≡ event.Step n s call.End a → ⊥) (λ e. cc, (λ e. cc, (λ e. cc, (λ e. cc, (λ e. cc, (λ e. cc, (λ e. cc, (λ e. cc, (λ e. cc, (λ e. cc, (λ e. cc, (λ e. cc, (λ e. cc, (λ e. cc, (λ e. cc, (λ e. cc, (λ e. cc, (λ e. cc, tt)))))))))))))))))) i (event.Step n s call.End a) there refl

never_unowned : (i n s tenure : ℕ) → At events i (event.Step n s (call.Begin tenure) (reply.Refused reason.NotOwned)) → ⊥
never_unowned i n s tenure there = at_each (λ k x. x ≡ event.Step n s (call.Begin tenure) (reply.Refused reason.NotOwned) → ⊥) (λ e. cc, (λ e. cc, (λ e. cc, (λ e. cc, (λ e. cc, (λ e. cc, (λ e. cc, (λ e. cc, (λ e. cc, (λ e. cc, (λ e. cc, (λ e. cc, (λ e. cc, (λ e. cc, (λ e. cc, (λ e. cc, (λ e. cc, (λ e. cc, tt)))))))))))))))))) i (event.Step n s (call.Begin tenure) (reply.Refused reason.NotOwned)) there refl

began_so : (i n s tenure fence : ℕ) (points : List Point) → At events i (event.Step n s (call.Begin tenure) (reply.Began fence points)) → (fence ≡ tenure) × (points ≡ [])
began_so i n s tenure fence points there =
    at_each (λ k x. x ≡ event.Step n s (call.Begin tenure) (reply.Began fence points) → (fence ≡ tenure) × (points ≡ [])) (λ e. absurd (cc), (λ e. absurd (cc), (λ e. absurd (cc), (λ e. let t : 1 ≡ tenure = cc in let f : 1 ≡ fence = cc in let p : [] ≡ points = cc in (sym f ∙ t, sym p), (λ e. absurd (cc), (λ e. let t : 2 ≡ tenure = cc in let f : 2 ≡ fence = cc in let p : [] ≡ points = cc in (sym f ∙ t, sym p), (λ e. absurd (cc), (λ e. absurd (cc), (λ e. absurd (cc), (λ e. absurd (cc), (λ e. absurd (cc), (λ e. absurd (cc), (λ e. absurd (cc), (λ e. absurd (cc), (λ e. absurd (cc), (λ e. absurd (cc), (λ e. absurd (cc), (λ e. absurd (cc), tt))))))))))))))))))
    i (event.Step n s (call.Begin tenure) (reply.Began fence points)) there refl

-- the bootstrap ends the one move
ends_available : IsAvailable moving ((0, 1) ∷ []) moved
ends_available = record { follows = record { version = refl; version_fits = omega arith; rf = refl; shards = record { count = refl; each = each_shard } }; instances = refl }
  where
    each_shard : (k : ℕ) (a b : Shard) → slice_get moving.shards k ≡ Some a → slice_get moved.shards k ≡ Some b → EndsAsNamed ((0, 1) ∷ []) k a b
    each_shard zero a b old next = ends_move.each 0 a b old next
    each_shard (suc k) a b old next = cc

ends_moves : EndsMoves moving other_name None ((0, 0 ∷ []) ∷ []) moved
ends_moves = record {
  node = 1;
  named = record { instance_ = second_node; stands = refl; holds = refl };
  by_shard = (λ y nobody. absurd nobody, tt);
  covered = one (λ (x : ℕ × List ℕ). IsTrue (is_covering x.0 None)) (0, 0 ∷ []) refl;
  joining = one (λ (d : ℕ × ℕ). IsJoiningPair moving.shards d) (0, 1) (record { shard = under_way; stands = refl; joins = (0, (joined_by, inr (inl refl), refl, (refl, refl))) });
  next = ends_available;
}

-- each turn was answered as by what stood before the line
after_lines : (client : ℕ) (others : List InnerTurn) (turn : InnerTurn) → IsAfter (at_side lines_before beside client others turn) (inner_turns lines_before ++ [])
after_lines client others turn = record { others = []; some_of = tt; are = refl }

within_it : (i : ℕ) → 4 ≤ i → i < 18 → IsWithin second_line.spans moving_it i
within_it i low high = subst (λ (x : Spans). IsWithin x moving_it i) (sym second_spans) (low, high)

serves_second : (tells : Bool) → ServesLine tells [] none_delivered was [] start lines_before events_before beside of_both second_line
serves_second tells = record {
  order = record {
    halts = each_turn (λ q. IsHaltAct q.turn.act → lists_of beside ≡ (q.turn ∷ []) ∷ []) (λ h. absurd h) (λ h. absurd h) (λ h. absurd h);
    alone = λ single. absurd (let bad = single.1 in cc);
    beside = λ many i place done adds. record { printer = moving_it; here = last_moving; within = within_it i adds.0 (at_within events i (event.Place place done) adds.1); prints = ap Some (place_is i place done adds.0 adds.1) };
    lawful = λ i place done adds. subst IsLawful (place_is i place done adds.0 adds.1) lawful_moved;
    ends = λ i n s a adds. absurd (never_ended i n s a adds.1);
  };
  opens = λ is. record {
    fenced = λ i n s tenure fence points adds none. inl (began_so i n s tenure fence points adds.1).0;
    owned = λ i n s tenure adds. absurd (never_unowned i n s tenure adds.1);
  };
  answers = record {
    each = each_turn (λ p. IsAnswered [] start (second_line.spans.to p) p)
        (inr (inr (inner_turns lines_before ++ [], after_lines 1 writing.beside writing.turn, tt)))
        (inr (inr (inner_turns lines_before ++ [], after_lines 2 reading.beside reading.turn, tt)))
        (inr (inr (inner_turns lines_before ++ [], after_lines 3 moving_it.beside moving_it.turn, record { before = moving; stands = (inner_turns lines_before ++ [], after_lines 3 moving_it.beside moving_it.turn, refl); made = inl refl; room = omega arith; left = ends_moves; version_is = refl })));
    delivers = each_turn (λ p. Delivers start events second_line.spans p []) tt tt tt;
    not_again = λ p q h k x y m. absurd m;
    once = λ p q h k x y m. absurd m;
    whole = tt;
    untaken_are = λ fault m. absurd m;
    different = tt;
  };
  bound = λ is. omega arith;
}

abbrev delivered : TurnPosition → List LateMessage
delivered = delivered_on lines_before was none_delivered

beside_told_and_served : (tells : Bool) → IsToldAndServed tells [] delivered [] start turns None events
beside_told_and_served tells = served_line [] start lines_before None None events_before beside of_both [] [] none_delivered was (served_before tells) second_line (serves_second tells)

pub beside_served : (tells : Bool) → BesideIsServed tells
beside_served tells = (legal_untold tells events beside_legal, delivered, beside_told_and_served tells)

pub beside_kept : BesideIsKept
beside_kept = (
  told_kept (life_of [] start turns None) events (λ n s. []) beside_legal (λ i n s tenure fence points there first. (began_so i n s tenure fence points there).1) (record { acked = λ turn m. absurd m; sent = λ n s p m. absurd m }) (beside_told_and_served true).0,
  λ tells. let served = beside_told_and_served tells in (_, told_caused (life_of [] start turns None) events (legal_untold tells events beside_legal) served.0 [] delivered served.1),
)

-- ---- broken ones

abbrev wrong_line : Turn
wrong_line = side_by_side (answer.Acks (0 ∷ [])) joined

abbrev wrong_turn : InnerTurn
wrong_turn = record { act = written; answer = answer.Acks (0 ∷ []) }

abbrev wrong_position : TurnPosition
wrong_position = at_side lines_before wrong_line 1 (record { act = fetched; answer = missed } ∷ moving_it.turn ∷ []) wrong_turn

-- what may stand beside the write is the placement that was found, or the one in which the move is over
stood_so : (place : Placement) → MayStand start wrong_position place → (moving ≡ place) ⊎ (moved ≡ place)
stood_so place h =
    let after = h.1 in
    elim (after_from h.0 (Some moving) place h.2) as (λ _. (moving ≡ place) ⊎ (moved ≡ place)) [
      | inl found ↦ inl (same_Some moving place found)
      | inr t ↦ elim (IsIn-append_cases (inner_turns lines_before) ([] ++ after.others) t.0 (subst (λ ts. IsIn ts t.0) after.are t.1)) as (λ _. (moving ≡ place) ⊎ (moved ≡ place)) [
        | inl before ↦ inl (by_before t.0 before t.2)
        | inr other ↦ by_other t.0 (some_in after.others wrong_position.beside t.0 after.some_of other) t.2
      ]
    ]
  where
    by_before : (t : InnerTurn) → IsIn (inner_turns lines_before) t → printed t.answer ≡ Some place → moving ≡ place
    by_before t (inl same) prints = same_Some moving place (ap (λ (x : InnerTurn). printed x.answer) same ∙ prints)
    by_before t (inr nobody) prints = absurd nobody

    by_other : (t : InnerTurn) → IsIn wrong_position.beside t → printed t.answer ≡ Some place → (moving ≡ place) ⊎ (moved ≡ place)
    by_other t (inl same) prints = absurd (let bad : None ≡ Some place = ap (λ (x : InnerTurn). printed x.answer) same ∙ prints in cc)
    by_other t (inr (inl same)) prints = inr (same_Some moved place (ap (λ (x : InnerTurn). printed x.answer) same ∙ prints))
    by_other t (inr (inr nobody)) prints = absurd nobody

pub leaving_acks : LeavingAcks
leaving_acks others told = by_hears ((told.tells).hears wrong_position (record { after = []; in_run = refl; stands = record { front = []; later = []; back = (record { act = fetched; answer = missed } ∷ []) ∷ (moving_it.turn ∷ []) ∷ []; in_line = refl; others = refl; client_is = refl } }))
  where
    by_place : (place : Placement) → (moving ≡ place) ⊎ (moved ≡ place) → ((shard : ℕ) → shard ≡ shard_of name 0 (length place.shards) → (node : ℕ) → IsIn (0 ∷ []) node → IsCounted place shard node) → ⊥
    by_place place (inl same) counted = subst (λ s. IsIn (counted_nodes moving s) 0) (shard_zero name) (subst (λ (q : Placement). IsIn (counted_nodes q (shard_of name 0 (length q.shards))) 0) (sym same) (counted (shard_of name 0 (length place.shards)) refl 0 (inl refl)))
    by_place place (inr same) counted =
        let m : IsIn (1 ∷ []) 0 = subst (λ s. IsIn (counted_nodes moved s) 0) (shard_zero name) (subst (λ (q : Placement). IsIn (counted_nodes q (shard_of name 0 (length q.shards))) 0) (sym same) (counted (shard_of name 0 (length place.shards)) refl 0 (inl refl))) in
        elim m as (λ _. ⊥) [ inl e ↦ omega (arith, e) | inr nobody ↦ nobody ]

    by_hears : HearsAcks start (InStretch others ((told.spans).from wrong_position) ((told.spans).to wrong_position)) wrong_position (0 ∷ []) → ⊥
    by_hears h = by_call h.call h.of_call h.place h.may_use h.counted
      where
        by_call : (c : Call) → call_of written ≡ Some c → (place : Placement) → MayUse start wrong_position c.version place → ((shard : ℕ) → AsksShard start wrong_position place c.id shard → (node : ℕ) → IsIn (0 ∷ []) node → IsCounted place shard node) → ⊥
        by_call c is place may counted =
            let same : record { id = Some name; version = None; needed = needed_write taking.Majority } ≡ c = same_Some (record { id = Some name; version = None; needed = needed_write taking.Majority }) c is in
            by_place place (stood_so place (subst (λ (x : Call). MayUse start wrong_position x.version place) (sym same) may)) (λ shard asks. counted shard (subst (λ (x : Call). AsksShard start wrong_position place x.id shard) same asks))

abbrev idle : Placement → Answer
idle next = answer.Available [] next 3

abbrev idle_position : Placement → TurnPosition
idle_position next = at_side lines_before (side_by_side took (idle next)) 3 (writing.turn ∷ reading.turn ∷ []) (record { act = joining; answer = idle next })

-- a bootstrap that turned nothing available, where no other did, prints what stood before the line
idle_prints : (next : Placement) (untaken : List Fault) (end : ℕ) → IsAnswered untaken start end (idle_position next) → moving ≡ next
idle_prints next untaken end answered =
    elim (kind_or_silent untaken start end (idle_position next) answered) as (λ _. moving ≡ next) [
      | inl silent ↦ absurd (let bad : Some next ≡ None = silent in cc)
      | inr kind ↦ elim kind.made as (λ _. moving ≡ next) [ inl base ↦ same_Some moving kind.before base ∙ sym kind.left | inr t ↦ absurd (nobody t.0 kind.before t.1 t.2) ]
    ]
  where
    nobody : (t : InnerTurn) (place : Placement) → IsIn (writing.turn ∷ reading.turn ∷ []) t → EndsInto t.answer place → ⊥
    nobody t place (inl same) ends = subst (λ (u : InnerTurn). EndsInto u.answer place) (sym same) ends
    nobody t place (inr (inl same)) ends = subst (λ (u : InnerTurn). EndsInto u.answer place) (sym same) ends
    nobody t place (inr (inr none)) ends = none

pub placed_for_nothing : PlacedForNothing
placed_for_nothing tells untaken now before next more legal adds serves i place done there =
    let all = events_before ++ more in
    let behind : length events_before + i ≡ suc (3 + i) = omega arith in
    let at : At all (suc (3 + i)) (event.Place place done) = subst (λ k. At all k (event.Place place done)) behind (back_at events_before more i (event.Place place done) there) in
    let line = side_by_side took (idle next) in
    let here : IsLastTurnPosition lines_before line (idle_position next) = record { lines_are = refl; line_is = refl; stands = record { front = (writing.turn ∷ []) ∷ (reading.turn ∷ []) ∷ []; later = []; back = []; in_line = refl; others = refl; client_is = refl } } in
    let by = (serves.order).beside (λ single. let bad = single.1 in cc) (suc (3 + i)) place done (omega arith, at) in
    let same = each_beside lines_before line writing.turn reading.turn (record { act = joining; answer = idle next }) refl (λ k. refl) (λ p. printed p.turn.answer ≡ Some place → next ≡ place)
    (λ e. absurd (let bad : None ≡ Some place = e in cc)) (λ e. absurd (let bad : None ≡ Some place = e in cc)) (λ e. same_Some next place e) by.printer by.here by.prints in
    let is = idle_prints next untaken ((adds.spans).to (idle_position next)) ((serves.answers).each (idle_position next) here) in
    let law = lawful_place all legal (3 + i) place done at in
    omega (arith, (law.step).version, greatest_so_far all legal 0 (suc (3 + i)) moving law.last [] refl (omega arith) (omega (arith, at_within all (suc (3 + i)) (event.Place place done) at)) law.last_is, ap (λ (q : Placement). q.version) (is ∙ same))
