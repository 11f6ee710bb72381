-- A put or a read that is refused for a fence is so for one that a bootstrap of the shard asked for, or that an earlier run left.
use Rattle.std.proofs.Common.{◌≡◌, ℕ, suc, ◌<◌, ◌≤◌, List, [], ◌∷◌, ◌++◌, length-append, take, length, sym, ap, ◌∙◌, subst, inl, inr, arith, true, append-nil}
use Rattle.std.specs.Prelude.{◌⊎◌, Option, Some, None, IsTrue}
use Rattle.std.proofs.lemmas.Option.{same_Some}
use Rattle.std.proofs.lemmas.List.{take-append-le}
use Rattle.m3_model.specs.Members.{IsIn}
use Rattle.m3_model.proofs.MemberLemmas.{IsIn-append_left, IsIn-append_right}
use Rattle.m3_model.proofs.Lists.{flat_map-IsIn}
use Rattle.m3_model.specs.declared.act.Act.TheVariants as act
use Rattle.m3_model.specs.declared.placement.Placement.{Placement}
use Rattle.m3_model.specs.declared.reason.Reason.TheVariants as reason
use Rattle.m3_model.specs.declared.rules.MetaState.{MetaState}
use Rattle.m3_model.specs.declared.turn.Turn.{Turn}
use Rattle.cluster_core.specs.Earlier.{last_place, place_after}
use Rattle.cluster_core.specs.Legal.{Legal}
use Rattle.cluster_core.specs.Lists.{At}
use Rattle.cluster_core.specs.declared.event.Event.{Event}
use Rattle.cluster_core.specs.declared.event.Event.TheVariants as event
use Rattle.cluster_core.proofs.ListLemmas.{at_take, at_within, fold_suc}
use Rattle.transcripts.specs.Fates.{OfNode}
use Rattle.transcripts.specs.Moves.{IsBootstrapFor, IsFencedAbove, IsLeftFence, IsOfMove, IsTakenBy, IsTakenIn, placement_by}
use Rattle.transcripts.specs.Placements.{placement_after, printed, start_placement}
use Rattle.transcripts.specs.Record.{TurnPosition, IsTurnPosition, inner_turns, joined, lists_of}
use Rattle.transcripts.specs.Waiting.{is_covering}
use Rattle.told_by.specs.Makes.{IsAssigned}
use Rattle.told_by.specs.Told.{ToldBy}
use Rattle.told_by.proofs.LeaveLemmas.{place_there}
use Rattle.told_by.proofs.LineLemmas.{at_front, line_below}
use Rattle.told_by.proofs.PrintedLemmas.{greatest_so_far, placements_stand}
use Rattle.told_by.proofs.TurnLemmas.{at_cut, cut_before, in_cut, in_its_line, stands, before_line, before_there, in_other_list, is_it, comes_later}
use Rattle.told_causes.specs.Boot.{HasOneTurn, IsBootAct}
use Rattle.told_causes.proofs.AloneLemmas.{alone_position, lines_before, one_alone}
use Rattle.told_causes.proofs.StoodLemmas.{alone_last, alone_or_beside, back, line_base, met}
use Rattle.told_causes.proofs.WaitLemmas.{is_member_of}
use Rattle.told_moves.specs.Moves.{IsPlacedIn, IsQuiet, StaleIsSaid}
use Rattle.told_moves.specs.Order.{IsInOrder, IsInitAct, OpensWithin}
use Rattle.told_moves.proofs.AskLemmas.{IsBootOf, IsMoveAsk}
use Rattle.told_moves.proofs.FenceLemmas.{MovesBefore, fence_source}
use Rattle.told_moves.proofs.ReasonLemmas.{RefusedIn, refused_in}
use Rattle.told_moves.proofs.TenureLemmas.{assigned_low, assigned_so, member_named, name_everywhere}

-- ---- turns

-- a turn of an earlier line is among those before the line of another
among_lines : (turns : List Turn) (q p : TurnPosition) → IsTurnPosition turns q → IsTurnPosition turns p → length q.lines < length p.lines → IsIn (inner_turns p.lines) q.turn
among_lines turns q p at_q at lt =
    let cut = cut_before q.lines q.line at_q.after p.lines p.line at.after (sym at_q.in_run ∙ at.in_run) lt in
    flat_map-IsIn (λ (line : Turn). joined (lists_of line)) p.lines q.line q.turn (subst (λ ls. IsIn ls q.line) (sym cut.1) (in_cut q.lines q.line cut.0)) (in_its_line q at_q.stands)

module _ (start : Option MetaState) (turns : List Turn) (events : List Event) (legal : Legal true events) (told : ToldBy start turns events) (order : IsInOrder start turns events told) (opens : OpensWithin start events) where
  -- a bootstrap whose stretch begins before another turn's ends is of an earlier line, or earlier in its list, or in another list of its line
  asked_earlier : (p q : TurnPosition) → IsTurnPosition turns p → IsTurnPosition turns q → IsQuiet p → IsBootAct q.turn.act → (told.spans).from q < (told.spans).to p
      → (length q.lines < length p.lines) ⊎ ((length q.lines ≡ length p.lines) × IsIn (p.earlier ++ p.beside) q.turn)
  asked_earlier p q at at_q quiet boots begins =
      elim (stands turns q p at_q at) as (λ _. (length q.lines < length p.lines) ⊎ ((length q.lines ≡ length p.lines) × IsIn (p.earlier ++ p.beside) q.turn)) [
        | before_line rest line lines among ↦ inl (omega (arith, ap length lines, length-append q.lines (line ∷ rest)))
        | before_there lines among ↦ inr (ap length lines, IsIn-append_left p.earlier p.beside q.turn among)
        | in_other_list lines among ↦ inr (ap length lines, IsIn-append_right p.earlier p.beside q.turn among)
        | is_it same ↦ absurd (quiet.begins_none (subst (λ (x : TurnPosition). IsBootAct x.turn.act) same boots))
        | comes_later later ↦ absurd (omega (arith, (told.tells).order.order p q at at_q later, begins))
      ]

  stood_front : (p : TurnPosition) → IsTurnPosition turns p → (m : ℕ) → m ≤ length p.lines → placement_by start turns m ≡ placement_by start p.lines m
  stood_front p at m within = ap (λ ls. placement_after (start_placement start) (inner_turns ls)) (ap (take m) at.in_run ∙ take-append-le m p.lines (p.line ∷ at.after) within)

  -- a turn of an earlier line was taken with a placement that stood when that line began, or when it ended
  taken_in : (p : TurnPosition) → IsTurnPosition turns p → (q : TurnPosition) → IsTurnPosition turns q → length q.lines < length p.lines → (place : Placement) → (placement_by start turns (length q.lines) ≡ Some place) ⊎ (placement_by start turns (suc (length q.lines)) ≡ Some place) → IsTakenIn start p.lines place q.turn
  taken_in p at q at_q early place stood =
      let n = length q.lines in
      let there : At turns n q.line = subst (λ ts. At ts n q.line) (sym at_q.in_run) (at_cut q.lines q.line at_q.after) in
      record {
        number = n;
        line = q.line;
        stands = at_front p.lines (p.line ∷ at.after) n q.line (subst (λ ts. At ts n q.line) at.in_run there) early;
        taken = subst (λ ts. IsIn ts q.turn) (sym (append-nil (joined (lists_of q.line)))) (in_its_line q at_q.stands);
        stood = elim stood as (λ _. (placement_by start p.lines n ≡ Some place) ⊎ (placement_by start p.lines (suc n) ≡ Some place)) [
          | inl begins ↦ inl (sym (stood_front p at n (omega (arith, early))) ∙ begins)
          | inr ends ↦ inr (sym (stood_front p at (suc n) early) ∙ ends)
        ];
      }

  -- a bootstrap of the node and shard was taken with this placement, which gives the node the shard with the fence as tenure
  of_move : (p : TurnPosition) (s fence node : ℕ) (place : Placement) (q : TurnPosition) (name : List ℕ) (only : Option ℕ) → q.turn.act ≡ act.Bootstrap name only → IsTrue (is_covering s only) → OfNode place node (λ own. own ≡ name) → IsAssigned place node s fence
      → IsTakenBy start p place q.turn → IsOfMove start p s fence
  of_move p s fence node place q name only act_is covers named given taken = record {
    place = place;
    node = node;
    assigned = assigned_so place node s fence given;
    turn = q.turn;
    taken = taken;
    asks = record { instance_ = named.instance_; stands = named.stands; holds = subst (IsBootstrapFor s (named.instance_).name) (sym act_is) (sym named.holds, covers) };
  }

  -- what a turn asked for before isn't above the placement that stands; the bootstrap that asked for it is before the turn
  boot_moves : (p : TurnPosition) → IsTurnPosition turns p → IsQuiet p → (s fence k node : ℕ) → k < (told.spans).to p → (ask : IsMoveAsk start turns events legal told k node s fence) → IsBootOf ask.q ask.place node s → IsOfMove start p s fence
  boot_moves p at quiet s fence k node high ask boot =
      elim (alone_or_beside start turns events legal told order.places n less) as (λ _. IsOfMove start p s fence) [
        | inl one ↦ elim early as (λ _. IsOfMove start p s fence) [
          | inl lt ↦ of_move p s fence node ask.place ask.q boot.name boot.only boot.act_is boot.covers boot.named ask.assigned (inl (taken_in p at ask.q ask.in_run lt ask.place (stood one)))
          | inr line ↦ absurd (quiet.begins_none (subst (λ (x : TurnPosition). IsBootAct x.turn.act) (sym (alone_position turns ask.q p (one_alone turns ask.q ask.in_run one) ask.in_run at (sym line.0))) (subst IsBootAct (sym boot.act_is) tt)))
        ]
        | inr many ↦
            let was = line_base start turns events legal told order.places n less many.0 k low line_end ask.place ask.last in
            let given = back start turns events legal told order.places n less (λ z next done from below at. (many.1 z next done from below at).0) (told.ends n) k (omega arith) low line_end was.0 ask.place was.1 ask.last node s fence ask.assigned in
            let stood_is : placement_by start turns n ≡ Some was.0 = sym (placements_stand start turns events legal told n (omega (arith, less))) ∙ was.1 in
            let there = place_there (take (told.ends n) events) was.0 was.1 in
            let here = at_take events there.0 (told.ends n) (event.Place was.0 there.1) there.2 in
            let there_ask = place_there (take k events) ask.place ask.last in
            let placed : IsPlacedIn events ask.place = record { place_at = there_ask.0; done = there_ask.1; there = (at_take events there_ask.0 k (event.Place ask.place there_ask.1) there_ask.2).0 } in
            let named = member_named start turns events legal told order there.0 node s was.0 there.1 boot.name here.0 (name_everywhere events legal node ask.place boot.name placed boot.named) (is_member_of was.0 s node fence given) in
            of_move p s fence node was.0 ask.q boot.name boot.only boot.act_is boot.covers named given (elim early as (λ _. IsTakenBy start p was.0 (ask.q).turn) [
              | inl lt ↦ inl (taken_in p at ask.q ask.in_run lt was.0 (inl stood_is))
              | inr line ↦ inr (line.1, ap (λ ls. placement_after (start_placement start) (inner_turns ls)) (sym (lines_before start turns events legal told p at)) ∙ ap (placement_by start turns) (sym line.0) ∙ stood_is)
            ])
      ]
    where
      n : ℕ
      n = length (ask.q).lines

      less : n < length turns
      less = line_below turns ask.q ask.in_run

      low : told.ends n ≤ k
      low = omega (arith, (told.lines).low ask.q ask.in_run, (ask.within).0)

      line_end : k ≤ told.ends (suc n)
      line_end = omega (arith, (ask.within).1, (told.lines).high ask.q ask.in_run)

      early : (length (ask.q).lines < length p.lines) ⊎ ((length (ask.q).lines ≡ length p.lines) × IsIn (p.earlier ++ p.beside) (ask.q).turn)
      early = asked_earlier p ask.q at ask.in_run quiet (subst IsBootAct (sym boot.act_is) tt) (omega (arith, (ask.within).0, high))

      stood : HasOneTurn turns n → (placement_by start turns n ≡ Some ask.place) ⊎ (placement_by start turns (suc n) ≡ Some ask.place)
      stood one = elim (met start turns events legal told order.places n less k low line_end ask.place ask.last) as (λ _. (placement_by start turns n ≡ Some ask.place) ⊎ (placement_by start turns (suc n) ≡ Some ask.place)) [
        | inl same ↦ inl same
        | inr z ↦ inr (alone_last start turns events legal told order.places n less one z.0 ask.place z.1 z.2 (omega (arith, z.3, line_end)) z.4)
      ]

  -- an `init` asks for the tenures of the list's first placement, which are above no version
  init_low : (used : Placement) → IsPlacedIn events used → (s fence k node : ℕ) → k ≤ length events → (ask : IsMoveAsk start turns events legal told k node s fence) → IsInitAct (ask.q).turn.act → printed (ask.q).turn.answer ≡ Some ask.place → fence ≤ used.version
  init_low used placed s fence k node high ask is prints =
      let init = (told.tells).init.inits ask.q ask.in_run (order.inits ask.q ask.in_run is ask.place prints) in
      let same : init.place ≡ ask.place = same_Some init.place ask.place (sym (ap printed init.answered) ∙ prints) in
      let low = assigned_low events legal node s k fence ask.place high ask.last ask.assigned in
      let z = placed.place_at in
      let grows = greatest_so_far events legal 0 (suc z) init.place used [] init.placed (omega arith) (omega (arith, at_within events z (event.Place used placed.done) placed.there)) (fold_suc place_after None events z (event.Place used placed.done) placed.there) in
      omega (arith, low, grows, ap (λ (q : Placement). q.version) same)

  move_cause : (p : TurnPosition) → IsTurnPosition turns p → IsQuiet p → (used : Placement) → IsPlacedIn events used → (n s fence i : ℕ) → used.version < fence → i < (told.spans).to p → (m : MovesBefore start turns events legal told opens n s i fence) → IsOfMove start p s fence
  move_cause p at quiet used placed n s fence i above high m =
      let below = m.below in
      elim (m.ask).how as (λ _. IsOfMove start p s fence) [
        | inl boot ↦ boot_moves p at quiet s fence m.position m.node (omega (arith, below, high)) m.ask boot
        | inr init ↦ absurd (omega (arith, above, init_low used placed s fence m.position m.node (omega (arith, below, high, (told.tells).order.not_above p at)) m.ask init.0 init.1))
      ]

  -- the fence isn't above the version of the placement that stands
  cause_low : (p : TurnPosition) → IsTurnPosition turns p → (n s fence i : ℕ) → i < (told.spans).to p → (place : Placement) → last_place (take i events) ≡ Some place → IsLeftFence start fence ⊎ MovesBefore start turns events legal told opens n s i fence → fence ≤ place.version
  cause_low p at n s fence i high place last (inl left) =
      let there = place_there (take i events) place last in
      let some = (at_take events there.0 i (event.Place place there.1) there.2).1 in
      omega (arith, left.not_above, greatest_so_far events legal 0 i (left.state).place place [] (told.opened left.state left.found).placed (omega (arith, some)) (omega (arith, high, (told.tells).order.not_above p at)) last)
  cause_low p at n s fence i high place last (inr m) =
      let below = m.below in
      let ask = m.ask in
      let k = m.position in
      let bound = (told.tells).order.not_above p at in
      let there = place_there (take k events) ask.place ask.last in
      let stands = at_take events there.0 k (event.Place ask.place there.1) there.2 in
      let low = assigned_low events legal m.node s k fence ask.place (omega (arith, below, high, bound)) ask.last ask.assigned in
      omega (arith, low, greatest_so_far events legal there.0 i ask.place place there.1 stands.0 (omega (arith, stands.1, below)) (omega (arith, high, bound)) last)

  stale_at : (p : TurnPosition) → IsTurnPosition turns p → IsQuiet p → (used : Placement) (s n fence : ℕ) → IsPlacedIn events used → RefusedIn start turns events told p n s used.version (reason.Stale fence) → IsFencedAbove start p used s fence
  stale_at p at quiet used s n fence placed h =
      let is = (h.founds).1 in
      let above : used.version < fence = omega (arith, is, (h.founds).2) in
      let source = fence_source start turns events legal told opens n s h.at fence h.bound is (omega (arith, above)) in
      record {
        above = above;
        place = h.place;
        may_stand = h.stands;
        not_above = cause_low p at n s fence h.at h.high h.place h.last source;
        cause = elim source as (λ _. IsLeftFence start fence ⊎ IsOfMove start p s fence) [ inl left ↦ inl left | inr m ↦ inr (move_cause p at quiet used placed n s fence h.at above h.high m) ];
      }

pub stale_said : StaleIsSaid
stale_said start turns events legal told order opens p at quiet used s n fence h = stale_at start turns events legal told order opens p at quiet used s n fence h.placed (refused_in start turns events legal told order p at quiet used s n (reason.Stale fence) tt h)
