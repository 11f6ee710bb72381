-- The placements that a transcript knows by a line, or by a turn.
use Rattle.std.proofs.Common.{◌≡◌, ℕ, zero, suc, ◌<◌, ◌≤◌, List, [], ◌∷◌, take, length, refl, sym, ap, ◌∙◌, subst, inl, inr, arith, append-nil, Bool}
use Rattle.std.specs.Prelude.{Some, None, Option}
use Rattle.std.proofs.lemmas.Bool.{cases_lt}
use Rattle.m3_model.specs.Members.{IsIn}
use Rattle.m3_model.proofs.MemberLemmas.{IsIn-append_right}
use Rattle.m3_model.specs.declared.placement.Placement.{Placement}
use Rattle.m3_model.specs.declared.rules.MetaState.{MetaState}
use Rattle.m3_model.specs.declared.turn.Turn.{Turn}
use Rattle.cluster_core.specs.Legal.{Legal}
use Rattle.cluster_core.specs.Lists.{At}
use Rattle.cluster_core.specs.declared.event.Event.{Event}
use Rattle.cluster_core.specs.declared.event.Event.TheVariants as event
use Rattle.cluster_core.proofs.ListLemmas.{at_same, at_some}
use Rattle.transcripts.specs.Placements.{placements, start_placement}
use Rattle.transcripts.specs.Record.{TurnPosition, IsTurnPosition, inner_turns, joined, lists_of}
use Rattle.transcripts.proofs.PlacementLemmas.{after_from, known_first, known_more, known_printed}
use Rattle.told_by.specs.Openings.{opening_length}
use Rattle.told_by.specs.Told.{ToldBy}
use Rattle.told_by.proofs.TurnLemmas.{at_cut, in_its_line, inner-append}
use Rattle.told_causes.proofs.NameLemmas.{take_line}
use Rattle.told_causes.proofs.StoodLemmas.{alone_last, alone_or_beside}
use Rattle.told_moves.specs.Order.{IsInOrder}

-- a turn is one of the lines up to its own
in_front : (turns : List Turn) (q : TurnPosition) → IsTurnPosition turns q → IsIn (inner_turns (take (suc (length q.lines)) turns)) q.turn
in_front turns q at =
    let there : At turns (length q.lines) q.line = subst (λ ts. At ts (length q.lines) q.line) (sym at.in_run) (at_cut q.lines q.line at.after) in
    subst (λ ts. IsIn ts q.turn) (sym (ap inner_turns (take_line turns (length q.lines) q.line there) ∙ inner-append (take (length q.lines) turns) (q.line ∷ [])))
    (IsIn-append_right (inner_turns (take (length q.lines) turns)) (inner_turns (q.line ∷ [])) q.turn (subst (λ ts. IsIn ts q.turn) (sym (append-nil (joined (lists_of q.line)))) (in_its_line q at.stands)))

-- ---- the list

module _ {tells : Bool} (start : Option MetaState) (turns : List Turn) (events : List Event) (legal : Legal tells events) (told : ToldBy start turns events) (order : IsInOrder start turns events told) where
  -- a Place before a line is one that was found, or that a turn of an earlier line printed
  pub known_before : (k : ℕ) → k ≤ length turns → (z : ℕ) (place : Placement) (done : List (ℕ × ℕ)) → At events z (event.Place place done) → z < told.ends k → IsIn (placements start (inner_turns (take k turns))) place
  known_before zero high z place done there before = by_start start refl z there (omega (arith, before, (told.lines).first))
    where
      by_start : (o : Option MetaState) → start ≡ o → (z : ℕ) → At events z (event.Place place done) → z < opening_length start → IsIn (placements start (inner_turns (take 0 turns))) place
      by_start None is z there low = absurd (omega (arith, low, ap opening_length is))
      by_start (Some state) is zero there low =
          let both : event.Place state.place [] ≡ event.Place place done = at_same events 0 (event.Place state.place []) (event.Place place done) (told.opened state is).placed there in
          let same : state.place ≡ place = cc in
          known_first start (inner_turns (take 0 turns)) place (ap start_placement is ∙ ap Some same)
      by_start (Some state) is (suc zero) there low = absurd (legal 1 (event.Place place done) there)
      by_start (Some state) is (suc (suc z)) there low = absurd (omega (arith, low, ap opening_length is))
  known_before (suc k) high z place done there before =
      let line = at_some turns k (omega (arith, high)) in
      elim (cases_lt z (told.ends k)) as (λ _. IsIn (placements start (inner_turns (take (suc k) turns))) place) [
        | inl lt ↦
            subst (λ ts. IsIn (placements start ts) place) (sym (ap inner_turns (take_line turns k line.0 line.1) ∙ inner-append (take k turns) (line.0 ∷ [])))
            (known_more start (inner_turns (take k turns)) (inner_turns (line.0 ∷ [])) place (known_before k (omega (arith, high)) z place done there lt))
        | inr ge ↦
            elim (alone_or_beside start turns events legal told order.places k (omega (arith, high))) as (λ _. IsIn (placements start (inner_turns (take (suc k) turns))) place) [
              | inl one ↦ elim (after_from (inner_turns (take (suc k) turns)) (start_placement start) place (alone_last start turns events legal told order.places k (omega (arith, high)) one z place done ge before there)) as (λ _. IsIn (placements start (inner_turns (take (suc k) turns))) place) [
                | inl found ↦ known_first start (inner_turns (take (suc k) turns)) place found
                | inr t ↦ known_printed start (inner_turns (take (suc k) turns)) t.0 place t.1 t.2
              ]
              | inr many ↦ let g = (many.1 z place done ge before there).1 in known_printed start (inner_turns (take (suc k) turns)) (g.printer).turn place (subst (λ m. IsIn (inner_turns (take (suc m) turns)) (g.printer).turn) g.of_line (in_front turns g.printer g.in_run)) g.prints
            ]
      ]
