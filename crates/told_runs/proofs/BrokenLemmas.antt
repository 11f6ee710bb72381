-- Lines that leave a run not known to be served.
use Rattle.std.proofs.Common.{◌≡◌, List, [], ◌∷◌, ◌++◌, refl, sym, ap, ◌∙◌, subst, inl, inr}
use Rattle.std.specs.Prelude.{None}
use Rattle.m3_model.specs.Members.{IsIn}
use Rattle.m3_model.specs.declared.answer.Answer.TheVariants as answer
use Rattle.transcripts.specs.Caused.{refusal_after}
use Rattle.transcripts.specs.Record.{AreSomeOf, InnerTurn, TurnPosition, inner_turns, joined, lists_of}
use Rattle.told_by.specs.Lines.{position_after}
use Rattle.told_by.specs.Sample.{events as short_events, fetched, turns as short_turns}
use Rattle.told_by.proofs.OneLemmas.{is_last}
use Rattle.told_causes.proofs.AloneLemmas.{only_cut}
use Rattle.told_runs.specs.Answers.{IsAnswered, IsDecidedBy}
use Rattle.told_runs.specs.Broken.{DeliversAgain, IsNeverServed, PlacesBeside, TakesElsewhere, UndueOrder}

pub never_again : IsNeverServed DeliversAgain
never_again tells untaken now was past start turns events line more adds serves d =
    (serves.answers).not_again d.p d.q d.here d.before d.message d.message d.delivers d.delivered ((refl, refl, refl), refl)

pub never_elsewhere : IsNeverServed TakesElsewhere
never_elsewhere tells untaken now was past start turns events line more adds serves t = t.elsewhere ((serves.answers).untaken_are t.fault t.among).1

pub never_beside : IsNeverServed PlacesBeside
never_beside tells untaken now was past start turns events line more adds serves b =
    let printed_by = (serves.order).beside (λ one. by_one one.0 one.1) b.place_at b.place b.done b.made in
    b.unprinted printed_by.printer printed_by.here printed_by.prints
  where
    by_one : (t : InnerTurn) → lists_of line ≡ (t ∷ []) ∷ [] → ⊥
    by_one t alone =
        let stands = (b.here).stands in
        let only = only_cut t stands.front (b.q).earlier (b.q).turn stands.later stands.back (sym alone ∙ ap lists_of (sym (b.here).line_is) ∙ stands.in_line) in
        let nobody : (b.q).beside ≡ [] = stands.others ∙ (λ i. joined (only.0 i) ++ joined (only.2 i)) in
        subst (λ ts. IsIn ts b.other) nobody b.beside

pub never_order : UndueOrder
never_order tells untaken now was past more adds serves = by ((serves.answers).each own (is_last None short_turns short_events fetched answer.Order more))
  where
    own : TurnPosition
    own = position_after short_turns fetched answer.Order

    by_decided : (ts others : List InnerTurn) → AreSomeOf others [] → ts ≡ inner_turns short_turns ++ ([] ++ others) → IsDecidedBy untaken None own (refusal_after None own ts) → ⊥
    by_decided ts [] some are decided = subst (λ us. IsDecidedBy untaken None own (refusal_after None own us)) are decided
    by_decided ts (t ∷ others) some are decided = some

    by : IsAnswered untaken None ((adds.spans).to own) own → ⊥
    by (inl memory) = cc
    by (inr (inl full)) = let bad : answer.Order ≡ answer.Full = full.0 in cc
    by (inr (inr decided)) = let after = decided.1 in by_decided decided.0 after.others after.some_of after.are decided.2
