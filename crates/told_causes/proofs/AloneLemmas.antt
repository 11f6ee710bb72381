-- Turns that are alone in their lines, and the placement that they meet.
use Rattle.std.proofs.Common.{◌≡◌, ℕ, zero, suc, ◌<◌, ◌≤◌, ◌+◌, List, [], ◌∷◌, ◌++◌, take, length, refl, sym, ap, ◌∙◌, subst, inl, inr, arith, append-nil, Bool}
use Rattle.std.specs.Prelude.{◌⊎◌, Some, None, Option}
use Rattle.std.proofs.lemmas.Option.{same_Some}
use Rattle.std.proofs.lemmas.List.{take-append-le}
use Rattle.m3_model.proofs.SplitLemmas.{not_empty}
use Rattle.m3_model.proofs.Lists.{take_whole}
use Rattle.m3_model.specs.declared.placement.Placement.{Placement}
use Rattle.m3_model.specs.declared.rules.MetaState.{MetaState}
use Rattle.m3_model.specs.declared.turn.Turn.{Turn}
use Rattle.cluster_core.specs.Earlier.{last_place, place_after}
use Rattle.cluster_core.specs.Legal.{Legal}
use Rattle.cluster_core.specs.Lists.{At}
use Rattle.cluster_core.specs.declared.event.Event.{Event}
use Rattle.cluster_core.specs.declared.event.Event.TheVariants as event
use Rattle.cluster_core.proofs.ListLemmas.{along, at_some, fold_suc}
use Rattle.cluster_core.proofs.PlaceLemmas.{place_cases}
use Rattle.transcripts.specs.Placements.{printed}
use Rattle.transcripts.specs.Record.{InnerTurn, IsInLine, TurnPosition, IsTurnPosition, client_at, inner_turns, joined, lists_of}
use Rattle.told_by.specs.Spans.{IsAlone}
use Rattle.told_by.specs.Told.{ToldBy}
use Rattle.told_by.proofs.LineLemmas.{line_below}
use Rattle.told_by.proofs.PrintedLemmas.{ends_grow}
use Rattle.told_by.proofs.TurnLemmas.{at_cut, cut_same}
use Rattle.told_causes.specs.Boot.{HasOneTurn}
use Rattle.told_causes.proofs.HaltLemmas.{one_line, opening_low}

-- ---- turns that are alone

pub only_cut : (t : InnerTurn) (front : List (List InnerTurn)) (earlier : List InnerTurn) (u : InnerTurn) (later : List InnerTurn) (back : List (List InnerTurn)) → (t ∷ []) ∷ [] ≡ front ++ (earlier ++ u ∷ later) ∷ back
    → (front ≡ []) × (earlier ≡ []) × (back ≡ []) × (u ≡ t)
only_cut t [] [] u later back e = let head : t ∷ [] ≡ u ∷ later = cc in let tail : [] ≡ back = cc in let same : t ≡ u = cc in (refl, refl, sym tail, sym same)
only_cut t [] (z ∷ earlier) u later back e = let head : t ∷ [] ≡ z ∷ (earlier ++ u ∷ later) = cc in let rest : [] ≡ earlier ++ u ∷ later = cc in absurd (not_empty earlier u later rest)
only_cut t (l ∷ front) earlier u later back e = let rest : [] ≡ front ++ (earlier ++ u ∷ later) ∷ back = cc in absurd (not_empty front (earlier ++ u ∷ later) back rest)

-- the only turn of a line has one position
record OnlyAt (line : Turn) (t : InnerTurn) (q : TurnPosition) : Type 0 where
  client : q.client ≡ client_at line.request 0
  earlier : q.earlier ≡ []
  beside : q.beside ≡ []
  turn : q.turn ≡ t

only_at : (line : Turn) (t : InnerTurn) → lists_of line ≡ (t ∷ []) ∷ [] → (q : TurnPosition) → q.line ≡ line → IsInLine q → OnlyAt line t q
only_at line t alone q same h =
    let cut = only_cut t h.front q.earlier q.turn h.later h.back (sym alone ∙ ap lists_of (sym same) ∙ h.in_line) in
    record {
      client = h.client_is ∙ ap (λ (l : Turn). client_at l.request (length h.front)) same ∙ ap (λ (f : List (List InnerTurn)). client_at line.request (length f)) cut.0;
      earlier = cut.1;
      beside = h.others ∙ ap (λ f. joined f ++ joined h.back) cut.0 ∙ ap joined cut.2;
      turn = cut.3;
    }

pub alone_position : (turns : List Turn) (q b : TurnPosition) → IsAlone turns q → IsTurnPosition turns q → IsTurnPosition turns b → length b.lines ≡ length q.lines → b ≡ q
alone_position turns q b alone qa ba same =
    let cut = cut_same b.lines b.line ba.after q.lines q.line qa.after (sym ba.in_run ∙ qa.in_run) same in
    let there : At turns (length q.lines) q.line = subst (λ ts. At ts (length q.lines) q.line) (sym qa.in_run) (at_cut q.lines q.line qa.after) in
    let line : q.line ≡ alone.0 = same_Some q.line alone.0 (sym there ∙ alone.1) in
    let here = only_at alone.0 q.turn alone.2 q line qa.stands in
    let other = only_at alone.0 q.turn alone.2 b (cut.heres ∙ line) ba.stands in
    by b q cut.fronts cut.heres (other.client ∙ sym here.client) (other.earlier ∙ sym here.earlier) (other.beside ∙ sym here.beside) (other.turn ∙ sym here.turn)
  where
    by : (b q : TurnPosition) → b.lines ≡ q.lines → b.line ≡ q.line → b.client ≡ q.client → b.earlier ≡ q.earlier → b.beside ≡ q.beside → b.turn ≡ q.turn → b ≡ q
    by b q e f g h k l = λ i. record { lines = e i; line = f i; client = g i; earlier = h i; beside = k i; turn = l i }

-- the turns of its line
pub alone_turns : (line : Turn) (t : InnerTurn) → lists_of line ≡ (t ∷ []) ∷ [] → inner_turns (line ∷ []) ≡ t ∷ []
alone_turns line t alone = append-nil (joined (lists_of line)) ∙ ap joined alone

-- ---- Places

pub quiet_places : (events : List Event) (m d : ℕ) → m + d ≤ length events → ((i : ℕ) (place : Placement) (done : List (ℕ × ℕ)) → m ≤ i → i < m + d → At events i (event.Place place done) → ⊥) → last_place (take (m + d) events) ≡ last_place (take m events)
quiet_places events m zero high none = let same : m + 0 ≡ m = omega arith in ap (λ n. last_place (take n events)) same
quiet_places events m (suc d) high none =
    let next : m + suc d ≡ suc (m + d) = omega arith in
    let there = at_some events (m + d) (omega (arith, high)) in
    ap (λ n. last_place (take n events)) next
    ∙ fold_suc place_after None events (m + d) there.0 there.1
    ∙ elim (place_cases (last_place (take (m + d) events)) there.0) as (λ _. place_after (last_place (take (m + d) events)) there.0 ≡ last_place (take m events)) [
      | inl same ↦ same ∙ quiet_places events m d (omega (arith, high)) (λ i place done low below at. none i place done low (omega (arith, below)) at)
      | inr placing ↦ absurd (none (m + d) placing.0 placing.1 (omega arith) (omega arith) (there.1 ∙ ap Some placing.2))
    ]

pub take_none : {X : Type 0} (xs : List X) → take 0 xs ≡ []
take_none [] = refl
take_none (x ∷ xs) = refl

-- a turn of a line of one turn is alone in it
pub one_alone : (turns : List Turn) (q : TurnPosition) → IsTurnPosition turns q → HasOneTurn turns (length q.lines) → IsAlone turns q
one_alone turns q at one =
    let there : At turns (length q.lines) q.line = subst (λ ts. At ts (length q.lines) q.line) (sym at.in_run) (at_cut q.lines q.line at.after) in
    let here = only_at one.0 one.1 one.3 q (same_Some q.line one.0 (sym there ∙ one.2)) at.stands in
    (one.0, one.2, one.3 ∙ ap (λ (u : InnerTurn). (u ∷ []) ∷ []) (sym here.turn))

module _ {tells : Bool} (start : Option MetaState) (turns : List Turn) (events : List Event) (legal : Legal tells events) (told : ToldBy start turns events) where
  -- the lines before a turn are the first of the run
  pub lines_before : (q : TurnPosition) → IsTurnPosition turns q → take (length q.lines) turns ≡ q.lines
  lines_before q at = ap (take (length q.lines)) at.in_run ∙ take-append-le (length q.lines) q.lines (q.line ∷ at.after) (omega arith) ∙ take_whole q.lines

  -- where a turn is alone in its line, it made the Places there
  pub own_place : (q : TurnPosition) → IsTurnPosition turns q → HasOneTurn turns (length q.lines) → (i : ℕ) (place : Placement) (done : List (ℕ × ℕ)) → told.ends (length q.lines) ≤ i → i < told.ends (suc (length q.lines)) → At events i (event.Place place done)
      → ((told.spans).from q ≤ i) × ((stood : Placement) × (printed q.turn.answer ≡ Some stood))
  own_place q at one i place done low high there = by i low high there
    where
      less : length q.lines < length turns
      less = line_below turns q at

      only : IsAlone turns q
      only = one_alone turns q at one

      is_it : (i : ℕ) (b : TurnPosition) → b ≡ q → (told.spans).from b ≤ i → (stood : Placement) → printed b.turn.answer ≡ Some stood → ((told.spans).from q ≤ i) × ((stood : Placement) × (printed q.turn.answer ≡ Some stood))
      is_it i b same from stood prints = (subst (λ (z : TurnPosition). (told.spans).from z ≤ i) same from, (stood, ap (λ (z : TurnPosition). printed z.turn.answer) (sym same) ∙ prints))

      by : (i : ℕ) → told.ends (length q.lines) ≤ i → i < told.ends (suc (length q.lines)) → At events i (event.Place place done) → ((told.spans).from q ≤ i) × ((stood : Placement) × (printed q.turn.answer ≡ Some stood))
      by zero low high there =
          let b = (told.tells).init.begun (omega (arith, (told.lines).first, ends_grow start turns events told 0 (length q.lines) (omega arith) (omega (arith, less)), low)) (event.Place place done) there in
          let init = b.2 in
          let same = one_line start turns events legal told 0 (length (b.0).lines) (length q.lines) (line_below turns b.0 b.1) less (omega (arith, (told.lines).low b.0 b.1, init.from_is)) (omega (arith, (told.lines).high b.0 b.1, init.to_above)) low high in
          is_it 0 b.0 (alone_position turns q b.0 only at b.1 same) (omega (arith, init.from_is)) init.place (ap printed init.answered)
      by (suc zero) low high there = absurd (legal 1 (event.Place place done) there)
      by (suc (suc i)) low high there =
          let late : 2 ≤ suc (suc i) = omega arith in
          let above = opening_low start (suc (suc i)) late in
          let made = (told.tells).order.made (suc (suc i)) (event.Place place done) above late there tt in
          let b = told.makers (suc (suc i)) in
          let prints = (told.tells).makes (suc (suc i)) (event.Place place done) above late there in
          let same = one_line start turns events legal told (suc (suc i)) (length b.lines) (length q.lines) (line_below turns b made.0) less (omega (arith, (told.lines).low b made.0, (made.1).0)) (omega (arith, (told.lines).high b made.0, (made.1).1)) low high in
          is_it (suc (suc i)) b (alone_position turns q b only at made.0 same) (made.1).0 prints.stood prints.prints

-- ---- where placements come from

module _ {tells : Bool} (events : List Event) (legal : Legal tells events) where
  -- the placement stood at the first position, or it is a Place from there on and before the other
  abbrev pub StandsFrom : ℕ → ℕ → Placement → Type 0
  StandsFrom j k place = (last_place (take j events) ≡ Some place) ⊎ ((z : ℕ) × (done : List (ℕ × ℕ)) × (j ≤ z) × (z < k) × At events z (event.Place place done))

  stands_longer : (j k : ℕ) (place : Placement) → StandsFrom j k place → StandsFrom j (suc k) place
  stands_longer j k place (inl before) = inl before
  stands_longer j k place (inr z) = inr (z.0, z.1, z.2, omega (arith, z.3), z.4)

  pub stands_from : (j k : ℕ) → j ≤ k → k ≤ length events → (place : Placement) → last_place (take k events) ≡ Some place → StandsFrom j k place
  stands_from j k low high =
      along events (λ m. (place : Placement) → last_place (take m events) ≡ Some place → StandsFrom j m place) j (λ place last. inl last)
      (λ m e le there was place last. elim (place_cases (last_place (take m events)) e) as (λ _. StandsFrom j (suc m) place) [
        | inl same ↦ stands_longer j m place (was place (sym (fold_suc place_after None events m e there ∙ same) ∙ last))
        | inr placed ↦
            let it : placed.0 ≡ place = same_Some placed.0 place (sym (fold_suc place_after None events m e there ∙ placed.3) ∙ last) in
            inr (m, placed.1, le, omega arith, subst (λ q. At events m (event.Place q placed.1)) it (there ∙ ap Some placed.2))
      ])
      k low high
