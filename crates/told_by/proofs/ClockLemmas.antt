-- The Clocks of a legal list that tells of a run: none before the end of a turn is above the turn's rules.
use Rattle.std.proofs.Common.{◌≡◌, ℕ, zero, suc, ◌<◌, ◌≤◌, List, [], ◌∷◌, ◌++◌, take, length, refl, sym, ap, ◌∙◌, subst, inl, inr, arith, append_assoc, append-nil, length-append, Bool, true, false}
use Rattle.std.specs.Prelude.{◌⊎◌, Option, Some, None, slice_get}
use Rattle.std.proofs.lemmas.Bool.{cases_lt, cases_eq}
use Rattle.std.proofs.lemmas.Option.{same_Some}
use Rattle.m3_model.specs.Members.{IsIn}
use Rattle.m3_model.specs.Rules.{HasExpired}
use Rattle.transcripts.specs.Record.{InnerTurn, TurnPosition, IsTurnPosition, lists_of, joined, inner_turns}
use Rattle.transcripts.specs.Rules.{rules_after, rules_at, rules_by, start_rules}
use Rattle.m3_model.specs.declared.point.Point.{Point}
use Rattle.m3_model.specs.declared.rules.MetaState.{MetaState}
use Rattle.m3_model.specs.declared.rules.Rules.{Rules}
use Rattle.m3_model.specs.declared.rules.Space.{Space}
use Rattle.m3_model.specs.declared.turn.Turn.{Turn}
use Rattle.cluster_core.specs.Earlier.{last_clock, clock_after}
use Rattle.cluster_core.specs.Legal.{Legal, IsNextClock}
use Rattle.cluster_core.specs.Lists.{At}
use Rattle.cluster_core.specs.declared.event.Event.{Event}
use Rattle.cluster_core.specs.declared.event.Event.TheVariants as event
use Rattle.cluster_core.proofs.ListLemmas.{at_within, at_same, at_take, fold_suc, along}
use Rattle.told_by.specs.Clocks.{sets_rules, rules_left}
use Rattle.told_by.specs.Openings.{opening_length}
use Rattle.told_by.specs.Spans.{IsAlone, IsWithin}
use Rattle.told_by.specs.Told.{ToldBy}
use Rattle.told_by.proofs.RuleLemmas.{after_lines, by_same}
use Rattle.told_by.proofs.TurnLemmas.{Stands, stands, before_line, before_there, in_other_list, is_it, comes_later, alone_is, position_in, at_cut}

-- ---- rules that aren't above others

-- the moment isn't higher, and each namespace stands at its position
pub record NotAbove (r s : Rules) : Type 0 where
  pub moment : r.now ≤ s.now
  pub there : (k : ℕ) (space : Space) → slice_get r.spaces k ≡ Some space → slice_get s.spaces k ≡ Some space

pub not_above_same : (r s : Rules) → r ≡ s → NotAbove r s
not_above_same r s e = record { moment = omega (arith, ap (λ (x : Rules). x.now) e); there = λ k space h. subst (λ (x : Rules). slice_get x.spaces k ≡ Some space) e h }

pub not_above_on : (r s t : Rules) → NotAbove r s → NotAbove s t → NotAbove r t
not_above_on r s t a b = record { moment = omega (arith, a.moment, b.moment); there = λ k space h. b.there k space (a.there k space h) }

-- what had expired then has expired now
pub expired_later : (r s : Rules) (p : Point) → NotAbove r s → HasExpired r p → HasExpired s p
expired_later r s p a h = record { space = h.space; stands = a.there p.ns h.space h.stands; ended = omega (arith, a.moment, h.ended) }

next_not_above : (past : List Event) (r s : Rules) → last_clock past ≡ Some r → IsNextClock past s → NotAbove r s
next_not_above past r s last next =
    let same : next.last ≡ r = same_Some next.last r (sym next.last_is ∙ last) in
    record {
      moment = omega (arith, next.not_lower, ap (λ (x : Rules). x.now) same);
      there = λ k space h.
          let old : At (next.last).spaces k space = subst (λ (x : Rules). At x.spaces k space) (sym same) h in
          (at_take s.spaces k (length (next.last).spaces) space (subst (λ xs. At xs k space) (sym next.grows) old)).0;
    }

-- ---- Clocks along a legal list

pub clock_cases : (was : Option Rules) (e : Event) → (clock_after was e ≡ was) ⊎ ((r : Rules) × (e ≡ event.Clock r) × (clock_after was e ≡ Some r))
clock_cases was (event.Clock rules) = inr (rules, refl, refl)
clock_cases was (event.Ask asked) = inl refl
clock_cases was (event.Place p done) = inl refl
clock_cases was (event.Send version shard point) = inl refl
clock_cases was (event.Ack send nodes) = inl refl
clock_cases was (event.FetchStart version shard rules pick from to) = inl refl
clock_cases was (event.FetchDone start nodes series) = inl refl
clock_cases was (event.Step n s c a) = inl refl

pub clock_late : (events : List Event) → Legal true events → (i : ℕ) (r : Rules) → At events i (event.Clock r) → 1 ≤ i
clock_late events legal zero r h = absurd (legal zero (event.Clock r) h)
clock_late events legal (suc i) r h = omega arith

next_clock : (events : List Event) → Legal true events → (i : ℕ) (r : Rules) → 2 ≤ i → At events i (event.Clock r) → IsNextClock (take i events) r
next_clock events legal zero r low h = absurd (omega arith)
next_clock events legal (suc zero) r low h = absurd (omega arith)
next_clock events legal (suc (suc i)) r low h = (legal (suc (suc i)) (event.Clock r) h).1

-- what is last after a Clock isn't below it
last_above : (events : List Event) → Legal true events → (i : ℕ) (r : Rules) → At events i (event.Clock r) → (j : ℕ) → suc i ≤ j → j ≤ length events → (w : Rules) × (last_clock (take j events) ≡ Some w) × NotAbove r w
last_above events legal i r there j low high =
    let late = clock_late events legal i r there in
    along events (λ k. (w : Rules) × (last_clock (take k events) ≡ Some w) × NotAbove r w) (suc i)
    (r, fold_suc clock_after None events i (event.Clock r) there, not_above_same r r refl)
    (λ k e le at was.
    elim (clock_cases (last_clock (take k events)) e) as (λ _. (w : Rules) × (last_clock (take (suc k) events) ≡ Some w) × NotAbove r w) [
      | inl same ↦ (was.0, fold_suc clock_after None events k e at ∙ same ∙ was.1, was.2)
      | inr own ↦ (
        own.0,
        fold_suc clock_after None events k e at ∙ own.2,
        not_above_on r was.0 own.0 was.2 (next_not_above (take k events) was.0 own.0 was.1 (next_clock events legal k own.0 (omega (arith, late)) (at ∙ ap Some own.1))),
      )
    ])
    j low high

-- an earlier Clock isn't above a later one
pub clocks_ascend : (events : List Event) → Legal true events → (i j : ℕ) (r s : Rules) → i ≤ j → At events i (event.Clock r) → At events j (event.Clock s) → NotAbove r s
clocks_ascend events legal i j r s le hr hs =
    elim (cases_eq i j) as (λ _. NotAbove r s) [
      | inl e ↦ let same : event.Clock r ≡ event.Clock s = at_same events j (event.Clock r) (event.Clock s) (subst (λ k. At events k (event.Clock r)) e hr) hs in not_above_same r s (cc)
      | inr ne ↦
          let late = clock_late events legal i r hr in
          let bound = at_within events j (event.Clock s) hs in
          let last = last_above events legal i r hr j (omega arith) (omega arith) in
          not_above_on r last.0 s last.2 (next_not_above (take j events) last.0 s last.1 (next_clock events legal j s (omega (arith, late)) hs))
    ]

-- ---- lines that set the rules

-- some turn sets the rules, or none does
some_sets : (ts : List InnerTurn) → ((t : InnerTurn) × IsIn ts t × (sets_rules t.act t.answer ≡ true)) ⊎ ((t : InnerTurn) → IsIn ts t → sets_rules t.act t.answer ≡ false)
some_sets [] = inr (λ t h. absurd h)
some_sets (t ∷ ts) = by (sets_rules t.act t.answer) refl (some_sets ts)
  where
    by : (b : Bool) → sets_rules t.act t.answer ≡ b → ((u : InnerTurn) × IsIn ts u × (sets_rules u.act u.answer ≡ true)) ⊎ ((u : InnerTurn) → IsIn ts u → sets_rules u.act u.answer ≡ false)
        → ((u : InnerTurn) × IsIn (t ∷ ts) u × (sets_rules u.act u.answer ≡ true)) ⊎ ((u : InnerTurn) → IsIn (t ∷ ts) u → sets_rules u.act u.answer ≡ false)
    by true e later = inl (t, inl refl, e)
    by false e (inl found) = inl (found.0, inr found.1, found.2)
    by false e (inr none) = inr (λ u h. elim h as (λ _. sets_rules u.act u.answer ≡ false) [ inl same ↦ subst (λ (x : InnerTurn). sets_rules x.act x.answer ≡ false) same e | inr r ↦ none u r ])

none_set : (r : Rules) (ts : List InnerTurn) → ((t : InnerTurn) → IsIn ts t → sets_rules t.act t.answer ≡ false) → rules_after r ts ≡ r
none_set r [] none = refl
none_set r (t ∷ ts) none = ap (λ s. rules_after s ts) (by_same t.act t.answer r (none t (inl refl))) ∙ none_set r ts (λ u h. none u (inr h))

one_line : (r : Rules) (line : Turn) → rules_after r (inner_turns (line ∷ [])) ≡ rules_after r (joined (lists_of line))
one_line r line = ap (rules_after r) (append-nil (joined (lists_of line)))

-- the rules that a line of one turn leaves
alone_leaves : (r : Rules) (line : Turn) (t : InnerTurn) → lists_of line ≡ (t ∷ []) ∷ [] → rules_after r (inner_turns (line ∷ [])) ≡ rules_by t.act t.answer r
alone_leaves r line t e = one_line r line ∙ ap (λ ls. rules_after r (joined ls)) e

-- the line of a turn that is alone has this turn
alone_line : (turns : List Turn) (q : TurnPosition) → IsAlone turns q → (done : List Turn) (line : Turn) → q.lines ≡ done → At turns (length done) line → lists_of line ≡ (q.turn ∷ []) ∷ []
alone_line turns q alone done line e there = let same : line ≡ alone.0 = at_same turns (length q.lines) line alone.0 (subst (λ n. At turns n line) (sym (ap length e)) there) alone.1 in ap lists_of same ∙ alone.2

-- the same, at the turn's position
left_here : (start : Option MetaState) (q : TurnPosition) (done : List Turn) (line : Turn) → q.lines ≡ done → lists_of line ≡ (q.turn ∷ []) ∷ [] → rules_after (rules_after (start_rules start) (inner_turns done)) (inner_turns (line ∷ [])) ≡ rules_left start q
left_here start q done line e alone = alone_leaves (rules_after (start_rules start) (inner_turns done)) line q.turn alone ∙ ap (λ xs. rules_by q.turn.act q.turn.answer (rules_after (start_rules start) (inner_turns xs))) (sym e)

module _ (start : Option MetaState) (turns : List Turn) (events : List Event) (legal : Legal true events) (told : ToldBy start turns events) where
  -- where the line stands
  line_at : (done : List Turn) (line : Turn) (after : List Turn) → turns ≡ done ++ line ∷ after → At turns (length done) line
  line_at done line after e = subst (λ ts. At ts (length done) line) (sym e) (at_cut done line after)

  -- lines past a Clock's own leave rules that aren't below it
  lines_leave : (q : TurnPosition) (i : ℕ) (r : Rules) → IsTurnPosition turns q → i < (told.spans).to q → At events i (event.Clock r)
      → (lines done after : List Turn) → turns ≡ done ++ (lines ++ after) → length q.lines < length done → NotAbove r (rules_after (start_rules start) (inner_turns done))
      → NotAbove r (rules_after (start_rules start) (inner_turns (done ++ lines)))
  lines_leave q i r in_run low there [] done after e less h = subst (λ xs. NotAbove r (rules_after (start_rules start) (inner_turns xs))) (sym (append-nil done)) h
  lines_leave q i r in_run low there (l ∷ lines) done after e less h =
      let now = rules_after (start_rules start) (inner_turns done) in
      subst (λ xs. NotAbove r (rules_after (start_rules start) (inner_turns xs))) (append_assoc done (l ∷ []) lines)
      (lines_leave q i r in_run low there lines (done ++ l ∷ []) after (e ∙ sym (append_assoc done (l ∷ []) (lines ++ after))) (omega (arith, length-append done (l ∷ [])))
      (subst (NotAbove r) (sym (after_lines (start_rules start) done (l ∷ [])))
      (elim (some_sets (joined (lists_of l))) as (λ _. NotAbove r (rules_after now (inner_turns (l ∷ [])))) [
        | inr none ↦ subst (NotAbove r) (sym (one_line now l ∙ none_set now (joined (lists_of l)) none)) h
        | inl set ↦
            let p = position_in turns done l (lines ++ after) e set.0 set.1 in
            let sets : sets_rules (p.0).turn.act (p.0).turn.answer ≡ true = subst (λ (t : InnerTurn). sets_rules t.act t.answer ≡ true) (sym p.2) set.2 in
            let clock = (told.tells).clocks.set p.0 p.1 sets in
            let made = (told.tells).order.made clock.clock (event.Clock (rules_left start p.0)) clock.mine clock.past_opening clock.there tt in
            let own = (told.tells).clocks.each_clock clock.clock (rules_left start p.0) clock.mine clock.past_opening clock.there in
            let alone = subst (λ x. IsAlone turns x) clock.own own.alone in
            let before : (told.spans).to q ≤ (told.spans).from p.0 = (told.tells).order.order q p.0 in_run p.1 (inl (omega (arith, ap length p.3))) in
            let within : (told.spans).from p.0 ≤ clock.clock = subst (λ x. (told.spans).from x ≤ clock.clock) clock.own (made.1).0 in
            let left = left_here start p.0 done l p.3 (alone_line turns p.0 alone done l p.3 (line_at done l (lines ++ after) e)) in
            subst (NotAbove r) (sym left) (clocks_ascend events legal i clock.clock r (rules_left start p.0) (omega arith) there clock.there)
      ])))

  -- the rules that a turn alone in its line leaves are those before the next line
  left_by_line : (q : TurnPosition) → (alone : IsAlone turns q) → (line : Turn) → At turns (length q.lines) line → rules_after (start_rules start) (inner_turns (q.lines ++ line ∷ [])) ≡ rules_left start q
  left_by_line q alone line there =
      let same : line ≡ alone.0 = at_same turns (length q.lines) line alone.0 there alone.1 in
      after_lines (start_rules start) q.lines (line ∷ []) ∙ alone_leaves (rules_after (start_rules start) (inner_turns q.lines)) line q.turn (ap lists_of same ∙ alone.2)

  -- no Clock before the end of a turn, which sets none itself, is above the turn's rules, where these are some Clock's
  pub clocks_below : (b : TurnPosition) → IsTurnPosition turns b → sets_rules b.turn.act b.turn.answer ≡ false → (c : ℕ) → At events c (event.Clock (rules_at start b))
      → (i : ℕ) (r : Rules) → i < (told.spans).to b → At events i (event.Clock r) → NotAbove r (rules_at start b)
  clocks_below b at quiet c clock i r low there =
      elim (cases_lt c i) as (λ _. NotAbove r (rules_at start b)) [
        | inr le ↦ clocks_ascend events legal i c r (rules_at start b) le there clock
        | inl lt ↦
            let late = clock_late events legal c (rules_at start b) clock in
            let opened = opening_low start in
            let past_opening : 2 ≤ i = omega (arith, late) in
            let not_below : opening_length start ≤ i = omega (arith, opened) in
            by_maker (told.makers i) ((told.tells).clocks.each_clock i r not_below past_opening there).alone ((told.tells).clocks.each_clock i r not_below past_opening there).sets ((told.tells).clocks.each_clock i r not_below past_opening there).rules_are
            ((told.tells).order.made i (event.Clock r) not_below past_opening there tt)
      ]
    where
      opening_low : (o : Option MetaState) → opening_length o ≤ 2
      opening_low None = omega arith
      opening_low (Some state) = omega arith

      clash : (q : TurnPosition) → sets_rules q.turn.act q.turn.answer ≡ true → q.turn ≡ b.turn → ⊥
      clash q sets same = let bad : true ≡ false = sym sets ∙ ap (λ (t : InnerTurn). sets_rules t.act t.answer) same ∙ quiet in cc

      by_position : (q : TurnPosition) → IsAlone turns q → sets_rules q.turn.act q.turn.answer ≡ true → r ≡ rules_left start q → IsTurnPosition turns q → (told.spans).from q ≤ i → i < (told.spans).to q → Stands q b → NotAbove r (rules_at start b)
      by_position q alone sets left in_run from to (before_line rest line e h) =
          let whole : turns ≡ q.lines ++ line ∷ (rest ++ b.line ∷ at.after) = at.in_run ∙ ap (λ xs. xs ++ b.line ∷ at.after) e ∙ append_assoc q.lines (line ∷ rest) (b.line ∷ at.after) in
          let there_line : At turns (length q.lines) line = line_at q.lines line (rest ++ b.line ∷ at.after) whole in
          let base : NotAbove r (rules_after (start_rules start) (inner_turns (q.lines ++ line ∷ []))) = not_above_same r (rules_after (start_rules start) (inner_turns (q.lines ++ line ∷ []))) (left ∙ sym (left_by_line q alone line there_line)) in
          subst (λ xs. NotAbove r (rules_after (start_rules start) (inner_turns xs))) (append_assoc q.lines (line ∷ []) rest ∙ sym e)
          (lines_leave q i r in_run to there rest (q.lines ++ line ∷ []) (b.line ∷ at.after) (whole ∙ sym (append_assoc q.lines (line ∷ []) (rest ++ b.line ∷ at.after))) (omega (arith, length-append q.lines (line ∷ []))) base)
      by_position q alone sets left in_run from to (before_there e h) = absurd (clash q sets (alone_is turns q b alone at (ap length (sym e))))
      by_position q alone sets left in_run from to (in_other_list e h) = absurd (clash q sets (alone_is turns q b alone at (ap length (sym e))))
      by_position q alone sets left in_run from to (is_it e) = absurd (clash q sets (ap (λ (x : TurnPosition). x.turn) e))
      by_position q alone sets left in_run from to (comes_later e) = let before : (told.spans).to b ≤ (told.spans).from q = (told.tells).order.order b q at in_run e in absurd (omega arith)

      by_maker : (q : TurnPosition) → IsAlone turns q → sets_rules q.turn.act q.turn.answer ≡ true → r ≡ rules_left start q → IsTurnPosition turns q × IsWithin told.spans q i → NotAbove r (rules_at start b)
      by_maker q alone sets left made = by_position q alone sets left made.0 (made.1).0 (made.1).1 (stands turns q b made.0 at)
