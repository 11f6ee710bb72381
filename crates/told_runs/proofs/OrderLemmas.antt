-- How the list of a run that is served was made: in a line of several turns a Place gives nobody a shard, since a turn that prints it, or one beside that, says which moves it ended.
use Rattle.std.proofs.Common.{◌≡◌, ℕ, ◌≤◌, length, zero, suc, List, [], ◌∷◌, ◌++◌, map, take, refl, sym, ap, ◌∙◌, subst, inl, inr, arith, true, Bool}
use Rattle.std.specs.Prelude.{◌⊎◌, Option, Some, None, MatchOption}
use Rattle.std.proofs.lemmas.Option.{same_Some}
use Rattle.m3_model.specs.Members.{IsIn}
use Rattle.m3_model.proofs.MemberLemmas.{IsIn-append_cases, IsIn-append_left, IsIn-append_right}
use Rattle.m3_model.specs.declared.act.Act.{Act}
use Rattle.m3_model.specs.declared.act.Act.TheVariants as act
use Rattle.m3_model.specs.declared.answer.Answer.{Answer}
use Rattle.m3_model.specs.declared.answer.Answer.TheVariants as answer
use Rattle.m3_model.specs.declared.placement.Assignment.{Assignment}
use Rattle.m3_model.specs.declared.placement.Placement.{Placement}
use Rattle.m3_model.specs.declared.rules.MetaState.{MetaState}
use Rattle.m3_model.specs.declared.turn.Turn.{Turn}
use Rattle.placement_core.specs.Shards.{Shard}
use Rattle.placement_core.specs.Steps.{Ends, done_at}
use Rattle.placement_core.proofs.ListLemmas.{Any-from_IsIn, IsIn-from_Any}
use Rattle.placement_plan.specs.Plans.{IsAvailable}
use Rattle.cluster_core.specs.Earlier.{last_place}
use Rattle.cluster_core.specs.Legal.{Legal}
use Rattle.cluster_core.specs.Lists.{At}
use Rattle.cluster_core.specs.declared.event.Event.{Event}
use Rattle.cluster_core.specs.declared.event.Event.TheVariants as event
use Rattle.cluster_core.proofs.ListLemmas.{at_some, at_take, at_within}
use Rattle.cluster_core.proofs.TraceLemmas.{lawful_place}
use Rattle.transcripts.specs.Caused.{EndsInto, IsMade}
use Rattle.transcripts.specs.Faults.{Fault}
use Rattle.transcripts.specs.Placements.{MayStand, placement_after, placement_at, printed, start_placement}
use Rattle.transcripts.specs.Record.{AreSomeOf, InnerTurn, TurnPosition, IsTurnPosition, inner_turns, lists_of}
use Rattle.transcripts.proofs.PlacementLemmas.{after_from}
use Rattle.told_by.specs.Makes.{IsAssigned}
use Rattle.told_by.specs.Openings.{sets_seed}
use Rattle.told_by.specs.Told.{ToldBy}
use Rattle.told_by.proofs.LeaveLemmas.{place_there}
use Rattle.told_by.proofs.LineLemmas.{line_below}
use Rattle.told_by.proofs.PrintedLemmas.{greatest_so_far, one_place, placements_stand}
use Rattle.told_by.proofs.TurnLemmas.{at_cut, earlier_line, position_in}
use Rattle.told_causes.specs.Boot.{GivesNone, HasOneTurn, IsPrintedIn}
use Rattle.told_causes.proofs.AloneLemmas.{lines_before}
use Rattle.told_causes.proofs.StoodLemmas.{in_line}
use Rattle.told_moves.specs.Order.{IsInOrder, IsInitAct}
use Rattle.told_moves.proofs.TenureLemmas.{HasTenure, settled_had}
use Rattle.told_runs.specs.Answers.{IsAnswered, IsDecidedBy, IsOfKind}
use Rattle.told_runs.specs.Laws.{IsMadeInOrder}
use Rattle.told_runs.proofs.SilentLemmas.{refusal_silent}
use Rattle.told_runs.proofs.UsedLemmas.{some_in}

-- ---- moves that end

-- where a shard's move ends, or nothing changes, whoever has it had it with the same tenure
shard_had : (o : Option ℕ) (a b : Shard) → MatchOption o (b ≡ a) (λ to. Ends a b to) → (x : Assignment) → IsIn b x → HasTenure a x.node x.tenure
shard_had None a b same x m = record { assigned = x; among = subst (λ z. IsIn z x) same m; of_node = refl; tenure_is = refl }
shard_had (Some to) a b ends x m = settled_had (ends.2).from to a b x (ends.2).next_is m

available_had : (old next : Placement) (pairs : List (ℕ × ℕ)) → IsAvailable old pairs next → (n s tenure : ℕ) → IsAssigned next n s tenure → IsAssigned old n s tenure
available_had old next pairs available n s tenure given =
    let shards = (available.follows).shards in
    let was = at_some old.shards s (omega (arith, at_within next.shards s given.0 given.1, shards.count)) in
    let x = IsIn-from_Any (λ (a : Assignment). (a.node ≡ n) × (a.tenure ≡ tenure)) given.0 given.2 in
    let had = shard_had (done_at s pairs) was.0 given.0 (shards.each s was.0 given.0 was.1 given.1) x.0 x.1 in
    (was.0, was.1, Any-from_IsIn (λ (a : Assignment). (a.node ≡ n) × (a.tenure ≡ tenure)) was.0 had.assigned had.among (had.of_node ∙ (x.2).0, had.tenure_is ∙ (x.2).1))

-- ---- answers

-- an answer prints nothing that is a refusal or of want of memory or of room; else it is of the act's kind
pub kind_or_silent : (taking : List Fault) (start : Option MetaState) (end : ℕ) (p : TurnPosition) → IsAnswered taking start end p → (printed p.turn.answer ≡ None) ⊎ IsOfKind taking start p p.turn.act p.turn.answer
kind_or_silent taking start end p (inl memory) = inl (ap printed memory)
kind_or_silent taking start end p (inr (inl full)) = inl (ap printed full.0)
kind_or_silent taking start end p (inr (inr decided)) = by _ (λ r e. refusal_silent _ _ _ _ p.turn.act r e) decided.2
  where
    by : (o : Option Answer) → ((r : Answer) → o ≡ Some r → printed r ≡ None) → IsDecidedBy taking start p o → (printed p.turn.answer ≡ None) ⊎ IsOfKind taking start p p.turn.act p.turn.answer
    by (Some r) silent e = inl (ap printed e ∙ silent r refl)
    by None silent kind = inr kind

-- the placement is what moves that end leave of one that may stand
record IsEndOfMoves (start : Option MetaState) (p : TurnPosition) (place : Placement) : Type 0 where
  before : Placement
  stands : MayStand start p before
  pairs : List (ℕ × ℕ)
  next : IsAvailable before pairs place

-- whoever prints a placement is an `init`, is the only turn of its line, ended moves into it, or prints one that was made
prints_by : (taking : List Fault) (start : Option MetaState) (p : TurnPosition) (a : Act) (b : Answer) (place : Placement) → IsOfKind taking start p a b → printed b ≡ Some place
    → (sets_seed a b ≡ true) ⊎ ((lists_of p.line ≡ (p.turn ∷ []) ∷ []) ⊎ (IsEndOfMoves start p place ⊎ IsMade start p place))
prints_by taking start p (act.Init rf shards seed nodes) (answer.Placed next version) place kind prints = inl refl
prints_by taking start p (act.Bootstrap node asked) (answer.Available [] next version) place kind prints = inr (inr (inr (subst (IsMade start p) (sym kind.left ∙ same_Some next place prints) kind.made)))
prints_by taking start p (act.Bootstrap node asked) (answer.Available (x ∷ available) next version) place kind prints =
    let pairs = map (λ (y : ℕ × List ℕ). (y.0, (kind.left).node)) (x ∷ available) in
    inr (inr (inl (record { before = kind.before; stands = kind.stands; pairs = pairs; next = subst (IsAvailable kind.before pairs) (same_Some next place prints) (kind.left).next })))
prints_by taking start p (act.Add node group) (answer.Placed next version) place kind prints = inr (inl kind.0)
prints_by taking start p (act.Drain node) (answer.Placed next version) place kind prints = inr (inl kind.0)
prints_by taking start p (act.Cancel node) (answer.Placed next version) place kind prints = inr (inl kind.0)
prints_by taking start p (act.Remove node) (answer.Placed next version) place kind prints = inr (inl kind.0)
prints_by taking start p (act.Replace node by group) (answer.Placed next version) place kind prints = inr (inl kind.0)
prints_by taking start p _ (answer.Placed next version) place kind prints = absurd kind
prints_by taking start p _ (answer.Available available next version) place kind prints = absurd kind
prints_by taking start p _ _ place kind prints = absurd (let bad : None ≡ Some place = prints in cc)

ends_prints : (b : Answer) (place : Placement) → EndsInto b place → printed b ≡ Some place
ends_prints (answer.Available (x ∷ available) next version) place is = ap Some is
ends_prints _ place is = absurd is

end_by : (taking : List Fault) (start : Option MetaState) (p : TurnPosition) (a : Act) (b : Answer) (place : Placement) → IsOfKind taking start p a b → EndsInto b place → IsEndOfMoves start p place
end_by taking start p (act.Bootstrap node asked) (answer.Available (x ∷ available) next version) place kind is =
    record { before = kind.before; stands = kind.stands; pairs = map (λ (y : ℕ × List ℕ). (y.0, (kind.left).node)) (x ∷ available); next = subst (IsAvailable kind.before (map (λ (y : ℕ × List ℕ). (y.0, (kind.left).node)) (x ∷ available))) is (kind.left).next }
end_by taking start p _ (answer.Available (x ∷ available) next version) place kind is = absurd kind
end_by taking start p _ _ place kind is = absurd is

sets_by : (taking : List Fault) (start : Option MetaState) (p : TurnPosition) (a : Act) (b : Answer) (place : Placement) → IsOfKind taking start p a b → IsInitAct a → printed b ≡ Some place → sets_seed a b ≡ true
sets_by taking start p (act.Init rf shards seed nodes) (answer.Placed next version) place kind is prints = refl
sets_by taking start p (act.Init rf shards seed nodes) (answer.Group shard) place kind is prints = absurd (let bad : None ≡ Some place = prints in cc)
sets_by taking start p (act.Init rf shards seed nodes) (answer.Disk name shard) place kind is prints = absurd (let bad : None ≡ Some place = prints in cc)
sets_by taking start p (act.Init rf shards seed nodes) _ place kind is prints = absurd kind
sets_by taking start p _ b place kind is prints = absurd is

-- ---- the list

module _ {tells : Bool} (taking : List Fault) (start : Option MetaState) (turns : List Turn) (events : List Event) (legal : Legal tells events) (told : ToldBy start turns events)
    (answered : (p : TurnPosition) → IsTurnPosition turns p → IsAnswered taking start ((told.spans).to p) p) where
  -- a placement that may stand is a Place
  stood_place : (p : TurnPosition) → IsTurnPosition turns p → (place : Placement) → MayStand start p place → (z : ℕ) × (done : List (ℕ × ℕ)) × At events z (event.Place place done)
  stood_place p at place h =
      let after = h.1 in
      elim (after_from h.0 (start_placement start) place h.2) as (λ _. (z : ℕ) × (done : List (ℕ × ℕ)) × At events z (event.Place place done)) [
        | inl found ↦ by_start start refl found
        | inr t ↦ by_turn t.0 (subst (λ ts. IsIn ts t.0) after.are t.1) t.2 after.others after.some_of
      ]
    where
      by_position : (q : TurnPosition) → IsTurnPosition turns q → printed q.turn.answer ≡ Some place → (z : ℕ) × (done : List (ℕ × ℕ)) × At events z (event.Place place done)
      by_position q at_q prints = let has = (told.tells).placements.is_place q at_q place prints in (has.place_at, has.done, has.there)

      by_beside : (t : InnerTurn) → IsIn (p.earlier ++ p.beside) t → printed t.answer ≡ Some place → (z : ℕ) × (done : List (ℕ × ℕ)) × At events z (event.Place place done)
      by_beside t m prints = let q = position_in turns p.lines p.line at.after at.in_run t (in_line p turns at t m) in by_position q.0 q.1 (ap (λ (u : InnerTurn). printed u.answer) q.2 ∙ prints)

      by_turn : (t : InnerTurn) → IsIn (inner_turns p.lines ++ (p.earlier ++ (h.1).others)) t → printed t.answer ≡ Some place → (others : List InnerTurn) → AreSomeOf others p.beside → (z : ℕ) × (done : List (ℕ × ℕ)) × At events z (event.Place place done)
      by_turn t m prints others some =
          elim (IsIn-append_cases (inner_turns p.lines) (p.earlier ++ (h.1).others) t m) as (λ _. (z : ℕ) × (done : List (ℕ × ℕ)) × At events z (event.Place place done)) [
            | inl before ↦ let q = earlier_line turns p at t before in by_position q.position q.in_run (ap (λ (u : InnerTurn). printed u.answer) q.turn_is ∙ prints)
            | inr rest ↦ by_beside t (elim (IsIn-append_cases p.earlier (h.1).others t rest) as (λ _. IsIn (p.earlier ++ p.beside) t) [
              | inl earlier ↦ IsIn-append_left p.earlier p.beside t earlier
              | inr other ↦ IsIn-append_right p.earlier p.beside t (some_in (h.1).others p.beside t (h.1).some_of other)
            ]) prints
          ]

      by_start : (o : Option MetaState) → start ≡ o → start_placement start ≡ Some place → (z : ℕ) × (done : List (ℕ × ℕ)) × At events z (event.Place place done)
      by_start None is found = absurd (let bad : None ≡ Some place = sym (ap start_placement is) ∙ found in cc)
      by_start (Some state) is found = (0, [], subst (λ q. At events 0 (event.Place q [])) (same_Some state.place place (sym (ap start_placement is) ∙ found)) (told.opened state is).placed)

  -- a placement that a turn of this line ended moves into
  record IsEndedBy (place : Placement) : Type 0 where
    ender : TurnPosition
    in_run : IsTurnPosition turns ender
    moves : IsEndOfMoves start ender place

  -- a placement that a turn of a line of several turns prints, and that is a Place of the line, is one
  ended_by : (p : TurnPosition) → IsTurnPosition turns p → (HasOneTurn turns (length p.lines) → ⊥) → (place : Placement) → printed p.turn.answer ≡ Some place
      → (z : ℕ) (was : Placement) → told.ends (length p.lines) ≤ suc z → suc z ≤ length events → last_place (take (suc z) events) ≡ Some was → place.version ≡ suc was.version → IsEndedBy place
  ended_by p at many place prints z was low high was_is version =
      elim (kind_or_silent taking start ((told.spans).to p) p (answered p at)) as (λ _. IsEndedBy place) [
        | inl silent ↦ absurd (let bad : None ≡ Some place = sym silent ∙ prints in cc)
        | inr kind ↦ elim (prints_by taking start p p.turn.act p.turn.answer place kind prints) as (λ _. IsEndedBy place) [
          | inl sets ↦ let only = ((told.tells).init.inits p at sets).alone in absurd (many (only.0, p.turn, only.1, only.2))
          | inr unset ↦ elim unset as (λ _. IsEndedBy place) [
            | inl only ↦ absurd (many (by_only only))
            | inr other ↦ elim other as (λ _. IsEndedBy place) [
              | inl moves ↦ record { ender = p; in_run = at; moves = moves }
              | inr made ↦ elim made as (λ _. IsEndedBy place) [ inl base ↦ absurd (by_base base) | inr t ↦ by_turn t.0 t.1 t.2 ]
            ]
          ]
        ]
      ]
    where
      -- the turn isn't the only one of its line
      by_only : lists_of p.line ≡ (p.turn ∷ []) ∷ [] → HasOneTurn turns (length p.lines)
      by_only only = (p.line, p.turn, subst (λ ls. At ls (length p.lines) p.line) (sym at.in_run) (at_cut p.lines p.line at.after), only)

      -- it isn't one from before the line
      by_base : placement_at start p ≡ Some place → ⊥
      by_base base =
          let k = length p.lines in
          let last = placements_stand start turns events legal told k (omega (arith, line_below turns p at)) ∙ ap (λ ls. placement_after (start_placement start) (inner_turns ls)) (lines_before start turns events legal told p at) ∙ base in
          let there = place_there (take (told.ends k) events) place last in
          let here = at_take events there.0 (told.ends k) (event.Place place there.1) there.2 in
          omega (arith, version, greatest_so_far events legal there.0 (suc z) place was there.1 here.0 (omega (arith, here.1, low)) high was_is)

      by_turn : (t : InnerTurn) → IsIn (p.earlier ++ p.beside) t → EndsInto t.answer place → IsEndedBy place
      by_turn t m ends =
          let q = position_in turns p.lines p.line at.after at.in_run t (in_line p turns at t m) in
          let ends_q : EndsInto (q.0).turn.answer place = subst (λ (u : InnerTurn). EndsInto u.answer place) (sym q.2) ends in
          elim (kind_or_silent taking start ((told.spans).to q.0) q.0 (answered q.0 q.1)) as (λ _. IsEndedBy place) [
            | inl silent ↦ absurd (let bad : None ≡ Some place = sym silent ∙ ends_prints (q.0).turn.answer place ends_q in cc)
            | inr kind ↦ record { ender = q.0; in_run = q.1; moves = end_by taking start q.0 (q.0).turn.act (q.0).turn.answer place kind ends_q }
          ]

  -- a Place of a line of several turns that one of them prints gives nobody a shard
  gives_nobody : (k z : ℕ) (place : Placement) (done : List (ℕ × ℕ)) → (HasOneTurn turns k → ⊥) → told.ends k ≤ z → At events z (event.Place place done) → IsPrintedIn turns told.spans k z place → GivesNone (take z events) place
  gives_nobody k zero place done many low there by last last_is n s tenure given = let first = place_there (take 0 events) last last_is in absurd (omega (arith, (at_take events first.0 0 (event.Place last first.1) first.2).1))
  gives_nobody k (suc z) place done many low there by last last_is n s tenure given =
      let law = lawful_place events legal z place done there in
      let ended = ended_by by.printer by.in_run (λ one. many (subst (HasOneTurn turns) by.of_line one)) place by.prints z law.last (omega (arith, low, ap told.ends by.of_line)) (omega (arith, at_within events (suc z) (event.Place place done) there)) law.last_is (law.step).version in
      by_moves ended.ender ended.in_run ended.moves law.last law.last_is (law.step).version (same_Some last law.last (sym last_is ∙ law.last_is))
    where
      by_moves : (p : TurnPosition) → IsTurnPosition turns p → IsEndOfMoves start p place → (was : Placement) → last_place (take (suc z) events) ≡ Some was → place.version ≡ suc was.version → last ≡ was → IsAssigned last n s tenure
      by_moves p at moves was was_is version same =
          let b = stood_place p at moves.before moves.stands in
          let w = place_there (take (suc z) events) was was_is in
          let here = at_take events w.0 (suc z) (event.Place was w.1) w.2 in
          let it = one_place events legal b.0 w.0 moves.before was b.1 w.1 b.2 here.0 (omega (arith, version, ((moves.next).follows).version)) in
          subst (λ q. IsAssigned q n s tenure) (it ∙ sym same) (available_had moves.before place moves.pairs moves.next n s tenure given)

  pub in_order : IsMadeInOrder start turns events told → IsInOrder start turns events told
  in_order made = record {
    places = record {
      alone = made.alone;
      beside = λ k i place done less many low high there.
          let by = made.beside k i place done less many low high there in
          (gives_nobody k i place done many low there by, by);
    };
    inits = λ q at is place prints. elim (kind_or_silent taking start ((told.spans).to q) q (answered q at)) as (λ _. sets_seed q.turn.act q.turn.answer ≡ true) [
      | inl silent ↦ absurd (let bad : None ≡ Some place = sym silent ∙ prints in cc)
      | inr kind ↦ sets_by taking start q q.turn.act q.turn.answer place kind is prints
    ];
    lawful = made.lawful;
    ends = made.ends;
  }
