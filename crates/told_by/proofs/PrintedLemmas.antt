-- The last Place before a line is the placement that stands there by what was printed.
use Rattle.std.proofs.Common.{◌≡◌, ℕ, zero, suc, ◌<◌, ◌≤◌, ◌+◌, ◌-◌, List, [], ◌∷◌, take, length, refl, sym, ap, ◌∙◌, subst, inl, inr, arith, length-append, if◌then◌else◌, Bool}
use Rattle.std.specs.Prelude.{Option, Some, None}
use Rattle.std.proofs.lemmas.Bool.{cases_lt, le-ltb, lt-ltb}
use Rattle.std.proofs.lemmas.Option.{same_Some}
use Rattle.m3_model.specs.Members.{IsIn}
use Rattle.m3_model.specs.declared.placement.Placement.{Placement}
use Rattle.m3_model.specs.declared.rules.MetaState.{MetaState}
use Rattle.m3_model.specs.declared.turn.Turn.{Turn}
use Rattle.m3_model.proofs.Lists.{IsIn-flat_map, flat_map-IsIn}
use Rattle.transcripts.proofs.PlacementLemmas.{after_from}
use Rattle.transcripts.specs.Placements.{later_placement, newer, placement_after, printed, start_placement}
use Rattle.transcripts.specs.Record.{InnerTurn, TurnPosition, IsTurnPosition, inner_turns, joined, lists_of}
use Rattle.cluster_core.specs.Earlier.{last_place}
use Rattle.cluster_core.specs.Legal.{Legal}
use Rattle.cluster_core.specs.Lists.{At}
use Rattle.cluster_core.specs.declared.event.Event.{Event}
use Rattle.cluster_core.specs.declared.event.Event.TheVariants as event
use Rattle.cluster_core.proofs.ListLemmas.{at_in, at_same, at_some, at_take, at_within, in_at, take_at}
use Rattle.cluster_core.proofs.PlaceLemmas.{at_grows, at_place, placed_at}
use Rattle.cluster_core.proofs.TraceLemmas.{lawful_place}
use Rattle.told_by.specs.Laws.{PlacementsStand}
use Rattle.told_by.specs.Openings.{opening_length}
use Rattle.told_by.specs.Told.{ToldBy}
use Rattle.told_by.proofs.KeptLemmas.{opening_low}
use Rattle.told_by.proofs.LeaveLemmas.{place_there}
use Rattle.told_by.proofs.OpeningLemmas.{first_event, place_fine}
use Rattle.told_by.proofs.TurnLemmas.{at_cut, cut_at, in_its_line, position_in}

-- ---- versions of Places

-- the last Place so far has the greatest version
pub greatest_so_far : {tells : Bool} → (events : List Event) → Legal tells events → (i j : ℕ) (p last : Placement) (done : List (ℕ × ℕ)) → At events i (event.Place p done) → i < j → j ≤ length events → last_place (take j events) ≡ Some last → p.version ≤ last.version
greatest_so_far events legal i j p last done there before high is =
    let first = first_event events legal i (event.Place p done) there in
    let limits = (first.lawful).limits in
    let fine = place_fine events legal first.place first.there i p done there in
    let shard = at_some p.shards 0 (omega (arith, limits.some_shards, fine.count)) in
    let l = place_there (take j events) last is in
    let fine_last = place_fine events legal first.place first.there l.0 last l.1 (at_take events l.0 j (event.Place last l.1) l.2).0 in
    let last_shard = at_some last.shards 0 (omega (arith, limits.some_shards, fine_last.count)) in
    at_grows events legal first.place [] first.there 0 (suc i) j p.version last.version shard.0 last_shard.0 (omega arith) (at_place events legal first.place [] first.there i 0 p done shard.0 there shard.1) (omega (arith, before)) high
    (record { place = last; last = is; version_is = refl; shard_is = last_shard.1 })

places_ascend : {tells : Bool} → (events : List Event) → Legal tells events → (i j : ℕ) (p q : Placement) (dp dq : List (ℕ × ℕ)) → At events i (event.Place p dp) → At events j (event.Place q dq) → i < j → p.version < q.version
places_ascend events legal i zero p q dp dq hp hq lt = absurd (omega (arith, lt))
places_ascend events legal i (suc j) p q dp dq hp hq lt =
    let law = lawful_place events legal j q dq hq in
    let bound = at_within events (suc j) (event.Place q dq) hq in
    let low = greatest_so_far events legal i (suc j) p law.last dp hp lt (omega (arith, bound)) law.last_is in
    omega (arith, low, (law.step).version)

place_of : (p q : Placement) (ds es : List (ℕ × ℕ)) → event.Place p ds ≡ event.Place q es → p ≡ q
place_of p q ds es e = cc

-- of one version there is one Place
pub one_place : {tells : Bool} → (events : List Event) → Legal tells events → (i j : ℕ) (p q : Placement) (dp dq : List (ℕ × ℕ)) → At events i (event.Place p dp) → At events j (event.Place q dq) → p.version ≡ q.version → p ≡ q
one_place events legal i j p q dp dq hp hq same =
    elim (cases_lt i j) as (λ _. p ≡ q) [
      | inl lt ↦ absurd (omega (arith, places_ascend events legal i j p q dp dq hp hq lt, same))
      | inr ge ↦ elim (cases_lt j i) as (λ _. p ≡ q) [
        | inl gt ↦ absurd (omega (arith, places_ascend events legal j i q p dq dp hq hp gt, same))
        | inr le ↦
            let here : i ≡ j = omega arith in
            place_of p q dp dq (at_same events j (event.Place p dp) (event.Place q dq) (subst (λ n. At events n (event.Place p dp)) here hp) hq)
      ]
    ]

-- ---- placements that turns leave

-- a placement stands, at least of this version
abbrev pub StandsFrom : ℕ → Option Placement → Type 0
StandsFrom version o = (r : Placement) × (o ≡ Some r) × (version ≤ r.version)

newer_old : (next q : Placement) → StandsFrom q.version (Some (newer next (Some q)))
newer_old next q =
    elim (cases_lt next.version q.version) as (λ _. StandsFrom q.version (Some (newer next (Some q)))) [
      | inl lt ↦ (q, ap (λ t. Some (if t then q else next)) (lt-ltb next.version q.version lt), omega arith)
      | inr ge ↦ (next, ap (λ t. Some (if t then q else next)) (le-ltb next.version q.version ge), ge)
    ]

newer_new : (next : Placement) (base : Option Placement) → StandsFrom next.version (Some (newer next base))
newer_new next None = (next, refl, omega arith)
newer_new next (Some q) =
    elim (cases_lt next.version q.version) as (λ _. StandsFrom next.version (Some (newer next (Some q)))) [
      | inl lt ↦ (q, ap (λ t. Some (if t then q else next)) (lt-ltb next.version q.version lt), omega (arith, lt))
      | inr ge ↦ (next, ap (λ t. Some (if t then q else next)) (le-ltb next.version q.version ge), omega arith)
    ]

later_up : (o : Option Placement) (base : Option Placement) (q : Placement) → base ≡ Some q → StandsFrom q.version (later_placement o base)
later_up None base q e = (q, e, omega arith)
later_up (Some next) base q e = subst (λ b. StandsFrom q.version (Some (newer next b))) (sym e) (newer_old next q)

pub after_up : (ts : List InnerTurn) (base : Option Placement) (q : Placement) → base ≡ Some q → StandsFrom q.version (placement_after base ts)
after_up [] base q e = (q, e, omega arith)
after_up (t ∷ ts) base q e =
    let s = later_up (printed t.answer) base q e in
    let r = after_up ts (later_placement (printed t.answer) base) s.0 s.1 in
    (r.0, r.1, omega (arith, s.2, r.2))

pub after_new : (ts : List InnerTurn) (base : Option Placement) (t : InnerTurn) (q : Placement) → IsIn ts t → printed t.answer ≡ Some q → StandsFrom q.version (placement_after base ts)
after_new [] base t q m is = absurd m
after_new (u ∷ ts) base t q (inl e) is =
    let here : printed u.answer ≡ Some q = ap (λ (x : InnerTurn). printed x.answer) e ∙ is in
    let s = subst (λ o. StandsFrom q.version (later_placement o base)) (sym here) (newer_new q base) in
    let r = after_up ts (later_placement (printed u.answer) base) s.0 s.1 in
    (r.0, r.1, omega (arith, s.2, r.2))
after_new (u ∷ ts) base t q (inr m) is = after_new ts (later_placement (printed u.answer) base) t q m is

-- ---- lines

module _ (start : Option MetaState) (turns : List Turn) (events : List Event) (told : ToldBy start turns events) where
  -- later lines end later
  pub ends_up : (j d : ℕ) → j + d ≤ length turns → told.ends j ≤ told.ends (j + d)
  ends_up j zero high = let same : j + 0 ≡ j = omega arith in omega (arith, ap told.ends same)
  ends_up j (suc d) high =
      let next : j + suc d ≡ suc (j + d) = omega arith in
      omega (arith, ends_up j d (omega (arith, high)), (told.lines).ascends (j + d) (omega (arith, high)), ap told.ends next)

  pub ends_grow : (j k : ℕ) → j ≤ k → k ≤ length turns → told.ends j ≤ told.ends k
  ends_grow j k low high = let whole : j + (k - j) ≡ k = omega (arith, low) in omega (arith, ends_up j (k - j) (omega (arith, whole, high)), ap told.ends whole)

  pub ends_within : (k : ℕ) → k ≤ length turns → told.ends k ≤ length events
  ends_within k high = omega (arith, ends_grow k (length turns) high (omega arith), (told.lines).last)

module _ {tells : Bool} (start : Option MetaState) (turns : List Turn) (events : List Event) (legal : Legal tells events) (told : ToldBy start turns events) where
  -- a turn of the first lines, at its position
  record InFront (k : ℕ) (t : InnerTurn) : Type 0 where
    position : TurnPosition
    in_run : IsTurnPosition turns position
    turn_is : position.turn ≡ t
    early : length position.lines < k

  in_front : (k : ℕ) (t : InnerTurn) → IsIn (inner_turns (take k turns)) t → InFront k t
  in_front k t m =
      let l = IsIn-flat_map (λ (line : Turn). joined (lists_of line)) (take k turns) t m in
      let i = in_at (take k turns) l.0 l.1 in
      let at = at_take turns i.0 k l.0 i.1 in
      let cut = cut_at turns i.0 l.0 at.0 in
      let q = position_in turns cut.0 l.0 cut.1 cut.2 t l.2 in
      record { position = q.0; in_run = q.1; turn_is = q.2; early = omega (arith, ap length {x = (q.0).lines} q.3, cut.3, at.1) }

  among_front : (k : ℕ) (q : TurnPosition) → IsTurnPosition turns q → length q.lines < k → IsIn (inner_turns (take k turns)) q.turn
  among_front k q at early =
      flat_map-IsIn (λ (line : Turn). joined (lists_of line)) (take k turns) q.line q.turn
      (at_in (take k turns) (length q.lines) q.line (take_at turns (length q.lines) k q.line (subst (λ ts. At ts (length q.lines) q.line) (sym at.in_run) (at_cut q.lines q.line at.after)) early)) (in_its_line q at.stands)

  -- a turn in whose stretch a position before the line stands is of an earlier line
  is_early : (k i : ℕ) (q : TurnPosition) → IsTurnPosition turns q → (told.spans).from q ≤ i → i < told.ends k → length q.lines < k
  is_early k i q at from before =
      elim (cases_lt (length q.lines) k) as (λ _. length q.lines < k) [
        | inl lt ↦ lt
        | inr ge ↦
            let less : length q.lines < length turns = omega (arith, ap length at.in_run, length-append q.lines (q.line ∷ at.after)) in
            absurd (omega (arith, ends_grow start turns events told k (length q.lines) ge (omega (arith, less)), (told.lines).low q at, from, before))
      ]

  abbrev after_lines : ℕ → Option Placement
  after_lines k = placement_after (start_placement start) (inner_turns (take k turns))

  -- what was printed before a line is a Place there
  placed_before : (k : ℕ) → k ≤ length turns → (p : Placement) → after_lines k ≡ Some p → (i : ℕ) × (done : List (ℕ × ℕ)) × At events i (event.Place p done) × (i < told.ends k)
  placed_before k high p e =
      elim (after_from (inner_turns (take k turns)) (start_placement start) p e) as (λ _. (i : ℕ) × (done : List (ℕ × ℕ)) × At events i (event.Place p done) × (i < told.ends k)) [
        | inl base ↦ by_start start refl base
        | inr t ↦
            let q = in_front k t.0 t.1 in
            let h = (told.tells).placements.is_place q.position q.in_run p (ap (λ (u : InnerTurn). printed u.answer) q.turn_is ∙ t.2) in
            let early = q.early in
            let less : length (q.position).lines < length turns = omega (arith, early, high) in
            (h.place_at, h.done, h.there, omega (arith, h.in_time, (told.lines).high q.position q.in_run, ends_grow start turns events told (suc (length (q.position).lines)) k early high))
      ]
    where
      by_start : (o : Option MetaState) → start ≡ o → start_placement o ≡ Some p → (i : ℕ) × (done : List (ℕ × ℕ)) × At events i (event.Place p done) × (i < told.ends k)
      by_start None is base = cc
      by_start (Some state) is base =
          let same : state.place ≡ p = same_Some state.place p base in
          let two : opening_length start ≡ 2 = ap opening_length is in
          (0, [], subst (λ x. At events 0 (event.Place x [])) same (told.opened state is).placed, omega (arith, (told.lines).first, two, ends_grow start turns events told 0 k (omega arith) high))

  -- a Place before a line was printed before it, or a later one was
  printed_before : (k : ℕ) → k ≤ length turns → (i : ℕ) (p : Placement) (done : List (ℕ × ℕ)) → At events i (event.Place p done) → i < told.ends k → StandsFrom p.version (after_lines k)
  printed_before k high zero p done there before = by_start start refl
    where
      by_start : (o : Option MetaState) → start ≡ o → StandsFrom p.version (after_lines k)
      by_start (Some state) is =
          let same : state.place ≡ p = place_of state.place p [] done (at_same events 0 (event.Place state.place []) (event.Place p done) (told.opened state is).placed there) in
          after_up (inner_turns (take k turns)) (start_placement start) p (ap start_placement is ∙ ap Some same)
      by_start None is =
          let none : opening_length start ≡ 0 = ap opening_length is in
          let b = (told.tells).init.begun (omega (arith, none)) (event.Place p done) there in
          let init = b.2 in
          let same : init.place ≡ p = place_of init.place p [] done (at_same events 0 (event.Place init.place []) (event.Place p done) init.placed there) in
          after_new (inner_turns (take k turns)) (start_placement start) (b.0).turn p (among_front k b.0 b.1 (is_early k 0 b.0 b.1 (omega (arith, init.from_is)) before)) (ap printed init.answered ∙ ap Some same)
  printed_before k high (suc zero) p done there before = absurd (legal 1 (event.Place p done) there)
  printed_before k high (suc (suc i)) p done there before =
      let late : 2 ≤ suc (suc i) = omega arith in
      let above = opening_low start (suc (suc i)) late in
      let made = (told.tells).order.made (suc (suc i)) (event.Place p done) above late there tt in
      let q = told.makers (suc (suc i)) in
      let h = (told.tells).makes (suc (suc i)) (event.Place p done) above late there in
      let r = after_new (inner_turns (take k turns)) (start_placement start) q.turn h.stood (among_front k q made.0 (is_early k (suc (suc i)) q made.0 (made.1).0 before)) h.prints in
      (r.0, r.1, omega (arith, h.not_before, r.2))

  stand_alike : (k : ℕ) → k ≤ length turns → (l o : Option Placement) → last_place (take (told.ends k) events) ≡ l → after_lines k ≡ o → l ≡ o
  stand_alike k high None None el eo = refl
  stand_alike k high None (Some p) el eo =
      let i = placed_before k high p eo in
      let first = first_event events legal i.0 (event.Place p i.1) i.2 in
      let h = placed_at events legal first.place [] first.there (told.ends k) (omega (arith, i.3)) (ends_within start turns events told k high) in
      absurd (let bad : None ≡ Some h.0 = sym el ∙ h.1 in cc)
  stand_alike k high (Some q) None el eo =
      let l = place_there (take (told.ends k) events) q el in
      let at = at_take events l.0 (told.ends k) (event.Place q l.1) l.2 in
      let r = printed_before k high l.0 q l.1 at.0 at.1 in
      absurd (let bad : None ≡ Some r.0 = sym eo ∙ r.1 in cc)
  stand_alike k high (Some q) (Some p) el eo =
      let i = placed_before k high p eo in
      let l = place_there (take (told.ends k) events) q el in
      let at = at_take events l.0 (told.ends k) (event.Place q l.1) l.2 in
      let r = printed_before k high l.0 q l.1 at.0 at.1 in
      let same : r.0 ≡ p = same_Some r.0 p (sym r.1 ∙ eo) in
      let up = greatest_so_far events legal i.0 (told.ends k) p q i.1 i.2 i.3 (ends_within start turns events told k high) el in
      let version : q.version ≡ p.version = omega (arith, up, r.2, ap (λ (x : Placement). x.version) same) in
      ap Some (one_place events legal l.0 i.0 q p l.1 i.1 at.0 i.2 version)

pub placements_stand : {tells : Bool} → PlacementsStand tells
placements_stand start turns events legal told k high = stand_alike start turns events legal told k high (last_place (take (told.ends k) events)) (after_lines start turns events legal told k) refl refl
