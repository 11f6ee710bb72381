-- The placement that a call uses: where it stands in the list, and after which lines its replicas were members.
use Rattle.std.proofs.Common.{◌≡◌, ℕ, zero, suc, ◌<◌, ◌≤◌, List, [], ◌∷◌, ◌++◌, take, length, refl, sym, ap, ◌∙◌, subst, inl, inr, arith, Bool, true}
use Rattle.std.specs.Prelude.{◌⊎◌, Some, None, Option}
use Rattle.std.proofs.lemmas.Bool.{cases_lt}
use Rattle.std.proofs.lemmas.Option.{same_Some}
use Rattle.m3_model.proofs.MemberLemmas.{IsIn-append_cases, IsIn-append_left, IsIn-append_right, IsIn-filter_map}
use Rattle.m3_model.specs.Members.{IsIn}
use Rattle.m3_model.specs.declared.placement.Placement.{Placement}
use Rattle.m3_model.specs.declared.rules.MetaState.{MetaState}
use Rattle.m3_model.specs.declared.turn.Turn.{Turn}
use Rattle.cluster_core.specs.Earlier.{place_after}
use Rattle.cluster_core.specs.Legal.{Legal}
use Rattle.cluster_core.specs.Lists.{At}
use Rattle.cluster_core.specs.declared.event.Event.{Event}
use Rattle.cluster_core.specs.declared.event.Event.TheVariants as event
use Rattle.cluster_core.proofs.ListLemmas.{fold_suc}
use Rattle.transcripts.specs.Placements.{MayStand, MayUse, has_replica, placement_after, placements, printed, start_placement}
use Rattle.transcripts.specs.Record.{AreSomeOf, InnerTurn, TurnPosition, IsTurnPosition, inner_turns}
use Rattle.transcripts.proofs.PlacementLemmas.{after_from}
use Rattle.told_by.specs.Openings.{opening_length}
use Rattle.told_by.specs.Told.{ToldBy}
use Rattle.told_by.proofs.LineLemmas.{line_below}
use Rattle.told_by.proofs.PrintedLemmas.{ends_grow, placements_stand}
use Rattle.told_by.proofs.TurnLemmas.{earlier_line, position_in}
use Rattle.told_causes.proofs.AloneLemmas.{take_none}
use Rattle.told_causes.proofs.StoodLemmas.{alone_last, alone_or_beside, back, line_base, had_before, in_line, printed_in}
use Rattle.told_causes.proofs.WaitLemmas.{is_member_of, member_given}
use Rattle.told_moves.specs.Order.{IsInOrder}

-- some of a list are among it
pub some_in : (xs ys : List InnerTurn) (t : InnerTurn) → AreSomeOf xs ys → IsIn xs t → IsIn ys t
some_in [] ys t some m = absurd m
some_in (x ∷ xs) [] t some m = absurd some
some_in (x ∷ xs) (y ∷ ys) t (inl both) (inl same) = inl (sym both.0 ∙ same)
some_in (x ∷ xs) (y ∷ ys) t (inl both) (inr m) = inr (some_in xs ys t both.1 m)
some_in (x ∷ xs) (y ∷ ys) t (inr later) m = inr (some_in (x ∷ xs) ys t later m)

-- the slot was a member after so many lines, no more than these
abbrev pub WasMemberBy : Option MetaState → List Turn → ℕ → ℕ → ℕ → Type 0
WasMemberBy start turns most s n = (lines : ℕ) × (lines ≤ most) × (has_replica (placement_after (start_placement start) (inner_turns (take lines turns))) s n ≡ true)

-- A placement that is known at a turn: it is a Place, and each of its replicas was a member after some lines before the turn's.
pub record IsKnownPlace (start : Option MetaState) (turns : List Turn) (events : List Event) (told : ToldBy start turns events) (p : TurnPosition) (place : Placement) : Type 0 where
  pub place_at : ℕ
  pub done : List (ℕ × ℕ)
  pub there : At events place_at (event.Place place done)
  pub members : (s n : ℕ) → has_replica (Some place) s n ≡ true → WasMemberBy start turns (length p.lines) s n

module _ {tells : Bool} (start : Option MetaState) (turns : List Turn) (events : List Event) (legal : Legal tells events) (told : ToldBy start turns events) (order : IsInOrder start turns events told) where
  -- the line of a position in the list, or the opening
  line_of_position : (k z : ℕ) → k ≤ length turns → z < told.ends k → (z < told.ends 0) ⊎ ((j : ℕ) × (j < k) × (told.ends j ≤ z) × (z < told.ends (suc j)))
  line_of_position zero z high before = inl before
  line_of_position (suc k) z high before =
      elim (cases_lt z (told.ends k)) as (λ _. (z < told.ends 0) ⊎ ((j : ℕ) × (j < suc k) × (told.ends j ≤ z) × (z < told.ends (suc j)))) [
        | inl lt ↦ elim (line_of_position k z (omega (arith, high)) lt) as (λ _. (z < told.ends 0) ⊎ ((j : ℕ) × (j < suc k) × (told.ends j ≤ z) × (z < told.ends (suc j)))) [
          | inl opening ↦ inl opening
          | inr line ↦ inr (line.0, omega (arith, line.1), line.2, line.3)
        ]
        | inr ge ↦ inr (k, omega arith, ge, before)
      ]

  first_stood : (state : MetaState) → start ≡ Some state → placement_after (start_placement start) (inner_turns (take 0 turns)) ≡ Some state.place
  first_stood state is = ap (λ ts. placement_after (start_placement start) (inner_turns ts)) (take_none turns) ∙ ap start_placement is

  -- the placement that was found
  found_known : (p : TurnPosition) (state : MetaState) → start ≡ Some state → IsKnownPlace start turns events told p state.place
  found_known p state is = record { place_at = 0; done = []; there = (told.opened state is).placed; members = λ s n member. (0, omega arith, ap (λ o. has_replica o s n) (first_stood state is) ∙ member) }

  -- a Place before a line
  listed_known : (p : TurnPosition) → length p.lines ≤ length turns → (z : ℕ) (place : Placement) (done : List (ℕ × ℕ)) → At events z (event.Place place done) → z < told.ends (length p.lines) → IsKnownPlace start turns events told p place
  listed_known p high z place done there before =
      elim (line_of_position (length p.lines) z high before) as (λ _. IsKnownPlace start turns events told p place) [
        | inl opening ↦ by_start start refl opening
        | inr line ↦
            let less : line.0 < length turns = omega (arith, line.1, high) in
            elim (alone_or_beside start turns events legal told order.places line.0 less) as (λ _. IsKnownPlace start turns events told p place) [
              | inl one ↦
                  let stood = alone_last start turns events legal told order.places line.0 less one z place done line.2 line.3 there in
                  record { place_at = z; done = done; there = there; members = λ s n member. (suc line.0, omega (arith, line.1), ap (λ o. has_replica o s n) stood ∙ member) }
              | inr many ↦
                  let last = fold_suc place_after None events z (event.Place place done) there in
                  let was = line_base start turns events legal told order.places line.0 less many.0 (suc z) (omega (arith, line.2)) line.3 place last in
                  let stood = sym (placements_stand start turns events legal told line.0 (omega (arith, less))) ∙ was.1 in
                  record {
                    place_at = z;
                    done = done;
                    there = there;
                    members = λ s n member.
                        let given = member_given place s n member in
                        let old = back start turns events legal told order.places line.0 less (λ y next dones from below at. (many.1 y next dones from below at).0) (told.ends line.0) (suc z) (omega arith) (omega (arith, line.2)) line.3 was.0 place was.1 last n s given.0 given.1 in
                        (line.0, omega (arith, line.1), ap (λ o. has_replica o s n) stood ∙ is_member_of was.0 s n given.0 old);
                  }
            ]
      ]
    where
      by_start : (o : Option MetaState) → start ≡ o → z < told.ends 0 → IsKnownPlace start turns events told p place
      by_start None is opening = absurd (omega (arith, opening, (told.lines).first, ap opening_length is))
      by_start (Some state) is opening = by z there opening
        where
          by : (z : ℕ) → At events z (event.Place place done) → z < told.ends 0 → IsKnownPlace start turns events told p place
          by zero there opening =
              let both : event.Place state.place [] ≡ event.Place place done = same_Some (event.Place state.place []) (event.Place place done) (sym (told.opened state is).placed ∙ there) in
              let same : state.place ≡ place = cc in
              subst (IsKnownPlace start turns events told p) same (found_known p state is)
          by (suc zero) there opening = absurd (legal 1 (event.Place place done) there)
          by (suc (suc z)) there opening = absurd (omega (arith, opening, (told.lines).first, ap opening_length is))

  module _ (p : TurnPosition) (at : IsTurnPosition turns p) (quiet : printed p.turn.answer ≡ None) where
    -- one that a turn of an earlier line printed
    printed_known : (t : InnerTurn) (place : Placement) → IsIn (inner_turns p.lines) t → printed t.answer ≡ Some place → IsKnownPlace start turns events told p place
    printed_known t place m prints =
        let q = earlier_line turns p at t m in
        let h = (told.tells).placements.is_place q.position q.in_run place (ap (λ (u : InnerTurn). printed u.answer) q.turn_is ∙ prints) in
        let less : length p.lines < length turns = line_below turns p at in
        listed_known p (omega (arith, less)) h.place_at place h.done h.there
        (omega (arith, h.in_time, (told.lines).high q.position q.in_run, ends_grow start turns events told (suc (length (q.position).lines)) (length p.lines) (omega (arith, q.earlier)) (omega (arith, less))))

    -- so is a Place by the end of its own line, which gives nobody a shard
    known_here : (z : ℕ) (place : Placement) (done : List (ℕ × ℕ)) → At events z (event.Place place done) → z < told.ends (suc (length p.lines)) → IsKnownPlace start turns events told p place
    known_here z place done there high =
        let k = length p.lines in
        let less : k < length turns = line_below turns p at in
        elim (cases_lt z (told.ends k)) as (λ _. IsKnownPlace start turns events told p place) [
          | inl lt ↦ listed_known p (omega (arith, less)) z place done there lt
          | inr ge ↦
              let h = had_before start turns events legal told order.places p at quiet (suc z) (omega (arith, ge)) high place (fold_suc place_after None events z (event.Place place done) there) in
              record {
                place_at = z;
                done = done;
                there = there;
                members = λ s n member. let given = member_given place s n member in (k, omega arith, ap (λ o. has_replica o s n) h.2 ∙ is_member_of h.0 s n given.0 (h.3 n s given.0 given.1));
              }
        ]

    -- one that another turn of its own line printed
    known_beside : (t : InnerTurn) (place : Placement) → IsIn (p.earlier ++ p.beside) t → printed t.answer ≡ Some place → IsKnownPlace start turns events told p place
    known_beside t place m prints =
        let q = position_in turns p.lines p.line at.after at.in_run t (in_line p turns at t m) in
        let prints_q : printed (q.0).turn.answer ≡ Some place = ap (λ (u : InnerTurn). printed u.answer) q.2 ∙ prints in
        let less : length p.lines < length turns = line_below turns p at in
        let z = printed_in start turns events legal told order.places p at quiet q.0 q.1 (ap length q.3) place prints_q in
        known_here z.0 place z.1 z.2 z.3

    by_turn : (t : InnerTurn) (place : Placement) → IsIn (inner_turns p.lines ++ (p.earlier ++ p.beside)) t → printed t.answer ≡ Some place → IsKnownPlace start turns events told p place
    by_turn t place m prints =
        elim (IsIn-append_cases (inner_turns p.lines) (p.earlier ++ p.beside) t m) as (λ _. IsKnownPlace start turns events told p place) [
          | inl before ↦ printed_known t place before prints
          | inr beside ↦ known_beside t place beside prints
        ]

    -- what a transcript knows
    known_listed : (place : Placement) → IsIn (placements start (inner_turns p.lines ++ (p.earlier ++ p.beside))) place → IsKnownPlace start turns events told p place
    known_listed place m = by_start start refl (subst (λ o. IsIn (placements o (inner_turns p.lines ++ (p.earlier ++ p.beside))) place) refl m)
      where
        by_print : IsIn (placements None (inner_turns p.lines ++ (p.earlier ++ p.beside))) place → IsKnownPlace start turns events told p place
        by_print m = let t = IsIn-filter_map (λ (turn : InnerTurn). printed turn.answer) (inner_turns p.lines ++ (p.earlier ++ p.beside)) place m in by_turn t.0 place t.1 t.2

        by_start : (o : Option MetaState) → start ≡ o → IsIn (placements o (inner_turns p.lines ++ (p.earlier ++ p.beside))) place → IsKnownPlace start turns events told p place
        by_start None is m = by_print m
        by_start (Some state) is (inl same) = subst (IsKnownPlace start turns events told p) same (found_known p state is)
        by_start (Some state) is (inr m) = by_print m

    stands_known : (place : Placement) → MayStand start p place → IsKnownPlace start turns events told p place
    stands_known place h =
        let after = h.1 in
        elim (after_from h.0 (start_placement start) place h.2) as (λ _. IsKnownPlace start turns events told p place) [
          | inl found ↦ by_start start refl found
          | inr t ↦ by_turn t.0 place (among after.others after.some_of t.0 (subst (λ ts. IsIn ts t.0) after.are t.1)) t.2
        ]
      where
        by_start : (o : Option MetaState) → start ≡ o → start_placement start ≡ Some place → IsKnownPlace start turns events told p place
        by_start None is found = let bad : None ≡ Some place = sym (ap start_placement is) ∙ found in cc
        by_start (Some state) is found = subst (IsKnownPlace start turns events told p) (same_Some state.place place (sym (ap start_placement is) ∙ found)) (found_known p state is)

        among : (others : List InnerTurn) → AreSomeOf others p.beside → (t : InnerTurn) → IsIn (inner_turns p.lines ++ (p.earlier ++ others)) t → IsIn (inner_turns p.lines ++ (p.earlier ++ p.beside)) t
        among others some t m =
            elim (IsIn-append_cases (inner_turns p.lines) (p.earlier ++ others) t m) as (λ _. IsIn (inner_turns p.lines ++ (p.earlier ++ p.beside)) t) [
              | inl before ↦ IsIn-append_left (inner_turns p.lines) (p.earlier ++ p.beside) t before
              | inr rest ↦ IsIn-append_right (inner_turns p.lines) (p.earlier ++ p.beside) t (elim (IsIn-append_cases p.earlier others t rest) as (λ _. IsIn (p.earlier ++ p.beside) t) [
                | inl earlier ↦ IsIn-append_left p.earlier p.beside t earlier
                | inr other ↦ IsIn-append_right p.earlier p.beside t (some_in others p.beside t some other)
              ])
            ]

    -- the placement that a call uses
    pub used_known : (version : Option ℕ) (place : Placement) → MayUse start p version place → IsKnownPlace start turns events told p place
    used_known None place h = stands_known place h
    used_known (Some version) place h = known_listed place h.0
