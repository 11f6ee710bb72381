-- The placement that stands at a turn which prints none, where a line of one turn has one Place at most, and the Places of any other are printed and give nobody a shard.
use Rattle.std.proofs.Common.{◌≡◌, ℕ, zero, suc, ◌<◌, ◌≤◌, List, [], ◌∷◌, ◌++◌, take, length, refl, sym, ap, ◌∙◌, subst, inl, inr, arith, length-append, Bool, cond}
use Rattle.std.specs.Prelude.{◌⊎◌, Some, None, Option, true, false, nat_le}
use Rattle.std.specs.List.{filter}
use Rattle.std.specs.Option.{option_map_or}
use Rattle.std.proofs.lemmas.Bool.{cases_lt, le-leb, leb-true}
use Rattle.std.proofs.lemmas.List.Sums.{fold-append}
use Rattle.std.proofs.lemmas.Option.{same_Some}
use Rattle.m3_model.specs.Members.{IsIn}
use Rattle.m3_model.proofs.MemberLemmas.{IsIn-append_cases, IsIn-append_left, IsIn-append_right}
use Rattle.m3_model.proofs.Lists.{IsIn-filter, IsIn-filter_passes, filter-IsIn, flat_map-IsIn}
use Rattle.m3_model.specs.declared.placement.Placement.{Placement}
use Rattle.m3_model.specs.declared.rules.MetaState.{MetaState}
use Rattle.m3_model.specs.declared.turn.Turn.{Turn}
use Rattle.cluster_core.specs.Earlier.{last_place, place_after}
use Rattle.cluster_core.specs.Legal.{Legal}
use Rattle.cluster_core.specs.Lists.{At}
use Rattle.cluster_core.specs.declared.event.Event.{Event}
use Rattle.cluster_core.specs.declared.event.Event.TheVariants as event
use Rattle.cluster_core.proofs.ListLemmas.{along, at_some, at_take, at_within, fold_suc}
use Rattle.cluster_core.proofs.PlaceLemmas.{place_cases, placed_at}
use Rattle.cluster_core.proofs.TraceLemmas.{lawful_place}
use Rattle.transcripts.specs.Placements.{MayStand, has_replica, later_placement, placement_after, placement_at, printed, start_placement}
use Rattle.transcripts.specs.Record.{AreSomeOf, InnerTurn, TurnPosition, IsTurnPosition, inner_turns, joined, lists_of}
use Rattle.transcripts.proofs.PlacementLemmas.{after_from}
use Rattle.told_by.specs.Makes.{IsAssigned}
use Rattle.told_by.specs.Openings.{IsInitOf}
use Rattle.told_by.specs.Told.{ToldBy}
use Rattle.told_by.proofs.LeaveLemmas.{place_there}
use Rattle.told_by.proofs.LineLemmas.{line_below}
use Rattle.told_by.proofs.OpeningLemmas.{first_event}
use Rattle.told_by.proofs.PrintedLemmas.{after_new, after_up, ends_grow, ends_within, greatest_so_far, one_place, placements_stand}
use Rattle.told_by.proofs.TurnLemmas.{before_line, before_there, comes_later, in_cut, in_other_list, is_it, own_list, position_in, stands}
use Rattle.told_causes.specs.Boot.{ArePlacesInOrder, GivesNone, HasOneTurn, IsPrintedIn}
use Rattle.told_causes.proofs.AloneLemmas.{alone_position, lines_before, own_place, stands_from}
use Rattle.told_causes.proofs.HaltLemmas.{one_line}
use Rattle.told_causes.proofs.WaitLemmas.{is_member_of, member_given, member_place}

-- ---- turns that print what stands

-- the turn prints nothing newer than this placement
abbrev prints_by : Placement → InnerTurn → Bool
prints_by place t = option_map_or (λ (r : Placement). nat_le r.version place.version) (printed t.answer) true

some_more : (zs : List InnerTurn) (x : InnerTurn) (xs : List InnerTurn) → AreSomeOf zs xs → AreSomeOf zs (x ∷ xs)
some_more [] x xs h = tt
some_more (z ∷ zs) x xs h = inr h

some_if : (b : Bool) (zs : List InnerTurn) (x : InnerTurn) (xs : List InnerTurn) → AreSomeOf zs xs → AreSomeOf (cond b (x ∷ zs) zs) (x ∷ xs)
some_if true zs x xs h = inl (refl, h)
some_if false zs x xs h = some_more zs x xs h

some_filter : (test : InnerTurn → Bool) (xs : List InnerTurn) → AreSomeOf (filter test xs) xs
some_filter test [] = tt
some_filter test (x ∷ xs) = some_if (test x) (filter test xs) x xs (some_filter test xs)

-- whether lists are one of one turn
one_or_not : (ls : List (List InnerTurn)) → ((t : InnerTurn) × (ls ≡ (t ∷ []) ∷ [])) ⊎ ((t : InnerTurn) → ls ≡ (t ∷ []) ∷ [] → ⊥)
one_or_not [] = inr (λ t e. cc)
one_or_not ([] ∷ ls) = inr (λ t e. let bad : [] ≡ t ∷ [] = cc in cc)
one_or_not ((t ∷ []) ∷ []) = inl (t, refl)
one_or_not ((t ∷ []) ∷ (l ∷ ls)) = inr (λ u e. let bad : l ∷ ls ≡ [] = cc in cc)
one_or_not ((t ∷ (u ∷ ts)) ∷ ls) = inr (λ v e. let both : t ∷ (u ∷ ts) ≡ v ∷ [] = cc in let bad : u ∷ ts ≡ [] = cc in cc)

one_turn : (turns : List Turn) (k : ℕ) → k < length turns → HasOneTurn turns k ⊎ (HasOneTurn turns k → ⊥)
one_turn turns k less =
    let line = at_some turns k less in
    elim (one_or_not (lists_of line.0)) as (λ _. HasOneTurn turns k ⊎ (HasOneTurn turns k → ⊥)) [
      | inl t ↦ inl (line.0, t.0, line.1, t.1)
      | inr none ↦ inr (λ one. none one.1 (ap lists_of (same_Some line.0 one.0 (sym line.1 ∙ one.2)) ∙ one.3))
    ]

-- a turn earlier in the list, or in another list, is one of its line
pub in_line : (p : TurnPosition) (turns : List Turn) → IsTurnPosition turns p → (t : InnerTurn) → IsIn (p.earlier ++ p.beside) t → IsIn (joined (lists_of p.line)) t
in_line p turns at t m =
    let s = at.stands in
    let own = p.earlier ++ p.turn ∷ s.later in
    let here : (list : List InnerTurn) → IsIn (s.front ++ own ∷ s.back) list → IsIn list t → IsIn (joined (lists_of p.line)) t = λ list there k. subst (λ lists. IsIn (joined lists) t) (sym s.in_line) (flat_map-IsIn (λ (l : List InnerTurn). l) (s.front ++ own ∷ s.back) list t there k) in
    elim (IsIn-append_cases p.earlier p.beside t m) as (λ _. IsIn (joined (lists_of p.line)) t) [
      | inl earlier ↦ here own (in_cut s.front own s.back) (IsIn-append_left p.earlier (p.turn ∷ s.later) t earlier)
      | inr beside ↦
          elim (IsIn-append_cases (joined s.front) (joined s.back) t (subst (λ ts. IsIn ts t) s.others beside)) as (λ _. IsIn (joined (lists_of p.line)) t) [
            | inl front ↦ subst (λ lists. IsIn (joined lists) t) (sym s.in_line) (among_front s.front (own ∷ s.back) t front)
            | inr back ↦ subst (λ lists. IsIn (joined lists) t) (sym s.in_line) (among_back s.front own s.back t back)
          ]
    ]
  where
    among_front : (xs ys : List (List InnerTurn)) (t : InnerTurn) → IsIn (joined xs) t → IsIn (joined (xs ++ ys)) t
    among_front [] ys t m = absurd m
    among_front (x ∷ xs) ys t m = elim (IsIn-append_cases x (joined xs) t m) as (λ _. IsIn (x ++ joined (xs ++ ys)) t) [ inl own ↦ IsIn-append_left x (joined (xs ++ ys)) t own | inr other ↦ IsIn-append_right x (joined (xs ++ ys)) t (among_front xs ys t other) ]

    among_back : (xs : List (List InnerTurn)) (own : List InnerTurn) (ys : List (List InnerTurn)) (t : InnerTurn) → IsIn (joined ys) t → IsIn (joined (xs ++ own ∷ ys)) t
    among_back [] own ys t m = IsIn-append_right own (joined ys) t m
    among_back (x ∷ xs) own ys t m = IsIn-append_right x (joined (xs ++ own ∷ ys)) t (among_back xs own ys t m)

-- ---- the list

module _ {tells : Bool} (start : Option MetaState) (turns : List Turn) (events : List Event) (legal : Legal tells events) (told : ToldBy start turns events) (places : ArePlacesInOrder start turns events told) where
  abbrev pub placed : ℕ → Option Placement
  placed k = placement_after (start_placement start) (inner_turns (take k turns))

  -- each Place of the line is printed by a turn in whose stretch it stands, and gives nobody a shard
  abbrev pub BesideAll : ℕ → Type 0
  BesideAll k = (z : ℕ) (place : Placement) (done : List (ℕ × ℕ)) → told.ends k ≤ z → z < told.ends (suc k) → At events z (event.Place place done) → GivesNone (take z events) place × IsPrintedIn turns told.spans k z place

  -- a line has one turn, or it is so
  pub alone_or_beside : (k : ℕ) → k < length turns → HasOneTurn turns k ⊎ ((HasOneTurn turns k → ⊥) × BesideAll k)
  alone_or_beside k less =
      elim (one_turn turns k less) as (λ _. HasOneTurn turns k ⊎ ((HasOneTurn turns k → ⊥) × BesideAll k)) [ inl one ↦ inl one | inr many ↦ inr (many, λ z place done low high there. places.beside k z place done less many low high there) ]

  -- the Place of a line of one turn stands behind it
  pub alone_last : (k : ℕ) → k < length turns → HasOneTurn turns k → (z : ℕ) (place : Placement) (done : List (ℕ × ℕ)) → told.ends k ≤ z → z < told.ends (suc k) → At events z (event.Place place done) → placed (suc k) ≡ Some place
  alone_last k less one z place done low high there = sym (placements_stand start turns events legal told (suc k) less) ∙ places.alone k z place done less one low high there

  -- what stands within a line stood before it, or is one of its Places
  abbrev pub IsMet : ℕ → ℕ → Placement → Type 0
  IsMet k i place = (placed k ≡ Some place) ⊎ ((z : ℕ) × (done : List (ℕ × ℕ)) × (told.ends k ≤ z) × (z < i) × At events z (event.Place place done))

  pub met : (k : ℕ) → k < length turns → (i : ℕ) → told.ends k ≤ i → i ≤ told.ends (suc k) → (place : Placement) → last_place (take i events) ≡ Some place → IsMet k i place
  met k less i low high place last =
      let bound = ends_within start turns events told (suc k) less in
      elim (stands_from events legal (told.ends k) i low (omega (arith, high, bound)) place last) as (λ _. IsMet k i place) [
        | inl same ↦ inl (sym (placements_stand start turns events legal told k (omega (arith, less))) ∙ same)
        | inr z ↦ inr z
      ]

  -- in the line of a turn that prints none it is so
  pub gives_none : (p : TurnPosition) → IsTurnPosition turns p → printed p.turn.answer ≡ None → BesideAll (length p.lines)
  gives_none p at quiet z place done low high there =
      elim (alone_or_beside (length p.lines) (line_below turns p at)) as (λ _. GivesNone (take z events) place × IsPrintedIn turns told.spans (length p.lines) z place) [
        | inl one ↦ let own = own_place start turns events legal told p at one z place done low high there in absurd (let bad : None ≡ Some (own.1).0 = sym quiet ∙ (own.1).1 in cc)
        | inr many ↦ many.1 z place done low high there
      ]

  -- along such a line no node comes to have a shard
  pub back : (k : ℕ) → k < length turns → ((z : ℕ) (place : Placement) (done : List (ℕ × ℕ)) → told.ends k ≤ z → z < told.ends (suc k) → At events z (event.Place place done) → GivesNone (take z events) place)
      → (a b : ℕ) → told.ends k ≤ a → a ≤ b → b ≤ told.ends (suc k) → (was is : Placement) → last_place (take a events) ≡ Some was → last_place (take b events) ≡ Some is → (n s tenure : ℕ) → IsAssigned is n s tenure → IsAssigned was n s tenure
  back k less gives a b low grows high was is of_was of_is n s tenure h =
      along events (λ m. m ≤ told.ends (suc k) → (next : Placement) → last_place (take m events) ≡ Some next → IsAssigned next n s tenure → IsAssigned was n s tenure) a
      (λ within next last given. subst (λ q. IsAssigned q n s tenure) (same_Some next was (sym last ∙ of_was)) given) by_event b grows (omega (arith, high, ends_within start turns events told (suc k) less)) high is of_is h
    where
      some : 1 ≤ a
      some = let there = place_there (take a events) was of_was in omega (arith, (at_take events there.0 a (event.Place was there.1) there.2).1)

      by_event : (m : ℕ) (e : Event) → a ≤ m → At events m e → (m ≤ told.ends (suc k) → (next : Placement) → last_place (take m events) ≡ Some next → IsAssigned next n s tenure → IsAssigned was n s tenure)
          → suc m ≤ told.ends (suc k) → (next : Placement) → last_place (take (suc m) events) ≡ Some next → IsAssigned next n s tenure → IsAssigned was n s tenure
      by_event zero e le there before within next last given = absurd (omega (arith, le, some))
      by_event (suc m) e le there before within next last given =
          elim (place_cases (last_place (take (suc m) events)) e) as (λ _. IsAssigned was n s tenure) [
            | inl same ↦ before (omega (arith, within)) next (sym (fold_suc place_after None events (suc m) e there ∙ same) ∙ last) given
            | inr made ↦
                let at : At events (suc m) (event.Place made.0 made.1) = there ∙ ap Some made.2 in
                let law = lawful_place events legal m made.0 made.1 at in
                let it : made.0 ≡ next = same_Some made.0 next (sym (fold_suc place_after None events (suc m) e there ∙ made.3) ∙ last) in
                before (omega (arith, within)) law.last law.last_is (gives (suc m) made.0 made.1 (omega (arith, low, le)) (omega (arith, within)) at law.last law.last_is n s tenure (subst (λ q. IsAssigned q n s tenure) (sym it) given))
          ]

  -- whoever has a shard further on in such a line has it after a Place before
  pub held_before : (k : ℕ) → k < length turns → BesideAll k → (z : ℕ) (place : Placement) (done : List (ℕ × ℕ)) → told.ends k ≤ z → At events z (event.Place place done) → (b : ℕ) → z < b → b ≤ told.ends (suc k)
      → (next : Placement) → last_place (take b events) ≡ Some next → (n s : ℕ) → has_replica (Some next) s n ≡ true → has_replica (Some place) s n ≡ true
  held_before k less all z place done low there b above high next last n s member =
      let given = member_given next s n member in
      is_member_of place s n given.0 (back k less (λ y other dones from below at. (all y other dones from below at).0) (suc z) b (omega (arith, low)) above high place next (fold_suc place_after None events z (event.Place place done) there) last n s given.0 given.1)

  -- a placement stands before a line of several turns in which one stands
  pub line_base : (k : ℕ) → k < length turns → (HasOneTurn turns k → ⊥) → (i : ℕ) → told.ends k ≤ i → i ≤ told.ends (suc k) → (place : Placement) → last_place (take i events) ≡ Some place → (was : Placement) × (last_place (take (told.ends k) events) ≡ Some was)
  line_base k less many i low high place last =
      let there = place_there (take i events) place last in
      let at_list = at_take events there.0 i (event.Place place there.1) there.2 in
      elim (cases_lt 0 (told.ends k)) as (λ _. (was : Placement) × (last_place (take (told.ends k) events) ≡ Some was)) [
        | inl some ↦ let first = first_event events legal there.0 (event.Place place there.1) at_list.0 in let h = placed_at events legal first.place [] first.there (told.ends k) some (ends_within start turns events told k (omega (arith, less))) in (h.0, h.1)
        | inr none ↦
            let e = at_some events 0 (omega (arith, at_within events there.0 (event.Place place there.1) at_list.0)) in
            let b = (told.tells).init.begun (omega (arith, (told.lines).first, ends_grow start turns events told 0 k (omega arith) (omega (arith, less)), none)) e.0 e.1 in
            absurd (clash b.0 b.1 b.2 (omega (arith, none)) (omega (arith, at_list.1, high)))
      ]
    where
      clash : (b : TurnPosition) → IsTurnPosition turns b → IsInitOf start turns events told.spans b → told.ends k ≤ 0 → 0 < told.ends (suc k) → ⊥
      clash b in_run init none above =
          let same = one_line start turns events legal told 0 (length b.lines) k (line_below turns b in_run) less (omega (arith, (told.lines).low b in_run, init.from_is)) (omega (arith, (told.lines).high b in_run, init.to_above)) none above in
          let only = init.alone in
          many (only.0, b.turn, subst (λ m. At turns m only.0) same only.1, only.2)

  -- a turn prints a Place that stands by the end of its line
  printed_by : (q : TurnPosition) → IsTurnPosition turns q → (place : Placement) → printed q.turn.answer ≡ Some place → (z : ℕ) × (done : List (ℕ × ℕ)) × At events z (event.Place place done) × (z < told.ends (suc (length q.lines)))
  printed_by q at_q place prints = let h = (told.tells).placements.is_place q at_q place prints in let early = h.in_time in (h.place_at, h.done, h.there, omega (arith, early, (told.lines).high q at_q))

  -- a member before a line and behind it is one all along it
  pub member_met : (k : ℕ) → k < length turns → (i : ℕ) → told.ends k ≤ i → i ≤ told.ends (suc k) → (place : Placement) → last_place (take i events) ≡ Some place → (n s : ℕ) → has_replica (placed k) s n ≡ true → has_replica (placed (suc k)) s n ≡ true → has_replica (Some place) s n ≡ true
  member_met k less i low high place last n s before behind =
      elim (met k less i low high place last) as (λ _. has_replica (Some place) s n ≡ true) [
        | inl same ↦ ap (λ o. has_replica o s n) (sym same) ∙ before
        | inr z ↦ elim (alone_or_beside k less) as (λ _. has_replica (Some place) s n ≡ true) [
          | inl one ↦ ap (λ o. has_replica o s n) (sym (alone_last k less one z.0 place z.1 z.2 (omega (arith, z.3, high)) z.4)) ∙ behind
          | inr many ↦
              let next = member_place (placed (suc k)) s n behind in
              held_before k less many.1 z.0 place z.1 z.2 z.4 (told.ends (suc k)) (omega (arith, z.3, high)) (omega arith) next.0 (placements_stand start turns events legal told (suc k) less ∙ next.1) n s (ap (λ o. has_replica o s n) (sym next.1) ∙ behind)
        ]
      ]

  -- so is a member before the line of a turn, and after those earlier in its list and those beside it, all along the line up to the turn
  pub member_before : (p : TurnPosition) → IsTurnPosition turns p → (i : ℕ) → told.ends (length p.lines) ≤ i → i ≤ (told.spans).from p → (place : Placement) → last_place (take i events) ≡ Some place
      → (n s : ℕ) → has_replica (placed (length p.lines)) s n ≡ true → has_replica (placement_after (placed (length p.lines)) (p.earlier ++ p.beside)) s n ≡ true → has_replica (Some place) s n ≡ true
  member_before p at i low high place last n s before behind =
      elim (met k less i low line_end place last) as (λ _. has_replica (Some place) s n ≡ true) [
        | inl same ↦ ap (λ o. has_replica o s n) (sym same) ∙ before
        | inr z ↦ elim (alone_or_beside k less) as (λ _. has_replica (Some place) s n ≡ true) [
          | inl one ↦ absurd (omega (arith, (own_place start turns events legal told p at one z.0 place z.1 z.2 (omega (arith, z.3, line_end)) z.4).0, z.3, high))
          | inr many ↦ by_printer many.1 z.0 z.1 z.2 z.3 z.4 (many.1 z.0 place z.1 z.2 (omega (arith, z.3, line_end)) z.4).1
        ]
      ]
    where
      k : ℕ
      k = length p.lines

      less : k < length turns
      less = line_below turns p at

      line_end : i ≤ told.ends (suc k)
      line_end = omega (arith, high, (told.tells).order.not_back p at, (told.lines).high p at)

      by_printer : BesideAll k → (z : ℕ) (done : List (ℕ × ℕ)) → told.ends k ≤ z → z < i → At events z (event.Place place done) → IsPrintedIn turns told.spans k z place → has_replica (Some place) s n ≡ true
      by_printer all z done above below there g =
          let ts = p.earlier ++ p.beside in
          let new = after_new ts (placed k) (g.printer).turn place among g.prints in
          elim (after_from ts (placed k) new.0 new.1) as (λ _. has_replica (Some place) s n ≡ true) [
            | inl base ↦
                let stood = place_there (take (told.ends k) events) new.0 (placements_stand start turns events legal told k (omega (arith, less)) ∙ base) in
                let here = at_take events stood.0 (told.ends k) (event.Place new.0 stood.1) stood.2 in
                by_place new.0 stood.0 stood.1 here.0 (omega (arith, here.1, (told.lines).ascends k less)) new.2 (ap (λ o. has_replica o s n) (sym new.1) ∙ behind)
            | inr t ↦
                let q = position_in turns p.lines p.line at.after at.in_run t.0 (in_line p turns at t.0 t.1) in
                let y = printed_by q.0 q.1 new.0 (ap (λ (u : InnerTurn). printed u.answer) q.2 ∙ t.2) in
                by_place new.0 y.0 y.1 y.2 (omega (arith, y.3, ap (λ ls. told.ends (suc (length ls))) q.3)) new.2 (ap (λ o. has_replica o s n) (sym new.1) ∙ behind)
          ]
        where
          among : IsIn (p.earlier ++ p.beside) (g.printer).turn
          among =
              elim (stands turns g.printer p g.in_run at) as (λ _. IsIn (p.earlier ++ p.beside) (g.printer).turn) [
                | before_line rest line lines m ↦ absurd (omega (arith, g.of_line, ap length lines, length-append (g.printer).lines (line ∷ rest)))
                | before_there lines m ↦ IsIn-append_left p.earlier p.beside (g.printer).turn m
                | in_other_list lines m ↦ IsIn-append_right p.earlier p.beside (g.printer).turn m
                | is_it same ↦ absurd (omega (arith, (g.within).0, ap ((told.spans).from) same, below, high))
                | comes_later later ↦ absurd (omega (arith, (told.tells).order.order p g.printer at g.in_run later, (g.within).0, below, high, (told.tells).order.not_back p at))
              ]

          by_place : (r : Placement) (y : ℕ) (dones : List (ℕ × ℕ)) → At events y (event.Place r dones) → y < told.ends (suc k) → place.version ≤ r.version → has_replica (Some r) s n ≡ true → has_replica (Some place) s n ≡ true
          by_place r y dones at_y early up member =
              elim (cases_lt y (suc z)) as (λ _. has_replica (Some place) s n ≡ true) [
                | inl lt ↦
                    let down = greatest_so_far events legal y (suc z) r place dones at_y lt (omega (arith, below, line_end, ends_within start turns events told (suc k) less)) (fold_suc place_after None events z (event.Place place done) there) in
                    ap (λ q. has_replica (Some q) s n) (sym (one_place events legal y z r place dones done at_y there (omega (arith, up, down)))) ∙ member
                | inr ge ↦ held_before k less all z place done above there (suc y) (omega (arith, ge)) early r (fold_suc place_after None events y (event.Place r dones) at_y) n s member
              ]

  -- ---- the turn

  module _ (p : TurnPosition) (at : IsTurnPosition turns p) (quiet : printed p.turn.answer ≡ None) where
    less : length p.lines < length turns
    less = line_below turns p at

    same_base : placed (length p.lines) ≡ placement_at start p
    same_base = ap (λ ls. placement_after (start_placement start) (inner_turns ls)) (lines_before start turns events legal told p at)

    by_parts : (ts : List InnerTurn) → placement_after (start_placement start) (inner_turns p.lines ++ ts) ≡ placement_after (placement_at start p) ts
    by_parts ts = fold-append (λ o (turn : InnerTurn). later_placement (printed turn.answer) o) (start_placement start) (inner_turns p.lines) ts

    -- a turn in the line prints a Place that stands by the line's end
    pub printed_in : (q : TurnPosition) → IsTurnPosition turns q → length q.lines ≡ length p.lines → (place : Placement) → printed q.turn.answer ≡ Some place → (z : ℕ) × (done : List (ℕ × ℕ)) × At events z (event.Place place done) × (z < told.ends (suc (length p.lines)))
    printed_in q at_q same place prints = let z = printed_by q at_q place prints in (z.0, z.1, z.2, omega (arith, z.3, ap (λ n. told.ends (suc n)) same))

    -- A placement that stands in the turn's stretch may be the one that a request uses: those earlier in its list print nothing newer, and of those beside it
    -- the ones that don't are enough.
    pub may_stand : (i : ℕ) → (told.spans).from p ≤ i → i ≤ (told.spans).to p → (place : Placement) → last_place (take i events) ≡ Some place → MayStand start p place
    may_stand i low high place last = (inner_turns p.lines ++ ts, record { others = others; some_of = some_filter (prints_by place) p.beside; are = refl }, by_parts ts ∙ stood.1 ∙ ap Some (it_is stood.0 stood.1 stood.2))
      where
        k : ℕ
        k = length p.lines

        others : List InnerTurn
        others = filter (prints_by place) p.beside

        ts : List InnerTurn
        ts = p.earlier ++ others

        base_is : (q : Placement) → last_place (take (told.ends k) events) ≡ Some q → placement_at start p ≡ Some q
        base_is q is = sym same_base ∙ sym (placements_stand start turns events legal told k (omega (arith, less))) ∙ is

        bound : i ≤ length events
        bound = omega (arith, high, (told.tells).order.not_above p at)

        begins : told.ends k ≤ i
        begins = omega (arith, low, (told.lines).low p at)

        -- of Places up to here it has the greatest version
        older : (r : Placement) (y : ℕ) (dones : List (ℕ × ℕ)) → At events y (event.Place r dones) → y < i → r.version ≤ place.version
        older r y dones at_y early = greatest_so_far events legal y i r place dones at_y early bound last

        same_version : (r : Placement) (y : ℕ) (dones : List (ℕ × ℕ)) → At events y (event.Place r dones) → place.version ≤ r.version → r.version ≤ place.version → r ≡ place
        same_version r y dones at_y up down =
            let there = place_there (take i events) place last in
            one_place events legal y there.0 r place dones there.1 at_y (at_take events there.0 i (event.Place place there.1) there.2).0 (omega (arith, up, down))

        -- where one of its line's Places stands, the turn that prints it is among those
        among : (z : ℕ) → z < i → IsPrintedIn turns told.spans k z place → (t : InnerTurn) × IsIn ts t × (printed t.answer ≡ Some place)
        among z below g = (
          (g.printer).turn,
          elim (stands turns g.printer p g.in_run at) as (λ _. IsIn ts (g.printer).turn) [
            | before_line rest line lines m ↦ absurd (omega (arith, g.of_line, ap length lines, length-append (g.printer).lines (line ∷ rest)))
            | before_there lines m ↦ IsIn-append_left p.earlier others (g.printer).turn m
            | in_other_list lines m ↦ IsIn-append_right p.earlier others (g.printer).turn (filter-IsIn (prints_by place) p.beside (g.printer).turn m (ap (λ o. option_map_or (λ (r : Placement). nat_le r.version place.version) o true) g.prints ∙ le-leb place.version place.version (omega arith)))
            | is_it same ↦ absurd (let bad : None ≡ Some place = sym quiet ∙ ap (λ (x : TurnPosition). printed x.turn.answer) (sym same) ∙ g.prints in cc)
            | comes_later later ↦ absurd (omega (arith, (told.tells).order.order p g.printer at g.in_run later, (g.within).0, below, high))
          ],
          g.prints,
        )

        stood : (r : Placement) × (placement_after (placement_at start p) ts ≡ Some r) × (place.version ≤ r.version)
        stood =
            elim (stands_from events legal (told.ends k) i begins bound place last) as (λ _. (r : Placement) × (placement_after (placement_at start p) ts ≡ Some r) × (place.version ≤ r.version)) [
              | inl same ↦ after_up ts (placement_at start p) place (base_is place same)
              | inr z ↦ let t = among z.0 z.3 (gives_none p at quiet z.0 place z.1 z.2 (omega (arith, z.3, high, (told.lines).high p at)) z.4).1 in after_new ts (placement_at start p) t.0 place t.1 t.2
            ]

        -- what those print is a Place, and not newer
        of_turn : (t : InnerTurn) → IsIn ts t → (r : Placement) → printed t.answer ≡ Some r → place.version ≤ r.version → r ≡ place
        of_turn t m r prints up =
            elim (IsIn-append_cases p.earlier others t m) as (λ _. r ≡ place) [
              | inl early ↦
                  let q = own_list turns p at t early in
                  let h = (told.tells).placements.is_place q.position q.in_run r (ap (λ (u : InnerTurn). printed u.answer) q.turn_is ∙ prints) in
                  let in_time = h.in_time in
                  same_version r h.place_at h.done h.there up (older r h.place_at h.done h.there (omega (arith, in_time, (told.tells).order.order q.position p q.in_run at (inr (ap length q.lines_are, q.client_is, q.earlier)), low)))
              | inr other ↦
                  let q = position_in turns p.lines p.line at.after at.in_run t (in_line p turns at t (IsIn-append_right p.earlier p.beside t (IsIn-filter (prints_by place) p.beside t other))) in
                  let y = printed_in q.0 q.1 (ap length q.3) r (ap (λ (u : InnerTurn). printed u.answer) q.2 ∙ prints) in
                  same_version r y.0 y.1 y.2 up (leb-true r.version place.version (ap (λ o. option_map_or (λ (x : Placement). nat_le x.version place.version) o true) (sym prints) ∙ IsIn-filter_passes (prints_by place) p.beside t other))
            ]

        it_is : (r : Placement) → placement_after (placement_at start p) ts ≡ Some r → place.version ≤ r.version → r ≡ place
        it_is r is up =
            elim (after_from ts (placement_at start p) r is) as (λ _. r ≡ place) [
              | inl base ↦
                  let last_r = placements_stand start turns events legal told k (omega (arith, less)) ∙ same_base ∙ base in
                  let there = place_there (take (told.ends k) events) r last_r in
                  let here = at_take events there.0 (told.ends k) (event.Place r there.1) there.2 in
                  same_version r there.0 there.1 here.0 up (older r there.0 there.1 here.0 (omega (arith, here.1, begins)))
              | inr t ↦ of_turn t.0 t.1 r t.2 up
            ]

    -- a placement stands before its line, where one stands in it
    pub based : (i : ℕ) → told.ends (length p.lines) ≤ i → i ≤ told.ends (suc (length p.lines)) → (place : Placement) → last_place (take i events) ≡ Some place → (was : Placement) × (last_place (take (told.ends (length p.lines)) events) ≡ Some was)
    based i low high place last =
        let k = length p.lines in
        let there = place_there (take i events) place last in
        let at_list = at_take events there.0 i (event.Place place there.1) there.2 in
        elim (cases_lt 0 (told.ends k)) as (λ _. (was : Placement) × (last_place (take (told.ends k) events) ≡ Some was)) [
          | inl some ↦ let first = first_event events legal there.0 (event.Place place there.1) at_list.0 in let h = placed_at events legal first.place [] first.there (told.ends k) some (ends_within start turns events told k (omega (arith, less))) in (h.0, h.1)
          | inr none ↦
              let e = at_some events 0 (omega (arith, at_within events there.0 (event.Place place there.1) at_list.0)) in
              let b = (told.tells).init.begun (omega (arith, (told.lines).first, ends_grow start turns events told 0 k (omega arith) (omega (arith, less)), none)) e.0 e.1 in
              absurd (clash b.0 b.1 b.2 (omega (arith, none)) (omega (arith, at_list.1, high)))
        ]
      where
        clash : (b : TurnPosition) → IsTurnPosition turns b → IsInitOf start turns events told.spans b → told.ends (length p.lines) ≤ 0 → 0 < told.ends (suc (length p.lines)) → ⊥
        clash b in_run init none above =
            let same = one_line start turns events legal told 0 (length b.lines) (length p.lines) (line_below turns b in_run) less (omega (arith, (told.lines).low b in_run, init.from_is)) (omega (arith, (told.lines).high b in_run, init.to_above)) none above in
            let is : p ≡ b = alone_position turns b p init.alone in_run at (sym same) in
            let prints : printed b.turn.answer ≡ Some init.place = ap printed init.answered in
            let bad : None ≡ Some init.place = sym quiet ∙ ap (λ (x : TurnPosition). printed x.turn.answer) is ∙ prints in
            cc

    -- whoever has a shard in its line had it before, with the same tenure
    pub had_before : (i : ℕ) → told.ends (length p.lines) ≤ i → i ≤ told.ends (suc (length p.lines)) → (place : Placement) → last_place (take i events) ≡ Some place
        → (was : Placement) × (last_place (take (told.ends (length p.lines)) events) ≡ Some was) × (placed (length p.lines) ≡ Some was) × ((n s tenure : ℕ) → IsAssigned place n s tenure → IsAssigned was n s tenure)
    had_before i low high place last =
        let k = length p.lines in
        let b = based i low high place last in (
          b.0,
          b.1,
          sym (placements_stand start turns events legal told k (omega (arith, less))) ∙ b.1,
          back k less (λ z next done above below there. (gives_none p at quiet z next done above below there).0) (told.ends k) i (omega arith) low high b.0 place b.1 last,
        )
