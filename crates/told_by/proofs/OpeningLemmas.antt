-- What the beginning of the list fixes for all turns: the seed of the hash, and how many replicas and shards there are.
use Rattle.std.proofs.Common.{◌≡◌, ℕ, suc, ◌<◌, ◌≤◌, List, [], ◌∷◌, ◌++◌, length, refl, sym, ap, ◌∙◌, subst, inl, inr, arith, append_assoc, length-append, Bool, true, false}
use Rattle.std.specs.Prelude.{Option, Some, None, fold, if◌then◌else◌, nat_lt}
use Rattle.std.specs.Option.{option_map_or}
use Rattle.std.proofs.lemmas.List.Sums.{fold-append}
use Rattle.std.proofs.lemmas.Option.{same_Some}
use Rattle.std.proofs.lemmas.Bool.{cases_Bool}
use Rattle.m3_model.proofs.MemberLemmas.{IsIn-append_left, IsIn-append_right}
use Rattle.m3_model.proofs.Lists.{IsIn-flat_map}
use Rattle.m3_model.specs.Members.{IsIn}
use Rattle.transcripts.specs.Placements.{seed_at, seed_by, printed, placement_after, later_placement, newer, start_placement, replicas_of}
use Rattle.transcripts.specs.Points.{rf_at}
use Rattle.transcripts.specs.Record.{InnerTurn, TurnPosition, IsTurnPosition, lists_of, joined, inner_turns}
use Rattle.m3_model.specs.declared.act.Act.{Act}
use Rattle.m3_model.specs.declared.act.Act.TheVariants as act
use Rattle.m3_model.specs.declared.answer.Answer.{Answer}
use Rattle.m3_model.specs.declared.answer.Answer.TheVariants as answer
use Rattle.m3_model.specs.declared.placement.Placement.{Placement}
use Rattle.m3_model.specs.declared.rules.MetaState.{MetaState}
use Rattle.m3_model.specs.declared.turn.Turn.{Turn}
use Rattle.placement_core.specs.Lawful.{IsLawful}
use Rattle.cluster_core.specs.Earlier.{place_after}
use Rattle.cluster_core.specs.Legal.{Legal, IsOpeningPlace}
use Rattle.cluster_core.specs.Lists.{At}
use Rattle.cluster_core.specs.declared.event.Event.{Event}
use Rattle.cluster_core.specs.declared.event.Event.TheVariants as event
use Rattle.cluster_core.proofs.ListLemmas.{at_within, at_some, at_same, fold_suc}
use Rattle.cluster_core.proofs.PlaceLemmas.{Fine, placed_at}
use Rattle.told_by.specs.Openings.{opening_length, sets_seed, IsInitOf}
use Rattle.told_by.specs.Told.{ToldBy}
use Rattle.told_by.proofs.TurnLemmas.{split_in, Stands, stands, before_line, before_there, in_other_list, is_it, comes_later, alone_is, position_in, at_cut, inner-append, earlier_line}

-- ---- the first event

pub record FirstEvent (events : List Event) : Type 0 where
  pub place : Placement
  pub lawful : IsLawful place
  pub there : At events 0 (event.Place place [])

first_by : (events : List Event) (e : Event) → At events 0 e → IsOpeningPlace e → FirstEvent events
first_by events (event.Place place done) there h = record { place = place; lawful = h.0; there = there ∙ ap (λ ds. Some (event.Place place ds)) h.1 }
first_by events _ there h = absurd h

pub first_event : {tells : Bool} → (events : List Event) → Legal tells events → (i : ℕ) (e : Event) → At events i e → FirstEvent events
first_event events legal i e h = let z = at_some events 0 (omega (arith, at_within events i e h)) in first_by events z.0 z.1 (legal 0 z.0 z.1)

-- each Place has as many replicas and shards as the first
pub place_fine : {tells : Bool} → (events : List Event) → Legal tells events → (first : Placement) → At events 0 (event.Place first []) → (i : ℕ) (p : Placement) (done : List (ℕ × ℕ)) → At events i (event.Place p done) → Fine first p
place_fine events legal first there i p done h =
    let f = placed_at events legal first [] there (suc i) (omega arith) (omega (arith, at_within events i (event.Place p done) h)) in
    let last = fold_suc place_after None events i (event.Place p done) h in
    subst (Fine first) (same_Some f.0 p (sym f.1 ∙ last)) f.2

-- ---- seeds

seed_same_by : (a : Act) (b : Answer) (n : ℕ) → sets_seed a b ≡ false → seed_by a b n ≡ n
seed_same_by (act.Init rf shards seed nodes) (answer.Placed placement version) n e = cc
seed_same_by _ _ n e = refl

-- an `init` sets the seed, whatever it was
seed_set : (a : Act) (b : Answer) (m n : ℕ) → sets_seed a b ≡ true → seed_by a b m ≡ seed_by a b n
seed_set (act.Init rf shards seed nodes) (answer.Placed placement version) m n e = refl
seed_set _ _ m n e = cc

abbrev seed_from : ℕ → List InnerTurn → ℕ
seed_from n ts = fold (λ seed turn. seed_by turn.act turn.answer seed) n ts

none_seeds : (n : ℕ) (ts : List InnerTurn) → ((t : InnerTurn) → IsIn ts t → sets_seed t.act t.answer ≡ false) → seed_from n ts ≡ n
none_seeds n [] none = refl
none_seeds n (t ∷ ts) none = ap (λ s. seed_from s ts) (seed_same_by t.act t.answer n (none t (inl refl))) ∙ none_seeds n ts (λ u h. none u (inr h))

seeds_append : (n : ℕ) (xs ys : List InnerTurn) → seed_from n (xs ++ ys) ≡ seed_from (seed_from n xs) ys
seeds_append n xs ys = fold-append (λ (seed : ℕ) (turn : InnerTurn). seed_by turn.act turn.answer seed) n xs ys

-- ---- replicas

-- a placement stands, with this many replicas
abbrev pub HasReplicas : ℕ → Option Placement → Type 0
HasReplicas rf o = (place : Placement) × (o ≡ Some place) × (place.rf ≡ rf)

-- each placement that these turns print has this many
abbrev EachPrints : ℕ → List InnerTurn → Type 0
EachPrints rf ts = (t : InnerTurn) → IsIn ts t → (place : Placement) → printed t.answer ≡ Some place → place.rf ≡ rf

-- where a placement stands it has this many
abbrev MayHaveReplicas : ℕ → Option Placement → Type 0
MayHaveReplicas rf o = (place : Placement) → o ≡ Some place → place.rf ≡ rf

either_has : (rf : ℕ) (b : Bool) (place other : Placement) → place.rf ≡ rf → other.rf ≡ rf → (if b then other else place).rf ≡ rf
either_has rf true place other e f = f
either_has rf false place other e f = e

newer_has : (rf : ℕ) (place : Placement) (was : Option Placement) → place.rf ≡ rf → MayHaveReplicas rf was → (newer place was).rf ≡ rf
newer_has rf place None e h = e
newer_has rf place (Some other) e h = either_has rf (nat_lt place.version other.version) place other e (h other refl)

later_has : (rf : ℕ) (o was : Option Placement) → MayHaveReplicas rf o → HasReplicas rf was → HasReplicas rf (later_placement o was)
later_has rf None was each h = h
later_has rf (Some place) was each h = (newer place was, refl, newer_has rf place was (each place refl) (λ other is. ap (λ (p : Placement). p.rf) (same_Some other h.0 (sym is ∙ h.1)) ∙ h.2))

later_may : (rf : ℕ) (o was : Option Placement) → MayHaveReplicas rf o → MayHaveReplicas rf was → MayHaveReplicas rf (later_placement o was)
later_may rf None was each h = h
later_may rf (Some place) was each h = λ p is. ap (λ (x : Placement). x.rf) (same_Some p (newer place was) (sym is)) ∙ newer_has rf place was (each place refl) h

after_has : (rf : ℕ) (ts : List InnerTurn) (o : Option Placement) → EachPrints rf ts → HasReplicas rf o → HasReplicas rf (placement_after o ts)
after_has rf [] o each h = h
after_has rf (t ∷ ts) o each h = after_has rf ts (later_placement (printed t.answer) o) (λ u m. each u (inr m)) (later_has rf (printed t.answer) o (each t (inl refl)) h)

prints_has : (rf : ℕ) (ts : List InnerTurn) (o : Option Placement) (t : InnerTurn) (place : Placement) → MayHaveReplicas rf o → EachPrints rf ts → IsIn ts t → printed t.answer ≡ Some place → HasReplicas rf (placement_after o ts)
prints_has rf [] o t place may each m is = absurd m
prints_has rf (u ∷ ts) o t place may each m is =
    elim m as (λ _. HasReplicas rf (placement_after o (u ∷ ts))) [
      | inl e ↦
          let here : printed u.answer ≡ Some place = ap (λ (x : InnerTurn). printed x.answer) e ∙ is in
          after_has rf ts (later_placement (printed u.answer) o) (λ v k. each v (inr k)) (subst (λ p. HasReplicas rf (later_placement p o)) (sym here) (newer place o, refl, newer_has rf place o (each u (inl refl) place here) may))
      | inr r ↦ prints_has rf ts (later_placement (printed u.answer) o) t place (later_may rf (printed u.answer) o (each u (inl refl)) may) (λ v k. each v (inr k)) r is
    ]

module _ {tells : Bool} (start : Option MetaState) (turns : List Turn) (events : List Event) (legal : Legal tells events) (told : ToldBy start turns events) where
  -- no turn past the `init` that begins the list is one
  none_before : ((p : TurnPosition) → IsTurnPosition turns p → sets_seed p.turn.act p.turn.answer ≡ true → ⊥) → (p : TurnPosition) → IsTurnPosition turns p → (t : InnerTurn) → IsIn (inner_turns p.lines) t → sets_seed t.act t.answer ≡ false
  none_before none p at t h =
      elim (cases_Bool (sets_seed t.act t.answer)) as (λ _. sets_seed t.act t.answer ≡ false) [
        | inr e ↦ e
        | inl e ↦ let q = earlier_line turns p at t h in absurd (none q.position q.in_run (subst (λ (u : InnerTurn). sets_seed u.act u.answer ≡ true) (sym q.turn_is) e))
      ]

  -- Of all turns in whose stretch an event stands the seed is one.
  pub record OneSeed : Type 0 where
    pub seed : ℕ
    pub found : (state : MetaState) → start ≡ Some state → seed ≡ state.seed
    pub everywhere : (p : TurnPosition) → IsTurnPosition turns p → sets_seed p.turn.act p.turn.answer ≡ false → (i : ℕ) → i < (told.spans).to p → seed_at start p ≡ seed

  by_init : (p : TurnPosition) → IsTurnPosition turns p → IsInitOf start turns events told.spans p → OneSeed
  by_init p in_run init = record {
    seed = seed_by p.turn.act p.turn.answer 0;
    found = λ state is. let bad : None ≡ Some state = sym init.found_nothing ∙ is in cc;
    everywhere = λ b at other i low. by_position b at other i low (stands turns p b in_run at);
  }
    where
      clash : (b : TurnPosition) → sets_seed b.turn.act b.turn.answer ≡ false → p.turn ≡ b.turn → ⊥
      clash b other same = let bad : true ≡ false = sym init.sets ∙ ap (λ (t : InnerTurn). sets_seed t.act t.answer) same ∙ other in cc

      -- the turns behind its line
      behind : (b : TurnPosition) → IsTurnPosition turns b → (rest : List Turn) (line : Turn) → b.lines ≡ p.lines ++ line ∷ rest → (t : InnerTurn) → IsIn (inner_turns rest) t → sets_seed t.act t.answer ≡ false
      behind b at rest line e t h =
          elim (cases_Bool (sets_seed t.act t.answer)) as (λ _. sets_seed t.act t.answer ≡ false) [
            | inr otherwise ↦ otherwise
            | inl seeds ↦
                let r = in_rest rest t h in
                let whole : turns ≡ (p.lines ++ line ∷ r.0) ++ r.1 ∷ (r.2 ++ b.line ∷ at.after) =
                at.in_run ∙ ap (λ xs. xs ++ b.line ∷ at.after) (e ∙ ap (λ xs. p.lines ++ line ∷ xs) r.3 ∙ sym (append_assoc p.lines (line ∷ r.0) (r.1 ∷ r.2))) ∙ append_assoc (p.lines ++ line ∷ r.0) (r.1 ∷ r.2) (b.line ∷ at.after) in
                let q = position_in turns (p.lines ++ line ∷ r.0) r.1 (r.2 ++ b.line ∷ at.after) whole t r.4 in
                let other = (told.tells).init.inits q.0 q.1 (subst (λ (u : InnerTurn). sets_seed u.act u.answer ≡ true) (sym q.2) seeds) in
                let before : (told.spans).to p ≤ (told.spans).from q.0 = (told.tells).order.order p q.0 in_run q.1 (inl (omega (arith, ap length q.3, length-append p.lines (line ∷ r.0)))) in
                absurd (omega (arith, init.to_above, other.from_is))
          ]
        where
          in_rest : (lines : List Turn) (t : InnerTurn) → IsIn (inner_turns lines) t → (front : List Turn) × (l : Turn) × (back : List Turn) × (lines ≡ front ++ l ∷ back) × IsIn (joined (lists_of l)) t
          in_rest lines t h = let l = IsIn-flat_map (λ (turn : Turn). joined (lists_of turn)) lines t h in let cut = split_in lines l.0 l.1 in (cut.0, l.0, cut.1, cut.2, l.2)

      by_position : (b : TurnPosition) → IsTurnPosition turns b → sets_seed b.turn.act b.turn.answer ≡ false → (i : ℕ) → i < (told.spans).to b → Stands p b → seed_at start b ≡ seed_by p.turn.act p.turn.answer 0
      by_position b at other i low (before_line rest line e h) =
          let first = option_map_or (λ (state : MetaState). state.seed) start 0 in
          let there : At turns (length p.lines) line = subst (λ ts. At ts (length p.lines) line) (sym (at.in_run ∙ ap (λ xs. xs ++ b.line ∷ at.after) e ∙ append_assoc p.lines (line ∷ rest) (b.line ∷ at.after))) (at_cut p.lines line (rest ++ b.line ∷ at.after)) in
          let own : line ≡ (init.alone).0 = at_same turns (length p.lines) line (init.alone).0 there (init.alone).1 in
          let lists : joined (lists_of line) ≡ p.turn ∷ [] = ap (λ l. joined (lists_of l)) own ∙ ap joined (init.alone).2 in
          ap (λ xs. seed_from first (inner_turns xs)) e
          ∙ ap (seed_from first) (inner-append p.lines (line ∷ rest) ∙ ap (λ ts. inner_turns p.lines ++ (ts ++ inner_turns rest)) lists)
          ∙ seeds_append first (inner_turns p.lines) (p.turn ∷ inner_turns rest)
          ∙ none_seeds (seed_by p.turn.act p.turn.answer (seed_from first (inner_turns p.lines))) (inner_turns rest) (behind b at rest line e)
          ∙ seed_set p.turn.act p.turn.answer (seed_from first (inner_turns p.lines)) 0 init.sets
      by_position b at other i low (before_there e h) = absurd (clash b other (alone_is turns p b init.alone at (ap length (sym e))))
      by_position b at other i low (in_other_list e h) = absurd (clash b other (alone_is turns p b init.alone at (ap length (sym e))))
      by_position b at other i low (is_it e) = absurd (clash b other (ap (λ (x : TurnPosition). x.turn) e))
      by_position b at other i low (comes_later e) =
          let before : (told.spans).to b ≤ (told.spans).from p = (told.tells).order.order b p at in_run e in absurd (omega (arith, init.from_is))

  pub one_seed : FirstEvent events → OneSeed
  one_seed first = by_start start refl
    where
      by_start : (o : Option MetaState) → start ≡ o → OneSeed
      by_start None e = let p = (told.tells).init.begun (omega (arith, ap opening_length e)) (event.Place first.place []) first.there in by_init p.0 p.1 p.2
      by_start (Some state) e = record {
        seed = state.seed;
        found = λ other is. let same : Some state ≡ Some other = sym e ∙ is in ap (λ (s : MetaState). s.seed) (same_Some state other same);
        everywhere = λ p at other i low.
            none_seeds (option_map_or (λ (s : MetaState). s.seed) start 0) (inner_turns p.lines)
            (none_before (λ q in_run sets. let init = (told.tells).init.inits q in_run sets in let bad : None ≡ Some state = sym init.found_nothing ∙ e in cc) p at)
            ∙ ap (λ o. option_map_or (λ (s : MetaState). s.seed) o 0) e;
      }

  -- ---- replicas

  prints_fine : (first : FirstEvent events) → (b : TurnPosition) → IsTurnPosition turns b → EachPrints (first.place).rf (inner_turns b.lines)
  prints_fine first b at t h place is =
      let q = earlier_line turns b at t h in
      let placed = (told.tells).placements.is_place q.position q.in_run place (ap (λ (u : InnerTurn). printed u.answer) q.turn_is ∙ is) in
      (place_fine events legal first.place first.there placed.place_at place placed.done placed.there).rf

  -- at a turn in whose stretch an event stands there are as many replicas as in the first placement
  pub rf_is : (first : FirstEvent events) → (b : TurnPosition) → IsTurnPosition turns b → sets_seed b.turn.act b.turn.answer ≡ false → (i : ℕ) → i < (told.spans).to b → rf_at start b ≡ (first.place).rf
  rf_is first b at other i low = let h = by_start start refl in ap replicas_of h.1 ∙ h.2
    where
      by_turn : (p : TurnPosition) → IsTurnPosition turns p → IsInitOf start turns events told.spans p → Stands p b → IsIn (inner_turns b.lines) p.turn
      by_turn p in_run init (before_line rest line e h) = subst (λ xs. IsIn (inner_turns xs) p.turn) (sym e) (subst (λ ts. IsIn ts p.turn) (sym (inner-append p.lines (line ∷ rest))) (IsIn-append_right (inner_turns p.lines) (inner_turns (line ∷ rest)) p.turn (IsIn-append_left (joined (lists_of line)) (inner_turns rest) p.turn h)))
      by_turn p in_run init (before_there e h) = absurd (let bad : true ≡ false = sym init.sets ∙ ap (λ (t : InnerTurn). sets_seed t.act t.answer) (alone_is turns p b init.alone at (ap length (sym e))) ∙ other in cc)
      by_turn p in_run init (in_other_list e h) = absurd (let bad : true ≡ false = sym init.sets ∙ ap (λ (t : InnerTurn). sets_seed t.act t.answer) (alone_is turns p b init.alone at (ap length (sym e))) ∙ other in cc)
      by_turn p in_run init (is_it e) = absurd (let bad : true ≡ false = sym init.sets ∙ ap (λ (x : TurnPosition). sets_seed x.turn.act x.turn.answer) e ∙ other in cc)
      by_turn p in_run init (comes_later e) = let before : (told.spans).to b ≤ (told.spans).from p = (told.tells).order.order b p at in_run e in absurd (omega (arith, init.from_is))

      by_start : (o : Option MetaState) → start ≡ o → HasReplicas (first.place).rf (placement_after (start_placement start) (inner_turns b.lines))
      by_start None e =
          let p = (told.tells).init.begun (omega (arith, ap opening_length e)) (event.Place first.place []) first.there in
          prints_has (first.place).rf (inner_turns b.lines) (start_placement start) (p.0).turn (p.2).place (λ place is. let bad : None ≡ Some place = sym (ap start_placement e) ∙ is in cc) (prints_fine first b at) (by_turn p.0 p.1 p.2 (stands turns p.0 b p.1 at)) (ap printed (p.2).answered)
      by_start (Some state) e =
          let opened = told.opened state e in
          after_has (first.place).rf (inner_turns b.lines) (start_placement start) (prints_fine first b at)
          (state.place, ap start_placement e, (place_fine events legal first.place first.there 0 state.place [] opened.placed).rf)
