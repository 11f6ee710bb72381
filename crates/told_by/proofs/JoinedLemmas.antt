-- A joining node's turn prints a majority of the former replicas.
use Rattle.std.proofs.Common.{◌≡◌, ℕ, zero, suc, ◌<◌, ◌≤◌, List, [], ◌∷◌, take, length, refl, sym, ap, ◌∙◌, subst, inl, inr, arith, Bool, true, false, cond, nat_eq}
use Rattle.std.specs.Prelude.{◌⊎◌, Option, Some, None}
use Rattle.std.proofs.lemmas.Bool.{cases_lt, eqb-true}
use Rattle.std.specs.List.{filter_map}
use Rattle.std.proofs.lemmas.Option.{same_Some}
use Rattle.m3_model.proofs.MemberLemmas.{IsIn-filter_map}
use Rattle.m3_model.proofs.Lists.{IsIn-flat_map}
use Rattle.m3_model.specs.Members.{IsIn}
use Rattle.transcripts.specs.Placements.{placements, printed}
use Rattle.transcripts.specs.Record.{InnerTurn, TurnPosition, IsTurnPosition, inner_turns, joined, lists_of}
use Rattle.m3_model.specs.declared.placement.Assignment.{Assignment}
use Rattle.m3_model.specs.declared.placement.Placement.{Placement}
use Rattle.m3_model.specs.declared.placement.ShardState.TheVariants.{Initializing, Available}
use Rattle.m3_model.specs.declared.rules.MetaState.{MetaState}
use Rattle.m3_model.specs.declared.turn.Turn.{Turn}
use Rattle.placement_core.specs.Lawful.{IsShard}
use Rattle.placement_core.specs.Majorities.{IsMajority}
use Rattle.placement_core.specs.Shards.{Shard, former, holds, is_holder}
use Rattle.placement_core.specs.Steps.{IsShardStep, done_at}
use Rattle.placement_core.proofs.ChangeLemmas.{step_holders}
use Rattle.placement_core.proofs.HolderLemmas.{chosen_node, is_moving, node_chosen, same_node, the_joining}
use Rattle.cluster_core.specs.Earlier.{last_place}
use Rattle.cluster_core.specs.Legal.{Legal, IsNextPlace}
use Rattle.cluster_core.specs.Lists.{At}
use Rattle.cluster_core.specs.declared.event.Event.{Event}
use Rattle.cluster_core.specs.declared.event.Event.TheVariants as event
use Rattle.cluster_core.proofs.ListLemmas.{at_some, at_same, at_within}
use Rattle.cluster_core.proofs.PlaceLemmas.{IsAt, at_fine, at_grows, at_place, at_sound, at_version}
use Rattle.cluster_core.proofs.TraceLemmas.{lawful_place}
use Rattle.transcripts.specs.Joined.{IsBootstrapInto, TurnsAvailable}
use Rattle.told_by.specs.Openings.{opening_length}
use Rattle.told_by.specs.Laws.{IsJoinedWhereTold, PrintsFormer}
use Rattle.told_by.specs.Placements.{PrintsPeers}
use Rattle.told_by.specs.Told.{ToldBy}
use Rattle.told_by.proofs.OpeningLemmas.{first_event, place_fine}
use Rattle.told_by.proofs.TurnLemmas.{position_in, split_in}

-- a turn of the run has a position
pub turn_in : (turns : List Turn) (t : InnerTurn) → IsIn (inner_turns turns) t → (q : TurnPosition) × IsTurnPosition turns q × (q.turn ≡ t)
turn_in turns t h =
    let l = IsIn-flat_map (λ (turn : Turn). joined (lists_of turn)) turns t h in
    let cut = split_in turns l.0 l.1 in
    let p = position_in turns cut.0 l.0 cut.1 cut.2 t l.2 in
    (p.0, p.1, p.2)

-- a node that a done list names
named_in : (s y : ℕ) (done : List (ℕ × ℕ)) → done_at s done ≡ Some y → IsIn done (s, y)
named_in s y [] e = cc
named_in s y (d ∷ ds) e = by (nat_eq d.0 s) refl (named_in s y ds) e
  where
    by : (b : Bool) → nat_eq d.0 s ≡ b → (done_at s ds ≡ Some y → IsIn ds (s, y)) → cond b (Some d.1) (done_at s ds) ≡ Some y → (d ≡ (s, y)) ⊎ IsIn ds (s, y)
    by true is later f = inl (λ i. (eqb-true d.0 s is i, same_Some d.1 y f i))
    by false is later f = inr (later f)

-- a step that ends no move turns no one Available
no_turn : (rf version : ℕ) (old next : Shard) (x z : Assignment) → IsShard rf version old → IsShardStep (suc version) old next None → IsIn old x → x.state ≡ Initializing → IsIn next z → z.node ≡ x.node → z.state ≡ Available → ⊥
no_turn rf version old next x z sound step hx joins hz node available =
    let change = step_holders rf version old next None sound step in
    let held = node_chosen is_holder next x.node z hz node (ap holds available) in
    let was = chosen_node is_holder old x.node ((change x.node).0 held) in
    let same : was.0 ≡ x = same_node old was.0 x sound.distinct was.1 hx was.2 in
    let bad : false ≡ true = sym (ap holds joins) ∙ ap (λ (w : Assignment). holds w.state) (sym same) ∙ was.3 in
    cc

-- one node joins a shard
one_joins : (rf version : ℕ) (shard : Shard) → IsShard rf version shard → (x z : Assignment) → IsIn shard x → x.state ≡ Initializing → IsIn shard z → z.state ≡ Initializing → x ≡ z
one_joins rf version shard sound x z hx joins_x hz joins_z =
    let moving = (is_moving rf version shard sound x hx joins_x).0 in
    the_joining shard sound.distinct moving x hx joins_x ∙ sym (the_joining shard sound.distinct moving z hz joins_z)

-- the Place of a version that isn't the opening's comes past the opening
past_opening : {tells : Bool} → (events : List Event) → Legal tells events → (i : ℕ) (p : Placement) (done : List (ℕ × ℕ)) → At events i (event.Place p done) → 1 ≤ i → 2 ≤ i
past_opening events legal zero p done h le = absurd (omega arith)
past_opening events legal (suc zero) p done h le = absurd (legal 1 (event.Place p done) h)
past_opening events legal (suc (suc i)) p done h le = omega arith

next_place : {tells : Bool} → (events : List Event) (legal : Legal tells events) (i : ℕ) (p : Placement) (done : List (ℕ × ℕ)) → At events i (event.Place p done) → 1 ≤ i → IsNextPlace (take i events) p done
next_place events legal zero p done h le = absurd (omega arith)
next_place events legal (suc i) p done h le = lawful_place events legal i p done h

-- The step that a Place is, seen at one shard.
record StepFound (events : List Event) (first was : Placement) (s : ℕ) (shard after : Shard) (i : ℕ) (done : List (ℕ × ℕ)) : Type 0 where
  past : 2 ≤ i
  last : Placement
  last_is : last_place (take i events) ≡ Some last
  old : Shard
  old_at : At last.shards s old
  same : old ≡ shard
  rf : last.rf ≡ was.rf
  sound : IsShard first.rf was.version old
  step : IsShardStep (suc was.version) old after (done_at s done)

step_found : {tells : Bool} → (events : List Event) (legal : Legal tells events) (first : Placement) (there : At events 0 (event.Place first [])) (was next : Placement) (k i : ℕ) (done_was done : List (ℕ × ℕ))
    → At events k (event.Place was done_was) → At events i (event.Place next done) → next.version ≡ suc was.version → (s : ℕ) (shard after : Shard) → At was.shards s shard → At next.shards s after → StepFound events first was s shard after i done
step_found events legal first there was next k i done_was done hk hi follows s shard after shard_is after_is =
    let bound_was = at_within events k (event.Place was done_was) hk in
    let bound = at_within events i (event.Place next done) hi in
    let at_was = at_place events legal first [] there k s was done_was shard hk shard_is in
    let at_next = at_place events legal first [] there i s next done after hi after_is in
    let later : 1 ≤ i =
    elim (cases_lt 0 i) as (λ _. 1 ≤ i) [
      | inl lt ↦ lt
      | inr none ↦ absurd (omega (arith, follows, at_grows events legal first [] there s (suc i) (suc k) next.version was.version after shard (omega arith) at_next (omega arith) (omega arith) at_was))
    ] in
    by_law later (next_place events legal i next done hi later) bound_was bound at_was
  where
    by_law : 1 ≤ i → IsNextPlace (take i events) next done → k < length events → i < length events → IsAt events s (suc k) was.version shard → StepFound events first was s shard after i done
    by_law later law bound_was bound at_was =
        let old = at_some (law.last).shards s (omega (arith, at_within next.shards s after after_is, (law.step).count)) in
        let versions : (law.last).version ≡ was.version = omega (arith, (law.step).version, follows) in
        let at_old : IsAt events s i was.version old.0 = record { place = law.last; last = law.last_is; version_is = versions; shard_is = old.1 } in
        record {
          past = past_opening events legal i next done hi later;
          last = law.last;
          last_is = law.last_is;
          old = old.0;
          old_at = old.1;
          same = elim (cases_lt (suc k) i) as (λ _. old.0 ≡ shard) [
            | inl lt ↦ sym (at_version events legal first [] there s (suc k) i was.version shard old.0 (omega arith) at_was (omega arith) (omega arith) at_old)
            | inr ge ↦ at_version events legal first [] there s i (suc k) was.version old.0 shard later at_old ge (omega arith) at_was
          ];
          rf = (at_fine events legal first [] there s i was.version old.0 later (omega arith) at_old).rf ∙ sym (place_fine events legal first there k was done_was hk).rf;
          sound = at_sound events legal first [] there s i was.version old.0 later (omega arith) at_old;
          step = subst (λ v. IsShardStep v old.0 after (done_at s done)) follows ((law.step).each s old.0 after old.1 after_is);
        }

module _ (start : Option MetaState) (turns : List Turn) (events : List Event) (told : ToldBy start turns events) where
  -- each placement of the run is a Place
  pub placed : (place : Placement) → IsIn (placements start (inner_turns turns)) place → (i : ℕ) × (done : List (ℕ × ℕ)) × At events i (event.Place place done)
  placed place h = by_start start refl h
    where
      by_turn : IsIn (filter_map (λ (t : InnerTurn). printed t.answer) (inner_turns turns)) place → (i : ℕ) × (done : List (ℕ × ℕ)) × At events i (event.Place place done)
      by_turn among =
          let t = IsIn-filter_map (λ (t : InnerTurn). printed t.answer) (inner_turns turns) place among in
          let q = turn_in turns t.0 t.1 in
          let p = (told.tells).placements.is_place q.0 q.1 place (ap (λ (u : InnerTurn). printed u.answer) q.2 ∙ t.2) in
          (p.place_at, p.done, p.there)

      by_start : (o : Option MetaState) → start ≡ o → IsIn (placements o (inner_turns turns)) place → (i : ℕ) × (done : List (ℕ × ℕ)) × At events i (event.Place place done)
      by_start None e among = by_turn among
      by_start (Some state) e among =
          elim among as (λ _. (i : ℕ) × (done : List (ℕ × ℕ)) × At events i (event.Place place done)) [
            | inl same ↦ (0, [], subst (λ p. At events 0 (event.Place p [])) same (told.opened state e).placed)
            | inr later ↦ by_turn later
          ]

  -- the placement and the shard that the turn which made the Place met
  met : (first was next : Placement) (s y : ℕ) (shard after : Shard) (i : ℕ) (done : List (ℕ × ℕ)) → (f : StepFound events first was s shard after i done) → (p : PrintsPeers next (take i events) (told.makers i) s y) → (p.last ≡ f.last) × (p.shard ≡ shard)
  met first was next s y shard after i done f p =
      let place : p.last ≡ f.last = same_Some p.last f.last (sym p.last_is ∙ f.last_is) in
      (place, at_same (f.last).shards s p.shard f.old (subst (λ (x : Placement). At x.shards s p.shard) place p.shard_is) f.old_at ∙ f.same)

  -- what it prints is a majority of the shard
  names_enough : (first was next : Placement) (s y : ℕ) (shard after : Shard) (i : ℕ) (done : List (ℕ × ℕ)) → StepFound events first was s shard after i done → (p : PrintsPeers next (take i events) (told.makers i) s y) → IsMajority was.rf (former shard) p.names
  names_enough first was next s y shard after i done f p =
      let m = met first was next s y shard after i done f p in
      let rf : (p.last).rf ≡ was.rf = ap (λ (x : Placement). x.rf) m.0 ∙ f.rf in
      subst (λ n. IsMajority n (former shard) p.names) rf (subst (λ (x : Shard). IsMajority (p.last).rf (former x) p.names) m.1 p.enough)

  -- the node that turned available is the one whose move it ended
  same_joined : (first was next : Placement) (s y to : ℕ) (t : TurnsAvailable was next s y) (i : ℕ) (done : List (ℕ × ℕ)) → StepFound events first was s t.shard t.after i done → PrintsPeers next (take i events) (told.makers i) s to → to ≡ y
  same_joined first was next s y to t i done f p =
      let m = met first was next s to t.shard t.after i done f p in
      let sound : IsShard first.rf was.version t.shard = subst (IsShard first.rf was.version) f.same f.sound in
      sym p.to_node ∙ ap (λ (a : Assignment). a.node) (one_joins first.rf was.version t.shard sound p.joining t.joining (subst (λ (x : Shard). IsIn x p.joining) m.1 p.joins) p.is_joining t.joins t.is_joining) ∙ t.of_node

  -- the turn that made the Place prints whom the node merged
  by_step : (was next : Placement) (s y : ℕ) (t : TurnsAvailable was next s y) (i : ℕ) (done : List (ℕ × ℕ)) → At events i (event.Place next done) → (first : Placement) → StepFound events first was s t.shard t.after i done
      → (p : TurnPosition) × IsTurnPosition turns p × PrintsFormer events p was next s y t.shard
  by_step was next s y t i done there first f = by_done (done_at s done) refl
    where
      low : (o : Option MetaState) (i : ℕ) → 2 ≤ i → opening_length o ≤ i
      low None i h = omega arith
      low (Some state) i h = h

      by_done : (o : Option ℕ) → done_at s done ≡ o → (p : TurnPosition) × IsTurnPosition turns p × PrintsFormer events p was next s y t.shard
      by_done (Some to) e =
          let above = low start i f.past in
          let p = (told.tells).placements.each_end i next done above f.past there (s, to) (named_in s to done e) in (
            told.makers i,
            ((told.tells).order.made i (event.Place next done) above f.past there tt).0,
            record {
              available = p.available;
              bootstrap = subst (λ n. IsBootstrapInto (told.makers i) next n p.available) (same_joined first was next s y to t i done f p) p.bootstrap;
              names = p.names;
              printed = p.printed;
              upto = i;
              last = p.last;
              last_is = p.last_is;
              by_name = p.by_name;
              enough = names_enough first was next s to t.shard t.after i done f p;
            },
          )
      by_done None e =
          absurd (no_turn first.rf was.version f.old t.after t.joining t.joined f.sound (subst (IsShardStep (suc was.version) f.old t.after) e f.step) (subst (λ (x : Shard). IsIn x t.joining) (sym f.same) t.joins) t.is_joining t.stands (t.to_node ∙ sym t.of_node) t.is_available)

  pub turned : {tells : Bool} → Legal tells events → (was next : Placement) → IsIn (placements start (inner_turns turns)) was → IsIn (placements start (inner_turns turns)) next → (s y : ℕ) → (t : TurnsAvailable was next s y) → (p : TurnPosition) × IsTurnPosition turns p × PrintsFormer events p was next s y t.shard
  turned legal was next among_was among_next s y t =
      let k = placed was among_was in
      let i = placed next among_next in
      let first = first_event events legal k.0 (event.Place was k.1) k.2 in
      by_step was next s y t i.0 i.1 i.2 first.place (step_found events legal first.place first.there was next k.0 i.0 k.1 i.1 k.2 i.2 t.follows s t.shard t.after t.shard_is t.after_is)

-- where a legal list tells of a run each node that turned available was joined so
pub told_joined : {tells : Bool} → IsJoinedWhereTold tells
told_joined life events legal told was next among_was among_next s y t = turned (life.present).start (life.present).turns events told legal was next among_was among_next s y t
