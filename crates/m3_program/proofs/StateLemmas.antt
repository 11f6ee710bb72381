-- The state of a cluster is the one that the turns left, and goes on with each line.
use Rattle.std.proofs.Common.{◌≡◌, ℕ, List, [], ◌∷◌, ◌++◌, refl, sym, ap, subst, ◌∙◌, inl, inr, false}
use Rattle.std.specs.Prelude.{Option, Some, None, option_map}
use Rattle.std.proofs.lemmas.Grind.{fold-append}
use Rattle.std.proofs.lemmas.List.Concat.{flat_map-append}
use Rattle.m3_model.specs.declared.act.Act.{Act}
use Rattle.m3_model.specs.declared.act.Act.TheVariants as act
use Rattle.m3_model.specs.declared.answer.Answer.{Answer}
use Rattle.m3_model.specs.declared.answer.Answer.TheVariants as answer
use Rattle.m3_model.specs.declared.rules.MetaState.{MetaState}
use Rattle.m3_model.specs.declared.rules.Rules.{Rules}
use Rattle.m3_model.specs.declared.turn.Turn.{Turn}
use Rattle.m3_outside.specs.Depots.{Depot}
use Rattle.m3_outside.specs.DiskState.{DiskState}
use Rattle.m3_outside.specs.declared.disk.Disk.{Ghosts}
use Rattle.transcripts.specs.Placements.{later_placement, placement_after, printed, seed_after, seed_by, start_placement}
use Rattle.transcripts.specs.Record.{inner_turns, joined, line_of, lists_of}
use Rattle.transcripts.specs.Rules.{rules_after, rules_by, start_rules}
use Rattle.saved_cluster.specs.cluster_members.Steps.{IsMoved, IsSpaceAdded}
use Rattle.saved_cluster.specs.cluster_members.declared.members.Members.{Members}
use Rattle.saved_cluster.specs.cluster_placements.Steps.{IsChanged}
use Rattle.saved_cluster.specs.line_tracks.cluster_joins.Boots.{IsBooted}
use Rattle.saved_cluster.specs.line_tracks.Acts.{IsInitAnswer, IsServedBy, IsStepAnswer, OnMembers}
use Rattle.saved_cluster.specs.served_cluster.Acts.{Serves}
use Rattle.saved_cluster.specs.served_cluster.Owned.{place_of}
use Rattle.saved_cluster.specs.served_cluster.Plans.{state_of}
use Rattle.saved_cluster.specs.served_cluster.declared.cluster.Cluster.{Cluster}
use Rattle.saved_cluster.specs.States.{saves_by}
use Rattle.saved_cluster.proofs.KeepLemmas.{state_stays}
use Rattle.m3_program.specs.Exchanges.{known_place}
use Rattle.m3_program.specs.Saved.{LeaveState, seed_of}

-- ---- the state of a cluster

-- its placement
pub place_is : {D : Type 0} {G : Ghosts D} (c : Cluster D G) → place_of c ≡ start_placement (state_of c)
place_is {D} {G} c = by c.members
  where
    by : (o : Option (Members D G)) → option_map (λ (m : Members D G). m.net.state.place) o ≡ start_placement (option_map (λ (m : Members D G). m.net.state) o)
    by None = refl
    by (Some m) = refl

-- turns that left its state left its placement
pub place_led : {D : Type 0} {G : Ghosts D} (start : Option MetaState) (turns : List Turn) (c : Cluster D G) → LeaveState start turns (state_of c) → known_place start turns ≡ place_of c
place_led start turns c leave = leave.place ∙ sym (place_is c)

-- before the first turn it is the one that was found
pub leave_nothing : (start : Option MetaState) → LeaveState start [] start
leave_nothing None = record { place = refl; rules = refl; seed = refl }
leave_nothing (Some state) = record { place = refl; rules = refl; seed = refl }

-- ---- what an act leaves

-- the rules and the seed go from those of one state to those of the other
pub record Goes (old : Option MetaState) (a : Act) (b : Answer) (new : Option MetaState) : Type 0 where
  pub rules : rules_by a b (start_rules old) ≡ start_rules new
  pub seed : seed_by a b (seed_of old) ≡ seed_of new

-- the state stays, and the answer sets nothing
stays : (old new : Option MetaState) (a : Act) (b : Answer) → new ≡ old → rules_by a b (start_rules old) ≡ start_rules old → seed_by a b (seed_of old) ≡ seed_of old → Goes old a b new
stays old new a b same rules seed = record { rules = rules ∙ ap start_rules (sym same); seed = seed ∙ ap seed_of (sym same) }

-- an act that isn't saved sets nothing
plain_rules : (a : Act) (b : Answer) (rules : Rules) → saves_by a ≡ false → rules_by a b rules ≡ rules
plain_rules (act.Now now) b rules plain = cc
plain_rules (act.Namespace name block past future retention) b rules plain = cc
plain_rules _ b rules plain = refl

plain_seed : (a : Act) (b : Answer) (seed : ℕ) → saves_by a ≡ false → seed_by a b seed ≡ seed
plain_seed (act.Init rf shards number nodes) b seed plain = cc
plain_seed _ b seed plain = refl

module _ {D : Type 0} {G : Ghosts D} (state : D → DiskState) where
  abbrev state_in : Option (Members D G) → Option MetaState
  state_in o = option_map (λ (m : Members D G). m.net.state) o

  init_goes : (depot : Depot D) (o : Option (Members D G)) (rf shards number : ℕ) (nodes : List (List ℕ × List ℕ)) (b : Answer) (after : Depot D) (n : Option (Members D G)) → IsInitAnswer state depot o rf shards number nodes b after n
      → Goes (state_in o) (act.Init rf shards number nodes) b (state_in n)
  init_goes depot o rf shards number nodes (answer.Placed place version) after n h =
      record { rules = ap (λ x. start_rules (state_in x)) h.0 ∙ sym h.3.rules ∙ ap (λ x. start_rules (state_in x)) (sym h.2); seed = sym h.3.seed_is ∙ ap (λ x. seed_of (state_in x)) (sym h.2) }
  init_goes depot o rf shards number nodes answer.Order after n h = stays (state_in o) (state_in n) (act.Init rf shards number nodes) answer.Order (ap state_in h.1) refl refl
  init_goes depot o rf shards number nodes b after n h = stays (state_in o) (state_in n) (act.Init rf shards number nodes) b (ap state_in (h.1 ∙ sym h.0)) refl refl

  changed_goes : (kept : ℕ) (a : Act) (depot : Depot D) (m : Members D G) (b : Answer) (after : Depot D) (g : Members D G) → ((rules : Rules) → rules_by a b rules ≡ rules) → ((seed : ℕ) → seed_by a b seed ≡ seed)
      → IsChanged state kept a depot m b after g → Goes (Some m.net.state) a b (Some g.net.state)
  changed_goes kept a depot m b after g rules seed (inl next) =
      record { rules = rules m.net.state.rules ∙ ap (λ (s : MetaState). s.rules) (sym next.placed.state_is); seed = seed m.net.state.seed ∙ ap (λ (s : MetaState). s.seed) (sym next.placed.state_is) }
  changed_goes kept a depot m b after g rules seed (inr (inl none)) = stays (Some m.net.state) (Some g.net.state) a b (ap Some none.same.state_is) (rules m.net.state.rules) (seed m.net.state.seed)
  changed_goes kept a depot m b after g rules seed (inr (inr (inl disk))) = stays (Some m.net.state) (Some g.net.state) a b (ap Some disk.same.state_is) (rules m.net.state.rules) (seed m.net.state.seed)
  changed_goes kept a depot m b after g rules seed (inr (inr (inr (inl full)))) = stays (Some m.net.state) (Some g.net.state) a b (ap Some full.same.state_is) (rules m.net.state.rules) (seed m.net.state.seed)
  changed_goes kept a depot m b after g rules seed (inr (inr (inr (inr memory)))) = stays (Some m.net.state) (Some g.net.state) a b (ap Some memory.same.state_is) (rules m.net.state.rules) (seed m.net.state.seed)

  -- from one that is called so to the other
  called : (old : Option MetaState) (a : Act) (b : Answer) (n : Option (Members D G)) (g : Members D G) → n ≡ Some g → Goes old a b (Some g.net.state) → Goes old a b (state_in n)
  called old a b n g is goes = subst (λ (o : Option (Members D G)). Goes old a b (state_in o)) (sym is) goes

  step_goes : (depot : Depot D) (o : Option (Members D G)) (a : Act) (b : Answer) (after : Depot D) (n : Option (Members D G)) → ((rules : Rules) → rules_by a b rules ≡ rules) → ((seed : ℕ) → seed_by a b seed ≡ seed)
      → IsStepAnswer state depot o a b after n → Goes (state_in o) a b (state_in n)
  step_goes depot None a b after n rules seed h = stays None (state_in n) a b (ap state_in h.1) (rules (start_rules None)) (seed 0)
  step_goes depot (Some m) a b after n rules seed h = called (Some m.net.state) a b n h.0 h.1 (changed_goes _ a depot m b after h.0 rules seed h.2)

  -- a namespace
  space_goes : (m g : Members D G) (name : List ℕ) (block past future retention : ℕ) (b : Answer) → IsSpaceAdded state m (record { name = name; block = block; past = past; future = future; retention = retention }) b g
      → Goes (Some m.net.state) (act.Namespace name block past future retention) b (Some g.net.state)
  space_goes m g name block past future retention answer.Done h = record { rules = ap (λ (s : MetaState). s.rules) (sym h.1.state_is); seed = ap (λ (s : MetaState). s.seed) (sym h.1.state_is) }
  space_goes m g name block past future retention answer.Order h = stays _ _ (act.Namespace name block past future retention) answer.Order (ap (λ (x : Members D G). Some x.net.state) h.1) refl refl
  space_goes m g name block past future retention (answer.Limit limit) h = stays _ _ (act.Namespace name block past future retention) (answer.Limit limit) (ap (λ (x : Members D G). Some x.net.state) h.3) refl refl
  space_goes m g name block past future retention answer.Memory h = stays _ _ (act.Namespace name block past future retention) answer.Memory (ap (λ (x : Members D G). Some x.net.state) h.1) refl refl
  space_goes m g name block past future retention answer.Full h = stays _ _ (act.Namespace name block past future retention) answer.Full (ap (λ (x : Members D G). Some x.net.state) h.1.0) refl refl
  space_goes m g name block past future retention _ h = absurd h

  -- a moment
  moment_goes : (m g : Members D G) (now : ℕ) (b : Answer) → IsMoved state m now b g → Goes (Some m.net.state) (act.Now now) b (Some g.net.state)
  moment_goes m g now answer.Done h = record { rules = ap (λ (s : MetaState). s.rules) (sym h.1.state_is); seed = ap (λ (s : MetaState). s.seed) (sym h.1.state_is) }
  moment_goes m g now (answer.Clock moment) h = stays _ _ (act.Now now) (answer.Clock moment) (ap (λ (x : Members D G). Some x.net.state) h.2) refl refl
  moment_goes m g now answer.Memory h = stays _ _ (act.Now now) answer.Memory (ap (λ (x : Members D G). Some x.net.state) h.1) refl refl
  moment_goes m g now answer.Full h = stays _ _ (act.Now now) answer.Full (ap (λ (x : Members D G). Some x.net.state) h.1.0) refl refl
  moment_goes m g now _ h = absurd h

  -- where none stands it is out of order
  none_goes : (a : Act) (b : Answer) (n : Option (Members D G)) → b ≡ answer.Order → n ≡ None → rules_by a answer.Order (start_rules None) ≡ start_rules None → seed_by a answer.Order 0 ≡ 0 → Goes None a b (state_in n)
  none_goes a b n is none rules seed = subst (λ (c : Answer). Goes None a c (state_in n)) (sym is) (stays None (state_in n) a answer.Order (ap state_in none) rules seed)

  space_on : (o n : Option (Members D G)) (name : List ℕ) (block past future retention : ℕ) (b : Answer)
      → OnMembers o (λ m g. IsSpaceAdded state m (record { name = name; block = block; past = past; future = future; retention = retention }) b g) b n → Goes (state_in o) (act.Namespace name block past future retention) b (state_in n)
  space_on None n name block past future retention b h = none_goes (act.Namespace name block past future retention) b n h.0 h.1 refl refl
  space_on (Some m) n name block past future retention b h = called (Some m.net.state) (act.Namespace name block past future retention) b n h.0 h.1 (space_goes m h.0 name block past future retention b h.2)

  moment_on : (o n : Option (Members D G)) (now : ℕ) (b : Answer) → OnMembers o (λ m g. IsMoved state m now b g) b n → Goes (state_in o) (act.Now now) b (state_in n)
  moment_on None n now b h = none_goes (act.Now now) b n h.0 h.1 refl refl
  moment_on (Some m) n now b h = called (Some m.net.state) (act.Now now) b n h.0 h.1 (moment_goes m h.0 now b h.2)

  -- a bootstrap
  boots_goes : (m g : Members D G) (name : List ℕ) (asked : Option ℕ) (b : Answer) → IsBooted state m name asked b g → Goes (Some m.net.state) (act.Bootstrap name asked) b (Some g.net.state)
  boots_goes m g name asked (answer.Available available next version) (is, h) = record { rules = ap (λ (s : MetaState). s.rules) (sym h.state_is); seed = ap (λ (s : MetaState). s.seed) (sym h.state_is) }
  boots_goes m g name asked (answer.Peers got needed reasons shard) (peers, is, h) = stays _ _ (act.Bootstrap name asked) (answer.Peers got needed reasons shard) (ap Some h.keeps.keeps.state) refl refl
  boots_goes m g name asked (answer.Disk node shard) (is, h) = stays _ _ (act.Bootstrap name asked) (answer.Disk node shard) (ap Some h.keeps.keeps.state) refl refl
  boots_goes m g name asked (answer.Corrupt node shard damage) (is, shown, h) = stays _ _ (act.Bootstrap name asked) (answer.Corrupt node shard damage) (ap Some h.keeps.keeps.state) refl refl
  boots_goes m g name asked answer.Memory (inl same) = stays _ _ (act.Bootstrap name asked) answer.Memory (ap (λ (x : Members D G). Some x.net.state) same) refl refl
  boots_goes m g name asked answer.Memory (inr (inl (shard, h))) = stays _ _ (act.Bootstrap name asked) answer.Memory (ap Some h.keeps.keeps.state) refl refl
  boots_goes m g name asked answer.Memory (inr (inr h)) = stays _ _ (act.Bootstrap name asked) answer.Memory (ap Some h.keeps.keeps.state) refl refl
  boots_goes m g name asked answer.Full (lacks, h) = stays _ _ (act.Bootstrap name asked) answer.Full (ap Some h.keeps.keeps.state) refl refl
  boots_goes m g name asked (answer.Limit limit) (is, h) = stays _ _ (act.Bootstrap name asked) (answer.Limit limit) (ap Some h.keeps.keeps.state) refl refl
  boots_goes m g name asked (answer.Unknown unknown) (which, same) = stays _ _ (act.Bootstrap name asked) (answer.Unknown unknown) (ap (λ (x : Members D G). Some x.net.state) same) refl refl
  boots_goes m g name asked (answer.State node) (was, has, is, same) = stays _ _ (act.Bootstrap name asked) (answer.State node) (ap (λ (x : Members D G). Some x.net.state) same) refl refl
  boots_goes m g name asked _ h = absurd h

  boots_on : (o n : Option (Members D G)) (name : List ℕ) (asked : Option ℕ) (b : Answer) → OnMembers o (λ m g. IsBooted state m name asked b g) b n → Goes (state_in o) (act.Bootstrap name asked) b (state_in n)
  boots_on None n name asked b h = none_goes (act.Bootstrap name asked) b n h.0 h.1 refl refl
  boots_on (Some m) n name asked b h = called (Some m.net.state) (act.Bootstrap name asked) b n h.0 h.1 (boots_goes m h.0 name asked b h.2)

  -- any act
  serves_goes : (depot : Depot D) (old : Cluster D G) (a : Act) (b : Answer) (after : Depot D) (new : Cluster D G) → Serves state depot old a b after new → Goes (state_of old) a b (state_of new)
  serves_goes depot old a b after new h = by a refl h.members
    where
      plain : saves_by a ≡ false → Goes (state_of old) a b (state_of new)
      plain none = stays (state_of old) (state_of new) a b (state_stays state depot old a b after new none h) (plain_rules a b (start_rules (state_of old)) none) (plain_seed a b (seed_of (state_of old)) none)

      by : (x : Act) → a ≡ x → IsServedBy state old.calls depot old.members x b after new.members → Goes (state_of old) x b (state_of new)
      by (act.Init rf shards number nodes) is it = init_goes depot old.members rf shards number nodes b after new.members it
      by (act.Add node group) is it = step_goes depot old.members (act.Add node group) b after new.members (λ r. refl) (λ s. refl) it
      by (act.Drain node) is it = step_goes depot old.members (act.Drain node) b after new.members (λ r. refl) (λ s. refl) it
      by (act.Cancel node) is it = step_goes depot old.members (act.Cancel node) b after new.members (λ r. refl) (λ s. refl) it
      by (act.Remove node) is it = step_goes depot old.members (act.Remove node) b after new.members (λ r. refl) (λ s. refl) it
      by (act.Replace node with_ group) is it = step_goes depot old.members (act.Replace node with_ group) b after new.members (λ r. refl) (λ s. refl) it
      by (act.Namespace name block past future retention) is it = space_on old.members new.members name block past future retention b it.0
      by (act.Now now) is it = moment_on old.members new.members now b it.0
      by (act.Bootstrap name asked) is it = boots_on old.members new.members name asked b it.0
      by _ is it = subst (λ (y : Act). Goes (state_of old) y b (state_of new)) is (plain (ap saves_by is))

-- ---- one more line

-- the line leaves the state that stands then
pub leave_on : {D : Type 0} {G : Ghosts D} (state : D → DiskState) (start : Option MetaState) (turns : List Turn) (depot after : Depot D) (old new : Cluster D G) (a : Act) (b : Answer) → Serves state depot old a b after new
    → placement_after (place_of old) (inner_turns (line_of a b ∷ [])) ≡ place_of new → LeaveState start turns (state_of old) → LeaveState start (turns ++ line_of a b ∷ []) (state_of new)
leave_on state start turns depot after old new a b served stands leave =
    let inner = flat_map-append (λ (turn : Turn). joined (lists_of turn)) turns (line_of a b ∷ []) in
    let goes = serves_goes state depot old a b after new served in
    record {
      place = ap (placement_after (start_placement start)) inner ∙ fold-append (λ p turn. later_placement (printed turn.answer) p) (start_placement start) (inner_turns turns) (inner_turns (line_of a b ∷ []))
          ∙ ap (λ p. placement_after p (inner_turns (line_of a b ∷ []))) (leave.place ∙ sym (place_is old)) ∙ stands ∙ place_is new;
      rules = ap (rules_after (start_rules start)) inner ∙ fold-append (λ r turn. rules_by turn.act turn.answer r) (start_rules start) (inner_turns turns) (inner_turns (line_of a b ∷ [])) ∙ ap (rules_by a b) leave.rules ∙ goes.rules;
      seed = ap (seed_after start) inner ∙ fold-append (λ seed turn. seed_by turn.act turn.answer seed) (seed_after start []) (inner_turns turns) (inner_turns (line_of a b ∷ [])) ∙ ap (seed_by a b) leave.seed ∙ goes.seed;
    }
