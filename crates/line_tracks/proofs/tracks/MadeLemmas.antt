-- The step of a line that may lead to another state: what came to the list before it is what an open request may have made, and what comes with it and behind it changes no replica's content.
use Rattle.std.proofs.Common.{◌≡◌, ℕ, List, [], ◌∷◌, ◌++◌, append-nil, append_assoc, sym, ap, subst, ◌∙◌, inl, inr, true, false}
use Rattle.std.specs.Prelude.{Option, Some, None}
use Rattle.std.specs.Option.{option_map_or}
use Rattle.std.proofs.lemmas.Option.{same_Some}
use Rattle.m3_model.proofs.Lists.{IsIn-flat_map}
use Rattle.m3_model.specs.Members.{IsIn}
use Rattle.m3_model.specs.declared.act.Act.{Act}
use Rattle.m3_model.specs.declared.act.Act.TheVariants as act
use Rattle.m3_model.specs.declared.answer.Answer.{Answer}
use Rattle.m3_model.specs.declared.answer.Answer.TheVariants as answer
use Rattle.m3_model.specs.declared.placement.Placement.{Placement}
use Rattle.m3_model.specs.declared.rules.Rules.{Rules}
use Rattle.m3_model.specs.declared.rules.Space.{Space}
use Rattle.m3_model.specs.declared.turn.Request.{Request}
use Rattle.m3_model.specs.declared.turn.Request.TheVariants as request
use Rattle.m3_outside.specs.Depots.{Depot}
use Rattle.m3_outside.specs.DiskState.{DiskState}
use Rattle.m3_outside.specs.declared.disk.Disk.{Ghosts}
use Rattle.cluster_core.specs.declared.event.Event.{Event}
use Rattle.cluster_core.specs.declared.event.Event.TheVariants as event
use Rattle.cluster_core.specs.declared.event.StepCall.TheVariants as call
use Rattle.cluster_core.specs.declared.event.StepReply.TheVariants as reply
use Rattle.peer_streams.specs.Joins.{Join, Opened}
use Rattle.peer_streams.specs.Streams.{replied}
use Rattle.told_joins.specs.Lines.{added_by, joined_of, marks, source_ends}
use Rattle.told_joins.proofs.AskLemmas.{MayHappen, all_happen, held_each, missed_each, part_each, unmarked_each}
use Rattle.life_ends.specs.Runs.{ChangesNoContent}
use Rattle.told_by.specs.Leaves.{MayBeOpen}
use Rattle.node_calls.specs.cluster_members.Steps.{IsMoved, IsSpaceAdded, SetsRules, at_moment, clock_events, with_space}
use Rattle.node_calls.specs.cluster_members.declared.members.Members.{Members}
use Rattle.node_calls.specs.replica_exchange.declared.slot.Slot.{Slot}
use Rattle.cluster_placements.specs.Slots.{left_slots}
use Rattle.cluster_placements.specs.Steps.{IsChanged, end_at, kept_in, step_events}
use Rattle.cluster_joins.specs.Boots.{IsBooted, IsEndedBy, IsOpenedUp}
use Rattle.line_tracks.specs.tracks.Acts.{Does, IsInitAnswer, IsServedBy, IsStepAnswer, OnMembers, next_call}
use Rattle.line_tracks.specs.tracks.Leaves.{MadeStep, StepsAreMade, may_step}

-- ---- events

-- an Ask for a step, and the end of a tenure
ended_quiet : (n s : ℕ) (e : Event) → IsIn (replied n s call.End reply.Done) e → ChangesNoContent e
ended_quiet n s e (inl is) = subst ChangesNoContent is tt
ended_quiet n s e (inr (inl is)) = subst ChangesNoContent is tt
ended_quiet n s e (inr (inr none)) = absurd none

step_quiet : (next : Placement) (left : List Slot) (e : Event) → IsIn (step_events next left) e → ChangesNoContent e
step_quiet next left e (inl is) = subst ChangesNoContent is tt
step_quiet next left e (inr (inl is)) = subst ChangesNoContent is tt
step_quiet next left e (inr (inr rest)) = let s = IsIn-flat_map end_at left e rest in ended_quiet (s.0).node (s.0).shard e s.2

clock_quiet : (rules : Rules) (e : Event) → IsIn (clock_events rules) e → ChangesNoContent e
clock_quiet rules e (inl is) = subst ChangesNoContent is tt
clock_quiet rules e (inr (inl is)) = subst ChangesNoContent is tt
clock_quiet rules e (inr (inr none)) = absurd none

source_quiet : (o : Opened) (e : Event) → IsIn (source_ends o) e → ChangesNoContent e
source_quiet o e i = by o.joined i
  where
    by : (j : Option Join) → IsIn (option_map_or (λ (k : Join). replied k.source o.shard call.End reply.Done) j []) e → ChangesNoContent e
    by None none = absurd none
    by (Some k) there = ended_quiet k.source o.shard e there

marks_quiet : (y : ℕ) (opened : List Opened) (available : List (ℕ × List ℕ)) (next : Placement) (e : Event) → IsIn (marks y opened available next) e → ChangesNoContent e
marks_quiet y opened [] next e none = absurd none
marks_quiet y opened (x ∷ available) next e (inl is) = subst ChangesNoContent is tt
marks_quiet y opened (x ∷ available) next e (inr (inl is)) = subst ChangesNoContent is tt
marks_quiet y opened (x ∷ available) next e (inr (inr rest)) = let o = IsIn-flat_map source_ends opened e rest in source_quiet o.0 e o.2

happens_open : (place : Placement) (y : ℕ) (only : Option ℕ) (asked : Option Request) (rules : Rules) (e : Event) → MayHappen place y only e → MayBeOpen asked rules e
happens_open place y only asked rules (event.Ask what) h = tt
happens_open place y only asked rules (event.Step n s c a) h = tt
happens_open place y only asked rules _ h = absurd h

-- ---- lines

module _ {D : Type 0} {G : Ghosts D} (state : D → DiskState) (old new : Members D G) (asked : Request) where
  abbrev events : List Event
  events = old.net.replicas.events

  all_quiet : (later : List Event) → new.net.replicas.events ≡ events ++ later → ((e : Event) → IsIn later e → ChangesNoContent e) → MadeStep asked old new
  all_quiet later grew quiet = record { more = []; later = later; grew = grew ∙ ap (λ es. es ++ later) (sym (append-nil events)); open_ = λ e i. absurd i; quiet = quiet }

  nothing : new.net.replicas ≡ old.net.replicas → MadeStep asked old new
  nothing same = all_quiet [] (ap (λ t. t.events) same ∙ sym (append-nil events)) (λ e i. absurd i)

  unchanged : new ≡ old → MadeStep asked old new
  unchanged same = nothing (ap (λ (m : Members D G). m.net.replicas) same)

  sets : (rules : Rules) → SetsRules state rules old new → MadeStep asked old new
  sets rules h = all_quiet (clock_events rules) h.ran.grew (clock_quiet rules)

  space_made : (space : Space) (b : Answer) → IsSpaceAdded state old space b new → MadeStep asked old new
  space_made space answer.Done h = sets (with_space space old.net.state.rules) h.1
  space_made space answer.Order h = unchanged h.1
  space_made space (answer.Limit limit) h = unchanged h.3
  space_made space answer.Memory h = unchanged h.1
  space_made space answer.Full h = unchanged h.1.0
  space_made space _ h = absurd h

  moved_made : (now : ℕ) (b : Answer) → IsMoved state old now b new → MadeStep asked old new
  moved_made now answer.Done h = sets (at_moment now old.net.state.rules) h.1
  moved_made now (answer.Clock moment) h = unchanged h.2
  moved_made now answer.Memory h = unchanged h.1
  moved_made now answer.Full h = unchanged h.1.0
  moved_made now _ h = absurd h

  changed_made : (a : Act) (depot after : Depot D) (b : Answer) → IsChanged state (kept_in old) a depot old b after new → MadeStep asked old new
  changed_made a depot after b (inl made) = all_quiet (step_events made.next (left_slots old.net.state.place made.next)) made.placed.ran.grew (step_quiet made.next (left_slots old.net.state.place made.next))
  changed_made a depot after b (inr (inl none)) = nothing none.same.replicas
  changed_made a depot after b (inr (inr (inl disk))) = nothing disk.same.replicas
  changed_made a depot after b (inr (inr (inr (inl room)))) = nothing room.same.replicas
  changed_made a depot after b (inr (inr (inr (inr memory)))) = nothing memory.same.replicas

  -- a bootstrap came to no placement
  ended_made : (name : List ℕ) (only : Option ℕ) (Adds : Placement → ℕ → Option ℕ → List Event → Type 0) → ((place : Placement) (y : ℕ) (more : List Event) → Adds place y only more → (e : Event) → IsIn more e → MayHappen place y only e) → IsEndedBy state old name only Adds new → MadeStep asked old new
  ended_made name only Adds each h = record {
    more = h.more;
    later = [];
    grew = h.ran.grew ∙ sym (append-nil (events ++ h.more));
    open_ = λ e i. happens_open old.net.state.place h.may.runs.node only (Some asked) old.net.state.rules e (each old.net.state.place h.may.runs.node h.more h.adds e i);
    quiet = λ e i. absurd i;
  }

  opened_made : (name : List ℕ) (only : Option ℕ) (available : List (ℕ × List ℕ)) (next : Placement) → IsOpenedUp state old name only available next new → MadeStep asked old new
  opened_made name only available next h =
      let y = h.may.runs.node in
      let last = marks y h.opened (joined_of h.opened) next in
      record {
        more = added_by h.opened;
        later = last;
        grew = h.ran.grew ∙ ap (λ es. events ++ es) h.adds.adds ∙ sym (append_assoc events (added_by h.opened) last);
        open_ = λ e i. happens_open old.net.state.place y only (Some asked) old.net.state.rules e (all_happen old.net.state.place y only h.opened [] h.adds.all e i);
        quiet = λ e i. marks_quiet y h.opened (joined_of h.opened) next e i;
      }

  booted_made : (name : List ℕ) (only : Option ℕ) (b : Answer) → IsBooted state old name only b new → MadeStep asked old new
  booted_made name only (answer.Available available place version) h = opened_made name only available place h.1
  booted_made name only (answer.Peers got needed reasons shard) h = ended_made name only _ (λ place y more adds e i. missed_each place y only shard h.0 more adds e i) h.2
  booted_made name only (answer.Disk node shard) h = ended_made name only _ (λ place y more adds e i. held_each place y only shard _ more adds e i) h.1
  booted_made name only (answer.Corrupt node shard damage) h = ended_made name only _ (λ place y more adds e i. held_each place y only shard _ more adds e i) h.2
  booted_made name only answer.Memory (inl same) = unchanged same
  booted_made name only answer.Memory (inr (inl held)) = ended_made name only _ (λ place y more adds e i. held_each place y only held.0 _ more adds e i) held.1
  booted_made name only answer.Memory (inr (inr part)) = ended_made name only _ (λ place y more adds e i. part_each place y only more adds e i) part
  booted_made name only answer.Full h = ended_made name only _ (λ place y more adds e i. part_each place y only more adds e i) h.1
  booted_made name only (answer.Limit limit) h = ended_made name only _ (λ place y more adds e i. unmarked_each place y only (kept_in old) more adds e i) h.1
  booted_made name only (answer.Unknown unknown) h = unchanged h.1
  booted_made name only (answer.State node) h = unchanged h.3
  booted_made name only _ h = absurd h

  init_made : (rf shards seed : ℕ) (nodes : List (List ℕ × List ℕ)) (depot after : Depot D) (b : Answer) → IsInitAnswer state depot (Some old) rf shards seed nodes b after (Some new) → MadeStep asked old new
  init_made rf shards seed nodes depot after b h = by b h
    where
      none_stood : Some old ≡ None → ⊥
      none_stood none = cc

      by : (x : Answer) → IsInitAnswer state depot (Some old) rf shards seed nodes x after (Some new) → MadeStep asked old new
      by (answer.Placed place version) it = absurd (none_stood it.0)
      by answer.Order it = unchanged (same_Some new old it.1)
      by _ it = absurd (none_stood it.0)

module _ {D : Type 0} {G : Ghosts D} (state : D → DiskState) (old new : Members D G) where
  -- the cluster that stands afterwards is this one
  on_new : (asked : Request) (Step : Members D G → Members D G → Type 0) (b : Answer) → ((g : Members D G) → Step old g → MadeStep asked old g) → OnMembers (Some old) Step b (Some new) → MadeStep asked old new
  on_new asked Step b made h = subst (MadeStep asked old) (sym (same_Some new h.0 h.1)) (made h.0 h.2)

  on_step : (asked : Request) (a : Act) (depot after : Depot D) (b : Answer) → IsStepAnswer state depot (Some old) a b after (Some new) → MadeStep asked old new
  on_step asked a depot after b h = subst (MadeStep asked old) (sym (same_Some new h.0 h.1)) (changed_made state old h.0 asked a depot after b h.2)

  pub steps_are_made : StepsAreMade state old new
  steps_are_made calls depot after a b may served = by a may served
    where
      by : (x : Act) → may_step x ≡ true → IsServedBy state calls depot (Some old) x b after (Some new) → MadeStep (request.One x) old new
      by (act.Init rf shards seed nodes) may it = init_made state old new (request.One (act.Init rf shards seed nodes)) rf shards seed nodes depot after b it
      by (act.Namespace name block past future retention) may it = on_new (request.One (act.Namespace name block past future retention)) (λ m g. Does state (next_call calls) m (act.Namespace name block past future retention) b g) b (λ g did. space_made state old g (request.One (act.Namespace name block past future retention)) _ b did) it.0
      by (act.Now now) may it = on_new (request.One (act.Now now)) (λ m g. Does state (next_call calls) m (act.Now now) b g) b (λ g did. moved_made state old g (request.One (act.Now now)) now b did) it.0
      by (act.Bootstrap node shard) may it = on_new (request.One (act.Bootstrap node shard)) (λ m g. Does state (next_call calls) m (act.Bootstrap node shard) b g) b (λ g did. booted_made state old g (request.One (act.Bootstrap node shard)) node shard b did) it.0
      by (act.Add node group) may it = on_step (request.One (act.Add node group)) (act.Add node group) depot after b it
      by (act.Drain node) may it = on_step (request.One (act.Drain node)) (act.Drain node) depot after b it
      by (act.Cancel node) may it = on_step (request.One (act.Cancel node)) (act.Cancel node) depot after b it
      by (act.Remove node) may it = on_step (request.One (act.Remove node)) (act.Remove node) depot after b it
      by (act.Replace node with_ group) may it = on_step (request.One (act.Replace node with_ group)) (act.Replace node with_ group) depot after b it
      by _ may it = (let clash : false ≡ true = may in cc)
