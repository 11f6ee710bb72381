-- A cluster that stands is one from which a line may make a placement, and it stands after it.
use Rattle.std.proofs.Common.{◌≡◌, ◌<◌, ◌∙◌, ℕ, List, [], ◌∷◌, ◌++◌, length, sym, ap, subst, inl, inr, true}
use Rattle.std.specs.Prelude.{Option, Some, None, slice_get}
use Rattle.std.specs.FinMap.{get}
use Rattle.m3_model.specs.Members.{IsIn}
use Rattle.m3_model.specs.declared.act.Act.{Act}
use Rattle.m3_model.specs.declared.answer.Answer.{Answer}
use Rattle.m3_model.specs.declared.answer.Answer.TheVariants as answer
use Rattle.m3_model.specs.declared.placement.Instance.{Instance}
use Rattle.m3_model.specs.declared.rules.MetaState.{MetaState}
use Rattle.m3_model.specs.declared.turn.Turn.{Turn}
use Rattle.m3_outside.specs.Depots.{Depot}
use Rattle.m3_outside.specs.DiskState.{DiskState}
use Rattle.m3_outside.specs.declared.disk.Disk.{Ghosts}
use Rattle.told_runs.specs.placement_acts.Acts.{is_step_act}
use Rattle.cluster_core.specs.Earlier.{HasTenure}
use Rattle.cluster_core.specs.declared.event.Event.TheVariants as event
use Rattle.node_calls.specs.replica_exchange.declared.slot.Slot.{Slot}
use Rattle.node_calls.specs.replica_calls.Calls.{Tracked}
use Rattle.node_calls.specs.session_net.Ready.{IsCallable, IsReady}
use Rattle.node_calls.specs.session_net.Runs.{slot_at}
use Rattle.told_runs.specs.told_by.Hears.{HasReplica, IsNamedBy}
use Rattle.told_runs.specs.told_by.Steps.{IsUnmoved}
use Rattle.told_runs.specs.told_by.Told.{ToldBy}
use Rattle.told_runs.proofs.told_by_proofs.JoinedLemmas.{placed}
use Rattle.told_runs.proofs.StepLemmas.{nowhere_unmoved}
use Rattle.transcripts.specs.Placements.{HadReplica}
use Rattle.transcripts.specs.Record.{inner_turns, line_of}
use Rattle.line_tracks.specs.calls.Left.{AreSlots, AreStoppedBy, FareAsSet, HoldsBack}
use Rattle.told_joins.proofs.FrontLemmas.{some_events}
use Rattle.node_calls.specs.cluster_members.Kept.{IsKept}
use Rattle.node_calls.specs.cluster_members.declared.members.Members.{Members}
use Rattle.line_tracks.specs.acts.Quiet.{DeliversNone, SetsNone}
use Rattle.line_tracks.specs.acts.Stands.{AreKept, ClusterStands, KnowsNodes}
use Rattle.line_tracks.proofs.acts.StandLemmas.{stands_unchanged}
use Rattle.cluster_placements.specs.Steps.{IsAsItWas, IsChanged, MakesNext, MayChange}
use Rattle.line_tracks.specs.placements.Stands.{ChangesStand, ComesNext}
use Rattle.line_tracks.proofs.placements.MadeLemmas.{given_by, next_stands}

-- ---- what a line needs

module _ {D : Type 0} {G : Ghosts D} (start : Option MetaState) (turns : List Turn) (m : Members D G) (told : ToldBy start turns m.net.replicas.events) (stands : ClusterStands start turns m) where
  pub had_none : (s : Slot) → get m.net.replicas.members s ≡ None → ¬ HadReplica start (inner_turns turns) s.shard s.node
  had_none s none had =
      let p = placed start turns m.net.replicas.events told had.place had.known in
      let has = given_by m.net.replicas.events had.place p.0 p.1 s.node s.shard p.2 had.member in
      stands.slots.are.there s (stands.slots.all s.node s.shard (inl has)) none

pub comes_next : {D : Type 0} {G : Ghosts D} (m : Members D G) → ComesNext m
comes_next m start turns told stands = record {
  opened = some_events m.net.replicas.events m.net.state.place stands.ready.place;
  left = stands.left.place;
  lawful = stands.ready.lawful;
  kept_is = sym stands.kept.count;
  had_none = had_none start turns m told stands;
}

-- ---- a line that makes none

sets_none : (b : Answer) → IsUnmoved b → SetsNone b
sets_none answer.Order h = tt
sets_none (answer.Unknown name) h = tt
sets_none (answer.Limit limit) h = tt
sets_none (answer.Busy name shard) h = tt
sets_none (answer.Group shard) h = tt
sets_none (answer.Disk name shard) h = tt
sets_none answer.Memory h = tt
sets_none answer.Full h = tt
sets_none _ h = absurd h

delivers_none : (b : Answer) → IsUnmoved b → DeliversNone b
delivers_none answer.Order h = tt
delivers_none (answer.Unknown name) h = tt
delivers_none (answer.Limit limit) h = tt
delivers_none (answer.Busy name shard) h = tt
delivers_none (answer.Group shard) h = tt
delivers_none (answer.Disk name shard) h = tt
delivers_none answer.Memory h = tt
delivers_none answer.Full h = tt
delivers_none _ h = absurd h

-- a cluster that is as it was stands as it did
same_stands : {D : Type 0} {G : Ghosts D} (start : Option MetaState) (turns : List Turn) (old new : Members D G) → IsAsItWas old new → ClusterStands start turns old → ClusterStands start turns new
same_stands {D} start turns old new same stands =
    let state_is = sym same.state_is in
    let replicas = sym same.replicas in
    record {
      left = record {
        rules = stands.left.rules ∙ ap (λ (state : MetaState). state.rules) state_is;
        place = stands.left.place ∙ ap (λ (state : MetaState). Some state.place) state_is;
        seed = stands.left.seed ∙ ap (λ (state : MetaState). state.seed) state_is;
        fates = subst (λ (state : MetaState). FareAsSet turns state.place new.net.fates) state_is (subst (λ fates. FareAsSet turns old.net.state.place fates) (sym same.fates) stands.left.fates);
        late = subst (λ bag. HoldsBack start turns bag) (sym same.bag) stands.left.late;
      };
      kept = subst (λ (state : MetaState). AreKept start turns state.place new.past.items) state_is (subst (λ xs. AreKept start turns old.net.state.place xs) (sym same.past) stands.kept);
      serves = λ p i. subst (λ (state : MetaState). IsCallable (record state { place = p }) new.net.replicas new.net.bag) state_is (subst (λ (t : Tracked D). IsCallable (record old.net.state { place = p }) t new.net.bag) replicas
          (subst (λ bag. IsCallable (record old.net.state { place = p }) old.net.replicas bag) (sym same.bag) (stands.serves p (subst (λ xs. IsIn xs p) same.past i))));
      placed = λ p done i. subst (λ (state : MetaState). IsKept state.place new.past.items p) state_is (subst (λ xs. IsKept old.net.state.place xs p) (sym same.past) (stands.placed p done (subst (λ (t : Tracked D). IsIn t.events (event.Place p done)) same.replicas i)));
      known = subst (λ (state : MetaState). KnowsNodes turns state.place new.net.fates) state_is (subst (KnowsNodes turns old.net.state.place) (sym same.fates) stands.known);
      ready = subst (λ (state : MetaState). IsReady state new.net.replicas new.net.bag) state_is (subst (λ (t : Tracked D). IsReady old.net.state t new.net.bag) replicas (subst (λ bag. IsReady old.net.state old.net.replicas bag) (sym same.bag) stands.ready));
      slots = record {
        are = subst (λ slots. AreSlots slots new.net.replicas) (sym same.slots) (subst (λ (t : Tracked D). AreSlots old.slots.items t) replicas stands.slots.are);
        given = λ s i. let given = stands.slots.given s (was_in s i) in (given.0, subst (λ (t : Tracked D). HasTenure t.events s.node s.shard given.0) replicas given.1);
        all = λ n s has. subst (λ slots. IsIn slots (slot_at n s)) (sym same.slots) (stands.slots.all n s (subst (λ (t : Tracked D). HasReplica t.events n s) same.replicas has));
        placed = λ s i. subst (λ (state : MetaState). s.node < length state.place.instances) state_is (stands.slots.placed s (was_in s i));
      };
      named = subst (λ (state : MetaState). (n : ℕ) (own : Instance) → slice_get state.place.instances n ≡ Some own → IsNamedBy new.net.replicas.events n own.name) state_is
          (subst (λ (t : Tracked D). (n : ℕ) (own : Instance) → slice_get old.net.state.place.instances n ≡ Some own → IsNamedBy t.events n own.name) replicas stands.named);
      stopped = subst (λ (state : MetaState). AreStoppedBy turns state.place new.stopped.items) state_is (subst (λ flags. AreStoppedBy turns old.net.state.place flags) (sym same.stopped) stands.stopped);
    }
  where
    was_in : (s : Slot) → IsIn new.slots.items s → IsIn old.slots.items s
    was_in s i = subst (λ slots. IsIn slots s) same.slots i

module _ {D : Type 0} {G : Ghosts D} (state : D → DiskState) (old : Members D G) (start : Option MetaState) (turns : List Turn) (kept : ℕ) (a : Act) (depot : Depot D) (answered : Answer) (after : Depot D) (new : Members D G) (stands : ClusterStands start turns old) (step : is_step_act a ≡ true) (may : MayChange new after.held) where
  abbrev Stands : Type 0
  Stands = ClusterStands start (turns ++ line_of a answered ∷ []) new

  unmoved_stands : IsAsItWas old new → IsUnmoved answered → Stands
  unmoved_stands same unmoved = same_stands start (turns ++ line_of a answered ∷ []) old new same (stands_unchanged old start turns a answered stands (sets_none answered unmoved) (delivers_none answered unmoved))

  made_stands : MakesNext state kept a depot old answered after new → Stands
  made_stands h =
      subst (λ b. ClusterStands start (turns ++ line_of a b ∷ []) new) (sym h.answer_is) (next_stands state old new start turns stands a step h.next kept h.leads depot after h.placed may)

  stands_changed : IsChanged state kept a depot old answered after new → Stands
  stands_changed (inl made) = made_stands made
  stands_changed (inr (inl none)) = unmoved_stands none.same (nowhere_unmoved old.net.state.place kept a answered step none.nowhere)
  stands_changed (inr (inr (inl disk))) = unmoved_stands disk.same (subst IsUnmoved (sym disk.answer_is) tt)
  stands_changed (inr (inr (inr (inl room)))) = unmoved_stands room.same (subst IsUnmoved (sym room.answer_is) tt)
  stands_changed (inr (inr (inr (inr memory)))) = unmoved_stands memory.same (subst IsUnmoved (sym memory.answer_is) tt)

pub changes_stand : {D : Type 0} {G : Ghosts D} (state : D → DiskState) (old : Members D G) → ChangesStand state old
changes_stand state old start turns kept a depot answered after new stands step may changed = stands_changed state old start turns kept a depot answered after new stands step may changed
