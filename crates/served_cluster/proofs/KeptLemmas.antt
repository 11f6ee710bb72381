-- A cluster is ready: when it begins, and also after an act.
use Rattle.std.proofs.Common.{◌≡◌, ◌<◌, ◌≤◌, arith, ℕ, List, ◌++◌, refl, sym, ap, subst, ◌∙◌, true, false}
use Rattle.std.specs.Prelude.{Option, Some}
use Rattle.std.specs.List.{Any}
use Rattle.m3_model.specs.Calls.{is_call}
use Rattle.m3_model.specs.Members.{IsIn}
use Rattle.m3_model.specs.declared.act.Act.{Act}
use Rattle.m3_model.specs.declared.act.Act.TheVariants as act
use Rattle.m3_model.specs.declared.act.Fate.{Fate}
use Rattle.m3_model.specs.declared.answer.Answer.{Answer}
use Rattle.m3_model.specs.declared.answer.Answer.TheVariants as answer
use Rattle.m3_model.specs.declared.placement.Placement.{Placement}
use Rattle.m3_model.specs.declared.rules.MetaState.{MetaState}
use Rattle.m3_outside.specs.Depots.{Depot}
use Rattle.m3_outside.specs.DiskState.{DiskState}
use Rattle.m3_outside.specs.Slots.{Held}
use Rattle.m3_outside.specs.declared.slot.DiskSlot.{DiskSlot}
use Rattle.m3_outside.specs.declared.disk.Disk.{Ghosts}
use Rattle.cluster_core.proofs.ExtendLemmas.{any_more}
use Rattle.line_tracks.specs.replica_exchange.declared.call_id.CallId.{CallId}
use Rattle.line_tracks.specs.replica_calls.Calls.{Tracked}
use Rattle.line_tracks.specs.session_net.Ready.{IsReady, Places}
use Rattle.line_tracks.specs.session_net.Runs.{slot_at, steps_of}
use Rattle.line_tracks.specs.cluster_members.Kept.{PastServes}
use Rattle.line_tracks.specs.cluster_members.declared.members.Members.{Members}
use Rattle.line_tracks.specs.node_calls.Halts.{AreManned}
use Rattle.line_tracks.specs.node_calls.Nodes.{IsFated, KeepsButFates}
use Rattle.line_tracks.specs.first_cluster.Depots.{OwnedBy}
use Rattle.line_tracks.specs.first_cluster.First.{IsFirst}
use Rattle.line_tracks.specs.first_cluster.Slots.{AreApart}
use Rattle.line_tracks.proofs.first_cluster_proofs.PlacedSlots.{node_low, shard_low, no_meta}
use Rattle.line_tracks.proofs.first_cluster_proofs.SlotLists.{slots_apart}
use Rattle.line_tracks.specs.cluster_placements.Slots.{AreSlotsIn}
use Rattle.line_tracks.specs.cluster_placements.Steps.{MayChange}
use Rattle.line_tracks.specs.tracks.Acts.{Does}
use Rattle.line_tracks.specs.tracks.Slots.{KeepsSlots, is_bootstrap}
use Rattle.line_tracks.proofs.tracks.FailureLemmas.{steps_append}
use Rattle.line_tracks.proofs.tracks.FirstLemmas.{first_unstepped}
use Rattle.line_tracks.proofs.tracks.SlotLemmas.{acts_keep_slots}
use Rattle.served_cluster.specs.Owned.{AreReady, HasItsSlots, MayServeCluster, StillServes}
use Rattle.served_cluster.specs.declared.cluster.Cluster.{Cluster}

-- ---- after an act

past_kept : {D : Type 0} {G : Ghosts D} (m g : Members D G) → KeepsSlots m g → PastServes m → IsReady g.net.state g.net.replicas g.net.bag → PastServes g
past_kept m g keeps serves ready place i =
    let was = serves place (subst (λ xs. IsIn xs place) keeps.past i) in
    record {
      clock = ready.clock;
      place = subst (λ es. Any (Places place) es) (sym keeps.came.1) (any_more (Places place) m.net.replicas.events keeps.came.0 was.place);
      lawful = was.lawful;
      there = λ n s h gone. was.there n s h ((keeps.same (slot_at n s)).0 gone);
      late = ready.late;
    }

slots_kept : {D : Type 0} {G : Ghosts D} (m g : Members D G) → KeepsSlots m g → HasItsSlots m → HasItsSlots g
slots_kept m g keeps has = record {
  slots = subst (λ (p : Placement). AreSlotsIn p g.slots.items) (sym keeps.place) (subst (AreSlotsIn m.net.state.place) (sym keeps.slots) has.slots);
  unstepped = λ s none.
      let was = (keeps.same s).0 none in
      ap (steps_of s) keeps.came.1 ∙ steps_append s m.net.replicas.events keeps.came.0 ∙ ap (λ xs. xs ++ steps_of s keeps.came.0) (has.unstepped s was) ∙ keeps.only s was;
}

manned_kept : {D : Type 0} {G : Ghosts D} (m g : Members D G) → KeepsSlots m g → AreManned m.slots.items m.net.replicas → AreManned g.slots.items g.net.replicas
manned_kept m g keeps manned s i none = manned s (subst (λ xs. IsIn xs s) keeps.slots i) ((keeps.same s).0 none)

-- so it is after each act that makes no placement, other than a bootstrap
pub ready_on : {D : Type 0} {G : Ghosts D} (state : D → DiskState) (m g : Members D G) (id : CallId) (a : Act) (b : Answer) → is_bootstrap a ≡ false → Does state id m a b g → AreReady (Some m) → IsReady g.net.state g.net.replicas g.net.bag → AreReady (Some g)
ready_on state m g id a b other does was ready =
    let keeps = acts_keep_slots state m id a b g other does in
    ((ready, manned_kept m g keeps was.0.1), past_kept m g keeps was.1 ready, slots_kept m g keeps was.2)

-- no call of a client is one
pub call_boots_none : (a : Act) → is_call a ≡ true → is_bootstrap a ≡ false
call_boots_none (act.Bootstrap node shard) call = cc
call_boots_none _ call = refl

-- where fates alone changed, calls may be made as before
fated_net : {D : Type 0} {G : Ghosts D} (m g : Members D G) → KeepsButFates m g → IsReady m.net.state m.net.replicas m.net.bag → IsReady g.net.state g.net.replicas g.net.bag
fated_net {D} m g keeps was =
    subst (λ (s : MetaState). IsReady s g.net.replicas g.net.bag) (sym keeps.state) (subst (λ (t : Tracked D). IsReady m.net.state t g.net.bag) (sym keeps.replicas) (subst (IsReady m.net.state m.net.replicas) (sym keeps.bag) was))

pub fated_ready : {D : Type 0} {G : Ghosts D} (state : D → DiskState) (m g : Members D G) (id : CallId) (list : List (ℕ × ℕ × List ℕ × Fate)) (b : Answer) → b ≡ answer.Done → IsFated m list b g → AreReady (Some m) → AreReady (Some g)
fated_ready state m g id list b done fated was = ready_on state m g id (act.Fates list) b refl fated was (fated_net m g (subst (λ (x : Answer). IsFated m list x g) done fated).3 was.0.0)

-- ---- when it begins

-- each slot of a first cluster has its replica, whose disk is out
pub first_ready : {D : Type 0} {G : Ghosts D} (state : D → DiskState) (rf shards seed : ℕ) (nodes : List (List ℕ × List ℕ)) (old now : Depot D) (m : Members D G) → IsFirst state rf shards seed nodes old now m → IsReady m.net.state m.net.replicas m.net.bag → OwnedBy (Some m) now.held
    → AreReady (Some m)
first_ready state rf shards seed nodes old now m first ready own = (
  (
    ready,
    λ s i none.
        let low = node_low m.net.state.place rf shards nodes first.place s (subst (λ xs. IsIn xs s) first.slots i) in
        let few = first.lawful.limits.few_nodes in
        own.there s (no_meta s (omega (arith, low, few))) none (first.opened.taken.taken s i).held,
  ),
  λ place i. absurd (subst (λ ps. IsIn ps place) first.past i),
  record {
    slots = record {
      apart = subst AreApart (sym first.slots) (slots_apart m.net.state.place first.lawful);
      nodes = λ s i. node_low m.net.state.place rf shards nodes first.place s (subst (λ xs. IsIn xs s) first.slots i);
      shards = λ s i. shard_low m.net.state.place s (subst (λ xs. IsIn xs s) first.slots i);
    };
    unstepped = first_unstepped state rf shards seed nodes old now m first;
  },
)

-- so it may serve
pub first_serves : {D : Type 0} {G : Ghosts D} (c : Cluster D G) (m : Members D G) (held : DiskSlot → Held D) → c.members ≡ Some m → OwnedBy (Some m) held → AreReady (Some m) → MayServeCluster c held
first_serves {D} {G} c m held stands own ready = record { owned = subst (λ (o : Option (Members D G)). OwnedBy o held) (sym stands) own; ready = subst (λ (o : Option (Members D G)). AreReady o) (sym stands) ready }

-- ---- lines that make a placement

module _ {D : Type 0} {G : Ghosts D} (m : Members D G) (held : DiskSlot → Held D) where
  -- a cluster that is ready has what they need
  pub may_change : OwnedBy (Some m) held → AreReady (Some m) → MayChange m held
  may_change own are = record { ready = are.0.0; serves = are.1; slots = are.2.slots; out = own; manned = are.0.1; unstepped = are.2.unstepped }

  -- and is ready after them
  pub ready_still : MayChange m held → AreReady (Some m)
  ready_still may = ((may.ready, may.manned), may.serves, record { slots = may.slots; unstepped = may.unstepped })

-- a cluster that may change still may serve
pub still_so : {D : Type 0} {G : Ghosts D} (old new : Cluster D G) (m g : Members D G) → old.members ≡ Some m → new.members ≡ Some g → ((held : DiskSlot → Held D) → MayChange m held → MayChange g held) → StillServes old new
still_so {D} {G} old new m g stood stands still held may =
    let own = subst (λ (o : Option (Members D G)). OwnedBy o held) stood may.owned in
    let ready = subst (λ (o : Option (Members D G)). AreReady o) stood may.ready in
    let then = still held (may_change m held own ready) in
    first_serves new g held stands then.out (ready_still g held then)
