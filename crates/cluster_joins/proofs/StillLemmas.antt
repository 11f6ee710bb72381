-- What stays so of a cluster over a bootstrap.
use Rattle.std.proofs.Common.{◌≡◌, ◌≢◌, ◌<◌, ◌≤◌, ◌+◌, ◌*◌, ℕ, List, [], ◌∷◌, ◌++◌, length, refl, sym, ap, ◌∙◌, subst, inl, inr, arith}
use Rattle.std.specs.Prelude.{◌⊎◌, ⊤, Option, Some, None, Result, Ok, Err}
use Rattle.std.specs.FinMap as finite
use Rattle.std.specs.List.{flat_map}
use Rattle.std.proofs.lemmas.List.Elements.{filter_map-append}
use Rattle.m3_model.specs.Members.{IsIn}
use Rattle.m3_model.specs.declared.placement.Assignment.{Assignment}
use Rattle.m3_model.specs.declared.placement.Placement.{Placement}
use Rattle.m3_model.specs.declared.point.Key.{Key}
use Rattle.m3_model.specs.declared.point.Page.{Page}
use Rattle.m3_model.specs.declared.rules.MetaState.{MetaState}
use Rattle.m3_outside.specs.DiskState.{DiskState}
use Rattle.m3_outside.specs.Slots.{Held, Out}
use Rattle.m3_outside.specs.declared.disk.Disk.{Ghosts}
use Rattle.m3_outside.specs.declared.slot.DiskSlot.{DiskSlot}
use Rattle.peer_streams.specs.Joins.{IsOpened, Opened}
use Rattle.peer_streams.specs.Streams.{replied}
use Rattle.cluster_core.specs.declared.event.Event.{Event}
use Rattle.cluster_core.specs.declared.event.StepCall.{StepCall}
use Rattle.cluster_core.specs.declared.event.StepCall.TheVariants as call
use Rattle.cluster_core.specs.declared.event.StepReply.{StepReply}
use Rattle.cluster_core.specs.declared.event.StepReply.TheVariants as reply
use Rattle.node_calls.specs.cluster_members.Kept.{PastServes}
use Rattle.node_calls.specs.cluster_members.declared.members.Members.{Members}
use Rattle.node_calls.specs.replica_calls.Calls.{Tracked}
use Rattle.node_calls.specs.replica_exchange.MachineCalls.{HasRoom}
use Rattle.node_calls.specs.replica_exchange.declared.member.Member.{Member}
use Rattle.node_calls.specs.replica_exchange.declared.slot.Slot.{Slot}
use Rattle.node_calls.specs.session_net.Ready.{IsCallable, IsReady}
use Rattle.node_calls.specs.session_net.Runs.{IsStepped, Ran, step_in, steps_of}
use Rattle.node_calls.specs.Nodes.{KeepsButBoots}
use Rattle.node_calls.proofs.session_net_proofs.ReadyLemmas.{AreQuiet, IsQuiet, calls_after, quiet_both, quiet_none, ready_after, there_after}
use Rattle.node_calls.proofs.session_net_proofs.RunLemmas.{ran_nothing, ran_then}
use Rattle.node_calls.proofs.RunLemmas.{quiet_exchange, quiet_flat, same_slots}
use Rattle.first_cluster.specs.Depots.{AreOut, IsForReplicas, disk_slot_of}
use Rattle.cluster_placements.specs.Slots.{AreSlotsIn}
use Rattle.cluster_placements.specs.Steps.{MayChange, end_at}
use Rattle.node_joins.specs.Shards.{AreOpenedBelow, AreTried, IsEndedAt}
use Rattle.node_joins.specs.Opens.{IsOpenTried}
use Rattle.node_joins.specs.declared.open_err.OpenErr.{OpenErr}
use Rattle.node_joins.specs.declared.open_err.OpenErr.TheVariants as open_err
use Rattle.node_joins.proofs.EachLemmas.{Each, each_held, each_missed, each_opened, each_short}
use Rattle.told_joins.specs.Lines.{added_by}

-- ---- quiet events

abbrev AnyCall : StepCall → Type 0
AnyCall c = ⊤

replied_quiet : (m t : ℕ) (c : StepCall) (a : StepReply) → AnyCall c → AreQuiet (replied m t c a)
replied_quiet m t c a any = quiet_exchange m t c a

pub opened_quiet : (place : Placement) (y : ℕ) (opened : List Opened) → ((o : Opened) → IsIn opened o → IsOpened place y o) → AreQuiet (added_by opened)
opened_quiet place y opened each = each_opened IsQuiet AnyCall replied_quiet (λ v. tt) (λ k. tt) (λ p. tt) (λ t. tt) place y opened each

module _ {D : Type 0} (state : D → DiskState) (y : ℕ) (only : Option ℕ) (place : Placement) where
  -- what came of one that ended it
  last_quiet : (s : ℕ) (own : Assignment) (old new : Tracked D) (why : OpenErr) → IsOpenTried state place s own old new (Err why) → (more : List Event) × Ran state old more new × AreQuiet more
  last_quiet s own old new (open_err.Refused shard w) h = (h.2, h.5, each_held IsQuiet AnyCall replied_quiet (λ v. tt) (λ k. tt) (λ p. tt) (λ t. tt) place s own.node w h.2 h.3)
  last_quiet s own old new (open_err.Peers shard needed got reasons) h = ((h.1).events, (h.1).ran, each_missed IsQuiet AnyCall replied_quiet (λ v. tt) (λ k. tt) (λ p. tt) (λ t. tt) place s own.node (h.1).peers (h.1).events (h.1).misses)
  last_quiet s own old new open_err.Memory h = ([], subst (Ran state old []) (sym h) (ran_nothing state old), quiet_none)
  last_quiet s own old new open_err.Full h = (
    h.1,
    h.3,
    elim h.2 as (λ _. AreQuiet h.1) [
      | inl nothing ↦ subst AreQuiet (sym nothing) quiet_none
      | inr short ↦ each_short IsQuiet AnyCall replied_quiet (λ v. tt) (λ k. tt) (λ p. tt) (λ t. tt) place s own.node h.1 short
    ],
  )

  pub err_quiet : (old new : Tracked D) (why : OpenErr) → AreTried state y only place old new (Err why) → (more : List Event) × Ran state old more new × AreQuiet more
  err_quiet old new why (inl early) = ([], subst (Ran state old []) (sym early.1) (ran_nothing state old), quiet_none)
  err_quiet old new why (inr at) =
      let last = last_quiet at.shard at.own at.mid new why at.tried in
      let first = added_by (at.before).opened in
      (first ++ last.0, ran_then state first last.0 old at.mid new (at.before).ran last.1, quiet_both first last.0 (opened_quiet place y (at.before).opened (at.before).each) last.2)

-- ---- calls

module _ {D : Type 0} {G : Ghosts D} (state : D → DiskState) (old new : Members D G) (more : List Event) (ran : Ran state old.net.replicas more new.net.replicas) where
  module _ (quiet : AreQuiet more) (keeps : KeepsButBoots old new) where
    abbrev was : MetaState
    was = old.net.state

    state_same : new.net.state ≡ was
    state_same = (keeps.keeps).state

    pub ready_still : IsReady old.net.state old.net.replicas old.net.bag → IsReady new.net.state new.net.replicas new.net.bag
    ready_still ready =
        subst (λ (m : MetaState). IsReady m new.net.replicas new.net.bag) (sym state_same)
        (ready_after state was old.net.replicas new.net.replicas old.net.bag new.net.bag more ready ran quiet (λ one m. inl (subst (λ xs. IsIn xs one) (keeps.keeps).bag m)))

    pub serves_still : PastServes old → PastServes new
    serves_still serves p i =
        subst (λ (m : MetaState). IsCallable (record m { place = p }) new.net.replicas new.net.bag) (sym state_same)
        (calls_after state (record was { place = p }) old.net.replicas new.net.replicas old.net.bag new.net.bag more (serves p (subst (λ xs. IsIn xs p) (keeps.keeps).past i)) ran quiet (λ one m. inl (subst (λ xs. IsIn xs one) (keeps.keeps).bag m)))

    pub slots_still : AreSlotsIn old.net.state.place old.slots.items → AreSlotsIn new.net.state.place new.slots.items
    slots_still are = subst (λ (m : MetaState). AreSlotsIn m.place new.slots.items) (sym state_same) (subst (AreSlotsIn was.place) (sym (keeps.keeps).slots) are)

  -- lines that make a placement may still come
  pub change_still : (held : DiskSlot → Held D) → MayChange old held → IsReady new.net.state new.net.replicas new.net.bag → PastServes new → AreSlotsIn new.net.state.place new.slots.items → new.slots.items ≡ old.slots.items → MayChange new held
  change_still held may ready serves slots same = record {
    ready = ready;
    serves = serves;
    slots = slots;
    out = subst (λ xs. AreOut xs new.net.replicas.members held) (sym same) (record {
      only = λ s away. (same_slots state old.net.replicas new.net.replicas more ran s).1 ((may.out).only s away);
      lent = λ s m there. lent s m there;
      there = λ s for none. (may.out).there s for ((same_slots state old.net.replicas new.net.replicas more ran s).0 none);
    });
    manned = λ s i. there_after state old.net.replicas new.net.replicas more s ran (may.manned s (subst (λ xs. IsIn xs s) same i));
    unstepped = λ s none.
        let gone = (same_slots state old.net.replicas new.net.replicas more ran s).0 none in
        ap (steps_of s) ran.grew ∙ filter_map-append (step_in s) old.net.replicas.events more ∙ ap (λ xs. xs ++ steps_of s more) (may.unstepped s gone) ∙ ran.only s gone;
  }
    where
      lent : (s : Slot) (m : Member D) → finite.get new.net.replicas.members s ≡ Some m → held (disk_slot_of s) ≡ Out
      lent s m there = by (finite.get old.net.replicas.members s) refl (ran.stepped s)
        where
          by : (o : Option (Member D)) → finite.get old.net.replicas.members s ≡ o → IsStepped state (steps_of s more) o (finite.get new.net.replicas.members s) → held (disk_slot_of s) ≡ Out
          by None is h = let clash : Some m ≡ None = sym there ∙ h in cc
          by (Some was) is h = (may.out).lent s was is

-- where only replicas did something that is quiet
pub still_on : {D : Type 0} {G : Ghosts D} (state : D → DiskState) (old new : Members D G) (more : List Event) → Ran state old.net.replicas more new.net.replicas → AreQuiet more → KeepsButBoots old new → (held : DiskSlot → Held D) → MayChange old held → MayChange new held
still_on state old new more ran quiet keeps held may =
    change_still state old new more ran held may (ready_still state old new more ran quiet keeps may.ready) (serves_still state old new more ran quiet keeps may.serves) (slots_still state old new more ran quiet keeps may.slots) (keeps.keeps).slots

-- ---- room, slots and ends

pub room_first : (events : List Event) (len : ℕ) → HasRoom (2 + 2 * len) events → HasRoom 2 events
room_first events len room = omega (arith, room)

pub slots_next : (place next : Placement) (slots : List Slot) → length next.instances ≡ length place.instances → length next.shards ≡ length place.shards → AreSlotsIn place slots → AreSlotsIn next slots
slots_next place next slots nodes shards are = record {
  apart = are.apart;
  nodes = λ s i. let low = are.nodes s i in omega (arith, low, nodes);
  shards = λ s i. let low = are.shards s i in omega (arith, low, shards);
}

pub ends_quiet : (sources : List Slot) → AreQuiet (flat_map end_at sources)
ends_quiet sources = quiet_flat end_at (λ s. quiet_exchange s.node s.shard call.End reply.Done) sources
