-- What a write answers, by what was settled over its members.
use Rattle.std.proofs.Common.{◌≡◌, ℕ, ◌<◌, ◌≤◌, ◌^◌, List, [], ◌∷◌, length, sym, ◌∙◌, subst, inl, inr}
use Rattle.std.specs.Prelude.{Result, Ok, Err, IfOk, IfErr}
use Rattle.std.specs.List.{All}
use Rattle.std.proofs.Props.{props}
use Rattle.std.proofs.lemmas.List.{append-nil}
use Rattle.m3_model.specs.Levels.{needed_write}
use Rattle.m3_model.specs.declared.act.WriteLevel.{WriteLevel}
use Rattle.m3_model.specs.declared.point.Point.{Point}
use Rattle.m3_model.specs.declared.rules.MetaState.{MetaState}
use Rattle.session_net.specs.m3_outside.DiskState.{DiskState}
use Rattle.session_net.specs.m3_outside.declared.disk.Disk.{Ghosts}
use Rattle.session_net.specs.cluster_core.declared.event.Event.{Event}
use Rattle.session_net.specs.cluster_core.declared.event.Event.TheVariants as event
use Rattle.net_plan.specs.Fates.{FateMap}
use Rattle.net_plan.specs.declared.late_write.LateWrite.{LateWrite}
use Rattle.placement_core.specs.Shards.{Shard}
use Rattle.session_net.specs.replica_exchange.declared.call_id.CallId.{CallId}
use Rattle.session_net.specs.Calls.{Tracked}
use Rattle.session_net.specs.Runs.{Ran}
use Rattle.session_net.specs.Writes.{shard_of_point, Sent, Putting, AreMembers, IsSent, HasSent, IsSettled, IsUnsettled, IsAcknowledged, IsRefused}
use Rattle.session_net.specs.declared.net.Net.{Net}
use Rattle.session_net.specs.declared.session_err.SessionErr.{SessionErr}
use Rattle.session_net.specs.declared.session_err.SessionErr.TheVariants as err
use Rattle.session_writes.proofs.LeftLemmas.{IsBoundedLate}
use Rattle.session_writes.proofs.ShardLemmas.{GoesTo}

-- where no field of it changed, it is the same, whatever proves its facts
pub same_net : {D : Type 0} {G : Ghosts D} (new old : Net D G) → new.state ≡ old.state → new.replicas ≡ old.replicas → new.fates ≡ old.fates → new.bag ≡ old.bag → new ≡ old
same_net {D} {G} new old state_is replicas_is fates_is bag_is =
    subst Same (λ i. (sym state_is i, sym replicas_is i, sym fates_is i, sym bag_is i)) own new.some_shards new.few_shards new.bounded_late
  where
    Same : MetaState × Tracked D × FateMap × List LateWrite → Type 0
    Same f =
        (some : 0 < length f.0.place.shards) (few : length f.0.place.shards < 2 ^ 32) (bounded : All IsBoundedLate f.3)
        → ◌≡◌ {A = Net D G} (record { state = f.0; replicas = f.1; fates = f.2; bag = f.3; some_shards = some; few_shards = few; bounded_late = bounded }) old

    some_prop : IsProp (0 < length old.state.place.shards)
    some_prop = Prim.hlevel props

    few_prop : IsProp (length old.state.place.shards < 2 ^ 32)
    few_prop = Prim.hlevel props

    bounded_prop : IsProp (All IsBoundedLate old.bag)
    bounded_prop = Prim.hlevel props

    own : Same (old.state, old.replicas, old.fates, old.bag)
    own some few bounded = λ i. record {
      state = old.state;
      replicas = old.replicas;
      fates = old.fates;
      bag = old.bag;
      some_shards = some_prop some old.some_shards i;
      few_shards = few_prop few old.few_shards i;
      bounded_late = bounded_prop bounded old.bounded_late i;
    }

-- what the messages of a write share
abbrev pub putting : {D : Type 0} {G : Ghosts D} → Net D G → CallId → Point → ℕ → Putting
putting net id p s = record { id = id; rules = net.state.rules; version = net.state.place.version; shard = s; point = p }

-- memory was wanted before anything changed
pub wanted : {D : Type 0} {G : Ghosts D} (disk : D → DiskState) (old new : Net D G) (id : CallId) (p : Point) (level : WriteLevel) (result : Result (List ℕ) SessionErr) → result ≡ Err err.Memory → new ≡ old → IfErr result (IsRefused disk old id p level new)
wanted disk old new id p level result is same = subst (λ r. IfErr r (IsRefused disk old id p level new)) (sym is) (inl same)

module _ {D : Type 0} {G : Ghosts D} (disk : D → DiskState) (old new : Net D G) (id : CallId) (p : Point) (level : WriteLevel) (s : ℕ) (members : Shard) (needed : ℕ) (to : GoesTo old.state p s members) (due : needed ≡ needed_write level old.state.place.rf) where
  sent_so : (sent : Sent) (last : List Event) → sent.members ≡ members → HasSent disk old.fates (putting old id p (shard_of_point old.state p)) sent last old.replicas new.replicas old.bag new.bag → IsSent old id p sent
  sent_so sent last is h = record { members = subst (AreMembers old.state.place (shard_of_point old.state p)) (sym is) to.here; heard = h.heard }

  settled_so : (acks : List ℕ) → IsSettled disk old.fates (putting old id p (shard_of_point old.state p)) members needed acks old.replicas new.replicas old.bag new.bag → IsAcknowledged disk old id p level acks new
  settled_so acks h = record {
    sent = h.sent;
    is_sent = sent_so h.sent (event.Ack (length old.replicas.events) acks ∷ []) h.to h.has_sent;
    acks_are = h.acks_are;
    enough = subst (λ n. n ≤ length acks) due h.enough;
    ran = h.has_sent.ran;
    bag = h.has_sent.held_back;
  }

  unsettled_so : new.state ≡ old.state → new.fates ≡ old.fates → (e : SessionErr) → IsUnsettled disk old.fates (putting old id p (shard_of_point old.state p)) members needed old.replicas new.replicas old.bag new.bag e → IsRefused disk old id p level new e
  unsettled_so same_state same_fates (err.Consistency shard needed_is got others) h = record {
    sent = h.0;
    is_sent = sent_so h.0 [] h.1 h.2;
    too_few = record { shard_is = h.3.0; needed_is = h.3.1 ∙ due; got_is = h.3.2; fewer = h.3.3; reasons_are = h.3.4 };
    ran = subst (λ es. Ran disk old.replicas (event.Send old.state.place.version (shard_of_point old.state p) p ∷ es) new.replicas) (append-nil h.0.puts) h.2.ran;
    bag = h.2.held_back;
  }
  unsettled_so same_state same_fates err.Memory (inl same) = inl (same_net new old same_state same.0 same_fates same.1)
  unsettled_so same_state same_fates err.Memory (inr sent) = inr (record { members = members; are = to.here; k = sent.0; ran = sent.1; bag = sent.2 })
  unsettled_so same_state same_fates err.Full h = absurd h

  -- it is acknowledged
  pub acknowledged : (result : Result (List ℕ) SessionErr) → IfOk result (λ acks. IsSettled disk old.fates (putting old id p s) members needed acks old.replicas new.replicas old.bag new.bag) → IfOk result (λ acks. IsAcknowledged disk old id p level acks new)
  acknowledged (Ok acks) h = settled_so acks (subst (λ k. IsSettled disk old.fates (putting old id p k) members needed acks old.replicas new.replicas old.bag new.bag) to.shard h)
  acknowledged (Err e) h = h

  -- or refused
  pub refused : new.state ≡ old.state → new.fates ≡ old.fates → (result : Result (List ℕ) SessionErr) → IfErr result (λ e. IsUnsettled disk old.fates (putting old id p s) members needed old.replicas new.replicas old.bag new.bag e)
      → IfErr result (IsRefused disk old id p level new)
  refused same_state same_fates (Ok acks) h = h
  refused same_state same_fates (Err e) h = unsettled_so same_state same_fates e (subst (λ k. IsUnsettled disk old.fates (putting old id p k) members needed old.replicas new.replicas old.bag new.bag e) to.shard h)
