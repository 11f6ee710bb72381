-- What came of one replica of a node, in the words of what its bootstrap adds.
use Rattle.std.proofs.Common.{◌≡◌, ◌<◌, ℕ, zero, suc, List, [], ◌∷◌, ◌++◌, length, refl, sym, ap, ◌∙◌, subst, inl, inr, arith, append_assoc}
use Rattle.std.specs.Prelude.{◌≢◌, ◌⊎◌, Option, Some, None, Bool, true, false, Result, Ok, Err, slice_get, slice_index_or}
use Rattle.m3_model.specs.Members.{IsIn}
use Rattle.m3_model.specs.declared.placement.Assignment.{Assignment}
use Rattle.m3_model.specs.declared.placement.Placement.{Placement}
use Rattle.m3_model.specs.declared.placement.ShardState.TheVariants.{Initializing}
use Rattle.m3_model.specs.declared.reason.Reason.{Reason}
use Rattle.m3_model.specs.declared.reason.Reason.TheVariants as reason
use Rattle.m3_model.proofs.MemberLemmas.{map-IsIn}
use Rattle.placement_core.specs.Lawful.{IsLawful}
use Rattle.placement_core.specs.Shards.{Shard, nodes_of, shard_at}
use Rattle.placement_core.proofs.HolderLemmas.{is_moving, the_joining}
use Rattle.cluster_core.specs.Lists.{At}
use Rattle.cluster_core.specs.declared.event.Event.{Event}
use Rattle.cluster_core.specs.declared.event.StepCall.TheVariants as call
use Rattle.cluster_core.specs.declared.event.StepReply.TheVariants as reply
use Rattle.session_net.specs.m3_outside.DiskState.{DiskState}
use Rattle.session_net.specs.replica_calls.Calls.{Tracked}
use Rattle.session_net.specs.replica_exchange.MachineCalls.{HasRoom}
use Rattle.session_net.specs.Runs.{Ran}
use Rattle.session_net.proofs.RunLemmas.{ran_nothing, ran_then}
use Rattle.peer_streams.specs.Joins.{BreaksOff, IsEnding, IsGiven, IsPassing, begun_with}
use Rattle.peer_streams.specs.Streams.{replied}
use Rattle.peer_boot.specs.Merges.{MergedOf}
use Rattle.peer_boot.specs.Tries.{IsJoinTried, IsOwnRefused, asked_events}
use Rattle.peer_boot.specs.declared.boot_err.BootErr.{BootErr}
use Rattle.peer_boot.specs.declared.boot_err.BootErr.TheVariants as boot_err
use Rattle.node_joins.specs.Joined.{JoinedOf}
use Rattle.node_joins.specs.Opens.{IsBeginTried, IsOpenTried, join_told}
use Rattle.node_joins.specs.declared.open_err.OpenErr.{OpenErr}
use Rattle.node_joins.specs.declared.open_err.OpenErr.TheVariants as open_err

-- the shard stands at its number
pub shard_there : (shards : List Shard) (s : ℕ) → s < length shards → slice_get shards s ≡ Some (slice_index_or shards s [])
shard_there [] s low = absurd (omega (arith, low))
shard_there (shard ∷ shards) zero low = refl
shard_there (shard ∷ shards) (suc s) low = shard_there shards s (omega (arith, low))

-- and is one of them
shard_in : (shards : List Shard) (s : ℕ) → s < length shards → IsIn shards (slice_index_or shards s [])
shard_in [] s low = absurd (omega (arith, low))
shard_in (shard ∷ shards) zero low = inl refl
shard_in (shard ∷ shards) (suc s) low = inr (shard_in shards s (omega (arith, low)))

-- one that joins takes over from some node
pub joining_source : (place : Placement) (s : ℕ) (own : Assignment) → IsLawful place → s < length place.shards → IsIn (shard_at place s) own → own.state ≡ Initializing → (from : ℕ) × (own.source ≡ Some from)
joining_source place s own lawful below among is =
    let h = lawful.shards (shard_at place s) (shard_in place.shards s below) in
    let m = (is_moving place.rf place.version (shard_at place s) h own among is).0 in
    let it = the_joining (shard_at place s) h.distinct m own among is in
    ((m.leaving).node, ap (λ (a : Assignment). a.source) it ∙ (m.is_joining).1)

-- the node has the shard
pub own_node : (place : Placement) (s : ℕ) (own : Assignment) → IsIn (shard_at place s) own → IsIn (nodes_of (shard_at place s)) own.node
own_node place s own among = map-IsIn (λ (a : Assignment). a.node) (shard_at place s) own among

module _ {D : Type 0} (state : D → DiskState) (place : Placement) (s : ℕ) (own : Assignment) (below : s < length place.shards) (among : IsIn (shard_at place s) own) where
  -- the placement gives the node the shard
  abbrev given : IsGiven place own.node s own
  given = record { shard = shard_at place s; there = shard_there place.shards s below; among = among; to_node = refl }

  -- ---- a begin that ends it, or that is passed over

  pub not_begun : (old new : Tracked D) (e : OpenErr) → IsBeginTried state s own.node own.tenure old new (Err e) → IsOpenTried state place s own old new (Err e)
  not_begun old new (open_err.Refused shard why) h =
      let events = replied own.node s (call.Begin own.tenure) (reply.Refused why) in
      (h.0, h.2, events, record { own = own; given = given; ends = h.1; so = inl (inl refl) }, ([], call.Begin own.tenure, refl), h.3)
  not_begun old new open_err.Full h = (subst (λ (t : Tracked D). ¬ HasRoom 4 t.events) (sym h.1) h.0, [], inl refl, subst (Ran state old []) (sym h.1) (ran_nothing state old))
  not_begun old new (open_err.Peers shard needed got reasons) h = absurd h
  not_begun old new open_err.Memory h = absurd h

  pub passed_by : (old new : Tracked D) → IsBeginTried state s own.node own.tenure old new (Ok false) → IsOpenTried state place s own old new (Ok None)
  passed_by old new h =
      let events = replied own.node s (call.Begin own.tenure) (reply.Refused h.0) in
      (events, record { own = own; given = given; so = inl (record { why = h.0; unbegun = h.1; are = refl }) }, h.2)

  -- it began, and joins no shard
  pub begun_alone : (old new : Tracked D) → own.state ≢ Initializing → (b : Bool) → IsBeginTried state s own.node own.tenure old new (Ok b) → IsOpenTried state place s own old new (Ok None)
  begun_alone old new stays true h =
      (begun_with own.node s own.tenure h.0 h.1, record { own = own; given = given; so = inr (inl (record { stays = stays; fence = h.0; points = h.1; are = refl })) }, h.2)
  begun_alone old new stays false h = passed_by old new h

  -- ---- a join

  module _ (joins : own.state ≡ Initializing) (old mid new : Tracked D) (begun : IsBeginTried state s own.node own.tenure old mid (Ok true)) where
    abbrev start : List Event
    start = begun_with own.node s own.tenure begun.0 begun.1

    -- it joined
    pub has_joined : (source : ℕ) (merged : MergedOf) (j : JoinedOf) → own.source ≡ Some source → j ≡ record { shard = merged.shard; source = source; peers = merged.peers } → IsJoinTried state place s own.node own.tenure mid new (Ok merged)
        → IsOpenTried state place s own old new (Ok (Some j))
    has_joined source merged j from is h =
        let m = h.3 in
        subst (λ (x : JoinedOf). IsOpenTried state place s own old new (Ok (Some x))) (sym is) (
          h.0,
          start ++ asked_events m.peers,
          record { joining = own; given = given; joins = (joins, from); fence = begun.0; points = begun.1; peers = m.peers; left = m.left; asked = m.asked; enough = m.enough; names = m.streamed; are = refl },
          ran_then state start (asked_events m.peers) old mid new begun.2 m.ran,
        )

    breaks : (why : Reason) (h : IsOwnRefused state place s own.node own.tenure why mid new) → BreaksOff place s own.node own given why (start ++ h.events)
    breaks why h = record { joins = joins; fence = begun.0; points = begun.1; streamed = h.events; broken = h.broken; are = refl }

    -- it is passed over while it streams
    passes : (why : Reason) → IsPassing why → IsOwnRefused state place s own.node own.tenure why mid new → IsOpenTried state place s own old new (Ok None)
    passes why p h = (start ++ h.events, record { own = own; given = given; so = inr (inr (why, p, breaks why h)) }, ran_then state start h.events old mid new begun.2 h.ran)

    -- or ends it
    ends : (why : Reason) → IsEnding why → IsOwnRefused state place s own.node own.tenure why mid new → IsOpenTried state place s own old new (Err (open_err.Refused s why))
    ends why e h = (refl, h.form, start ++ h.events, record { own = own; given = given; ends = e; so = inr (breaks why h) }, (start ++ (h.ends).0, (h.ends).1, ap (λ es. start ++ es) (h.ends).2 ∙ sym (append_assoc start (h.ends).0 (replied own.node s (h.ends).1 (reply.Refused why)))), ran_then state start h.events old mid new begun.2 h.ran)

    never : {X : Type 0} → ⊥ ⊎ ⊥ → X
    never (inl e) = absurd e
    never (inr e) = absurd e

    -- it didn't join
    pub has_not_joined : (why : BootErr) → IsJoinTried state place s own.node own.tenure mid new (Err why) → IsOpenTried state place s own old new (join_told s why)
    has_not_joined (boot_err.Own reason.Down) h = passes reason.Down tt h
    has_not_joined (boot_err.Own reason.Boot) h = passes reason.Boot tt h
    has_not_joined (boot_err.Own reason.NotOwned) h = passes reason.NotOwned tt h
    has_not_joined (boot_err.Own reason.Disk) h = ends reason.Disk tt h
    has_not_joined (boot_err.Own (reason.Corrupt damage)) h = ends (reason.Corrupt damage) tt h
    has_not_joined (boot_err.Own reason.Memory) h = ends reason.Memory tt h
    has_not_joined (boot_err.Own reason.Cut) h = never h.merge
    has_not_joined (boot_err.Own (reason.Stale fence)) h = never h.merge
    has_not_joined (boot_err.Own reason.Past) h = never h.merge
    has_not_joined (boot_err.Own reason.Future) h = never h.merge
    has_not_joined (boot_err.Peers needed got reasons) h = (
      refl,
      record {
        peers = h.peers;
        events = start ++ asked_events h.peers;
        misses = record { joining = own; given = given; is_joining = joins; fence = begun.0; points = begun.1; asked = h.asked; fewer = h.fewer; are = refl };
        needed_is = h.needed_is;
        got_is = h.got_is;
        reasons_are = h.reasons_are;
        refused = h.refused;
        form = h.form;
        ran = ran_then state start (asked_events h.peers) old mid new begun.2 h.ran;
      },
    )
    has_not_joined boot_err.Full h = (
      h.room,
      start ++ (asked_events h.peers ++ h.last),
      inr (record { joining = own; given = given; is_joining = joins; fence = begun.0; points = begun.1; peers = h.peers; left = h.left; asked = h.asked; last = h.last; part = h.part; are = refl }),
      ran_then state start (asked_events h.peers ++ h.last) old mid new begun.2 h.ran,
    )
