-- Any line of an act that is served, from those of the acts.
use Rattle.std.proofs.Common.{◌≡◌, ℕ, List, [], ◌∷◌, ◌++◌, refl, sym, subst, Bool}
use Rattle.std.specs.Prelude.{Option, Some, None}
use Rattle.served_acts.specs.NotYet.{IsServedAct}
use Rattle.m3_model.specs.declared.act.Act.{Act}
use Rattle.m3_model.specs.declared.act.Act.TheVariants as act
use Rattle.m3_model.specs.declared.answer.Answer.{Answer}
use Rattle.m3_model.specs.declared.turn.Turn.{Turn}
use Rattle.m3_model.specs.declared.rules.MetaState.{MetaState}
use Rattle.m3_outside.specs.Depots.{Depot}
use Rattle.m3_outside.specs.DiskState.{DiskState, IsLawfulDisk}
use Rattle.m3_outside.specs.declared.disk.Disk.{Ghosts}
use Rattle.node_calls.specs.replica_calls.Calls.{AreMembersOf}
use Rattle.told_runs.specs.told_moves.Order.{IsInitAct}
use Rattle.transcripts.specs.Record.{Record, line_of}
use Rattle.node_calls.specs.cluster_members.declared.members.Members.{Members}
use Rattle.line_tracks.specs.tracks.Numbers.{numbers_by}
use Rattle.line_tracks.specs.tracks.Tracks.{Tracks}
use Rattle.line_tracks.specs.tracks.Acts.{Does, IsServedBy, OnMembers, next_call}
use Rattle.line_tracks.specs.tracks.Lines.{BootstrapsAreTracked, DeliveriesAreTracked, EachMember, FatesAreTracked, FetchesAreTracked, FlushesAreTracked, InitsAreTracked, IsLeft, IsTrackedLine, LinesAreTracked, MatchesAreTracked, MomentsAreTracked, NamespacesAreTracked, OrdersAreTracked, RestartsAreTracked, SnapshotsAreTracked, StatusIsTracked, StepsAreTracked, StopsAreTracked, TicksAreTracked, WritesAreTracked}
use Rattle.line_tracks.proofs.tracks.BootstrapLemmas.{bootstraps_are_tracked}
use Rattle.line_tracks.proofs.tracks.DeliveryLemmas.{deliveries_are_tracked}
use Rattle.line_tracks.proofs.tracks.HaltLemmas.{restarts_are_tracked, stops_are_tracked}
use Rattle.line_tracks.proofs.tracks.InitLemmas.{inits_are_tracked, orders_are_tracked}
use Rattle.line_tracks.proofs.tracks.PlacementLemmas.{steps_are_tracked}
use Rattle.line_tracks.proofs.tracks.ReadLemmas.{fetches_are_tracked, matches_are_tracked}
use Rattle.line_tracks.proofs.tracks.SettingLemmas.{fates_are_tracked, moments_are_tracked, namespaces_are_tracked}
use Rattle.line_tracks.proofs.tracks.UpkeepLemmas.{flushes_are_tracked, snapshots_are_tracked, status_is_tracked, ticks_are_tracked}
use Rattle.line_tracks.proofs.tracks.WriteLemmas.{writes_are_tracked}

-- the lines of each act of a cluster that stands
record ActsAreTracked {D : Type 0} {G : Ghosts D} (state : D → DiskState) (m : Members D G) : Type 0 where
  pub write : WritesAreTracked state m
  pub fetch : FetchesAreTracked state m
  pub find : MatchesAreTracked state m
  pub namespace : NamespacesAreTracked state m
  pub moment : MomentsAreTracked state m
  pub fates : FatesAreTracked state m
  pub delivery : DeliveriesAreTracked state m
  pub stop : StopsAreTracked state m
  pub restart : RestartsAreTracked state m
  pub bootstrap : BootstrapsAreTracked state m
  pub tick : TicksAreTracked state m
  pub flush : FlushesAreTracked state m
  pub snapshot : SnapshotsAreTracked state m
  pub status : StatusIsTracked state m

module _ {D : Type 0} {G : Ghosts D} (state : D → DiskState) where
  -- the act is served where a cluster stands, and is no `init`
  by_act : (m : Members D G) → ActsAreTracked state m → (a : Act) → IsServedAct a → ¬ IsInitAct a → IsTrackedLine state m a
  by_act m each (act.Namespace name block past future retention) served other = each.namespace name block past future retention
  by_act m each (act.Now now) served other = each.moment now
  by_act m each (act.Write ns id t v level version) served other = each.write ns id t v level version
  by_act m each (act.Fetch ns id from to level version) served other = each.fetch ns id from to level version
  by_act m each (act.Match ns wanted from to level version) served other = each.find ns wanted from to level version
  by_act m each (act.Fates list) served other = each.fates list
  by_act m each act.Deliver served other = each.delivery
  by_act m each (act.Stop node) served other = each.stop node
  by_act m each (act.Restart node pick) served other = each.restart node pick
  by_act m each (act.Bootstrap node asked) served other = each.bootstrap node asked
  by_act m each act.Tick served other = each.tick
  by_act m each act.Flush served other = each.flush
  by_act m each act.Snapshot served other = each.snapshot
  by_act m each act.Status served other = each.status
  by_act m each (act.Add node group) served other = λ tells past start first now turns calls b g go left did. absurd did
  by_act m each (act.Drain node) served other = λ tells past start first now turns calls b g go left did. absurd did
  by_act m each (act.Cancel node) served other = λ tells past start first now turns calls b g go left did. absurd did
  by_act m each (act.Remove node) served other = λ tells past start first now turns calls b g go left did. absurd did
  by_act m each (act.Replace node with_ group) served other = λ tells past start first now turns calls b g go left did. absurd did
  by_act m each (act.Init rf shards seed nodes) served other = absurd (other tt)
  by_act m each _ served other = absurd served

  -- where none stands it is out of order
  on_none : OrdersAreTracked {D = D} {G = G} state None → (tells : Bool) (past : List Record) (start : Option MetaState) (first before after : Depot D) (turns : List Turn) (calls : List ℕ) (a : Act) (b : Answer) (new : Option (Members D G)) → ¬ IsInitAct a → Tracks {D = D} {G = G} state tells past start first before turns None calls
      → OnMembers {D = D} {G = G} None (λ m g. Does state (next_call calls) m a b g) b new → after ≡ before → Tracks state tells past start first after (turns ++ line_of a b ∷ []) new (numbers_by a b calls)
  on_none order tells past start first before after turns calls a b new other t did same =
      subst (λ (now : Depot D). Tracks state tells past start first now (turns ++ line_of a b ∷ []) new (numbers_by a b calls)) (sym same)
      (subst (λ (o : Option (Members D G)). Tracks state tells past start first before (turns ++ line_of a b ∷ []) o (numbers_by a b calls)) (sym did.1)
      (subst (λ (x : Answer). Tracks {D = D} {G = G} state tells past start first before (turns ++ line_of a x ∷ []) None (numbers_by a x calls)) (sym did.0) (order tells past start first before turns calls a refl other t)))

  -- where one stands it is the act's line
  on_one : (m : Members D G) → ActsAreTracked state m → (tells : Bool) (past : List Record) (start : Option MetaState) (first before after : Depot D) (turns : List Turn) (calls : List ℕ) (a : Act) (b : Answer) (new : Option (Members D G)) → IsServedAct a → ¬ IsInitAct a → Tracks state tells past start first before turns (Some m) calls
      → AreMembersOf state m.net.replicas → EachMember new (λ g. IsLeft tells g) → OnMembers (Some m) (λ k g. Does state (next_call calls) k a b g) b new → after ≡ before → Tracks state tells past start first after (turns ++ line_of a b ∷ []) new (numbers_by a b calls)
  on_one m each tells past start first before after turns calls a b new served other t are left did same =
      let is : new ≡ Some did.0 = did.1 in
      let left_so : IsLeft tells did.0 = subst (λ (o : Option (Members D G)). EachMember o (λ g. IsLeft tells g)) is left in
      subst (λ (now : Depot D). Tracks state tells past start first now (turns ++ line_of a b ∷ []) new (numbers_by a b calls)) (sym same)
      (subst (λ (o : Option (Members D G)). Tracks state tells past start first before (turns ++ line_of a b ∷ []) o (numbers_by a b calls)) (sym is)
      (by_act m each a served other tells past start first before turns calls b did.0 (record { tracks = t; members = are }) left_so did.2))

  -- an act other than `init`, whether one stands or not
  on_any : (old : Option (Members D G)) → ((m : Members D G) → old ≡ Some m → ActsAreTracked state m) → OrdersAreTracked state old → (tells : Bool) (past : List Record) (start : Option MetaState) (first before after : Depot D) (turns : List Turn) (calls : List ℕ) (a : Act) (b : Answer) (new : Option (Members D G)) → IsServedAct a → ¬ IsInitAct a → Tracks state tells past start first before turns old calls
      → EachMember old (λ m. AreMembersOf state m.net.replicas) → EachMember new (λ g. IsLeft tells g) → OnMembers old (λ k g. Does state (next_call calls) k a b g) b new × (after ≡ before) → Tracks state tells past start first after (turns ++ line_of a b ∷ []) new (numbers_by a b calls)
  on_any None each order tells past start first before after turns calls a b new served other t are left did = on_none order tells past start first before after turns calls a b new other t did.0 did.1
  on_any (Some m) each order tells past start first before after turns calls a b new served other t are left did = on_one m (each m refl) tells past start first before after turns calls a b new served other t are left did.0 did.1

  left_each : (tells : Bool) (new : Option (Members D G)) → EachMember new (λ g. IsLeft tells g) → (m : Members D G) → new ≡ Some m → IsLeft tells m
  left_each tells new left m is = subst (λ (o : Option (Members D G)). EachMember o (λ g. IsLeft tells g)) is left

  lines_tracked : (old : Option (Members D G)) → ((m : Members D G) → old ≡ Some m → ActsAreTracked state m) → OrdersAreTracked state old → InitsAreTracked state old → StepsAreTracked state old → LinesAreTracked state old
  lines_tracked old each order init steps tells past start first before after turns calls a b new served t are left may = by a served
    where
      other : (x : Act) → ¬ IsInitAct x → IsServedAct x → OnMembers old (λ k g. Does state (next_call calls) k x b g) b new × (after ≡ before) → Tracks state tells past start first after (turns ++ line_of x b ∷ []) new (numbers_by x b calls)
      other x no_init it did = on_any old each order tells past start first before after turns calls x b new it no_init t are left did

      by : (x : Act) → IsServedAct x → IsServedBy state calls before old x b after new → Tracks state tells past start first after (turns ++ line_of x b ∷ []) new (numbers_by x b calls)
      by (act.Init rf shards seed nodes) it did = init tells past start first before after turns calls rf shards seed nodes b new t (left_each tells new left) did
      by (act.Namespace name block past future retention) it did = other (act.Namespace name block past future retention) (λ no. no) it did
      by (act.Now now) it did = other (act.Now now) (λ no. no) it did
      by (act.Write ns id t v level version) it did = other (act.Write ns id t v level version) (λ no. no) it did
      by (act.Fetch ns id from to level version) it did = other (act.Fetch ns id from to level version) (λ no. no) it did
      by (act.Match ns wanted from to level version) it did = other (act.Match ns wanted from to level version) (λ no. no) it did
      by (act.Fates list) it did = other (act.Fates list) (λ no. no) it did
      by act.Deliver it did = other act.Deliver (λ no. no) it did
      by (act.Stop node) it did = other (act.Stop node) (λ no. no) it did
      by (act.Restart node pick) it did = other (act.Restart node pick) (λ no. no) it did
      by (act.Bootstrap node asked) it did = other (act.Bootstrap node asked) (λ no. no) it did
      by (act.Add node group) it did = steps tells past start first before after turns calls (act.Add node group) b new refl t left may did
      by (act.Drain node) it did = steps tells past start first before after turns calls (act.Drain node) b new refl t left may did
      by (act.Cancel node) it did = steps tells past start first before after turns calls (act.Cancel node) b new refl t left may did
      by (act.Remove node) it did = steps tells past start first before after turns calls (act.Remove node) b new refl t left may did
      by (act.Replace node with_ group) it did = steps tells past start first before after turns calls (act.Replace node with_ group) b new refl t left may did
      by act.Tick it did = other act.Tick (λ no. no) it did
      by act.Flush it did = other act.Flush (λ no. no) it did
      by act.Snapshot it did = other act.Snapshot (λ no. no) it did
      by act.Status it did = other act.Status (λ no. no) it did
      by _ it did = absurd it

pub lines_are_tracked : {D : Type 0} {G : Ghosts D} (state : D → DiskState) → ((d : D) → IsLawfulDisk (state d)) → (old : Option (Members D G)) → LinesAreTracked state old
lines_are_tracked state lawful old =
    lines_tracked state old (λ m is. record {
      write = writes_are_tracked state lawful m;
      fetch = fetches_are_tracked state lawful m;
      find = matches_are_tracked state lawful m;
      namespace = namespaces_are_tracked state lawful m;
      moment = moments_are_tracked state lawful m;
      fates = fates_are_tracked state lawful m;
      delivery = deliveries_are_tracked state lawful m;
      stop = stops_are_tracked state lawful m;
      restart = restarts_are_tracked state lawful m;
      bootstrap = bootstraps_are_tracked state lawful m;
      tick = ticks_are_tracked state lawful m;
      flush = flushes_are_tracked state lawful m;
      snapshot = snapshots_are_tracked state lawful m;
      status = status_is_tracked state lawful m;
    }) (orders_are_tracked state old) (inits_are_tracked state lawful old) (steps_are_tracked state old)
