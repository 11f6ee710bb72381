-- An act that isn't saved leaves the state.
use Rattle.std.proofs.Common.{◌≡◌, ℕ, List, ap, ◌∙◌, inl, inr, false}
use Rattle.std.specs.Prelude.{Option, Some, None, option_map}
use Rattle.m3_model.specs.declared.act.Act.{Act}
use Rattle.m3_model.specs.declared.act.Act.TheVariants as act
use Rattle.m3_model.specs.declared.act.Fate.{Fate}
use Rattle.m3_model.specs.declared.act.ReadLevel.{ReadLevel}
use Rattle.m3_model.specs.declared.act.WriteLevel.{WriteLevel}
use Rattle.m3_model.specs.declared.answer.Answer.{Answer}
use Rattle.m3_model.specs.declared.answer.Answer.TheVariants as answer
use Rattle.m3_model.specs.declared.point.Pick.{Pick}
use Rattle.m3_model.specs.declared.point.Pick.TheVariants as pick
use Rattle.m3_model.specs.declared.rules.MetaState.{MetaState}
use Rattle.m3_outside.specs.Depots.{Depot}
use Rattle.m3_outside.specs.DiskState.{DiskState}
use Rattle.m3_outside.specs.declared.disk.Disk.{Ghosts}
use Rattle.line_tracks.specs.replica_exchange.declared.call_id.CallId.{CallId}
use Rattle.line_tracks.specs.cluster_core.declared.event.StepCall.{StepCall}
use Rattle.line_tracks.specs.cluster_core.declared.event.StepCall.TheVariants as call
use Rattle.line_tracks.specs.cluster_members.Calls.{IsFetchAnswer, IsMissing, IsWritten, NamedPoint}
use Rattle.line_tracks.specs.cluster_members.declared.calls.Range.{Range}
use Rattle.line_tracks.specs.cluster_members.declared.members.Members.{Members}
use Rattle.line_tracks.specs.node_calls.Nodes.{IsDeliverAnswer, IsFated, IsRestarted, IsStopped}
use Rattle.line_tracks.specs.cluster_upkeep.Upkeep.{IsSwept, IsTold}
use Rattle.line_tracks.specs.tracks.Acts.{Does, IsServedBy, MayCall, OnMembers, next_call}
use Rattle.served_cluster.specs.Acts.{Serves}
use Rattle.served_cluster.specs.Plans.{state_of}
use Rattle.served_cluster.specs.declared.cluster.Cluster.{Cluster}
use Rattle.saved_cluster.specs.States.{saves_by}

module _ {D : Type 0} {G : Ghosts D} (state : D → DiskState) (m g : Members D G) where
  abbrev Stays : Type 0
  Stays = g.net.state ≡ m.net.state

  all_stays : g ≡ m → Stays
  all_stays same = ap (λ (x : Members D G). x.net.state) same

  -- ---- the fates and late messages

  fated_so : (list : List (ℕ × ℕ × List ℕ × Fate)) (b : Answer) → IsFated m list b g → Stays
  fated_so list answer.Done h = h.3.state
  fated_so list (answer.Unknown name) h = all_stays h.1
  fated_so list answer.Memory h = all_stays h
  fated_so list _ h = absurd h

  delivered_so : (b : Answer) → IsDeliverAnswer state m b g → Stays
  delivered_so (answer.Outcomes outcomes) h = h.1.state
  delivered_so answer.Memory h = h.1.state
  delivered_so answer.Full h = h.1.state
  delivered_so _ h = absurd h

  -- ---- calls

  missing_so : (ns : List ℕ) (version : Option ℕ) (b : Answer) → IsMissing m ns version b g → Stays
  missing_so ns version b (inl none) = all_stays none.2
  missing_so ns version b (inr h) = all_stays h.same

  written_so : (id : CallId) (point : NamedPoint) (level : WriteLevel) (version : Option ℕ) (b : Answer) → IsWritten state m id point level version b g → Stays
  written_so id point level version b (inl missing) = missing_so point.ns version b missing
  written_so id point level version b (inr h) = h.keeps.state

  fetched_so : (id : CallId) (ns : List ℕ) (by : ℕ → Pick) (range : Range) (level : ReadLevel) (version : Option ℕ) (b : Answer) → IsFetchAnswer state m id ns by range level version b g → Stays
  fetched_so id ns by range level version b (inl missing) = missing_so ns version b missing
  fetched_so id ns by range level version b (inr h) = h.keeps.state

  called_so : (number : ℕ) (Made : Type 0) (b : Answer) → (Made → Stays) → MayCall number Made b m g → Stays
  called_so number Made b made (inl h) = made h.1
  called_so number Made b made (inr none) = all_stays none.2

  -- ---- nodes

  stopped_so : (name : List ℕ) (b : Answer) → IsStopped state m name b g → Stays
  stopped_so name answer.Done h = h.keeps.state
  stopped_so name (answer.Unknown unknown) h = all_stays h.2
  stopped_so name (answer.State node) h = all_stays h.2
  stopped_so name answer.Full h = all_stays h.1.same
  stopped_so name _ h = absurd h

  restarted_so : (name : List ℕ) (b : Answer) → IsRestarted state m name b g → Stays
  restarted_so name answer.Done h = h.keeps.state
  restarted_so name (answer.Unknown unknown) h = all_stays h.2
  restarted_so name (answer.State node) h = all_stays h.2
  restarted_so name (answer.Disk node shard) h = h.1.keeps.state
  restarted_so name answer.Memory h = h.1.keeps.state
  restarted_so name answer.Full h = all_stays h.1.same
  restarted_so name _ h = absurd h

  -- ---- upkeep

  swept_so : (c : StepCall) (b : Answer) → IsSwept state c m b g → Stays
  swept_so c (answer.Swept done failed) h = h.keeps.keeps.state
  swept_so c answer.Memory same = all_stays same
  swept_so c answer.Full h = all_stays h.same
  swept_so c _ h = absurd h

  told_so : (b : Answer) → IsTold state m b g → Stays
  told_so (answer.Status now lines version) h = h.keeps.keeps.state
  told_so answer.Memory same = all_stays same
  told_so answer.Full h = all_stays h.same
  told_so _ h = absurd h

  -- ---- all of them

  does_so : (id : CallId) (a : Act) (b : Answer) → saves_by a ≡ false → Does state id m a b g → Stays
  does_so id (act.Write ns name t v level version) b other h = called_so id.number _ b (written_so id (record { ns = ns; id = name; t = t; v = v }) level version b) h
  does_so id (act.Fetch ns name from to level version) b other h = called_so id.number _ b (fetched_so id ns (λ k. pick.One k name) (record { from = from; to = to }) level version b) h
  does_so id (act.Match ns wanted from to level version) b other h = called_so id.number _ b (fetched_so id ns (λ k. pick.Match k wanted) (record { from = from; to = to }) level version b) h
  does_so id (act.Fates list) b other h = fated_so list b h
  does_so id act.Deliver b other h = delivered_so b h
  does_so id (act.Stop node) b other h = stopped_so node b h
  does_so id (act.Restart node by) b other h = restarted_so node b h
  does_so id (act.Bootstrap node asked) b other h = cc
  does_so id act.Tick b other h = swept_so (call.Tick m.net.state.rules) b h
  does_so id act.Flush b other h = swept_so (call.Flush m.net.state.rules) b h
  does_so id act.Snapshot b other h = swept_so call.Snapshot b h
  does_so id act.Status b other h = told_so b h
  does_so id (act.Namespace name block past future retention) b other h = cc
  does_so id (act.Now now) b other h = cc
  does_so id _ b other h = absurd h

-- the cluster has the state that it had
pub state_stays : {D : Type 0} {G : Ghosts D} (state : D → DiskState) (depot : Depot D) (old : Cluster D G) (a : Act) (b : Answer) (after : Depot D) (new : Cluster D G) → saves_by a ≡ false → Serves state depot old a b after new → state_of new ≡ state_of old
state_stays {D} {G} state depot old a b after new other h = by a other h.members
  where
    on : (o : Option (Members D G)) (x : Act) → saves_by x ≡ false → OnMembers o (λ m g. Does state (next_call old.calls) m x b g) b new.members → option_map (λ (m : Members D G). m.net.state) new.members ≡ option_map (λ (m : Members D G). m.net.state) o
    on None x none h = ap (option_map (λ (m : Members D G). m.net.state)) h.1
    on (Some m) x none h = ap (option_map (λ (m : Members D G). m.net.state)) h.1 ∙ ap Some (does_so state m h.0 (next_call old.calls) x b none h.2)

    by : (x : Act) → saves_by x ≡ false → IsServedBy state old.calls depot old.members x b after new.members → state_of new ≡ state_of old
    by (act.Init rf shards seed nodes) none it = cc
    by (act.Add node group) none it = cc
    by (act.Drain node) none it = cc
    by (act.Cancel node) none it = cc
    by (act.Remove node) none it = cc
    by (act.Replace node with_ group) none it = cc
    by (act.Namespace name block past future retention) none it = cc
    by (act.Now now) none it = cc
    by (act.Write ns id t v level version) none it = on old.members (act.Write ns id t v level version) none it.0
    by (act.Fetch ns id from to level version) none it = on old.members (act.Fetch ns id from to level version) none it.0
    by (act.Match ns wanted from to level version) none it = on old.members (act.Match ns wanted from to level version) none it.0
    by (act.Fates list) none it = on old.members (act.Fates list) none it.0
    by act.Deliver none it = on old.members act.Deliver none it.0
    by (act.Stop node) none it = on old.members (act.Stop node) none it.0
    by (act.Restart node pick) none it = on old.members (act.Restart node pick) none it.0
    by (act.Bootstrap node asked) none it = cc
    by act.Tick none it = on old.members act.Tick none it.0
    by act.Flush none it = on old.members act.Flush none it.0
    by act.Snapshot none it = on old.members act.Snapshot none it.0
    by act.Status none it = on old.members act.Status none it.0
    by act.Repair none it = on old.members act.Repair none it.0
