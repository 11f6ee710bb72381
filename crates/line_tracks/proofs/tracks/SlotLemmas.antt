-- What an act other than `init` leaves of the slots, and of which of them have replicas.
use Rattle.std.proofs.Common.{◌≡◌, ℕ, List, [], refl, sym, ap, ◌∙◌, subst, inl, inr}
use Rattle.std.proofs.lemmas.List.{append-nil}
use Rattle.std.specs.Prelude.{Option}
use Rattle.m3_model.specs.declared.act.Act.TheVariants as act
use Rattle.m3_model.specs.declared.act.Fate.{Fate}
use Rattle.m3_model.specs.declared.act.ReadLevel.{ReadLevel}
use Rattle.m3_model.specs.declared.act.WriteLevel.{WriteLevel}
use Rattle.m3_model.specs.declared.answer.Answer.{Answer}
use Rattle.m3_model.specs.declared.answer.Answer.TheVariants as answer
use Rattle.m3_model.specs.declared.point.Pick.{Pick}
use Rattle.m3_model.specs.declared.point.Pick.TheVariants as pick
use Rattle.m3_model.specs.declared.point.Point.{Point}
use Rattle.m3_model.specs.declared.rules.MetaState.{MetaState}
use Rattle.m3_model.specs.declared.rules.Space.{Space}
use Rattle.m3_outside.specs.DiskState.{DiskState}
use Rattle.m3_outside.specs.declared.disk.Disk.{Ghosts}
use Rattle.cluster_core.specs.declared.event.Event.{Event}
use Rattle.cluster_core.specs.declared.event.StepCall.{StepCall}
use Rattle.cluster_core.specs.declared.event.StepCall.TheVariants as call
use Rattle.node_calls.specs.replica_exchange.declared.call_id.CallId.{CallId}
use Rattle.node_calls.specs.replica_calls.Calls.{Tracked}
use Rattle.node_calls.specs.session_net.Reads.{Wish}
use Rattle.node_calls.specs.session_net.Runs.{Ran}
use Rattle.node_calls.specs.session_net.declared.net.Net.{Net}
use Rattle.node_calls.specs.cluster_members.Calls.{IsFetchAnswer, IsMissing, IsReadAnswer, IsWriteAnswer, IsWritten, NamedPoint, placed, wish}
use Rattle.node_calls.specs.cluster_members.Steps.{IsMoved, IsSpaceAdded}
use Rattle.node_calls.specs.cluster_members.declared.calls.Range.{Range}
use Rattle.node_calls.specs.cluster_members.declared.members.Members.{Members}
use Rattle.node_calls.specs.Halts.{HaveSameSlots}
use Rattle.node_calls.specs.Nodes.{IsDeliverAnswer, IsFated, IsRestarted, IsStopped}
use Rattle.node_calls.proofs.RunLemmas.{same_itself, same_slots}
use Rattle.cluster_upkeep.specs.Upkeep.{IsSwept, IsTold}
use Rattle.line_tracks.specs.tracks.Acts.{MayCall}
use Rattle.line_tracks.specs.tracks.Slots.{ActsKeepSlots, KeepsSlots}

module _ {D : Type 0} {G : Ghosts D} (state : D → DiskState) (m g : Members D G) where
  -- ---- what stayed

  -- with the state by which calls go the placement stays
  place_by : g.net.state ≡ m.net.state → g.net.state.place ≡ m.net.state.place
  place_by same = ap (λ (s : MetaState). s.place) same

  -- the replicas stay
  stay_so : g.slots.items ≡ m.slots.items → g.past.items ≡ m.past.items → g.net.state.place ≡ m.net.state.place → g.net.replicas ≡ m.net.replicas → KeepsSlots m g
  stay_so slots past place same = record {
    slots = slots;
    past = past;
    place = place;
    came = ([], ap (λ (t : Tracked D). t.events) same ∙ sym (append-nil m.net.replicas.events));
    only = λ s none. refl;
    same = subst (λ (t : Tracked D). HaveSameSlots m.net.replicas t) (sym same) (same_itself m.net.replicas);
  }

  -- all that calls may change stays
  net_stays : g.slots.items ≡ m.slots.items → g.past.items ≡ m.past.items → g.net ≡ m.net → KeepsSlots m g
  net_stays slots past same = stay_so slots past (ap (λ (n : Net D G). n.state.place) same) (ap (λ (n : Net D G). n.replicas) same)

  -- nothing changed
  all_stays : g ≡ m → KeepsSlots m g
  all_stays same = net_stays (ap (λ (x : Members D G). x.slots.items) same) (ap (λ (x : Members D G). x.past.items) same) (ap (λ (x : Members D G). x.net) same)

  -- these events came, by which the replicas took steps
  steps_so : (more : List Event) → g.slots.items ≡ m.slots.items → g.past.items ≡ m.past.items → g.net.state.place ≡ m.net.state.place → Ran state m.net.replicas more g.net.replicas → KeepsSlots m g
  steps_so more slots past place ran = record { slots = slots; past = past; place = place; came = (more, ran.grew); only = ran.only; same = same_slots state m.net.replicas g.net.replicas more ran }

  -- ---- the rules, the fates and late messages

  named_so : (space : Space) (b : Answer) → IsSpaceAdded state m space b g → KeepsSlots m g
  named_so space answer.Done h = steps_so _ h.1.slots h.1.past (ap (λ (s : MetaState). s.place) h.1.state_is) h.1.ran
  named_so space answer.Order h = all_stays h.1
  named_so space (answer.Limit limit) h = all_stays h.3
  named_so space answer.Memory h = all_stays h.1
  named_so space answer.Full h = all_stays h.1.0
  named_so space _ h = absurd h

  moved_so : (now : ℕ) (b : Answer) → IsMoved state m now b g → KeepsSlots m g
  moved_so now answer.Done h = steps_so _ h.1.slots h.1.past (ap (λ (s : MetaState). s.place) h.1.state_is) h.1.ran
  moved_so now (answer.Clock moment) h = all_stays h.2
  moved_so now answer.Memory h = all_stays h.1
  moved_so now answer.Full h = all_stays h.1.0
  moved_so now _ h = absurd h

  fated_so : (list : List (ℕ × ℕ × List ℕ × Fate)) (b : Answer) → IsFated m list b g → KeepsSlots m g
  fated_so list answer.Done h = stay_so h.3.slots h.3.past (place_by h.3.state) h.3.replicas
  fated_so list (answer.Unknown name) h = all_stays h.1
  fated_so list answer.Memory h = all_stays h
  fated_so list _ h = absurd h

  delivered_so : (b : Answer) → IsDeliverAnswer state m b g → KeepsSlots m g
  delivered_so (answer.Outcomes outcomes) h = steps_so h.0.puts h.1.slots h.1.past (place_by h.1.state) h.0.ran
  delivered_so answer.Memory h = stay_so h.1.slots h.1.past (place_by h.1.state) h.0.0
  delivered_so answer.Full h = net_stays h.1.slots h.1.past h.0.0
  delivered_so _ h = absurd h

  -- ---- calls

  -- by whatever placement it goes
  module _ (before after : Net D G) (from : before.replicas ≡ m.net.replicas) (to : after.replicas ≡ g.net.replicas) (slots : g.slots.items ≡ m.slots.items) (past : g.past.items ≡ m.past.items) (place : g.net.state.place ≡ m.net.state.place) where
    by_steps : (more : List Event) → Ran state before.replicas more after.replicas → KeepsSlots m g
    by_steps more ran = steps_so more slots past place (subst (λ (t : Tracked D). Ran state m.net.replicas more t) to (subst (λ (t : Tracked D). Ran state t more after.replicas) from ran))

    by_none : after ≡ before → KeepsSlots m g
    by_none same = stay_so slots past place (sym to ∙ ap (λ (n : Net D G). n.replicas) same ∙ from)

    put_so : (id : CallId) (p : Point) (level : WriteLevel) (b : Answer) → IsWriteAnswer state before id p level b after → KeepsSlots m g
    put_so id p level (answer.Acks acks) h = by_steps _ h.ran
    put_so id p level (answer.Consistency got needed reasons shard) h = by_steps _ h.ran
    put_so id p level answer.Memory (inl same) = by_none same
    put_so id p level answer.Memory (inr h) = by_steps _ h.ran
    put_so id p level answer.Full h = by_none h.0
    put_so id p level _ h = absurd h

    read_so : (id : CallId) (w : Wish) (level : ReadLevel) (b : Answer) → IsReadAnswer state before id w level b after → KeepsSlots m g
    read_so id w level (answer.Found series short) h = by_steps h.events h.ran
    read_so id w level (answer.Consistency got needed reasons shard) h = by_steps _ h.ran
    read_so id w level answer.Memory (inl h) = by_steps h.events h.ran
    read_so id w level answer.Memory (inr h) = by_steps _ h.ran
    read_so id w level answer.Full h = by_steps h.events h.ran
    read_so id w level _ h = absurd h

  -- what it names is missing
  missing_so : (ns : List ℕ) (version : Option ℕ) (b : Answer) → IsMissing m ns version b g → KeepsSlots m g
  missing_so ns version b (inl none) = all_stays none.2
  missing_so ns version b (inr h) = all_stays h.same

  written_so : (id : CallId) (point : NamedPoint) (level : WriteLevel) (version : Option ℕ) (b : Answer) → IsWritten state m id point level version b g → KeepsSlots m g
  written_so id point level version b (inl missing) = missing_so point.ns version b missing
  written_so id point level version b (inr h) =
      let went = h.answers in put_so went.before went.after (went.began).replicas (went.ended).replicas h.keeps.slots h.keeps.past (place_by h.keeps.state) id (placed point h.position) level b went.made

  fetched_so : (id : CallId) (ns : List ℕ) (by : ℕ → Pick) (range : Range) (level : ReadLevel) (version : Option ℕ) (b : Answer) → IsFetchAnswer state m id ns by range level version b g → KeepsSlots m g
  fetched_so id ns by range level version b (inl missing) = missing_so ns version b missing
  fetched_so id ns by range level version b (inr h) =
      let went = h.answers in read_so went.before went.after (went.began).replicas (went.ended).replicas h.keeps.slots h.keeps.past (place_by h.keeps.state) id (wish (by h.position) range) level b went.made

  -- a call is made, or there is no number for it
  called_so : (number : ℕ) (Made : Type 0) (b : Answer) → (Made → KeepsSlots m g) → MayCall number Made b m g → KeepsSlots m g
  called_so number Made b made (inl h) = made h.1
  called_so number Made b made (inr none) = all_stays none.2

  -- ---- nodes

  stopped_so : (name : List ℕ) (b : Answer) → IsStopped state m name b g → KeepsSlots m g
  stopped_so name answer.Done h = steps_so _ h.keeps.slots h.keeps.past (place_by h.keeps.state) h.stopped
  stopped_so name (answer.Unknown unknown) h = all_stays h.2
  stopped_so name (answer.State node) h = all_stays h.2
  stopped_so name answer.Full h = all_stays h.1.same
  stopped_so name _ h = absurd h

  restarted_so : (name : List ℕ) (b : Answer) → IsRestarted state m name b g → KeepsSlots m g
  restarted_so name answer.Done h = steps_so _ h.keeps.slots h.keeps.past (place_by h.keeps.state) h.restarted
  restarted_so name (answer.Unknown unknown) h = all_stays h.2
  restarted_so name (answer.State node) h = all_stays h.2
  restarted_so name (answer.Disk node shard) h = steps_so _ h.1.keeps.slots h.1.keeps.past (place_by h.1.keeps.state) h.1.stopped
  restarted_so name answer.Memory h = steps_so _ h.1.keeps.slots h.1.keeps.past (place_by h.1.keeps.state) h.1.stopped
  restarted_so name answer.Full h = all_stays h.1.same
  restarted_so name _ h = absurd h

  -- ---- upkeep

  swept_so : (c : StepCall) (b : Answer) → IsSwept state c m b g → KeepsSlots m g
  swept_so c (answer.Swept done failed) h = steps_so _ h.keeps.keeps.slots h.keeps.keeps.past (place_by h.keeps.keeps.state) h.ran
  swept_so c answer.Memory same = all_stays same
  swept_so c answer.Full h = all_stays h.same
  swept_so c _ h = absurd h

  told_so : (b : Answer) → IsTold state m b g → KeepsSlots m g
  told_so (answer.Status now lines version) h = steps_so _ h.keeps.keeps.slots h.keeps.keeps.past (place_by h.keeps.keeps.state) h.ran
  told_so answer.Memory same = all_stays same
  told_so answer.Full h = all_stays h.same
  told_so _ h = absurd h

-- each act but `init` and a bootstrap leaves the slots, and which of them have replicas
pub acts_keep_slots : {D : Type 0} {G : Ghosts D} (state : D → DiskState) (m : Members D G) → ActsKeepSlots state m
acts_keep_slots state m id (act.Namespace name block past future retention) b g other h = named_so state m g (record { name = name; block = block; past = past; future = future; retention = retention }) b h
acts_keep_slots state m id (act.Now now) b g other h = moved_so state m g now b h
acts_keep_slots state m id (act.Write ns name t v level version) b g other h = called_so state m g id.number _ b (written_so state m g id (record { ns = ns; id = name; t = t; v = v }) level version b) h
acts_keep_slots state m id (act.Fetch ns name from to level version) b g other h = called_so state m g id.number _ b (fetched_so state m g id ns (λ k. pick.One k name) (record { from = from; to = to }) level version b) h
acts_keep_slots state m id (act.Match ns wanted from to level version) b g other h = called_so state m g id.number _ b (fetched_so state m g id ns (λ k. pick.Match k wanted) (record { from = from; to = to }) level version b) h
acts_keep_slots state m id (act.Fates list) b g other h = fated_so state m g list b h
acts_keep_slots state m id act.Deliver b g other h = delivered_so state m g b h
acts_keep_slots state m id (act.Stop node) b g other h = stopped_so state m g node b h
acts_keep_slots state m id (act.Restart node by) b g other h = restarted_so state m g node b h
acts_keep_slots state m id (act.Bootstrap node asked) b g other h = cc
acts_keep_slots state m id act.Tick b g other h = swept_so state m g (call.Tick m.net.state.rules) b h
acts_keep_slots state m id act.Flush b g other h = swept_so state m g (call.Flush m.net.state.rules) b h
acts_keep_slots state m id act.Snapshot b g other h = swept_so state m g call.Snapshot b h
acts_keep_slots state m id act.Status b g other h = told_so state m g b h
acts_keep_slots state m id _ b g other h = absurd h
