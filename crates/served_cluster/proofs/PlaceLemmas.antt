-- After an act the placement stands that stood before it, or the one that its answer prints.
use Rattle.std.proofs.Common.{◌≡◌, ℕ, List, [], ◌∷◌, refl, sym, ap, ◌∙◌, inl, inr, arith, true}
use Rattle.std.specs.Prelude.{Option, Some, None, option_map}
use Rattle.m3_model.specs.declared.act.Act.{Act}
use Rattle.m3_model.specs.declared.act.Act.TheVariants as act
use Rattle.m3_model.specs.declared.act.Fate.{Fate}
use Rattle.m3_model.specs.declared.act.ReadLevel.{ReadLevel}
use Rattle.m3_model.specs.declared.act.WriteLevel.{WriteLevel}
use Rattle.m3_model.specs.declared.answer.Answer.{Answer}
use Rattle.m3_model.specs.declared.answer.Answer.TheVariants as answer
use Rattle.m3_model.specs.declared.placement.Placement.{Placement}
use Rattle.m3_model.specs.declared.point.Pick.{Pick}
use Rattle.m3_model.specs.declared.point.Pick.TheVariants as pick
use Rattle.m3_model.specs.declared.point.Point.{Point}
use Rattle.m3_model.specs.declared.rules.MetaState.{MetaState}
use Rattle.m3_model.specs.declared.rules.Space.{Space}
use Rattle.m3_outside.specs.Depots.{Depot}
use Rattle.m3_outside.specs.DiskState.{DiskState}
use Rattle.m3_outside.specs.declared.disk.Disk.{Ghosts}
use Rattle.placement_acts.specs.Acts.{is_step_act}
use Rattle.cluster_core.specs.declared.event.Event.{Event}
use Rattle.cluster_core.specs.declared.event.StepCall.{StepCall}
use Rattle.cluster_core.specs.declared.event.StepCall.TheVariants as call
use Rattle.line_tracks.specs.told_by.Steps.{IsUnmoved}
use Rattle.line_tracks.proofs.told_runs_proofs.StepLemmas.{nowhere_unmoved}
use Rattle.line_tracks.specs.replica_exchange.declared.call_id.CallId.{CallId}
use Rattle.line_tracks.specs.session_net.Reads.{Wish}
use Rattle.line_tracks.specs.session_net.declared.net.Net.{Net}
use Rattle.line_tracks.specs.transcripts.Placements.{later_placement, newer, printed}
use Rattle.line_tracks.specs.cluster_members.Calls.{IsFetchAnswer, IsMissing, IsReadAnswer, IsWriteAnswer, IsWritten, NamedPoint, placed, wish}
use Rattle.line_tracks.specs.cluster_members.Kept.{IsNumberOf, IsUnkept}
use Rattle.line_tracks.specs.cluster_members.Steps.{IsMoved, IsSpaceAdded}
use Rattle.line_tracks.specs.cluster_members.declared.calls.Range.{Range}
use Rattle.line_tracks.specs.cluster_members.declared.members.Members.{Members}
use Rattle.line_tracks.specs.node_calls.Nodes.{IsDeliverAnswer, IsFated, IsRestarted, IsStopped}
use Rattle.line_tracks.specs.cluster_upkeep.Upkeep.{IsSwept, IsTold}
use Rattle.line_tracks.specs.first_cluster.First.{IsRefusedInit}
use Rattle.line_tracks.specs.cluster_joins.Boots.{IsBooted, IsEndedBy}
use Rattle.line_tracks.specs.cluster_placements.Steps.{IsChanged, kept_in}
use Rattle.line_tracks.specs.told_joins.Lines as lines
use Rattle.line_tracks.proofs.acts.StandLemmas.{newer_next, newer_same}
use Rattle.line_tracks.specs.tracks.Acts.{Does, IsInitAnswer, IsServedBy, IsStepAnswer, MayCall, OnMembers, next_call}
use Rattle.served_cluster.specs.Acts.{Serves}
use Rattle.served_cluster.specs.Owned.{place_of}
use Rattle.served_cluster.specs.declared.cluster.Cluster.{Cluster}

-- ---- answers

unmoved_prints_none : (b : Answer) → IsUnmoved b → printed b ≡ None
unmoved_prints_none (answer.Placed place version) h = absurd h
unmoved_prints_none (answer.Available available place version) h = absurd h
unmoved_prints_none _ h = refl

number_prints_none : (number : ℕ) (b : Answer) → IsNumberOf number b → printed b ≡ None
number_prints_none number (answer.Unknown name) h = refl
number_prints_none number answer.Memory h = refl
number_prints_none number _ h = absurd h

unkept_prints_none : (standing : Placement) (past : List Placement) (version : Option ℕ) (b : Answer) → IsUnkept standing past version b → printed b ≡ None
unkept_prints_none standing past None b h = absurd h
unkept_prints_none standing past (Some version) b h = number_prints_none version b h.1

write_prints_none : {D : Type 0} {G : Ghosts D} (state : D → DiskState) (before after : Net D G) (id : CallId) (p : Point) (level : WriteLevel) (b : Answer) → IsWriteAnswer state before id p level b after → printed b ≡ None
write_prints_none state before after id p level (answer.Acks acks) h = refl
write_prints_none state before after id p level (answer.Consistency got needed reasons shard) h = refl
write_prints_none state before after id p level answer.Memory h = refl
write_prints_none state before after id p level answer.Full h = refl
write_prints_none state before after id p level _ h = absurd h

read_prints_none : {D : Type 0} {G : Ghosts D} (state : D → DiskState) (before after : Net D G) (id : CallId) (w : Wish) (level : ReadLevel) (b : Answer) → IsReadAnswer state before id w level b after → printed b ≡ None
read_prints_none state before after id w level (answer.Found series short) h = refl
read_prints_none state before after id w level (answer.Consistency got needed reasons shard) h = refl
read_prints_none state before after id w level answer.Memory h = refl
read_prints_none state before after id w level answer.Full h = refl
read_prints_none state before after id w level _ h = absurd h

refused_prints_none : {D : Type 0} (state : D → DiskState) (rf shards seed : ℕ) (nodes : List (List ℕ × List ℕ)) (depot after : Depot D) (b : Answer) → IsRefusedInit state rf shards seed nodes depot after b → printed b ≡ None
refused_prints_none state rf shards seed nodes depot after (answer.Group shard) h = refl
refused_prints_none state rf shards seed nodes depot after (answer.Disk name shard) h = refl
refused_prints_none state rf shards seed nodes depot after answer.Memory h = refl
refused_prints_none state rf shards seed nodes depot after _ h = absurd h

module _ {D : Type 0} {G : Ghosts D} (state : D → DiskState) (m g : Members D G) where
  -- what was printed, if anything, stands now
  abbrev Leaves : Answer → Type 0
  Leaves b = later_placement (printed b) (Some m.net.state.place) ≡ Some g.net.state.place

  place_stays : (b : Answer) → printed b ≡ None → g.net.state.place ≡ m.net.state.place → Leaves b
  place_stays b none same = ap (λ o. later_placement o (Some m.net.state.place)) none ∙ ap Some (sym same)

  state_stays : (b : Answer) → printed b ≡ None → g.net.state ≡ m.net.state → Leaves b
  state_stays b none same = place_stays b none (ap (λ (s : MetaState). s.place) same)

  all_stays : (b : Answer) → printed b ≡ None → g ≡ m → Leaves b
  all_stays b none same = state_stays b none (ap (λ (x : Members D G). x.net.state) same)

  -- ---- the rules, the fates and late messages

  named_so : (space : Space) (b : Answer) → IsSpaceAdded state m space b g → Leaves b
  named_so space answer.Done h = place_stays answer.Done refl (ap (λ (s : MetaState). s.place) h.1.state_is)
  named_so space answer.Order h = all_stays answer.Order refl h.1
  named_so space (answer.Limit limit) h = all_stays (answer.Limit limit) refl h.3
  named_so space answer.Memory h = all_stays answer.Memory refl h.1
  named_so space answer.Full h = all_stays answer.Full refl h.1.0
  named_so space _ h = absurd h

  moved_so : (now : ℕ) (b : Answer) → IsMoved state m now b g → Leaves b
  moved_so now answer.Done h = place_stays answer.Done refl (ap (λ (s : MetaState). s.place) h.1.state_is)
  moved_so now (answer.Clock moment) h = all_stays (answer.Clock moment) refl h.2
  moved_so now answer.Memory h = all_stays answer.Memory refl h.1
  moved_so now answer.Full h = all_stays answer.Full refl h.1.0
  moved_so now _ h = absurd h

  fated_so : (list : List (ℕ × ℕ × List ℕ × Fate)) (b : Answer) → IsFated m list b g → Leaves b
  fated_so list answer.Done h = state_stays answer.Done refl h.3.state
  fated_so list (answer.Unknown name) h = all_stays (answer.Unknown name) refl h.1
  fated_so list answer.Memory h = all_stays answer.Memory refl h
  fated_so list _ h = absurd h

  delivered_so : (b : Answer) → IsDeliverAnswer state m b g → Leaves b
  delivered_so (answer.Outcomes outcomes) h = state_stays (answer.Outcomes outcomes) refl h.1.state
  delivered_so answer.Memory h = state_stays answer.Memory refl h.1.state
  delivered_so answer.Full h = state_stays answer.Full refl h.1.state
  delivered_so _ h = absurd h

  -- ---- calls

  missing_so : (ns : List ℕ) (version : Option ℕ) (b : Answer) → IsMissing m ns version b g → Leaves b
  missing_so ns version b (inl none) = all_stays b (ap printed none.1) none.2
  missing_so ns version b (inr h) = all_stays b (unkept_prints_none m.net.state.place m.past.items version b h.unkept) h.same

  written_so : (id : CallId) (point : NamedPoint) (level : WriteLevel) (version : Option ℕ) (b : Answer) → IsWritten state m id point level version b g → Leaves b
  written_so id point level version b (inl missing) = missing_so point.ns version b missing
  written_so id point level version b (inr h) = state_stays b (write_prints_none state h.answers.before h.answers.after id (placed point h.position) level b h.answers.made) h.keeps.state

  fetched_so : (id : CallId) (ns : List ℕ) (by : ℕ → Pick) (range : Range) (level : ReadLevel) (version : Option ℕ) (b : Answer) → IsFetchAnswer state m id ns by range level version b g → Leaves b
  fetched_so id ns by range level version b (inl missing) = missing_so ns version b missing
  fetched_so id ns by range level version b (inr h) = state_stays b (read_prints_none state h.answers.before h.answers.after id (wish (by h.position) range) level b h.answers.made) h.keeps.state

  called_so : (number : ℕ) (Made : Type 0) (b : Answer) → (Made → Leaves b) → MayCall number Made b m g → Leaves b
  called_so number Made b made (inl h) = made h.1
  called_so number Made b made (inr none) = all_stays b (ap printed none.1) none.2

  -- ---- nodes

  stopped_so : (name : List ℕ) (b : Answer) → IsStopped state m name b g → Leaves b
  stopped_so name answer.Done h = state_stays answer.Done refl h.keeps.state
  stopped_so name (answer.Unknown unknown) h = all_stays (answer.Unknown unknown) refl h.2
  stopped_so name (answer.State node) h = all_stays (answer.State node) refl h.2
  stopped_so name answer.Full h = all_stays answer.Full refl h.1.same
  stopped_so name _ h = absurd h

  restarted_so : (name : List ℕ) (b : Answer) → IsRestarted state m name b g → Leaves b
  restarted_so name answer.Done h = state_stays answer.Done refl h.keeps.state
  restarted_so name (answer.Unknown unknown) h = all_stays (answer.Unknown unknown) refl h.2
  restarted_so name (answer.State node) h = all_stays (answer.State node) refl h.2
  restarted_so name (answer.Disk node shard) h = state_stays (answer.Disk node shard) refl h.1.keeps.state
  restarted_so name answer.Memory h = state_stays answer.Memory refl h.1.keeps.state
  restarted_so name answer.Full h = all_stays answer.Full refl h.1.same
  restarted_so name _ h = absurd h

  -- a placement in which moves are over is the next one
  left_so : (y : ℕ) (joined : List (ℕ × List ℕ)) (next : Placement) → lines.Leaves m.net.state.place y joined next → newer next (Some m.net.state.place) ≡ next
  left_so y [] next same = ap (λ (p : Placement). newer p (Some m.net.state.place)) same ∙ newer_same m.net.state.place ∙ sym same
  left_so y (x ∷ joined) next over = newer_next next m.net.state.place over.0.follows.version

  ended_so : (name : List ℕ) (asked : Option ℕ) (Adds : Placement → ℕ → Option ℕ → List Event → Type 0) (b : Answer) → printed b ≡ None → IsEndedBy state m name asked Adds g → Leaves b
  ended_so name asked Adds b none h = state_stays b none h.keeps.keeps.state

  bootstrapped_so : (name : List ℕ) (asked : Option ℕ) (b : Answer) → IsBooted state m name asked b g → Leaves b
  bootstrapped_so name asked (answer.Available available next version) (is, h) = ap Some (left_so h.may.runs.node (lines.joined_of h.opened) next h.adds.leaves ∙ sym (ap (λ (s : MetaState). s.place) h.state_is))
  bootstrapped_so name asked (answer.Peers got needed reasons shard) (peers, is, h) = ended_so name asked _ (answer.Peers got needed reasons shard) refl h
  bootstrapped_so name asked (answer.Disk node shard) (is, h) = ended_so name asked _ (answer.Disk node shard) refl h
  bootstrapped_so name asked (answer.Corrupt node shard damage) (is, shown, h) = ended_so name asked _ (answer.Corrupt node shard damage) refl h
  bootstrapped_so name asked answer.Memory (inl same) = all_stays answer.Memory refl same
  bootstrapped_so name asked answer.Memory (inr (inl (shard, h))) = ended_so name asked _ answer.Memory refl h
  bootstrapped_so name asked answer.Memory (inr (inr h)) = ended_so name asked _ answer.Memory refl h
  bootstrapped_so name asked answer.Full (lacks, h) = ended_so name asked _ answer.Full refl h
  bootstrapped_so name asked (answer.Limit limit) (is, h) = ended_so name asked _ (answer.Limit limit) refl h
  bootstrapped_so name asked (answer.Unknown unknown) (which, same) = all_stays (answer.Unknown unknown) refl same
  bootstrapped_so name asked (answer.State node) (was, has, is, same) = all_stays (answer.State node) refl same
  bootstrapped_so name asked _ h = absurd h

  -- ---- upkeep

  swept_so : (c : StepCall) (b : Answer) → IsSwept state c m b g → Leaves b
  swept_so c (answer.Swept done failed) h = state_stays (answer.Swept done failed) refl h.keeps.keeps.state
  swept_so c answer.Memory same = all_stays answer.Memory refl same
  swept_so c answer.Full h = all_stays answer.Full refl h.same
  swept_so c _ h = absurd h

  told_so : (b : Answer) → IsTold state m b g → Leaves b
  told_so (answer.Status now lines version) h = state_stays (answer.Status now lines version) refl h.keeps.keeps.state
  told_so answer.Memory same = all_stays answer.Memory refl same
  told_so answer.Full h = all_stays answer.Full refl h.same
  told_so _ h = absurd h

  -- ---- any act but `init`

  does_so : (id : CallId) (a : Act) (b : Answer) → Does state id m a b g → Leaves b
  does_so id (act.Namespace name block past future retention) b h = named_so (record { name = name; block = block; past = past; future = future; retention = retention }) b h
  does_so id (act.Now now) b h = moved_so now b h
  does_so id (act.Write ns name t v level version) b h = called_so id.number _ b (written_so id (record { ns = ns; id = name; t = t; v = v }) level version b) h
  does_so id (act.Fetch ns name from to level version) b h = called_so id.number _ b (fetched_so id ns (λ k. pick.One k name) (record { from = from; to = to }) level version b) h
  does_so id (act.Match ns wanted from to level version) b h = called_so id.number _ b (fetched_so id ns (λ k. pick.Match k wanted) (record { from = from; to = to }) level version b) h
  does_so id (act.Fates list) b h = fated_so list b h
  does_so id act.Deliver b h = delivered_so b h
  does_so id (act.Stop node) b h = stopped_so node b h
  does_so id (act.Restart node by) b h = restarted_so node b h
  does_so id (act.Bootstrap node asked) b h = bootstrapped_so node asked b h
  does_so id act.Tick b h = swept_so (call.Tick m.net.state.rules) b h
  does_so id act.Flush b h = swept_so (call.Flush m.net.state.rules) b h
  does_so id act.Snapshot b h = swept_so call.Snapshot b h
  does_so id act.Status b h = told_so b h
  does_so id _ b h = absurd h

  changed_so : (a : Act) (depot : Depot D) (b : Answer) (after : Depot D) → is_step_act a ≡ true → IsChanged state (kept_in m) a depot m b after g → Leaves b
  changed_so a depot b after step (inl h) =
      ap (λ x. later_placement (printed x) (Some m.net.state.place)) h.answer_is ∙ ap Some (newer_next h.next m.net.state.place h.leads.step.version ∙ sym (ap (λ (s : MetaState). s.place) h.placed.state_is))
  changed_so a depot b after step (inr (inl h)) = state_stays b (unmoved_prints_none b (nowhere_unmoved m.net.state.place (kept_in m) a b step h.nowhere)) h.same.state_is
  changed_so a depot b after step (inr (inr (inl h))) = state_stays b (ap printed h.answer_is) h.same.state_is
  changed_so a depot b after step (inr (inr (inr (inl h)))) = state_stays b (ap printed h.answer_is) h.same.state_is
  changed_so a depot b after step (inr (inr (inr (inr h)))) = state_stays b (ap printed h.answer_is) h.same.state_is

module _ {D : Type 0} {G : Ghosts D} (state : D → DiskState) where
  abbrev place_in : Option (Members D G) → Option Placement
  place_in o = option_map (λ (m : Members D G). m.net.state.place) o

  members_so : (id : CallId) (o : Option (Members D G)) (a : Act) (b : Answer) (new : Option (Members D G)) → OnMembers o (λ m g. Does state id m a b g) b new → later_placement (printed b) (place_in o) ≡ place_in new
  members_so id None a b new h = ap (λ x. later_placement (printed x) None) h.0 ∙ sym (ap place_in h.1)
  members_so id (Some m) a b new h = does_so state m h.0 id a b h.2 ∙ sym (ap place_in h.1)

  step_so : (o : Option (Members D G)) (a : Act) (depot : Depot D) (b : Answer) (after : Depot D) (new : Option (Members D G)) → is_step_act a ≡ true → IsStepAnswer state depot o a b after new → later_placement (printed b) (place_in o) ≡ place_in new
  step_so None a depot b after new step h = ap (λ x. later_placement (printed x) None) h.0 ∙ sym (ap place_in h.1)
  step_so (Some m) a depot b after new step h = changed_so state m h.0 a depot b after step h.2 ∙ sym (ap place_in h.1)

  init_so : (rf shards seed : ℕ) (nodes : List (List ℕ × List ℕ)) (o : Option (Members D G)) (depot : Depot D) (b : Answer) (after : Depot D) (new : Option (Members D G)) → IsInitAnswer state depot o rf shards seed nodes b after new → later_placement (printed b) (place_in o) ≡ place_in new
  init_so rf shards seed nodes o depot (answer.Placed place version) after new h = ap (λ x. later_placement (Some place) (place_in x)) h.0 ∙ ap Some h.4 ∙ sym (ap place_in h.2)
  init_so rf shards seed nodes o depot answer.Order after new h = sym (ap place_in h.1)
  init_so rf shards seed nodes o depot b after new h = ap (λ x. later_placement x (place_in o)) (refused_prints_none state rf shards seed nodes depot after b h.2) ∙ ap place_in h.0 ∙ sym (ap place_in h.1)

  -- so it is of any act
  pub serves_place : (depot : Depot D) (old : Cluster D G) (a : Act) (b : Answer) (after : Depot D) (new : Cluster D G) → Serves state depot old a b after new → later_placement (printed b) (place_of old) ≡ place_of new
  serves_place depot old a b after new h = by a h.members
    where
      by : (x : Act) → IsServedBy state old.calls depot old.members x b after new.members → later_placement (printed b) (place_of old) ≡ place_of new
      by (act.Init rf shards seed nodes) it = init_so rf shards seed nodes old.members depot b after new.members it
      by (act.Add node group) it = step_so old.members (act.Add node group) depot b after new.members refl it
      by (act.Drain node) it = step_so old.members (act.Drain node) depot b after new.members refl it
      by (act.Cancel node) it = step_so old.members (act.Cancel node) depot b after new.members refl it
      by (act.Remove node) it = step_so old.members (act.Remove node) depot b after new.members refl it
      by (act.Replace node with_ group) it = step_so old.members (act.Replace node with_ group) depot b after new.members refl it
      by (act.Namespace name block past future retention) it = members_so (next_call old.calls) old.members (act.Namespace name block past future retention) b new.members it.0
      by (act.Now now) it = members_so (next_call old.calls) old.members (act.Now now) b new.members it.0
      by (act.Write ns id t v level version) it = members_so (next_call old.calls) old.members (act.Write ns id t v level version) b new.members it.0
      by (act.Fetch ns id from to level version) it = members_so (next_call old.calls) old.members (act.Fetch ns id from to level version) b new.members it.0
      by (act.Match ns wanted from to level version) it = members_so (next_call old.calls) old.members (act.Match ns wanted from to level version) b new.members it.0
      by (act.Fates list) it = members_so (next_call old.calls) old.members (act.Fates list) b new.members it.0
      by act.Deliver it = members_so (next_call old.calls) old.members act.Deliver b new.members it.0
      by (act.Stop node) it = members_so (next_call old.calls) old.members (act.Stop node) b new.members it.0
      by (act.Restart node pick) it = members_so (next_call old.calls) old.members (act.Restart node pick) b new.members it.0
      by (act.Bootstrap node asked) it = members_so (next_call old.calls) old.members (act.Bootstrap node asked) b new.members it.0
      by act.Tick it = members_so (next_call old.calls) old.members act.Tick b new.members it.0
      by act.Flush it = members_so (next_call old.calls) old.members act.Flush b new.members it.0
      by act.Snapshot it = members_so (next_call old.calls) old.members act.Snapshot b new.members it.0
      by act.Status it = members_so (next_call old.calls) old.members act.Status b new.members it.0
      by act.Repair it = members_so (next_call old.calls) old.members act.Repair b new.members it.0
