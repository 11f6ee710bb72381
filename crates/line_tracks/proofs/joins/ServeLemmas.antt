-- What a bootstrap leaves of the list tells of its line, and serves it.
use Rattle.std.proofs.Common.{◌≡◌, ◌<◌, ℕ, List, [], ◌∷◌, ◌++◌, length, refl, sym, ap, subst, inl, inr, arith, Bool, true, false, ◌+◌, ◌*◌}
use Rattle.std.specs.Prelude.{◌⊎◌, Option, Some, None, decimal}
use Rattle.std.specs.FinMap as finite
use Rattle.std.proofs.lemmas.List.{append-nil}
use Rattle.m3_model.specs.Members.{IsIn}
use Rattle.m3_model.specs.declared.act.Act.{Act}
use Rattle.m3_model.specs.declared.act.Act.TheVariants as act
use Rattle.m3_model.specs.declared.answer.Answer.{Answer}
use Rattle.m3_model.specs.declared.answer.Answer.TheVariants as answer
use Rattle.m3_model.specs.declared.limits.TheConstants.{MOST_SHARDS, MOST_VERSIONS}
use Rattle.m3_model.specs.declared.placement.Placement.{Placement}
use Rattle.m3_model.specs.declared.reason.Reason.{Reason}
use Rattle.m3_model.specs.declared.reason.Reason.TheVariants as reason
use Rattle.m3_model.specs.declared.rules.MetaState.{MetaState}
use Rattle.m3_model.specs.declared.turn.Request.{Request}
use Rattle.m3_model.specs.declared.turn.Turn.{Turn}
use Rattle.m3_outside.specs.DiskState.{DiskState}
use Rattle.m3_outside.specs.declared.disk.Disk.{Ghosts}
use Rattle.cluster_core.specs.Core.{AgreesWith}
use Rattle.cluster_core.specs.Legal.{Legal}
use Rattle.cluster_core.specs.declared.event.Event.{Event}
use Rattle.cluster_core.specs.declared.event.Event.TheVariants as event
use Rattle.cluster_core.specs.declared.event.StepCall.TheVariants as call
use Rattle.cluster_core.specs.declared.event.StepReply.{StepReply}
use Rattle.node_calls.specs.replica_exchange.declared.member.Member.{Member}
use Rattle.node_calls.specs.replica_exchange.declared.slot.Slot.{Slot}
use Rattle.node_calls.specs.replica_calls.Calls.{Tracked}
use Rattle.node_calls.specs.session_net.Runs.{Ran, slot_at}
use Rattle.told_runs.specs.told_by.Makes.{IsAssigned}
use Rattle.told_runs.specs.Answers.{MayLackRoom}
use Rattle.told_runs.specs.Lines.{IsToldAndServed, OpensNext, delivered_on}
use Rattle.told_runs.proofs.LineLemmas.{plain_serves}
use Rattle.transcripts.specs.Caused.{kept_after}
use Rattle.transcripts.specs.Deliveries.{LateMessage}
use Rattle.transcripts.specs.Faults.{Fault}
use Rattle.transcripts.specs.Record.{Record, TurnPosition, inner_turns, line_of}
use Rattle.line_tracks.specs.calls.Left.{WereDelivered}
use Rattle.line_tracks.proofs.calls.DeliverLemmas.{nothing_serves, nothing_tells}
use Rattle.line_tracks.proofs.calls.ServeLemmas.{may_lack}
use Rattle.node_calls.specs.cluster_members.Names.{node_named}
use Rattle.node_calls.specs.cluster_members.declared.members.Members.{Members}
use Rattle.node_calls.specs.Nodes.{HasShard, IsNode, IsNoShard, IsNowhere, MayBoot}
use Rattle.line_tracks.specs.acts.Due.{BootstrapDue, IsDueNext}
use Rattle.line_tracks.specs.acts.Opens.{IsTenureUnowned, MayOpenSlots}
use Rattle.line_tracks.specs.acts.Settings.{LeavesNothing}
use Rattle.line_tracks.specs.acts.Stands.{ClusterStands}
use Rattle.line_tracks.specs.joins.Serves.{BootsServe}
use Rattle.line_tracks.proofs.calls.ActLemmas.{damage_shown}
use Rattle.line_tracks.proofs.acts.DueLemmas.{bootstraps_are_due}
use Rattle.line_tracks.proofs.acts.NameLemmas.{listed_where}
use Rattle.line_tracks.proofs.acts.NodeStands.{of_name, stopped_so}
use Rattle.line_tracks.proofs.acts.NothingLemmas.{refused_tells}
use Rattle.line_tracks.proofs.acts.OpenLemmas.{opens_next}
use Rattle.node_joins.specs.Unowned as joins
use Rattle.told_joins.specs.Laws.{IsHeldUpLine, IsJoinLine, IsMissedLine, IsPartLine, IsUnmarkedLine, StaysServed}
use Rattle.told_joins.specs.Lines.{AddsHeldUp, AddsPart, AddsUnmarked, AnswersHeldUp, MeetsBoot, joined_of}
use Rattle.told_joins.proofs.AskLemmas.{held_each, missed_each, part_each, unmarked_each}
use Rattle.told_joins.proofs.JoinLemmas.{held_up_serve, joins_serve, part_serves}
use Rattle.told_joins.proofs.MissLemmas.{missed_joins_serve, unmarked_joins_serve}
use Rattle.join_bounds.specs.Bounds.{AreFew}
use Rattle.join_bounds.proofs.FewLemmas.{held_up_few, joins_few, missed_few, part_few, unmarked_few}
use Rattle.cluster_placements.specs.Steps.{kept_in}
use Rattle.cluster_joins.specs.Boots.{IsBooted, IsEndedBy}
use Rattle.life_ends.specs.Runs.{OpensAsLeft}
use Rattle.line_tracks.proofs.joins.CameLemmas.{begins_by, came_there, joins_begin}

module _ {D : Type 0} {G : Ghosts D} (state : D → DiskState) (old : Members D G) (tells : Bool) (past : List Record) (start : Option MetaState) (turns : List Turn) (unanswered later : Option Request) (taking : List Fault) (was : TurnPosition → List LateMessage) (name : List ℕ) (asked : Option ℕ)
    (told : IsToldAndServed tells taking was past start turns unanswered old.net.replicas.events) (were : WereDelivered turns was) (stands : ClusterStands start turns old) (may : MayOpenSlots state tells start old.net.replicas) where
  abbrev place : Placement
  place = old.net.state.place

  abbrev events : List Event
  events = old.net.replicas.events

  abbrev a : Act
  a = act.Bootstrap name asked

  abbrev Served : Answer → List Event → Type 0
  Served b es = IsToldAndServed tells taking (delivered_on turns was (λ p. [])) past start (turns ++ line_of a b ∷ []) later es

  -- so many placements are kept
  kept_is : kept_after start (inner_turns turns) place ≡ kept_in old
  kept_is = stands.kept.count

  -- ---- nothing changed

  nothing_served : (b : Answer) → LeavesNothing start turns events a b → Served b events
  nothing_served b h =
      let line = h.line in
      subst (Served b) (sym line.grew) (plain_serves past start turns unanswered later events a b line.more [] taking [] was told line.line (line.serves tells was past were))

  -- memory was wanted before anything was done
  wanted_served : Served answer.Memory events
  wanted_served = subst (Served answer.Memory) (append-nil events) (plain_serves past start turns unanswered later events a answer.Memory [] [] taking [] was told (nothing_tells start turns events a answer.Memory tt) (nothing_serves tells was past start turns events a were))

  refused_served : (b : Answer) → IsDueNext start turns a b (Some b) → Served b events
  refused_served b due = nothing_served b (refused_tells start turns events a b due)

  due_of : (b : Answer) → BootstrapDue start turns place name asked b
  due_of b = bootstraps_are_due start turns place old.net.state.rules (record { rules_are = stands.left.rules; place_is = stands.left.place }) name asked b

  away_served : (unknown : List ℕ) → IsNowhere old name → unknown ≡ name → Served (answer.Unknown unknown) events
  away_served unknown nowhere same = subst (λ n. Served (answer.Unknown n) events) (sym same) (refused_served (answer.Unknown name) ((due_of (answer.Unknown name)).unknown nowhere))

  no_shard_served : (unknown : List ℕ) (node : ℕ) → node_named name place.instances ≡ Some node → IsNoShard old asked unknown → Served (answer.Unknown unknown) events
  no_shard_served unknown node found none = by asked refl none
    where
      by : (o : Option ℕ) → asked ≡ o → IsNoShard old o unknown → Served (answer.Unknown unknown) events
      by None is h = absurd h
      by (Some shard) is h = subst (λ n. Served (answer.Unknown n) events) (sym h.1) (refused_served (answer.Unknown (decimal shard)) ((due_of (answer.Unknown (decimal shard))).no_shard node shard found is h.0))

  has_by : HasShard old asked → (s : ℕ) → asked ≡ Some s → s < length place.shards
  has_by has s is = subst (HasShard old) is has

  stopped_served : (node : List ℕ) → IsNode old name true → HasShard old asked → node ≡ name → Served (answer.State node) events
  stopped_served node of has same =
      subst (λ n. Served (answer.State n) events) (sym same) (refused_served (answer.State name) ((due_of (answer.State name)).state of.node of.found (has_by has) (stopped_so start turns old stands name true of)))

  -- ---- replicas took steps

  -- the same in the words of the cluster
  owner_of : (slot : Slot) (es : List Event) (tenure : ℕ) → joins.IsTenureUnowned state old.net.replicas.members slot es tenure → IsTenureUnowned state old.net.replicas.members slot es tenure
  owner_of slot es tenure h = record { was = h.was; there = h.there; now = h.now; is = h.is; first = h.first; unowned = h.unowned }

  module _ (boot : MayBoot old name asked) where
    abbrev y : ℕ
    y = boot.runs.node

    meets : MeetsBoot start turns place name asked y
    meets = record {
      stands = stands.left.place;
      named = of_name start turns old stands name false boot.runs;
      listed = listed_where place name y boot.runs.found;
      runs = stopped_so start turns old stands name false boot.runs;
      has_shard = has_by boot.has_shard;
    }

    module _ (new : Tracked D) (more : List Event) (ran : Ran state old.net.replicas more new) (unowned : joins.AreUnowned state old.net.replicas.members events more)
        (begins : (n s tenure : ℕ) (r : StepReply) → IsIn more (event.Step n s (call.Begin tenure) r) → IsAssigned place n s tenure) (legal : Legal tells new.events) (left : tells ≡ true → OpensAsLeft past start new.events) where
      there : (n s tenure : ℕ) (r : StepReply) → IsIn more (event.Step n s (call.Begin tenure) r) → (had : Member D) × (finite.get old.net.replicas.members (slot_at n s) ≡ Some had)
      there n s tenure r m = by (finite.get old.net.replicas.members (slot_at n s)) refl
        where
          by : (o : Option (Member D)) → finite.get old.net.replicas.members (slot_at n s) ≡ o → (had : Member D) × (finite.get old.net.replicas.members (slot_at n s) ≡ Some had)
          by None none = absurd (came_there state old.net.replicas new more ran n s (call.Begin tenure) r m none)
          by (Some had) is = (had, is)

      opens : tells ≡ true → OpensNext start events more
      opens tell =
          opens_next state tells start place old.net.replicas new stands.ready.place stands.ready.lawful may more ran (λ n s tenure r m. (place, stands.ready.place, begins n s tenure r m)) tell
          (λ n s tenure j at. let u = unowned n s tenure j at in (u.0, u.1, u.2, owner_of (slot_at n s) _ tenure u.3)) there

      legal_now : Legal tells (events ++ more)
      legal_now = subst (Legal tells) ran.grew legal

      served_by : (Adds : Placement → ℕ → Option ℕ → List ℕ → Answer → ℕ → List Event → List Event → Type 0) (b : Answer) → StaysServed tells Adds → AreFew Adds → Adds place y asked name b (kept_after start (inner_turns turns) place) events more → Served b new.events
      served_by Adds b serve few adds =
          subst (Served b) (sym ran.grew) (serve past start turns unanswered later events taking was told place name asked y b more meets (record {
            legal = legal_now;
            opens = opens;
            few = λ is. (let l = left is in
                few past start turns events more l.opening (subst (λ t. Legal t (events ++ more)) is legal_now) (subst (λ es. AgreesWith es l.opening) ran.grew l.agrees) l.stands told.0 place stands.ready.lawful name asked y b (kept_after start (inner_turns turns) place) adds);
          }) adds)

  -- ---- where it ended before a placement

  module _ (new : Members D G) (legal : Legal tells new.net.replicas.events) (left : tells ≡ true → OpensAsLeft past start new.net.replicas.events) where
    held_served : (s : ℕ) (why : Reason) (b : Answer) → AnswersHeldUp name s why b → IsEndedBy state old name asked (λ p y only. AddsHeldUp p y only s why) new → Served b new.net.replicas.events
    held_served s why b answers h =
        served_by h.may new.net.replicas h.more h.ran h.unowned (begins_by place h.may.runs.node asked h.more (held_each place h.may.runs.node asked s why h.more h.adds)) legal left IsHeldUpLine b held_up_serve held_up_few
        (record { shard = s; why = why; adds = h.adds; answers = answers })

    part_served : (b : Answer) → ((es : List Event) → new.net.replicas.events ≡ es → (b ≡ answer.Memory) ⊎ ((b ≡ answer.Full) × MayLackRoom (length es))) → IsEndedBy state old name asked AddsPart new → Served b new.net.replicas.events
    part_served b answers h =
        served_by h.may new.net.replicas h.more h.ran h.unowned (begins_by place h.may.runs.node asked h.more (part_each place h.may.runs.node asked h.more h.adds)) legal left IsPartLine b part_serves part_few
        (record { adds = h.adds; answers = answers (events ++ h.more) h.ran.grew })

    booted_served : (b : Answer) → IsBooted state old name asked b new → Served b new.net.replicas.events
    booted_served (answer.Available available shown version) (version_is, h) =
        let opened = h.opened in
        served_by h.may new.net.replicas h.more h.ran h.unowned (joins_begin place h.may.runs.node asked opened shown h.more h.adds) legal left IsJoinLine (answer.Available available shown version) joins_serve joins_few (record {
          opened = opened;
          next = shown;
          adds = h.adds;
          room = elim h.room as (λ _. (joined_of opened ≡ []) ⊎ (kept_after start (inner_turns turns) place < MOST_VERSIONS)) [ inl none ↦ inl none | inr low ↦ inr (subst (λ n. n < MOST_VERSIONS) (sym kept_is) low) ];
          answers = λ i. answer.Available (h.available_is i) shown (version_is i);
        })
    booted_served (answer.Peers got needed reasons shard) (peers, is, h) =
        served_by h.may new.net.replicas h.more h.ran h.unowned (begins_by place h.may.runs.node asked h.more (missed_each place h.may.runs.node asked shard peers h.more h.adds)) legal left IsMissedLine (answer.Peers got needed reasons shard) missed_joins_serve missed_few
        (record { shard = shard; peers = peers; adds = h.adds; answers = is })
    booted_served (answer.Disk node shard) (same, h) = held_served shard reason.Disk (answer.Disk node shard) (ap (λ n. answer.Disk n shard) same) h
    booted_served (answer.Corrupt node shard damage) (same, damaged, h) = held_served shard (reason.Corrupt damage) (answer.Corrupt node shard damage) (ap (λ n. answer.Corrupt n shard damage) same, damage_shown damage damaged) h
    booted_served answer.Memory (inl same) = subst (λ (m : Members D G). Served answer.Memory m.net.replicas.events) (sym same) wanted_served
    booted_served answer.Memory (inr (inl (shard, h))) = held_served shard reason.Memory answer.Memory refl h
    booted_served answer.Memory (inr (inr h)) = part_served answer.Memory (λ es is. inl refl) h
    booted_served answer.Full (lacks, h) = part_served answer.Full (λ es is. inr (refl, subst (λ xs. MayLackRoom (length xs)) is (may_lack (2 + 2 * MOST_SHARDS) new.net.replicas.events (omega arith) lacks))) h
    booted_served (answer.Limit limit) (limit_is, h) =
        served_by h.may new.net.replicas h.more h.ran h.unowned (begins_by place h.may.runs.node asked h.more (unmarked_each place h.may.runs.node asked (kept_in old) h.more h.adds)) legal left IsUnmarkedLine (answer.Limit limit) unmarked_joins_serve unmarked_few
        (record { adds = subst (λ k. AddsUnmarked place h.may.runs.node asked k h.more) (sym kept_is) h.adds; answers = ap (λ n. answer.Limit n) limit_is })
    booted_served (answer.Unknown unknown) (inl (nowhere, same), is) = subst (λ (m : Members D G). Served (answer.Unknown unknown) m.net.replicas.events) (sym is) (away_served unknown nowhere same)
    booted_served (answer.Unknown unknown) (inr (node, found, none), is) = subst (λ (m : Members D G). Served (answer.Unknown unknown) m.net.replicas.events) (sym is) (no_shard_served unknown node found none)
    booted_served (answer.State node) (of, has, same, is) = subst (λ (m : Members D G). Served (answer.State node) m.net.replicas.events) (sym is) (stopped_served node of has same)
    booted_served _ h = absurd h

pub bootstraps_serve : {D : Type 0} {G : Ghosts D} (state : D → DiskState) (old : Members D G) → BootsServe state old
bootstraps_serve state old tells past start turns unanswered later taking was name asked b new told were stands may legal left booted =
    booted_served state old tells past start turns unanswered later taking was name asked told were stands may new legal left b booted
