-- A `status`: each replica reported.
use Rattle.std.proofs.Common.{◌≡◌, ◌≤◌, ℕ, List, ◌++◌, length, refl, sym, ap, ◌∙◌, subst, inl, inr, arith}
use Rattle.std.specs.Prelude.{Option}
use Rattle.std.specs.List.{flat_map}
use Rattle.m3_model.specs.Members.{IsIn}
use Rattle.m3_model.specs.declared.act.Act.TheVariants as act
use Rattle.m3_model.specs.declared.answer.Answer.{Answer}
use Rattle.m3_model.specs.declared.answer.Answer.TheVariants as answer
use Rattle.m3_model.specs.declared.answer.StatusLine.{StatusLine}
use Rattle.m3_model.specs.declared.limits.TheConstants.{MOST_REQUEST_EVENTS}
use Rattle.m3_model.specs.declared.rules.MetaState.{MetaState}
use Rattle.m3_model.specs.declared.rules.Rules.{Rules}
use Rattle.m3_model.specs.declared.turn.Turn.{Turn}
use Rattle.m3_model.proofs.MemberLemmas.{map-IsIn}
use Rattle.m3_model.proofs.Lists.{IsIn-flat_map, flat_map-IsIn}
use Rattle.m3_outside.specs.DiskState.{DiskState}
use Rattle.m3_outside.specs.declared.disk.Disk.{Ghosts}
use Rattle.placement_core.specs.Shards.{nodes_of, shard_at}
use Rattle.cluster_core.specs.declared.event.Asked.TheVariants as asked
use Rattle.cluster_core.specs.declared.event.Event.{Event}
use Rattle.cluster_core.specs.declared.event.Event.TheVariants as event
use Rattle.cluster_core.specs.declared.event.StepCall.{StepCall}
use Rattle.cluster_core.specs.declared.event.StepCall.TheVariants as call
use Rattle.cluster_core.specs.declared.event.StepReply.TheVariants as reply
use Rattle.node_calls.specs.session_net.Runs.{slot_at}
use Rattle.told_runs.specs.told_by.Hears.{HearsStatus, InStretch}
use Rattle.told_runs.specs.told_by.Lines.{position_after}
use Rattle.told_runs.specs.told_by.Makes.{MayAsk, MayMake}
use Rattle.told_runs.proofs.MemberLemmas.{listed_member}
use Rattle.transcripts.specs.Sweeps.{IsStatus}
use Rattle.line_tracks.specs.calls.Laws.{IsCalmCall}
use Rattle.node_calls.specs.cluster_members.declared.members.Members.{Members}
use Rattle.cluster_upkeep.specs.Status.{report_of, told_at}
use Rattle.cluster_upkeep.specs.Upkeep.{HasTold}
use Rattle.cluster_upkeep.proofs.SweepLemmas.{told_long, told_quiet}
use Rattle.line_tracks.specs.acts.Nodes.{LeavesStanding}
use Rattle.line_tracks.specs.acts.Stands.{ClusterStands}
use Rattle.told_joins.proofs.LineLemmas.{in_stretch}
use Rattle.line_tracks.proofs.acts.HaltLemmas.{IsHaltOf, plain_so}
use Rattle.line_tracks.specs.acts.Upkeep.{StatusTells}
use Rattle.line_tracks.proofs.acts.UpkeepLemmas.{leaves_standing, rules_here, slot_there, stands_here}

module _ {D : Type 0} {G : Ghosts D} (state : D → DiskState) (start : Option MetaState) (turns : List Turn) (old new : Members D G) (stands : ClusterStands start turns old) (now : ℕ) (lines : List StatusLine) (version : ℕ) (h : HasTold state old now lines version new) where
  abbrev b : Answer
  b = answer.Status now lines version

  abbrev more : List Event
  more = flat_map told_at lines

  abbrev events : List Event
  events = old.net.replicas.events

  abbrev Here : ℕ → Event → Type 0
  Here = InStretch (events ++ more) (length events) (length (events ++ more))

  abbrev IsReport : StepCall → Type 0
  IsReport c = c ≡ call.Report

  -- the node of a line has its shard
  member : (line : StatusLine) → IsIn lines line → IsIn (nodes_of (shard_at old.net.state.place line.shard)) line.node
  member line m = (h.members.each line.node line.shard).0 (map-IsIn (λ (x : StatusLine). (x.node, x.shard)) lines line m)

  abbrev step_of : StatusLine → Event
  step_of line = event.Step line.node line.shard call.Report (reply.Told (report_of line))

  -- each event is the report of one of the slots
  each : (e : Event) → IsIn more e → IsHaltOf IsReport old.slots.items e
  each e m = let found = IsIn-flat_map told_at lines e m in by found.0 found.1 found.2
    where
      by : (line : StatusLine) → IsIn lines line → IsIn (told_at line) e → IsHaltOf IsReport old.slots.items e
      by line among (inl is) = record { slot = slot_at line.node line.shard; among = slot_there start turns old stands line.node line.shard (member line among); c = call.Report; kind = refl; is = inr (reply.Told (report_of line), sym is) }
      by line among (inr none) = absurd none

  heard : HearsStatus events Here now version lines
  heard = record {
    rules = old.net.state.rules;
    clock = stands.ready.clock;
    now_is = h.now_is;
    place = old.net.state.place;
    last = stands.ready.place;
    version_is = h.version_is;
    each = λ line m. (listed_member old.net.state.place line.shard line.node (member line m), (report_of line, refl, refl, in_stretch events more (step_of line) (flat_map-IsIn told_at lines line (step_of line) m (inl refl))));
  }

  status_is : IsStatus start (position_after turns act.Status b) now lines version
  status_is = record {
    place = old.net.state.place;
    stands = stands_here start turns old stands act.Status b;
    now_is = h.now_is ∙ ap (λ (r : Rules). r.now) (rules_here start turns old stands act.Status b);
    version_is = h.version_is;
    members = h.members;
    states = h.states;
  }

  few : length more ≤ MOST_REQUEST_EVENTS
  few = let long = told_long lines in let low = h.few in omega (arith, long, low)

  told : LeavesStanding start turns old act.Status b new
  told = leaves_standing state start turns old new stands act.Status b (plain_so act.Status b (λ nodes e. cc) (λ u. u) refl refl refl) tt tt (λ available place from e. cc) IsReport (record {
    asks = λ past n s c is. subst (λ x. MayAsk start past (position_after turns act.Status b) act.Status (asked.Step n s x)) (sym is) tt;
    steps = λ past n s c r is. subst (λ x. MayMake start past (position_after turns act.Status b) (event.Step n s x r)) (sym is) tt;
    calm = λ c is. subst IsCalmCall (sym is) tt;
    no_restart = λ is. cc;
  }) more h.ran each h.keeps heard few tt status_is (told_quiet lines)

pub status_tells : {D : Type 0} {G : Ghosts D} (state : D → DiskState) (old : Members D G) → StatusTells state old
status_tells state old start turns new now lines version stands h = told state start turns old new stands now lines version h
