-- Why each answer of a run is what it is, put together.
use Rattle.std.proofs.Common.{◌≡◌, ◌≤◌, ◌<◌, ℕ, suc, Bool, List, [], ◌∷◌, ◌++◌, map, take, length, refl, sym, ap, ◌∙◌, subst, inl, inr, arith}
use Rattle.std.specs.Prelude.{Some, None, Option, IsTrue, true, false, if◌then◌else◌}
use Rattle.std.proofs.lemmas.Option.{same_Some}
use Rattle.m3_model.proofs.MemberLemmas.{IsIn-append_left, IsIn-append_right, map-IsIn}
use Rattle.m3_model.specs.Calls.{is_call}
use Rattle.m3_model.specs.Members.{IsIn}
use Rattle.m3_model.specs.declared.act.Act.{Act}
use Rattle.m3_model.specs.declared.act.Act.TheVariants as act
use Rattle.m3_model.specs.declared.answer.Answer.{Answer}
use Rattle.m3_model.specs.declared.answer.Answer.TheVariants as answer
use Rattle.m3_model.specs.declared.placement.Assignment.{Assignment}
use Rattle.m3_model.specs.declared.placement.Instance.{Instance}
use Rattle.m3_model.specs.declared.placement.Placement.{Placement}
use Rattle.m3_model.specs.declared.reason.Reason.{Reason}
use Rattle.m3_model.specs.declared.reason.Reason.TheVariants as reason
use Rattle.m3_model.specs.declared.rules.MetaState.{MetaState}
use Rattle.m3_model.specs.declared.turn.Request.{Request}
use Rattle.m3_model.specs.declared.turn.Turn.{Turn}
use Rattle.placement_core.specs.Lawful.{IsLawful}
use Rattle.placement_core.specs.Shards.{Shard, former, holders, is_holder, is_steady, nodes_of, shard_at}
use Rattle.placement_core.proofs.HolderLemmas.{chosen_node}
use Rattle.cluster_core.specs.Legal.{Legal}
use Rattle.cluster_core.specs.declared.event.Event.{Event}
use Rattle.cluster_core.specs.declared.event.Event.TheVariants as event
use Rattle.cluster_core.specs.declared.event.StepCall.{StepCall}
use Rattle.cluster_core.specs.declared.event.StepCall.TheVariants as call
use Rattle.cluster_core.specs.declared.event.StepReply.TheVariants as reply
use Rattle.transcripts.specs.Caused.{Caused, CausedAt, HadBefore, IsDueBy, IsOwn, refusal_after}
use Rattle.transcripts.specs.Deliveries.{LateMessage}
use Rattle.transcripts.specs.Fates.{IsRunningAt, OfNode, is_stopped}
use Rattle.transcripts.specs.Faults.{Damaged, Failing, Fault, Taking}
use Rattle.transcripts.specs.Levels.{MissesLevel}
use Rattle.transcripts.specs.Peers.{IsJoinedBy, IsJoinedWith, IsUnjoined, MissesMajority}
use Rattle.transcripts.specs.Placements.{MayStand, printed}
use Rattle.transcripts.specs.Record.{Record, TurnPosition, IsTurnPosition, inner_turns}
use Rattle.transcripts.specs.Waiting.{IsBegunFor, idles_after}
use Rattle.transcripts.specs.Sweeps.{IsSwept, IsSweptOver}
use Rattle.transcripts.proofs.MoreFaults.{AreAmong, break_more, different_both, kept_up_more, own_more, step_more}
use Rattle.transcripts.proofs.SweepLemmas.{done_entry, entry_slot, failed_entry}
use Rattle.told_by.specs.Hears.{Happens, HearsBy, HearsPeers, HearsSwept, InStretch, IsNamedBy, IsRestartCall, IsSweepCall}
use Rattle.told_by.specs.Openings.{opening_length}
use Rattle.told_by.specs.Told.{ToldBy}
use Rattle.told_by.proofs.LineLemmas.{line_below}
use Rattle.told_causes.specs.Boot.{IsBootAct}
use Rattle.told_causes.specs.Calls.{IsKnownCall, Within}
use Rattle.told_causes.specs.Deliveries.{IsKnownDelivery}
use Rattle.told_causes.specs.Faults.{fault_of, faults_told}
use Rattle.told_causes.specs.Nodes.{AreReached, NamesReplica}
use Rattle.told_causes.specs.Peers.{IsKnownStream}
use Rattle.told_causes.specs.Standing.{HaltsAlone}
use Rattle.told_causes.specs.Sweeps.{IsKnownSweep, IsSweepAct}
use Rattle.told_causes.proofs.CallLemmas.{acks_said}
use Rattle.told_causes.proofs.DeliverLemmas.{outcomes_said}
use Rattle.told_causes.proofs.FaultLemmas.{faults_different, faults_steps}
use Rattle.told_causes.proofs.HaltLemmas.{take_cut}
use Rattle.told_causes.proofs.LevelLemmas.{fetch_said, match_said, too_few_said}
use Rattle.told_causes.proofs.NodeLemmas.{node_answers}
use Rattle.told_causes.proofs.PeerLemmas.{peers_said}
use Rattle.told_causes.proofs.RunLemmas.{sweep_begun, sweep_serves, who_serves}
use Rattle.told_causes.proofs.StoodLemmas.{may_stand}
use Rattle.told_causes.proofs.SweepLemmas.{sweeps_said}
use Rattle.told_causes.proofs.WaitLemmas.{shard_is, shard_there}
use Rattle.told_moves.specs.Order.{IsInOrder}
use Rattle.told_runs.specs.Answers.{AreAnswered, Delivers, HearsFenced, HearsOf, IsAnswered, IsDecidedBy, IsOfKind}
use Rattle.told_runs.specs.Bounds.{IsBounded}
use Rattle.told_runs.proofs.BoundLemmas.{full_by_many}
use Rattle.told_runs.proofs.FormerLemmas.{fenced_serves, former_named}
use Rattle.told_runs.proofs.MemberLemmas.{had_before}
use Rattle.told_runs.proofs.UsedLemmas.{used_known}

-- What is known of the calls, the deliveries, the sweeps and the streams of a run.
pub record AreKnown (tells : Bool) (start : Option MetaState) (turns : List Turn) (events : List Event) (told : ToldBy start turns events) : Type 0 where
  pub calls : (p : TurnPosition) → IsTurnPosition turns p → IsTrue (is_call p.turn.act) → printed p.turn.answer ≡ None → IsKnownCall tells start turns events told p
  pub deliveries : (p : TurnPosition) → IsTurnPosition turns p → p.turn.act ≡ act.Deliver → printed p.turn.answer ≡ None → IsKnownDelivery tells start turns events told p
  pub sweeps : (p : TurnPosition) → IsTurnPosition turns p → IsSweepAct p.turn.act → printed p.turn.answer ≡ None → (place : Placement) → MayStand start p place → IsKnownSweep tells start turns events told p place
  pub streams : (p : TurnPosition) → IsTurnPosition turns p → IsBootAct p.turn.act → printed p.turn.answer ≡ None → (place moving : Placement) → MayStand start p place → MayStand start p moving → (shard version : ℕ) → IsJoinedWith moving shard version → IsKnownStream tells start turns events told p place shard version

module _ {tells : Bool} (taking : List Fault) (start : Option MetaState) (turns : List Turn) (events : List Event) (legal : Legal tells events) (told : ToldBy start turns events) (order : IsInOrder start turns events told) (halts : HaltsAlone turns) (known : AreKnown tells start turns events told) where
  abbrev told_faults : List Fault
  told_faults = faults_told told.ends events (length turns)

  abbrev all_faults : List Fault
  all_faults = taking ++ told_faults

  told_among : AreAmong told_faults all_faults
  told_among f m = IsIn-append_right taking told_faults f m

  taking_among : AreAmong taking all_faults
  taking_among f m = IsIn-append_left taking told_faults f m

  -- the slots that a restart answers `disk` for had a replica
  restart_reached : (p : TurnPosition) → IsTurnPosition turns p → printed p.turn.answer ≡ None → (shard : ℕ) (a : Act) → AreReached start (Within events told.spans p) p a shard
  restart_reached p at quiet shard (act.Restart name pick) = λ n h. by n h.0 h.1 (h.2).0 (h.2).1
    where
      by : (n : ℕ) (c : StepCall) → IsRestartCall c → (i : ℕ) → InStretch events ((told.spans).from p) ((told.spans).to p) i (event.Step n shard c (reply.Refused reason.Disk)) → HadBefore start p shard n
      by n call.Restart kind i here = had_before start turns events legal told order p at quiet i n shard (reply.Refused reason.Disk) (omega (arith, here.1, (told.lines).high p at)) here.2
      by n _ kind i here = absurd kind
  restart_reached p at quiet shard _ = tt

  -- a restart or a bootstrap that was refused for a disk or for files
  of_node : (p : TurnPosition) → IsTurnPosition turns p → (a : Act) (b : Answer) → p.turn.act ≡ a → p.turn.answer ≡ b → printed b ≡ None → (shard : ℕ) → NamesReplica a b shard → (messages : List LateMessage) → IsOwn tells all_faults start messages p a b
  of_node p at a b acts answers quiet shard names messages =
      let names_it : NamesReplica p.turn.act p.turn.answer shard = subst (λ x. NamesReplica x p.turn.answer shard) (sym acts) (subst (λ y. NamesReplica a y shard) (sym answers) names) in
      let own = node_answers start turns events legal told order.places p at shard names_it (restart_reached p at (ap printed answers ∙ quiet) shard p.turn.act) messages in
      own_more tells told_faults all_faults told_among start messages p a b (subst (λ x. IsOwn tells told_faults start messages p x b) acts (subst (λ y. IsOwn tells told_faults start messages p p.turn.act y) answers own))

  call_known : (p : TurnPosition) → IsTurnPosition turns p → (a : Act) (b : Answer) → p.turn.act ≡ a → p.turn.answer ≡ b → IsTrue (is_call a) → printed b ≡ None → IsKnownCall tells start turns events told p
  call_known p at a b acts answers calls quiet = known.calls p at (subst (λ x. IsTrue (is_call x)) (sym acts) calls) (ap printed answers ∙ quiet)

  -- a call that was refused for its level
  of_level : (p : TurnPosition) → IsTurnPosition turns p → (a : Act) → p.turn.act ≡ a → IsTrue (is_call a) → (got needed : ℕ) (reasons : List (ℕ × Reason)) (shard : ℕ) → p.turn.answer ≡ answer.Consistency got needed reasons shard → MissesLevel tells told_faults start p got needed reasons shard
  of_level p at a acts calls got needed reasons shard answers = too_few_said start turns events told p (call_known p at a (answer.Consistency got needed reasons shard) acts answers calls refl) got needed reasons shard answers

  -- a sweep over the members of a placement
  of_sweep : (p : TurnPosition) → IsTurnPosition turns p → (a : Act) (done : List (ℕ × ℕ × ℕ)) (failed : List (ℕ × ℕ × Reason)) → p.turn.act ≡ a → p.turn.answer ≡ answer.Swept done failed → IsSweepAct a → IsSweptOver start p done failed → IsSwept tells all_faults start p done failed
  of_sweep p at a done failed acts answers sweeps over =
      let hears : HearsSwept (Within events told.spans p) (IsSweepCall p.turn.act) done failed =
      subst (λ b. HearsBy start (take ((told.spans).from p) events) (Within events told.spans p) p p.turn.act b) answers ((told.tells).hears p at) in
      let k = known.sweeps p at (subst IsSweepAct (sym acts) sweeps) (ap printed answers) over.place over.stands in
      record {
        over = over;
        running = λ x m.
            let e = done_entry over.entries x (subst (λ xs. IsIn xs x) over.done_are m) in
            let among = ((over.members).each x.0 x.1).0 (entry_slot over.entries e.entry x.0 x.1 e.among e.node_is e.shard_is) in
            let steady = (k.explained x.1 x.0 among).0 in
            let step = hears.counted x m in
            let runs = who_serves start turns events legal told halts p at x.0 x.1 steady.name steady.everywhere step.0 (reply.Count x.2) (sweep_serves p.turn.act step.0 step.1 x.2) step.2 in
            record { instance_ = (steady.named).instance_; stands = (steady.named).stands; holds = ap (is_stopped (inner_turns p.lines)) (steady.named).holds ∙ runs };
        begun = λ x m.
            let e = done_entry over.entries x (subst (λ xs. IsIn xs x) over.done_are m) in
            let among = ((over.members).each x.0 x.1).0 (entry_slot over.entries e.entry x.0 x.1 e.among e.node_is e.shard_is) in
            let steady = (k.explained x.1 x.0 among).0 in
            let step = hears.counted x m in
            let woken = sweep_begun start turns events legal told halts p at x.0 x.1 steady.name steady.everywhere step.0 step.1 x.2 step.2 in
            record {
              instance_ = (steady.named).instance_;
              stands = (steady.named).stands;
              holds = ap (λ own. idles_after (record { shard = x.1; node = x.0; name = own }) start (inner_turns p.lines ++ (p.earlier ++ p.beside))) (steady.named).holds ∙ woken;
            };
        refused = λ x m.
            let e = failed_entry over.entries x (subst (λ xs. IsIn xs x) over.failed_are m) in
            let among = ((over.members).each x.0 x.1).0 (entry_slot over.entries e.entry x.0 x.1 e.among e.node_is e.shard_is) in
            kept_up_more tells told_faults all_faults told_among start p over.place x.1 x.0 x.2 (sweeps_said start turns events told p over.place k x.1 x.0 among x.2 (hears.refused x m));
      }

  -- a bootstrap that missed a majority
  former_node : (shard : Shard) (n : ℕ) → IsIn (former shard) n → IsIn (nodes_of shard) n
  former_node shard n m = by (is_steady shard) m
    where
      by : (steady : Bool) → IsIn (if steady then [] else holders shard) n → IsIn (nodes_of shard) n
      by true none = absurd none
      by false among = let x = chosen_node is_holder shard n among in subst (IsIn (nodes_of shard)) (x.2) (map-IsIn (λ (a : Assignment). a.node) shard x.0 x.1)

  -- one that has no reason was fenced, so its node runs, and its replica was begun
  streamed : (p : TurnPosition) → IsTurnPosition turns p → (name : List ℕ) (asked : Option ℕ) → p.turn.act ≡ act.Bootstrap name asked → (place : Placement) → IsLawful place → (shard version : ℕ) (joins : IsJoinedBy place name asked shard)
      → IsKnownStream tells start turns events told p place shard version → (reasons : List (ℕ × Reason))
      → ((node : ℕ) → IsIn (former (shard_at place shard)) node → (IsIn (map (λ r. r.0) reasons) node → ⊥) → (v : ℕ) × Happens (Within events told.spans p) (event.Step node shard (call.Fence v) reply.Done))
      → (node : ℕ) → IsIn (former (shard_at place shard)) node → (IsIn (map (λ r. r.0) reasons) node → ⊥) → IsRunningAt p place node × IsBegunFor start p place shard node
  streamed p at name asked acts place lawful shard version joins k reasons fenced node among unnamed =
      let there = shard_there place.shards shard joins.joining joins.among in
      let steady = (k.explained node (former_node (shard_at place shard) node among)).0 in
      let one = (steady.named).instance_ in
      let own : OfNode place (joins.joining).node (λ own. own ≡ name) = subst (λ n. OfNode place n (λ own. own ≡ name)) (sym joins.of_node) joins.named in
      let other = former_named place lawful shard (shard_at place shard) there joins.joining joins.among joins.is_joining name own node among one (steady.named).stands in
      let everywhere = subst (IsNamedBy events node) (sym (steady.named).holds) steady.everywhere in
      let step = fenced node among unnamed in
      fenced_serves start turns events legal told halts p at name asked acts place node shard one (steady.named).stands everywhere other step.0 step.1

  of_peers : (p : TurnPosition) → IsTurnPosition turns p → (node : List ℕ) (asked : Option ℕ) (got needed : ℕ) (reasons : List (ℕ × Reason)) (shard : ℕ) → p.turn.act ≡ act.Bootstrap node asked → p.turn.answer ≡ answer.Peers got needed reasons shard
      → HearsFenced start (Within events told.spans p) p reasons shard → MissesMajority start p node asked got needed reasons shard → IsUnjoined tells all_faults start p node asked got needed reasons shard
  of_peers p at node asked got needed reasons shard acts answers fenced misses =
      let hears : HearsPeers (take ((told.spans).from p) events) (Within events told.spans p) shard reasons =
      subst (λ b. HearsBy start (take ((told.spans).from p) events) (Within events told.spans p) p p.turn.act b) answers ((told.tells).hears p at) in
      let prints : printed p.turn.answer ≡ None = ap printed answers in
      let moving = may_stand start turns events legal told order.places p at prints ((told.spans).from p) (omega arith) ((told.tells).order.not_back p at) hears.place hears.last in
      let joins : IsJoinedWith hears.place shard (hears.joining).tenure =
      record { joining = hears.joining; among = subst (λ xs. IsIn xs hears.joining) (sym (shard_is (hears.place).shards shard hears.assignments hears.there)) hears.among; is_joining = hears.is_joining; tenure_is = refl } in
      let k = known.streams p at (subst IsBootAct (sym acts) tt) prints misses.place hears.place misses.stands moving shard (hears.joining).tenure joins in
      let known = used_known start turns events legal told order p at prints None misses.place misses.stands in
      record {
        misses = misses;
        streamed = streamed p at node asked acts misses.place (order.lawful known.place_at misses.place known.done known.there) shard (hears.joining).tenure misses.joins k reasons (fenced misses.place misses.stands);
        refused = λ r m. break_more tells told_faults all_faults told_among start p misses.place shard r.0 r.1
            (peers_said start turns events told p misses.place shard (hears.joining).tenure k r.0 (former_node (shard_at misses.place shard) r.0 (misses.of_former r m)) r.1 (hears.heard r m));
      }

  -- the answer is the act's own
  own_by : (p : TurnPosition) → IsTurnPosition turns p → (a : Act) (b : Answer) → p.turn.act ≡ a → p.turn.answer ≡ b → (messages : List LateMessage) → HearsOf start (Within events told.spans p) p messages b → IsOfKind taking start p a b
      → IsOwn tells all_faults start messages p a b
  own_by p at (act.Init rf shards seed nodes) (answer.Placed place version) acts answers messages h kind = kind
  own_by p at (act.Init rf shards seed nodes) (answer.Group shard) acts answers messages h kind = kind
  own_by p at (act.Init rf shards seed nodes) (answer.Disk name shard) acts answers messages h kind = own_more tells taking all_faults taking_among start messages p (act.Init rf shards seed nodes) (answer.Disk name shard) kind
  own_by p at (act.Namespace name block past future retention) answer.Done acts answers messages h kind = tt
  own_by p at (act.Now now) answer.Done acts answers messages h kind = tt
  own_by p at (act.Fates list) answer.Done acts answers messages h kind = tt
  own_by p at act.Deliver (answer.Outcomes outcomes) acts answers messages h kind =
      own_more tells told_faults all_faults told_among start messages p act.Deliver (answer.Outcomes outcomes) (outcomes_said start turns events told p (known.deliveries p at acts (ap printed answers)) outcomes (record { messages = messages; in_order = h.0; each = h.1 }))
  own_by p at (act.Stop node) answer.Done acts answers messages h kind = tt
  own_by p at (act.Restart node pick) answer.Done acts answers messages h kind = tt
  own_by p at (act.Restart node pick) (answer.Disk name shard) acts answers messages h kind = of_node p at (act.Restart node pick) (answer.Disk name shard) acts answers refl shard refl messages
  own_by p at (act.Bootstrap node asked) (answer.Available available place version) acts answers messages h kind = kind
  own_by p at (act.Bootstrap node asked) (answer.Disk name shard) acts answers messages h kind = of_node p at (act.Bootstrap node asked) (answer.Disk name shard) acts answers refl shard refl messages
  own_by p at (act.Bootstrap node asked) (answer.Peers got needed reasons shard) acts answers messages h kind = of_peers p at node asked got needed reasons shard acts answers h kind
  own_by p at (act.Bootstrap node asked) (answer.Limit limit) acts answers messages h kind = kind
  own_by p at (act.Bootstrap node asked) (answer.Corrupt name shard damage) acts answers messages h kind = of_node p at (act.Bootstrap node asked) (answer.Corrupt name shard damage) acts answers refl shard refl messages
  own_by p at (act.Add node group) b acts answers messages h kind = step_more taking all_faults taking_among start p (act.Add node group) b kind
  own_by p at (act.Drain node) b acts answers messages h kind = step_more taking all_faults taking_among start p (act.Drain node) b kind
  own_by p at (act.Cancel node) b acts answers messages h kind = step_more taking all_faults taking_among start p (act.Cancel node) b kind
  own_by p at (act.Remove node) b acts answers messages h kind = step_more taking all_faults taking_among start p (act.Remove node) b kind
  own_by p at (act.Replace node by group) b acts answers messages h kind = step_more taking all_faults taking_among start p (act.Replace node by group) b kind
  own_by p at (act.Write ns id t v level version) (answer.Acks nodes) acts answers messages h kind =
      acks_said start turns events legal told p at halts (call_known p at (act.Write ns id t v level version) (answer.Acks nodes) acts answers refl refl).named ns id t v level version nodes acts answers
  own_by p at (act.Write ns id t v level version) (answer.Consistency got needed reasons shard) acts answers messages h kind =
      own_more tells told_faults all_faults told_among start messages p (act.Write ns id t v level version) (answer.Consistency got needed reasons shard) (of_level p at (act.Write ns id t v level version) acts refl got needed reasons shard answers)
  own_by p at (act.Fetch ns id from to level version) (answer.Found series short) acts answers messages h kind =
      let call = call_known p at (act.Fetch ns id from to level version) (answer.Found series short) acts answers refl refl in
      own_more tells told_faults all_faults told_among start messages p (act.Fetch ns id from to level version) (answer.Found series short) (fetch_said start turns events told p call ns id from to level version series short acts answers)
  own_by p at (act.Fetch ns id from to level version) (answer.Consistency got needed reasons shard) acts answers messages h kind =
      own_more tells told_faults all_faults told_among start messages p (act.Fetch ns id from to level version) (answer.Consistency got needed reasons shard) (of_level p at (act.Fetch ns id from to level version) acts refl got needed reasons shard answers)
  own_by p at (act.Match ns wanted from to level version) (answer.Found series short) acts answers messages h kind =
      let call = call_known p at (act.Match ns wanted from to level version) (answer.Found series short) acts answers refl refl in
      own_more tells told_faults all_faults told_among start messages p (act.Match ns wanted from to level version) (answer.Found series short) (match_said start turns events told p call ns wanted from to level version series short acts answers)
  own_by p at (act.Match ns wanted from to level version) (answer.Consistency got needed reasons shard) acts answers messages h kind =
      own_more tells told_faults all_faults told_among start messages p (act.Match ns wanted from to level version) (answer.Consistency got needed reasons shard) (of_level p at (act.Match ns wanted from to level version) acts refl got needed reasons shard answers)
  own_by p at act.Tick (answer.Swept done failed) acts answers messages h kind = of_sweep p at act.Tick done failed acts answers tt kind
  own_by p at act.Flush (answer.Swept done failed) acts answers messages h kind = of_sweep p at act.Flush done failed acts answers tt kind
  own_by p at act.Snapshot (answer.Swept done failed) acts answers messages h kind = of_sweep p at act.Snapshot done failed acts answers tt kind
  own_by p at act.Status (answer.Status now lines version) acts answers messages h kind = kind
  own_by p at _ _ acts answers messages h kind = absurd kind

  due_by : (p : TurnPosition) → IsTurnPosition turns p → (messages : List LateMessage) → Delivers start events told.spans p messages → (o : Option Answer) → IsDecidedBy taking start p o → IsDueBy tells all_faults start messages p o
  due_by p at messages heard (Some refusal) h = h
  due_by p at messages heard None h = own_by p at p.turn.act p.turn.answer refl refl messages heard h

  module _ (past : List Record) (bounded : tells ≡ true → IsBounded past turns told.ends) where
    caused_at : (p : TurnPosition) → IsTurnPosition turns p → (messages : List LateMessage) → Delivers start events told.spans p messages → IsAnswered taking start ((told.spans).to p) p → CausedAt tells all_faults past start messages p
    caused_at p at messages heard (inl memory) = inl memory
    caused_at p at messages heard (inr (inl full)) =
        let less : length p.lines < length turns = line_below turns p at in
        let lines : take (suc (length p.lines)) turns ≡ p.lines ++ p.line ∷ [] = ap (take (suc (length p.lines))) at.in_run ∙ take_cut p.lines p.line at.after in
        inr (inl (full.0, λ is. full_by_many past turns told.ends (bounded is) first p lines less ((told.spans).to p) ((told.lines).high p at) full.1))
      where
        first_low : (o : Option MetaState) → opening_length o ≤ 2
        first_low None = omega arith
        first_low (Some state) = omega arith

        first : told.ends 0 ≤ 2
        first = omega (arith, (told.lines).first, first_low start)
    caused_at p at messages heard (inr (inr decided)) = inr (inr (decided.0, decided.1, due_by p at messages heard (refusal_after start p decided.0) decided.2))

    pub caused : (unanswered : Option Request) (delivered : TurnPosition → List LateMessage) → AreAnswered taking delivered start turns events told → Caused tells (record { past = past; present = record { start = start; turns = turns; unanswered = unanswered } }) all_faults
    caused unanswered delivered answers = record {
      different = different_both taking told_faults answers.different (faults_different told.ends events (length turns)) (λ f m n. taken_and_told f (answers.untaken f m).0 n);
      delivered = delivered;
      each = λ p at. caused_at p at (delivered p) (answers.delivers p at) (answers.each p at);
      once = answers.once;
      whole = answers.whole;
    }
      where
        -- a step tells of no disk that couldn't be taken
        by_event : (line : ℕ) (e : Event) (f : Fault) → fault_of line e ≡ Some f → f.kind ≡ Taking → ⊥
        by_event line (event.Step n s c (reply.Refused reason.Disk)) f tells kind = let bad : Failing ≡ Taking = ap (λ (g : Fault). g.kind) (same_Some _ f tells) ∙ kind in cc
        by_event line (event.Step n s c (reply.Refused (reason.Corrupt harm))) f tells kind = let bad : Damaged ≡ Taking = ap (λ (g : Fault). g.kind) (same_Some _ f tells) ∙ kind in cc
        by_event line _ f tells kind = cc

        taken_and_told : (f : Fault) → f.kind ≡ Taking → IsIn told_faults f → ⊥
        taken_and_told f kind m = let t = faults_steps told.ends events (length turns) f m in by_event f.line t.e f t.tells kind
