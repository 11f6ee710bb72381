-- The line of a write.
use Rattle.std.proofs.Common.{◌≡◌, ◌<◌, ℕ, ℤ, List, [], ◌∷◌, ◌++◌, length, take, refl, sym, ap, ◌∙◌, subst, inl, inr, Bool, true}
use Rattle.std.specs.Prelude.{◌⊎◌, Option, Some, option_map}
use Rattle.m3_model.specs.Rules.{namespace_position}
use Rattle.m3_model.specs.declared.act.Act.{Act}
use Rattle.m3_model.specs.declared.act.Act.TheVariants as act
use Rattle.m3_model.specs.declared.act.WriteLevel.{WriteLevel}
use Rattle.m3_model.specs.declared.answer.Answer.{Answer}
use Rattle.m3_model.specs.declared.answer.Answer.TheVariants as answer
use Rattle.m3_model.specs.declared.placement.Placement.{Placement}
use Rattle.m3_model.specs.declared.point.Point.{Point}
use Rattle.m3_model.specs.declared.reason.Reason.{Reason}
use Rattle.m3_model.specs.declared.rules.MetaState.{MetaState}
use Rattle.m3_model.specs.declared.turn.Turn.{Turn}
use Rattle.m3_model.proofs.Lists.{take_whole}
use Rattle.m3_outside.specs.Depots.{Depot}
use Rattle.m3_outside.specs.DiskState.{DiskState, IsLawfulDisk}
use Rattle.m3_outside.specs.declared.disk.Disk.{Ghosts}
use Rattle.cluster_core.specs.Legal.{Legal}
use Rattle.cluster_core.specs.declared.event.Event.{Event}
use Rattle.placement_core.specs.Shards.{Shard, nodes_of}
use Rattle.node_calls.specs.replica_exchange.declared.call_id.CallId.{CallId}
use Rattle.node_calls.specs.session_net.Calls.{Tracked}
use Rattle.node_calls.specs.session_net.Runs.{Ran}
use Rattle.node_calls.specs.session_net.Writes.{AreMembers, IsAcknowledged, IsRefused, IsUnmet, IsUnsent, bag_after, shard_of_point}
use Rattle.node_calls.specs.session_net.declared.net.Net.{Net}
use Rattle.node_calls.specs.session_net.declared.session_err.SessionErr.TheVariants as err
use Rattle.transcripts.specs.Points.{was_sent}
use Rattle.transcripts.specs.Record.{Record, line_of}
use Rattle.told_runs.specs.told_by.Lines.{WriteLine}
use Rattle.line_tracks.specs.calls.Laws.{IsNotRefused, IsWrite, LeavesLine}
use Rattle.line_tracks.specs.calls.Left.{NetIsLeftBy}
use Rattle.line_tracks.proofs.calls.KeepLemmas.{left_by_write}
use Rattle.line_tracks.proofs.calls.WriteLemmas.{acked_tells, unmet_tells, unsent_tells}
use Rattle.node_calls.specs.cluster_members.Calls.{IsWriteAnswer, IsWritten, KeepsCluster, NamedPoint, placed}
use Rattle.node_calls.specs.cluster_members.Kept.{IsBy, Uses}
use Rattle.node_calls.specs.cluster_members.Steps.{spaces_in}
use Rattle.node_calls.specs.cluster_members.declared.members.Members.{Members}
use Rattle.line_tracks.specs.acts.Quiet.{DeliversNone, SetsNone}
use Rattle.line_tracks.specs.acts.Settings.{LeavesNothing}
use Rattle.line_tracks.proofs.acts.NothingLemmas.{full_write_tells}
use Rattle.line_tracks.proofs.acts.QuietLemmas.{delivers_nothing_so, sets_nothing_so}
use Rattle.line_tracks.specs.tracks.Numbers.{last_number, numbers_by}
use Rattle.line_tracks.specs.tracks.Tracks.{Tracks}
use Rattle.line_tracks.proofs.tracks.StepLemmas.{write_on}
use Rattle.line_tracks.specs.tracks.Acts.{Does, next_call}
use Rattle.line_tracks.specs.tracks.Lines.{IsLeft, MayGoOn, WritesAreTracked}
use Rattle.line_tracks.proofs.tracks.CallLemmas.{left_due, left_so, missing_on, next_is, stays_on, told_on, wanted_on}
use Rattle.line_tracks.proofs.tracks.KeptLemmas.{callable_so, is_known, line_so, ran_so, usable_so}
use Rattle.line_tracks.proofs.tracks.SharedLemmas.{memory_tells}

module _ {D : Type 0} {G : Ghosts D} (state : D → DiskState) (lawful : (d : D) → IsLawfulDisk (state d)) (m : Members D G) (ns id : List ℕ) (t : ℕ) (v : ℤ) (level : WriteLevel) (version : Option ℕ)
    (tells : Bool) (past : List Record) (start : Option MetaState) (first now : Depot D) (turns : List Turn) (calls : List ℕ) (on : MayGoOn state tells past start first now turns calls m) (g : Members D G) (is_left : IsLeft tells g) where
  abbrev a : Act
  a = act.Write ns id t v level version

  abbrev call : CallId
  call = next_call calls

  abbrev named : NamedPoint
  named = record { ns = ns; id = id; t = t; v = v }

  abbrev IsTracked : Answer → Type 0
  IsTracked b = Tracks state tells past start first now (turns ++ line_of a b ∷ []) (Some g) (numbers_by a b calls)

  module _ (position : ℕ) (found : namespace_position ns (spaces_in m) ≡ Some position) (low : call.number < last_number) (keeps : KeepsCluster m g)
      (place : Placement) (uses : Uses m.net.state.place m.past.items version place) (before after : Net D G) (began : IsBy place m.net before) (ended : IsBy place g.net after) where
    abbrev point : Point
    point = placed named position

    abbrev events : List Event
    events = m.net.replicas.events

    same_events : before.replicas.events ≡ events
    same_events = ap (λ (t : Tracked D). t.events) began.replicas

    is_write : IsWrite start turns before call a point level
    is_write = record {
      version = version;
      left = usable_so m start turns on.tracks.after.stands version place uses before began;
      ready = callable_so m start turns on.tracks.after.stands version place uses before began;
      next = next_is state m tells past start first now turns calls on low;
      ns = ns;
      name = id;
      t = t;
      v = v;
      act_is = refl;
      of_act = ap (λ (s : MetaState). option_map (λ k. placed named k) (namespace_position ns s.rules.spaces)) began.state ∙ ap (option_map (λ k. placed named k)) found;
    }

    free : (b : Answer) → IsNotRefused start turns a b
    free b = ((left_due state m tells past start first now turns calls on).write ns id t v level version b).free position found (is_known m start turns on.tracks.after.stands version place uses)

    -- what is left where it was sent: the late ones of its messages to some first members came to the bag
    sent_left : (b : Answer) → SetsNone b → DeliversNone b → was_sent b ≡ true → (members : Shard) (k : ℕ) → AreMembers before.state.place (shard_of_point before.state point) members
        → after.bag ≡ bag_after before call point (nodes_of (take k members)) → NetIsLeftBy start (turns ++ line_of a b ∷ []) g.net
    sent_left b sets delivers sent members k are bag =
        left_by_write before start turns m.net g.net call a b point level members k is_write (left_so state m tells past start first now turns calls on) (record { state = keeps.state; fates = keeps.fates }) (sets_nothing_so a b sets) sent (delivers_nothing_so a b delivers) are
        (sym ended.bag ∙ bag)

    -- or to all of them
    all_sent : (members : Shard) → after.bag ≡ bag_after before call point (nodes_of members) → after.bag ≡ bag_after before call point (nodes_of (take (length members) members))
    all_sent members bag = bag ∙ ap (λ (xs : Shard). bag_after before call point (nodes_of xs)) (sym (take_whole members))

    -- what came tells of the line
    told : (b : Answer) → SetsNone b → LeavesLine WriteLine start turns [] before a b after → (more : List Event) → Ran state before.replicas more after.replicas → NetIsLeftBy start (turns ++ line_of a b ∷ []) g.net → IsTracked b
    told b sets line more ran left =
        told_on state m tells past start first now turns calls on lawful a b g is_left sets (λ opens. opens) keeps WriteLine (write_on state (Some m)) (λ more made. made.makes)
        (line_so m.net before after g.net began.replicas ended.replicas WriteLine start turns [] a b line) (free b) more (ran_so m.net before after g.net began.replicas ended.replicas state more ran) left

    acked : (acks : List ℕ) → IsAcknowledged state before call point level acks after → IsTracked (answer.Acks acks)
    acked acks h =
        let members = h.sent.members in
        told (answer.Acks acks) tt (acked_tells state before start turns after call a point level acks is_write h) _ h.ran (sent_left (answer.Acks acks) tt tt refl members (length members) h.is_sent.members (all_sent members h.bag))

    legal_after : Legal tells after.replicas.events
    legal_after = subst (Legal tells) (ap (λ (t : Tracked D). t.events) (sym ended.replicas)) is_left.legal

    unmet : (got needed : ℕ) (reasons : List (ℕ × Reason)) (shard : ℕ) → IsUnmet state before call point level shard needed got reasons after → IsTracked (answer.Consistency got needed reasons shard)
    unmet got needed reasons shard h =
        let b : Answer = answer.Consistency got needed reasons shard in
        let members = h.sent.members in
        told b tt (unmet_tells state before tells start turns after call a point level shard needed got reasons is_write legal_after h) _ h.ran (sent_left b tt tt refl members (length members) h.is_sent.members (all_sent members h.bag))

    unsent : IsUnsent state before call point after → IsTracked answer.Memory
    unsent h = told answer.Memory tt (unsent_tells state before start turns after call a point level is_write h) _ h.ran (sent_left answer.Memory tt tt refl h.members h.k h.are h.bag)

    -- nothing changed
    stayed : (b : Answer) → SetsNone b → after ≡ before → LeavesNothing start turns before.replicas.events a b → IsTracked b
    stayed b sets same nothing =
        stays_on state m tells past start first now turns calls on lawful a b g is_left sets (λ opens. opens) keeps (sym ended.replicas ∙ ap (λ (n : Net D G). n.replicas) same ∙ began.replicas) (sym ended.bag ∙ ap (λ (n : Net D G). n.bag) same ∙ began.bag)
        (subst (λ es. LeavesNothing start turns es a b) same_events nothing)

    wanted : (after ≡ before) ⊎ IsUnsent state before call point after → IsTracked answer.Memory
    wanted (inl same) = stayed answer.Memory tt same (memory_tells start turns before.replicas.events a)
    wanted (inr h) = unsent h

    full : IsRefused state before call point level after err.Full → IsTracked answer.Full
    full h = stayed answer.Full tt h.0 (full_write_tells state before start turns a call point level after is_write.ready h)

    put : (b : Answer) → IsWriteAnswer state before call point level b after → IsTracked b
    put (answer.Acks acks) h = acked acks h
    put (answer.Consistency got needed reasons shard) h = unmet got needed reasons shard h
    put answer.Memory h = wanted h
    put answer.Full h = full h
    put _ h = absurd h

  written : (b : Answer) → call.number < last_number → IsWritten state m call named level version b g → IsTracked b
  written b low (inl missing) = missing_on state m tells past start first now turns calls on a b g ns version ((left_due state m tells past start first now turns calls on).write ns id t v level version b) missing
  written b low (inr h) = let went = h.answers in put h.position h.found low h.keeps went.place went.uses went.before went.after went.began went.ended b went.made

  does : (b : Answer) → Does state call m a b g → IsTracked b
  does b (inl h) = written b h.0 h.1
  does b (inr none) = wanted_on state m tells past start first now turns calls on a b g none.2 none.1

pub writes_are_tracked : {D : Type 0} {G : Ghosts D} (state : D → DiskState) → ((d : D) → IsLawfulDisk (state d)) → (m : Members D G) → WritesAreTracked state m
writes_are_tracked state lawful m ns id t v level version tells past start first now turns calls b g on is_left h = does state lawful m ns id t v level version tells past start first now turns calls on g is_left b h
